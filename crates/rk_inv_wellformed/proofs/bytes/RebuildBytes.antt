-- How many bytes a master has after a Rebuild and after a Copy: no more than before, the copies of what was read, once for each member of
-- the lineage, and a closing entry.
use Rattle.std.proofs.Common.{◌≡◌, ◌≤◌, ◌+◌, ◌==◌, ◌&&◌, ℕ, Bool, true, cond, not, List, [], ◌∷◌, length, Option, None, Some, refl, sym}
use Rattle.std.proofs.Common.{ap, ◌∙◌, arith, w64, option_map, nat_lt, unwrap_or, eq-eqb, false, ◌++◌, filter, map}
use Rattle.std.proofs.Common.{subst, ⊎_elim, Contains, bytes_eq, flat_map, sum_by, Less, Greater}
use Rattle.rk_inv_wellformed.proofs.Words.{cond-true, in_order_changed, spelled_of, IsInOrder, NumberMap, get, get_or, meets, Held, Member}
use Rattle.rk_inv_wellformed.proofs.Words.{Range, held_spelled, IsNumber, Entry, completions_from, ends_of, Handover, CopySegment, Rebuild}
use Rattle.rk_inv_wellformed.proofs.Words.{IsFormedMaster, MOST_BASE_CLIENTS, by_member, is_awaited, next_reading, given_up, is_greater}
use Rattle.rk_inv_wellformed.proofs.Words.{with_others_given_up, IsFormedCopy, IsFormedRebuild, Limits, own_member, Master, log_bytes}
use Rattle.rk_inv_wellformed.proofs.Words.{tablet_at, unsealed_bytes, with_all, with_appended, as_entries, merge, MOST_CLIENTS}
use Rattle.rk_inv_wellformed.proofs.Words.{is_gathering, Tablet, no_tablet, pulling_from, changed, Merged, gather_begun, LONGEST_LEFT}
use Rattle.rk_inv_wellformed.proofs.Words.{copied_bytes, cond_both, Worked, flat_map-append, All-contains_itself, All-contains, All-filter}
use Rattle.rk_inv_wellformed.proofs.Words.{sum-map, sum_by-append, sum_by-cons, ⊤, spelled_all, newest_is, items_of, Gathered}
use Rattle.rk_inv_wellformed.proofs.Words.{newest_items_are, newest_items, Gather, counted_of, material_by, side_read, unread, material_of}
use Rattle.rk_inv_wellformed.proofs.Words.{copies_of, has_version, list_all, is_above, Contains-append_cases, Contains-append_left}
use Rattle.rk_inv_wellformed.proofs.Words.{Contains-append_right, filter-append, filter_passes, list_any_at, ordering_reverse, item_cmp}
use Rattle.rk_inv_wellformed.proofs.Words.{items_in, counted}
use Rattle.std.proofs.lemmas.List.Kept.{IsStrictlySortedBy-filter}
use Rattle.std.proofs.lemmas.Map.Views.{All-after_first}
use Rattle.std.proofs.lemmas.Slice.Eq.{bytes_eq-Decides}
use Rattle.std.specs.List.Sorted.{IsStrictlySortedBy}
use Rattle.rk_overlay.proofs.Members.{behind_stands, first_stands, none_stands, stands_cases}
use Rattle.rk_overlay.proofs.Ordered.{item_total}
use Rattle.std.proofs.lemmas.List.Filters.{sum_by-filter_both}
use Rattle.rk_world.specs.Rebuilds as rebuilds
use Rattle.rk_inv_wellformed.proofs.bytes.EntryBytes.{carried_fits}
use Rattle.rk_inv_wellformed.proofs.bytes.LogBytes.{bytes_appended, bytes_given_up, pulls_none}
use Rattle.rk_inv_wellformed.proofs.bytes.PullBytes.{HasBytes, first_bytes, items_bytes, more_has, put_has, same_has, items_few, none_bytes}
use Rattle.rk_inv_wellformed.proofs.maps.{by_found, found_changed, either_way, fold_keeps}
use Rattle.rk_inv_wellformed.proofs.masters.Handovers.{one_stood}
use Rattle.rk_inv_wellformed.proofs.masters.Rebuilding.{begins, few_ends, formed_gathered, merge_formed}
use Rattle.rk_inv_wellformed.proofs.masters.Sealing.{first_holds, items_spelled}
use Rattle.rk_inv_wellformed.proofs.masters.Tablets.{tablet_with_same}
use Rattle.rk_inv_wellformed.proofs.masters.Work.{AreLimits}

-- ---- a list of things that differ

module _ {X : Type 0} where
  -- a list with a thing between two parts of it
  record IsParted (xs : List X) (x : X) : Type 0 where
    front : List X
    back : List X
    whole : xs ≡ front ++ x ∷ back

  parted : (xs : List X) (x : X) → Contains xs x → IsParted xs x
  parted [] x stands = absurd (none_stands x stands)
  parted (y ∷ xs) x stands =
      ⊎_elim (λ (same : y ≡ x). record { front = []; back = xs; whole = ap (λ (z : X). z ∷ xs) same })
      (λ (behind : Contains xs x).
      let rest = parted xs x behind in
      record { front = y ∷ rest.front; back = rest.back; whole = ap (λ (l : List X). y ∷ l) rest.whole })
      (stands_cases y xs x stands)

  -- another thing is in the two parts
  others_stand : (front back : List X) (x z : X) → (x ≡ z → ⊥) → Contains (front ++ x ∷ back) z → Contains (front ++ back) z
  others_stand front back x z differ stands =
      ⊎_elim (λ (before : Contains front z). Contains-append_left front back z before)
      (λ (after : Contains (x ∷ back) z). ⊎_elim (λ (same : x ≡ z). absurd (differ same))
      (λ (behind : Contains back z). Contains-append_right front back z behind) (stands_cases x back z after))
      (Contains-append_cases front (x ∷ back) z stands)

  -- each thing differs from those behind it
  abbrev AreApart : List X → Type 0
  AreApart [] = ⊤
  AreApart (x ∷ xs) = ((z : X) → Contains xs z → x ≡ z → ⊥) × AreApart xs

  -- things that differ and are in a list have no more than the list
  sum_within : (size : X → ℕ) (xs ys : List X) → AreApart xs → ((z : X) → Contains xs z → Contains ys z) → sum_by size xs ≤ sum_by size ys
  sum_within size [] ys apart within = omega arith
  sum_within size (x ∷ xs) ys apart within =
      let parts = parted ys x (within x (first_stands x xs)) in
      let few = sum_within size xs (parts.front ++ parts.back) apart.1
      (λ z stands. others_stand parts.front parts.back x z (apart.0 z stands)
      (subst (λ (l : List X). Contains l z) parts.whole (within z (behind_stands x xs z stands)))) in
      omega (arith, few, sum_by-cons {X = X}, ap (λ (l : List X). sum_by size l) parts.whole, sum_by-append {X = X})

  -- a test that keeps some leaves no more
  kept_less : (size : X → ℕ) (p : X → Bool) (xs : List X) → sum_by size (filter p xs) ≤ sum_by size xs
  kept_less size p xs = omega (arith, sum_by-filter_both p (λ x. not (p x)) (λ x. refl) size xs)

  -- what passes a test is kept
  pass_kept : (p : X → Bool) (xs : List X) (x : X) → Contains xs x → p x ≡ true → Contains (filter p xs) x
  pass_kept p [] x stands is = absurd (none_stands x stands)
  pass_kept p (y ∷ xs) x stands is =
      elim (p y) as (λ b. p y ≡ b → Contains (cond b (y ∷ filter p xs) (filter p xs)) x) [
        | true ↦ λ passes.
            ⊎_elim (λ (same : y ≡ x). subst (λ (z : X). Contains (y ∷ filter p xs) z) same (first_stands y (filter p xs)))
            (λ (behind : Contains xs x). behind_stands y (filter p xs) x (pass_kept p xs x behind is)) (stands_cases y xs x stands)
        | false ↦ λ fails.
            ⊎_elim (λ (same : y ≡ x). let both : true ≡ false = sym is ∙ ap p (sym same) ∙ fails in absurd (cc both))
            (λ (behind : Contains xs x). pass_kept p xs x behind is) (stands_cases y xs x stands)
      ] refl

  -- if none passes a test, none is kept
  none_kept : (p : X → Bool) (xs : List X) → ((x : X) → Contains xs x → p x ≡ false) → filter p xs ≡ []
  none_kept p [] none = refl
  none_kept p (x ∷ xs) none =
      ap (λ (b : Bool). cond b (x ∷ filter p xs) (filter p xs)) (none x (first_stands x xs))
      ∙ none_kept p xs (λ z stands. none z (behind_stands x xs z stands))

-- ---- copies

-- items in order differ
order_apart : (items : List Held) → IsStrictlySortedBy item_cmp items → AreApart items
unfolding IsStrictlySortedBy
order_apart [] order = tt
order_apart (item ∷ items) order = (
  λ other stands same.
      let before = All-contains (λ z. item_cmp item z ≡ Less) items item (All-after_first item_cmp item items order)
      (subst (Contains items) (sym same) stands) in
      let both : Less ≡ Greater = sym before ∙ item_total.antisymm item item ∙ ap ordering_reverse before in
      absurd (cc both),
  order_apart items order.1,
)

-- whether an item is no own one
abbrev is_foreign : List Held → Held → Bool
is_foreign own item = not (has_version own item)

-- the copies have no more bytes than the items that are no own ones
copies_few : (own all : List Held) → sum_by spelled_of (copies_of own all) ≤ sum_by spelled_of (filter (is_foreign own) all)
copies_few own all =
    let are = newest_items_are all in
    sum_within spelled_of (copies_of own all) (filter (is_foreign own) all)
    (order_apart (copies_of own all) (IsStrictlySortedBy-filter item_cmp (is_foreign own) (newest_items all) are.order))
    (λ item stands.
    let newest = All-contains (Contains (newest_items all)) (copies_of own all) item
    (All-filter (is_foreign own) (Contains (newest_items all)) (newest_items all) (All-contains_itself (newest_items all))) stands in
    pass_kept (is_foreign own) all item (newest_is all item.table item.key item ((are.newest item).0 newest)).stands
    (All-contains (λ x. is_foreign own x ≡ true) (copies_of own all) item (filter_passes (is_foreign own) (newest_items all)) stands))

-- ---- what counts of members

-- how many bytes the items among entries have that are no own ones
abbrev foreign_bytes : List Held → List Entry → ℕ
foreign_bytes own list = sum_by spelled_of (filter (is_foreign own) (items_of list))

foreign_append : (own : List Held) (a b : List Entry) → foreign_bytes own (a ++ b) ≡ foreign_bytes own a + foreign_bytes own b
foreign_append own a b = grind (arith, spelled_of, flat_map-append, items_in, filter-append, items_of, sum_by-append)

-- they have no more bytes than the entries
foreign_few : (own : List Held) (list : List Entry) → foreign_bytes own list ≤ length (spelled_all list)
foreign_few own list =
    omega (arith, kept_less spelled_of (is_foreign own) (items_of list), items_spelled, sum-map {X = Held}, items_few list)

-- the own ones have none
foreign_none : (list : List Entry) → foreign_bytes (items_of list) list ≡ 0
foreign_none list = grind (arith, spelled_of, none_kept, items_of, list_any_at, bytes_eq, eq-eqb, bytes_eq-Decides)

-- of all members they have what they have of each
foreign_all : (own : List Held) (lists : List (List Entry)) → foreign_bytes own (flat_map (λ list. list) lists) ≡ sum_by (foreign_bytes own) lists
foreign_all own [] = refl
foreign_all own (list ∷ lists) =
    omega (arith, foreign_append, foreign_all own lists, sum_by-cons {X = List Entry})

-- of some members that were read no more than of all
foreign_some : (own : List Held) (range : Range) (p : Gathered → Bool) (members : List Gathered)
    → foreign_bytes own (flat_map (counted_of range) (filter p members)) ≤ foreign_bytes own (flat_map (counted_of range) members)
foreign_some own range p [] = omega arith
foreign_some own range p (member ∷ members) = grind (arith, foreign_append, counted_of, either_way, (foreign_some own range p members))

module _ (gather : Gather) (own : List Entry) where
  -- the bytes of what was read and counts
  abbrev read_bytes : ℕ
  read_bytes = length (spelled_all (counted gather))

  -- of one member no more than was read of all
  foreign_by : (master : ℕ) → foreign_bytes (items_of own) (material_by gather own master) ≤ read_bytes
  foreign_by master = grind (arith, either_way, items_of, foreign_none, foreign_some, foreign_few, counted)

  foreign_lineage : (lineage : List Member)
      → sum_by (foreign_bytes (items_of own)) (map (λ member. material_by gather own member.master) lineage) ≤ sum_by (λ member. read_bytes) lineage
  foreign_lineage [] = omega arith
  foreign_lineage (member ∷ lineage) =
      omega (arith, foreign_by member.master, foreign_lineage lineage, sum_by-cons {X = List Entry}, sum_by-cons {X = Member})

  -- the copies that a merge makes of its own entries and of what it read
  pub copies_within : items_bytes (copies_of (items_of own) (items_of (flat_map (λ list. list) (by_member gather own)))) ≤ copied_bytes gather
  copies_within =
      grind (arith, items_spelled, sum-map, copies_few, foreign_all, sum_by-append, foreign_lineage, foreign_none)

-- ---- a rebuild that begins

-- nothing counts of a member of which nothing was read
unread_none : (range : Range) (member : Member) → counted_of range (unread member) ≡ []
unread_none range member = grind (arith, material_of, side_read, unread)

unread_counts : (range : Range) (members : List Member) → flat_map (counted_of range) (map unread members) ≡ []
unread_counts range [] = refl
unread_counts range (member ∷ members) =
    ap (λ (list : List Entry). list ++ flat_map (counted_of range) (map unread members)) (unread_none range member) ∙ unread_counts range members

none_copied : (list : List Entry) (lineage : List Member) → list ≡ [] → sum_by (λ member. length (spelled_all list)) lineage ≡ 0
none_copied list [] is = refl
none_copied list (member ∷ lineage) is = grind (arith, sum_by-cons, spelled_all, none_bytes, (none_copied list lineage is))

-- a rebuild that begins has nothing to copy
pub begun_copies : (range : Range) (lineage : List Member) (own : ℕ) → copied_bytes (gather_begun range lineage own) ≡ 0
begun_copies range lineage own = none_copied (counted (gather_begun range lineage own)) lineage
    (unread_counts range (filter (λ member. not (member.master == own)) lineage))

-- ---- a merge

-- items that are appended
all_has : (bytes : ℕ) (items : List Held) (master : Master) → HasBytes bytes master
    → HasBytes (bytes + items_bytes items) (with_all master (as_entries items))
all_has bytes [] master has = more_has bytes (bytes + items_bytes []) (omega arith) has
all_has bytes (item ∷ items) master has =
    let now = with_appended master (Entry.Held item) in
    more_has (bytes + spelled_of item + items_bytes items) (bytes + items_bytes (item ∷ items))
    (omega (arith, first_bytes item items))
    (all_has (bytes + spelled_of item) items now
    (record { order = has.order; fits = omega (arith, has.fits, bytes_appended master (Entry.Held item), held_spelled item) }))

-- they leave the tablets as they are
all_tablets : (list : List Entry) (master : Master) → (with_all master list).tablets ≡ master.tablets
all_tablets list master = fold_keeps (λ (now : Master). now.tablets ≡ master.tablets) with_appended list master refl (λ now entry same. same)

merging_has : {bytes : ℕ} (id : ℕ) {master : Master} (merged : Merged) (moved : Option Handover)
    → length (ends_of (completions_from [] merged.ends)) ≤ MOST_CLIENTS + MOST_BASE_CLIENTS → HasBytes bytes master
    → HasBytes (bytes + items_bytes merged.copies + LONGEST_LEFT) (rebuilds.merging master id (tablet_at master id) merged moved).master
merging_has {bytes} id merged None few has = grind (arith, more_has, items_bytes, merged.copies)
merging_has {bytes} id {master} merged (Some handover) few has =
    let it = tablet_at master id in
    let copied = with_all master (as_entries merged.copies) in
    let copied_has = all_has bytes merged.copies master has in
    let closing = rebuilds.rebuilt_entry it merged in
    let same : unsealed_bytes it ≡ unsealed_bytes (tablet_at copied id) =
    ap (λ (tablets : NumberMap Tablet). unsealed_bytes (get_or no_tablet tablets id)) (sym (all_tablets (as_entries merged.copies) master)) in
    same_has (bytes + items_bytes merged.copies + LONGEST_LEFT) id (with_appended copied closing) (rebuilds.with_merged it merged handover) same
    (record {
      order = copied_has.order;
      fits =
          omega (
            arith,
            copied_has.fits,
            bytes_appended copied closing,
            carried_fits
                (record { range = it.handover.range; term = it.handover.term; floor = merged.floor; ends = ends_of (completions_from [] merged.ends) })
                few,
          );
    })

-- a rebuild that goes on
goes_on_has : {limits : Limits} {number bytes : ℕ} (id : ℕ) {master : Master} → AreLimits limits → 1 ≤ limits.top → IsFormedMaster limits number master
    → HasBytes bytes master
    → HasBytes (bytes + copied_bytes (tablet_at master id).gather + LONGEST_LEFT) (rebuilds.rebuild_goes_on master id).master
goes_on_has {limits} {number} {bytes} id {master} are some formed has =
    let it = tablet_at master id in
    let own = rebuilds.own_material master it in
    let merged = merge own (by_member it.gather own) in
    let most = bytes + copied_bytes it.gather + LONGEST_LEFT in
    by_found (λ reading. HasBytes most (rebuilds.rebuilding_on master id reading).master) (next_reading it.gather)
    (λ none. more_has (bytes + items_bytes merged.copies + LONGEST_LEFT) most (omega (arith, copies_within it.gather own))
    (merging_has id merged _ (few_ends limits merged.ends are (merge_formed limits number master id some formed).told) has))
    (λ reading is. more_has bytes most (omega arith) has)

-- ---- Rebuild

-- a tablet that is not given up stays
kept_tablet : (master : Master) (id : ℕ) (range : Range) → tablet_at (with_others_given_up master id range) id ≡ tablet_at master id
kept_tablet master id range =
    ap (λ (found : Option Tablet). unwrap_or found no_tablet) (found_changed change master.tablets id) ∙ go (get master.tablets id)
  where
    change : ℕ → Tablet → Tablet
    change number tablet = cond (not (number == id) && meets tablet.handover.range range) (given_up tablet) tablet

    go : (found : Option Tablet) → unwrap_or (option_map (change id) found) no_tablet ≡ unwrap_or found no_tablet
    go None = refl
    go (Some tablet) =
        ap (λ (same : Bool). cond (not same && meets tablet.handover.range range) (given_up tablet) tablet) (eq-eqb id id refl)

given_up_has : {bytes : ℕ} (id : ℕ) {master : Master} (range : Range) → HasBytes bytes master → HasBytes bytes (with_others_given_up master id range)
given_up_has id {master} range has = record {
  order =
      in_order_changed (λ number tablet. cond (not (number == id) && meets tablet.handover.range range) (given_up tablet) tablet)
      master.tablets has.order;
  fits = omega (arith, has.fits, bytes_given_up master id range);
}

foreign_has : (bytes : ℕ) (master : Master) (range : Range) (own : Option Member) → HasBytes bytes master
    → HasBytes bytes (rebuilds.without_foreign master range own)
foreign_has bytes master range None has = assumption
foreign_has bytes master range (Some own) has = has

foreign_tablet : (master : Master) (range : Range) (own : Option Member) (id : ℕ)
    → tablet_at (rebuilds.without_foreign master range own) id ≡ tablet_at master id
foreign_tablet master range own id =
    by_found (λ found. tablet_at (rebuilds.without_foreign master range found) id ≡ tablet_at master id) own (λ none. refl) (λ some is. refl)

-- a master that begins, with nothing to copy
record HasBegun (bytes id : ℕ) (master : Master) : Type 0 where
  has : HasBytes bytes master
  copies : copied_bytes (tablet_at master id).gather ≡ 0

with_begun_has : {bytes : ℕ} {now : Master} (rebuild : Rebuild) (moved : Option Handover) (handover : Handover) → moved ≡ Some handover
    → HasBytes bytes now → HasBegun bytes rebuild.tenure.tablet (rebuilds.with_begun now rebuild moved)
with_begun_has rebuild None handover is has = absurd (cc is)
with_begun_has {bytes} {now} rebuild (Some made) handover is has =
    let id = rebuild.tenure.tablet in
    let its : Tablet = record (tablet_at now id) {
      handover = made;
      pulling = pulling_from (tablet_at now id).pulling.source;
      gather = gather_begun rebuild.range rebuild.lineage now.number;
      merged_ends = [];
    } in
    record {
      has = more_has (bytes + 0) bytes (omega arith)
          (put_has bytes 0 id now its (omega (arith, pulls_none its (tablet_at now id).pulling.source refl)) has);
      copies = ap (λ (t : Tablet). copied_bytes t.gather) (tablet_with_same now id its)
          ∙ begun_copies rebuild.range rebuild.lineage now.number;
    }

begun_has : (master : Master) (rebuild : Rebuild) → IsInOrder master.tablets
    → nat_lt (tablet_at master rebuild.tenure.tablet).handover.term rebuild.tenure.term ≡ true
    → HasBegun (log_bytes master) rebuild.tenure.tablet (rebuilds.rebuild_begun master rebuild)
begun_has master rebuild order above =
    let id = rebuild.tenure.tablet in
    let own = own_member rebuild.lineage master.number in
    let foreign = rebuilds.without_foreign master rebuild.range own in
    let now = with_others_given_up foreign id rebuild.range in
    let same : tablet_at now id ≡ tablet_at master id = kept_tablet foreign id rebuild.range ∙ foreign_tablet master rebuild.range own id in
    with_begun_has rebuild _ _ (cond-true _ _ _ (ap (λ (t : Tablet). nat_lt t.handover.term rebuild.tenure.term) same ∙ above))
    (given_up_has id rebuild.range (foreign_has (log_bytes master) master rebuild.range own (record { order = order; fits = omega arith })))

-- after a Rebuild a master has no more bytes than before, and a closing entry
pub rebuild_bytes : {limits : Limits} {number : ℕ} {master : Master} {rebuild : Rebuild} → AreLimits limits → IsFormedRebuild limits rebuild
    → IsNumber w64 0 (length master.log.entries)
    → IsFormedMaster limits number master → log_bytes (rebuilds.rebuild_taken master rebuild).master ≤ log_bytes master + LONGEST_LEFT
rebuild_bytes {limits} {number} {master} {rebuild} are told place formed =
    let id = rebuild.tenure.tablet in
    cond_both (is_greater master id rebuild.tenure.term rebuild.range) _ _ (λ (worked : Worked). log_bytes worked.master ≤ log_bytes master + LONGEST_LEFT)
    (λ greater.
    let begins_so = begun_has master rebuild formed.tablets_order
    (first_holds (nat_lt (tablet_at master id).handover.term rebuild.tenure.term) (list_all (is_above rebuild.range rebuild.tenure.term) master.tablets) greater) in
    let goes = goes_on_has id are (one_stood limits rebuild.tenure.term told.tenure.term)
    (begins limits number master rebuild told place formed) begins_so.has in
    omega (arith, goes.fits, begins_so.copies))
    (λ lower. omega arith)

-- ---- Copy

-- after a Copy no more than before, the copies of what was read then, and a closing entry
pub copy_bytes : {limits : Limits} {number : ℕ} {master : Master} {copy : CopySegment} → AreLimits limits → IsFormedCopy limits copy
    → IsFormedMaster limits number master
    → log_bytes (rebuilds.copy_taken master copy).master ≤ log_bytes master + copied_bytes (rebuilds.with_gathered (tablet_at master copy.tenure.tablet) copy).gather + LONGEST_LEFT
copy_bytes {limits} {number} {master} {copy} are told formed =
    let id = copy.tenure.tablet in
    let it = rebuilds.with_gathered (tablet_at master id) copy in
    let here = tablet_at master id in
    cond_both
    (is_gathering here.handover.role && (here.handover.term == copy.tenure.term) && is_awaited (next_reading here.gather) copy.master copy.segment)
    (rebuilds.rebuild_goes_on (rebuilds.segment_gathered master copy) id) (changed master)
    (λ (worked : Worked). log_bytes worked.master ≤ log_bytes master + copied_bytes it.gather + LONGEST_LEFT)
    (λ is.
    let put = same_has (log_bytes master) id master it refl (record { order = formed.tablets_order; fits = omega arith }) in
    let goes = goes_on_has id are (one_stood limits copy.tenure.term told.tenure.term)
    (formed_gathered limits number master copy told (first_holds _ _ is) formed) put in
    omega (arith, goes.fits, ap (λ (t : Tablet). copied_bytes t.gather) (tablet_with_same master id it)))
    (λ other. omega arith)
