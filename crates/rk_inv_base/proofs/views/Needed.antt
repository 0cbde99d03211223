-- What has to be read of the last of two members, beside what its master knew to be stored: it is no more once a write was staged, and
-- backup 1 stores it.
use Rattle.rk_inv_base.proofs.Words.{◌≡◌, ℕ, zero, suc, ◌+◌, ◌<◌, ◌≤◌, ◌⊎◌, Bool, true, false, cond, ◌||◌, List, [], ◌∷◌, ◌++◌, length}
use Rattle.rk_inv_base.proofs.Words.{map, filter, fold, Some, refl, sym, ap, ◌∙◌, subst, ⊎_elim, inl, inr, arith, ◌==◌, ◌&&◌, not, nat_le}
use Rattle.rk_inv_base.proofs.Words.{nat_lt, drop, take, slice_get, slice_index_or, All, Contains, flat_map, eq-eqb, eqb-true, leb-true}
use Rattle.rk_inv_base.proofs.Words.{ltb-true, append-nil, append_assoc, length-drop, prefix_len_passes, and_parts, cases_lt, cond-false}
use Rattle.rk_inv_base.proofs.Words.{cond_both, false≢true, or_right, drop-append-le, flat_map-append, All-cons, All-contains, All-head}
use Rattle.rk_inv_base.proofs.Words.{All-nil, All-tail, Contains-append_cases, Contains-append_left, Contains-append_right, filter-append}
use Rattle.rk_inv_base.proofs.Words.{get_or_from_slice_get, slice_get_within, list_any, each_weaker, Ended, Held, Member, Range, is_among}
use Rattle.rk_inv_base.proofs.Words.{spelled, Entry, Completions, Handover, Row, ends, ends_after, with_bytes, Known, Log, EntryEnd}
use Rattle.rk_inv_base.proofs.Words.{items_in, items_of, told, told_by, Gather, Gathered, is_member, is_marked, unmarked, unmarked_from}
use Rattle.rk_inv_base.proofs.Words.{counts, counting, log_material, named, named_by, side_entries, with_number, Written, Mark, AreRead}
use Rattle.rk_inv_base.proofs.Words.{IsGathered, IsReadPart, IsRebuilder, NeededOf, NeedsEnd, TellNoMore, TellsMore, given_up_marks}
use Rattle.rk_inv_base.proofs.Words.{marked_entries, stored_count, put, with_one_more, known_length, AreFilled, filled_with, some_segments}
use Rattle.rk_inv_base.proofs.Words.{spelled_some, AreGathered, HasItemMore, IsNeeded, TellsEndMore}
use Rattle.std.proofs.Common.{get_or}
use Rattle.rk_inv_base.proofs.views.Put.{put_by}
use Rattle.rk_inv_base.proofs.rebuilds.Gathered.{IsAway}
use Rattle.rk_inv_base.proofs.logs.Grows.{Extends, counting_extends, drop_extends, extends_behind, take_extends, unmarked_extends}
use Rattle.rk_inv_base.proofs.logs.Shares.{drop_none, marked_none}
use Rattle.rk_inv_base.proofs.calls.Rebuilders.{last_member}

-- ---- what was read still is, if each part that was read is, nothing more is known behind it, and no more is needed

module _ (Needed Less : EntryEnd → Type 0) (known known' : Known) (stored stored' : ℕ → List ℕ) (part : (segment : ℕ) (bytes : List ℕ) → IsReadPart Needed known stored segment bytes → IsReadPart Less known' stored' segment bytes) (none : (segment : ℕ) → known_length known segment ≡ 0 → known_length known' segment ≡ 0) (less : (end : EntryEnd) → Less end → Needed end) where
  read_by : (segment : ℕ) (list : List Entry) → AreRead Needed known stored segment list → AreRead Less known' stored' segment list
  read_by segment list read = record { bytes = read.bytes; read = part segment read.bytes read.read; spelled = read.spelled }

  pub gathered_by : (gathered : Gathered) → IsGathered Needed known stored gathered → IsGathered Less known' stored' gathered
  gathered_by gathered was = grind (arith, read_by, slice_index_or, each_weaker)

pub part_weaker : (Needed Less : EntryEnd → Type 0) (known : Known) (stored : ℕ → List ℕ) (segment : ℕ) (bytes : List ℕ) → ((end : EntryEnd) → Less end → Needed end) → IsReadPart Needed known stored segment bytes → IsReadPart Less known stored segment bytes
part_weaker Needed Less known stored segment bytes less part =
    assumption (λ (end : EntryEnd) (its : Less end). part.needed end (less end its))

pub one_weaker : (Needed Less : EntryEnd → Type 0) (known : Known) (stored : ℕ → List ℕ) (gathered : Gathered) → ((end : EntryEnd) → Less end → Needed end) → IsGathered Needed known stored gathered → IsGathered Less known stored gathered
one_weaker Needed Less known stored gathered less =
    gathered_by Needed Less known known stored stored (λ segment bytes. part_weaker Needed Less known stored segment bytes less) (λ _ none. none)
    less gathered

-- no more is needed of masters but one
abbrev pub NeedsLess : (ℕ → EntryEnd → Type 0) → (ℕ → EntryEnd → Type 0) → ℕ → Type 0
NeedsLess Needed Less own = (q : ℕ) → (q ≡ own → ⊥) → (end : EntryEnd) → Less q end → Needed q end

-- so what was read of them is enough
module _ (Needed Less : ℕ → EntryEnd → Type 0) (known : ℕ → Known) (stored : ℕ → ℕ → List ℕ) (own : ℕ) (less : NeedsLess Needed Less own) where
  pub gathered_weaker : (members : List Gathered) → IsAway own (map (λ gathered. gathered.member) members) → AreGathered Needed known stored members → AreGathered Less known stored members
  gathered_weaker [] away was = All-nil _
  gathered_weaker (gathered ∷ members) away was =
      let Was : Gathered → Type 0 = λ g. IsGathered (Needed g.member.master) (known g.member.master) (stored g.member.master) g in
      let Is : Gathered → Type 0 = λ g. IsGathered (Less g.member.master) (known g.member.master) (stored g.member.master) g in
      let q : ℕ = gathered.member.master in
      All-cons Is gathered members
      (one_weaker (Needed q) (Less q) (known q) (stored q) gathered (less q away.0) (All-head Was gathered members was))
      (gathered_weaker members away.1 (All-tail Was gathered members was))

-- the members that are read are others than the master
pub kept_away : (own : ℕ) (lineage : List Member) → IsAway own (filter (λ member. not (member.master == own)) lineage)
kept_away own [] = tt
kept_away own (member ∷ others) = grind (arith, cond_both, false≢true, eq-eqb, member.master, (kept_away own others))

-- so a master that rebuilds a row goes on if no more is needed of others
module _ (row : Row) (lineage : List Member) (master : ℕ) (truth own : List Entry) (Needed Less : ℕ → EntryEnd → Type 0) (known : ℕ → Known) (stored : ℕ → ℕ → List ℕ) (w : Written) (handover : Handover) (completions : Completions) (gather : Gather) (merged : List Ended) (table : List Held) where
  -- by what is needed
  abbrev RebuildsBy : (ℕ → EntryEnd → Type 0) → Type 0
  RebuildsBy Wanted = IsRebuilder row lineage master truth own Wanted known stored w handover completions gather merged table

  pub rebuilder_weaker : NeedsLess Needed Less master → RebuildsBy Needed → RebuildsBy Less
  rebuilder_weaker less was =
      assumption
      (gathered_weaker Needed Less known stored master less gather.members (subst (IsAway master) (sym was.gather.members_are) (kept_away master lineage))
      was.read)

-- ---- what entries record

-- what these record is recorded by those: items and ends
abbrev pub AreAmong : List Entry → List Entry → Type 0
AreAmong these those =
    ((item : Held) → Contains (items_of these) item → Contains (items_of those) item)
    × ((end : Ended) → Contains (told these) end → Contains (told those) end)

-- of one kind, with more behind both
pub told_front : {X : Type 0} (f : Entry → List X) (these those more : List Entry) → ((x : X) → Contains (flat_map f these) x → Contains (flat_map f those) x) → (x : X) → Contains (flat_map f (these ++ more)) x → Contains (flat_map f (those ++ more)) x
told_front {X} f these those more among x at =
    rw (flat_map-append f those more) (⊎_elim
    (λ (front : Contains (flat_map f these) x). Contains-append_left (flat_map f those) (flat_map f more) x (among x front))
    (λ (behind : Contains (flat_map f more) x). Contains-append_right (flat_map f those) (flat_map f more) x behind)
    (Contains-append_cases (flat_map f these) (flat_map f more) x
    (subst (λ (all : List X). Contains all x) (flat_map-append f these more) at)))

-- of both kinds
pub among_front : (these those more : List Entry) → AreAmong these those → AreAmong (these ++ more) (those ++ more)
among_front these those more among =
    (told_front items_in these those more among.0, told_front told_by these those more among.1)

-- those may have more
pub told_extended : {X : Type 0} (f : Entry → List X) (old new : List Entry) → Extends old new → (x : X) → Contains (flat_map f old) x → Contains (flat_map f new) x
told_extended {X} f old new grown x at =
    rw grown.parts (rw (flat_map-append f old grown.more) (Contains-append_left (flat_map f old) (flat_map f grown.more) x at))

-- of both kinds
pub extended_among : (old new : List Entry) → Extends old new → AreAmong old new
extended_among old new grown = (told_extended items_in old new grown, told_extended told_by old new grown)

pub among_then : (a b c : List Entry) → AreAmong a b → AreAmong b c → AreAmong a c
among_then a b c first then = (λ item at. then.0 item (first.0 item at), λ end at. then.1 end (first.1 end at))

pub tells_among : (these those : List Entry) → TellNoMore these those → AreAmong these those
tells_among these those tells =
    (tells.items, λ end at. All-contains (Contains (told those)) (told these) end tells.ends at)

-- so no entry records anything that these record and those do not
pub none_more : (these those : List Entry) (entry : Entry) → AreAmong these those → TellsMore these those entry → ⊥
none_more these those entry among =
    ⊎_elim
    (λ (more : HasItemMore these those entry). more.new (among.0 more.item more.wanted))
    (λ (more : TellsEndMore these those entry). more.new (among.1 more.end more.wanted))

-- and what those do not record, fewer do not
pub more_than_fewer : (these those fewer : List Entry) (entry : Entry) → AreAmong fewer those → TellsMore these those entry → TellsMore these fewer entry
more_than_fewer these those fewer entry among =
    ⊎_elim
    (λ (more : HasItemMore these those entry).
    inl (record { item = more.item; here = more.here; wanted = more.wanted; new = λ at. more.new (among.0 more.item at) }))
    (λ (more : TellsEndMore these those entry).
    inr (record { end = more.end; here = more.here; wanted = more.wanted; new = λ at. more.new (among.1 more.end at) }))

-- so less is needed if the first member records more
pub needs_less : (range : Range) (given_up own more : List Entry) (from : ℕ) (last : Written) (end : EntryEnd) → AreAmong own more → NeedsEnd range given_up more from last end → NeedsEnd range given_up own from last end
needs_less range given_up own more from last end among needs =
    let before : List Entry = counting range (unmarked_from last.marks from (take needs.place last.entries)) in
    record {
      place = needs.place;
      entry = needs.entry;
      needed =
          assumption (more_than_fewer given_up (more ++ before) (own ++ before) needs.entry (among_front own more before among) needs.needed.tells);
      ends_there = needs.ends_there;
    }

-- only of a member anything is needed
pub needed_member : (row : Row) (written : ℕ → Written) (lineage : List Member) (q : ℕ) (end : EntryEnd) → NeededOf row written lineage q end → is_member lineage q ≡ true
needed_member row written (first ∷ last ∷ []) q end needed = last_member (first ∷ last ∷ []) last q refl needed.0
needed_member row written _ q end needed = absurd needed

-- ---- one more entry

-- the last entry is not among the marked ones, if all marks are before it
pub marked_last : (marks : List Mark) (place : ℕ) (list : List Entry) (entry : Entry) → is_marked marks (place + length list) ≡ false → marked_entries marks place (list ++ entry ∷ []) ≡ marked_entries marks place list
marked_last marks place [] entry free = grind (arith, cond-false, is_marked)
marked_last marks place (first ∷ list) entry free =
    let at : suc place + length list ≡ place + suc (length list) = omega arith in
    ap (λ (rest : List Entry). cond (is_marked marks place) (first ∷ rest) rest)
    (marked_last marks (suc place) list entry (ap (is_marked marks) at ∙ free))

-- those of marks that are kept are before it too
pub kept_within : (keep : Mark → Bool) (marks : List Mark) (place : ℕ) → All (λ mark. mark.past ≤ place) marks → All (λ mark. mark.past ≤ place) (filter keep marks)
kept_within keep [] place within = All-nil _
kept_within keep (mark ∷ marks) place within =
    let Within : Mark → Type 0 = λ m. m.past ≤ place in
    let later = kept_within keep marks place (All-tail Within mark marks within) in
    cond_both (keep mark) (mark ∷ filter keep marks) (filter keep marks) (All Within)
    (λ e. All-cons Within mark (filter keep marks) (All-head Within mark marks within) later) (λ e. later)

-- what a master has of given up rebuilds, from a place on
abbrev pub given_up_of : Row → ℕ → Written → List Entry
given_up_of row from w = counting row.range (marked_entries (given_up_marks row w.marks) from (drop from w.entries))

-- and all that counts of what it wrote
abbrev pub material_at : Range → ℕ → Written → List Entry
material_at range from w = log_material range w.marks w.sides from w.entries

-- the one is what it was
pub given_up_pushed : (row : Row) (from : ℕ) (w : Written) (entry : Entry) → All (λ mark. mark.past ≤ length w.entries) w.marks → given_up_of row from (with_one_more w entry) ≡ given_up_of row from w
given_up_pushed row from w entry marked =
    grind (arith, marked_none, kept_within, drop_none, length-drop, drop-append-le, marked_last)

-- numbers with more of them have these before the others
pub numbers_extend : (some more : List ℕ) → (others : List ℕ) × (fold with_number some more ≡ some ++ others)
numbers_extend some [] = ([], sym (append-nil some))
numbers_extend some (number ∷ more) =
    cond_both (is_among number some) some (some ++ number ∷ [])
    (λ next. (others : List ℕ) × (fold with_number next more ≡ some ++ others))
    (λ e. numbers_extend some more)
    (λ e.
    let rest = numbers_extend (some ++ number ∷ []) more in
    (number ∷ rest.0, rest.1 ∙ append_assoc some (number ∷ []) rest.0))

pub numbers_append : (some a b : List ℕ) → fold with_number some (a ++ b) ≡ fold with_number (fold with_number some a) b
numbers_append some [] b = refl
numbers_append some (number ∷ a) b = numbers_append (with_number some number) a b

-- so the side segments that more entries name begin with those that the first ones name
pub sides_extend : (range : Range) (sides : ℕ → List Entry) (old new : List Entry) → Extends old new → Extends (counting range (flat_map sides (named range old))) (counting range (flat_map sides (named range new)))
sides_extend range sides old new grown =
    let rest = numbers_extend (named range old) (flat_map (named_by range) grown.more) in
    let parts : named range new ≡ named range old ++ rest.0 =
    ap (named range) grown.parts
    ∙ ap (λ (numbers : List ℕ). fold with_number [] numbers) (flat_map-append (named_by range) old grown.more)
    ∙ numbers_append [] (flat_map (named_by range) old) (flat_map (named_by range) grown.more)
    ∙ rest.1 in
    record {
      more = counting range (flat_map sides rest.0);
      parts = grind (arith, counting, flat_map-append, named, filter-append, counts, rest.0);
    }

-- and the other records what it recorded
pub material_pushed : (range : Range) (from : ℕ) (w : Written) (entry : Entry) → AreAmong (material_at range from w) (material_at range from (with_one_more w entry))
material_pushed range from w entry =
    let list : List Entry = w.entries ++ entry ∷ [] in
    let side : List Entry → List Entry = λ all. counting range (flat_map (side_entries w.sides) (named range all)) in
    let old : List Entry = unmarked_from w.marks from w.entries in
    let new : List Entry = unmarked_from w.marks from list in
    let behind = drop_extends from w.entries (entry ∷ []) in
    let rest = unmarked_extends w.marks from (drop from w.entries) behind.more in
    let grown : Extends old new = record {
      more = rest.more;
      parts = ap (unmarked w.marks from) behind.parts ∙ rest.parts;
    } in
    among_then (counting range old ++ side old) (counting range new ++ side old) (counting range new ++ side new)
    (among_front (counting range old) (counting range new) (side old)
    (extended_among (counting range old) (counting range new)
    (counting_extends range w.marks from w.entries list (record { more = entry ∷ []; parts = refl }))))
    (extended_among (counting range new ++ side old) (counting range new ++ side new)
    (extends_behind (counting range new) (side old) (side new) (sides_extend range (side_entries w.sides) old new grown)))

-- ---- one more entry at a master, which other masters are read beside

module _ (written : ℕ → Written) (master : ℕ) (entry : Entry) (marked : (q : ℕ) → All (λ mark. mark.past ≤ length (written q).entries) (written q).marks) where
  -- what masters have written with the entry
  abbrev grown : ℕ → Written
  grown = put written master (with_one_more (written master) entry)

  -- what is needed of a row whose first member has written these and whose last one has written those
  abbrev NeedsBy : Row → Member → Member → Written → Written → EntryEnd → Type 0
  NeedsBy other first last these those =
      NeedsEnd other.range (given_up_of other first.from these) (material_at other.range first.from these) last.from those

  -- no more is needed if the first member may have written the entry
  first_grown : (other : Row) (first last : Member) (those : Written) (end : EntryEnd) → NeedsBy other first last (grown first.master) those end → NeedsBy other first last (written first.master) those end
  first_grown other first last those end =
      let old : Written = written first.master in
      let more : Written = with_one_more old entry in
      put_by written master (λ w. with_one_more w entry) (λ (w : Written). NeedsBy other first last w those end → NeedsBy other first last old those end)
      first.master
      (λ at needs.
      needs_less other.range (given_up_of other first.from old) (material_at other.range first.from old) (material_at other.range first.from more)
      last.from those end
      (material_pushed other.range first.from old entry)
      (subst (λ (list : List Entry). NeedsEnd other.range list (material_at other.range first.from more) last.from those end)
      (given_up_pushed other first.from old entry (marked first.master)) needs))
      (λ apart needs. needs)

  -- so no more is needed of any master but the entry's writer
  pub needed_grown : (other : Row) (lineage : List Member) (q : ℕ) → (q ≡ master → ⊥) → (end : EntryEnd) → NeededOf other grown lineage q end → NeededOf other written lineage q end
  needed_grown other (first ∷ last ∷ []) q away end needed =
      let Needs : Written → Type 0 = λ (w : Written). NeedsBy other first last (grown first.master) w end in (
        needed.0,
        first_grown other first last (written last.master) end
            (put_by written master (λ w. with_one_more w entry) (λ (w : Written). Needs w → Needs (written last.master)) last.master
            (λ at. absurd (away (sym needed.0 ∙ at))) (λ apart needs. needs) needed.1),
      )
  needed_grown other _ q away end needed = needed

-- ---- what is needed is stored

-- a test that some kept ones pass
pub any_kept : (p keep : Mark → Bool) (marks : List Mark) → list_any p (filter keep marks) ≡ true → list_any p marks ≡ true
any_kept p keep [] some = some
any_kept p keep (mark ∷ marks) some =
    cond_both (keep mark) (mark ∷ filter keep marks) (filter keep marks) (λ kept. list_any p kept ≡ true → list_any p (mark ∷ marks) ≡ true)
    (λ e some. either (p mark) (any_kept p keep marks) some)
    (λ e some. or_right (p mark) (list_any p marks) (any_kept p keep marks some)) some
  where
    either : (b : Bool) → (list_any p (filter keep marks) ≡ true → list_any p marks ≡ true) → (b || list_any p (filter keep marks)) ≡ true → (b || list_any p marks) ≡ true
    either true later some = refl
    either false later some = later some

-- what one more entry gives
pub told_cons : {X : Type 0} (f : Entry → List X) (range : Range) (entry : Entry) (list : List Entry) → flat_map f (counting range (entry ∷ list)) ≡ flat_map f (counting range (entry ∷ [])) ++ flat_map f (counting range list)
told_cons f range entry list =
    ap (flat_map f) (filter-append (counts range) (entry ∷ []) list)
    ∙ flat_map-append f (counting range (entry ∷ [])) (counting range list)

-- something is given by the entries of a list that count for a range
abbrev pub IsTold : {X : Type 0} → (Entry → List X) → Range → List Entry → X → Type 0
IsTold f range list x = Contains (flat_map f (counting range list)) x

-- entries that bear some of the marks give no more than those that bear any
pub told_marked : {X : Type 0} (f : Entry → List X) (range : Range) (some all : List Mark) → ((n : ℕ) → is_marked some n ≡ true → is_marked all n ≡ true) → (place : ℕ) (list : List Entry) (x : X) → IsTold f range (marked_entries some place list) x → IsTold f range (marked_entries all place list) x
told_marked f range some all more place [] x at = at
told_marked {X} f range some all more place (entry ∷ list) x at =
    go (is_marked some place) (is_marked all place) (more place) (marked_entries some (suc place) list) (marked_entries all (suc place) list)
    (told_marked f range some all more (suc place) list x) at
  where
    front : (list : List Entry) → IsTold f range (entry ∷ list) x → IsTold f range (entry ∷ []) x ⊎ IsTold f range list x
    front list at =
        Contains-append_cases (flat_map f (counting range (entry ∷ []))) (flat_map f (counting range list)) x
        (subst (λ (all : List X). Contains all x) (told_cons f range entry list) at)

    left : (list : List Entry) → IsTold f range (entry ∷ []) x → IsTold f range (entry ∷ list) x
    left list at =
        subst (λ (all : List X). Contains all x) (sym (told_cons f range entry list))
        (Contains-append_left (flat_map f (counting range (entry ∷ []))) (flat_map f (counting range list)) x at)

    right : (list : List Entry) → IsTold f range list x → IsTold f range (entry ∷ list) x
    right list at =
        subst (λ (all : List X). Contains all x) (sym (told_cons f range entry list))
        (Contains-append_right (flat_map f (counting range (entry ∷ []))) (flat_map f (counting range list)) x at)

    go : (b c : Bool) → (b ≡ true → c ≡ true) → (few many : List Entry) → (IsTold f range few x → IsTold f range many x) → IsTold f range (cond b (entry ∷ few) few) x → IsTold f range (cond c (entry ∷ many) many) x
    go true false so few many later at = absurd (false≢true (so refl))
    go true true so few many later at = ⊎_elim (left many) (λ (behind : IsTold f range few x). right many (later behind)) (front few at)
    go false true so few many later at = right many (later at)
    go false false so few many later at = later at

-- so what a master has of given up rebuilds records no more than all that it has of rebuilds
pub given_up_among : (row : Row) (from : ℕ) (w : Written) → AreAmong (given_up_of row from w) (counting row.range (marked_entries w.marks from (drop from w.entries)))
given_up_among row from w =
    let more : (n : ℕ) → is_marked (given_up_marks row w.marks) n ≡ true → is_marked w.marks n ≡ true = λ n.
    any_kept (λ mark. nat_le mark.first n && nat_lt n mark.past) (λ mark. mark.tablet == row.tablet && nat_lt mark.term row.term) w.marks in (
      told_marked items_in row.range (given_up_marks row w.marks) w.marks more from (drop from w.entries),
      told_marked told_by row.range (given_up_marks row w.marks) w.marks more from (drop from w.entries),
    )

-- a master whose marks are of the row's term has nothing of given up rebuilds
pub none_given_up : (row : Row) (marks : List Mark) → All (λ mark. mark.tablet ≡ row.tablet → mark.term ≡ row.term) marks → given_up_marks row marks ≡ []
none_given_up row [] fit = refl
none_given_up row (mark ∷ marks) fit =
    let Fits : Mark → Type 0 = λ m. m.tablet ≡ row.tablet → m.term ≡ row.term in
    cond_both (mark.tablet == row.tablet && nat_lt mark.term row.term) (mark ∷ given_up_marks row marks) (given_up_marks row marks) (λ kept. kept ≡ [])
    (λ e.
    let parts = and_parts (mark.tablet == row.tablet) (nat_lt mark.term row.term) e in
    let same : mark.term ≡ row.term = All-head Fits mark marks fit (eqb-true mark.tablet row.tablet parts.0) in
    let less : mark.term < row.term = ltb-true mark.term row.term parts.1 in
    absurd (omega (arith, same, less)))
    (λ e. none_given_up row marks (All-tail Fits mark marks fit))

-- without marks nothing is marked
pub unmarked_none : (place : ℕ) (list : List Entry) → marked_entries [] place list ≡ []
unmarked_none place [] = refl
unmarked_none place (entry ∷ list) = unmarked_none (suc place) list

-- so what it has of them is recorded by any entries
pub living_among : (row : Row) (from : ℕ) (w : Written) (those : List Entry) → All (λ mark. mark.tablet ≡ row.tablet → mark.term ≡ row.term) w.marks → AreAmong (given_up_of row from w) those
living_among row from w those fit =
    let none : given_up_of row from w ≡ [] =
    ap (λ (marks : List Mark). counting row.range (marked_entries marks from (drop from w.entries))) (none_given_up row w.marks fit)
    ∙ ap (counting row.range) (unmarked_none from (drop from w.entries)) in
    rw none (λ item at. absurd (omega (arith, at.1)), λ end at. absurd (omega (arith, at.1)))

-- what counts of the first entries of a log, from a place on
abbrev pub first_counted : Range → ℕ → Written → ℕ → List Entry
first_counted range from w count = counting range (unmarked_from w.marks from (take count w.entries))

-- an entry that is needed is one of the first ones of a log, if these record all that is wanted
pub needed_within : (range : Range) (given_up own : List Entry) (from : ℕ) (last : Written) (place : ℕ) (entry : Entry) (count : ℕ) → IsNeeded range given_up own from last place entry → AreAmong given_up (own ++ first_counted range from last count) → place < count
needed_within range given_up own from last place entry count needed among =
    let some : List Entry = first_counted range from last count in
    let all : List Entry = first_counted range from last place in
    ⊎_elim
    (λ (within : place < count). within)
    (λ (few : count ≤ place).
    let taken : Extends (take count last.entries) (take place last.entries) =
    subst (λ (list : List Entry). Extends (take count last.entries) (take place list)) (append-nil last.entries)
    (take_extends count place last.entries [] few) in
    let grown : Extends (own ++ some) (own ++ all) =
    extends_behind own some all (counting_extends range last.marks from (take count last.entries) (take place last.entries) taken) in
    absurd (none_more given_up (own ++ all) entry
    (among_then given_up (own ++ some) (own ++ all) among (extended_among (own ++ some) (own ++ all) grown)) needed.tells))
    (cases_lt place count)

-- an entry has some bytes, so it does not end where its segment begins
pub end_some : (segments : List (List ℕ)) (list : List Entry) (k : ℕ) (d : EntryEnd) → AreFilled segments → k < length (ends_after segments list) → 1 ≤ (get_or (ends_after segments list) k d).offset
end_some segments [] k d filled within = absurd (omega arith)
end_some segments (entry ∷ list) zero d filled within = grind (arith, with_bytes, spelled, filled_with, spelled_some, some_segments)
end_some segments (entry ∷ list) (suc k) d filled within =
    end_some (with_bytes segments (spelled entry)) list k d (filled_with segments (spelled entry) filled (spelled_some entry)) (omega arith)

-- an end that is stored, and is not where its segment begins
pub record IsStoredEnd (stored : ℕ → List ℕ) (end : EntryEnd) : Type 0 where
  pub some : 1 ≤ end.offset
  pub there : end.offset ≤ length (stored end.segment)

-- such is the end of one of the first entries, which a backup stores
pub end_stored : (log : Log) (w : Written) (stored : ℕ → List ℕ) (place : ℕ) (end : EntryEnd) → log.entries ≡ w.entries → place < stored_count log stored → slice_get (ends w.entries) place ≡ Some end → IsStoredEnd stored end
end_stored log w stored place end same less stands =
    let there : slice_get (ends log.entries) place ≡ Some end = ap (λ (list : List Entry). slice_get (ends list) place) same ∙ stands in
    let within : place < length (ends log.entries) = slice_get_within (ends log.entries) place end there in
    let at : get_or (ends log.entries) place end ≡ end = get_or_from_slice_get (ends log.entries) place end end there in
    let passes = prefix_len_passes (λ (e : EntryEnd). nat_le e.offset (length (stored e.segment))) (ends log.entries) place end less in
    record {
      some = subst (λ (e : EntryEnd). 1 ≤ e.offset) at (end_some [] log.entries place end (λ k h. absurd (omega arith)) within);
      there = grind (arith, leb-true);
    }
