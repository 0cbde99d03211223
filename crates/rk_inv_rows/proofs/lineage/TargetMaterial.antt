-- What counts of the log of a target that has joined: its own items, and those of the side segments that its closing entry names.
use Rattle.std.proofs.Common.{◌≡◌, ℕ, ◌+◌, ◌-◌, ◌≤◌, ◌<◌, true, false, eqb, leb, List, [], ◌∷◌, ◌++◌, Some, sym, ap, subst, ◌∙◌, ⊎_elim}
use Rattle.std.proofs.Common.{arith, inl, inr, drop, filter, slice_get, take, max, ◌⊎◌, Contains, flat_map, drop-drop, take-append-drop}
use Rattle.rk_inv_base.proofs.Words.{cond-true, cond_both, nat_tests, drop-take, Contains-append_cases, Contains-append_left}
use Rattle.rk_inv_base.proofs.Words.{Contains-append_right, filter-append, meets, Held, Range, Entry, Joined, is_in, none_stands}
use Rattle.rk_inv_base.proofs.Words.{stands_cases, items_in, items_of, is_marked, unmarked, unmarked_from, counting, counts, is_joined_in}
use Rattle.rk_inv_base.proofs.Words.{joined_from, log_material, named, named_by, side_entries, Mark, marked_entries}
use Rattle.rk_inv_rows.proofs.Words.{behind_at, taken, filter_from, filter_stands, kept_stands}
use Rattle.rk_entry.specs.declared.entry.Entry.TheVariants as entries
use Rattle.rk_inv_rows.proofs.lineage.Among.{first_stand}
use Rattle.rk_inv_base.proofs.views.Among.{from_flat, number_from, number_to, taken_at, to_flat, unmarked_stands, unmarked_stood}
use Rattle.rk_inv_rows.proofs.lineage.Pieces.{taken_counts}
use Rattle.rk_inv_rows.proofs.lineage.TakenOver.{HasBoth}

-- ---- ranges

pub meets_itself : (range : Range) → range.first ≤ range.last → meets range range ≡ true
meets_itself range some = grind (arith, eqb, leb, nat_tests, range.table, range.first, range.last)

-- ---- entries

-- an entry that is an item of a range counts for it
pub item_counts : (range : Range) (entry : Entry) (x : Held) → Contains (items_in entry) x → is_in range x ≡ true → counts range entry ≡ true
item_counts range entry x stands inside = grind (arith, is_in, none_stands, stands_cases)

-- an entry that names a side segment for a range is a Joined of it
pub names_joins : (range : Range) (entry : Entry) (n : ℕ) → Contains (named_by range entry) n → is_joined_in range entry ≡ true
names_joins range entry n stands = grind (arith, cond_both, meets, none_stands)

-- one element is all that two lists have together, so if the first has one, the second has none
none_behind : {X : Type 0} (xs ys : List X) (one x : X) → xs ++ ys ≡ one ∷ [] → Contains xs x → ys ≡ []
none_behind [] ys one x all stands = absurd (none_stands x stands)
none_behind (y ∷ []) ys one x all stands = let behind : ys ≡ [] = cc all in behind
none_behind {X} (y ∷ z ∷ xs) ys one x all stands = let none : z ∷ (xs ++ ys) ≡ [] = cc all in absurd (cc none)

-- a log of a target: from a place on it has one Joined of the range alone, `closing`, which is applied and bears no mark; what is marked
-- there does not count for the range
pub record HasJoinedLog (range : Range) (marks : List Mark) (from applied : ℕ) (list : List Entry) (closing : Joined) (place : ℕ) : Type 0 where
  pub some : range.first ≤ range.last
  pub range_is : closing.range ≡ range
  pub stands : slice_get list place ≡ Some (entries.Joined closing)
  pub alone : joined_from range from list ≡ entries.Joined closing ∷ []
  pub behind : from ≤ place
  pub within : place < applied
  pub free : is_marked marks place ≡ false
  pub unmarked : counting range (marked_entries marks from (drop from list)) ≡ []

module _ (range : Range) (marks : List Mark) (sides : List (List Held)) (from applied : ℕ) (list : List Entry) (closing : Joined) (place : ℕ) (has : HasJoinedLog range marks from applied list closing place) where
  abbrev front : List Entry
  front = take applied list

  abbrev kept : List Entry
  kept = unmarked_from marks from front

  -- what bears no mark counts as all does
  pub counts_all : counting range kept ≡ counting range (drop from front)
  counts_all =
      let low : from ≤ place = has.behind in
      let less : place < applied = has.within in
      let sum : applied ≡ from + (applied - from) = omega (arith, low, less) in
      let part : drop from front ≡ take (applied - from) (drop from list) =
      ap (λ (n : ℕ). drop from (take n list)) sum ∙ drop-take from (applied - from) list in
      ap (λ (l : List Entry). counting range (unmarked marks from l)) part
      ∙ taken_counts range marks from (applied - from) (drop from list) has.unmarked
      ∙ ap (counting range) (sym part)

  closes : meets closing.range range ≡ true
  closes = ap (λ (r : Range). meets r range) has.range_is ∙ meets_itself range has.some

  -- the numbers of side segments that it names are those of the closing entry
  numbers_from : (n : ℕ) → Contains (flat_map (named_by range) kept) n → Contains closing.segments n
  numbers_from n stands =
      let found = from_flat (named_by range) kept n stands in
      let entry : Entry = found.0 in
      let there : Contains (drop from list) entry =
      first_stand from applied list entry (unmarked_stood marks from (drop from front) entry found.1) in
      let one : Contains (entries.Joined closing ∷ []) entry =
      subst (λ (l : List Entry). Contains l entry) has.alone
      (filter_stands (is_joined_in range) (drop from list) entry there (names_joins range entry n found.2)) in
      ⊎_elim
      (λ (is : entries.Joined closing ≡ entry).
      cond_both (meets closing.range range) closing.segments [] (λ l. Contains l n → Contains closing.segments n) (λ e at. at)
      (λ e at. absurd (none_stands n at)) (subst (λ (e : Entry). Contains (named_by range e) n) (sym is) found.2))
      (λ (none : Contains [] entry). absurd (none_stands entry none))
      (stands_cases (entries.Joined closing) [] entry one)

  closing_kept : Contains kept (entries.Joined closing)
  closing_kept =
      let found = behind_at front from place (entries.Joined closing) has.behind (taken_at applied list place (entries.Joined closing) has.within has.stands) in
      unmarked_stands marks from found.0 (drop from front) (entries.Joined closing) found.1 (ap (is_marked marks) found.2 ∙ has.free)

  numbers_to : (n : ℕ) → Contains closing.segments n → Contains (flat_map (named_by range) kept) n
  numbers_to n stands = search (to_flat, named_by, closing_kept, cond-true, meets, closes)

  -- no Joined of the range is behind what is applied
  pub none_behind_applied : joined_from range (max from applied) list ≡ []
  none_behind_applied =
      let low : from ≤ place = has.behind in
      let less : place < applied = has.within in
      let count : ℕ = max from applied - from in
      let sum : from + count ≡ max from applied = omega arith in
      let behind : drop count (drop from list) ≡ drop (max from applied) list =
      drop-drop count from list ∙ ap (λ (n : ℕ). drop n list) sum in
      let both : filter (is_joined_in range) (take count (drop from list)) ++ filter (is_joined_in range) (drop count (drop from list)) ≡ entries.Joined closing ∷ [] =
      sym (filter-append (is_joined_in range) (take count (drop from list)) (drop count (drop from list)))
      ∙ ap (filter (is_joined_in range)) (take-append-drop count (drop from list)) ∙ has.alone in
      let at = behind_at list from place (entries.Joined closing) has.behind has.stands in
      let k : ℕ = at.0 in
      let there : from + k ≡ place = at.2 in
      ap (filter (is_joined_in range)) (sym behind)
      ∙ none_behind (filter (is_joined_in range) (take count (drop from list))) (filter (is_joined_in range) (drop count (drop from list)))
      (entries.Joined closing) (entries.Joined closing) both
      (filter_stands (is_joined_in range) (take count (drop from list)) (entries.Joined closing)
      (taken (drop from list) count k (entries.Joined closing) (omega (arith, there, less, low)) at.1) closes)

  -- ---- items

  abbrev own : List Held
  own = items_of (counting range (drop from front))

  abbrev copies : List Held
  copies = items_of (flat_map (side_entries sides) closing.segments)

  abbrev material : List Entry
  material = log_material range marks sides from front

  abbrev named_entries : List Entry
  named_entries = flat_map (side_entries sides) (named range kept)

  -- an entry that counts of the log
  pub entry_stands : (entry : Entry) → Contains (drop from front) entry → counts range entry ≡ true → Contains material entry
  entry_stands entry stands counted =
      Contains-append_left (counting range kept) (counting range named_entries) entry
      (rw counts_all (filter_stands (counts range) (drop from front) entry stands counted))

  from_either : (x : Held) → Contains (items_of material) x → Contains own x ⊎ Contains copies x
  from_either x stands =
      let found = from_flat items_in material x stands in
      let entry : Entry = found.0 in
      ⊎_elim
      (λ (here : Contains (counting range kept) entry).
      inl
      (to_flat items_in (counting range (drop from front)) entry x (rw (← counts_all) here) found.2))
      (λ (side : Contains (counting range named_entries) entry).
      let at = from_flat (side_entries sides) (named range kept) entry (filter_from (counts range) named_entries entry side) in
      let number : Contains closing.segments at.0 =
      numbers_from at.0
      (⊎_elim (λ (none : Contains [] at.0). absurd (none_stands at.0 none)) (λ (there : Contains (flat_map (named_by range) kept) at.0). there)
      (number_from [] (flat_map (named_by range) kept) at.0 at.1)) in
      inr
      (to_flat items_in (flat_map (side_entries sides) closing.segments) entry x
      (to_flat (side_entries sides) closing.segments at.0 entry number at.2) found.2))
      (Contains-append_cases (counting range kept) (counting range named_entries) entry found.1)

  own_stands : (x : Held) → Contains own x → Contains (items_of material) x
  own_stands x stands =
      let found = from_flat items_in (counting range (drop from front)) x stands in
      to_flat items_in material found.0 x
      (entry_stands found.0 (filter_from (counts range) (drop from front) found.0 found.1)
      (kept_stands (counts range) (drop from front) found.0 found.1).1) found.2

  copies_stand : (x : Held) → is_in range x ≡ true → Contains copies x → Contains (items_of material) x
  copies_stand x inside stands =
      let found = from_flat items_in (flat_map (side_entries sides) closing.segments) x stands in
      let at = from_flat (side_entries sides) closing.segments found.0 found.1 in
      let there : Contains named_entries found.0 =
      to_flat (side_entries sides) (named range kept) at.0 found.0 (number_to [] (flat_map (named_by range) kept) at.0 (numbers_to at.0 at.1)) at.2 in
      to_flat items_in material found.0 x
      (Contains-append_right (counting range kept) (counting range named_entries) found.0
      (filter_stands (counts range) named_entries found.0 there (item_counts range found.0 x found.2 inside))) found.2

  -- what counts has its own items and the copied ones, if these are of the range
  pub has_both : ((x : Held) → Contains copies x → is_in range x ≡ true) → HasBoth own copies (items_of material)
  has_both inside = record { from = from_either; has_own = own_stands; has_copied = λ x stands. copies_stand x (inside x stands) stands }
