-- No Joined names a side segment that is not there, so with more side segments what counts is the same.
use Rattle.std.proofs.Common.{◌≡◌, ℕ, ◌+◌, ◌<◌, true, List, [], ◌∷◌, ◌++◌, length, refl, ap, ◌∙◌, arith, drop, nat_lt, All, flat_map}
use Rattle.std.proofs.Common.{lt-ltb}
use Rattle.rk_inv_base.proofs.Words.{cases_lt, cond-true, cond_both, false≢true, get_or_append_left, length-map, All-drop, All-head}
use Rattle.rk_inv_base.proofs.Words.{All-nil, All-push, All-tail, All-take, All-weaker, Held, Range, spelled_all, Entry, FIRST_SIDE_SEGMENT}
use Rattle.rk_inv_base.proofs.Words.{is_in, is_whole, Log, is_side_stored, items_of, unmarked_from, as_entries, counting, log_material}
use Rattle.rk_inv_base.proofs.Words.{named, named_by, side_entries, with_number, Written, applied_entries, Mark, IsLog, segments_in}
use Rattle.rk_inv_base.proofs.Words.{applied_from, named_items}
use Rattle.rk_inv_base.proofs.views.Among.{unmarked_all}
use Rattle.rk_inv_tablets.proofs.Words.{numbered_past, with_side_items, all_flat, fold_keeps_all}
use Rattle.rk_entry.specs.declared.entry.Entry.TheVariants as entries

-- these numbers are below that of the next side segment, if there are so many
abbrev pub AreBelow : ℕ → List ℕ → Type 0
AreBelow count numbers = All (λ number. number < FIRST_SIDE_SEGMENT + count) numbers

-- ---- what is named is there

-- a side segment that is stored is there
stored_below : (log : Log) (number : ℕ) → is_side_stored log number ≡ true → number < FIRST_SIDE_SEGMENT + length log.sides
stored_below log number stored = grind (arith, false≢true, is_whole, numbered_past, cases_lt)

-- what holds of all that an entry names holds of what it names for a range
named_fit : (P : ℕ → Type 0) (range : Range) (entry : Entry) → All P (segments_in entry) → All P (named_by range entry)
named_fit P range (entries.Joined joined) all = cond_both _ joined.segments [] (All P) (λ e. all) (λ e. All-nil P)
named_fit P range _ all = all

all_named : (P : ℕ → Type 0) (range : Range) (list : List Entry) → All (λ entry. All P (segments_in entry)) list → All P (named range list)
all_named P range list all =
    fold_keeps_all (All P) P with_number (flat_map (named_by range) list) [] (All-nil P)
    (all_flat P (named_by range) list (All-weaker _ _ (named_fit P range) list all))
    (λ numbers number these its. cond_both _ numbers _ (All P) (λ e. these) (λ e. All-push P numbers number these its))

-- ---- more side segments

-- a side segment that is there has what it had
side_kept : (sides lists : List (List Held)) (number : ℕ) → number < FIRST_SIDE_SEGMENT + length sides → side_entries (sides ++ lists) number ≡ side_entries sides number
side_kept sides lists number there = grind (arith, cond-true, nat_lt, lt-ltb, as_entries, get_or_append_left, cases_lt)

-- so have several
pub sides_kept : (sides lists : List (List Held)) (numbers : List ℕ) → AreBelow (length sides) numbers → flat_map (side_entries (sides ++ lists)) numbers ≡ flat_map (side_entries sides) numbers
sides_kept sides lists [] there = refl
sides_kept sides lists (number ∷ numbers) there =
    let Below : ℕ → Type 0 = λ n. n < FIRST_SIDE_SEGMENT + length sides in
    (λ i.
    side_kept sides lists number (All-head Below number numbers there) i
    ++ sides_kept sides lists numbers (All-tail Below number numbers there) i)

module _ (log : Log) (w : Written) (stored : ℕ → ℕ → List ℕ) (kept : IsLog log w stored) (lists : List (List Held)) where
  -- with the items of more side segments
  abbrev more : Written
  more = with_side_items w lists

  -- each of these names segments that are stored
  abbrev AreNamed : List Entry → Type 0
  AreNamed list = All (λ entry. All (λ segment. is_side_stored log segment ≡ true) (segments_in entry)) list

  -- so what they name has what it had
  named_kept : (range : Range) (list : List Entry) → AreNamed list → flat_map (side_entries (w.sides ++ lists)) (named range list) ≡ flat_map (side_entries w.sides) (named range list)
  named_kept range list all =
      let same : length log.sides ≡ length w.sides =
      ap length kept.spelled ∙ length-map w.sides (λ (items : List Held). spelled_all (as_entries items)) in
      sides_kept w.sides lists (named range list)
      (All-weaker (λ number. is_side_stored log number ≡ true) (λ number. number < FIRST_SIDE_SEGMENT + length w.sides)
      (λ number its. let below = stored_below log number its in omega (arith, below, same))
      (named range list) (all_named (λ number. is_side_stored log number ≡ true) range list all))

  abbrev Names : Entry → Type 0
  Names entry = All (λ segment. is_side_stored log segment ≡ true) (segments_in entry)

  free_named : (marks : List Mark) (from : ℕ) (list : List Entry) → AreNamed list → AreNamed (unmarked_from marks from list)
  free_named marks from list all = unmarked_all Names marks from (drop from list) (All-drop Names from list all)

  first_named : AreNamed (applied_entries w)
  first_named = All-take Names w.applied w.entries kept.named

  -- what counts of all, and of what is applied
  pub material_kept : (range : Range) (from : ℕ) → log_material range w.marks (w.sides ++ lists) from w.entries ≡ log_material range w.marks w.sides from w.entries
  material_kept range from = search (unmarked_from, counting, named_kept, free_named, named)

  pub truth_kept : (range : Range) (from : ℕ) → log_material range w.marks (w.sides ++ lists) from (applied_entries w) ≡ log_material range w.marks w.sides from (applied_entries w)
  truth_kept range from = search (unmarked_from, applied_entries, counting, named_kept, free_named, first_named)

  pub applied_kept : (range : Range) (from : ℕ) → applied_from range from more ≡ applied_from range from w
  applied_kept range from =
      let own : List Entry = drop from (applied_entries w) in
      ap (λ (list : List Entry). counting range own ++ counting range list)
      (named_kept range own (All-drop Names from (applied_entries w) first_named))

  -- and the items that are named
  pub items_kept : (range : Range) (from : ℕ) → named_items range from more ≡ named_items range from w
  items_kept range from = search (is_in, items_of, named_kept, unmarked_from, free_named, named)
