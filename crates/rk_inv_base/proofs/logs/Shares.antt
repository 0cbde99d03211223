-- What counts for a range of a log that grew by one entry at its end.
use Rattle.rk_inv_base.proofs.Words.{◌≡◌, ℕ, suc, ◌+◌, ◌≤◌, ◌<◌, Bool, true, false, ◌&&◌, ◌||◌, cond, leb, ltb, List, [], ◌∷◌, ◌++◌, length}
use Rattle.rk_inv_base.proofs.Words.{drop, fold, refl, sym, ap, ◌∙◌, ⊎_elim, arith, All, flat_map, le-ltb, length-drop, append-nil}
use Rattle.rk_inv_base.proofs.Words.{length-append, cases_lt, cond-true, cond-false, drop-append-le, flat_map-append, filter-append}
use Rattle.rk_inv_base.proofs.Words.{All-head, All-tail, Call, Held, Range, Entry, is_marked, unmarked, unmarked_from, touches, counts}
use Rattle.rk_inv_base.proofs.Words.{counting, with_number, named, named_by, material_of, side_entries, log_material, joined_from}
use Rattle.rk_inv_base.proofs.Words.{is_joined_in, has_key, Mark, segments_in, IsEntryOf}

pub append_nil : {X : Type 0} (xs : List X) → xs ++ [] ≡ xs
append_nil xs = append-nil xs

pub drop_all : {X : Type 0} (count : ℕ) (xs : List X) → length xs ≤ count → drop count xs ≡ []
drop_all count xs few = Rattle.std.proofs.lemmas.List.drop_all count xs few

-- one entry, or none if it bears a mark
abbrev pub unless_marked : Bool → Entry → List Entry
unless_marked marked entry = cond marked [] (entry ∷ [])

pub none_of : (a b c : Bool) → b ≡ false → c ≡ false → ((a && b) || c) ≡ false
none_of a b c e f = grind arith

-- no mark reaches a place behind all of them
pub marked_none : (marks : List Mark) (place : ℕ) → All (λ mark. mark.past ≤ place) marks → is_marked marks place ≡ false
marked_none [] place within = refl
marked_none (mark ∷ marks) place within =
    none_of (leb mark.first place) (ltb place mark.past) (is_marked marks place)
    (le-ltb place mark.past (All-head (λ m. m.past ≤ place) mark marks within))
    (marked_none marks place (All-tail (λ m. m.past ≤ place) mark marks within))

-- the entries that bear no mark, with one more behind them
pub unmarked_last : (marks : List Mark) (place : ℕ) (list : List Entry) (entry : Entry) → unmarked marks place (list ++ entry ∷ []) ≡ unmarked marks place list ++ unless_marked (is_marked marks (place + length list)) entry
unmarked_last marks place [] entry = grind (arith, is_marked)
unmarked_last marks place (first ∷ list) entry = grind (arith, unmarked, is_marked, (unmarked_last marks (suc place) list entry))

-- the same from a place on, which is one of the list or its end
pub unmarked_from_last : (marks : List Mark) (place : ℕ) (list : List Entry) (entry : Entry) → place ≤ length list → unmarked_from marks place (list ++ entry ∷ []) ≡ unmarked_from marks place list ++ unless_marked (is_marked marks (length list)) entry
unmarked_from_last marks place list entry within =
    grind (arith, length, drop, length-drop, unmarked, drop-append-le, unmarked_last, unmarked_from, is_marked)

-- and from a place behind the end nothing is there
pub drop_none : (place : ℕ) (list : List Entry) (entry : Entry) → length list < place → drop place (list ++ entry ∷ []) ≡ drop place list
drop_none place list entry beyond =
    drop_all place (list ++ entry ∷ []) (omega (arith, beyond, length-append list (entry ∷ []))) ∙ sym (drop_all place list (omega (arith, beyond)))

pub unmarked_from_none : (marks : List Mark) (place : ℕ) (list : List Entry) (entry : Entry) → length list < place → unmarked_from marks place (list ++ entry ∷ []) ≡ unmarked_from marks place list
unmarked_from_none marks place list entry beyond = ap (unmarked marks place) (drop_none place list entry beyond)

-- an entry that names no side segment lets the named ones be
pub named_same : (range : Range) (entry : Entry) (list : List Entry) (marked : Bool) → named_by range entry ≡ [] → named range (list ++ unless_marked marked entry) ≡ named range list
named_same range entry list marked none = grind (arith, named, append_nil, fold, with_number, flat_map-append, named_by, flat_map)

-- an entry of another range does not count
module _ (range : Range) (entry : Entry) (outside : counts range entry ≡ false) where
  counting_same : (list : List Entry) (marked : Bool) → counting range (list ++ unless_marked marked entry) ≡ counting range list
  counting_same list marked = grind (arith, counting, append_nil, filter-append, counts, cond-false)

  pub material_outside : (marks : List Mark) (sides : List (List Held)) (place : ℕ) (list : List Entry) → named_by range entry ≡ [] → log_material range marks sides place (list ++ entry ∷ []) ≡ log_material range marks sides place list
  material_outside marks sides place list none =
      ⊎_elim
      (λ (beyond : length list < place).
      ap (material_of range (side_entries sides)) (unmarked_from_none marks place list entry beyond))
      (λ (within : place ≤ length list).
      ap (material_of range (side_entries sides)) (unmarked_from_last marks place list entry within)
      ∙ (λ i.
      counting_same (unmarked_from marks place list) (is_marked marks (length list)) i
      ++ counting range (flat_map (side_entries sides) (named_same range entry (unmarked_from marks place list) (is_marked marks (length list)) none i))))
      (cases_lt (length list) place)

  pub rest_outside : (marks : List Mark) (place : ℕ) (list : List Entry) → counting range (unmarked_from marks place (list ++ entry ∷ [])) ≡ counting range (unmarked_from marks place list)
  rest_outside marks place list =
      grind (arith, length, counting, unmarked_from_none, unmarked_from_last, counting_same, unmarked_from, is_marked, cases_lt)

-- an entry of the range, behind all marks, comes last
module _ (range : Range) (entry : Entry) (inside : counts range entry ≡ true) where
  pub rest_inside : (marks : List Mark) (place : ℕ) (list : List Entry) → All (λ mark. mark.past ≤ length list) marks → place ≤ length list → counting range (unmarked_from marks place (list ++ entry ∷ [])) ≡ counting range (unmarked_from marks place list) ++ entry ∷ []
  rest_inside marks place list free within =
      grind (arith, counting, unmarked_from_last, unmarked_from, marked_none, length, filter-append, counts, cond-true)

-- one more entry that is no Joined of a range lets those of the range be
pub joined_same : (range : Range) (place : ℕ) (list : List Entry) (entry : Entry) → is_joined_in range entry ≡ false → joined_from range place (list ++ entry ∷ []) ≡ joined_from range place list
joined_same range place list entry other =
    grind (arith, is_joined_in, drop_none, drop-append-le, filter-append, joined_from, cond-false, append_nil, cases_lt)

-- ---- the entry of a call

-- it counts for the ranges that have the call's key, and touches these alone
pub counts_call : (range : Range) (call : Call) (entry : Entry) → IsEntryOf call entry → counts range entry ≡ has_key range call.table call.key
counts_call range call entry own = grind (arith, has_key)

pub touches_call : (range : Range) (call : Call) (entry : Entry) → IsEntryOf call entry → touches range entry ≡ counts range entry
touches_call range call entry own = grind arith

-- it names no side segment, and is no Joined
pub names_call : (range : Range) (call : Call) (entry : Entry) → IsEntryOf call entry → named_by range entry ≡ []
names_call range call entry own = grind arith

pub segments_call : (call : Call) (entry : Entry) → IsEntryOf call entry → segments_in entry ≡ []
segments_call call entry own = grind arith

pub joins_call : (range : Range) (call : Call) (entry : Entry) → IsEntryOf call entry → is_joined_in range entry ≡ false
joins_call range call entry own = grind arith
