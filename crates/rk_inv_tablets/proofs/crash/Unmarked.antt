-- The entries of a log from a place on that bear no mark, and those that bear one, by their places.
use Rattle.std.proofs.Common.{◌≡◌, ℕ, zero, suc, ◌+◌, ◌<◌, ◌≤◌, true, false, List, [], ◌∷◌, Some, refl, sym, ap, ◌∙◌, arith, drop}
use Rattle.std.proofs.Common.{slice_get, take, Contains, take-append-drop, max, ⊎_elim}
use Rattle.rk_inv_base.proofs.Words.{cond_both, false≢true, Contains-append_right, Range, Entry, is_marked, unmarked_from, counting, counts}
use Rattle.rk_inv_base.proofs.Words.{Mark, marked_entries, is_joined_in, applied_entries, cases_lt, Written, joined_from}
use Rattle.rk_inv_tablets.proofs.Words.{Extends, counting_extends, still_contains, behind_at, stands_kept, place_of}
use Rattle.rk_inv_tablets.proofs.ready.OwnItems.{at_front, unmarked_at, unmarked_stands, none_stands, stands_at}
pub use Rattle.rk_inv_tablets.proofs.ready.OwnItems.{at_front as taken_at}

-- an entry that bears no mark, at its place from some place on
pub record IsUnmarked (marks : List Mark) (from : ℕ) (list : List Entry) (entry : Entry) : Type 0 where
  pub place : ℕ
  pub behind : from ≤ place
  pub stands : slice_get list place ≡ Some entry
  pub free : is_marked marks place ≡ false

module _ (marks : List Mark) where
  pub free_stands : (from : ℕ) (list : List Entry) (entry : Entry) → IsUnmarked marks from list entry → Contains (unmarked_from marks from list) entry
  free_stands from list entry is =
      let found = behind_at list from is.place entry is.behind is.stands in
      unmarked_stands marks from (drop from list) found.0 entry found.1 (ap (is_marked marks) found.2 ∙ is.free)

  pub free_place : (from : ℕ) (list : List Entry) (entry : Entry) → Contains (unmarked_from marks from list) entry → IsUnmarked marks from list entry
  free_place from list entry at =
      let found = unmarked_at marks from (drop from list) entry at in
      record {
        place = from + found.0;
        behind = omega arith;
        stands = place_of list from found.0 (from + found.0) entry refl found.1;
        free = found.2;
      }

  -- an entry with a mark that counts is among those that bear one
  marked_at : (range : Range) (start : ℕ) (list : List Entry) (k : ℕ) (entry : Entry) → slice_get list k ≡ Some entry → is_marked marks (start + k) ≡ true → counts range entry ≡ true → Contains (counting range (marked_entries marks start list)) entry
  marked_at range start list k entry at marked inside = stands_kept (counts range) (marked_entries marks start list) entry (its start list k at marked) inside
    where
      its : (start : ℕ) (list : List Entry) (k : ℕ) → slice_get list k ≡ Some entry → is_marked marks (start + k) ≡ true → Contains (marked_entries marks start list) entry
      its start [] k at marked = absurd (cc at)
      its start (first ∷ list) zero at marked =
          let here : start + 0 ≡ start = omega arith in
          let same : first ≡ entry = cc at in
          cond_both (is_marked marks start) (first ∷ marked_entries marks (suc start) list) (marked_entries marks (suc start) list) (λ l. Contains l entry)
          (λ e. (zero, omega arith, same))
          (λ e. absurd (false≢true (sym e ∙ sym (ap (is_marked marks) here) ∙ marked)))
      its start (first ∷ list) (suc k) at marked =
          let there : suc start + k ≡ start + suc k = omega arith in
          let later : Contains (marked_entries marks (suc start) list) entry = its (suc start) list k at (ap (is_marked marks) there ∙ marked) in
          cond_both (is_marked marks start) (first ∷ marked_entries marks (suc start) list) (marked_entries marks (suc start) list) (λ l. Contains l entry)
          (λ e. Contains-append_right (first ∷ []) (marked_entries marks (suc start) list) entry later) (λ e. later)

  pub marked_stands : (range : Range) (from : ℕ) (list : List Entry) (place : ℕ) (entry : Entry) → from ≤ place → slice_get list place ≡ Some entry → is_marked marks place ≡ true → counts range entry ≡ true → Contains (counting range (marked_entries marks from (drop from list))) entry
  marked_stands range from list place entry behind at marked inside =
      let found = behind_at list from place entry behind at in
      marked_at range from (drop from list) found.0 entry found.1 (ap (is_marked marks) found.2 ∙ marked) inside

-- so an entry that counts and bears no mark is among those of the first ones
pub first_stands : (marks : List Mark) (range : Range) (from count : ℕ) (list : List Entry) (entry : Entry) → (is : IsUnmarked marks from list entry) → is.place < count → counts range entry ≡ true → Contains (counting range (unmarked_from marks from (take count list))) entry
first_stands marks range from count list entry is before inside = grind (arith, stands_kept, counts, unmarked_from, free_stands, at_front)

-- the first entries with the others behind them
pub taken_extends : (count : ℕ) (list : List Entry) → Extends (take count list) list
taken_extends count list = record { more = drop count list; parts = sym (take-append-drop count list) }

-- what counts of the first ones counts of all
pub first_among : (marks : List Mark) (range : Range) (from count : ℕ) (list : List Entry) (entry : Entry) → Contains (counting range (unmarked_from marks from (take count list))) entry → Contains (counting range (unmarked_from marks from list)) entry
first_among marks range from count list entry at = search (still_contains, counting, unmarked_from, counting_extends, taken_extends)

-- if no Joined of a range is behind what is applied, an unmarked one is applied
pub joined_applied : (range : Range) (w : Written) (from : ℕ) → joined_from range (max from w.applied) w.entries ≡ [] → (entry : Entry) → Contains (unmarked_from w.marks from w.entries) entry → is_joined_in range entry ≡ true → Contains (unmarked_from w.marks from (applied_entries w)) entry
joined_applied range w from none entry at joins =
    let is = free_place w.marks from w.entries entry at in
    ⊎_elim
    (λ (before : is.place < w.applied).
    free_stands w.marks from (applied_entries w) entry
    (record { place = is.place; behind = is.behind; stands = at_front w.entries w.applied is.place entry before is.stands; free = is.free }))
    (λ (past : w.applied ≤ is.place).
    let rest : List Entry = drop (max from w.applied) w.entries in
    let found = behind_at w.entries (max from w.applied) is.place entry (omega (arith, is.behind, past)) is.stands in
    absurd (none_stands entry (rw none at (stands_kept (is_joined_in range) rest entry (stands_at rest found.0 entry found.1) joins))))
    (cases_lt is.place w.applied)
