-- What counts of the marked entries of a living master that rebuilds a row is in the piece that it merged.
use Rattle.std.proofs.Common.{◌≡◌, ◌<◌, ◌≤◌, ◌+◌, ℕ, suc, true, List, [], ◌∷◌, Some, refl, ap, ◌∙◌, arith, All, Contains, is_some}
use Rattle.std.proofs.Common.{slice_get}
use Rattle.rk_inv_base.proofs.Words.{cond_both, false≢true, All-cons, All-nil, Range, Entry, row_of, Row, is_marked, counting}
use Rattle.rk_inv_base.proofs.views.Among.{covered_by}
use Rattle.rk_inv_base.proofs.Words.{counts, Mark, marked_entries}

-- what each marked entry has that counts, all of them have
pub counted_each : (range : Range) (P : Entry → Type 0) (marks : List Mark) (place : ℕ) (list : List Entry) → ((k : ℕ) (entry : Entry) → slice_get list k ≡ Some entry → is_marked marks (place + k) ≡ true → counts range entry ≡ true → P entry) → All P (counting range (marked_entries marks place list))
counted_each range P marks place [] each = All-nil P
counted_each range P marks place (entry ∷ list) each =
    let rest : All P (counting range (marked_entries marks (suc place) list)) =
    counted_each range P marks (suc place) list
    (λ k e at is.
    let same : place + suc k ≡ suc place + k = omega arith in each (suc k) e at (ap (is_marked marks) same ∙ is)) in
    cond_both (is_marked marks place) (entry ∷ marked_entries marks (suc place) list) (marked_entries marks (suc place) list) (λ l. All P (counting range l))
    (λ is.
    cond_both (counts range entry) (entry ∷ counting range (marked_entries marks (suc place) list))
    (counting range (marked_entries marks (suc place) list)) (All P)
    (λ c.
    let same : place + 0 ≡ place = omega arith in
    All-cons P entry _ (each 0 entry refl (ap (is_marked marks) same ∙ is) c) rest)
    (λ none. rest))
    (λ none. rest)

-- a mark of a place
pub record HasMark (marks : List Mark) (place : ℕ) : Type 0 where
  pub mark : Mark
  pub here : Contains marks mark
  pub from : mark.first ≤ place
  pub before : place < mark.past

-- a marked place has one
pub mark_of : (marks : List Mark) (place : ℕ) → is_marked marks place ≡ true → HasMark marks place
mark_of marks place is =
    let covered = covered_by marks place is in
    record { mark = covered.mark; here = covered.stands; from = covered.first; before = covered.past }

-- the row of a tablet that has one
pub row_there : (rows : List Row) (tablet : ℕ) → is_some (row_of rows tablet) ≡ true → (row : Row) × (row_of rows tablet ≡ Some row)
row_there rows tablet some = grind (arith, row_of, false≢true)
