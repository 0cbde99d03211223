-- Lemmas on what a failing append keeps.
use Rattle.std.proofs.Common.{◌≡◌, ℕ, List, [], ◌∷◌, length, take, drop, refl, sym, ap, arith}
use Rattle.std.proofs.lemmas.List.{take-append-drop}
use Rattle.rk_outside.specs.Segments.{with_part, ChangesAt, LeavesPart}
use Rattle.rk_outside.specs.Replicas.{SegmentMap, by_number, with_appended, with_kept}
use Rattle.rk_outside.proofs.Places.{ChangesAt-insert}

-- to keep some bytes is to append them
pub with_kept-some : (written : SegmentMap) (master segment : ℕ) (front bytes : List ℕ) → front ≡ bytes → (length front ≡ 0 → ⊥) → with_kept written master segment bytes ≡ with_appended written master segment front
with_kept-some written master segment front [] is some = absurd (some (ap length is))
with_kept-some written master segment front (byte ∷ bytes) is some = ap (with_appended written master segment) (sym is)

-- to keep none is to change nothing
pub with_kept-none : (written : SegmentMap) (master segment : ℕ) (front bytes : List ℕ) → front ≡ bytes → length front ≡ 0 → with_kept written master segment bytes ≡ written
with_kept-none written master segment front [] is none = refl
with_kept-none written master segment front (byte ∷ bytes) is none = let long = ap length is in absurd (omega (arith, long, none))

-- what is kept goes to the end of its segment alone
ChangesAt-with_kept : (written : SegmentMap) (master segment : ℕ) (bytes : List ℕ) → ChangesAt master segment (with_part (by_number written master segment) bytes) (by_number written) (by_number (with_kept written master segment bytes))
ChangesAt-with_kept written master segment [] = record { here = refl; others = λ m s apart. refl }
ChangesAt-with_kept written master segment (byte ∷ bytes) = ChangesAt-insert master segment _ written

-- to keep so many of the first bytes is to leave a first part
pub LeavesPart-with_kept : (written : SegmentMap) (master segment count : ℕ) (bytes : List ℕ) → LeavesPart master segment bytes (by_number written) (by_number (with_kept written master segment (take count bytes)))
LeavesPart-with_kept written master segment count bytes = record {
  front = take count bytes;
  back = drop count bytes;
  parts = sym (take-append-drop count bytes);
  change = ChangesAt-with_kept written master segment (take count bytes);
}
