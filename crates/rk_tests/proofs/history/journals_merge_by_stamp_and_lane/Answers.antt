use Rattle.std.proofs.Common.{zero, suc, List, [], ◌∷◌, sym, subst}
use Rattle.rk_types.specs.declared.history.Placed.{Placed}
use Rattle.rk_model.specs.Merged.{IsRisingAbove}
use Rattle.rk_history.specs.Journals.{AreRising}
use Rattle.rk_tests.proofs.history.journals_merge_by_stamp_and_lane.Goals as goal

-- each of three journals rises, and one of them is empty
three : (first third : List Placed) → IsRisingAbove 0 first → IsRisingAbove 0 third → AreRising (first ∷ [] ∷ third ∷ [])
three first third one two zero = one
three first third one two (suc zero) = tt
three first third one two (suc (suc zero)) = two
three first third one two (suc (suc (suc lane))) = tt

pub merge-requires-clause-rising : goal.merge-requires-clause-rising
merge-requires-clause-rising g c =
    three c.as_slice.result.now c.as_slice-2.result.now
    (subst (IsRisingAbove 0) (sym c.as_slice.ensures.value) c.in_ok-first.ensures)
    (subst (IsRisingAbove 0) (sym c.as_slice-2.ensures.value) c.in_ok-third.ensures)
