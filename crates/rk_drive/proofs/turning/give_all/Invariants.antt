use Rattle.rk_drive.specs.Hands.{IsHand}
use Rattle.rk_drive.proofs.turning.give_all.Given as goal

abbrev pub invariant-loop-number : goal.invariant-loop-number
invariant-loop-number g l = IsHand l.parcels l.pass
