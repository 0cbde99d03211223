use Rattle.rk_drive.specs.Hands.{IsHand}
use Rattle.rk_drive.proofs.turning.turn_all.Given as goal

abbrev pub invariant-loop-place : goal.invariant-loop-place
invariant-loop-place g l = IsHand l.parcels l.pass
