use Rattle.rk_drive.specs.Hands.{IsHand}
use Rattle.rk_drive.proofs.replaying.run_replays.Given as goal

abbrev pub invariant-loop : goal.invariant-loop
invariant-loop g l = IsHand l.parcels l.pass
