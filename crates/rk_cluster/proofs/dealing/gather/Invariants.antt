use Rattle.rk_cluster.proofs.Gathers.{IsGathering}
use Rattle.rk_cluster.proofs.dealing.gather.Given as goal

abbrev pub invariant-loop-place : goal.invariant-loop-place
invariant-loop-place g l = IsGathering l.fn.hands.items l.hands.items l.things.items l.place
