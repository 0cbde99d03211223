use Rattle.rk_cluster.proofs.Words.{All, take, lives_another, HoldsIn}
use Rattle.rk_cluster.proofs.cluster.crashing.lives_another.Given as goal

abbrev pub invariant-loop-lane : goal.invariant-loop-lane
invariant-loop-lane g l = All (HoldsIn (λ w. lives_another w l.master)) (take l.lane-index l.lanes)
