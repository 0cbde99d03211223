-- One lane of a cluster is another.
use Rattle.std.proofs.Common.{◌<◌, ℕ, length, arith, get_or-set_other, length-set}
use Rattle.rk_inv_base.proofs.Words.{cases_eq, Cluster, lane_at, with_lane, World, new_world}
use Rattle.rk_runs.proofs.history.Clusters.{lane_here}

-- what each lane of a cluster has
abbrev pub EachLane : (World → Type 0) → Cluster → Type 0
EachLane P cluster = (lane : ℕ) → lane < length cluster.lanes → P (lane_at cluster lane)

-- each has it with another lane in the place of one, if that has it
pub each_lane : (P : World → Type 0) (cluster : Cluster) (lane : ℕ) (now : World) → (lane < length cluster.lanes → P now) → EachLane P cluster → EachLane P (with_lane cluster lane now)
each_lane P cluster lane now new each q inside =
    grind (arith, length-set, lane_at, with_lane, lane_here, get_or-set_other, new_world, cases_eq)
