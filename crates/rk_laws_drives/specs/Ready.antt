-- Lanes and sessions that a drive gathered, once its clients have ended.
use Rattle.std.specs.Prelude.{◌≡◌, ◌<◌, ℕ, length}
use Rattle.rk_types.specs.NumberMap.{EachIn, IsInOrder}
use Rattle.rk_world.specs.Cluster.{Cluster, lane_at}
use Rattle.rk_laws_lanes.specs.GoodLane.{IsGoodLane}
use Rattle.rk_laws_lanes.specs.gathered.Gathered.{AreCounted, IsEnded}

-- good lanes that counted their calls, and sessions that ended, which made as many calls as the lanes were asked, or more
pub record AreReady (masters : ℕ) (cluster : Cluster) : Type 0 where
  pub lanes : (lane : ℕ) → lane < length cluster.lanes → IsGoodLane masters lane (lane_at cluster lane)
  pub order : IsInOrder cluster.sessions
  pub ended : EachIn IsEnded cluster.sessions
  pub counted : AreCounted cluster

-- a ready cluster stays ready, and has the sessions that it had
pub record StaysReady (masters : ℕ) (before after : Cluster) : Type 0 where
  pub ready : AreReady masters after
  pub sessions : after.sessions ≡ before.sessions
