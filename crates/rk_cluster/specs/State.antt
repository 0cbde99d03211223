-- What contracts see of a cluster in code, and the clusters of the definitions that it stands for.
use Rattle.std.specs.Prelude.{◌≡◌, List, [], ◌∷◌, Bool, not, Option, Some, is_some, ⊤}
use Rattle.std.specs.List.{list_any}
use Rattle.rk_types.specs.NumberMap.{NumberMap}
use Rattle.rk_outside.specs.Segments.{Segments}
use Rattle.rk_world.specs.Client.{Session}
use Rattle.rk_world.specs.Cluster.{Cluster}
use Rattle.rk_world.specs.Replicas.{AllTell}
use Rattle.rk_world.specs.World.{World}
use Rattle.rk_lane.specs.LaneState.{AreTold, LaneState, Running, world_with}

-- what contracts see of a cluster: its lanes, lane 0 first, and the session of each client that has one
pub record ClusterState (R : Type 0) : Type 0 where
  pub lanes : List (LaneState R)
  pub sessions : NumberMap Session

-- a lane that is not spent, and whose replicas all report what they store, stands for a world: what the world's backups store is what
-- their replicas report
pub record IsWorld {R : Type 0} (segments : R → Option Segments) (lane : LaneState R) (w : World) : Type 0 where
  pub running : Running
  pub runs : lane.running ≡ Some running
  pub stored : NumberMap Segments
  pub told : AreTold segments lane.backups stored
  pub is : w ≡ world_with lane running stored
  pub all : AllTell w

-- lanes stand for worlds, one for one
abbrev pub AreWorlds : {R : Type 0} → (R → Option Segments) → List (LaneState R) → List World → Type 0
AreWorlds segments [] [] = ⊤
AreWorlds segments (lane ∷ lanes) (w ∷ worlds) = IsWorld segments lane w × AreWorlds segments lanes worlds
AreWorlds segments lanes worlds = ⊥

-- a cluster in code stands for a cluster of the definitions; if a lane of it is spent, or a replica does not report what it stores, it
-- stands for none
pub record IsOf {R : Type 0} (segments : R → Option Segments) (state : ClusterState R) (cluster : Cluster) : Type 0 where
  pub lanes : AreWorlds segments state.lanes cluster.lanes
  pub sessions : cluster.sessions ≡ state.sessions

-- whether a lane is spent
abbrev pub is_spent : {R : Type 0} → LaneState R → Bool
is_spent lane = not (is_some lane.running)

-- whether some lane of a cluster is
abbrev pub has_spent : {R : Type 0} → List (LaneState R) → Bool
has_spent lanes = list_any is_spent lanes
