-- What the lanes of a cluster in code show of the clusters that it stands for.
use Rattle.std.specs.Prelude.{◌≡◌, List, Option, ⊤}
use Rattle.rk_types.specs.NumberMap.{NumberMap}
use Rattle.rk_outside.specs.Segments.{Segments}
use Rattle.rk_world.specs.Client.{Session}
use Rattle.rk_world.specs.Cluster.{Cluster}
use Rattle.rk_world.specs.World.{World}
use Rattle.rk_lane.specs.LaneState.{LaneState}
use Rattle.rk_cluster.specs.State.{ClusterState, IsOf, IsWorld}
use Rattle.rk_cluster.specs.Steps.{state_of}
use Rattle.rk_cluster.specs.declared.code.Code.{Code}
use Rattle.rk_cluster.specs.declared.error.ClusterError.{ClusterError}
use Rattle.rk_cluster.specs.declared.error.ClusterError.TheVariants as errors

-- in each world that a lane stands for, this is seen
abbrev pub LaneTells : {R T : Type 0} → (R → Option Segments) → LaneState R → (World → T) → T → Type 0
LaneTells segments lane look seen = (w : World) → IsWorld segments lane w → look w ≡ seen

-- in each cluster of the definitions that a cluster in code stands for, this is seen
abbrev pub Tells : {R T : Type 0} → (R → Option Segments) → ClusterState R → (Cluster → T) → T → Type 0
Tells segments state look seen = (cluster : Cluster) → IsOf segments state cluster → look cluster ≡ seen

-- in each cluster that lanes stand for, with whatever sessions, this is seen
abbrev pub LanesTell : {R T : Type 0} → (R → Option Segments) → List (LaneState R) → (Cluster → T) → T → Type 0
LanesTell segments lanes look seen = (sessions : NumberMap Session) → Tells segments (state_of lanes sessions) look seen

-- an error says that memory is wanting, or is a code of which this holds
abbrev pub WhereRefused : (Code → Type 0) → ClusterError → Type 0
WhereRefused Holds errors.NoMemory = ⊤
WhereRefused Holds (errors.Code code) = Holds code
WhereRefused Holds (errors.Worn number) = ⊥
