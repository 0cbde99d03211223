-- The nodes of a lane that take their turns.
use Rattle.std.specs.Prelude.{◌≡◌, ◌<◌, ℕ, ◌==◌, Bool, false, List, [], ◌∷◌, filter, length, map, Option, None, Some}
use Rattle.rk_types.specs.NumberMap.{NumberMap, numbers}
use Rattle.rk_types.specs.declared.call.Call.{Call}
use Rattle.rk_types.specs.declared.node.Node.{Node}
use Rattle.rk_types.specs.declared.node.Node.TheVariants as nodes
use Rattle.rk_outside.specs.Segments.{Segments}
use Rattle.rk_world.specs.Client.{Session, call_lane}
use Rattle.rk_world.specs.Cluster.{Cluster, lane_at}
use Rattle.rk_world.specs.World.{live_masters}
use Rattle.rk_world.specs.declared.event.Event.TheVariants as events
use Rattle.rk_lane.specs.LaneState.{LaneState, Running, world_with}
use Rattle.rk_lane.specs.Resting.{IsResting}
use Rattle.rk_cluster.specs.State.{ClusterState, IsOf}
use Rattle.rk_cluster.specs.declared.steps.Deed.{Deed}

-- whether a call, if there is one, belongs to a lane
abbrev pub is_call_in : ℕ → Option Call → Bool
is_call_in lane None = false
is_call_in lane (Some call) = call_lane call == lane

-- the clients with an outstanding call in a lane, by rising number
abbrev pub clients_in : ℕ → NumberMap Session → List ℕ
clients_in lane sessions = numbers (filter (λ entry. is_call_in lane entry.1.outstanding) sessions)

-- the masters that live in a lane in which this runs, by rising number
abbrev pub live_in : {R : Type 0} → LaneState R → Running → List ℕ
live_in lane running = numbers (live_masters (world_with lane running []))

-- no turn in a lane leaves anything: no call is outstanding there, and the coordinator and the masters that live are idle
pub record IsIdleIn {R : Type 0} (segments : R → Option Segments) (state : ClusterState R) (lane : ℕ) : Type 0 where
  pub there : lane < length state.lanes
  pub clients : clients_in lane state.sessions ≡ []
  pub nodes : (cluster : Cluster) → IsOf segments state cluster → IsResting (lane_at cluster lane)

-- the turn of a node in a lane
abbrev pub turn_of : ℕ → Node → Deed
turn_of lane node = record { lane = lane; event = events.Turn node }

-- the turns of the coordinator and of some masters in a lane
abbrev pub turns_of : ℕ → List ℕ → List Deed
turns_of lane masters = turn_of lane nodes.Coordinator ∷ map (λ master. turn_of lane (nodes.Master master)) masters
