-- The turns in a lane if none would leave anything: their moves leave the cluster as it is.
use Rattle.rk_settle.proofs.Words.{◌≡◌, ℕ, suc, All, List, [], ◌∷◌, ◌++◌, map, slice_index_or, Option, None, Some, refl, sym, ap, subst}
use Rattle.rk_settle.proofs.Words.{◌∙◌, All-head, All-tail, Node, Segments, Cluster, lane_at, World, new_world, LaneState, ClusterState}
use Rattle.rk_settle.proofs.Words.{IsOf, counts_same, turns_of, MovesAll, Progress, Task}
use Rattle.std.proofs.Common.{zero, slice_get}
use Rattle.rk_types.specs.NumberMap.{numbers}
use Rattle.rk_types.specs.declared.node.Node.TheVariants as nodes
use Rattle.rk_world.specs.World.{live_masters}
use Rattle.rk_world.specs.declared.event.Event.TheVariants as events
use Rattle.rk_lane.specs.LaneState.{Running}
use Rattle.rk_lane.specs.Resting.{IsIdle}
use Rattle.rk_cluster.specs.State.{AreWorlds}
use Rattle.rk_cluster.specs.Turns.{IsIdleIn, clients_in, live_in}
use Rattle.rk_cluster.proofs.Idle.{idle_acts}
use Rattle.rk_settle.specs.Tasks.{takes_turn}
use Rattle.rk_settle.specs.declared.task.Act.TheVariants as acts
use Rattle.rk_settle.specs.declared.task.Task.TheVariants as made
use Rattle.rk_settle.proofs.Courses.{happens_moves}
use Rattle.rk_settle.proofs.Moving.{more_moved, none_moved, one_moved, unfolds_moves}

-- the masters that live in a lane in code, or in this world if there is no such lane
live_by : {R : Type 0} → LaneState R → Option Running → List ℕ
live_by lane None = []
live_by lane (Some running) = live_in lane running

live_at : {R : Type 0} → Option (LaneState R) → World → List ℕ
live_at None d = numbers (live_masters d)
live_at (Some lane) d = live_by lane lane.running

-- they live in each cluster that the one in code represents
live_are : {R : Type 0} (segments : R → Option Segments) (lanes : List (LaneState R)) (worlds : List World) (place : ℕ) (d : World) → AreWorlds segments lanes worlds
    → numbers (live_masters (slice_index_or worlds place d)) ≡ live_at (slice_get lanes place) d
unfolding live_at live_by
live_are segments [] [] place d are = refl
live_are segments [] (w ∷ worlds) place d are = absurd are
live_are segments (lane ∷ lanes) [] place d are = absurd are
live_are segments (lane ∷ lanes) (w ∷ worlds) zero d are =
    ap (λ (world : World). numbers (live_masters world)) are.0.is ∙ ap (live_by lane) (sym are.0.runs)
live_are segments (lane ∷ lanes) (w ∷ worlds) (suc place) d are = live_are segments lanes worlds place d are.1

module _ {R : Type 0} (segments : R → Option Segments) (faults : R → ℕ) (state : ClusterState R) (lane : ℕ) (idle : IsIdleIn segments state lane) (progress : Progress) where
  live : List ℕ
  live = live_at (slice_get state.lanes lane) (new_world lane 0 0)

  abbrev takes : List ℕ → List Task
  takes masters = map (λ master. takes_turn lane (nodes.Master master)) masters

  -- the turn of one node
  turn_moves : (node : Node) → ((cluster : Cluster) → IsOf segments state cluster → IsIdle (lane_at cluster lane) node) → (rest : List Task)
      → MovesAll segments faults state state (takes_turn lane node ∷ rest) rest progress progress
  turn_moves node is rest =
      one_moved segments faults state state (takes_turn lane node ∷ rest) rest progress progress
      (happens_moves segments faults state state lane (acts.Happens (events.Turn node)) (events.Turn node) refl (idle_acts segments state lane node idle.there is) (counts_same faults state) rest progress)

  -- the turns of masters
  masters_move : (masters : List ℕ) → ((cluster : Cluster) → IsOf segments state cluster → All (λ master. IsIdle (lane_at cluster lane) (nodes.Master master)) masters)
      → (rest : List Task) → MovesAll segments faults state state (takes masters ++ rest) rest progress progress
  masters_move [] are rest = none_moved segments faults state rest progress
  masters_move (master ∷ masters) are rest =
      more_moved segments faults state state state (takes (master ∷ masters) ++ rest) (takes masters ++ rest) rest progress progress progress
      (turn_moves (nodes.Master master) (λ cluster is. All-head (λ it. IsIdle (lane_at cluster lane) (nodes.Master it)) master masters (are cluster is)) (takes masters ++ rest))
      (masters_move masters (λ cluster is. All-tail (λ it. IsIdle (lane_at cluster lane) (nodes.Master it)) master masters (are cluster is)) rest)

  alive : (cluster : Cluster) → IsOf segments state cluster → numbers (live_masters (lane_at cluster lane)) ≡ live
  unfolding live live_at
  alive cluster is = live_are segments state.lanes cluster.lanes lane (new_world lane 0 0) is.lanes

  pub idle_moves : (rest : List Task) → MovesAll segments faults state state (made.Turns lane ∷ rest) rest progress progress
  idle_moves rest =
      more_moved segments faults state state state (made.Turns lane ∷ rest) (takes_turn lane nodes.Coordinator ∷ takes live ++ rest) rest progress progress progress
      (one_moved segments faults state state (made.Turns lane ∷ rest) (takes_turn lane nodes.Coordinator ∷ takes live ++ rest) progress progress
      (unfolds_moves segments faults state (made.Turns lane) rest (takes_turn lane nodes.Coordinator ∷ takes live ++ rest) progress
      (record { occurs = λ _ _ is. absurd (cc is); delivers = λ _ _ is. absurd (cc is); begins = λ is. absurd (cc is); ends = λ is. absurd (cc is) })
      (λ cluster is i. turns_of lane ((ap (clients_in lane) is.sessions ∙ idle.clients) i) (alive cluster is i) ++ rest)))
      (more_moved segments faults state state state (takes_turn lane nodes.Coordinator ∷ takes live ++ rest) (takes live ++ rest) rest progress progress progress
      (turn_moves nodes.Coordinator (λ cluster is. (idle.nodes cluster is).coordinator) (takes live ++ rest))
      (masters_move live (λ cluster is. subst (All (λ master. IsIdle (lane_at cluster lane) (nodes.Master master))) (alive cluster is) (idle.nodes cluster is).masters) rest))
