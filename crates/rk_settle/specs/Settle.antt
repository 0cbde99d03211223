-- settle: crashed masters are noticed, and then rounds run until the cluster is at rest. In a round the lanes come one after the other: the
-- nodes of a lane take their turns, and then its wire is emptied.
use Rattle.std.specs.Prelude.{ℕ, ◌&&◌, Bool, not, if◌then◌else◌, List, [], ◌∷◌, ◌++◌, find, length, map, Option, Some, None}
use Rattle.std.specs.List.{flat_map, range_with_len}
use Rattle.rk_message.specs.Wire.{number_at}
use Rattle.rk_world.specs.declared.event.Event.TheVariants as events
use Rattle.rk_types.specs.NumberMap.{numbers}
use Rattle.rk_types.specs.declared.node.Node.TheVariants as nodes
use Rattle.rk_world.specs.Cluster.{Cluster, lane_at}
use Rattle.rk_world.specs.Coordinator.{is_noticed}
use Rattle.rk_world.specs.World.{World, has_crashed, live_masters}
use Rattle.rk_cluster.specs.Turns.{clients_in}
use Rattle.rk_settle.specs.Rest.{is_at_rest}
use Rattle.rk_settle.specs.Tasks.{asks, forgets, round_of, takes_turn}
use Rattle.rk_settle.specs.declared.task.Act.TheVariants as acts
use Rattle.rk_settle.specs.declared.task.Task.{Task}
use Rattle.rk_settle.specs.declared.task.Task.TheVariants as tasks

-- the numbers of a cluster's lanes
abbrev pub lane_numbers : Cluster → List ℕ
lane_numbers cluster = range_with_len 0 (length cluster.lanes)

-- whether a master of a lane has crashed and was not noticed there
abbrev pub is_unnoticed : World → ℕ → Bool
is_unnoticed w master = has_crashed w master && not (is_noticed w.coordinator master)

-- the lowest master of a lane that has crashed and was not noticed there
abbrev pub unnoticed : World → Option ℕ
unnoticed w = find (is_unnoticed w) (range_with_len 1 w.coordinator.masters)

-- this master, if there is one, is noticed, and then the next
abbrev pub notice_by : ℕ → Option ℕ → List Task
notice_by lane None = []
notice_by lane (Some master) = tasks.Occurs lane (acts.Happens (events.Notice master)) ∷ tasks.Notices lane ∷ []

-- the crashed masters of a lane that were not noticed there are noticed, by rising number
abbrev pub notice_tasks : World → ℕ → List Task
notice_tasks w lane = notice_by lane (unnoticed w)

-- what a lane does in a round
abbrev pub lane_tasks : ℕ → List Task
lane_tasks lane = tasks.Turns lane ∷ tasks.Empties lane ∷ []

-- a round, and then the next, while the cluster is not at rest
abbrev pub settling_tasks : Cluster → List Task
settling_tasks cluster =
    if is_at_rest cluster then [] else round_of (flat_map lane_tasks (lane_numbers cluster)) ++ tasks.Settles ∷ []

-- these clients, the coordinator and these masters take their turns in a lane
abbrev pub turns_of : ℕ → List ℕ → List ℕ → List Task
turns_of lane clients masters =
    map (asks lane) clients ++ takes_turn lane nodes.Coordinator ∷ map (λ master. takes_turn lane (nodes.Master master)) masters

-- the nodes of a lane take their turns: clients with an outstanding call there, the coordinator, and the masters that live
abbrev pub turn_tasks : Cluster → ℕ → List Task
turn_tasks cluster lane =
    turns_of lane (clients_in lane cluster.sessions) (numbers (live_masters (lane_at cluster lane)))

-- this message, if there is one, is delivered and forgotten, and then the next
abbrev pub empty_by : ℕ → Option ℕ → List Task
empty_by lane None = []
empty_by lane (Some number) = tasks.Delivers lane number ∷ forgets lane number ∷ tasks.Empties lane ∷ []

-- the oldest message of a lane is delivered and forgotten, until none is left
abbrev pub empty_tasks : World → ℕ → List Task
empty_tasks w lane = empty_by lane (number_at 1 w.wire)

-- settle
abbrev pub settle : Cluster → List Task
settle cluster = map tasks.Notices (lane_numbers cluster) ++ tasks.Settles ∷ []
