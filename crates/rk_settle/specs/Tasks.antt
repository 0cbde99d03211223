-- The tasks of a settling command. A command is a list of tasks, done from the front: some make one occurrence, the others unfold into
-- smaller tasks once it is their turn, by the cluster as it is then.
use Rattle.std.specs.Prelude.{ℕ, List, [], ◌∷◌, ◌++◌}
use Rattle.rk_types.specs.declared.node.Node.{Node}
use Rattle.rk_world.specs.declared.event.Event.TheVariants as events
use Rattle.rk_world.specs.Cluster.{Asks, Occurrence}
use Rattle.rk_cluster.specs.Makes.{in_lane}
use Rattle.rk_settle.specs.declared.task.Act.{Act}
use Rattle.rk_settle.specs.declared.task.Act.TheVariants as acts
use Rattle.rk_settle.specs.declared.task.Task.{Task}
use Rattle.rk_settle.specs.declared.task.Task.TheVariants as tasks
use Rattle.rk_settle.specs.declared.topic.Topic.{Topic}

-- what occurs in a lane
abbrev pub occurrence_of : ℕ → Act → Occurrence
occurrence_of lane (acts.Happens event) = in_lane lane event
occurrence_of lane (acts.Asks client) = Asks lane client

-- a message is forgotten
abbrev pub forgets : ℕ → ℕ → Task
forgets lane number = tasks.Occurs lane (acts.Happens (events.Forget number))

-- a node takes its turn
abbrev pub takes_turn : ℕ → Node → Task
takes_turn lane node = tasks.Occurs lane (acts.Happens (events.Turn node))

-- a client takes its turn
abbrev pub asks : ℕ → ℕ → Task
asks lane client = tasks.Occurs lane (acts.Asks client)

-- a node takes its turn, and what it sends on a topic is delivered, and so on
abbrev pub turn_exchange : ℕ → Topic → Node → Task
turn_exchange lane topic node = tasks.Exchanges lane topic (acts.Happens (events.Turn node))

-- tasks are a round of the limit of faults
abbrev pub round_of : List Task → List Task
round_of inner = tasks.Begins ∷ inner ++ tasks.Ends ∷ []
