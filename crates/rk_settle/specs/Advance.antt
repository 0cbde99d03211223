-- advance: in each lane where a tablet migrates and is short of a reach, the migration is brought there, from reach to reach; what is done
-- already is passed over.
use Rattle.std.specs.Prelude.{ℕ, Bool, true, false, if◌then◌else◌, List, [], ◌∷◌, ◌++◌, map, Option, Some, None}
use Rattle.rk_tablet_map.specs.Rows.{row_of}
use Rattle.rk_tablet_map.specs.declared.phase.Phase.{Phase}
use Rattle.rk_tablet_map.specs.declared.phase.Phase.TheVariants.{Moving, Opening}
use Rattle.rk_tablet_map.specs.declared.row.Row.{Row}
use Rattle.rk_transfer.specs.declared.role.Role.{Role}
use Rattle.rk_transfer.specs.declared.role.Role.TheVariants as roles
use Rattle.rk_types.specs.declared.node.Node.TheVariants as nodes
use Rattle.rk_world.specs.Cluster.{Cluster}
use Rattle.rk_world.specs.World.{World, tablet_in}
use Rattle.rk_settle.specs.Reaches.{is_short_of}
use Rattle.rk_settle.specs.Settle.{lane_numbers}
use Rattle.rk_settle.specs.Tasks.{round_of, turn_exchange}
use Rattle.rk_settle.specs.declared.task.Task.{Task}
use Rattle.rk_settle.specs.declared.task.Task.TheVariants as tasks
use Rattle.rk_settle.specs.declared.topic.Topic.{Topic}
use Rattle.rk_settle.specs.declared.topic.Topic.TheVariants as topics
use Rattle.rk_types.specs.declared.reach.Reach.{Reach}
use Rattle.rk_types.specs.declared.reach.Reach.TheVariants.{Begun, Frozen, Granted, Pulled, Joined, Finished}

-- a reach and those before it, in their order
abbrev pub reaches_to : Reach → List Reach
reaches_to Begun = Begun ∷ []
reaches_to Frozen = Begun ∷ Frozen ∷ []
reaches_to Granted = Begun ∷ Frozen ∷ Granted ∷ []
reaches_to Pulled = Begun ∷ Frozen ∷ Granted ∷ Pulled ∷ []
reaches_to Joined = Begun ∷ Frozen ∷ Granted ∷ Pulled ∷ Joined ∷ []
reaches_to Finished = Begun ∷ Frozen ∷ Granted ∷ Pulled ∷ Joined ∷ Finished ∷ []

-- a migration that is short of a reach comes to all reaches up to it
abbrev pub advance_tasks : World → ℕ → ℕ → Reach → List Task
advance_tasks w lane tablet reach =
    if is_short_of w tablet reach then map (tasks.Reaches lane tablet) (reaches_to reach) else []

-- the coordinator takes its turn
abbrev pub coordinator_exchange : ℕ → Topic → Task
coordinator_exchange lane topic = turn_exchange lane topic nodes.Coordinator

-- a log exchange of a master, as a round
abbrev pub log_round : ℕ → ℕ → List Task
log_round lane master = round_of (turn_exchange lane topics.Log (nodes.Master master) ∷ [])

-- if the row does not move yet, the frozen source is asked once more what it hands over
abbrev pub transfer_tasks : ℕ → ℕ → Bool → List Task
transfer_tasks lane tablet opening = if opening then coordinator_exchange lane (topics.Handing tablet) ∷ [] else []

-- the target is granted the tablet
abbrev pub grant_task : ℕ → ℕ → Task
grant_task lane tablet = coordinator_exchange lane (topics.Granting tablet)

-- what brings a migration with this source and target, whose row moves or is opening, from the reach before to a reach
abbrev pub reach_between : ℕ → ℕ → Bool → ℕ → ℕ → Reach → List Task
reach_between lane tablet opening source target Begun = coordinator_exchange lane (topics.Readiness tablet) ∷ []
reach_between lane tablet opening source target Frozen =
    coordinator_exchange lane (topics.Closing tablet) ∷ tasks.Freezes lane tablet source ∷ []
reach_between lane tablet opening source target Granted =
    transfer_tasks lane tablet opening ++ grant_task lane tablet ∷ []
reach_between lane tablet opening source target Pulled =
    round_of (turn_exchange lane (topics.Pulls tablet) (nodes.Master target) ∷ []) ++ tasks.Reaches lane tablet Pulled ∷ []
reach_between lane tablet opening source target Joined = log_round lane target ++ tasks.Reaches lane tablet Joined ∷ []
reach_between lane tablet opening source target Finished = turn_exchange lane (topics.End tablet) (nodes.Master target) ∷ []

-- what brings a migration in this phase to a reach
abbrev pub reach_phase : ℕ → ℕ → Phase → Reach → List Task
reach_phase lane tablet (Opening source sfrom target dfrom) reach = reach_between lane tablet true source target reach
reach_phase lane tablet (Moving source sfrom target dfrom) reach = reach_between lane tablet false source target reach
reach_phase lane tablet phase reach = []

-- what brings the migration of a row, if there is one, to a reach
abbrev pub reach_row : ℕ → ℕ → Option Row → Reach → List Task
reach_row lane tablet None reach = []
reach_row lane tablet (Some row) reach = reach_phase lane tablet row.phase reach

-- what brings a migration to a reach, if it is short of it
abbrev pub reach_tasks : World → ℕ → ℕ → Reach → List Task
reach_tasks w lane tablet reach =
    if is_short_of w tablet reach then reach_row lane tablet (row_of w.coordinator.rows tablet) reach else []

-- a log exchange of the source, and then the next, while it closes the tablet
abbrev pub freeze_by : ℕ → ℕ → ℕ → Role → List Task
freeze_by lane tablet source roles.Closing = log_round lane source ++ tasks.Freezes lane tablet source ∷ []
freeze_by lane tablet source role = []

-- log exchanges of the source while it closes the tablet
abbrev pub freeze_tasks : World → ℕ → ℕ → ℕ → List Task
freeze_tasks w lane tablet source = freeze_by lane tablet source (tablet_in w source tablet).handover.role

-- advance
abbrev pub advance : Cluster → ℕ → Reach → List Task
advance cluster tablet reach = map (λ lane. tasks.Advances lane tablet reach) (lane_numbers cluster)
