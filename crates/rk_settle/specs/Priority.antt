-- priority: in each lane where a tablet moves, its target asks for the records that it wants first, if it wants some, and gets them.
use Rattle.std.specs.Prelude.{ℕ, ◌&&◌, Bool, if◌then◌else◌, List, [], ◌∷◌, map, Option, Some, None}
use Rattle.rk_types.specs.declared.node.Node.TheVariants as nodes
use Rattle.rk_priority.specs.Hashes.{is_waiting}
use Rattle.rk_tablet_map.specs.Rows.{row_of}
use Rattle.rk_tablet_map.specs.declared.phase.Phase.{Phase}
use Rattle.rk_tablet_map.specs.declared.phase.Phase.TheVariants.{Moving}
use Rattle.rk_tablet_map.specs.declared.row.Row.{Row}
use Rattle.rk_world.specs.Cluster.{Cluster}
use Rattle.rk_world.specs.Tablet.{Tablet}
use Rattle.rk_world.specs.RoleTests.{is_receiving}
use Rattle.rk_world.specs.World.{World, tablet_in}
use Rattle.rk_settle.specs.Settle.{lane_numbers}
use Rattle.rk_settle.specs.Tasks.{turn_exchange}
use Rattle.rk_settle.specs.declared.task.Task.{Task}
use Rattle.rk_settle.specs.declared.task.Task.TheVariants as tasks
use Rattle.rk_settle.specs.declared.topic.Topic.TheVariants as topics

-- whether a target that pulls wants some records first
abbrev pub wants_first : Tablet → Bool
wants_first tablet = is_receiving tablet.handover.role && is_waiting tablet.pulling.hashes

-- the target of a moving tablet asks for what it wants first
abbrev pub hasten_phase : World → ℕ → ℕ → Phase → List Task
hasten_phase w lane tablet (Moving source sfrom target dfrom) =
    if wants_first (tablet_in w target tablet) then turn_exchange lane (topics.Wants tablet) (nodes.Master target) ∷ [] else []
hasten_phase w lane tablet phase = []

-- the target of a row, if it moves, asks for what it wants first
abbrev pub hasten_row : World → ℕ → ℕ → Option Row → List Task
hasten_row w lane tablet None = []
hasten_row w lane tablet (Some row) = hasten_phase w lane tablet row.phase

-- the target of a tablet in a lane, if it moves there, asks for what it wants first
abbrev pub hasten_tasks : World → ℕ → ℕ → List Task
hasten_tasks w lane tablet = hasten_row w lane tablet (row_of w.coordinator.rows tablet)

-- priority
abbrev pub priority : Cluster → ℕ → List Task
priority cluster tablet = map (λ lane. tasks.Hastens lane tablet) (lane_numbers cluster)
