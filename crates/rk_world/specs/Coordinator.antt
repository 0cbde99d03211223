-- The coordinator: the rows of its tablet map, who was noticed dead, what sources handed over; and the small changes of these.
use Rattle.std.specs.Prelude.{ℕ, ◌+◌, ◌==◌, Bool, not, List, [], find, Option, Some, None, unwrap_or}
use Rattle.std.specs.List.{list_any, range_with_len}
use Rattle.rk_types.specs.NumberMap.{NumberMap, insert}
use Rattle.rk_types.specs.declared.call.Ended.{Ended}
use Rattle.rk_types.specs.declared.node.Node.{Node}
use Rattle.rk_types.specs.declared.node.Node.TheVariants as nodes
use Rattle.rk_types.specs.declared.range.Range.{Range}
use Rattle.rk_tablet_map.specs.Rows.{placed, changed_rows}
use Rattle.rk_tablet_map.specs.declared.phase.Phase.{Phase}
use Rattle.rk_tablet_map.specs.declared.phase.Phase.TheVariants.{Owned, Opening, Moving, Rebuilding}
use Rattle.rk_tablet_map.specs.declared.row.Row.{Row}
use Rattle.rk_message.specs.declared.handover.Tenure.{Tenure}
use Rattle.rk_message.specs.declared.message.Body.{Body}
use Rattle.rk_message.specs.declared.message.Message.{Message}

-- what a source handed over when its tablet froze: a number above each version, and the last end of each client
pub record Handed : Type 0 where
  pub floor : ℕ
  pub ends : List Ended

-- the coordinator: how many masters there are, the rows by rising tablet, the masters that it noticed dead, and what the
-- sources handed over of the tablets that move
pub record Coordinator : Type 0 where
  pub masters : ℕ
  pub rows : List Row
  pub noticed : List ℕ
  pub handed : NumberMap Handed

-- a coordinator without rows
abbrev pub new_coordinator : ℕ → Coordinator
new_coordinator masters = record { masters = masters; rows = []; noticed = []; handed = [] }

-- whether a master was noticed dead
abbrev pub is_noticed : Coordinator → ℕ → Bool
is_noticed coordinator master = list_any (λ noticed. noticed == master) coordinator.noticed

-- the lowest master that was not noticed dead
abbrev pub lowest_left : Coordinator → ℕ
lowest_left coordinator =
    unwrap_or (find (λ master. not (is_noticed coordinator master)) (range_with_len 1 coordinator.masters)) 0

-- a row is at another phase, at its term
abbrev pub with_phase : Coordinator → Row → Phase → Coordinator
with_phase coordinator row phase =
    record coordinator { rows = changed_rows coordinator.rows row.tablet row.term phase }

-- a row is at the next term and another phase
abbrev pub with_term : Coordinator → Row → Phase → Coordinator
with_term coordinator row phase =
    record coordinator { rows = changed_rows coordinator.rows row.tablet (row.term + 1) phase }

-- what a source handed over is noted for the grant
abbrev pub with_handed : Coordinator → ℕ → Handed → Coordinator
with_handed coordinator tablet handed = record coordinator { handed = insert coordinator.handed tablet handed }

-- the row of a new tablet
abbrev pub new_row : ℕ → Range → ℕ → Row
new_row tablet range master = record { tablet = tablet; range = range; term = 1; phase = Owned master 0 }

-- a tablet is added
abbrev pub with_row : Coordinator → Row → Coordinator
with_row coordinator row = record coordinator { rows = placed row coordinator.rows }

-- a message from the coordinator
abbrev pub from_coordinator : Node → Body → Message
from_coordinator to body = record { from = nodes.Coordinator; to = to; body = body }

-- the tenure of a row
abbrev pub row_tenure : Row → Tenure
row_tenure row = record { tablet = row.tablet; term = row.term }

-- the master that answers calls for a tablet: while it opens the source, while it moves the target, while it is rebuilt
-- none
abbrev pub owner_of : Phase → Option ℕ
owner_of (Owned master from) = Some master
owner_of (Opening source sfrom target dfrom) = Some source
owner_of (Moving source sfrom target dfrom) = Some target
owner_of (Rebuilding lineage to) = None
