-- Which events a lane refuses, and why.
use Rattle.std.specs.Prelude.{ℕ, ◌^◌, ◌==◌, ◌&&◌, Bool, true, false, not, nat_le, if◌then◌else◌, length, Option, Some, None, is_some}
use Rattle.std.specs.Option.{option_map, option_or}
use Rattle.rk_types.specs.NumberMap.{get}
use Rattle.rk_types.specs.declared.call.Call.{Call}
use Rattle.rk_types.specs.declared.node.Node.{Node}
use Rattle.rk_types.specs.declared.node.Node.TheVariants as nodes
use Rattle.rk_tablet_map.specs.Rows.{add_fault}
use Rattle.rk_message.specs.declared.message.Message.{Message}
use Rattle.rk_world.specs.declared.error.StepError.{StepError}
use Rattle.rk_world.specs.declared.error.StepError.TheVariants as errors
use Rattle.rk_world.specs.declared.event.Event.{Event}
use Rattle.rk_world.specs.declared.event.Event.TheVariants as events
use Rattle.rk_world.specs.Coordinator.{new_row}
use Rattle.rk_world.specs.Migrations.{migrate_fault}
use Rattle.rk_world.specs.Client.{Session}
use Rattle.rk_world.specs.Ledger.{is_added}
use Rattle.rk_world.specs.World.{World, has_crashed, bytes_of_logs}
use Rattle.rk_world.specs.Splits.{tablet_split_fault}

-- from here on a number that grows is too great
abbrev pub WORN_NUMBER : ℕ
WORN_NUMBER = 2 ^ 48

-- from here on the bytes of all logs of a lane are too many
abbrev pub WORN_BYTES : ℕ
WORN_BYTES = 2 ^ 28

-- as many clients as a lane takes
abbrev pub MOST_CLIENTS : ℕ
MOST_CLIENTS = 64

-- a number that is too great
abbrev pub too_great : ℕ → ℕ → Option ℕ
too_great limit number = if nat_le limit number then Some number else None

-- the first number of a lane that is too great: the greatest in it so far, or the bytes of its logs
abbrev pub worn : World → Option ℕ
worn w = option_or (too_great WORN_NUMBER w.top) (too_great WORN_BYTES (bytes_of_logs w))

-- the first number of a session that is too great: the seq of its call, or the stamp that it has seen
abbrev pub worn_session : Session → Option Call → Option ℕ
worn_session session None = too_great WORN_NUMBER session.seen
worn_session session (Some call) = option_or (too_great WORN_NUMBER call.seq) (too_great WORN_NUMBER session.seen)

-- a cause, if a test holds
abbrev pub where_true : Bool → StepError → Option StepError
where_true holds cause = if holds then Some cause else None

-- a message for a client is not delivered
abbrev pub address_fault : ℕ → Node → Option StepError
address_fault number (nodes.Client client) = Some (errors.Address number)
address_fault number _ = None

-- why a message cannot be delivered: it is not on the wire, or is for a client, which takes it itself
abbrev pub delivery_fault : ℕ → Option Message → Option StepError
delivery_fault number None = Some (errors.NoMessage number)
delivery_fault number (Some message) = address_fault number message.to

-- why a message cannot be forgotten
abbrev pub wire_fault : ℕ → Option Message → Option StepError
wire_fault number None = Some (errors.NoMessage number)
wire_fault number (Some message) = None

-- why a node cannot take its turn: a crashed master, or a client that was not added
abbrev pub turn_fault : World → Node → Option StepError
turn_fault w (nodes.Client client) = where_true (not (is_added w.ledger client)) (errors.Stranger client)
turn_fault w nodes.Coordinator = None
turn_fault w (nodes.Master master) = where_true (has_crashed w master) (errors.Dead master)
turn_fault w (nodes.Backup backup) = None

-- why an event is refused, by the rules of its kind, in their order
abbrev pub fault_of : World → Event → Option StepError
fault_of w (events.AddTablet tablet range master) =
    option_or (where_true (has_crashed w master) (errors.Dead master))
    (option_map errors.Map (add_fault w.coordinator.rows (new_row tablet range master)))
fault_of w (events.AddClient client) =
    where_true (not (is_added w.ledger client) && nat_le MOST_CLIENTS (length w.ledger.clients)) errors.TooMany
fault_of w (events.Deliver number) = delivery_fault number (get w.wire.messages number)
fault_of w (events.Forget number) = wire_fault number (get w.wire.messages number)
fault_of w (events.Turn node) = turn_fault w node
fault_of w (events.Again client) =
    option_or (where_true (not (is_added w.ledger client)) (errors.Stranger client))
    (where_true (not (is_some (get w.ledger.requests client))) (errors.NoMessage 0))
fault_of w (events.Migrate tablet to) =
    option_or (where_true (has_crashed w to) (errors.Dead to))
    (option_map errors.Move (migrate_fault w.coordinator tablet to))
fault_of w (events.Split tablet at new) = option_map errors.Move (tablet_split_fault w.coordinator tablet at new)
fault_of w (events.Crash master) = where_true (has_crashed w master) (errors.Dead master)
fault_of w (events.Notice master) = where_true (not (has_crashed w master)) (errors.Alive master)

-- whether an event may come even if the lane is worn
abbrev pub comes_anyway : Event → Bool
comes_anyway (events.Forget number) = true
comes_anyway (events.Crash master) = true
comes_anyway _ = false

-- why an event is refused: a worn lane comes before all other causes
abbrev pub refusal : World → Event → Option StepError
refusal w event =
    if comes_anyway event then fault_of w event
    else option_or (option_map errors.Worn (worn w)) (fault_of w event)

-- why a client's turn is refused in a lane
abbrev pub ask_refusal : World → Session → Option StepError
ask_refusal w session =
    option_or (option_map errors.Worn (option_or (worn w) (worn_session session session.outstanding)))
    (where_true (not (is_added w.ledger session.client)) (errors.Stranger session.client))

-- whether a node is this client
abbrev pub is_for : ℕ → Node → Bool
is_for client (nodes.Client other) = other == client
is_for client _ = false

-- why a client cannot take a message of a lane: it is not on the wire, or is for another node, or the client was not added
abbrev pub accept_refusal : World → ℕ → ℕ → Option Message → Option StepError
accept_refusal w number client None = Some (errors.NoMessage number)
accept_refusal w number client (Some message) =
    option_or (where_true (not (is_for client message.to)) (errors.Address number))
    (where_true (not (is_added w.ledger client)) (errors.Stranger client))
