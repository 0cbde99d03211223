-- What an event makes of the world.
use Rattle.std.specs.Prelude.{ℕ, ◌+◌, true, false, if◌then◌else◌, List, [], ◌∷◌, length, map, Option, Some, None, Result, Ok, Err}
use Rattle.rk_types.specs.NumberMap.{get}
use Rattle.rk_types.specs.declared.node.Node.{Node}
use Rattle.rk_types.specs.declared.node.Node.TheVariants as nodes
use Rattle.rk_types.specs.declared.range.Range.{Range}
use Rattle.rk_log.specs.Log.{bytes_of}
use Rattle.rk_transfer.specs.declared.role.Role.TheVariants as roles
use Rattle.rk_message.specs.Wire.{without_message, Traffic}
use Rattle.rk_message.specs.declared.message.Body.{Body}
use Rattle.rk_message.specs.declared.message.Body.TheVariants as bodies
use Rattle.rk_message.specs.declared.message.Message.{Message}
use Rattle.rk_world.specs.declared.error.StepError.{StepError}
use Rattle.rk_world.specs.declared.event.Event.{Event}
use Rattle.rk_world.specs.declared.event.Event.TheVariants as events
use Rattle.rk_world.specs.declared.event.Seen.{Seen}
use Rattle.rk_world.specs.Master.{Master, tablet_at, with_tablet}
use Rattle.rk_world.specs.Worked.{Worked}
use Rattle.rk_world.specs.MasterStep.{master_step}
use Rattle.rk_world.specs.MasterTurn.{master_turn}
use Rattle.rk_world.specs.Coordinator.{new_row, with_row}
use Rattle.rk_world.specs.CoordinatorStep.{coordinator_step, coordinator_turn}
use Rattle.rk_world.specs.Migrations.{tablet_migrated}
use Rattle.rk_world.specs.Notices.{coordinator_notice}
use Rattle.rk_world.specs.Backup.{Backed, backup_step, Gave, Called, stored_after, called_by}
use Rattle.rk_world.specs.Replies.{filled}
use Rattle.rk_world.specs.Ledger.{Ledger, is_added, with_client, with_all_served, with_marks, with_rebuilt}
use Rattle.rk_world.specs.World.{with_all_sent, World, master_at, backup_at, has_crashed, crashed_masters, with_master, with_coordinator, with_ledger, with_crash, with_top, with_wire, is_backup, with_stored_by}
use Rattle.rk_world.specs.Splits.{tablet_split}
use Rattle.rk_world.specs.Refusals.{refusal}

-- what an event makes: the world after it, and what it showed
pub record Stepped : Type 0 where
  pub world : World
  pub seen : Seen

-- the number of the first of these messages that are sent next, 0 if there is none
abbrev pub first_number : Traffic → List Message → ℕ
first_number wire [] = 0
first_number wire (message ∷ more) = wire.sent + 1

-- nothing was sent, and nothing lost
abbrev pub quietly : World → Stepped
quietly w = record { world = with_top w; seen = record { first = 0; sent = 0; lost = false; taken = None } }

-- messages are sent
abbrev pub with_sends : World → List Message → Stepped
with_sends w messages = record {
  world = with_top (with_all_sent w messages);
  seen = record { first = first_number w.wire messages; sent = length messages; lost = false; taken = None };
}

-- the message was lost
abbrev pub losing : World → Stepped
losing w = record { world = with_top w; seen = record { first = 0; sent = 0; lost = true; taken = None } }

-- the stamp that the client of a request has seen
abbrev pub seen_in : Body → ℕ
seen_in (bodies.Request request) = request.seen
seen_in _ = 0

-- the ledger after a master's work: served calls get their records, and the pieces of a rebuild are marked
abbrev pub ledger_after : Ledger → ℕ → ℕ → Worked → Ledger
ledger_after ledger master seen worked = with_marks (with_all_served seen ledger worked.served) worked.marked

-- a master has worked: what it sends gets the stamps and places of its records
abbrev pub worked_at : World → ℕ → ℕ → Worked → Stepped
worked_at w master seen worked =
    let ledger = ledger_after w.ledger master seen worked in
    with_sends (with_ledger (with_master w master worked.master) ledger) (map (filled ledger.journal worked.served) worked.sends)

-- a message reaches a master; a master that has crashed loses it
abbrev pub to_master : World → ℕ → Message → Stepped
to_master w master message =
    if has_crashed w master then losing w
    else worked_at w master (seen_in message.body) (master_step (master_at w master) message)

-- a message reaches the coordinator
abbrev pub to_coordinator : World → Message → Stepped
to_coordinator w message =
    let taken = coordinator_step w.coordinator message in
    with_sends (with_ledger (with_coordinator w taken.coordinator) (with_rebuilt w.ledger taken.rebuilt)) taken.sends

-- the bytes of a segment of a master's log
abbrev pub log_bytes_of : World → ℕ → ℕ → List ℕ
log_bytes_of w master segment = bytes_of (master_at w master).log segment

-- a backup has worked; if its replica failed, the message is lost
abbrev pub backed_at : World → Backed → Stepped
backed_at w backed = if backed.lost then losing w else with_sends w backed.sends

-- a message reaches a backup, if that is there
abbrev pub to_backup : World → ℕ → Node → Body → Called → Stepped
to_backup w backup sender body called =
    if is_backup w backup
    then backed_at
    (with_stored_by w backup (λ segments. stored_after segments sender body called) (get w.backups backup))
    (backup_step backup sender body (log_bytes_of w) called)
    else quietly w

-- a message reaches its receiver; `called` says what the call of a replica came to
abbrev pub delivered_to : World → Message → Node → Called → Stepped
delivered_to w message (nodes.Client client) called = quietly w
delivered_to w message nodes.Coordinator called = to_coordinator w message
delivered_to w message (nodes.Master master) called = to_master w master message
delivered_to w message (nodes.Backup backup) called = to_backup w backup message.from message.body called

-- a message of the wire is delivered, if it is there
abbrev pub delivered : World → Option Message → Called → Stepped
delivered w None called = quietly w
delivered w (Some message) called = delivered_to w message message.to called

-- a node takes its turn; clients take theirs by asking, and backups have no duties
abbrev pub turned : World → Node → Stepped
turned w (nodes.Client client) = quietly w
turned w nodes.Coordinator = with_sends w (coordinator_turn w.coordinator)
turned w (nodes.Master master) = worked_at w master 0 (master_turn (master_at w master))
turned w (nodes.Backup backup) = quietly w

-- a client is added, unless it is there
abbrev pub client_added : World → ℕ → World
client_added w client = if is_added w.ledger client then w else with_ledger w (with_client w.ledger client)

-- a tablet is served from the start
abbrev pub with_added : Master → ℕ → Range → Master
with_added master number range =
    with_tablet master number
    (record (tablet_at master number) {
      handover = record { role = roles.Serving; term = 1; range = range; counter = 1 };
    })

-- a tablet is added, and its master serves it at once
abbrev pub tablet_added : World → ℕ → Range → ℕ → World
tablet_added w tablet range master =
    with_coordinator (with_master w master (with_added (master_at w master) tablet range))
    (with_row w.coordinator (new_row tablet range master))

-- the last request of a client is sent once more
abbrev pub sent_again : World → Option Message → Stepped
sent_again w None = quietly w
sent_again w (Some message) = with_sends w (message ∷ [])

-- what an event makes of the world, if it is not refused
abbrev pub happened : World → Event → Called → Stepped
happened w (events.AddTablet tablet range master) called = quietly (tablet_added w tablet range master)
happened w (events.AddClient client) called = quietly (client_added w client)
happened w (events.Deliver number) called = delivered w (get w.wire.messages number) called
happened w (events.Forget number) called = quietly (with_wire w (without_message number w.wire))
happened w (events.Turn node) called = turned w node
happened w (events.Again client) called = sent_again w (get w.ledger.requests client)
happened w (events.Migrate tablet to) called =
    quietly (with_coordinator w (tablet_migrated w.coordinator tablet to))
happened w (events.Split tablet at new) called = quietly (tablet_split w tablet at new)
happened w (events.Crash master) called = quietly (with_crash w master)
happened w (events.Notice master) called =
    quietly (with_coordinator w (coordinator_notice w.coordinator master (crashed_masters w)))

-- an event, unless it is refused
abbrev pub stepped_by : World → Event → Called → Option StepError → Result Stepped StepError
stepped_by w event called None = Ok (happened w event called)
stepped_by w event called (Some error) = Err error

-- what an event makes of a world, or why it is refused; `called` says what the call of a replica came to, if the event makes
-- one
abbrev pub step : World → Event → Called → Result Stepped StepError
step w event called = stepped_by w event called (refusal w event)

-- what the call of a replica comes to when this message reaches its receiver
abbrev pub told_to : World → Message → Node → Option ℕ → Called
told_to w message (nodes.Backup backup) fault = called_by (backup_at w backup) message.from message.body fault
told_to w message to fault = Gave None

-- what the delivery of a message comes to at a replica that reports its segments; `fault` says whether that fails
abbrev pub told_for : World → Option Message → Option ℕ → Called
told_for w None fault = Gave None
told_for w (Some message) fault = told_to w message message.to fault

-- what an event comes to at replicas that report their segments; `fault` says whether the one that is called fails
abbrev pub told_by_replica : World → Event → Option ℕ → Called
told_by_replica w (events.Deliver number) fault = told_for w (get w.wire.messages number) fault
told_by_replica w event fault = Gave None
