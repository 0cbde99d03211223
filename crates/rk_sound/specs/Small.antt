-- Small changes of the world that the first laws are about, and what they make of a view. A change of a view has the name of the
-- change of the world, and its condition is in `Changes` or `Moves`.
use Rattle.std.specs.Prelude.{◌==◌, ℕ, ◌+◌, if◌then◌else◌, List, [], ◌∷◌, ◌++◌, length, slice_get, Option, Some, Bool}
use Rattle.rk_types.specs.NumberMap.{insert, remove, get}
use Rattle.rk_types.specs.declared.call.Call.{Call}
use Rattle.rk_types.specs.declared.call.Ended.{Ended}
use Rattle.rk_types.specs.declared.call.Outcome.{Outcome}
use Rattle.rk_types.specs.declared.held.Held.{Held}
use Rattle.rk_types.specs.declared.held.Token.{Token}
use Rattle.rk_types.specs.declared.range.Range.{Range}
use Rattle.rk_entry.specs.declared.entry.Entry.{Entry}
use Rattle.rk_entry.specs.declared.entry.Entry.TheVariants as entries
use Rattle.rk_log.specs.Log.{with_entry, with_told}
use Rattle.rk_table.specs.Items.{without, with_newer}
use Rattle.rk_transfer.specs.declared.handover.Handover.{Handover}
use Rattle.rk_transfer.specs.declared.role.Role.TheVariants as roles
use Rattle.rk_tablet_map.specs.Rows.{placed, replaced}
use Rattle.rk_tablet_map.specs.declared.row.Row.{Row}
use Rattle.rk_priority.specs.Hashes.{Hashes, batched, got, wanting}
use Rattle.rk_message.specs.Wire.{without_message, with_message}
use Rattle.rk_message.specs.declared.message.Message.{Message}
use Rattle.rk_message.specs.declared.rebuilding.CopySegment.{CopySegment}
use Rattle.rk_world.specs.Backup.{with_more}
use Rattle.rk_world.specs.Gather.{Gather, gathering}
use Rattle.rk_world.specs.Tablet.{Pulling, with_handover}
use Rattle.rk_world.specs.Master.{with_tablet, with_known}
use Rattle.rk_world.specs.Handovers.{tablet_closed, tablet_released, tablet_owned}
use Rattle.rk_world.specs.Requests.{hash_wanted, item_of, refusal_of, refusal_staged, write_staged}
use Rattle.rk_world.specs.Pulls.{hashes_resolved, item_replayed, token_passed, with_pulled}
use Rattle.rk_world.specs.Rebuilds.{segment_gathered}
use Rattle.rk_world.specs.MasterTurn.{batch_asked}
use Rattle.rk_world.specs.CoordinatorStep.{place_noted}
use Rattle.rk_world.specs.Coordinator.{new_row}
use Rattle.rk_world.specs.Migrations.{migration_begun}
use Rattle.rk_world.specs.Notices.{notice_one}
use Rattle.rk_world.specs.Journal.{accepted_at, next_record}
use Rattle.rk_world.specs.declared.ledger.LastCall.{LastCall}
use Rattle.rk_world.specs.Ledger.{with_accepted, with_asked, with_client, with_request, with_record}
use Rattle.rk_world.specs.Waiting.{closing_appended}
use Rattle.rk_world.specs.Written.{Written}
use Rattle.rk_world.specs.World.{World, log_in, master_at, tablet_in, with_master, with_coordinator, with_ledger, with_stored_by, with_wire}
use Rattle.rk_sound.specs.View.{View}
use Rattle.rk_sound.specs.Receives.{closing_joined}

-- what is kept for each number, now that this is kept for one of them
abbrev pub put : {X : Type 0} → (ℕ → X) → ℕ → X → ℕ → X
put old number thing q = if q == number then thing else old q

-- what each master keeps of each tablet, now that one master keeps this of one of them
abbrev pub put2 : {X : Type 0} → (ℕ → ℕ → X) → ℕ → ℕ → X → ℕ → ℕ → X
put2 old master number thing = put old master (put (old master) number thing)

-- a message is sent, under a number
abbrev pub sent : View → ℕ → Message → View
sent v number message = record v { wire = insert v.wire number message }

abbrev pub message_sent : World → Message → World
message_sent w message = with_wire w (with_message message w.wire)

-- a message is forgotten: it was lost, or is delivered no more
abbrev pub forgotten : View → ℕ → View
forgotten v number = record v { wire = remove v.wire number }

abbrev pub message_forgotten : World → ℕ → World
message_forgotten w number = with_wire w (without_message number w.wire)

-- a client comes, and has asked nothing; nothing else is seen of it
abbrev pub client_come : World → ℕ → World
client_come w client = with_ledger w (with_client w.ledger client)

-- a client asks a call, which is its last one now
abbrev pub call_asked : View → ℕ → LastCall → View
call_asked v client last = record v { asked = put v.asked client (Some last) }

abbrev pub call_asked_in : World → ℕ → LastCall → World
call_asked_in w client last = with_ledger w (with_asked w.ledger client last)

-- a message is saved that a client may send again
abbrev pub saved : View → ℕ → Message → View
saved v client message = record v { requests = insert v.requests client message }

abbrev pub request_saved : World → ℕ → Message → World
request_saved w client message = with_ledger w (with_request w.ledger client message)

-- the record at a place is accepted
abbrev pub accepted : View → ℕ → View
accepted v place = record v { journal = accepted_at v.journal place (slice_get v.journal place) }

abbrev pub record_accepted_in : World → ℕ → World
record_accepted_in w place = with_ledger w (with_accepted w.ledger place)

-- a call gets its record, at the end of the journal
abbrev pub recorded : View → Call → Outcome → ℕ → View
recorded v call outcome seen = record v { journal = v.journal ++ next_record v.journal call outcome seen ∷ [] }

abbrev pub recorded_in : World → Call → Outcome → ℕ → World
recorded_in w call outcome seen = with_ledger w (with_record w.ledger call outcome seen)

-- a backup stores these bytes too, behind what it stores of a segment of a master's log
abbrev pub stored_more : View → ℕ → ℕ → ℕ → List ℕ → View
stored_more v master backup segment bytes =
    record v { stored = put v.stored backup (with_more (v.stored backup) master segment bytes) }

abbrev pub bytes_stored_in : World → ℕ → ℕ → ℕ → List ℕ → World
bytes_stored_in w master backup segment bytes =
    with_stored_by w backup (λ segments. with_more segments master segment bytes) (get w.backups backup)

-- a backup reports to a master that it stores so many bytes of a segment of its log
abbrev pub length_told : View → ℕ → ℕ → ℕ → ℕ → View
length_told v master backup segment size =
    record v { logs = put v.logs master (with_told (v.logs master) backup segment size) }

abbrev pub length_told_in : World → ℕ → ℕ → ℕ → ℕ → World
length_told_in w master backup segment size =
    with_master w master (with_known (master_at w master) backup segment size)

-- what a master has written, with one more entry
abbrev pub with_one_more : Written → Entry → Written
with_one_more written entry = record written { entries = written.entries ++ entry ∷ [] }

-- a handover with this counter
abbrev pub with_counter : ℕ → Handover → Handover
with_counter counter handover = record handover { counter = counter }

-- the entry of a call is appended to the log of a master, for a tablet: the call waits for it, and the tablet has this counter now
abbrev pub appended : View → ℕ → ℕ → Call → Entry → ℕ → View
appended v master tablet call entry counter = record v {
  logs = put v.logs master (with_entry (v.logs master) entry);
  written = put v.written master (with_one_more (v.written master) entry);
  calls = put v.calls master (insert (v.calls master) (length (v.written master).entries) call);
  handovers = put2 v.handovers master tablet (with_counter counter (v.handovers master tablet));
}

-- a write or a removal is staged at a master, for a tablet: its item has the counter as its version, and the counter rises
abbrev pub staged : View → ℕ → ℕ → Call → Option (List ℕ) → View
staged v master tablet call value =
    let counter = (v.handovers master tablet).counter in
    appended v master tablet call (entries.Held (item_of call counter value)) (counter + 1)

abbrev pub write_staged_in : World → ℕ → ℕ → Call → Option (List ℕ) → World
write_staged_in w master number call value = with_master w master (write_staged (master_at w master) number call value)

-- a refusal is staged at a master, for a tablet, whose counter stays
abbrev pub refused : View → ℕ → ℕ → Call → ℕ → Bool → View
refused v master tablet call found absent =
    appended v master tablet call (refusal_of call found absent) (v.handovers master tablet).counter

abbrev pub refusal_staged_in : World → ℕ → Call → ℕ → Bool → World
refusal_staged_in w master call found absent = with_master w master (refusal_staged (master_at w master) call found absent)

-- a handover of a tablet that froze
abbrev pub as_frozen : Handover → Handover
as_frozen handover = record handover { role = roles.Frozen }

-- a tablet freezes at a master
abbrev pub tablet_frozen_in : World → ℕ → ℕ → World
tablet_frozen_in w master tablet =
    let kept = tablet_in w master tablet in
    with_master w master (with_tablet (master_at w master) tablet (with_handover kept (as_frozen kept.handover)))

-- a master has another handover of a tablet, and this is what it gathered and merged for it
abbrev pub role_taken : View → ℕ → ℕ → Handover → Gather → List Ended → View
role_taken v master tablet handover gather ends = record v {
  handovers = put2 v.handovers master tablet handover;
  gathers = put2 v.gathers master tablet gather;
  merged = put2 v.merged master tablet ends;
}

-- a handover of a tablet that closes at a term
abbrev pub as_closing : ℕ → Handover → Handover
as_closing term handover = record handover { term = term; role = roles.Closing }

-- a tablet closes at a master, at a term
abbrev pub tablet_closed_in : World → ℕ → ℕ → ℕ → World
tablet_closed_in w master tablet term =
    with_master w master (tablet_closed (master_at w master) tablet (as_closing term (tablet_in w master tablet).handover))

-- a handover of a tablet that is given up
abbrev pub as_released : Handover → Handover
as_released handover = record handover { role = roles.Absent }

-- the items of a range are dropped from the records of a master
abbrev pub items_dropped : View → ℕ → Range → View
items_dropped v master range = record v { records = put v.records master (without range (v.records master)) }

-- a tablet is given up at a master
abbrev pub tablet_released_in : World → ℕ → ℕ → World
tablet_released_in w master tablet =
    with_master w master (tablet_released (master_at w master) tablet (as_released (tablet_in w master tablet).handover))

-- a handover of a tablet that serves
abbrev pub as_serving : Handover → Handover
as_serving handover = record handover { role = roles.Serving }

-- a tablet is owned by a master, which serves it from now on
abbrev pub tablet_owned_in : World → ℕ → ℕ → World
tablet_owned_in w master tablet =
    with_master w master (tablet_owned (master_at w master) tablet (as_serving (tablet_in w master tablet).handover))

-- a handover of a target whose closing entry is at a place
abbrev pub as_closed : ℕ → Handover → Handover
as_closed place handover = record handover { role = roles.Joining (Some place) }

-- the entry that closes the role of a target is appended to its log, and the role notes its place
abbrev pub closed_off : View → ℕ → ℕ → View
closed_off v master tablet =
    let closing = closing_joined (v.handovers master tablet) (v.pullings master tablet).sealed in
    record v {
      logs = put v.logs master (with_entry (v.logs master) closing);
      written = put v.written master (with_one_more (v.written master) closing);
      handovers = put2 v.handovers master tablet (as_closed (length (v.logs master).entries) (v.handovers master tablet));
    }

abbrev pub closing_appended_in : World → ℕ → ℕ → World
closing_appended_in w master tablet =
    let kept = tablet_in w master tablet in
    with_master w master
    (closing_appended (master_at w master) tablet kept (as_closed (length (log_in w master).entries) kept.handover))

-- ---- what a tablet pulls

-- what is pulled, once the token, the count of batches and the hashes go on
abbrev pub gone_on : (Pulling → Token) → (Pulling → ℕ) → (Pulling → Hashes) → Pulling → Pulling
gone_on token batches hashes pulling =
    record pulling { token = token pulling; batches = batches pulling; hashes = hashes pulling }

-- what is pulled of a tablet changes at a master
abbrev pub pulled : View → ℕ → ℕ → (Pulling → Pulling) → View
pulled v master tablet change =
    record v { pullings = put2 v.pullings master tablet (change (v.pullings master tablet)) }

-- a hash is wanted first
abbrev pub wanting_hash : ℕ → Pulling → Pulling
wanting_hash hash = gone_on (λ p. p.token) (λ p. p.batches) (λ p. wanting p.hashes hash)

abbrev pub hash_wanted_in : World → ℕ → ℕ → ℕ → World
hash_wanted_in w master tablet hash = with_master w master (hash_wanted (master_at w master) tablet hash)

-- a batch of the wanted hashes is asked for
abbrev pub asking_batch : Pulling → Pulling
asking_batch = gone_on (λ p. p.token) (λ p. p.batches) (λ p. batched p.hashes)

abbrev pub batch_asked_in : World → ℕ → ℕ → World
batch_asked_in w master tablet = with_master w master (batch_asked (master_at w master) tablet (tablet_in w master tablet))

-- the hashes that were asked for have come
abbrev pub resolving : List ℕ → Pulling → Pulling
resolving hashes = gone_on (λ p. p.token) (λ p. p.batches) (λ p. got p.hashes hashes)

abbrev pub hashes_resolved_in : World → ℕ → ℕ → List ℕ → World
hashes_resolved_in w master tablet hashes = with_master w master (hashes_resolved (master_at w master) tablet hashes)

-- a target passes on to a token
abbrev pub passing : Token → Pulling → Pulling
passing next = gone_on (λ p. next) (λ p. p.batches + 1) (λ p. p.hashes)

abbrev pub token_passed_in : World → ℕ → ℕ → Token → World
token_passed_in w master tablet next = with_master w master (token_passed (master_at w master) tablet next)

-- an item is replayed at a master, for a tablet: it goes into the records, if it is newer than what is there, and to the worker's items
abbrev pub replayed : View → ℕ → ℕ → ℕ → Held → View
replayed v master tablet worker item = record v {
  records = put v.records master (with_newer item (v.records master));
  pullings = put2 v.pullings master tablet (with_pulled (v.pullings master tablet) worker item);
}

abbrev pub item_replayed_in : World → ℕ → ℕ → ℕ → Held → World
item_replayed_in w master tablet worker item = with_master w master (item_replayed tablet worker (master_at w master) item)

-- ---- what a tablet gathers

-- what is gathered for a tablet changes at a master
abbrev pub gathered : View → ℕ → ℕ → (Gather → Gather) → View
gathered v master tablet change = record v { gathers = put2 v.gathers master tablet (change (v.gathers master tablet)) }

-- the segment that was awaited is gathered
abbrev pub reading : CopySegment → Gather → Gather
reading copy gather = gathering gather copy.master copy.segment copy.bytes

abbrev pub segment_gathered_in : World → ℕ → CopySegment → World
segment_gathered_in w master copy = with_master w master (segment_gathered (master_at w master) copy)

-- ---- rows

-- a handover of a tablet that is served from the start
abbrev pub as_added : Range → Handover
as_added range = record { role = roles.Serving; term = 1; range = range; counter = 1 }

-- a row is added, and its master serves it at once
abbrev pub added : View → ℕ → Range → ℕ → View
added v tablet range master = record v {
  rows = placed (new_row tablet range master) v.rows;
  handovers = put2 v.handovers master tablet (as_added range);
}

-- a row is turned into another one of its number and range
abbrev pub turned : View → Row → View
turned v row = record v { rows = replaced row.tablet row v.rows }

-- the place of a target is noted
abbrev pub place_noted_in : World → Row → ℕ → ℕ → ℕ → ℕ → World
place_noted_in w row source sfrom target place =
    with_coordinator w (place_noted w.coordinator row source sfrom target place)

-- a row begins to move
abbrev pub migration_begun_in : World → Row → ℕ → ℕ → ℕ → World
migration_begun_in w row owner from to = with_coordinator w (migration_begun w.coordinator row owner from to)

-- a crash is noticed: the master is marked as dead, and its rows change
abbrev pub crash_noticed_in : World → ℕ → World
crash_noticed_in w dead = with_coordinator w (notice_one w.coordinator dead)
