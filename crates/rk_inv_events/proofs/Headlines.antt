-- The headline laws of events: a sound lane stays sound at each event that may happen there, kind by kind.
use Rattle.std.proofs.Common.{◌≡◌, ◌<◌, ◌≤◌, ℕ, true, false, IfSome, List, None, Some, Option, Bool, length, take, drop, sym, subst}
use Rattle.rk_inv_base.proofs.Words.{get, End, Ended, Outcome, Member, Range, Segments, Entry, FIRST_SIDE_SEGMENT, end, Row, cut, IsBackup}
use Rattle.rk_inv_base.proofs.Words.{committed, known_of, Request, Grant, Prepare, Ready, Tenure, Transfer, Body, Message, Got, Pull}
use Rattle.rk_inv_base.proofs.Words.{Pulled, Want, CopySegment, ReadSegment, Rebuild, Rebuilt, Append, Stored, Called, Session}
use Rattle.rk_inv_base.proofs.Words.{apply_entries, IsWellFormed, Ledger, with_all_served, Master, appends, IsAfterStart, IsMaster, MayAct}
use Rattle.rk_inv_base.proofs.Words.{MayHappen, refusal, HasRoom, delivered, happened, to_backup, to_coordinator, to_master, all_going_on}
use Rattle.rk_inv_base.proofs.Words.{World, has_crashed, is_backup, lives, log_in, master_at, with_all_sent, Ignores, Reads, Redirects}
use Rattle.rk_inv_base.proofs.Words.{Refuses, Repeats, Wants, Writes, Event, Reading, HasSegmentLeft, IsFromLog, segment_gathered_in, view}
use Rattle.rk_inv_base.proofs.Words.{IsSound}
use Rattle.rk_world.specs.Backup.{append_called, read_called}
use Rattle.rk_world.specs.Runs.{Accepts, Asks, after, lives_another}
use Rattle.rk_inv_events.proofs.Words.{MayMergeFormed, rebuilt_taken_in}
use Rattle.rk_message.specs.declared.message.Body.TheVariants as bodies
use Rattle.rk_types.specs.declared.node.Node.TheVariants as nodes
use Rattle.rk_world.specs.declared.event.Event.TheVariants as events
use Rattle.rk_inv_base.proofs.Headlines.{sound_forgotten}
use Rattle.rk_inv_rows.proofs.lineage.RebuiltWorld.{sound_rebuilt_taken}
use Rattle.rk_inv_logs.specs.read.Moves.{MayTakeRebuiltFormed}
use Rattle.rk_inv_events.proofs.Below.{sealed_event, tell_event}
use Rattle.rk_inv_events.proofs.copies.Gathers as copies
use Rattle.rk_inv_events.proofs.events.Appends.{sound_appends}
use Rattle.rk_inv_events.proofs.events.Clients.{sound_accepts, sound_added, sound_again, sound_asks}
use Rattle.rk_inv_events.proofs.events.Coordinating.{sound_event_split, sound_noticed, sound_tablet_added, sound_tablet_migrated}
use Rattle.rk_inv_events.proofs.events.CoordinatorTurn.{sound_coordinator_turn}
use Rattle.rk_inv_events.proofs.events.Crashing.{sound_crash}
use Rattle.rk_inv_events.proofs.events.Sending.{sound_question}
use Rattle.rk_inv_events.proofs.events.Storing.{sound_append, sound_read}
use Rattle.rk_inv_events.proofs.orders.Granting.{sound_grant}
use Rattle.rk_inv_events.proofs.orders.Owning.{sound_close, sound_own, sound_release}
use Rattle.rk_inv_events.proofs.orders.Preparing.{sound_prepare}
use Rattle.rk_inv_events.proofs.orders.Rebuilding.{sound_rebuild}
use Rattle.rk_inv_events.proofs.pulls.Batches.{sound_pulled}
use Rattle.rk_inv_events.proofs.pulls.Sources.{sound_pull, sound_want}
use Rattle.rk_inv_events.proofs.pulls.Targets.{sound_got}
use Rattle.rk_inv_events.proofs.rebuilt.Told.{owns_rebuilt, sound_rebuilt_delivered}
use Rattle.rk_inv_events.proofs.reports.Reported.{sound_joined, sound_ready, sound_transfer}
use Rattle.rk_inv_events.proofs.request.Answering as requests
use Rattle.rk_inv_events.proofs.steps.Stepped.{sound_event, to_desk, to_one}
use Rattle.rk_inv_events.proofs.stored.StoredTaken as stored
use Rattle.rk_inv_events.proofs.turn.MasterTurn.{sound_master_turn}
use Rattle.rk_inv_events.proofs.write.Taken as writes
use Rattle.rk_inv_events.specs.answer.Small.{StagesNothing}
use Rattle.rk_inv_events.specs.copies.Small.{awaits, copy_message, next_after}
use Rattle.rk_inv_events.specs.orders.Orders.{IsOrdered, order_to}
use Rattle.rk_inv_events.specs.pulls.Moves.{MaySealBehind}
use Rattle.rk_inv_events.specs.request.Small.{choice_in, request_message}
use Rattle.rk_inv_events.specs.steps.Steps.{IsSteady, MayStep}
use Rattle.rk_inv_events.specs.stored.Small.{MayGoOn, stored_message, with_work}

-- A sound lane stays sound at each event that may happen there (`MayStep`): a message is delivered or lost, a node takes its turn, a tablet
-- is added, moved or split, a client comes or sends its request again, a master crashes while another one lives, or that is noticed.
pub events_keep_lanes_sound : (w : World) (event : Event) (called : Called)
    → IsSound w → MayStep w event called → IsSound (happened w event called).world
events_keep_lanes_sound = sound_event

-- It stays steady, too.
pub events_keep_lanes_steady : (w : World) (event : Event) (called : Called)
    → MayStep w event called → IsSteady (happened w event called).world
events_keep_lanes_steady w event called may = record {
  tell = tell_event w event called may.steady.tell;
  sealed = sealed_event w event called may.formed may.steady.sealed;
}

-- A sound lane stays sound when the coordinator takes its turn: whatever its rows ask for, its orders say just what their receivers may
-- follow.
pub coordinators_take_turns : (w : World) (called : Called)
    → IsSound w → IsSound (happened w (events.Turn nodes.Coordinator) called).world
coordinators_take_turns w called sound = sound_coordinator_turn w sound

-- A sound lane stays sound when a rebuild is taken: the master that rebuilt a row owns it, the calls whose ends that merged get their
-- records, and no log bears a mark of the tablet any more.
pub rebuilds_are_taken : (w : World) (row : Row) (lineage : List Member) (to place : ℕ) (ends : List Ended)
    → IsSound w → MayTakeRebuiltFormed (view w) row lineage to place ends
    → IsSound (rebuilt_taken_in w row to place ends)
rebuilds_are_taken w row lineage to place ends sound may =
    sound_rebuilt_taken w row lineage to place ends sound (owns_rebuilt (view w) row lineage to place ends sound may)

-- A sound lane stays sound when a living master applies the entries that come next in its log, one after the other, as far as every backup
-- is known to hold them, and then each call that it served gets its record.
pub entries_are_applied : (w : World) (master : ℕ) (now : Master) (ledger : Ledger) (entries : List Entry) (count : ℕ)
    → IsSound (with_work w master now ledger) → lives w master ≡ true
    → count ≤ committed now.log → drop now.applied (take count now.log.entries) ≡ entries
    → IsSound (with_work w master (apply_entries now entries).master (with_all_served 0 ledger (apply_entries now entries).served))
entries_are_applied w master now ledger entries count sound alive within next =
    (stored.sound_all_applied w master alive entries now ledger count sound within next).sound

-- A sound lane stays sound when a living master lets its tablets go on, one after the other: a tablet that closes freezes if nothing of it
-- is staged, and a target whose side segments every backup is known to hold appends its closing entry.
pub tablets_go_on : (w : World) (master : ℕ) (now : Master) (ledger : Ledger)
    → IsSound (with_work w master now ledger) → lives w master ≡ true → MayGoOn now.log now.tablets
    → IsSound (with_work w master (all_going_on now now.tablets) ledger)
tablets_go_on w master now ledger sound alive may = stored.sound_going_on w master alive ledger now may sound

-- Each law below is of a sound lane, which stays sound.
module _ (w : World) (sound : IsSound w) where
  -- so after an event
  abbrev After : Event → Called → Type 0
  After event called = IsSound (happened w event called).world

  -- so once a master took a message
  abbrev Taken : ℕ → Message → Type 0
  Taken master message = IsSound (to_master w master message).world

  -- a message is on the wire
  abbrev Stands : ℕ → Message → Type 0
  Stands number message = get w.wire.messages number ≡ Some message

  -- so after a delivery, once the message that is there is delivered
  delivers : (number : ℕ) (called : Called) (message : Message)
      → Stands number message → IsSound (delivered w (Some message) called).world → After (events.Deliver number) called
  delivers number called message stands = subst (λ (found : Option Message). IsSound (delivered w found called).world) (sym stands)

  -- ---- clients

  -- A client may come.
  pub clients_come : (client : ℕ) (called : Called) → After (events.AddClient client) called
  clients_come client called = sound_added w client sound

  -- Its last request may be sent again.
  pub requests_go_again : (client : ℕ) (called : Called) → After (events.Again client) called
  requests_go_again client called = sound_again w client sound

  -- It may take its turn, if its session may act in the lane and its call comes after the start of the history.
  pub clients_take_turns : (session : Session)
      → MayAct w.coordinator.masters session → IfSome session.outstanding (IsAfterStart w.base) → IsSound (after w (Asks session))
  clients_take_turns session may since = sound_asks w session sound may since

  -- It may take an answer, if its session may act in the lane.
  pub clients_take_answers : (number : ℕ) (session : Session)
      → MayAct w.coordinator.masters session → IsSound (after w (Accepts number session))
  clients_take_answers number session may = sound_accepts w number session sound may

  -- ---- questions

  -- A message may be lost.
  pub messages_are_lost : (number : ℕ) (called : Called) → After (events.Forget number) called
  messages_are_lost number called = sound_forgotten w number sound

  -- The coordinator may take whatever a client sent.
  pub questions_are_taken : (client : ℕ) (body : Body) → IsSound (to_coordinator w (to_desk (nodes.Client client) body)).world
  questions_are_taken client body = sound_question w client body sound

  -- ---- backups that report what they store

  module _ (backup : ℕ) (segments : Segments) (there : is_backup w backup ≡ true) (tells : get w.backups backup ≡ Some segments) where
    -- Such a backup may take an Append of a master's log, whether or not its replica fails.
    pub appends_are_stored : (master : ℕ) (append : Append) → IsMaster w.coordinator.masters master
        → IsFromLog (log_in w master) (known_of (log_in w master) backup) append → (fault : Option ℕ)
        → IsSound (to_backup w backup (nodes.Master master) (bodies.Append append) (append_called segments master append fault)).world
    appends_are_stored master append sender says = sound_append w backup master append segments sound there sender tells says

    -- It may take a Read that is on the wire, whether or not its replica fails.
    pub reads_are_answered : (number reader : ℕ) (read : ReadSegment) → IsMaster w.coordinator.masters read.master
        → Stands number (record { from = nodes.Master reader; to = nodes.Backup backup; body = bodies.Read read })
        → (fault : Option ℕ)
        → IsSound (to_backup w backup (nodes.Master reader) (bodies.Read read) (read_called segments read fault)).world
    reads_are_answered number reader read of found = sound_read w number backup reader read segments sound there of tells found

  -- ---- turns of masters

  -- A master may send its backups what they are not known to hold, if its log has no more main segments than there can be.
  pub appends_are_sent : (master : ℕ) → length (cut (log_in w master).entries) < FIRST_SIDE_SEGMENT
      → IsSound (with_all_sent w (appends (master_at w master)))
  appends_are_sent master few = sound_appends w master sound few

  -- A living one may take its turn in a well formed lane: its backups get what they lack, its targets ask for what they lack, and the
  -- coordinator hears what has joined or was rebuilt.
  pub masters_take_turns : (master : ℕ) (called : Called) → IsWellFormed w → has_crashed w master ≡ false
      → length (cut (log_in w master).entries) < FIRST_SIDE_SEGMENT → After (events.Turn (nodes.Master master)) called
  masters_take_turns master called formed lives few = sound_master_turn w master sound formed lives few

  -- ---- administration: each event may happen and is not refused

  -- A tablet may be added to a well formed lane.
  pub tablets_are_added : (tablet : ℕ) (range : Range) (master : ℕ) (called : Called)
      → IsWellFormed w → MayHappen w (events.AddTablet tablet range master)
      → refusal w (events.AddTablet tablet range master) ≡ None → After (events.AddTablet tablet range master) called
  tablets_are_added tablet range master called formed may none = sound_tablet_added w tablet range master sound formed may none

  -- A tablet may begin to move.
  pub migrations_begin : (tablet to : ℕ) (called : Called)
      → MayHappen w (events.Migrate tablet to) → refusal w (events.Migrate tablet to) ≡ None
      → After (events.Migrate tablet to) called
  migrations_begin tablet to called may none = sound_tablet_migrated w tablet to sound may none

  -- A tablet may be split.
  pub tablets_are_split : (tablet at new : ℕ) (called : Called)
      → refusal w (events.Split tablet at new) ≡ None → After (events.Split tablet at new) called
  tablets_are_split tablet at new called none = sound_event_split w tablet at new sound none

  -- A master of a well formed lane with room may crash while another one lives.
  pub masters_crash : (master : ℕ) (called : Called)
      → IsWellFormed w → HasRoom w → lives_another w master ≡ true → After (events.Crash master) called
  masters_crash master called formed room calm = sound_crash w formed room master sound calm

  -- Crashes may be noticed in a well formed lane.
  pub crashes_are_noticed : (master : ℕ) (called : Called) → IsWellFormed w → After (events.Notice master) called
  crashes_are_noticed master called formed = sound_noticed w master sound formed

  -- ---- reports to the coordinator that are on the wire

  -- A master may report that it is ready to take a tablet over, and from which place of its log on.
  pub readys_are_taken : (number master : ℕ) (ready : Ready) (called : Called)
      → Stands number (to_desk (nodes.Master master) (bodies.Ready ready)) → After (events.Deliver number) called
  readys_are_taken number master ready called stands =
      delivers number called (to_desk (nodes.Master master) (bodies.Ready ready)) stands (sound_ready w number master sound ready stands)

  -- In a well formed lane it may report what it hands over, once that is frozen.
  pub transfers_are_taken : (number master : ℕ) (transfer : Transfer) (called : Called) → IsWellFormed w
      → Stands number (to_desk (nodes.Master master) (bodies.Transfer transfer)) → After (events.Deliver number) called
  transfers_are_taken number master transfer called formed stands =
      delivers number called (to_desk (nodes.Master master) (bodies.Transfer transfer)) stands
      (sound_transfer w number master sound formed transfer stands)

  -- In a well formed lane it may report that it has joined.
  pub joineds_are_taken : (number master : ℕ) (tenure : Tenure) (called : Called) → IsWellFormed w
      → Stands number (to_desk (nodes.Master master) (bodies.Joined tenure)) → After (events.Deliver number) called
  joineds_are_taken number master tenure called formed stands =
      delivers number called (to_desk (nodes.Master master) (bodies.Joined tenure)) stands
      (sound_joined w number master sound formed tenure stands)

  -- In a well formed lane with room it may report that it has rebuilt a row: if the row awaits it that rebuild is taken and the owner
  -- is sent its Own, an owner is sent it once more, and else nothing changes.
  pub rebuilts_are_taken : (number master : ℕ) (rebuilt : Rebuilt) (called : Called) → IsWellFormed w → HasRoom w
      → Stands number (to_desk (nodes.Master master) (bodies.Rebuilt rebuilt)) → After (events.Deliver number) called
  rebuilts_are_taken number master rebuilt called formed room stands =
      sound_rebuilt_delivered w number master rebuilt called sound formed room stands

  -- ---- messages to a master that lives

  module _ (master : ℕ) (lives : has_crashed w master ≡ false) where
    -- A Copy that it does not await changes nothing.
    pub copies_are_passed_over : (backup : ℕ) (copy : CopySegment)
        → awaits (master_at w master) copy ≡ false → Taken master (copy_message backup master copy)
    copies_are_passed_over backup copy is = copies.sound_passed w backup master copy lives sound is

    -- It gathers a Copy that it awaits,
    pub copies_are_gathered : (number backup : ℕ) (copy : CopySegment) (reading : Reading)
        → Stands number (copy_message backup master copy) → awaits (master_at w master) copy ≡ true
        → next_after (master_at w master) copy ≡ Some reading → Taken master (copy_message backup master copy)
    copies_are_gathered number backup copy reading there awaited is =
        copies.sound_read_on w number backup master copy sound lives there awaited reading is

    -- and when nothing is left to read it merges what it gathered, if it may.
    pub last_copies_are_merged : (number backup : ℕ) (copy : CopySegment)
        → Stands number (copy_message backup master copy) → awaits (master_at w master) copy ≡ true
        → next_after (master_at w master) copy ≡ None
        → MayMergeFormed (view (segment_gathered_in w master copy)) master copy.tenure.tablet
        → Taken master (copy_message backup master copy)
    last_copies_are_merged number backup copy there awaited is may =
        copies.sound_last w number backup master copy sound lives there awaited is may

    -- ---- orders that are on the wire, whether or not they still apply there

    -- It may take an Own.
    pub owns_are_taken : (number : ℕ) (tenure : Tenure)
        → IsOrdered w number master (bodies.Own tenure) → Taken master (order_to master (bodies.Own tenure))
    owns_are_taken number tenure ordered = sound_own w number master tenure sound lives ordered

    -- It may take a Release.
    pub releases_are_taken : (number : ℕ) (tenure : Tenure)
        → IsOrdered w number master (bodies.Release tenure) → Taken master (order_to master (bodies.Release tenure))
    releases_are_taken number tenure ordered = sound_release w number master tenure sound lives ordered

    -- It may take a Prepare.
    pub prepares_are_taken : (number : ℕ) (prepare : Prepare)
        → IsOrdered w number master (bodies.Prepare prepare) → Taken master (order_to master (bodies.Prepare prepare))
    prepares_are_taken number prepare ordered = sound_prepare w number master prepare sound lives ordered

    -- It may take a Close.
    pub closes_are_taken : (number : ℕ) (tenure : Tenure)
        → IsOrdered w number master (bodies.Close tenure) → Taken master (order_to master (bodies.Close tenure))
    closes_are_taken number tenure ordered = sound_close w number master tenure sound lives ordered

    -- In a well formed lane it may take a Grant, if its log has room.
    pub grants_are_taken : (number : ℕ) (grant : Grant) → IsWellFormed w → HasSegmentLeft (log_in w master)
        → IsOrdered w number master (bodies.Grant grant) → Taken master (order_to master (bodies.Grant grant))
    grants_are_taken number grant formed room ordered = sound_grant w number master grant sound formed lives room ordered

    -- In a well formed lane that has room before and after it, it may take a Rebuild, and merges at once if there is nothing to gather.
    pub rebuilds_are_begun : (number : ℕ) (rebuild : Rebuild) → IsWellFormed w → HasRoom w
        → IsOrdered w number master (bodies.Rebuild rebuild)
        → HasRoom (to_master w master (order_to master (bodies.Rebuild rebuild))).world
        → Taken master (order_to master (bodies.Rebuild rebuild))
    rebuilds_are_begun number rebuild formed room ordered fits = sound_rebuild w number master rebuild sound formed lives ordered room fits

    -- ---- what masters pull of each other, by messages that are on the wire

    -- A frozen source answers a Pull.
    pub pulls_are_taken : (number asker : ℕ) (pull : Pull)
        → Stands number (to_one (nodes.Master asker) master (bodies.Pull pull))
        → Taken master (to_one (nodes.Master asker) master (bodies.Pull pull))
    pulls_are_taken number asker pull there = sound_pull w number asker master pull sound lives there

    -- It answers a Want.
    pub wants_are_taken : (number asker : ℕ) (want : Want)
        → Stands number (to_one (nodes.Master asker) master (bodies.Want want))
        → Taken master (to_one (nodes.Master asker) master (bodies.Want want))
    wants_are_taken number asker want there = sound_want w number asker master want sound lives there

    -- A target replays the items of a Got.
    pub gots_are_taken : (number source : ℕ) (message : Got)
        → Stands number (to_one (nodes.Master source) master (bodies.Got message))
        → Taken master (to_one (nodes.Master source) master (bodies.Got message))
    gots_are_taken number source message there = sound_got w number source master message sound lives there

    -- It replays those of a Pulled in a well formed lane. Behind the last batch it seals what it copied, so the log of the target's master
    -- has room there, and what that sealed before is there.
    pub pulleds_are_taken : (number source : ℕ) (message : Pulled) → IsWellFormed w
        → Stands number (to_one (nodes.Master source) master (bodies.Pulled message))
        → (message.next ≡ end → MaySealBehind w master message)
        → Taken master (to_one (nodes.Master source) master (bodies.Pulled message))
    pulleds_are_taken number source message formed there may = sound_pulled w number source master message sound formed lives there may

  -- ---- what backups send a master, living or not

  -- A well formed lane that has room before and after it has all that a Copy needs that is delivered.
  pub copies_are_taken : (number backup master : ℕ) (copy : CopySegment) (called : Called) → IsWellFormed w → HasRoom w
      → Stands number (copy_message backup master copy)
      → HasRoom (happened w (events.Deliver number) called).world → After (events.Deliver number) called
  copies_are_taken number backup master copy called formed room there fits =
      delivers number called (copy_message backup master copy) there
      (copies.sound_taken w number backup master copy sound formed room there
      (subst (λ (found : Option Message). HasRoom (delivered w found called).world) there fits))

  -- A master may take a Stored that is on the wire, from one of its backups: what every backup is known to hold by then is applied,
  -- what waited for that goes on, and the clients of the calls that end with it are answered, with stamp and place.
  pub storeds_are_taken : (number master backup : ℕ) (told : Stored)
      → IsBackup (log_in w master) backup → MayGoOn (log_in w master) (master_at w master).tablets
      → Stands number (stored_message backup master told) → Taken master (stored_message backup master told)
  storeds_are_taken number master backup told there may sent = stored.sound_stored w number master backup told sound there sent may

  -- A well formed lane with room has all that this needs.
  pub storeds_are_delivered : (number master backup : ℕ) (told : Stored) (called : Called) → IsWellFormed w → HasRoom w
      → Stands number (stored_message backup master told) → After (events.Deliver number) called
  storeds_are_delivered number master backup told called formed room sent =
      stored.sound_delivered w formed room number master backup told called sound sent

  -- ---- requests, by what the master chooses to do with the Request

  module _ (master client : ℕ) (request : Request) where
    -- It may ignore the Request.
    pub requests_are_ignored : choice_in w master client request ≡ Ignores → Taken master (request_message client master request)
    requests_are_ignored is =
        requests.sound_chosen w master client request Ignores sound is (λ alive. requests.sound_ignored w master client request sound)

    -- It may answer the client that the tablet is elsewhere.
    pub requests_are_redirected : choice_in w master client request ≡ Redirects → Taken master (request_message client master request)
    requests_are_redirected is =
        requests.sound_chosen w master client request Redirects sound is (λ alive. requests.sound_redirected w master client request sound)

    -- It may put the client off until it has the key's hash, which it wants then.
    pub requests_are_put_off : (tablet : ℕ) → choice_in w master client request ≡ Wants tablet
        → Taken master (request_message client master request)
    requests_are_put_off tablet is =
        requests.sound_chosen w master client request (Wants tablet) sound is
        (λ alive. requests.sound_put_off w master client request sound tablet)

    -- ---- Requests that are on the wire of a well formed lane

    module _ (number : ℕ) (formed : IsWellFormed w) (there : Stands number (request_message client master request)) where
      -- The outcome of a call that was carried out before may be returned again, with the record that the journal has of it.
      pub outcomes_are_repeated : (end : End) → choice_in w master client request ≡ Repeats end
          → Taken master (request_message client master request)
      outcomes_are_repeated end is = writes.sound_told w number master client request sound formed there end is

      -- A get may be answered with what it finds, and gets its record at once.
      pub finds_are_told : (outcome : Outcome) → choice_in w master client request ≡ Reads outcome
          → Taken master (request_message client master request)
      finds_are_told outcome is = writes.sound_got w number master client request sound formed there outcome is

      -- Any Request may be delivered with which its receiver stages nothing.
      pub requests_are_answered : (called : Called)
          → StagesNothing (choice_in w master client request) → After (events.Deliver number) called
      requests_are_answered called none = writes.sound_answered w number master client request sound formed there called none

      -- A write may be staged, if the master's log has room.
      pub writes_are_staged : (tablet : ℕ) → HasSegmentLeft (log_in w master)
          → choice_in w master client request ≡ Writes tablet → Taken master (request_message client master request)
      writes_are_staged tablet room chose =
          writes.sound_write w number master client request sound formed there room tablet chose

      -- So may a refusal.
      pub refusals_are_staged : (found : ℕ) (absent : Bool) → HasSegmentLeft (log_in w master)
          → choice_in w master client request ≡ Refuses found absent → Taken master (request_message client master request)
      refusals_are_staged found absent room chose =
          writes.sound_refuse w number master client request sound formed there room found absent chose

      -- So a lane that has room stays sound when any Request is delivered, whatever its receiver chooses.
      pub requests_are_taken : (called : Called) → HasRoom w → After (events.Deliver number) called
      requests_are_taken called room = writes.sound_delivered w number master client request sound formed there called room
