-- Whatever happens in a lane, its wire changes only by messages that are sent, and by a message that is forgotten.
use Rattle.std.proofs.Common.{ℕ, ◌+◌, Bool, true, false, cond, List, [], ◌∷◌, fold, map, Option, Some, None}
use Rattle.rk_world.specs.declared.event.Taken.{Taken}
use Rattle.rk_types.specs.NumberMap.{get}
use Rattle.rk_types.specs.declared.call.Call.{Call}
use Rattle.rk_types.specs.declared.node.Node.{Node}
use Rattle.rk_outside.specs.Segments.{Segments}
use Rattle.rk_tablet_map.specs.declared.phase.Phase.{Phase}
use Rattle.rk_tablet_map.specs.declared.phase.Phase.TheVariants.{Owned}
use Rattle.rk_tablet_map.specs.declared.row.Row.{Row}
use Rattle.rk_tablet_map.specs.Rows.{row_of}
use Rattle.rk_message.specs.Wire.{Traffic, with_message, without_message}
use Rattle.rk_message.specs.declared.message.Body.{Body}
use Rattle.rk_message.specs.declared.message.Message.{Message}
use Rattle.rk_world.specs.Backup.{Backed, Called, backup_step, stored_after}
use Rattle.rk_world.specs.Calls.{accept_by, accepting, ask_by, asking, asking_by, is_asked_here, fits_with, taking, untouched}
use Rattle.rk_world.specs.Client.{ClientTurn, Session, session_turn}
use Rattle.rk_world.specs.CoordinatorStep.{coordinator_step, coordinator_turn}
use Rattle.rk_world.specs.Ledger.{is_added, with_client}
use Rattle.rk_world.specs.MasterStep.{master_step}
use Rattle.rk_world.specs.MasterTurn.{master_turn}
use Rattle.rk_world.specs.Refusals.{accept_refusal, ask_refusal, refusal}
use Rattle.rk_world.specs.Replies.{filled}
use Rattle.rk_world.specs.Runs.{Accepts, Asks, Happening, Happens, after, run, world_stepped, world_visited}
use Rattle.rk_world.specs.Splits.{owner_split, row_split, with_split}
use Rattle.rk_world.specs.Step.{backed_at, client_added, delivered, delivered_to, happened, ledger_after, log_bytes_of, losing, quietly}
use Rattle.rk_world.specs.Step.{seen_in, sent_again, stepped_by, to_backup, to_master, turned, with_sends, worked_at}
use Rattle.rk_world.specs.Worked.{Worked}
use Rattle.rk_world.specs.World.{World, has_crashed, is_backup, master_at, with_ledger, with_master, with_stored_by}
use Rattle.rk_world.specs.declared.error.StepError.{StepError}
use Rattle.rk_world.specs.declared.event.Event.{Event}

-- what stays so when a message is sent, and when one is forgotten, stays so whatever happens
module _ (Keeps : Traffic → Type 0) (sent : (message : Message) (wire : Traffic) → Keeps wire → Keeps (with_message message wire)) (forgotten : (number : ℕ) (wire : Traffic) → Keeps wire → Keeps (without_message number wire)) where
  all_sent : (messages : List Message) (wire : Traffic) → Keeps wire → Keeps (fold (λ now message. with_message message now) wire messages)
  all_sent [] wire keeps = keeps
  all_sent (message ∷ messages) wire keeps = all_sent messages (with_message message wire) (sent message wire keeps)

  -- ---- a message reaches its receiver

  work : (w : World) (master seen : ℕ) (worked : Worked) → Keeps w.wire → Keeps (worked_at w master seen worked).world.wire
  work w master seen worked keeps =
      all_sent (map (filled (ledger_after w.ledger master seen worked).journal worked.served) worked.sends) w.wire keeps

  at_master : (w : World) (master : ℕ) (message : Message) → Keeps w.wire → Keeps (to_master w master message).world.wire
  at_master w master message keeps = go (has_crashed w master)
    where
      go : (b : Bool) → Keeps (cond b (losing w) (worked_at w master (seen_in message.body) (master_step (master_at w master) message))).world.wire
      go true = keeps
      go false = work w master (seen_in message.body) (master_step (master_at w master) message) keeps

  backed : (w : World) (it : Backed) → Keeps w.wire → Keeps (backed_at w it).world.wire
  backed w it keeps = go it.lost
    where
      go : (b : Bool) → Keeps (cond b (losing w) (with_sends w it.sends)).world.wire
      go true = keeps
      go false = all_sent it.sends w.wire keeps

  stored : (w : World) (backup : ℕ) (store : Segments → Segments) (there : Option Segments) (it : Backed) → Keeps w.wire
      → Keeps (backed_at (with_stored_by w backup store there) it).world.wire
  stored w backup store None it keeps = backed w it keeps
  stored w backup store (Some segments) it keeps = backed (with_stored_by w backup store (Some segments)) it keeps

  at_backup : (w : World) (backup : ℕ) (sender : Node) (body : Body) (called : Called) → Keeps w.wire
      → Keeps (to_backup w backup sender body called).world.wire
  at_backup w backup sender body called keeps = go (is_backup w backup)
    where
      store : Segments → Segments
      store segments = stored_after segments sender body called

      it : Backed
      it = backup_step backup sender body (log_bytes_of w) called

      go : (b : Bool) → Keeps (cond b (backed_at (with_stored_by w backup store (get w.backups backup)) it) (quietly w)).world.wire
      go true = stored w backup store (get w.backups backup) it keeps
      go false = keeps

  at_receiver : (w : World) (message : Message) (to : Node) (called : Called) → Keeps w.wire → Keeps (delivered_to w message to called).world.wire
  at_receiver w message (Node.Client client) called keeps = keeps
  at_receiver w message Node.Coordinator called keeps = all_sent (coordinator_step w.coordinator message).sends w.wire keeps
  at_receiver w message (Node.Master master) called keeps = at_master w master message keeps
  at_receiver w message (Node.Backup backup) called keeps = at_backup w backup message.from message.body called keeps

  delivery : (w : World) (found : Option Message) (called : Called) → Keeps w.wire → Keeps (delivered w found called).world.wire
  delivery w None called keeps = keeps
  delivery w (Some message) called keeps = at_receiver w message message.to called keeps

  -- ---- the other events

  client_comes : (w : World) (client : ℕ) → Keeps w.wire → Keeps (client_added w client).wire
  client_comes w client keeps = go (is_added w.ledger client)
    where
      go : (b : Bool) → Keeps (cond b w (with_ledger w (with_client w.ledger client))).wire
      go true = keeps
      go false = keeps

  turn : (w : World) (node : Node) → Keeps w.wire → Keeps (turned w node).world.wire
  turn w Node.Coordinator keeps = all_sent (coordinator_turn w.coordinator) w.wire keeps
  turn w (Node.Master master) keeps = work w master 0 (master_turn (master_at w master)) keeps
  turn w _ keeps = keeps

  again : (w : World) (request : Option Message) → Keeps w.wire → Keeps (sent_again w request).world.wire
  again w None keeps = keeps
  again w (Some message) keeps = sent message w.wire keeps

  owner : (w : World) (tablet : ℕ) (phase : Phase) (at new term : ℕ) → Keeps w.wire → Keeps (owner_split w tablet phase at new term).wire
  owner w tablet (Owned master from) at new term keeps = go (has_crashed w master)
    where
      go : (b : Bool) → Keeps (cond b w (with_master w master (with_split (master_at w master) tablet at new term))).wire
      go true = keeps
      go false = keeps
  owner w tablet _ at new term keeps = keeps

  split : (w : World) (row : Option Row) (at new : ℕ) → Keeps w.wire → Keeps (row_split w row at new).wire
  split w None at new keeps = keeps
  split w (Some row) at new keeps = owner w row.tablet row.phase at new (row.term + 1) keeps

  event_keeps : (w : World) (event : Event) (called : Called) → Keeps w.wire → Keeps (happened w event called).world.wire
  event_keeps w (Event.AddClient client) called keeps = client_comes w client keeps
  event_keeps w (Event.Deliver number) called keeps = delivery w (get w.wire.messages number) called keeps
  event_keeps w (Event.Forget number) called keeps = forgotten number w.wire keeps
  event_keeps w (Event.Turn node) called keeps = turn w node keeps
  event_keeps w (Event.Again client) called keeps = again w (get w.ledger.requests client) keeps
  event_keeps w (Event.Split tablet at new) called keeps = split w (row_of w.coordinator.rows tablet) at new keeps
  event_keeps w _ called keeps = keeps

  -- an event that is refused changes nothing
  pub step_keeps : (w : World) (event : Event) (called : Called) → Keeps w.wire → Keeps (after w (Happens event called)).wire
  step_keeps w event called keeps = go (refusal w event)
    where
      go : (why : Option StepError) → Keeps (world_stepped w (stepped_by w event called why)).wire
      go (Some error) = keeps
      go None = event_keeps w event called keeps

  -- ---- clients

  turned_client : (w : World) (session : Session) (call : Call) (it : Option ClientTurn) → Keeps w.wire
      → Keeps (asking_by w session call it).world.wire
  turned_client w session call None keeps = keeps
  turned_client w session call (Some it) keeps = sent it.message w.wire keeps

  asked : (w : World) (session : Session) (call : Option Call) → Keeps w.wire → Keeps (asking w session call).world.wire
  asked w session None keeps = keeps
  asked w session (Some call) keeps = go (fits_with w session call)
    where
      go : (b : Bool) → Keeps (cond b (asking_by w session call (session_turn session)) (untouched w session None)).world.wire
      go true = turned_client w session call (session_turn session) keeps
      go false = keeps

  ask_keeps : (w : World) (session : Session) → Keeps w.wire → Keeps (after w (Asks session)).wire
  ask_keeps w session keeps = go (ask_refusal w session)
    where
      go : (why : Option StepError) → Keeps (world_visited w (ask_by w session why)).wire
      go (Some error) = keeps
      go None = asked w session session.outstanding keeps

  accepted : (w : World) (session : Session) (found : Option Message) → Keeps w.wire → Keeps (accepting w session found).world.wire
  accepted w session None keeps = keeps
  accepted w session (Some message) keeps = go (is_asked_here w session)
    where
      go : (b : Bool) → Keeps (cond b (taking w session message.body) (untouched w session (Some Taken.Ignored))).world.wire
      go true = keeps
      go false = keeps

  accept_keeps : (w : World) (number : ℕ) (session : Session) → Keeps w.wire → Keeps (after w (Accepts number session)).wire
  accept_keeps w number session keeps = go (accept_refusal w number session.client (get w.wire.messages number))
    where
      go : (why : Option StepError) → Keeps (world_visited w (accept_by w number session why)).wire
      go (Some error) = keeps
      go None = accepted w session (get w.wire.messages number) keeps

  -- ---- a run

  happening_keeps : (w : World) (happening : Happening) → Keeps w.wire → Keeps (after w happening).wire
  happening_keeps w (Happens event called) keeps = step_keeps w event called keeps
  happening_keeps w (Asks session) keeps = ask_keeps w session keeps
  happening_keeps w (Accepts number session) keeps = accept_keeps w number session keeps

  pub run_keeps : (w : World) (happenings : List Happening) → Keeps w.wire → Keeps (run w happenings).wire
  run_keeps w [] keeps = keeps
  run_keeps w (happening ∷ later) keeps = run_keeps (after w happening) later (happening_keeps w happening keeps)
