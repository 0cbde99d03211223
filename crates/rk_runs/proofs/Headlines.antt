-- The headline laws of runs of a cluster: each lane stays sound, the journals of all lanes make one history, and who has something left to
-- do sends a message on its turn.
use Rattle.std.proofs.Common.{Ok, Err}
use Rattle.rk_inv_base.proofs.Words.{◌≤◌, ◌<◌, ℕ, List, LANES, MOST_BACKUPS, Occurrence, cluster_run, lane_at, new_cluster, MOST_MASTERS}
use Rattle.rk_inv_base.proofs.Words.{IsSound, IsRun, IsWellFormed, HasRoom, All, no_base, IsTruth, truths, view, Cluster, ◌++◌, session_at}
use Rattle.rk_inv_base.proofs.Words.{◌≡◌, Some, Member, row_of, Moving, Owned, Row, Called, Stepped, step, Event, ◌+◌, Call, Visited, ask}
use Rattle.rk_inv_base.proofs.Words.{call_lane, true, is_added, StepError, none-some, cluster_after, new_world, world_stepped, World}
use Rattle.rk_inv_base.proofs.Words.{has_crashed, Session, world_visited, accept, false≢true, happened, false, arith, refusal, stepped_by}
use Rattle.rk_inv_base.proofs.Words.{◌≢◌, Contains, [], Coordinator, coordinator_turn, Node, worn, refl}
use Rattle.rk_world.specs.Cluster.{HasOneHistory, IsQuietCluster}
use Rattle.rk_world.specs.Quiet.{IsOwnedLive}
use Rattle.rk_world.specs.Stands.{Stands}
use Rattle.rk_inv_wellformed.proofs.room.Rises.{sent_all}
use Rattle.rk_runs.specs.duties.Added.{AreAdded, ActsAdded}
use Rattle.rk_runs.specs.duties.Owners.{NoDeadOwner, AllNoticed, is_crash, is_owned}
use Rattle.rk_runs.specs.duties.Sent.{SendsNoFewer, HasMessage, is_forget}
use Rattle.rk_runs.specs.duties.Worn.{IsWornFor, IsWorn}
use Rattle.rk_runs.specs.history.Runs.{RecordsStay, IsKeptIn, IsFinishedBy}
use Rattle.rk_runs.proofs.duties.Noticing.{comes, kept, AreNoticed}
use Rattle.rk_runs.proofs.duties.Turns.{turn_sends}
use Rattle.rk_runs.proofs.duties.Walks.{event_keeps, ask_keeps, accept_keeps}
use Rattle.rk_types.specs.declared.node.Node.TheVariants as nodes
use Rattle.rk_world.specs.declared.event.Event.TheVariants as events

-- ---- the history of a cluster

-- In every run of a new cluster, whatever is sent, lost, repeated or delayed and whichever masters crash while another one lives, each lane
-- is sound, well formed and has room. So the journals of all lanes merge into one lawful history of one map that starts empty, and that
-- history is ordered with the sessions: each call that was acknowledged is in it once, in its client's order, as its receipt says. What
-- counts of the applied logs of a row's lineage leaves just the records that the journal of its lane leaves; and if nothing is left to
-- do, so does what is read back of what each backup stores.
module _ (masters backups : ℕ) (list : List Occurrence) (few : masters ≤ MOST_MASTERS) (backed : 1 ≤ backups)
    (few_backups : backups ≤ MOST_BACKUPS) (run : IsRun (new_cluster masters backups) list) where
  pub all_sound : (lane : ℕ) → lane < LANES → IsSound (lane_at (cluster_run (new_cluster masters backups) list) lane)
  all_sound = Rattle.rk_runs.proofs.history.Runs.all_sound masters backups few backed few_backups list run

  pub all_formed : (lane : ℕ) → lane < LANES → IsWellFormed (lane_at (cluster_run (new_cluster masters backups) list) lane)
  all_formed = Rattle.rk_runs.proofs.history.Runs.all_formed masters backups few backed few_backups list run

  pub all_have_room : (lane : ℕ) → lane < LANES → HasRoom (lane_at (cluster_run (new_cluster masters backups) list) lane)
  all_have_room = Rattle.rk_runs.proofs.history.Runs.all_have_room masters backups few backed few_backups list run

  pub has_history : HasOneHistory (cluster_run (new_cluster masters backups) list)
  has_history = Rattle.rk_runs.proofs.history.Runs.has_history masters backups few backed few_backups list run

  pub all_true : (lane : ℕ) → lane < LANES
      → let w = lane_at (cluster_run (new_cluster masters backups) list) lane in
      All (λ row. IsTruth no_base row.range (truths (view w) row) w.ledger.journal) w.coordinator.rows
  all_true = Rattle.rk_runs.proofs.history.Runs.all_true masters backups few backed few_backups list run

  pub all_stand : IsQuietCluster (cluster_run (new_cluster masters backups) list) → (lane : ℕ) → lane < LANES
      → Stands (lane_at (cluster_run (new_cluster masters backups) list) lane)
  all_stand = Rattle.rk_runs.proofs.history.Runs.all_stand masters backups few backed few_backups list run

-- A record of a journal stays for ever: whatever occurs, it is at its place, of the same call, outcome and stamp, and is accepted once
-- it was. So no acknowledged call is lost: what each receipt of a run states is in the journals at its end, whatever comes
-- after it.
pub records_stay : (cluster : Cluster) (list : List Occurrence) → RecordsStay cluster (cluster_run cluster list)
records_stay = Rattle.rk_runs.proofs.history.Staying.records_stay

pub acknowledged : (masters backups : ℕ) (before after : List Occurrence) (client : ℕ) → masters ≤ MOST_MASTERS → 1 ≤ backups
    → backups ≤ MOST_BACKUPS → IsRun (new_cluster masters backups) before
    → All (IsKeptIn (cluster_run (new_cluster masters backups) (before ++ after)))
    (session_at (cluster_run (new_cluster masters backups) before) client).receipts
acknowledged masters backups before after client few backed few_backups run =
    Rattle.rk_runs.proofs.history.Runs.acknowledged masters backups few backed few_backups before after client run

-- In every run of a new cluster a row that moves comes to be owned by one event alone, the delivery of its target's Joined; and what counts
-- of the target alone has then the records of what counted of the source, overlaid by the target's own writes.
pub moved_tablets_are_finished : (masters backups lane : ℕ) (list : List Occurrence) (event : Event) (called : Called) (stepped : Stepped)
    (row now : Row) (source target : Member) (owner from : ℕ)
    → masters ≤ MOST_MASTERS → 1 ≤ backups → backups ≤ MOST_BACKUPS → IsRun (new_cluster masters backups) list → lane < LANES
    → let w = lane_at (cluster_run (new_cluster masters backups) list) lane in
    row_of w.coordinator.rows row.tablet ≡ Some row → row.phase ≡ Moving source.master source.from target.master target.from
    → step w event called ≡ Ok stepped → row_of stepped.world.coordinator.rows row.tablet ≡ Some now → now.phase ≡ Owned owner from
    → IsFinishedBy w event stepped row source target
moved_tablets_are_finished masters backups lane list event called stepped row now source target owner from few backed few_too run inside =
    Rattle.rk_runs.proofs.history.Finishing.finished_by (lane_at (cluster_run (new_cluster masters backups) list) lane) event called
    stepped row now source target owner from (all_sound masters backups list few backed few_too run lane inside)

-- ---- the duties of clients and of the coordinator

-- In every run of a new cluster, a client with an outstanding call sends one message on its turn in the lane of that call, if the turn
-- is not refused (`sends_in_run`): its session fits the lane, whatever became of earlier messages. If the client was added in a lane,
-- its turn there is refused only since a number of the lane or of the session is too great (`worn_in_run`).
pub sends_in_run : (masters backups : ℕ) (list : List Occurrence) (lane client : ℕ) (call : Call) (visited : Visited)
    → masters ≤ MOST_MASTERS → 1 ≤ backups → backups ≤ MOST_BACKUPS → IsRun (new_cluster masters backups) list
    → let cluster = cluster_run (new_cluster masters backups) list in
    (session_at cluster client).outstanding ≡ Some call → call_lane call ≡ lane
    → ask (lane_at cluster lane) (session_at cluster client) ≡ Ok visited → visited.world.wire.sent ≡ (lane_at cluster lane).wire.sent + 1
sends_in_run masters backups list lane client call visited few backed few_backups =
    Rattle.rk_runs.proofs.duties.Runs.sends_in_run masters backups few backed few_backups list lane client call visited

pub worn_in_run : (masters backups : ℕ) (list : List Occurrence) (lane client : ℕ) (error : StepError) → masters ≤ MOST_MASTERS
    → 1 ≤ backups → backups ≤ MOST_BACKUPS → IsRun (new_cluster masters backups) list
    → let cluster = cluster_run (new_cluster masters backups) list in
    is_added (lane_at cluster lane).ledger client ≡ true → ask (lane_at cluster lane) (session_at cluster client) ≡ Err error
    → IsWornFor (lane_at cluster lane) (session_at cluster client) error
worn_in_run masters backups list lane client error few backed few_backups =
    Rattle.rk_runs.proofs.duties.Runs.worn_in_run masters backups few backed few_backups list lane client error

-- Who has a session was added in each lane. It is so in a new cluster, and stays so whatever occurs, if a client that joins, takes its
-- turn or takes an answer has a session or was added in each lane.

-- a new cluster has no sessions
pub added_new : (masters backups : ℕ) → AreAdded (new_cluster masters backups)
added_new masters backups client session found = absurd (none-some session found)

pub added_after : (cluster : Cluster) (occurrence : Occurrence) → ActsAdded cluster occurrence → AreAdded cluster
    → AreAdded (cluster_after cluster occurrence)
added_after = Rattle.rk_runs.proofs.duties.Adding.added_after

-- No row is owned by a master that was noticed dead. It is so in a lane where nothing has happened, and stays so at each event, if each
-- master that was noticed has crashed, as in each lane that is well formed; and it stays so when a client takes its turn or an answer. So
-- it is so in each lane of every run of a new cluster (`free_in_run`).
pub new_free : (lane masters backups : ℕ) → NoDeadOwner (new_world lane masters backups).coordinator
new_free = Rattle.rk_runs.proofs.duties.Rows.new_free

pub stepped_free : (w : World) (event : Event) (called : Called) → All (λ dead. has_crashed w dead ≡ true) w.coordinator.noticed
    → NoDeadOwner w.coordinator → NoDeadOwner (world_stepped w (step w event called)).coordinator
stepped_free w event called gone free = Rattle.rk_runs.proofs.duties.Rows.stepped_free w free gone event called

pub asked_free : (w : World) (session : Session) → NoDeadOwner w.coordinator → NoDeadOwner (world_visited w (ask w session)).coordinator
asked_free w session free = Rattle.rk_runs.proofs.duties.Rows.asked_free w free session

pub accepted_free : (w : World) (number : ℕ) (session : Session) → NoDeadOwner w.coordinator
    → NoDeadOwner (world_visited w (accept w number session)).coordinator
accepted_free w number session free = Rattle.rk_runs.proofs.duties.Rows.accepted_free w free number session

pub free_in_run : (masters backups : ℕ) (list : List Occurrence) (lane : ℕ) → masters ≤ MOST_MASTERS → 1 ≤ backups → backups ≤ MOST_BACKUPS
    → IsRun (new_cluster masters backups) list → lane < LANES
    → NoDeadOwner (lane_at (cluster_run (new_cluster masters backups) list) lane).coordinator
free_in_run masters backups list lane few backed few_backups run inside =
    Rattle.rk_runs.proofs.duties.Runs.free_in_run masters backups few backed few_backups list lane run inside

-- Each master that has crashed was noticed dead: so it is in a lane where nothing has happened, and once one crash was noticed in a lane
-- that is well formed (`all_noticed`); and it stays so at each event but a crash, and when a client takes its turn or an answer.

-- in a lane where nothing happened nobody has crashed
pub new_noticed : (lane masters backups : ℕ) → AllNoticed (new_world lane masters backups)
new_noticed lane masters backups master crashed = absurd (false≢true crashed)

pub all_noticed : (w : World) (master : ℕ) (called : Called) → IsWellFormed w → AllNoticed (happened w (events.Notice master) called).world
all_noticed w master called formed = Rattle.rk_runs.proofs.duties.Noticing.all_noticed w formed master called

module _ (w : World) (all : AllNoticed w) where
  -- an event
  pub stepped_noticed : (event : Event) (called : Called) → is_crash event ≡ false → AllNoticed (world_stepped w (step w event called))
  stepped_noticed event called calm = grind (arith, refusal, world_stepped, stepped_by, event_keeps, (kept w all), (comes w all))

  -- a client's turn
  pub asked_noticed : (session : Session) → AllNoticed (world_visited w (ask w session))
  asked_noticed session = ask_keeps AreNoticed w all session

  -- an answer
  pub accepted_noticed : (number : ℕ) (session : Session) → AllNoticed (world_visited w (accept w number session))
  accepted_noticed number session = accept_keeps AreNoticed w all number session

-- If some row is not owned, the coordinator has something to say on its turn (`turn_says`), so that more messages were sent after it
-- (`unowned_sends`). If no row is owned by a master that was noticed dead, and each master that has crashed was noticed, the coordinator
-- sends on its turn unless each row is owned by a master that lives (`disowned_sends`). Its turn is refused only since a number of the lane
-- is too great (`turn_refused`).
pub turn_says : (coordinator : Coordinator) (row : Row) → Contains coordinator.rows row → is_owned row.phase ≡ false
    → coordinator_turn coordinator ≢ []
turn_says = Rattle.rk_runs.proofs.duties.Turns.turn_says

pub unowned_sends : (w : World) (row : Row) (called : Called) → Contains w.coordinator.rows row → is_owned row.phase ≡ false
    → w.wire.sent < (happened w (Event.Turn Node.Coordinator) called).world.wire.sent
unowned_sends w row called stands unowned =
    omega (arith, turn_sends w.coordinator row stands unowned, sent_all w.wire (coordinator_turn w.coordinator))

pub disowned_sends : (w : World) (called : Called) → NoDeadOwner w.coordinator → AllNoticed w
    → (All (λ row. IsOwnedLive w.crashed row.phase) w.coordinator.rows → ⊥)
    → w.wire.sent < (happened w (events.Turn nodes.Coordinator) called).world.wire.sent
disowned_sends w called free noticed disowned = Rattle.rk_runs.proofs.duties.Turns.disowned_sends w free noticed called disowned

pub turn_refused : (w : World) (called : Called) (error : StepError) → step w (Event.Turn Node.Coordinator) called ≡ Err error
    → IsWorn w error
turn_refused w called error = grind (arith, worn, stepped_by)

-- Whatever happens in a lane, no fewer messages were sent on its wire than before; and if more were, a message is on it then
-- (`stepped_sends_no_fewer`, `asked_sends_no_fewer`, `answer_sends_no_fewer`). A wire that has a message has one still, unless one is
-- forgotten (`stepped_message_stays`, `asked_message_stays`, `answer_message_stays`).
pub stepped_sends_no_fewer : (w : World) (event : Event) (called : Called)
    → SendsNoFewer w.wire (world_stepped w (step w event called)).wire
stepped_sends_no_fewer w event called = (Rattle.rk_runs.proofs.duties.Going.stepped_on w event called).wire

pub asked_sends_no_fewer : (w : World) (session : Session) → SendsNoFewer w.wire (world_visited w (ask w session)).wire
asked_sends_no_fewer w session = (Rattle.rk_runs.proofs.duties.Going.asked_turn_on w session).wire

pub answer_sends_no_fewer : (w : World) (number : ℕ) (session : Session)
    → SendsNoFewer w.wire (world_visited w (accept w number session)).wire
answer_sends_no_fewer w number session = (Rattle.rk_runs.proofs.duties.Going.answer_on w number session).wire

pub stepped_message_stays : (w : World) (event : Event) (called : Called) → is_forget event ≡ false → HasMessage w.wire
    → HasMessage (world_stepped w (step w event called)).wire
stepped_message_stays w event called keeps there = (Rattle.rk_runs.proofs.duties.Going.stepped_on w event called).stays keeps there

pub asked_message_stays : (w : World) (session : Session) → HasMessage w.wire → HasMessage (world_visited w (ask w session)).wire
asked_message_stays w session there = (Rattle.rk_runs.proofs.duties.Going.asked_turn_on w session).stays refl there

pub answer_message_stays : (w : World) (number : ℕ) (session : Session) → HasMessage w.wire
    → HasMessage (world_visited w (accept w number session)).wire
answer_message_stays w number session there = (Rattle.rk_runs.proofs.duties.Going.answer_on w number session).stays refl there
