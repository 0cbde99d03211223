-- The headline laws of lanes that are stepped apart, each by itself: of one lane, whatever becomes of the others, and of all of them once
-- they are gathered.
use Rattle.std.proofs.Common.{IsPermutation}
use Rattle.rk_inv_base.proofs.Words.{◌≤◌, ℕ, MOST_BACKUPS, MOST_MASTERS, new_world, ◌<◌, List, LANES, Occurrence, cluster_run, lane_at}
use Rattle.rk_inv_base.proofs.Words.{new_cluster, IsRun, ◌≡◌, None, Called, MayHappen, refusal, happened, World, Event, ask, Session}
use Rattle.rk_inv_base.proofs.Words.{MayAct, world_visited, accept, Some, true, Call, asking, fits_with, is_added, get, Message, accepting}
use Rattle.rk_inv_base.proofs.Words.{All, length, map, EachIn, IsInOrder, NumberMap, Placed, Contains, slice_get, journal_of, sym, subst}
use Rattle.rk_inv_base.proofs.Words.{new_session, arith, Op, Cluster, false}
use Rattle.rk_model.specs.Ordered.{IsRecorded, told_by}
use Rattle.rk_world.specs.Client.{busy, session_calling}
use Rattle.rk_world.specs.Cluster.{HasOneHistory, journals_of, IsQuietCluster}
use Rattle.rk_world.specs.Ledger.{new_ledger}
use Rattle.rk_world.specs.Premises.{MayCome}
use Rattle.rk_world.specs.Refusals.{is_for}
use Rattle.rk_world.specs.Replicas.{IsTold}
use Rattle.rk_world.specs.Runs.{IsCalmEvent}
use Rattle.rk_laws_lanes.specs.Counts.{HasSameCounts, AddsNoClient, HasSameClients, IsAskedOnce, IsCounted, HasReceipts}
use Rattle.rk_laws_lanes.specs.GoodLane.{IsGoodLane}
use Rattle.rk_laws_lanes.specs.gathered.Answers.{AreOwn, accepted_answers, accepted_in, answer_in, AreOfDistinctCalls, HasJustTheAnswers}
use Rattle.rk_laws_lanes.specs.gathered.Gathered.{IsOrderly, AreAnswered, AreCounted, AreGathered, IsRepeatedRead}
use Rattle.rk_laws_lanes.specs.gathered.OpenCalls.{HasCountedCalls}
use Rattle.rk_laws_lanes.specs.gathered.Sessions.{receipts_in}
use Rattle.rk_laws_lanes.specs.gathered.StoredHistory.{HistoryIsStored}
use Rattle.rk_laws_lanes.proofs.gathered.Orderly.{next_orderly}

-- ---- one lane

-- A lane where nothing has happened is good, with at most eight masters and with one to four backups.
pub new_lanes_are_good : (masters backups number : ℕ) → masters ≤ MOST_MASTERS → 1 ≤ backups → backups ≤ MOST_BACKUPS
    → IsGoodLane masters number (new_world number masters backups)
new_lanes_are_good = Rattle.rk_laws_lanes.proofs.Events.good_new

-- Each lane of a run of a new cluster is good. So lanes that come out of a cluster may be stepped by themselves.
pub lanes_of_runs_are_good : (masters backups lane : ℕ) (list : List Occurrence) → masters ≤ MOST_MASTERS → 1 ≤ backups
    → backups ≤ MOST_BACKUPS → IsRun (new_cluster masters backups) list → lane < LANES
    → IsGoodLane masters lane (lane_at (cluster_run (new_cluster masters backups) list) lane)
lanes_of_runs_are_good = Rattle.rk_laws_lanes.proofs.OfRuns.good_in_run

-- A good lane stays good at each event that may happen there and is not refused, if replicas answer what they store, and a crash leaves
-- another master alive.
pub events_keep_lanes_good : (masters number : ℕ) (w : World) (event : Event) (called : Called) → IsGoodLane masters number w
    → MayHappen w event → MayCome called → IsTold w event called → IsCalmEvent w event → refusal w event ≡ None
    → IsGoodLane masters number (happened w event called).world
events_keep_lanes_good = Rattle.rk_laws_lanes.proofs.Events.good_event

-- It stays good when a client that may act there takes its turn, and when it takes an answer.
module _ (masters number : ℕ) (w : World) (session : Session) (good : IsGoodLane masters number w) (may : MayAct masters session) where
  pub good_asks : IsGoodLane masters number (world_visited w (ask w session))
  good_asks = Rattle.rk_laws_lanes.proofs.Clients.good_asks masters number w session good may

  pub good_accepts : (message : ℕ) → IsGoodLane masters number (world_visited w (accept w message session))
  good_accepts = Rattle.rk_laws_lanes.proofs.Clients.good_accepts masters number w session good may

-- An event accepts no record and asks no call, and unless it adds a client, the lane has the clients that it had.
pub same_counts : (w : World) (event : Event) (called : Called) → HasSameCounts w.ledger (happened w event called).world.ledger
same_counts = Rattle.rk_laws_lanes.proofs.Ledgers.same_counts

pub same_clients : (w : World) (event : Event) (called : Called) → AddsNoClient event
    → HasSameClients w.ledger (happened w event called).world.ledger
same_clients = Rattle.rk_laws_lanes.proofs.Ledgers.same_clients

-- A client of a lane that takes its turn there for a call that fits asks the call once: the lane counts it if it was not asked there
-- before.
pub asks_are_counted : (w : World) (session : Session) (call : Call) → session.outstanding ≡ Some call
    → is_added w.ledger session.client ≡ true → fits_with w session call ≡ true → IsAskedOnce w session call (asking w session (Some call))
asks_are_counted = Rattle.rk_laws_lanes.proofs.Asks.asked_once

-- What a client takes of a message of a good lane: an answer to its call accepts one record more and gives it one receipt more, with a
-- stamp above all that it had seen; anything else accepts none (`answer_counted`). In any lane an answer leaves the client no call,
-- anything else leaves it its call and its receipts (`answer_receipts`); no call is asked (`answer_asked`), and the lane has the clients
-- that it had (`answer_clients`).
pub answer_counted : (masters lane : ℕ) (w : World) (number : ℕ) (session : Session) (message : Message) → IsGoodLane masters lane w
    → MayAct masters session → get w.wire.messages number ≡ Some message → is_for session.client message.to ≡ true
    → let visited = accepting w session (Some message) in
    IsCounted w.ledger visited.world.ledger session visited.session visited.seen.taken
answer_counted = Rattle.rk_laws_lanes.proofs.Answers.answer_counted

pub answer_receipts : (w : World) (session : Session) (message : Message)
    → let visited = accepting w session (Some message) in
    HasReceipts session visited.session visited.seen.taken
answer_receipts = Rattle.rk_laws_lanes.proofs.Answers.answer_receipts

pub answer_asked : (w : World) (session : Session) (message : Message)
    → (accepting w session (Some message)).world.ledger.asked ≡ w.ledger.asked
answer_asked = Rattle.rk_laws_lanes.proofs.Answers.answer_asked

pub answer_clients : (w : World) (session : Session) (message : Message)
    → HasSameClients w.ledger (accepting w session (Some message)).world.ledger
answer_clients = Rattle.rk_laws_lanes.proofs.Answers.answer_clients

-- ---- all lanes, once they are gathered

-- If each receipt of some sessions is that of the accepted record at its lane and place, and no more records are accepted than there are
-- receipts, then the receipts are of all accepted records: what they report are the accepted answers in another order (`all_told`), so each
-- accepted record has its receipt (`each_told`). No two receipts are of one call (`distinct_calls`).
pub all_told : (journals : List (List Placed)) (sessions : NumberMap Session) → IsInOrder sessions
    → EachIn (λ client session. AreOwn client session.receipts) sessions → All (IsRecorded journals) (receipts_in sessions)
    → accepted_in journals ≤ length (receipts_in sessions) → IsPermutation (map told_by (receipts_in sessions)) (accepted_answers journals)
all_told journals sessions order own recorded few =
    Rattle.rk_laws_lanes.proofs.gathered.AllTold.all_told journals (receipts_in sessions)
    (Rattle.rk_laws_lanes.proofs.gathered.Sessions.distinct_calls sessions order own) recorded few

pub each_told : (journals : List (List Placed)) (sessions : NumberMap Session) (lane place : ℕ) (placed : Placed) → IsInOrder sessions
    → EachIn (λ client session. AreOwn client session.receipts) sessions → All (IsRecorded journals) (receipts_in sessions)
    → accepted_in journals ≤ length (receipts_in sessions) → slice_get (journal_of journals lane) place ≡ Some placed
    → placed.accepted ≡ true → Contains (map told_by (receipts_in sessions)) (answer_in lane placed)
each_told journals sessions lane place placed order own recorded few =
    Rattle.rk_laws_lanes.proofs.gathered.AllTold.each_told journals (receipts_in sessions)
    (Rattle.rk_laws_lanes.proofs.gathered.Sessions.distinct_calls sessions order own) recorded few lane place placed

pub distinct_calls : (sessions : NumberMap Session) → IsInOrder sessions
    → EachIn (λ client session. AreOwn client session.receipts) sessions → AreOfDistinctCalls (receipts_in sessions)
distinct_calls = Rattle.rk_laws_lanes.proofs.gathered.Sessions.distinct_calls

-- A new lane has counted its calls, and goes on doing so at each event and at each client's turn, and, if it is good, when a client takes
-- an answer.
pub new_counted : HasCountedCalls new_ledger
new_counted = Rattle.rk_laws_lanes.proofs.gathered.OpenCalls.new_counted

pub event_counted : (w : World) (event : Event) (called : Called) → HasCountedCalls w.ledger
    → HasCountedCalls (happened w event called).world.ledger
event_counted = Rattle.rk_laws_lanes.proofs.gathered.Counting.event_counted

pub ask_counted : (w : World) (session : Session) → HasCountedCalls w.ledger → HasCountedCalls (world_visited w (ask w session)).ledger
ask_counted = Rattle.rk_laws_lanes.proofs.gathered.Counting.ask_counted

pub accept_counted : (masters lane : ℕ) (w : World) (message : ℕ) (session : Session) → IsGoodLane masters lane w → MayAct masters session
    → HasCountedCalls w.ledger → HasCountedCalls (world_visited w (accept w message session)).ledger
accept_counted masters lane w message session good may =
    Rattle.rk_laws_lanes.proofs.gathered.Counting.accept_counted w message session good.sound (subst (λ (count : ℕ). MayAct count session)
    (sym good.masters_are) may)

-- A new session is orderly, and stays so when its client asks its next call, takes its turn, and takes a message of a good lane.
pub new_orderly : (client : ℕ) → IsOrderly client (new_session client)
new_orderly = Rattle.rk_laws_lanes.proofs.gathered.Orderly.new_orderly

module _ (client : ℕ) (session : Session) (orderly : IsOrderly client session) where
  pub calling_orderly : (table : ℕ) (key : List ℕ) (op : Op) → IsOrderly client (session_calling session table key op (busy session))
  calling_orderly table key op = grind (arith, (next_orderly client session orderly))

pub asking_orderly : (client : ℕ) (w : World) (session : Session) → IsOrderly client session
    → IsOrderly client (asking w session session.outstanding).session
asking_orderly client w session orderly =
    Rattle.rk_laws_lanes.proofs.gathered.Orderly.asking_orderly client session orderly w session.outstanding

pub accepting_orderly : (masters lane client : ℕ) (w : World) (number : ℕ) (session : Session) (message : Message)
    → IsGoodLane masters lane w → MayAct masters session → get w.wire.messages number ≡ Some message
    → is_for session.client message.to ≡ true → IsOrderly client session → IsOrderly client (accepting w session (Some message)).session
accepting_orderly masters lane client w number session message good may on to orderly =
    Rattle.rk_laws_lanes.proofs.gathered.Orderly.accepting_orderly client w number session good.sound (subst (λ (count : ℕ). MayAct count
    session) (sym good.masters_are) may) orderly message on to

-- If gathered lanes have counted their calls, and were asked at most as many as the sessions made, which all have a receipt, then each call
-- was answered: there are no more accepted records than receipts, and what each client asked last in a lane is accepted there.
pub counted_calls_are_answered : (masters : ℕ) (cluster : Cluster) → AreGathered masters cluster → AreCounted cluster → AreAnswered cluster
counted_calls_are_answered = Rattle.rk_laws_lanes.proofs.gathered.Answered.all_answered

-- Good lanes have one history with sessions that ended, whoever stepped them and in whatever order, if each receipt is that of an accepted
-- record and each call was answered (`answered_history`). That history has the answer of each receipt once, and nothing else
-- (`answered_just`). A record of a journal that was not accepted only repeats a read (`repeated`).
module _ (masters : ℕ) (cluster : Cluster) (gathered : AreGathered masters cluster) (answered : AreAnswered cluster) where
  pub answered_history : HasOneHistory cluster
  answered_history = Rattle.rk_laws_lanes.proofs.gathered.History.history masters cluster gathered answered

  pub answered_just : HasJustTheAnswers (journals_of cluster) (receipts_in cluster.sessions)
  answered_just = Rattle.rk_laws_lanes.proofs.gathered.History.just_the_answers masters cluster gathered answered

  pub repeated : (lane place : ℕ) (placed : Placed) → slice_get (journal_of (journals_of cluster) lane) place ≡ Some placed
      → placed.accepted ≡ false → IsRepeatedRead (journal_of (journals_of cluster) lane) placed
  repeated = Rattle.rk_laws_lanes.proofs.gathered.History.repeated masters cluster gathered answered

-- Good lanes that counted their calls, and were asked no more than the sessions made, have that one history too (`gathered_history`,
-- `gathered_just`). No two receipts are of one call (`apart`), so each call is in it exactly once. If the cluster is quiet, the logs that
-- the backups store have just the records of the history (`stored`).
pub gathered_history : (masters : ℕ) (cluster : Cluster) → AreGathered masters cluster → AreCounted cluster → HasOneHistory cluster
gathered_history masters cluster gathered counted =
    Rattle.rk_laws_lanes.proofs.gathered.History.history masters cluster gathered
    (Rattle.rk_laws_lanes.proofs.gathered.Answered.all_answered masters cluster gathered counted)

pub gathered_just : (masters : ℕ) (cluster : Cluster) → AreGathered masters cluster → AreCounted cluster
    → HasJustTheAnswers (journals_of cluster) (receipts_in cluster.sessions)
gathered_just masters cluster gathered counted =
    Rattle.rk_laws_lanes.proofs.gathered.History.just_the_answers masters cluster gathered
    (Rattle.rk_laws_lanes.proofs.gathered.Answered.all_answered masters cluster gathered counted)

pub apart : (masters : ℕ) (cluster : Cluster) → AreGathered masters cluster → AreOfDistinctCalls (receipts_in cluster.sessions)
apart = Rattle.rk_laws_lanes.proofs.gathered.History.apart

pub stored : (masters : ℕ) (cluster : Cluster) (lane : ℕ) → AreGathered masters cluster → IsQuietCluster cluster
    → lane < length cluster.lanes → HistoryIsStored cluster lane (lane_at cluster lane)
stored masters cluster lane gathered quiet inside =
    Rattle.rk_laws_lanes.proofs.gathered.Stored.stored masters cluster gathered.lanes lane inside (map (λ entry. entry.1)
    cluster.sessions) (quiet lane (new_world lane 0 0) inside)
