-- A record of a journal stays for ever: whatever occurs in a cluster, it is at its place, except that it may be accepted.
use Rattle.std.proofs.Common.{◌≡◌, ℕ, List, [], ◌∷◌, ◌++◌, Option, Some, None, length, refl, sym, subst, ◌∙◌}
use Rattle.std.proofs.Common.{arith, slice_get, get_or-set_other, length-set}
use Rattle.rk_inv_base.proofs.Words.{get_or_past, get, Call, Placed, slice_get_front, Body, Message, Called, accept_by, accepting, ask_by}
use Rattle.rk_inv_base.proofs.Words.{asking, is_asked, ledger_asked, ledger_requested, ledger_taken, Session, Accepts, Asks, Calls, Cluster}
use Rattle.rk_inv_base.proofs.Words.{Happens, Joins, Occurrence, called_by_client, cluster_after, cluster_run, cluster_stepped}
use Rattle.rk_inv_base.proofs.Words.{cluster_visited, joined_by, lane_at, session_at, with_lane, accepted_at, Ledger, with_asked}
use Rattle.rk_inv_base.proofs.Words.{accept_refusal, ask_refusal, refusal, happened, stepped_by, World, StepError, Event, NumberMap}
use Rattle.rk_inv_base.proofs.Words.{Visited}
use Rattle.rk_world.specs.Client.{session_accept}
use Rattle.rk_world.specs.declared.event.Taken.{Taken}
use Rattle.rk_inv_base.proofs.calls.SameRecords.{accepted_same, record_after}
use Rattle.rk_inv_lanes.proofs.lanes.Visits.{accepting_covered, asking_covered}
use Rattle.rk_runs.specs.history.Runs.{RecordsStay, StandsStill}
use Rattle.rk_runs.proofs.history.Clusters.{lane_here}
use Rattle.rk_runs.proofs.history.GoesOn.{event_goes_on}

-- ---- journals

pub still_itself : (journal : List Placed) → StandsStill journal journal
still_itself journal place placed at = record { now = placed; stands = at; call = refl; outcome = refl; stamp = refl; kept = λ accepted. accepted }

pub still_then : (a b c : List Placed) → StandsStill a b → StandsStill b c → StandsStill a c
still_then a b c first second place placed at =
    let one = first place placed at in
    let two = second place one.now one.stands in
    record {
      now = two.now;
      stands = two.stands;
      call = two.call ∙ one.call;
      outcome = two.outcome ∙ one.outcome;
      stamp = two.stamp ∙ one.stamp;
      kept = λ accepted. two.kept (one.kept accepted);
    }

still_grown : (journal more : List Placed) → StandsStill journal (journal ++ more)
still_grown journal more place placed at =
    record { now = placed; stands = slice_get_front journal more place placed at; call = refl; outcome = refl; stamp = refl; kept = λ accepted. accepted }

still_accepted : (journal : List Placed) (where_at : ℕ) (found : Option Placed) → slice_get journal where_at ≡ found → StandsStill journal (accepted_at journal where_at found)
still_accepted journal where_at None is = still_itself journal
still_accepted journal where_at (Some it) is = λ place placed at.
    let new = record_after journal (accepted_at journal where_at (Some it)) place placed (accepted_same journal where_at it is) at in
    record { now = new.0; stands = new.1; call = new.2.call; outcome = new.2.outcome; stamp = new.2.stamp; kept = new.2.kept }

-- ---- lanes

event_stays : (w : World) (event : Event) (called : Called) → StandsStill w.ledger.journal (happened w event called).world.ledger.journal
event_stays w event called =
    let grows = (event_goes_on w event called).ledger 0 in
    subst (StandsStill w.ledger.journal) (sym grows.journal_is) (still_grown w.ledger.journal grows.more)

taken_stays : (ledger : Ledger) (body : Body) (taken : Taken) → StandsStill ledger.journal (ledger_taken ledger body taken).journal
taken_stays ledger (Body.Reply reply) Taken.Done = still_accepted ledger.journal reply.place (slice_get ledger.journal reply.place) refl
taken_stays ledger body taken = still_itself ledger.journal

requested_stays : (ledger : Ledger) (client : ℕ) (message : Message) (body : Body) → StandsStill ledger.journal (ledger_requested ledger client message body).journal
requested_stays ledger client message (Body.Request request) = still_itself ledger.journal
requested_stays ledger client message body = still_itself ledger.journal

asked_stays : (ledger : Ledger) (session : Session) (call : Call) → StandsStill ledger.journal (ledger_asked ledger session call).journal
asked_stays ledger session call = grind (arith, is_asked, with_asked, still_itself)

module _ (w : World) (session : Session) where
  abbrev Still : Visited → Type 0
  Still visited = StandsStill w.ledger.journal visited.world.ledger.journal

  asking_stays : Still (asking w session session.outstanding)
  asking_stays = asking_covered Still w session (still_itself w.ledger.journal)
      (λ call turn out fits is.
      still_then w.ledger.journal (ledger_asked w.ledger session call).journal
      (ledger_requested (ledger_asked w.ledger session call) session.client turn.message turn.message.body).journal
      (asked_stays w.ledger session call)
      (requested_stays (ledger_asked w.ledger session call) session.client turn.message turn.message.body))

  accepting_stays : (number : ℕ) → Still (accepting w session (get w.wire.messages number))
  accepting_stays number = accepting_covered Still w session number (λ taken. still_itself w.ledger.journal)
      (λ message found asked. taken_stays w.ledger message.body (session_accept session message.body).taken)

-- ---- clusters

-- a cluster later: its records stay, and it has as many lanes
record Stays (before after : Cluster) : Type 0 where
  records : RecordsStay before after
  lanes : length after.lanes ≡ length before.lanes

all_stay : (cluster : Cluster) → Stays cluster cluster
all_stay cluster = record { records = λ lane. still_itself (lane_at cluster lane).ledger.journal; lanes = refl }

with_lane_stays : (cluster : Cluster) (lane : ℕ) (w : World) → StandsStill (lane_at cluster lane).ledger.journal w.ledger.journal
    → Stays cluster (with_lane cluster lane w)
with_lane_stays cluster lane w stays =
    grind (arith, length-set, lane_here, get_or_past, get_or-set_other, still_itself)

-- so it is, whoever has which session
with_sessions : {cluster after : Cluster} (sessions : NumberMap Session) → Stays cluster after → Stays cluster (record after { sessions = sessions })
with_sessions sessions stays = record { records = stays.records; lanes = stays.lanes }

occurrence_stays : (cluster : Cluster) (occurrence : Occurrence) → Stays cluster (cluster_after cluster occurrence)
occurrence_stays cluster (Happens lane event called) = go (refusal (lane_at cluster lane) event)
  where
    go : (refused : Option StepError) → Stays cluster (cluster_stepped cluster lane (stepped_by (lane_at cluster lane) event called refused))
    go None = with_lane_stays cluster lane (happened (lane_at cluster lane) event called).world (event_stays (lane_at cluster lane) event called)
    go (Some error) = all_stay cluster
occurrence_stays cluster (Joins client) = go (get cluster.sessions client)
  where
    go : (found : Option Session) → Stays cluster (joined_by cluster client found)
    go None = with_sessions _ (all_stay cluster)
    go (Some session) = all_stay cluster
occurrence_stays cluster (Calls client table key op) = go (get cluster.sessions client)
  where
    go : (found : Option Session) → Stays cluster (called_by_client cluster client table key op found)
    go None = all_stay cluster
    go (Some session) = with_sessions _ (all_stay cluster)
occurrence_stays cluster (Asks lane client) = go (ask_refusal (lane_at cluster lane) (session_at cluster client))
  where
    go : (refused : Option StepError)
        → Stays cluster (cluster_visited cluster lane client (ask_by (lane_at cluster lane) (session_at cluster client) refused))
    go None = with_sessions _ (with_lane_stays cluster lane _ (asking_stays (lane_at cluster lane) (session_at cluster client)))
    go (Some error) = all_stay cluster
occurrence_stays cluster (Accepts lane number client) =
    go (accept_refusal (lane_at cluster lane) number (session_at cluster client).client (get (lane_at cluster lane).wire.messages number))
  where
    go : (refused : Option StepError)
        → Stays cluster (cluster_visited cluster lane client (accept_by (lane_at cluster lane) number (session_at cluster client) refused))
    go None = with_sessions _ (with_lane_stays cluster lane _ (accepting_stays (lane_at cluster lane) (session_at cluster client) number))
    go (Some error) = all_stay cluster

pub records_stay : (cluster : Cluster) (list : List Occurrence) → RecordsStay cluster (cluster_run cluster list)
records_stay cluster [] lane = still_itself (lane_at cluster lane).ledger.journal
records_stay cluster (occurrence ∷ later) lane =
    still_then (lane_at cluster lane).ledger.journal (lane_at (cluster_after cluster occurrence) lane).ledger.journal
    (lane_at (cluster_run (cluster_after cluster occurrence) later) lane).ledger.journal
    ((occurrence_stays cluster occurrence).records lane) (records_stay (cluster_after cluster occurrence) later lane)

-- and it has as many lanes as before
pub lanes_stay : (cluster : Cluster) (list : List Occurrence) → length (cluster_run cluster list).lanes ≡ length cluster.lanes
lanes_stay cluster [] = refl
lanes_stay cluster (occurrence ∷ later) = lanes_stay (cluster_after cluster occurrence) later ∙ (occurrence_stays cluster occurrence).lanes
