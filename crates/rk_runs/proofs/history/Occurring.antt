-- A good cluster stays good at all that occurs in it, if events keep lanes sound.
use Rattle.std.proofs.Common.{arith, ◌≡◌, ℕ, ◌<◌, Bool, true, false, cond, List, Option, Some, None, length, refl, sym, ap, subst, ◌∙◌}
use Rattle.std.proofs.Common.{⊎_elim, ◌≤◌, IfSome, Ok, unwrap_or, w32, option_map}
use Rattle.rk_inv_base.proofs.Words.{cases_lt, get_or_past, IfSome_then, get, Call, Op, Message, Called, Visited, accept, accept_by}
use Rattle.rk_inv_base.proofs.Words.{accepting, ask_by, asking, is_asked_here, taking, untouched, Session, call_lane, new_session}
use Rattle.rk_inv_base.proofs.Words.{Accepts, Asks, Calls, Cluster, Happens, Joins, Occurrence, called_by_client, cluster_after}
use Rattle.rk_inv_base.proofs.Words.{cluster_stepped, cluster_visited, joined_by, lane_at, session_at, with_lane, with_session, asked_by}
use Rattle.rk_inv_base.proofs.Words.{MayAct, MayHappen, accept_refusal, ask_refusal, refusal, AllTell, happened, stepped_by, World}
use Rattle.rk_inv_base.proofs.Words.{new_world, StepError, Event, LastCall}
use Rattle.rk_world.specs.declared.event.Taken.{Taken}
use Rattle.rk_entry.specs.Numbers.{IsNumber}
use Rattle.rk_world.specs.Calls.{asked_by_session}
use Rattle.rk_world.specs.Client.{next_call, session_calling}
use Rattle.rk_world.specs.Cluster.{ClusterMay, KeepsCalm}
use Rattle.rk_world.specs.ClusterRuns.{ReplicasTell}
use Rattle.rk_world.specs.Premises.{IsLawfulCall, MayCome}
use Rattle.rk_world.specs.Refusals.{is_for}
use Rattle.rk_world.specs.Replicas.{IsTold}
use Rattle.rk_world.specs.Runs.{IsCalmEvent}
use Rattle.rk_inv_wellformed.proofs.lanes.New.{may_act_calling}
use Rattle.rk_runs.specs.history.Agreement.{Agrees}
use Rattle.rk_runs.proofs.history.Agreeing.{ChangesAt, agrees_calling, agrees_grown}
use Rattle.rk_runs.proofs.history.Clusters.{IsGood, IsGoodLane, IsGoodSession, changes_there, each_session, lanes_there, ledgers_of}
use Rattle.rk_runs.proofs.history.GoesOn.{event_goes_on, same_ledger}
use Rattle.rk_runs.proofs.history.Lanes.{ClientsKeep, EventsKeep, asking_good, event_good, taking_good}
use Rattle.rk_runs.proofs.history.SentIn.{WasSentThere, asking_there, taking_there}
use Rattle.rk_runs.proofs.history.Taking.{is_mine, says}
use Rattle.rk_runs.proofs.history.Visits.{AgreeAfter, agree_asking, agree_taking}

module _ (Steady : World → Type 0) (masters : ℕ) (events_keep : EventsKeep Steady) (clients_keep : ClientsKeep Steady) (cluster : Cluster) (good : IsGood Steady masters cluster) where
  -- ---- an event

  module _ (lane : ℕ) (within : lane < length cluster.lanes) (event : Event) (called : Called) (may : MayHappen (lane_at cluster lane) event) (come : MayCome called) (told : IsTold (lane_at cluster lane) event called) (calm : IsCalmEvent (lane_at cluster lane) event) where
    abbrev w : World
    w = lane_at cluster lane

    abbrev new : World
    new = (happened w event called).world

    pub steps : (refused : Option StepError) → refusal w event ≡ refused → IsGood Steady masters (cluster_stepped cluster lane (stepped_by w event called refused))
    steps (Some error) none = good
    steps None none = record {
      lanes = lanes_there cluster lane new within Steady masters good.lanes
          (event_good (good.lanes lane within) events_keep event called may come told calm none);
      agree = λ client.
          agrees_grown (ledgers_of cluster) (ledgers_of (with_lane cluster lane new)) lane new.ledger
          (changes_there cluster lane new within cluster.sessions) client (session_at cluster client) (good.agree client)
          ((event_goes_on w event called).ledger client);
      sessions = good.sessions;
    }

  -- ---- sessions

  -- a client gets this session, which agrees with the lanes
  pub gets : (client : ℕ) (session : Session) → Agrees (ledgers_of cluster) client session → IsGoodSession masters client session → IsGood Steady masters (with_session cluster client session)
  gets client session agrees acts = record {
    lanes = good.lanes;
    agree = each_session cluster client session (Agrees (ledgers_of cluster)) agrees (λ c apart. good.agree c);
    sessions = each_session cluster client session (IsGoodSession masters) acts (λ c apart. good.sessions c);
  }

  pub joins : (client : ℕ) (found : Option Session) → get cluster.sessions client ≡ found → IsGood Steady masters (joined_by cluster client found)
  joins client None none =
      let is : session_at cluster client ≡ new_session client = ap (λ (o : Option Session). unwrap_or o (new_session client)) none in
      gets client (new_session client) (subst (Agrees (ledgers_of cluster) client) is (good.agree client))
      (subst (IsGoodSession masters client) is (good.sessions client))
  joins client (Some session) none = good

  calling : (client : ℕ) (session : Session) (table : ℕ) (key : List ℕ) (op : Op) → Agrees (ledgers_of cluster) client session → IsGoodSession masters client session → IsLawfulCall (next_call session table key op) → (out : Option Call) → session.outstanding ≡ out
      → IsGood Steady masters (with_session cluster client (session_calling session table key op (option_map (λ (call : Call). call.seq) out)))
  calling client session table key op agrees acts lawful None idle =
      grind (arith, w32, gets, agrees_calling, ledgers_of, may_act_calling, agrees.own, lawful.client, acts.acts, acts.sent_in)
  calling client session table key op agrees acts lawful (Some call) idle = gets client session agrees acts

  pub calls : (client table : ℕ) (key : List ℕ) (op : Op) → IsLawfulCall (next_call (session_at cluster client) table key op) → (found : Option Session) → get cluster.sessions client ≡ found → IsGood Steady masters (called_by_client cluster client table key op found)
  calls client table key op lawful found none = grind (arith, session_at, new_session, calling, ledgers_of)

  -- ---- a turn or an answer

  module _ (lane : ℕ) (within : lane < length cluster.lanes) (client : ℕ) where
    abbrev v : World
    v = lane_at cluster lane

    abbrev mine : Session
    mine = session_at cluster client

    stood : IsGoodLane Steady masters lane v
    stood = good.lanes lane within

    abbrev visited_cluster : World → Session → Cluster
    visited_cluster after session = with_session (with_lane cluster lane after) client session

    -- a visit that leaves a good lane, and sessions that agree with it
    visited : (after : World) (session : Session) → IsGoodLane Steady masters lane after → AgreeAfter (ledgers_of cluster) (ledgers_of (visited_cluster after session)) client session → IsGoodSession masters client session → IsGood Steady masters (visited_cluster after session)
    visited after session lane_good agrees acts = record {
      lanes = lanes_there cluster lane after within Steady masters good.lanes lane_good;
      agree =
          each_session cluster client session (Agrees (ledgers_of (visited_cluster after session))) agrees.own
          (λ c apart. agrees.others c (session_at cluster c) apart (good.agree c));
      sessions = each_session cluster client session (IsGoodSession masters) acts (λ c apart. good.sessions c);
    }

    changes : (after : World) (session : Session) → ChangesAt (ledgers_of cluster) (ledgers_of (visited_cluster after session)) lane after.ledger
    changes after session = changes_there cluster lane after within (visited_cluster after session).sessions

    -- a visit that leaves all as it was
    nothing : IsGood Steady masters (visited_cluster v mine)
    nothing =
        visited v mine stood
        (record {
          own = agrees_grown (ledgers_of cluster) (ledgers_of (visited_cluster v mine)) lane v.ledger (changes v mine) client mine (good.agree client) (same_ledger client v.ledger v.ledger refl refl);
          others = λ c other apart fits.
              agrees_grown (ledgers_of cluster) (ledgers_of (visited_cluster v mine)) lane v.ledger (changes v mine) c other fits (same_ledger c v.ledger v.ledger refl refl);
        })
        (good.sessions client)

    -- the client's number is lawful if it has a call outstanding
    acts : (call : Call) → mine.outstanding ≡ Some call → MayAct masters mine
    acts call out =
        (good.sessions client).acts
        (subst (λ (o : Option Call). IfSome o (λ c. IsNumber w32 1 client)) out (good.sessions client).lawful)

    number_of : (call : Call) → mine.outstanding ≡ Some call → IsNumber w32 1 client
    number_of call out = subst (λ (o : Option Call). IfSome o (λ c. IsNumber w32 1 client)) out (good.sessions client).lawful

    -- so is a session that may act after it
    still : (call : Call) → mine.outstanding ≡ Some call → (session : Session) → MayAct masters session → WasSentThere session → IsGoodSession masters client session
    still call out session may sent_in = record { acts = λ n. may; lawful = any session.outstanding; sent_in = sent_in }
      where
        any : (o : Option Call) → IfSome o (λ c. IsNumber w32 1 client)
        any None = tt
        any (Some c) = number_of call out

    -- ---- a turn

    asks_with : ask_refusal v mine ≡ None → (out : Option Call) → mine.outstanding ≡ out
        → IsGood Steady masters (visited_cluster (asking v mine out).world (asking v mine out).session)
    asks_with none None out = nothing
    asks_with none (Some call) out =
        let made : Visited = asking v mine (Some call) in
        let visit = asking_good stood clients_keep mine (acts call out) call out none in
        visited made.world made.session visit.world
        (agree_asking (ledgers_of cluster) (ledgers_of (visited_cluster made.world made.session)) lane client mine (good.agree client) v refl call out
        (changes made.world made.session))
        (still call out made.session visit.acts (asking_there mine (good.sessions client).sent_in v (Some call)))

    pub asks : (refused : Option StepError) → ask_refusal v mine ≡ refused → IsGood Steady masters (cluster_visited cluster lane client (ask_by v mine refused))
    asks None none = asks_with none mine.outstanding refl
    asks (Some error) none = good

    -- ---- an answer

    -- each client's last call in a lane lies there
    lies_in : (q : ℕ) → IfSome (asked_by (ledgers_of cluster q) client) (λ last. call_lane last.call ≡ q)
    lies_in q =
        ⊎_elim
        (λ (inside : q < length cluster.lanes).
        let lane_good = good.lanes q inside in
        IfSome_then (asked_by (ledgers_of cluster q) client) (lane_good.sound.asked.last client)
        (λ (last : LastCall) fits. fits.here ∙ lane_good.lane_is))
        (λ (past : length cluster.lanes ≤ q).
        subst (λ (world : World). IfSome (asked_by world.ledger client) (λ (last : LastCall). call_lane last.call ≡ q))
        (sym (get_or_past cluster.lanes q (new_world q 0 0) past)) tt) (cases_lt q (length cluster.lanes))

    -- what a client makes of a message of the lane
    takes_it : (number : ℕ) (message : Message) → get v.wire.messages number ≡ Some message → is_for mine.client message.to ≡ true → accept v number mine ≡ Ok (accepting v mine (Some message)) → (out : Option Call) → mine.outstanding ≡ out → (test : Bool) → asked_by_session v mine out ≡ test
        → IsGood Steady masters (visited_cluster (cond test (taking v mine message.body) (untouched v mine (Some Taken.Ignored))).world (cond test (taking v mine message.body) (untouched v mine (Some Taken.Ignored))).session)
    takes_it number message on to is out is_out false asked = nothing
    takes_it number message on to is None is_out true asked = absurd (cc asked)
    takes_it number message on to is (Some call) is_out true asked =
        let taken : Visited = taking v mine message.body in
        let taking_is : accepting v mine (Some message) ≡ taken =
        ap (λ (b : Bool). cond b (taking v mine message.body) (untouched v mine (Some Taken.Ignored)))
        (ap (asked_by_session v mine) is_out ∙ asked) in
        let visit = taking_good stood clients_keep mine (acts call is_out) number message.body (is ∙ ap (λ (visit : Visited). Ok visit) taking_is) in
        let told = says v number mine message stood.sound (rw stood.masters_are (acts call is_out)) on to in
        visited taken.world taken.session visit.world
        (agree_taking (ledgers_of cluster) (ledgers_of (visited_cluster taken.world taken.session)) lane client mine (good.agree client) v number refl stood.sound stood.lane_is lies_in call is_out
        asked message.body told (changes taken.world taken.session))
        (still call is_out taken.session visit.acts (taking_there mine (good.sessions client).sent_in v message.body))

    accepts_with : (number : ℕ) (found : Option Message) → get v.wire.messages number ≡ found → (refused : Option StepError) → accept_refusal v number mine.client found ≡ refused → IsGood Steady masters (cluster_visited cluster lane client (accept_by v number mine refused))
    accepts_with number None on None none = absurd (cc none)
    accepts_with number None on (Some error) none = good
    accepts_with number (Some message) on (Some error) none = good
    accepts_with number (Some message) on None none =
        subst (λ (found : Option Message). IsGood Steady masters (visited_cluster (accepting v mine found).world (accepting v mine found).session)) (sym on)
        (takes_it number message on (is_mine v number mine message none)
        (ap (λ (found : Option Message). accept_by v number mine (accept_refusal v number mine.client found)) on
        ∙ ap (accept_by v number mine) none ∙ ap (λ (found : Option Message). Ok (accepting v mine found)) on)
        mine.outstanding refl (is_asked_here v mine) refl)

    pub accepts : (number : ℕ) → IsGood Steady masters (cluster_visited cluster lane client (accept v number mine))
    accepts number =
        accepts_with number (get v.wire.messages number) refl (accept_refusal v number mine.client (get v.wire.messages number)) refl

  -- ---- all that may occur

  -- backups report what they store
  abbrev pub Tells : Type 0
  Tells = (w : World) → Steady w → AllTell w

  pub occurs : Tells → (occurrence : Occurrence) → ClusterMay cluster occurrence → KeepsCalm cluster occurrence → ReplicasTell cluster occurrence → IsGood Steady masters (cluster_after cluster occurrence)
  occurs tells (Happens lane event called) may calm told =
      steps lane may.0 event called may.1 may.2 (told (tells (lane_at cluster lane) (good.lanes lane may.0).steady)) calm
      (refusal (lane_at cluster lane) event) refl
  occurs tells (Joins client) may calm told = joins client (get cluster.sessions client) refl
  occurs tells (Calls client table key op) may calm told = calls client table key op may (get cluster.sessions client) refl
  occurs tells (Asks lane client) may calm told =
      asks lane may.0 client (ask_refusal (lane_at cluster lane) (session_at cluster client)) refl
  occurs tells (Accepts lane number client) may calm told = accepts lane may client number
