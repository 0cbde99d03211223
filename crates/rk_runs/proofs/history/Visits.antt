-- Sessions and ledgers agree still when a client takes its turn in a lane, or an answer.
use Rattle.std.proofs.Common.{arith, ◌≡◌, ℕ, ◌<◌, Bool, true, false, cond, List, Option, Some, None, refl, sym, ap, subst, ◌∙◌, IfSome, not}
use Rattle.std.proofs.Common.{slice_get, slice_set}
use Rattle.rk_inv_base.proofs.Words.{Node, and_parts, All-contains, Call, Outcome, Placed, Located, Reply, Body, Message, asking, asking_by}
use Rattle.rk_inv_base.proofs.Words.{fits_with, is_asked, is_last, ledger_requested, ledger_taken, taking, untouched, ClientTurn, Session}
use Rattle.rk_inv_base.proofs.Words.{call_lane, session_turn, turn_of, accepted_at, as_accepted, is_accepted, Ledger, asked_by, with_asked}
use Rattle.rk_inv_base.proofs.Words.{World, LastCall, IsLastCall, MayAccept, IsRecordAt, Says, IsAfterSeen, view, IsSound}
use Rattle.rk_world.specs.declared.event.Taken.{Taken}
use Rattle.rk_world.specs.Client.{done, range_of, turn_by, with_range, without_range}
use Rattle.rk_world.specs.Ledger.{with_accepted}
use Rattle.rk_inv_base.proofs.calls.CallAsked.{asked_put}
use Rattle.rk_inv_base.proofs.views.Put.{put_here, put_other}
use Rattle.rk_inv_lanes.proofs.Below.{asked_is, is_last_there, may_accept}
use Rattle.rk_runs.specs.history.Agreement.{Agrees}
use Rattle.rk_runs.proofs.history.Agreeing.{ChangesAt, IsAnswer, agrees_answered, agrees_asked, agrees_beside, agrees_grown, agrees_looking}
use Rattle.rk_runs.proofs.history.GoesOn.{same_ledger}
use Rattle.rk_runs.proofs.history.Taking.{IsTaken, taken_by}
use Rattle.rk_runs.proofs.history.Receipts.{stands_at}

-- a client's session and those of all others agree with the ledgers, once that client did something in a lane
pub record AgreeAfter (before after : ℕ → Ledger) (client : ℕ) (session : Session) : Type 0 where
  pub own : Agrees after client session
  pub others : (c : ℕ) (other : Session) → (c ≡ client → ⊥) → Agrees before c other → Agrees after c other

-- ---- a turn

module _ (before after : ℕ → Ledger) (lane client : ℕ) (session : Session) (agrees : Agrees before client session) where
  -- nothing of a ledger changed, as far as it is seen
  unchanged : (ledger : Ledger) → ChangesAt before after lane ledger → ledger.journal ≡ (before lane).journal → ((c : ℕ) → asked_by ledger c ≡ asked_by (before lane) c) → AgreeAfter before after client session
  unchanged ledger changes journal asked = search (agrees_grown, same_ledger)

  -- a session that asked may look elsewhere
  turned_on : (ledgers : ℕ → Ledger) → Agrees ledgers client session → (call : Call) (found : Option Located) → Agrees ledgers client (turn_by session call found).session
  turned_on ledgers fits call found = grind (arith, agrees_looking)

  module _ (w : World) (at : before lane ≡ w.ledger) (call : Call) (is_out : session.outstanding ≡ Some call) where
    -- a request that is saved changes nothing of these
    requested_same : (ledger : Ledger) (message : Message) (body : Body) → (ledger_requested ledger session.client message body).journal ≡ ledger.journal
    requested_same ledger message (Body.Request request) = refl
    requested_same ledger message body = refl

    requested_asked : (ledger : Ledger) (message : Message) (body : Body) (c : ℕ) → asked_by (ledger_requested ledger session.client message body) c ≡ asked_by ledger c
    requested_asked ledger message (Body.Request request) c = refl
    requested_asked ledger message body c = refl

    abbrev asked_ledger : Bool → Ledger
    asked_ledger test = cond test w.ledger (with_asked w.ledger session.client (record { call = call; seen = session.seen }))

    asked_journal : (test : Bool) → (asked_ledger test).journal ≡ w.ledger.journal
    asked_journal true = refl
    asked_journal false = refl

    asked_own : (test : Bool) → is_asked w.ledger session call ≡ test → asked_by (asked_ledger test) session.client ≡ Some (record { call = call; seen = session.seen })
    asked_own true is =
        asked_is call session.seen (asked_by w.ledger session.client)
        (and_parts (is_last call session.seen (asked_by w.ledger session.client)) (not (is_accepted w.ledger.journal session.client call.seq)) is).0
    asked_own false is =
        asked_put w.ledger session.client (record { call = call; seen = session.seen }) session.client
        ∙ put_here (asked_by w.ledger) session.client (Some (record { call = call; seen = session.seen })) session.client refl

    asked_other : (test : Bool) (c : ℕ) → (c ≡ session.client → ⊥) → asked_by (asked_ledger test) c ≡ asked_by w.ledger c
    asked_other true c apart = refl
    asked_other false c apart =
        asked_put w.ledger session.client (record { call = call; seen = session.seen }) c
        ∙ put_other (asked_by w.ledger) session.client (Some (record { call = call; seen = session.seen })) c apart

    abbrev turned : ClientTurn
    turned = turn_by session call (range_of session call)

    asked_turn : ChangesAt before after lane (asking_by w session call (Some turned)).world.ledger → AgreeAfter before after client turned.session
    asked_turn changes =
        let test : Bool = is_asked w.ledger session call in
        let ledger : Ledger = ledger_requested (asked_ledger test) session.client turned.message turned.message.body in
        let journal : ledger.journal ≡ (before lane).journal =
        requested_same (asked_ledger test) turned.message turned.message.body ∙ asked_journal test ∙ sym (ap (λ (l : Ledger). l.journal) at) in
        record {
          own =
              turned_on after
              (agrees_asked before after lane ledger changes client session agrees call is_out journal
              (ap (asked_by ledger) (sym agrees.own) ∙ requested_asked (asked_ledger test) turned.message turned.message.body session.client ∙ asked_own test refl))
              call (range_of session call);
          others = λ c other apart fits.
              agrees_grown before after lane ledger changes c other fits
              (same_ledger c (before lane) ledger journal
              (requested_asked (asked_ledger test) turned.message turned.message.body c
              ∙ asked_other test c (λ is. apart (is ∙ agrees.own)) ∙ sym (ap (λ (l : Ledger). asked_by l c) at)));
        }

    pub agree_asking : ChangesAt before after lane (asking w session (Some call)).world.ledger → AgreeAfter before after client (asking w session (Some call)).session
    agree_asking = go (fits_with w session call) (session_turn session) (ap (turn_of session) is_out)
      where
        go : (fits : Bool) (turn : Option ClientTurn) → turn ≡ Some turned → ChangesAt before after lane (cond fits (asking_by w session call turn) (untouched w session None)).world.ledger
            → AgreeAfter before after client (cond fits (asking_by w session call turn) (untouched w session None)).session
        go false turn is changes = unchanged w.ledger changes (sym (ap (λ (l : Ledger). l.journal) at)) (λ c. sym (ap (λ (l : Ledger). asked_by l c) at))
        go true turn is changes =
            subst (λ (t : Option ClientTurn). AgreeAfter before after client (asking_by w session call t).session) (sym is)
            (asked_turn (subst (λ (t : Option ClientTurn). ChangesAt before after lane (asking_by w session call t).world.ledger) is changes))

-- ---- an answer

module _ (before after : ℕ → Ledger) (lane client : ℕ) (session : Session) (agrees : Agrees before client session) (w : World) (number : ℕ) (at : before lane ≡ w.ledger) (sound : IsSound w) (lane_is : w.lane ≡ lane) (lanes : (q : ℕ) → IfSome (asked_by (before q) client) (λ last. call_lane last.call ≡ q)) (call : Call) (is_out : session.outstanding ≡ Some call) (asked : is_asked w.ledger session call ≡ true) where
  own : call.client ≡ session.client
  own = (subst (λ (o : Option Call). IfSome o (λ c. (c.client ≡ client) × (c.seq ≡ session.last))) is_out agrees.outstanding).0 ∙ sym agrees.own

  -- the session as it was
  stays : ChangesAt before after lane w.ledger → AgreeAfter before after client session
  stays changes =
      unchanged before after lane client session agrees w.ledger changes (sym (ap (λ (l : Ledger). l.journal) at))
      (λ c. sym (ap (λ (l : Ledger). asked_by l c) at))

  elsewhere : ChangesAt before after lane w.ledger → (ranges : List (List Located)) (requests : ℕ) → AgreeAfter before after client (record session { ranges = ranges; requests = requests })
  elsewhere changes ranges requests =
      record { own = agrees_looking after client session (stays changes).own ranges requests session.sent_in; others = (stays changes).others }

  module _ (reply : Reply) (outcome : Outcome) (seq_is : reply.seq ≡ call.seq) (record_at : IsRecordAt w.ledger.journal session.client reply outcome) where
    may : MayAccept (view w) reply.place
    may = may_accept w number session call sound asked own reply outcome seq_is record_at

    abbrev placed : Placed
    placed = record_at.placed

    accepts : IfSome (asked_by w.ledger placed.call.client) (λ (l : LastCall). l.call ≡ placed.call)
    accepts =
        let both : Some may.placed ≡ Some placed = sym may.stands ∙ record_at.stands in
        let is : may.placed ≡ placed = cc both in
        subst (λ (p : Placed). IfSome (asked_by w.ledger p.call.client) (λ (l : LastCall). l.call ≡ p.call)) is may.last

    last : asked_by w.ledger session.client ≡ Some (record { call = call; seen = session.seen })
    last = is_last_there w number session call sound asked own

    of_client : asked_by w.ledger placed.call.client ≡ Some (record { call = call; seen = session.seen })
    of_client = ap (asked_by w.ledger) record_at.client_is ∙ last

    call_is : call ≡ placed.call
    call_is = subst (λ (o : Option LastCall). IfSome o (λ (l : LastCall). l.call ≡ placed.call)) of_client accepts

    stands : slice_get (before lane).journal reply.place ≡ Some placed
    stands = ap (λ (l : Ledger). slice_get l.journal reply.place) at ∙ record_at.stands

    later : session.seen < placed.stamp
    later =
        subst (λ (o : Option LastCall). IsAfterSeen o placed) of_client
        (All-contains (λ (p : Placed). IsAfterSeen (asked_by w.ledger p.call.client) p) w.ledger.journal placed sound.truth.seen
        (stands_at w.ledger.journal reply.place placed record_at.stands)) call_is

    in_lane : call_lane call ≡ lane
    in_lane = (subst (λ (o : Option LastCall). IfSome o (IsLastCall w.base w.lane session.client)) last (sound.asked.last session.client)).here ∙ lane_is

    answer : IsAnswer before lane client session reply.place placed call reply outcome
    answer = record {
      outstanding = is_out;
      here = in_lane;
      last_is = ap (asked_by (before lane)) (sym agrees.own) ∙ ap (λ (l : Ledger). asked_by l session.client) at ∙ last;
      lanes = lanes;
      call_is = call_is;
      outcome_is = sym record_at.outcome_is;
      place_is = refl;
      stamp_is = sym record_at.stamp_is;
      later = later;
    }

    journal_is : (with_accepted w.ledger reply.place).journal ≡ slice_set (before lane).journal reply.place (as_accepted placed)
    journal_is =
        ap (accepted_at w.ledger.journal reply.place) record_at.stands
        ∙ sym (ap (λ (l : Ledger). slice_set l.journal reply.place (as_accepted placed)) at)

    asked_same : (c : ℕ) → asked_by (with_accepted w.ledger reply.place) c ≡ asked_by (before lane) c
    asked_same c = sym (ap (λ (l : Ledger). asked_by l c) at)

    done_agrees : ChangesAt before after lane (with_accepted w.ledger reply.place) → AgreeAfter before after client (done session call reply outcome)
    done_agrees changes = record {
      own =
          agrees_answered before after lane (with_accepted w.ledger reply.place) changes reply.place placed stands journal_is asked_same client session agrees
          call reply outcome answer;
      others = λ c other apart fits.
          agrees_beside before after lane (with_accepted w.ledger reply.place) changes reply.place placed stands journal_is asked_same c other
          (λ is. apart (sym is ∙ record_at.client_is ∙ agrees.own)) fits;
    }

  -- by what the message says
  takes : IsTaken (λ body accepted. ChangesAt before after lane (ledger_taken w.ledger body accepted.taken)
      → AgreeAfter before after client accepted.session)
      w.ledger.journal session call
  takes = record {
    ignores = λ body. ignored body;
    ends = λ reply outcome seq_is at. done_agrees reply outcome seq_is at;
    moves = λ reply tablet changes. elsewhere changes (without_range session call).ranges 0;
    waits = λ reply key. stays;
    locates = λ place changes. elsewhere changes (with_range session (call_lane call) place).ranges 0;
  }
    where
      ignored : (body : Body) → ChangesAt before after lane (ledger_taken w.ledger body Taken.Ignored) → AgreeAfter before after client session
      ignored (Body.Reply reply) = stays
      ignored _ = stays

  pub agree_taking : (body : Body) → Says w.ledger.journal (Node.Client session.client) body → ChangesAt before after lane (taking w session body).world.ledger
      → AgreeAfter before after client (taking w session body).session
  agree_taking body says changes = grind (arith, taken_by, takes, ledger_taken)
