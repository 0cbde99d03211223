-- What a client sends on its turn is well formed, and its session may act after its turn and after each answer; and a lane stays well
-- formed when a client asks there and when it takes an answer.
use Rattle.std.proofs.Common.{◌≡◌, ◌≤◌, ◌++◌, ℕ, Bool, true, false, ◌||◌, [], ◌∷◌, All, Option, None, Some, refl, sym, ap, subst, ◌∙◌}
use Rattle.std.proofs.Common.{slice_get, IfSome, Ok, not, eqb-true, ◌<◌, max, List, arith, filter, w64}
use Rattle.rk_inv_wellformed.proofs.Words.{and_parts, cases_eq, All-cons, All-nil, get_other, get_same, get, Call, Body, Message, Visited}
use Rattle.rk_inv_wellformed.proofs.Words.{accept, ask, ClientTurn, Session, session_accept, IsFormedLedger, IsWellFormed, Ledger, asked_by}
use Rattle.rk_inv_wellformed.proofs.Words.{is_added, seen_of, IsFormedMessage, Limits, limits_of, IsLawfulCall, MayAct, where_true, worn}
use Rattle.rk_inv_wellformed.proofs.Words.{HasRoom, with_sends, World, with_all_sent, with_ledger, LastCall, Taken, accept_by, accepting}
use Rattle.rk_inv_wellformed.proofs.Words.{ask_by, asking, asking_by, fits_with, is_asked_here, ledger_asked, ledger_requested}
use Rattle.rk_inv_wellformed.proofs.Words.{ledger_taken, untouched, call_lane, range_of, turn_by, IsFormedLast, with_accepted, with_asked}
use Rattle.rk_inv_wellformed.proofs.Words.{accept_refusal, ask_refusal, worn_session, cond_both, All-append, All-filter, All-push, All-set}
use Rattle.rk_inv_wellformed.proofs.Words.{meets, Answer, Outcome, Node, IsLawfulBody, IsClient, IsFormedBody, IsMaster, MOST_NUMBER, Reply}
use Rattle.rk_inv_wellformed.proofs.Words.{IsCached, not-false, is_asked, is_call, is_last, is_next, turn_of, answer_accepted, done}
use Rattle.rk_inv_wellformed.proofs.Words.{has_call, located_accepted, looking_up, owned_range, ranges_in, receipt_of, requesting}
use Rattle.rk_inv_wellformed.proofs.Words.{with_range, without_range, Accepted, is_accepted, IsAfterStart}
use Rattle.rk_message.specs.declared.calls.Located.{Located}
use Rattle.rk_inv_wellformed.proofs.lanes.Events.{does_not_hold, no_second}
use Rattle.rk_inv_wellformed.proofs.lanes.Ledgers.{formed_accepted, formed_asked, formed_requested, last_stamp_accepted}
use Rattle.rk_inv_wellformed.proofs.lanes.Works.{top_rises, formed_after_change}
use Rattle.rk_inv_wellformed.proofs.lanes.Worlds.{HasClientsOf, added_is_client, kept_with_all_sent, kept_with_ledger, more_limits}
use Rattle.rk_inv_wellformed.proofs.lanes.Worlds.{counters_in, seen_within, stamps_seen, terms_in, top_is_limit, formed_as, formed_standing}
use Rattle.rk_inv_wellformed.proofs.maps.{all_in_map, by_found, either_way, all_at, found_has}
use Rattle.rk_inv_wellformed.proofs.masters.Work.{from_zero64, hash_fits}

-- ---- hashes and cached ranges

module _ (count : ℕ) (session : Session) (may : MayAct count session) where
  -- what is cached of a lane is lawful
  cached_in : (lane : ℕ) → All (IsCached count) (ranges_in session lane)
  cached_in lane = all_at (All (IsCached count)) session.ranges lane [] (All-nil _) may.cached

  -- and what is cached of a call
  pub cached_of : (call : Call) → IfSome (range_of session call) (IsCached count)
  cached_of call = found_has (IsCached count) (has_call call) (ranges_in session (call_lane call)) (cached_in (call_lane call))

  -- a session may act with other ranges that are lawful
  acts_with_ranges : (ranges : List (List Located)) (requests : ℕ) → All (All (IsCached count)) ranges → MayAct count (record session { ranges = ranges; requests = requests })
  acts_with_ranges ranges requests cached = assumption

  -- and without the range of a call
  acts_without : (call : Call) → MayAct count (record (without_range session call) { requests = 0 })
  acts_without call = acts_with_ranges (without_range session call).ranges 0
      (All-set (All (IsCached count)) session.ranges (call_lane call)
      (filter (λ located. not (has_call call located)) (ranges_in session (call_lane call)))
      (All-filter (λ located. not (has_call call located)) (IsCached count) (ranges_in session (call_lane call)) (cached_in (call_lane call)))
      may.cached)

-- ---- turns

-- what a client does on its turn is well formed: its message, and its session may act
pub record IsFormedTurn (limits : Limits) (turned : ClientTurn) : Type 0 where
  pub message : IsFormedMessage limits turned.message
  pub session : MayAct limits.masters turned.session

-- a session that may act within limits: its client is one of theirs, and what it has seen keeps to them
pub record MayActWithin (limits : Limits) (session : Session) : Type 0 where
  pub may : MayAct limits.masters session
  pub client : IsClient limits session.client
  pub seen : session.seen ≤ limits.top
  pub top : limits.top < MOST_NUMBER

module _ (limits : Limits) (session : Session) (within : MayActWithin limits session) (call : Call) (lawful : IsLawfulCall call) where
  -- the client asks where the key is
  formed_lookup : IsFormedTurn limits (looking_up session call)
  formed_lookup =
      assumption (within, acts_without limits.masters session within.may call, from_zero64 lawful.table, hash_fits call.key)

  -- the client sends a request to an owner that is there
  formed_request : {located : Located} {master : ℕ} → IsCached limits.masters located → IsMaster limits.masters master → IsFormedTurn limits (requesting session call located.tablet master)
  formed_request {located} cached there = grind (arith, w64, from_zero64)

  -- the turn of a client with this call, by the range that it cached
  pub formed_turn : (found : Option Located) → IfSome found (IsCached limits.masters) → IsFormedTurn limits (turn_by session call found)
  formed_turn found cached = grind (arith, formed_lookup, either_way, formed_request)

-- ---- answers

module _ (limits : Limits) (session : Session) (may : MayAct limits.masters session) where
  owned_cached : {located : Located} (owner : Option ℕ) → IsCached limits.masters located → All (IsCached limits.masters) (owned_range located owner)
  owned_cached None cached = All-nil _
  owned_cached {located} (Some owner) cached = All-cons (IsCached limits.masters) located [] cached (All-nil _)

  -- the client learns where a range is
  acts_located : (call : Call) (located : Located) → IsCached limits.masters located → MayAct limits.masters (located_accepted session call located).session
  acts_located call located cached = either_way (λ (accepted : Accepted). MayAct limits.masters accepted.session) (has_call call located)
      (acts_with_ranges limits.masters session may (with_range session (call_lane call) located).ranges 0
      (All-set (All (IsCached limits.masters)) session.ranges (call_lane call)
      (filter (λ other. not (meets other.range located.range)) (ranges_in session (call_lane call)) ++ owned_range located located.owner)
      (All-append (IsCached limits.masters) (filter (λ other. not (meets other.range located.range)) (ranges_in session (call_lane call))) (owned_range located located.owner)
      (All-filter (λ other. not (meets other.range located.range)) (IsCached limits.masters) (ranges_in session (call_lane call)) (cached_in limits.masters session may (call_lane call)))
      (owned_cached located.owner cached))
      may.cached))
      may

  -- the call is answered
  acts_done : (call : Call) (reply : Reply) (outcome : Outcome) → MayAct limits.masters (done session call reply outcome)
  acts_done call reply outcome = assumption
      (All-push (λ receipt. receipt.stamp ≤ max session.seen reply.stamp) session.receipts (receipt_of call reply outcome)
      (λ place other within. risen _ session.seen reply.stamp (may.seen place other within)) (omega arith))
    where
      risen : (n seen stamp : ℕ) → n ≤ seen → n ≤ max seen stamp
      risen n seen stamp below = omega arith

  acts_answered : (call : Call) (reply : Reply) (answer : Answer) → MayAct limits.masters (answer_accepted session call reply answer).session
  acts_answered call reply (Answer.Done outcome) = acts_done call reply outcome
  acts_answered call reply (Answer.Moved tablet) = acts_without limits.masters session may call
  acts_answered call reply (Answer.NotYet key) = may

  -- a session may act once it took what a well formed message says
  pub acts_accepted : (from : Node) (body : Body) → IsLawfulBody body → IsFormedBody limits from body → MayAct limits.masters (session_accept session body).session
  acts_accepted from body lawful says = grind (arith, acts_located, either_way, acts_answered)

-- what becomes of a lane and a session is well formed
pub record IsFormedVisit (w : World) (visited : Visited) : Type 0 where
  pub world : IsWellFormed visited.world
  pub session : MayAct w.coordinator.masters visited.session

-- ---- the ledger once a call was asked

-- what a lane keeps of a call that a session asks
abbrev pub now_asked : Session → Call → LastCall
now_asked session call = record { call = call; seen = session.seen }

-- the ledger stays if the call was asked, and else has it as its client's last
pub asked_is : (P : Ledger → Type 0) (ledger : Ledger) (session : Session) (call : Call) → (is_asked ledger session call ≡ true → P ledger) → (is_asked ledger session call ≡ false → P (with_asked ledger session.client (now_asked session call))) → P (ledger_asked ledger session call)
asked_is P ledger session call before now = cond_both _ _ _ P before now

-- the last call of a client, with what it had seen
record HasSeen (ledger : Ledger) (client seen : ℕ) : Type 0 where
  last : LastCall
  found : get ledger.clients client ≡ Some (Some last)
  seen_is : last.seen ≡ seen

-- a call that was asked was asked with what its client had seen
seen_where_asked : (ledger : Ledger) (session : Session) (call : Call) → is_asked ledger session call ≡ true → HasSeen ledger session.client session.seen
seen_where_asked ledger session call asked = grind (arith, by_found, asked_by, is_last, eqb-true, and_parts, is_call, is_accepted)

-- so it is once the call was asked
seen_asked : (ledger : Ledger) (session : Session) (call : Call) → HasSeen (ledger_asked ledger session call) session.client session.seen
seen_asked ledger session call = asked_is (λ now. HasSeen now session.client session.seen) ledger session call
    (λ asked. seen_where_asked ledger session call asked)
    (λ new. record {
      last = now_asked session call;
      found = get_same ledger.clients session.client (Some (now_asked session call)) session.client refl;
      seen_is = refl;
    })

-- the clients stay when a request is saved
pub clients_requested : (ledger : Ledger) (client : ℕ) (message : Message) (body : Body) → (ledger_requested ledger client message body).clients ≡ ledger.clients
clients_requested ledger client message (Body.Request request) = refl
clients_requested ledger client message body = refl

-- the ledger stays well formed when a message is saved
requested_is_formed : {limits : Limits} (w : World) {ledger : Ledger} (client : ℕ) {message : Message} (body : Body) → IsFormedMessage limits message → IsFormedLedger limits w.base w.lane ledger → IsFormedLedger limits w.base w.lane (ledger_requested ledger client message body)
requested_is_formed {limits} w client (Body.Request request) new formed =
    formed_requested limits w.base w.lane client new formed
requested_is_formed w client body new formed = formed

-- ---- a client asks

-- a new call of a session may be a lane's last of its client
abbrev pub MayBeLast : World → Session → Call → Type 0
MayBeLast w session call =
    is_asked w.ledger session call ≡ false → IsFormedLast w.base w.lane session.client (now_asked session call)

module _ (w : World) (session : Session) (call : Call) (turned : ClientTurn) where
  abbrev pub asked_ledger : Ledger
  asked_ledger = ledger_requested (ledger_asked w.ledger session call) session.client turned.message turned.message.body

  abbrev pub after_asking : World
  after_asking = (with_sends (with_ledger w asked_ledger) (turned.message ∷ [])).world

  asked_has : HasClientsOf asked_ledger w.ledger
  asked_has client added = grind (arith, clients_requested, ledger_asked, asked_is, is_added, get_same, get_other, cases_eq)

  -- within the limits after it the session may act
  acts_within : is_added w.ledger session.client ≡ true → MayAct w.coordinator.masters session → HasRoom after_asking → MayActWithin (limits_of after_asking) session
  acts_within added may room = record {
    may = may;
    client = added_is_client after_asking after_asking.top session.client (asked_has session.client added);
    seen =
        let asked = seen_asked w.ledger session call in
        subst (λ (n : ℕ). n ≤ after_asking.top) asked.seen_is
        (all_in_map (λ (last : Option LastCall). seen_of last ≤ after_asking.top) asked_ledger.clients session.client (Some asked.last)
        (ap (λ clients. get clients session.client)
        (clients_requested (ledger_asked w.ledger session call) session.client turned.message turned.message.body)
        ∙ asked.found)
        (seen_within after_asking after_asking.top (top_is_limit (with_all_sent (with_ledger w asked_ledger) (turned.message ∷ [])))));
    top = room.number;
  }

  -- the world after it is well formed
  formed_after_asking : IsFormedMessage (limits_of after_asking) turned.message → is_added w.ledger session.client ≡ true → MayAct w.coordinator.masters session → MayBeLast w session call → IsWellFormed w → IsWellFormed after_asking
  formed_after_asking message added may last formed =
      formed_after_change (with_all_sent (with_ledger w asked_ledger) (turned.message ∷ []))
      (more_limits w w.coordinator asked_ledger after_asking.top refl asked_has (top_rises (with_all_sent (with_ledger w asked_ledger) (turned.message ∷ []))))
      (λ before. kept_with_all_sent _ (with_ledger w asked_ledger)
      (kept_with_ledger _ w before (requested_is_formed w session.client turned.message.body message
      (asked_is (IsFormedLedger _ w.base w.lane) w.ledger session call (λ asked. before.ledger)
      (λ new. formed_asked _ w.base w.lane may.client added (last new) before.ledger))))
      (turned.message ∷ []) (All-cons (IsFormedMessage (limits_of after_asking)) turned.message [] message (All-nil _)))
      formed

-- if one of two holds, and the first does not, the second does
or_second : (a b : Bool) → (a || b) ≡ true → a ≡ false → b ≡ true
or_second true b either first = absurd (cc first)
or_second false b either first = either

-- the client of a turn that is not refused was added
asker_is_added : (w : World) (session : Session) → ask_refusal w session ≡ None → is_added w.ledger session.client ≡ true
asker_is_added w session none = grind (arith, not-false, is_added, does_not_hold, no_second, worn, worn_session, where_true)

-- a lane stays well formed when a client asks there, and its session may act
pub formed_asking : {w : World} {session : Session} → MayAct w.coordinator.masters session → IfSome session.outstanding (IsAfterStart w.base) → ask_refusal w session ≡ None → HasRoom (asking w session session.outstanding).world → IsWellFormed w → IsFormedVisit w (asking w session session.outstanding)
formed_asking {w} {session} may start none room formed = go session.outstanding refl room
  where
    nothing : IsFormedVisit w (untouched w session None)
    nothing = record { world = formed; session = may }

    last : (call : Call) → session.outstanding ≡ Some call → fits_with w session call ≡ true → MayBeLast w session call
    last call is fitting new = record {
      lawful = subst (λ o. IfSome o IsLawfulCall) is may.call;
      own = (subst (λ o. IfSome o (λ call. (call.client ≡ session.client) × (call.seq ≡ session.last))) is may.own).0;
      here = grind (arith, eqb-true, call_lane, and_parts, is_next, asked_by, or_second, is_asked, w.lane, w.ledger, session.client);
      after = subst (λ o. IfSome o (IsAfterStart w.base)) is start;
    }

    asks : (call : Call) → session.outstanding ≡ Some call → fits_with w session call ≡ true → HasRoom (asking_by w session call (Some (turn_by session call (range_of session call)))).world → IsFormedVisit w (asking_by w session call (Some (turn_by session call (range_of session call))))
    asks call is fitting room_left =
        let turned = turn_by session call (range_of session call) in
        let added = asker_is_added w session none in
        let within = acts_within w session call turned added may room_left in
        let turn = formed_turn (limits_of (after_asking w session call turned)) session within call (subst (λ o. IfSome o IsLawfulCall) is may.call) (range_of session call) (cached_of w.coordinator.masters session may call) in
        record {
          world = formed_after_asking w session call turned turn.message added may (last call is fitting) formed;
          session = turn.session;
        }

    go : (outstanding : Option Call) → session.outstanding ≡ outstanding → HasRoom (asking w session outstanding).world → IsFormedVisit w (asking w session outstanding)
    go None is room_left = nothing
    go (Some call) is room_left =
        cond_both _ _ _ (λ (visited : Visited). HasRoom visited.world → IsFormedVisit w visited)
        (λ fitting. subst (λ o. HasRoom (asking_by w session call (turn_of session o)).world → IsFormedVisit w (asking_by w session call (turn_of session o))) (sym is)
        (asks call is fitting))
        (λ other room_there. nothing) room_left

-- so it is if the client's turn is not refused
pub formed_ask : (w : World) (session : Session) (visited : Visited) → ask w session ≡ Ok visited → MayAct w.coordinator.masters session → IfSome session.outstanding (IsAfterStart w.base) → HasRoom visited.world → IsWellFormed w → IsFormedVisit w visited
formed_ask w session visited asked may start room formed = grind (arith, by_found, ask_by, ask_refusal, asking, formed_asking)

-- ---- a client takes an answer

-- a lane stays well formed when a record is accepted
formed_with_accepted : {w : World} (place : ℕ) → IsWellFormed w → IsWellFormed (with_ledger w (with_accepted w.ledger place))
formed_with_accepted {w} place formed =
    formed_standing (kept_with_ledger (limits_of w) w (formed_as formed) (formed_accepted (limits_of w) w.base w.lane place formed.ledger))
    (subst (λ (stamp : ℕ). All (λ n. n ≤ w.top) (w.wire.sent ∷ stamp ∷ ((stamps_seen w ++ terms_in w) ++ counters_in w)))
    (sym (last_stamp_accepted w.ledger.journal place (slice_get w.ledger.journal place) refl)) formed.standing)

formed_taken : {w : World} (body : Body) (taken : Taken) → IsWellFormed w → IsWellFormed (with_ledger w (ledger_taken w.ledger body taken))
formed_taken (Body.Reply reply) Taken.Done formed = formed_with_accepted reply.place formed
formed_taken _ _ formed = formed

-- a lane stays well formed when a client takes a message of its wire, and its session may act
pub formed_accepting : {w : World} (number : ℕ) {session : Session} → MayAct w.coordinator.masters session → IsWellFormed w → IsFormedVisit w (accepting w session (get w.wire.messages number))
formed_accepting {w} number {session} may formed =
    by_found (λ found. IsFormedVisit w (accepting w session found)) (get w.wire.messages number) (λ none. assumption)
    (λ message is.
    let it = formed.wire.each number message is in
    either_way (IsFormedVisit w) (is_asked_here w session)
    (record {
      world = formed_taken message.body (session_accept session message.body).taken formed;
      session = acts_accepted (limits_of w) session may message.from message.body it.lawful it.says;
    })
    assumption)

-- so it is if the client's message is not refused
pub formed_accept : (w : World) (number : ℕ) (session : Session) (visited : Visited) → accept w number session ≡ Ok visited → MayAct w.coordinator.masters session → IsWellFormed w → IsFormedVisit w visited
formed_accept w number session visited taken may formed =
    by_found (λ refused. accept_by w number session refused ≡ Ok visited → IsFormedVisit w visited)
    (accept_refusal w number session.client (get w.wire.messages number))
    (λ none is.
    let visited_is : accepting w session (get w.wire.messages number) ≡ visited = cc is in
    subst (IsFormedVisit w) visited_is (formed_accepting number may formed))
    (λ error some is. absurd (cc is)) taken
