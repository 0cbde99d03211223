-- A sound lane stays sound at what clients do: a client that comes, a request that is sent again, a turn and an answer.
use Rattle.std.proofs.Common.{Bool, IfSome, None, Option, Some, [], ap, arith, cond, eqb-true, false, inl, inr, is_some, ltb-true, nat_lt}
use Rattle.std.proofs.Common.{not, refl, subst, sym, true, unwrap_or, ℕ, ◌&&◌, ◌==◌, ◌||◌, ◌∙◌, ◌∷◌, ◌≡◌}
use Rattle.rk_message.specs.declared.message.Body.TheVariants as bodies
use Rattle.rk_types.specs.declared.call.Answer.TheVariants as answers
use Rattle.rk_types.specs.declared.node.Node.TheVariants as nodes
use Rattle.rk_world.specs.Calls.{asked_by_session, is_next}
use Rattle.rk_world.specs.Client.{MOST_REQUESTS, accepted_by, accepted_of, answer_accepted, ignoring, looking_up, range_of, request_of}
use Rattle.rk_world.specs.Client.{turn_by, turn_to}
use Rattle.rk_world.specs.Refusals.{is_for}
use Rattle.rk_world.specs.declared.event.Taken.TheVariants as takes
use Rattle.rk_inv_base.proofs.Words.{All-contains, Answer, AnswerFits, Body, Call, ClientTurn, IsAccepted, IsAfterStart, IsRecordAt}
use Rattle.rk_inv_base.proofs.Words.{IsSound, LastCall, Located, MayAccept, MayAct, Message, Node, Outcome, Reply, RequestFits, Says}
use Rattle.rk_inv_base.proofs.Words.{Session, Visited, WasAsked, World, accept, accept_by, accepting, and_parts, ask, ask_by, ask_refusal}
use Rattle.rk_inv_base.proofs.Words.{asked_by, asking, asking_by, call_lane, client_added, cond_both, fits_with, get, is_accepted, is_added}
use Rattle.rk_inv_base.proofs.Words.{is_asked, is_call, is_last, ledger_asked, ledger_requested, ledger_taken, sent_again, session_turn}
use Rattle.rk_inv_base.proofs.Words.{taking, turn_of, untouched, view, where_true, with_asked, with_ledger, with_sends, world_visited}
use Rattle.rk_inv_base.proofs.Headlines.{sound_accepted, sound_asked, sound_come, sound_saved}
use Rattle.rk_inv_base.proofs.calls.Accepted.{stands_there}
use Rattle.rk_inv_base.proofs.calls.CallAsked.{asked_put}
use Rattle.rk_inv_events.proofs.Words.{MayAsk, client_come, not-true, put_here, request_saved, sound_sent, by_found, either_way}
use Rattle.rk_inv_events.proofs.events.SameCalls.{accepted_found, found_accepted, same_call}
use Rattle.rk_inv_events.proofs.events.Sending.{may_look_up, may_request, may_send_again}

-- ---- a client comes, or sends its last request again

pub sound_added : (w : World) (client : ℕ) → IsSound w → IsSound (client_added w client)
sound_added w client sound = by_found (λ found. IsSound (cond (is_some found) w (client_come w client))) (get w.ledger.clients client)
    (λ is. sound_come w client sound (record { new = ap (λ (kept : Option (Option LastCall)). unwrap_or kept None) is })) (λ last is. sound)

pub sound_again : (w : World) (client : ℕ) → IsSound w → IsSound (sent_again w (get w.ledger.requests client)).world
sound_again w client sound = by_found (λ found. IsSound (sent_again w found).world) (get w.ledger.requests client) (λ none. sound)
    (λ message is.
    sound_sent w message sound (may_send_again (view w) client message.from message.to message.body (sound.asked.again client message is)))

-- ---- a client asks

-- a client's outstanding call is the last that it asked here, with what it has seen
abbrev pub HasAsked : World → Session → Call → Type 0
HasAsked w session call = asked_by w.ledger session.client ≡ Some (record { call = call; seen = session.seen })

-- by the test
pub asked_is : (call : Call) (seen : ℕ) (asked : Option LastCall) → is_last call seen asked ≡ true → asked ≡ Some (record { call = call; seen = seen })
asked_is call seen None is = absurd (cc is)
asked_is call seen (Some last) is =
    let parts = and_parts (is_call last.call call) (last.seen == seen) is in
    (λ i. Some (record { call = same_call last.call call parts.0 i; seen = eqb-true last.seen seen parts.1 i }))

module _ (w : World) (session : Session) (call : Call) (sound : IsSound w) (own : call.client ≡ session.client) (after : IsAfterStart w.base call) where
  -- a client's earlier call, if the lane takes the next one, has its accepted record
  accepted_before : (old : LastCall) → asked_by w.ledger session.client ≡ Some old → is_accepted w.ledger.journal session.client old.call.seq ≡ true → IsAccepted w.ledger.journal old.call
  accepted_before old is found =
      let it = found_accepted w.ledger.journal session.client old.call.seq found in
      let was : WasAsked (Some old) w.ledger.journal it.placed.call =
      rw (ap (asked_by w.ledger) it.client_is ∙ is) at
      (All-contains (λ placed. WasAsked (asked_by w.ledger placed.call.client) w.ledger.journal placed.call) w.ledger.journal it.placed
      sound.asked.recorded it.stands) in
      record {
        placed = it.placed;
        stands = it.stands;
        call_is = elim was [ inl same ↦ sym same | inr earlier ↦ absurd (omega (arith, earlier.0, it.seq_is)) ];
        accepted = it.accepted;
      }

  may_ask : is_next w.ledger session call (asked_by w.ledger session.client) ≡ true → call_lane call ≡ w.lane → MayAsk (view w) session.client (record { call = call; seen = session.seen })
  may_ask next here = grind (arith, by_found, asked_by, and_parts, nat_lt, is_accepted, ltb-true, accepted_before)

  -- the lane once the call was asked there: it is sound, and the call is the client's last one
  abbrev asked_world : World
  asked_world = with_ledger w (ledger_asked w.ledger session call)

  asked_there : fits_with w session call ≡ true → IsSound asked_world × HasAsked asked_world session call
  asked_there fits = go (is_asked w.ledger session call) refl fits
    where
      now : Bool → World
      now test = with_ledger w (cond test w.ledger (with_asked w.ledger session.client (record { call = call; seen = session.seen })))

      last : is_asked w.ledger session call ≡ true → HasAsked w session call
      last is = asked_is call session.seen (asked_by w.ledger session.client)
          (and_parts (is_last call session.seen (asked_by w.ledger session.client))
          (not (is_accepted w.ledger.journal session.client call.seq)) is).0

      go : (test : Bool) → is_asked w.ledger session call ≡ test → (test || (call_lane call == w.lane && is_next w.ledger session call (asked_by w.ledger session.client))) ≡ true
          → IsSound (now test) × HasAsked (now test) session call
      go true is either = (sound, last is)
      go false is either =
          let parts = and_parts (call_lane call == w.lane) (is_next w.ledger session call (asked_by w.ledger session.client)) either in (
            sound_asked w session.client (record { call = call; seen = session.seen }) sound
                (may_ask parts.1 (eqb-true (call_lane call) w.lane parts.0)),
            asked_put w.ledger session.client (record { call = call; seen = session.seen }) session.client
                ∙ put_here (asked_by w.ledger) session.client (Some (record { call = call; seen = session.seen })) session.client refl,
          )

-- what a turn sends of a call that was asked leaves the lane sound
module _ (w : World) (session : Session) (call : Call) (own : call.client ≡ session.client) (sound : IsSound w) (asked : HasAsked w session call) where
  -- the world after this turn
  abbrev turned_by : Message → World
  turned_by message = (with_sends (with_ledger w (ledger_requested w.ledger session.client message message.body)) (message ∷ [])).world

  looked_up : IsSound (turned_by (looking_up session call).message)
  looked_up = sound_sent w (looking_up session call).message sound (may_look_up (view w) session.client _)

  -- a request of the call is of a call that was asked
  of_call : call ≡ record call { client = session.client }
  of_call i = record call { client = own i }

  request_fits : (tablet master : ℕ) → RequestFits (asked_by w.ledger) w.ledger.journal session.client (record { tablet = tablet; seq = call.seq; seen = session.seen; table = call.table; key = call.key; op = call.op })
  request_fits tablet master = record { was_asked = rw asked (inl of_call); seen = rw asked (λ same. refl) }

  requested : (tablet master : ℕ) → IsSound (turned_by (request_of session call tablet master))
  requested tablet master = search (sound_saved, request_fits, sound_sent, request_saved, may_request, view)

  turned_to : (tablet : ℕ) (owner : Option ℕ) → IsSound (turned_by (turn_to session call tablet owner).message)
  turned_to tablet None = looked_up
  turned_to tablet (Some master) = requested tablet master

  turned : (located : Option Located) → IsSound (turned_by (turn_by session call located).message)
  turned None = looked_up
  turned (Some located) =
      either_way (λ (turn : ClientTurn). IsSound (turned_by turn.message)) (session.requests == MOST_REQUESTS) looked_up
      (turned_to located.tablet located.owner)

-- a client's turn
module _ (w : World) (session : Session) (sound : IsSound w) (may : MayAct w.coordinator.masters session) (after : IfSome session.outstanding (IsAfterStart w.base)) where
  takes_turn : (outstanding : Option Call) → session.outstanding ≡ outstanding → IsSound (asking w session outstanding).world
  takes_turn None is = sound
  takes_turn (Some call) is = cond_both (fits_with w session call) (asking_by w session call (session_turn session)) (untouched w session None)
      (λ (visited : Visited). IsSound visited.world)
      (λ fits.
      let there = asked_there w session call sound own later fits in
      rw turn_is
      (turned (asked_world w session call sound own later) session call own there.0 there.1 (range_of session call))) (λ stays. sound)
    where
      own : call.client ≡ session.client
      own = (subst (λ o. IfSome o (λ (c : Call). (c.client ≡ session.client) × (c.seq ≡ session.last))) is may.own).0

      later : IsAfterStart w.base call
      later = rw is at after

      turn_is : session_turn session ≡ Some (turn_by session call (range_of session call))
      turn_is = ap (turn_of session) is

  pub sound_asks : IsSound (world_visited w (ask w session))
  sound_asks = by_found (λ refusal. IsSound (world_visited w (ask_by w session refusal))) (ask_refusal w session)
      (λ none. takes_turn session.outstanding refl) (λ error is. sound)

-- ---- a client takes an answer

-- a client takes its answer, if that says that the call was carried out and this lane asked for it
module _ (w : World) (number : ℕ) (session : Session) (call : Call) (sound : IsSound w) (asked : is_asked w.ledger session call ≡ true) (own : call.client ≡ session.client) where
  pub is_last_there : HasAsked w session call
  is_last_there = grind (arith, asked_is, asked_by, and_parts, is_last, is_accepted)

  none_accepted : is_accepted w.ledger.journal session.client call.seq ≡ false
  none_accepted = grind (arith, not-true, and_parts, is_last, asked_by, is_accepted)

  pub may_accept : (reply : Reply) (outcome : Outcome) → reply.seq ≡ call.seq → IsRecordAt w.ledger.journal session.client reply outcome → MayAccept (view w) reply.place
  may_accept reply outcome seq_is at = grind (arith, stands_there, asked_by, is_last_there, accepted_found, is_accepted, none_accepted)

  -- the ledger after a reply was taken
  replied : (reply : Reply) (answer : Answer) → reply.answer ≡ answer → Says w.ledger.journal (nodes.Client session.client) (bodies.Reply reply)
      → (same : Bool) → (reply.seq == call.seq) ≡ same
      → IsSound (with_ledger w (ledger_taken w.ledger (bodies.Reply reply) (cond same (answer_accepted session call reply answer) (ignoring session)).taken))
  replied reply answer is says false differs = sound
  replied reply (answers.Done outcome) is says true seq_is = sound_accepted w reply.place sound
      (may_accept reply outcome (eqb-true reply.seq call.seq seq_is) (subst (AnswerFits w.ledger.journal session.client reply) is says))
  replied reply (answers.Moved tablet) is says true seq_is = sound
  replied reply (answers.NotYet key) is says true seq_is = sound

  took : (body : Body) → Says w.ledger.journal (nodes.Client session.client) body
      → IsSound (with_ledger w (ledger_taken w.ledger body (accepted_by session call body).taken))
  took (bodies.Reply reply) says = replied reply reply.answer refl says (reply.seq == call.seq) refl
  took _ says = sound

-- a client's answer
module _ (w : World) (number : ℕ) (session : Session) (sound : IsSound w) (may : MayAct w.coordinator.masters session) where
  -- a message for a node that is this client
  pub for_client : (to : Node) → is_for session.client to ≡ true → to ≡ nodes.Client session.client
  for_client (nodes.Client other) is = ap nodes.Client (eqb-true other session.client is)
  for_client _ is = absurd (cc is)

  takes_one : (message : Message) → get w.wire.messages number ≡ Some message → is_for session.client message.to ≡ true
      → (outstanding : Option Call) → session.outstanding ≡ outstanding
      → IsSound (cond (asked_by_session w session outstanding) (taking w session message.body) (untouched w session (Some takes.Ignored))).world
  takes_one message is to None none = sound
  takes_one message is to (Some call) some =
      cond_both (is_asked w.ledger session call) (taking w session message.body) (untouched w session (Some takes.Ignored))
      (λ (visited : Visited). IsSound visited.world)
      (λ asked.
      subst (λ outstanding. IsSound (with_ledger w (ledger_taken w.ledger message.body (accepted_of session outstanding message.body).taken)))
      (sym some) (took w number session call sound asked own message.body says)) (λ stays. sound)
    where
      own : call.client ≡ session.client
      own = (subst (λ o. IfSome o (λ (c : Call). (c.client ≡ session.client) × (c.seq ≡ session.last))) some may.own).0

      says : Says w.ledger.journal (nodes.Client session.client) message.body
      says = rw (for_client message.to to) at (sound.messages.others number message is)

  pub sound_accepts : IsSound (world_visited w (accept w number session))
  sound_accepts = grind (arith, world_visited, accept_by, accepting, takes_one, where_true, is_added)
