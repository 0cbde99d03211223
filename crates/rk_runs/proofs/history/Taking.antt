-- What a client makes of a message of a sound lane, case by case: what is so of each of these is so of all that it makes of messages.
use Rattle.std.proofs.Common.{arith, ℕ, Bool, IfSome, List, None, Option, Some, cond, eqb-true, false, refl, subst, sym, true, ◌==◌, ◌≡◌}
use Rattle.rk_inv_base.proofs.Words.{Answer, Body, Call, IsRecordAt, IsSound, Located, MayAct, Message, Node, Outcome, Placed}
use Rattle.rk_inv_base.proofs.Words.{Reply, Says, Session, Visited, World, accepting, call_lane, get, is_asked, ledger_taken, taking}
use Rattle.rk_inv_base.proofs.Words.{untouched, with_ledger, accept_refusal, is_added, where_true}
use Rattle.rk_world.specs.Calls.{asked_by_session}
use Rattle.rk_world.specs.Client.{Accepted, accepted_by, accepted_of, answer_accepted, done, ignoring, with_range, without_range}
use Rattle.rk_world.specs.Refusals.{is_for}
use Rattle.rk_world.specs.declared.event.Taken.{Taken}
use Rattle.rk_inv_lanes.proofs.Below.{for_client}

-- something of what a message says and of what a session with an outstanding call makes of it
pub record IsTaken (T : Body → Accepted → Type 0) (journal : List Placed) (session : Session) (call : Call) : Type 0 where
  pub ignores : (body : Body) → T body (ignoring session)
  -- the call ends, and a record of it is in the journal
  pub ends : (reply : Reply) (outcome : Outcome) → reply.seq ≡ call.seq → IsRecordAt journal session.client reply outcome
      → T (Body.Reply reply) (record { session = done session call reply outcome; taken = Taken.Done })
  -- another master, or another time
  pub moves : (reply : Reply) (tablet : ℕ)
      → T (Body.Reply reply) (record { session = record (without_range session call) { requests = 0 }; taken = Taken.Moved tablet })
  pub waits : (reply : Reply) (key : List ℕ) → T (Body.Reply reply) (record { session = session; taken = Taken.NotYet key })
  -- a range
  pub locates : (located : Located)
      → T (Body.Located located) (record { session = with_range session (call_lane call) located; taken = Taken.Located })

module _ {T : Body → Accepted → Type 0} {journal : List Placed} {session : Session} {call : Call} (takes : IsTaken T journal session call) where
  by_answer : (reply : Reply) (answer : Answer) → reply.answer ≡ answer → Says journal (Node.Client session.client) (Body.Reply reply)
      → (same : Bool) → (reply.seq == call.seq) ≡ same
      → T (Body.Reply reply) (cond same (answer_accepted session call reply answer) (ignoring session))
  by_answer reply answer is says same differs = grind (arith, eqb-true)

  by_range : (located : Located) (test : Bool)
      → T (Body.Located located)
      (cond test (record { session = with_range session (call_lane call) located; taken = Taken.Located }) (ignoring session))
  by_range located true = takes.locates located
  by_range located false = takes.ignores _

  pub taken_by : (body : Body) → Says journal (Node.Client session.client) body → T body (accepted_by session call body)
  taken_by body says = grind (arith, by_answer, by_range)

-- a lane and a session once the session has made this of what a message says
abbrev pub took : World → Body → Accepted → Visited
took w body accepted = record {
  world = with_ledger w (ledger_taken w.ledger body accepted.taken);
  session = accepted.session;
  seen = record { first = 0; sent = 0; lost = false; taken = Some accepted.taken };
}

-- a message that a client may take is for it
pub is_mine : (w : World) (number : ℕ) (session : Session) (message : Message) → accept_refusal w number session.client (Some message) ≡ None
    → is_for session.client message.to ≡ true
is_mine w number session message none = grind (arith, where_true, is_added)

-- a message of a sound lane for a client that may act there
module _ (w : World) (number : ℕ) (session : Session) (message : Message) (sound : IsSound w) (may : MayAct w.coordinator.masters session)
    (found : get w.wire.messages number ≡ Some message) (to : is_for session.client message.to ≡ true) where
  pub says : Says w.ledger.journal (Node.Client session.client) message.body
  says = subst (λ (to : Node). Says w.ledger.journal to message.body) (for_client w number session sound may message.to to)
      (sound.messages.others number message found)

  module _ (V : Visited → Type 0) (still : V (untouched w session (Some Taken.Ignored)))
      (takes : (call : Call) → session.outstanding ≡ Some call → is_asked w.ledger session call ≡ true → call.client ≡ session.client
      → IsTaken (λ body accepted. V (took w body accepted)) w.ledger.journal session call) where
    by_asked : (call : Call) → session.outstanding ≡ Some call → (asked : Bool) → is_asked w.ledger session call ≡ asked
        → V (cond asked (taking w session message.body) (untouched w session (Some Taken.Ignored)))
    by_asked call out false is = still
    by_asked call out true is =
        let own : (call.client ≡ session.client) × (call.seq ≡ session.last) =
        subst (λ (o : Option Call). IfSome o (λ (c : Call). (c.client ≡ session.client) × (c.seq ≡ session.last))) out may.own in
        subst (λ (o : Option Call). V (took w message.body (accepted_of session o message.body))) (sym out)
        (taken_by (takes call out is own.0) message.body says)

    by_out : (out : Option Call) → session.outstanding ≡ out
        → V (cond (asked_by_session w session out) (taking w session message.body) (untouched w session (Some Taken.Ignored)))
    by_out None out = still
    by_out (Some call) out = by_asked call out (is_asked w.ledger session call) refl

    pub accepting_taken : V (accepting w session (Some message))
    accepting_taken = by_out session.outstanding refl
