-- The calls of a session stay such as clients make.
use Rattle.rk_shared_lanes.proofs.Words.{arith, ◌≡◌, ℕ, Bool, true, false, cond, List, [], Option, None, Some, refl, subst, ◌==◌, IfSome}
use Rattle.rk_shared_lanes.proofs.Words.{All-push, Answer, Call, Op, Receipt, Located, Reply, Body, Message, accepting, is_asked_here}
use Rattle.rk_shared_lanes.proofs.Words.{taking, untouched, Session, accepted_by, accepted_of, answer_accepted, call_lane, has_call}
use Rattle.rk_shared_lanes.proofs.Words.{ignoring, next_call, with_next_call, with_range, World, MakesOnly}
use Rattle.rk_types.specs.declared.call.Answer.TheVariants as answers
use Rattle.rk_message.specs.declared.message.Body.TheVariants as bodies
use Rattle.rk_world.specs.Client.{receipt_of}
use Rattle.rk_world.specs.declared.event.Taken.TheVariants as takes

module _ (makes : Call → Type 0) where
  -- ---- what leaves them

  pub same_makes : (session now : Session) → now.receipts ≡ session.receipts → now.outstanding ≡ session.outstanding → MakesOnly makes session → MakesOnly makes now
  same_makes session now receipts outstanding it = grind arith

  pub next_makes : (session : Session) (table : ℕ) (key : List ℕ) (op : Op) → makes (next_call session table key op) → MakesOnly makes session
      → MakesOnly makes (with_next_call session table key op)
  next_makes session table key op made it = record { answered = it.answered; outstanding = made }

  -- ---- a message that a client takes

  call_makes : (session : Session) (call : Call) → session.outstanding ≡ Some call → MakesOnly makes session → makes call
  call_makes session call is it = subst (λ (outstanding : Option Call). IfSome outstanding makes) is it.outstanding

  by_answer : (session : Session) (call : Call) (reply : Reply) (answer : Answer) → session.outstanding ≡ Some call → MakesOnly makes session
      → MakesOnly makes (answer_accepted session call reply answer).session
  by_answer session call reply (answers.Done outcome) is it = record {
    answered = All-push (λ (receipt : Receipt). makes receipt.call) session.receipts (receipt_of call reply outcome) it.answered (call_makes session call is it);
    outstanding = tt;
  }
  by_answer session call reply (answers.Moved tablet) is it = record { answered = it.answered; outstanding = it.outstanding }
  by_answer session call reply (answers.NotYet key) is it = it

  by_seq : (session : Session) (call : Call) (reply : Reply) (test : Bool) → session.outstanding ≡ Some call → MakesOnly makes session
      → MakesOnly makes (cond test (answer_accepted session call reply reply.answer) (ignoring session)).session
  by_seq session call reply true is it = by_answer session call reply reply.answer is it
  by_seq session call reply false is it = it

  by_range : (session : Session) (call : Call) (located : Located) (test : Bool) → MakesOnly makes session
      → MakesOnly makes (cond test (record { session = with_range session (call_lane call) located; taken = takes.Located }) (ignoring session)).session
  by_range session call located true it = record { answered = it.answered; outstanding = it.outstanding }
  by_range session call located false it = it

  by_body : (session : Session) (call : Call) (body : Body) → session.outstanding ≡ Some call → MakesOnly makes session → MakesOnly makes (accepted_by session call body).session
  by_body session call (bodies.Reply reply) is it = by_seq session call reply (reply.seq == call.seq) is it
  by_body session call (bodies.Located located) is it = by_range session call located (has_call call located) it
  by_body session call body is it = it

  by_call : (session : Session) (outstanding : Option Call) (body : Body) → session.outstanding ≡ outstanding → MakesOnly makes session
      → MakesOnly makes (accepted_of session outstanding body).session
  by_call session None body is it = it
  by_call session (Some call) body is it = by_body session call body is it

  pub accepting_makes : (w : World) (session : Session) (message : Message) → MakesOnly makes session → MakesOnly makes (accepting w session (Some message)).session
  accepting_makes w session message it = go (is_asked_here w session)
    where
      go : (here : Bool) → MakesOnly makes (cond here (taking w session message.body) (untouched w session (Some takes.Ignored))).session
      go true = by_call session session.outstanding message.body refl it
      go false = it
