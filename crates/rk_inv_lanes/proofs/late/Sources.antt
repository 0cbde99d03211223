-- Where a refusal on the wire comes from: of all events only a Request that is delivered to a master makes one.
use Rattle.std.proofs.Common.{arith, ◌≡◌, ◌+◌, ℕ, List, [], ◌∷◌, Option, Some, None, sym, subst, inl, ⊎_elim, ◌∙◌, ◌⊎◌, All, fold}
use Rattle.rk_inv_base.proofs.Words.{cases_eq, All-head, All-tail, get_other, get_same, remove_less, get, Placed, Node, Traffic}
use Rattle.rk_inv_base.proofs.Words.{with_message, Reply, Request, Body, Message, Called, IsWellFormed, MayAnswerMoved, filled, happened}
use Rattle.rk_inv_base.proofs.Words.{ledger_after, log_bytes_of, seen_in, with_sends, worked_at, Worked, World, master_at, Event, LastCall}
use Rattle.rk_inv_base.proofs.Words.{IsRequest, Answer, told_master, Master, Call, call_of}
use Rattle.rk_inv_lanes.specs.late.Refused.{HasPlainRequests, IsNoRefusal, IsOutcome, IsPutOff, WasRefused}
use Rattle.rk_inv_lanes.specs.late.Sent.{IsMade}
use Rattle.rk_inv_lanes.proofs.lanes.Events.{Covers, event_covered}
use Rattle.rk_inv_lanes.proofs.late.Answered.{told_moved, told_not_yet}
use Rattle.rk_inv_lanes.proofs.late.Plain.{IsPlain, RefuseNone, WorksPlainly, all_filled_plain, backup_plain, coordinator_plain}
use Rattle.rk_inv_lanes.proofs.late.Plain.{coordinator_turn_plain, master_plain, one, turn_plain}

-- what is on the wire after messages were sent that refuse no call
fold_plain : (wire : Traffic) (sends : List Message) (new : ℕ) (message : Message) → All IsPlain sends
    → (get wire.messages new ≡ Some message → IsPlain message)
    → get (fold (λ (w : Traffic) (m : Message). with_message m w) wire sends).messages new ≡ Some message → IsPlain message
fold_plain wire [] new message plain fine there = fine there
fold_plain wire (first ∷ more) new message plain fine there =
    fold_plain (with_message first wire) more new message (All-tail IsPlain first more plain)
    (λ at.
    ⊎_elim
    (λ (is : new ≡ wire.sent + 1).
    let same : Some first ≡ Some message = sym (get_same wire.messages (wire.sent + 1) first new is) ∙ at in
    let its : first ≡ message = cc same in subst IsPlain its (All-head IsPlain first more plain))
    (λ (apart : new ≡ wire.sent + 1 → ⊥). fine (sym (get_other wire.messages (wire.sent + 1) first new apart) ∙ at))
    (cases_eq new (wire.sent + 1)))
    there

-- a message was made as a Request was delivered to a master
pub record WasAnswered (w : World) (event : Event) (new : ℕ) (message : Message) (called : Called) : Type 0 where
  pub number : ℕ
  pub master : ℕ
  pub client : ℕ
  pub request : Request
  pub event_is : event ≡ Event.Deliver number
  pub made : IsMade w number new master client request message called

-- a message that an event makes refuses no call, unless a Request was delivered to a master
module _ (w : World) (new : ℕ) (message : Message) (called : Called) (free : get w.wire.messages new ≡ None) (requests : HasPlainRequests w)
    (event : Event) (made : get (happened w event called).world.wire.messages new ≡ Some message) where
  abbrev IsExplained : World → Type 0
  IsExplained after = get after.wire.messages new ≡ Some message → IsPlain message ⊎ WasAnswered w event new message called

  nothing : {X : Type 0} → get w.wire.messages new ≡ Some message → X
  nothing there = let apart : None ≡ Some message = sym free ∙ there in absurd (cc apart)

  -- when messages are sent
  sending : {sends : List Message} → RefuseNone sends → IsExplained (with_sends w sends).world
  sending {sends} plain there = inl (fold_plain w.wire sends new message plain.each nothing there)

  working : (master seen : ℕ) {worked : Worked} → WorksPlainly worked → IsExplained (worked_at w master seen worked).world
  working master seen {worked} plain there = grind (arith, ledger_after, fold_plain, filled, all_filled_plain, nothing)

  -- a master takes a message
  taking : (number master : ℕ) (from to : Node) (body : Body) → event ≡ Event.Deliver number
      → get w.wire.messages number ≡ Some (record { from = from; to = to; body = body }) → to ≡ Node.Master master
      → IsExplained (worked_at w master (seen_in body) (told_master (master_at w master) from body)).world
  taking number master (Node.Client client) (Node.Master other) (Body.Request request) is found to there = grind (arith, happened)
  taking number master (Node.Client client) _ (Body.Request request) is found to there = absurd (cc to)
  taking number master from _ body is found to there =
      working master (seen_in body) (master_plain (master_at w master) from body (λ asked. asked)) there

  explained : Covers IsExplained w event called
  explained = record {
    quiet = λ backups may there. nothing there;
    steps = λ number master sent is found to lives. taking number master sent.from sent.to sent.body is found to;
    turns = λ master. working master 0 (turn_plain (master_at w master));
    hears = λ sent. sending (coordinator_plain w.coordinator sent.from sent.body);
    duties = sending (coordinator_turn_plain w.coordinator);
    answers = λ backup sender body backups may. sending (backup_plain backup (log_bytes_of w) sender body called);
    again = λ client sent found. sending (one sent (requests client sent found));
    adds = λ tablet range master is there. nothing there;
    comes = λ client is new there. nothing there;
    forgets = λ number is there. nothing (remove_less w.wire.messages number new message there);
    moves = λ tablet to there. nothing there;
    parts = λ tablet at new there. nothing there;
    splits = λ tablet at new number master term there. nothing there;
    crashes = λ master is there. nothing there;
    notices = λ master there. nothing there;
  }

  pub source : IsPlain message ⊎ WasAnswered w event new message called
  source = event_covered explained made

-- ---- refusals

module _ (w : World) (event : Event) (new : ℕ) (message : Message) (reply : Reply) (called : Called) (requests : HasPlainRequests w) (free : get w.wire.messages new ≡ None) (made : get (happened w event called).world.wire.messages new ≡ Some message) (replies : message.body ≡ Body.Reply reply) where
  -- a refusal was made as a Request was delivered
  refused : (IsOutcome reply.answer → ⊥) → WasAnswered w event new message called
  refused refuses = ⊎_elim (λ (plain : IsPlain message). absurd (refuses (subst IsNoRefusal replies plain)))
      (λ (was : WasAnswered w event new message called). was) (source w new message called free requests event made)

  -- by a master that may answer so
  refused_as : (May : Master → Call → Type 0) → (IsOutcome reply.answer → ⊥)
      → ((was : WasAnswered w event new message called) → May (master_at w was.master) (call_of was.client was.request))
      → WasRefused w event May
  refused_as May refuses may = grind (arith, refused)

  pub each_moved : (tablet : ℕ) → reply.answer ≡ Answer.Moved tablet → WasRefused w event MayAnswerMoved
  each_moved tablet is = refused_as MayAnswerMoved (λ outcome. subst IsOutcome is outcome)
      (λ was. told_moved w was.number new was.master was.client was.request message called was.made reply replies tablet is)

  pub each_not_yet : (key : List ℕ) → IsWellFormed w → reply.answer ≡ Answer.NotYet key → WasRefused w event IsPutOff
  each_not_yet key formed is = refused_as IsPutOff (λ outcome. subst IsOutcome is outcome)
      (λ was. told_not_yet w was.number new was.master was.client was.request message called was.made reply replies key formed is)

-- the requests that the clients of a sound lane may send again are Requests
pub request_plain : (asked : ℕ → Option LastCall) (journal : List Placed) (client : ℕ) (from : Node) (body : Body)
    → IsRequest asked journal client from body → IsNoRefusal body
request_plain asked journal client from body its = grind arith
