-- What a Reply on the wire says that was not there before its Request was delivered: what the master chose to say.
use Rattle.std.proofs.Common.{arith, List, None, Option, Some, ap, refl, sym, ℕ, ◌∙◌, ◌≡◌}
use Rattle.rk_inv_base.proofs.Words.{Answer, Body, Call, Called, Choice, Ignores, IsWellFormed, Master, MayAnswerMoved, Message, Placed}
use Rattle.rk_inv_base.proofs.Words.{Reads, Redirects, Refuses, Repeats, Reply, Request, Served, Traffic, Wants, World, Writes, answering}
use Rattle.rk_inv_base.proofs.Words.{call_of, cases_eq, choice_of, chosen, filled, get, get_other, get_same, ledger_after, master_at}
use Rattle.rk_inv_base.proofs.Words.{outcome_of, place_of, reply_at, with_message, worked_at}
use Rattle.rk_inv_events.specs.request.Small.{request_message}
use Rattle.rk_inv_lanes.specs.late.Refused.{IsPutOff}
use Rattle.rk_inv_lanes.specs.late.Sent.{IsMade}
use Rattle.rk_inv_lanes.proofs.late.Lanes.{comes_to, reaches}
use Rattle.rk_inv_lanes.proofs.late.Refusals.{moved_justified, not_yet_justified}
use Rattle.rk_inv_events.proofs.events.Coordinating.{tablets_order}

-- ---- what is filled in

-- the answer of a Reply
abbrev answer_in : Body → Option Answer
answer_in (Body.Reply reply) = Some reply.answer
answer_in _ = None

pub at_same : (journal : List Placed) (reply : Reply) (place : Option ℕ) → (reply_at journal reply place).answer ≡ reply.answer
at_same journal reply place = grind arith

-- a Reply that is filled in says what it said
filled_says : (journal : List Placed) (served : List Served) (master : Master) (call : Call) (answer : Answer)
    → answer_in (filled journal served (answering master call answer)).body ≡ Some answer
filled_says journal served master call answer = grind (arith, at_same, place_of)

-- ---- what is on the wire

-- the message that is there now is the message that was sent
one_sent : (wire : Traffic) (sent message : Message) (new : ℕ) → get wire.messages new ≡ None
    → get (with_message sent wire).messages new ≡ Some message → sent ≡ message
one_sent wire sent message new free there = grind (arith, get_same, get_other, cases_eq)

-- what a choice says
abbrev said : Choice → ℕ → Call → Option Answer
said Redirects asked call = Some (Answer.Moved asked)
said (Repeats end) asked call = Some (Answer.Done (outcome_of end))
said Ignores asked call = None
said (Wants number) asked call = Some (Answer.NotYet call.key)
said (Reads outcome) asked call = Some (Answer.Done outcome)
said (Writes number) asked call = None
said (Refuses at absent) asked call = None

module _ (w : World) (new master seen asked : ℕ) (call : Call) (message : Message) (free : get w.wire.messages new ≡ None) where
  abbrev own : Master
  own = master_at w master

  -- an answer as it is sent once the master did what this choice says
  abbrev sent_as : Choice → Answer → Message
  sent_as choice answer =
      let worked = chosen own asked call choice in
      filled (ledger_after w.ledger master seen worked).journal worked.served (answering own call answer)

  says : (choice : Choice) (answer : Answer) → get (with_message (sent_as choice answer) w.wire).messages new ≡ Some message
      → answer_in message.body ≡ Some answer
  says choice answer there =
      let worked = chosen own asked call choice in
      ap (λ (m : Message). answer_in m.body) (sym (one_sent w.wire (sent_as choice answer) message new free there))
      ∙ filled_says (ledger_after w.ledger master seen worked).journal worked.served own call answer

  none : {X : Type 0} → get w.wire.messages new ≡ Some message → X
  none there = let apart : None ≡ Some message = sym free ∙ there in absurd (cc apart)

  pub says_choice : (choice : Choice)
      → get (worked_at w master seen (chosen own asked call choice)).world.wire.messages new ≡ Some message
      → answer_in message.body ≡ said choice asked call
  says_choice Redirects there = says Redirects (Answer.Moved asked) there
  says_choice (Repeats end) there = says (Repeats end) (Answer.Done (outcome_of end)) there
  says_choice (Wants number) there = says (Wants number) (Answer.NotYet call.key) there
  says_choice (Reads outcome) there = says (Reads outcome) (Answer.Done outcome) there
  says_choice _ there = none there

-- what the master chose to say is what the Reply says
made_by_choice : {w : World} {number new master client : ℕ} {request : Request} {message : Message} {called : Called}
    → IsMade w number new master client request message called
    → answer_in message.body ≡ said (choice_of (master_at w master) (call_of client request)) request.tablet (call_of client request)
made_by_choice {w} {number} {new} {master} {client} {request} {message} {called} its =
    let P : World → Type 0 =
    λ after. get after.wire.messages new ≡ Some message
    → answer_in message.body ≡ said (choice_of (master_at w master) (call_of client request)) request.tablet (call_of client request) in
    comes_to P w number master (request_message client master request) called its.asked refl
    (reaches P w master (request_message client master request)
    (none w new master request.seen request.tablet (call_of client request) message its.free)
    (says_choice w new master request.seen request.tablet (call_of client request) message its.free
    (choice_of (master_at w master) (call_of client request)))) its.made

-- ---- what follows

moves : (choice : Choice) (asked tablet : ℕ) (call : Call) → said choice asked call ≡ Some (Answer.Moved tablet) → choice ≡ Redirects
moves Redirects asked tablet call is = refl
moves _ asked tablet call is = absurd (cc is)

-- a tablet that is wanted
record IsWanted (choice : Choice) : Type 0 where
  tablet : ℕ
  is : choice ≡ Wants tablet

wants : (choice : Choice) (asked : ℕ) (key : List ℕ) (call : Call) → said choice asked call ≡ Some (Answer.NotYet key) → IsWanted choice
wants (Wants number) asked key call is = record { tablet = number; is = refl }
wants _ asked key call is = absurd (cc is)

module _ (w : World) (number new master client : ℕ) (request : Request) (message : Message) (called : Called) (its : IsMade w number new master client request message called) (reply : Reply) (replies : message.body ≡ Body.Reply reply) where
  made : said (choice_of (master_at w master) (call_of client request)) request.tablet (call_of client request) ≡ Some reply.answer
  made = sym (made_by_choice its) ∙ (ap answer_in replies)

  pub told_moved : (tablet : ℕ) → reply.answer ≡ Answer.Moved tablet → MayAnswerMoved (master_at w master) (call_of client request)
  told_moved tablet is = moved_justified (master_at w master) (call_of client request)
      (moves (choice_of (master_at w master) (call_of client request)) request.tablet tablet (call_of client request) (made ∙ ap Some is))

  pub told_not_yet : (key : List ℕ) → IsWellFormed w → reply.answer ≡ Answer.NotYet key → IsPutOff (master_at w master) (call_of client request)
  told_not_yet key formed is =
      let wanted : IsWanted (choice_of (master_at w master) (call_of client request)) =
      wants (choice_of (master_at w master) (call_of client request)) request.tablet key (call_of client request) (made ∙ ap Some is) in
      record {
        tablet = wanted.tablet;
        may = not_yet_justified (master_at w master) (call_of client request) wanted.tablet (tablets_order w formed master) wanted.is;
      }
