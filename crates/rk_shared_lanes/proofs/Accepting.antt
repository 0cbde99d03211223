-- A lane behind its lock, and a pass, stay so when a client takes a message.
use Rattle.rk_shared_lanes.proofs.Words.{◌≡◌, ℕ, ◌+◌, Bool, true, false, not, List, [], ◌∷◌, length, Option, Some, None, Result, Ok, refl}
use Rattle.rk_shared_lanes.proofs.Words.{sym, ap, subst, ◌∙◌, arith, IfSome, Segments, BackupLane, NumberMap, get, Answer, Call, Body}
use Rattle.rk_shared_lanes.proofs.Words.{Message, Visited, accept, accepting, is_asked_here, taking, untouched, Session, accepted_by}
use Rattle.rk_shared_lanes.proofs.Words.{has_call, MayAct, accept_refusal, world_visited, World, StepError, Seen, Taken, Ledger, is_added}
use Rattle.rk_shared_lanes.proofs.Words.{AreTold, IsSameLane, LaneState, Running, world_with, IsVisitOf, waiting, Counts, lanes_visited}
use Rattle.rk_shared_lanes.proofs.Words.{HasSameClients, accepted_count, IsGoodLane, IsOrderly, HasCountedCalls, is_answer, IsKept}
use Rattle.rk_shared_lanes.proofs.Words.{StandsFor, IsPass, MakesOnly, PassState, one_if}
use Rattle.std.specs.Prelude.{is_some}
use Rattle.std.specs.Option.{option_or}
use Rattle.rk_types.specs.declared.call.Answer.TheVariants as answers
use Rattle.rk_message.specs.declared.message.Body.TheVariants as bodies
use Rattle.rk_world.specs.Refusals.{is_for, where_true}
use Rattle.rk_world.specs.declared.error.StepError.TheVariants as errors
use Rattle.rk_world.specs.declared.event.Taken.TheVariants as takes
use Rattle.rk_laws_lanes.specs.Counts.{HasReceipts, IsCounted}
use Rattle.rk_laws_lanes.proofs.Answers.{answer_asked, answer_clients, answer_counted, answer_receipts}
use Rattle.rk_laws_lanes.proofs.Clients.{good_accepts}
use Rattle.rk_laws_lanes.proofs.gathered.Counting.{accept_counted}
use Rattle.rk_laws_lanes.proofs.gathered.Orderly.{accepting_orderly}
use Rattle.rk_shared_lanes.proofs.Making.{accepting_makes}
use Rattle.rk_shared_lanes.proofs.Standing.{kept_with, sound_on, stands_on}

-- ---- the session's client, and how many calls it made

-- a session of the same client, with as many calls
record IsSameCaller (session now : Session) : Type 0 where
  pub client : now.client ≡ session.client
  pub last : now.last ≡ session.last

caller_by : (session : Session) (call : Call) (body : Body) → IsSameCaller session (accepted_by session call body).session
caller_by session call body = grind (arith, has_call)

-- ---- a message that was taken

-- it is there, for the client, and makes just what it makes
record IsTaken (w : World) (number : ℕ) (session : Session) (visited : Visited) : Type 0 where
  pub message : Message
  pub there : get w.wire.messages number ≡ Some message
  pub for_it : is_for session.client message.to ≡ true
  pub is : accepting w session (Some message) ≡ visited

for_client : (w : World) (number client : ℕ) (message : Message) (here : Bool) → is_for client message.to ≡ here
    → option_or (where_true (not here) (errors.Address number)) (where_true (not (is_added w.ledger client)) (errors.Stranger client)) ≡ None → here ≡ true
for_client w number client message true is none = refl
for_client w number client message false is none = absurd (cc none)

taken_by : (w : World) (number : ℕ) (session : Session) (visited : Visited) (found : Option Message) → get w.wire.messages number ≡ found
    → accept_refusal w number session.client found ≡ None → accepting w session found ≡ visited → IsTaken w number session visited
taken_by w number session visited found none refused is = grind (arith, for_client)

taken_here : (w : World) (number : ℕ) (session : Session) (visited : Visited) → accept w number session ≡ Ok visited → IsTaken w number session visited
taken_here w number session visited is = grind (arith, accept_refusal, accepting, taken_by)

-- what is counted of it, and what is not
pub record IsTakenCounted (w : World) (session : Session) (visited : Visited) : Type 0 where
  pub asked : visited.world.ledger.asked ≡ w.ledger.asked
  pub clients : HasSameClients w.ledger visited.world.ledger
  pub receipts : HasReceipts session visited.session visited.seen.taken
  pub client : visited.session.client ≡ session.client
  pub last : visited.session.last ≡ session.last

taken_counted : (w : World) (number : ℕ) (session : Session) (visited : Visited) → accept w number session ≡ Ok visited → IsTakenCounted w session visited
taken_counted w number session visited is =
    grind (arith, taken_here, answer_asked, answer_clients, answer_receipts, is_asked_here, taking, untouched, caller_by)

makes_taken : (makes : Call → Type 0) (w : World) (number : ℕ) (session : Session) (visited : Visited) → accept w number session ≡ Ok visited
    → MakesOnly makes session → MakesOnly makes visited.session
makes_taken makes w number session visited is made =
    let it = taken_here w number session visited is in
    subst (λ (visit : Visited). MakesOnly makes visit.session) it.is (accepting_makes makes w session it.message made)

counted_good : (masters lane : ℕ) (w : World) (number : ℕ) (session : Session) (visited : Visited) → accept w number session ≡ Ok visited
    → IsGoodLane masters lane w → MayAct masters session → IsCounted w.ledger visited.world.ledger session visited.session visited.seen.taken
counted_good masters lane w number session visited is good may = grind (arith, taken_here, answer_counted)

module _ (masters lane : ℕ) (w : World) (number : ℕ) (session : Session) (visited : Visited) (is : accept w number session ≡ Ok visited)
    (good : IsGoodLane masters lane w) (may : MayAct masters session) where
  may_in : MayAct w.coordinator.masters session
  may_in = subst (λ (count : ℕ). MayAct count session) (sym good.masters_are) may

  orderly_good : IsOrderly session.client session → IsOrderly session.client visited.session
  orderly_good orderly =
      let it = taken_here w number session visited is in
      subst (λ (made : Visited). IsOrderly session.client made.session) it.is
      (accepting_orderly session.client w number session good.sound may_in orderly it.message it.there it.for_it)

  ledger_counted : HasCountedCalls w.ledger → HasCountedCalls visited.world.ledger
  ledger_counted counted =
      let Counted : Result Visited StepError → Type 0 = λ made. HasCountedCalls (world_visited w made).ledger in
      subst Counted is (accept_counted w number session good.sound may_in counted)

-- ---- by what was taken

accepted_more : (before after : Ledger) (session now : Session) (taken : Option Taken) → IsCounted before after session now taken
    → accepted_count after ≡ accepted_count before + one_if (is_answer taken)
accepted_more before after session now (Some takes.Done) counted = counted.accepted
accepted_more before after session now _ counted = counted ∙ omega arith

receipts_more : (session now : Session) (taken : Option Taken) → HasReceipts session now taken → length now.receipts ≡ length session.receipts + one_if (is_answer taken)
receipts_more session now (Some takes.Done) has = has.0
receipts_more session now _ has = ap length has.0 ∙ omega arith

still_open : (session now : Session) (taken : Option Taken) → HasReceipts session now taken → is_some session.outstanding ≡ true
    → not (is_answer taken) ≡ true → is_some now.outstanding ≡ true
still_open session now (Some takes.Done) has pending none = absurd (cc none)
still_open session now _ has pending none = ap is_some has.1 ∙ pending

-- a session has a receipt for each of its calls but an outstanding one still
last_more : (session now : Session) (taken : Option Taken) → HasReceipts session now taken → is_some session.outstanding ≡ true → now.last ≡ session.last
    → session.last ≡ length session.receipts + waiting session.outstanding → now.last ≡ length now.receipts + waiting now.outstanding
last_more session now taken has pending last is = grind (arith, waiting)

-- an outstanding call that was counted is a receipt now, or still counted
made_on : (before now : ℕ) (answer : Bool) → now ≡ before + one_if answer → before + one_if true ≡ now + one_if (not answer)
made_on before now true is = omega (arith, is)
made_on before now false is = omega (arith, is)

-- ---- lane and pass

good_accepted : (masters lane : ℕ) (w : World) (number : ℕ) (session : Session) (visited : Visited) → accept w number session ≡ Ok visited → MayAct masters session
    → IsGoodLane masters lane w → IsGoodLane masters lane visited.world
good_accepted masters lane w number session visited is may good =
    let Good : Result Visited StepError → Type 0 = λ made. IsGoodLane masters lane (world_visited w made) in
    subst Good is (good_accepts masters lane w session good may number)

module _ {R : Type 0} (segments : R → Option Segments) (faults : R → ℕ) (tells : Type 0) (masters backups : ℕ) (clients : List ℕ) (counts : Counts) (old new : LaneState R)
    (same : IsSameLane old new) (message : ℕ) (pass : PassState) (now : Session) (seen : Seen) (it : IsVisitOf (λ w. accept w message pass.session) old new now seen)
    (may : MayAct masters pass.session) (accepted asked number : ℕ × ℕ) (kept : IsKept segments faults tells masters backups clients counts old accepted asked number) where
  -- what the lane and the session became, with what backups store
  abbrev visited_with : NumberMap Segments → Visited
  visited_with stored = record { world = world_with new it.after stored; session = now; seen = seen }

  counted_here : IsTakenCounted (world_with old it.before []) pass.session (visited_with [])
  counted_here = taken_counted (world_with old it.before []) message pass.session (visited_with []) (it.visited [])

  pub client_same : now.client ≡ pass.session.client
  client_same = counted_here.client

  may_here : MayAct old.masters pass.session
  may_here = subst (λ (count : ℕ). MayAct count pass.session) (sym kept.masters_are) may

  -- in a good lane
  abbrev IsCountedHere : Type 0
  IsCountedHere = IsCounted old.ledger new.ledger pass.session now seen.taken

  stood_of : tells → StandsFor segments old it.before
  stood_of told = subst (λ (running : Option Running). IfSome running (StandsFor segments old)) it.was (kept.sound told)

  counts_of : tells → IsCountedHere
  counts_of told =
      let stood = stood_of told in
      counted_good old.masters old.number (world_with old it.before stood.stored) message pass.session (visited_with stood.stored) (it.visited stood.stored) stood.good may_here

  pub kept_accepted : (accepted_now : ℕ × ℕ) → accepted_now.0 ≡ accepted.0 → accepted_now.1 ≡ accepted.1 + one_if (is_answer seen.taken)
      → IsKept segments faults tells masters backups clients counts new accepted_now asked number
  kept_accepted accepted_now parts amount =
      kept_with segments faults tells masters backups clients counts old new same accepted asked number accepted_now asked kept counted_here.clients
      (lanes_visited faults (old ∷ []) 0 old new refl (λ w. accept w message pass.session) now (Ok seen) it tt)
      (kept.asked_is.0, kept.asked_is.1 ∙ sym counted_here.asked) (parts ∙ kept.accepted_part)
      (λ told.
      amount ∙ ap (λ (n : ℕ). n + one_if (is_answer seen.taken)) (kept.accepted_is told)
      ∙ sym (accepted_more old.ledger new.ledger pass.session now seen.taken (counts_of told)))
      (λ told.
      let stood = stood_of told in
      ledger_counted old.masters old.number (world_with old it.before stood.stored) message pass.session
      (visited_with stood.stored) (it.visited stood.stored) stood.good may_here (kept.counted told))
      (λ told.
      sound_on segments old new same it.before it.after it.was it.is
      (λ stood.
      stands_on segments old new same it.before it.after stood.stored
      (subst (λ (backups : List (BackupLane R)). AreTold segments backups stood.stored) (sym it.backups) stood.told)
      (good_accepted old.masters old.number (world_with old it.before stood.stored) message pass.session (visited_with stood.stored) (it.visited stood.stored) may_here stood.good))
      (kept.sound told))

  pub pass_accepted : (makes : Call → Type 0) (got made got_now : ℕ × ℕ) (counted_now : Bool) → IsPass tells masters makes pass got made → pass.counted ≡ true → MayAct masters now
      → got_now.0 ≡ got.0 → got_now.1 ≡ got.1 + one_if (is_answer seen.taken) → counted_now ≡ not (is_answer seen.taken)
      → IsPass tells masters makes (record { session = now; counted = counted_now }) got_now made
  pass_accepted makes got made got_now counted_now pass_is counted may_now parts amount counted_is =
      let more = receipts_more pass.session now seen.taken counted_here.receipts in
      record {
        may = may_now;
        last_is = last_more pass.session now seen.taken counted_here.receipts (pass_is.pending counted) counted_here.last pass_is.last_is;
        calls = λ told. makes_taken makes (world_with old it.before []) message pass.session (visited_with []) (it.visited []) (pass_is.calls told);
        got_is = (parts ∙ pass_is.got_is.0, amount ∙ ap (λ (n : ℕ). n + one_if (is_answer seen.taken)) pass_is.got_is.1 ∙ sym more);
        made_is = (
          pass_is.made_is.0,
          pass_is.made_is.1 ∙ ap (λ (b : Bool). length pass.session.receipts + one_if b) counted
              ∙ made_on (length pass.session.receipts) (length now.receipts) (is_answer seen.taken) more
              ∙ ap (λ (b : Bool). length now.receipts + one_if b) (sym counted_is),
        );
        pending = λ still.
            still_open pass.session now seen.taken counted_here.receipts (pass_is.pending counted) (sym counted_is ∙ still);
        orderly = λ told.
            subst (λ (client : ℕ). IsOrderly client now) (sym counted_here.client)
            (orderly_good old.masters old.number (world_with old it.before (stood_of told).stored) message pass.session
            (visited_with (stood_of told).stored) (it.visited (stood_of told).stored) (stood_of told).good may_here (pass_is.orderly told));
      }
