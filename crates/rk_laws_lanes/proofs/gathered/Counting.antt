-- A lane that has counted its calls goes on doing so, at each event and at each client's turn and answer.
use Rattle.std.proofs.Common.{◌≡◌, ℕ, true, Option, Some, None, refl, sym, ap, ◌∙◌, subst, not}
use Rattle.rk_inv_base.proofs.Words.{and_parts, get, Call, Outcome, Reply, Body, Message, Called, accept, accept_by, accepting, ask}
use Rattle.rk_inv_base.proofs.Words.{is_asked, is_last, ledger_asked, ledger_requested, ledger_taken, Session, is_accepted, Ledger}
use Rattle.rk_inv_base.proofs.Words.{asked_by, MayAct, accept_refusal, world_visited, happened, World, StepError, Event, LastCall}
use Rattle.rk_inv_base.proofs.Words.{IsRecordAt, IsSound}
use Rattle.rk_world.specs.declared.event.Taken.{Taken}
use Rattle.rk_world.specs.Refusals.{is_for}
use Rattle.rk_runs.proofs.Below.{is_last_there}
use Rattle.rk_runs.proofs.history.Taking.{accepting_taken, is_mine}
use Rattle.rk_runs.proofs.Below.{ask_covered}
use Rattle.rk_runs.proofs.history.GoesOn.{event_goes_on}
use Rattle.rk_laws_lanes.proofs.Ledgers.{same_counts}
use Rattle.rk_inv_wellformed.proofs.maps.Lists.{either_way}
use Rattle.rk_laws_lanes.specs.gathered.OpenCalls.{HasCountedCalls}
use Rattle.rk_laws_lanes.proofs.gathered.OpenCalls.{accepted_counted, asked_counted, grown_counted}

-- ---- events

pub event_counted : (w : World) (event : Event) (called : Called) → HasCountedCalls w.ledger
    → HasCountedCalls (happened w event called).world.ledger
event_counted w event called counted =
    let goes = event_goes_on w event called in
    let same = same_counts w event called in
    grown_counted w.ledger (happened w event called).world.ledger (goes.ledger 0).more (goes.ledger 0).journal_is
    (λ client. (goes.ledger client).asked) same.accepted same.asked counted

-- ---- turns of clients

saved : (ledger : Ledger) (client : ℕ) (message : Message) (body : Body) → HasCountedCalls ledger
    → HasCountedCalls (ledger_requested ledger client message body)
saved ledger client message (Body.Request request) counted = counted
saved ledger client message body counted = counted

module _ (w : World) (session : Session) (counted : HasCountedCalls w.ledger) where
  asked_there : (call : Call) → HasCountedCalls (ledger_asked w.ledger session call)
  asked_there call =
      either_way HasCountedCalls (is_asked w.ledger session call) counted (asked_counted w.ledger session.client (record { call = call; seen = session.seen }) counted)

  pub ask_counted : HasCountedCalls (world_visited w (ask w session)).ledger
  ask_counted = ask_covered (λ v. HasCountedCalls v.ledger) w session counted
      (λ call turned out. saved (ledger_asked w.ledger session call) session.client turned.message turned.message.body (asked_there call))

-- ---- answers that clients take

module _ (w : World) (number : ℕ) (session : Session) (sound : IsSound w) (may : MayAct w.coordinator.masters session) (counted : HasCountedCalls w.ledger) where
  module _ (call : Call) (asked : is_asked w.ledger session call ≡ true) (own : call.client ≡ session.client) where
    answered : (reply : Reply) (outcome : Outcome) → reply.seq ≡ call.seq → IsRecordAt w.ledger.journal session.client reply outcome
        → HasCountedCalls (ledger_taken w.ledger (Body.Reply reply) Taken.Done)
    answered reply outcome seq_is at =
        let last : LastCall = record { call = call; seen = session.seen } in
        let parts =
        and_parts (is_last call session.seen (asked_by w.ledger session.client))
        (not (is_accepted w.ledger.journal session.client call.seq)) asked in
        accepted_counted w.ledger session.client reply.place at.placed last at.stands (at.client_is ∙ sym own) (at.seq_is ∙ seq_is)
        (is_last_there w number session call sound asked own)
        (ap (λ (client : ℕ). not (is_accepted w.ledger.journal client call.seq)) own ∙ parts.1) counted

  module _ (message : Message) (on : get w.wire.messages number ≡ Some message) (to : is_for session.client message.to ≡ true) where
    taken_counted : HasCountedCalls (accepting w session (Some message)).world.ledger
    taken_counted = accepting_taken w number session message sound may on to (λ visited. HasCountedCalls visited.world.ledger) counted
        (λ call out asked own. record {
          ignores = λ body. ignored body;
          ends = answered call asked own;
          moves = λ reply tablet. counted;
          waits = λ reply key. counted;
          locates = λ located. counted;
        })
      where
        ignored : (body : Body) → HasCountedCalls (ledger_taken w.ledger body Taken.Ignored)
        ignored (Body.Reply reply) = counted
        ignored _ = counted

  pub accept_counted : HasCountedCalls (world_visited w (accept w number session)).ledger
  accept_counted = by_message (get w.wire.messages number) refl (accept_refusal w number session.client (get w.wire.messages number)) refl
    where
      by_message : (found : Option Message) → get w.wire.messages number ≡ found → (refused : Option StepError)
          → accept_refusal w number session.client (get w.wire.messages number) ≡ refused
          → HasCountedCalls (world_visited w (accept_by w number session refused)).ledger
      by_message found is (Some error) refused = counted
      by_message None is None refused =
          subst (λ (found : Option Message). HasCountedCalls (accepting w session found).world.ledger) (sym is) counted
      by_message (Some message) is None allowed =
          subst (λ (found : Option Message). HasCountedCalls (accepting w session found).world.ledger) (sym is)
          (taken_counted message is
          (is_mine w number session message (ap (accept_refusal w number session.client) (sym is) ∙ allowed)))
