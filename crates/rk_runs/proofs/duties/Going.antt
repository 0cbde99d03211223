-- What goes on in a lane: who was added there is added still, and no fewer messages were sent, whatever happens.
use Rattle.std.proofs.Common.{◌≡◌, ◌+◌, ℕ, Bool, true, false, List, [], ◌∷◌, fold, Option, Some, None, refl, sym, ap, ◌∙◌, arith}
use Rattle.std.proofs.Common.{is_some}
use Rattle.rk_inv_base.proofs.Words.{cases_eq, cond_both, none-some, get_other, get_same, NumberMap, get, insert, Call, Traffic}
use Rattle.rk_inv_base.proofs.Words.{with_message, Body, Message, Called, accept, ask, asking_by, is_asked, ledger_asked, ledger_taken}
use Rattle.rk_inv_base.proofs.Words.{ClientTurn, Session, coordinator_step, Ledger, is_added, with_asked, with_rebuilt, refusal}
use Rattle.rk_inv_base.proofs.Words.{world_stepped, world_visited, seen_in, step, stepped_by, with_sends, worked_at, Worked, World}
use Rattle.rk_inv_base.proofs.Words.{with_coordinator, with_ledger, StepError, Event, LastCall, backup_step, coordinator_turn, log_bytes_of}
use Rattle.rk_inv_base.proofs.Words.{master_at, master_step, master_turn}
use Rattle.rk_world.specs.declared.event.Taken.{Taken}
use Rattle.rk_world.specs.Client.{session_accept}
use Rattle.rk_inv_wellformed.proofs.lanes.Asks.{clients_requested}
use Rattle.rk_inv_wellformed.proofs.lanes.Ledgers.{clients_rebuilt, clients_served}
use Rattle.rk_inv_wellformed.proofs.room.Rises.{sent_all}
use Rattle.rk_inv_wellformed.proofs.lanes.Worlds.{HasClientsOf}
use Rattle.rk_inv_lanes.proofs.lanes.Events.{Covers, event_covered}
use Rattle.rk_inv_lanes.proofs.lanes.Visits.{accept_covered, ask_covered}
use Rattle.rk_runs.specs.duties.Sent.{HasMessage, SendsNoFewer, is_forget}

-- ---- wires

-- a message that was sent last is there
message_there : (message : Message) (wire : Traffic) → HasMessage (with_message message wire)
message_there message wire =
    go (insert wire.messages (wire.sent + 1) message) (get_same wire.messages (wire.sent + 1) message (wire.sent + 1) refl)
  where
    go : (messages : NumberMap Message) → get messages (wire.sent + 1) ≡ Some message → HasMessage (record { messages = messages; sent = wire.sent + 1 })
    go [] found none = absurd (none-some message found)
    go (first ∷ rest) found none = absurd (cc none)

-- and so is one after more were sent
sent_there : (messages : List Message) (wire : Traffic) → HasMessage wire → HasMessage (fold (λ now message. with_message message now) wire messages)
sent_there [] wire there = there
sent_there (message ∷ messages) wire there = sent_there messages (with_message message wire) (message_there message wire)

sends_no_fewer : (messages : List Message) (wire : Traffic) → SendsNoFewer wire (fold (λ now message. with_message message now) wire messages)
sends_no_fewer [] wire = record { sent = omega arith; there = λ more. absurd (omega (arith, more)) }
sends_no_fewer (message ∷ messages) wire = grind (arith, sent_all, sent_there, with_message, message_there)

same_wire : (before after : Traffic) → after.sent ≡ before.sent → SendsNoFewer before after
same_wire before after same = record { sent = omega (arith, same); there = λ more. absurd (omega (arith, same, more)) }

-- ---- ledgers

same_clients : (before after : Ledger) → after.clients ≡ before.clients → HasClientsOf after before
same_clients before after same client added = ap (λ (clients : NumberMap (Option LastCall)). is_some (get clients client)) same ∙ added

-- one more client, or another last call of one
more_clients : (clients : NumberMap (Option LastCall)) (one client : ℕ) (last : Option LastCall) → is_some (get clients client) ≡ true → is_some (get (insert clients one last) client) ≡ true
more_clients clients one client last added = grind (arith, get_same, get_other, cases_eq)

-- ---- lanes

-- a lane later: who was added is added still, no fewer messages were sent, and a message stays on the wire unless one is forgotten
pub record GoesOn (forgets : Bool) (before after : World) : Type 0 where
  pub clients : HasClientsOf after.ledger before.ledger
  pub wire : SendsNoFewer before.wire after.wire
  pub stays : forgets ≡ false → HasMessage before.wire → HasMessage after.wire

module _ (w : World) (forgets : Bool) where
  -- nobody came, and nothing was sent
  as_it_was : (now : World) → now.ledger.clients ≡ w.ledger.clients → now.wire ≡ w.wire → GoesOn forgets w now
  as_it_was now clients same = grind (arith, same_clients, same_wire)

  -- messages were sent
  sends_on : (now : World) (messages : List Message) → now.wire ≡ w.wire → HasClientsOf now.ledger w.ledger → GoesOn forgets w (with_sends now messages).world
  sends_on now messages same clients = grind (arith, with_sends, sends_no_fewer, sent_there)

  worked_on : (master seen : ℕ) (worked : Worked) → GoesOn forgets w (worked_at w master seen worked).world
  worked_on master seen worked =
      search (sends_on, clients_served)

-- ---- events

module _ (w : World) (event : Event) (called : Called) where
  goes_on : Covers (GoesOn (is_forget event) w) w event called
  goes_on = record {
    quiet = λ backups may. as_it_was w (is_forget event) _ refl refl;
    steps = λ number master message is found to lives.
        worked_on w (is_forget event) master (seen_in message.body) (master_step (master_at w master) message);
    turns = λ master. worked_on w (is_forget event) master 0 (master_turn (master_at w master));
    hears = λ message.
        let taken = coordinator_step w.coordinator message in
        sends_on w (is_forget event) (with_ledger (with_coordinator w taken.coordinator) (with_rebuilt w.ledger taken.rebuilt)) taken.sends refl
        (same_clients w.ledger (with_rebuilt w.ledger taken.rebuilt) (clients_rebuilt w.ledger taken.rebuilt));
    duties = sends_on w (is_forget event) w (coordinator_turn w.coordinator) refl (λ client added. added);
    answers = λ backup sender body backups may.
        sends_on w (is_forget event) (record w { backups = backups }) (backup_step backup sender body (log_bytes_of w) called).sends refl
        (λ client added. added);
    again = λ client message found. sends_on w (is_forget event) w (message ∷ []) refl (λ client added. added);
    adds = λ tablet range master is. as_it_was w (is_forget event) _ refl refl;
    comes = λ client is new. record {
      clients = λ other added. more_clients w.ledger.clients client other None added;
      wire = same_wire w.wire w.wire refl;
      stays = λ keeps there. there;
    };
    forgets = λ number is. record {
      clients = λ client added. added;
      wire = same_wire w.wire _ refl;
      stays = λ keeps. let forgets : true ≡ false = sym (ap is_forget is) ∙ keeps in absurd (cc forgets);
    };
    moves = λ tablet to. as_it_was w (is_forget event) _ refl refl;
    parts = λ tablet at new. as_it_was w (is_forget event) _ refl refl;
    splits = λ tablet at new number master term. as_it_was w (is_forget event) _ refl refl;
    crashes = λ master is. as_it_was w (is_forget event) _ refl refl;
    notices = λ master. as_it_was w (is_forget event) _ refl refl;
  }

  -- an event
  pub stepped_on : GoesOn (is_forget event) w (world_stepped w (step w event called))
  stepped_on = go (refusal w event)
    where
      go : (refused : Option StepError) → GoesOn (is_forget event) w (world_stepped w (stepped_by w event called refused))
      go None = event_covered goes_on
      go (Some error) = as_it_was w (is_forget event) w refl refl

-- ---- clients

module _ (w : World) where
  asked_on : (session : Session) (call : Call) → HasClientsOf (ledger_asked w.ledger session call) w.ledger
  asked_on session call client added = grind (arith, cond_both, is_asked, with_asked, is_added, more_clients)

  asking_on : (session : Session) (call : Call) (turn : ClientTurn) → GoesOn false w (asking_by w session call (Some turn)).world
  asking_on session call turn =
      search (sends_on, clients_requested, asked_on)

  -- a client's turn
  pub asked_turn_on : (session : Session) → GoesOn false w (world_visited w (ask w session))
  asked_turn_on session = ask_covered (GoesOn false w) w session (as_it_was w false w refl refl) (λ call turn out. asking_on session call turn)

  taken_on : (body : Body) (taken : Taken) → GoesOn false w (with_ledger w (ledger_taken w.ledger body taken))
  taken_on body taken = grind (arith, as_it_was, with_ledger, ledger_taken)

  -- an answer
  pub answer_on : (number : ℕ) (session : Session) → GoesOn false w (world_visited w (accept w number session))
  answer_on number session = accept_covered (GoesOn false w) w session (as_it_was w false w refl refl) number
      (λ body. taken_on body (session_accept session body).taken)
