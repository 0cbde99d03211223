-- The clients of a lane's ledger have the same numbers whatever happens there, but for a client that is added.
use Rattle.std.proofs.Common.{arith, subst, ◌≡◌, ℕ, true, Option, Some, None, refl, ap, ◌∙◌}
use Rattle.rk_scripts.proofs.Words.{IsInOrder, NumberMap, numbers, Call, StepError, Event, LastCall, Called, accept, ask, ask_by, Session}
use Rattle.rk_scripts.proofs.Words.{coordinator_step, is_added, master_step, master_turn, ask_refusal, refusal, world_stepped}
use Rattle.rk_scripts.proofs.Words.{world_visited, seen_in, step, stepped_by, worked_at, Worked, World, master_at, cond_both}
use Rattle.rk_world.specs.Calls.{is_asked, ledger_asked}
use Rattle.rk_world.specs.Ledger.{Ledger, with_asked}
use Rattle.rk_inv_wellformed.proofs.lanes.Asks.{clients_requested}
use Rattle.rk_inv_wellformed.proofs.lanes.Ledgers.{clients_rebuilt, clients_served}
use Rattle.rk_inv_lanes.proofs.lanes.Events.{Covers, event_covered}
use Rattle.rk_inv_lanes.proofs.lanes.Visits.{accept_covered, asking_covered}
use Rattle.rk_inv_wellformed.proofs.maps.Numbered.{numbers_stay}

-- an event adds no client
abbrev pub AddsNobody : Event → Type 0
AddsNobody (Event.AddClient client) = ⊥
AddsNobody event = Unit {0}

module _ (w : World) where
  -- a lane later has clients of the same numbers
  abbrev pub HasSameClients : World → Type 0
  HasSameClients now = numbers now.ledger.clients ≡ numbers w.ledger.clients

  -- ---- events

  same_worked : (master seen : ℕ) (worked : Worked) → HasSameClients (worked_at w master seen worked).world
  same_worked master seen worked =
      ap (λ (clients : NumberMap (Option LastCall)). numbers clients) (clients_served w.ledger seen worked.served)

  same_event : (event : Event) (called : Called) → AddsNobody event → Covers HasSameClients w event called
  same_event event called none = record {
    quiet = λ backups may. refl;
    steps = λ number master message is found to lives. same_worked master (seen_in message.body) (master_step (master_at w master) message);
    turns = λ master. same_worked master 0 (master_turn (master_at w master));
    hears = λ message. ap (λ (clients : NumberMap (Option LastCall)). numbers clients)
        (clients_rebuilt w.ledger (coordinator_step w.coordinator message).rebuilt);
    duties = refl;
    answers = λ backup sender body backups may. refl;
    again = λ client message found. refl;
    adds = λ tablet range master is. refl;
    comes = λ client is new. absurd (subst AddsNobody is none);
    forgets = λ number is. refl;
    moves = λ tablet to. refl;
    parts = λ tablet at new. refl;
    splits = λ tablet at new number master term. refl;
    crashes = λ master is. refl;
    notices = λ master. refl;
  }

  pub same_stepped : (event : Event) (called : Called) → AddsNobody event → HasSameClients (world_stepped w (step w event called))
  same_stepped event called none = go (refusal w event)
    where
      go : (refused : Option StepError) → HasSameClients (world_stepped w (stepped_by w event called refused))
      go None = event_covered (same_event event called none)
      go (Some error) = refl

-- ---- clients

module _ (w : World) (session : Session) where
  ask_not_refused : ask_refusal w session ≡ None → is_added w.ledger session.client ≡ true
  ask_not_refused none = grind (arith, is_added)

  -- ---- their turns and answers

  module _ (order : IsInOrder w.ledger.clients) where
    same_asked : (call : Call) → is_added w.ledger session.client ≡ true → numbers (ledger_asked w.ledger session call).clients ≡ numbers w.ledger.clients
    same_asked call added =
        cond_both (is_asked w.ledger session call) w.ledger (with_asked w.ledger session.client (record { call = call; seen = session.seen }))
        (λ (ledger : Ledger). numbers ledger.clients ≡ numbers w.ledger.clients) (λ e. refl)
        (λ e. numbers_stay w.ledger.clients session.client (Some (record { call = call; seen = session.seen })) order added)

    -- a client's turn
    pub same_turn : HasSameClients w (world_visited w (ask w session))
    same_turn = go (ask_refusal w session) refl
      where
        go : (refused : Option StepError) → ask_refusal w session ≡ refused → HasSameClients w (world_visited w (ask_by w session refused))
        go None none = asking_covered (λ visited. HasSameClients w visited.world) w session refl
            (λ call turned out fits is. ap (λ (clients : NumberMap (Option LastCall)). numbers clients)
            (clients_requested (ledger_asked w.ledger session call) session.client turned.message turned.message.body)
            ∙ same_asked call (ask_not_refused none))
        go (Some error) some = refl

  -- an answer
  pub same_answer : (number : ℕ) → HasSameClients w (world_visited w (accept w number session))
  same_answer number = grind (arith, accept_covered, numbers)
