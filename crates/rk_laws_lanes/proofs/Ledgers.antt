-- What an event leaves of a ledger: the calls that were asked and, unless a client is added, the clients; and it accepts no record.
use Rattle.std.proofs.Common.{◌≡◌, ℕ, Bool, false, cond, List, [], ◌∷◌, Option, Some, None, refl, ap, arith, subst, is_some, All}
use Rattle.rk_inv_base.proofs.Words.{All-head, All-tail, sum_by-append, sum_by-cons, NumberMap, get, Ended, Placed, Rebuilt, Called}
use Rattle.rk_inv_base.proofs.Words.{coordinator_step, Ledger, with_all_served, with_rebuilt, master_step, master_turn, happened, seen_in}
use Rattle.rk_inv_base.proofs.Words.{worked_at, Worked, World, master_at, Event, LastCall, Served}
use Rattle.std.specs.List.{count_by}
use Rattle.rk_world.specs.Ledger.{with_end, with_served}
use Rattle.rk_inv_wellformed.proofs.lanes.Ledgers.{ended_is, kept_by_fold, served_is}
use Rattle.rk_runs.proofs.Below.{Covers, event_covered}
use Rattle.rk_runs.proofs.history.GoesOn.{event_goes_on}
use Rattle.rk_laws_lanes.specs.Counts.{AddsNoClient, HasSameClients, HasSameCounts}

-- a ledger that has what another one has of clients and of what they asked
record Stays (before after : Ledger) : Type 0 where
  pub asked : after.asked ≡ before.asked
  pub clients : after.clients ≡ before.clients

-- ---- work

module _ (start : Ledger) where
  served_stays : (seen : ℕ) (now : Ledger) (served : Served) → Stays start now → Stays start (with_served seen now served)
  served_stays seen now served stays = grind (arith, served_is)

  all_served : (seen : ℕ) (served : List Served) → Stays start (with_all_served seen start served)
  all_served seen served =
      kept_by_fold (Stays start) (with_served seen) (λ now one stays. served_stays seen now one stays) served start
      (record { asked = refl; clients = refl })

  ended_stays : (now : Ledger) (end : Ended) → Stays start now → Stays start (with_end now end)
  ended_stays now end stays = ended_is (Stays start) now end stays (λ asked is. record { asked = stays.asked; clients = stays.clients })

  rebuilt_stays : (rebuilt : Option Rebuilt) → Stays start (with_rebuilt start rebuilt)
  rebuilt_stays None = record { asked = refl; clients = refl }
  rebuilt_stays (Some rebuilt) =
      let ended = kept_by_fold (Stays start) with_end ended_stays rebuilt.ends start (record { asked = refl; clients = refl }) in
      record { asked = ended.asked; clients = ended.clients }

-- ---- events

-- as many calls were asked, and clients are the same if the event adds none
record EventStays (w : World) (event : Event) (now : World) : Type 0 where
  pub asked : now.ledger.asked ≡ w.ledger.asked
  pub clients : AddsNoClient event → now.ledger.clients ≡ w.ledger.clients

module _ (w : World) (event : Event) where
  itself : (now : World) → now.ledger ≡ w.ledger → EventStays w event now
  itself now same = record { asked = ap (λ (l : Ledger). l.asked) same; clients = λ other. ap (λ (l : Ledger). l.clients) same }

  worked_stays : (master seen : ℕ) (worked : Worked) → EventStays w event (worked_at w master seen worked).world
  worked_stays master seen worked =
      let served = all_served w.ledger seen worked.served in record { asked = served.asked; clients = λ other. served.clients }

  event_stays : (called : Called) → Covers (EventStays w event) w event called
  event_stays called = record {
    quiet = λ backups may. itself _ refl;
    steps = λ number master message is found to lives. worked_stays master (seen_in message.body) (master_step (master_at w master) message);
    turns = λ master. worked_stays master 0 (master_turn (master_at w master));
    hears = λ message.
        let rebuilt = rebuilt_stays w.ledger (coordinator_step w.coordinator message).rebuilt in
        record { asked = rebuilt.asked; clients = λ other. rebuilt.clients };
    duties = itself _ refl;
    answers = λ backup sender body backups may. itself _ refl;
    again = λ client message found. itself _ refl;
    adds = λ tablet range master is. itself _ refl;
    comes = λ client is new. record { asked = refl; clients = λ other. absurd (subst AddsNoClient is other) };
    forgets = λ number is. itself _ refl;
    moves = λ tablet to. itself _ refl;
    parts = λ tablet at new. itself _ refl;
    splits = λ tablet at new number master term. itself _ refl;
    crashes = λ master is. itself _ refl;
    notices = λ master. itself _ refl;
  }

event_keeps : (w : World) (event : Event) (called : Called) → EventStays w event (happened w event called).world
event_keeps w event called = event_covered (event_stays w event called)

pub same_clients : (w : World) (event : Event) (called : Called) → AddsNoClient event → HasSameClients w.ledger (happened w event called).world.ledger
same_clients w event called other client =
    ap (λ (clients : NumberMap (Option LastCall)). is_some (get clients client)) ((event_keeps w event called).clients other)

-- ---- records

-- if none of these is accepted none is counted
none_counted : (records : List Placed) → All (λ placed. placed.accepted ≡ false) records → count_by (λ placed. placed.accepted) records ≡ 0
none_counted [] all = refl
none_counted (placed ∷ records) all =
    let split = sum_by-cons (λ (placed : Placed). cond placed.accepted 1 0) placed records in
    let first : cond placed.accepted 1 0 ≡ 0 =
    ap (λ (b : Bool). cond {A = ℕ} b 1 0) (All-head (λ placed. placed.accepted ≡ false) placed records all) in
    let rest = none_counted records (All-tail (λ placed. placed.accepted ≡ false) placed records all) in
    omega (arith, split, first, rest)

pub same_counts : (w : World) (event : Event) (called : Called) → HasSameCounts w.ledger (happened w event called).world.ledger
same_counts w event called =
    let grows = (event_goes_on w event called).ledger 0 in
    let joined = sum_by-append (λ (placed : Placed). cond placed.accepted 1 0) w.ledger.journal grows.more in
    let none = none_counted grows.more grows.unaccepted in
    let is = ap (count_by (λ placed. placed.accepted)) grows.journal_is in
    record { accepted = omega (arith, joined, none, is); asked = (event_keeps w event called).asked }
