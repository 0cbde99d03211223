-- What is so of each master of a lane stays so at an event, if each change of a master keeps it.
use Rattle.std.proofs.Common.{arith, ℕ, Some, false, ◌≡◌}
use Rattle.rk_inv_base.proofs.Words.{Called, Event, Master, Message, Node, Range, World, cases_eq, get, happened, has_crashed, master_at}
use Rattle.rk_inv_base.proofs.Words.{master_step, master_turn, with_added, with_master, with_split}
use Rattle.rk_inv_base.proofs.views.Masters.{master_other, master_same}
use Rattle.rk_inv_lanes.proofs.lanes.Events.{Covers, event_covered}

-- something of each master of a lane, by its number, crashed ones too
abbrev pub AllAre : (ℕ → Master → Type 0) → World → Type 0
AllAre P w = (number : ℕ) → P number (master_at w number)

-- each change of a master keeps it: a message that reaches a living master, a turn, a tablet that is added, and a tablet that is split
pub record IsKeptByEach (P : ℕ → Master → Type 0) (w : World) (event : Event) : Type 0 where
  pub now : AllAre P w
  pub steps : (number master : ℕ) (message : Message) → event ≡ Event.Deliver number → get w.wire.messages number ≡ Some message
      → message.to ≡ Node.Master master → has_crashed w master ≡ false → P master (master_step (master_at w master) message).master
  pub turns : (master : ℕ) → P master (master_turn (master_at w master)).master
  pub adds : (master tablet : ℕ) (range : Range) → P master (with_added (master_at w master) tablet range)
  pub splits : (master tablet at new term : ℕ) → P master (with_split (master_at w master) tablet at new term)

module _ {P : ℕ → Master → Type 0} {w : World} {event : Event} (kept : IsKeptByEach P w event) where
  put_kept : (number : ℕ) (master : Master) → P number master → AllAre P (with_master w number master)
  put_kept number master now q = grind (arith, master_same, master_other, cases_eq)

  covers : (called : Called) → Covers (AllAre P) w event called
  covers called = record {
    quiet = λ backups may. kept.now;
    steps = λ number master message is found to lives. put_kept master _ (kept.steps number master message is found to lives);
    turns = λ master. put_kept master _ (kept.turns master);
    hears = λ message. kept.now;
    duties = kept.now;
    answers = λ backup sender body backups may. kept.now;
    again = λ client message found. kept.now;
    adds = λ tablet range master is. put_kept master _ (kept.adds master tablet range);
    comes = λ client is new. kept.now;
    forgets = λ number is. kept.now;
    moves = λ tablet to. kept.now;
    parts = λ tablet at new. kept.now;
    splits = λ tablet at new number master term. put_kept master _ (kept.splits master number at new term);
    crashes = λ master is. kept.now;
    notices = λ master. kept.now;
  }

  pub each_kept : (called : Called) → AllAre P (happened w event called).world
  each_kept called = event_covered (covers called)
