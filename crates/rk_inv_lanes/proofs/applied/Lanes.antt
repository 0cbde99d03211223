-- The masters of a lane are caught up: in a new lane, after each event, and after a client's turn or answer.
use Rattle.std.proofs.Common.{arith, length, ltb-false, nat_lt, subst, sym, ℕ, ◌≤◌, Some, [], ◌<◌, ◌≡◌}
use Rattle.rk_inv_base.proofs.Words.{Master, Message, Stored, apply_entries, as_entries, bytes_of, false_from_ne_true, master_step}
use Rattle.rk_inv_base.proofs.Words.{master_turn, newly_held, overreach, spelled_all, stored_taken, told_length, with_known, with_split, ⊤}
use Rattle.rk_inv_base.proofs.Words.{Called, Event, FIRST_SIDE_SEGMENT, IsWellFormed, MOST_BYTES, World, bytes_of_logs, cut, get, get_or}
use Rattle.rk_inv_base.proofs.Words.{happened, log_bytes, master_at, new_master}
use Rattle.rk_inv_lanes.specs.applied.CaughtUp.{AreApplied, IsCaughtUp, AllCaughtUp}
use Rattle.rk_inv_lanes.proofs.applied.Logs.{applied_entry, applied_side, applied_told}
use Rattle.rk_inv_lanes.proofs.masters.Changes.{IsLasting, all_going_on_has, of_lasting}
use Rattle.rk_inv_lanes.proofs.masters.Steps.{makes_any, split_has, told_has, turn_has}
use Rattle.rk_inv_events.proofs.stored.StoredTaken.{all_applied_next, all_told}
use Rattle.rk_inv_events.proofs.Words.{by_found, segments_few, within_sum_of}
use Rattle.rk_inv_events.proofs.Below.{Part}
use Rattle.rk_inv_lanes.proofs.lanes.Masters.{each_kept}

-- A master is caught up once a backup reported what it holds, and stays so at each other message, at its turn and when a tablet is split.

-- what is applied stays so when a log grows
caught_last : IsLasting (λ log applied calls sides records. AreApplied log applied) (λ item. ⊤)
caught_last = search (applied_entry, applied_side, spelled_all, as_entries)

-- ---- what a backup reported

told_caught : (master : Master) (backup : ℕ) (stored : Stored) → stored.length ≤ length (bytes_of master.log stored.segment) → IsCaughtUp master
    → IsCaughtUp (told_length master backup stored).master
told_caught master backup stored fits caught =
    let known = with_known master backup stored.segment stored.length in
    let now = (apply_entries known (newly_held known)).master in
    all_going_on_has (of_lasting caught_last) now (rw (all_told (newly_held known) known).log
    (subst (AreApplied known.log) (sym (all_applied_next (newly_held known) known))
    (applied_told backup stored.segment stored.length fits caught)))

stored_caught : (master : Master) (backup : ℕ) (stored : Stored) → IsCaughtUp master
    → IsCaughtUp (stored_taken master backup stored (overreach master.log stored.segment stored.length)).master
stored_caught master backup stored caught =
    grind (arith, by_found, stored_taken, overreach, told_caught, ltb-false, bytes_of, false_from_ne_true, nat_lt)

-- ---- all that a master does

pub step_caught : (master : Master) (message : Message) → IsCaughtUp master → IsCaughtUp (master_step master message).master
step_caught master message caught = told_has (of_lasting caught_last) master message.from message.body
    (makes_any caught_last master message.from message.body) (λ call. caught)
    (λ backup stored. stored_caught master backup stored caught) (λ place none inside. tt) caught

pub turn_caught : (master : Master) → IsCaughtUp master → IsCaughtUp (master_turn master).master
turn_caught master caught = turn_has (of_lasting caught_last) master caught

pub split_caught : (master : Master) (number at new term : ℕ) → IsCaughtUp master → IsCaughtUp (with_split master number at new term)
split_caught master number at new term caught = split_has (of_lasting caught_last) master number at new term caught

-- ---- events

abbrev pub AreCaughtUp : Part
AreCaughtUp masters count backups = (master : ℕ) → IsCaughtUp (get_or (new_master master []) masters master)

pub caught_event : (w : World) (event : Event) (called : Called) → AllCaughtUp w → AllCaughtUp (happened w event called).world
caught_event w event called caught = each_kept {P = λ number. IsCaughtUp} {w = w} {event = event} (record {
  now = caught;
  steps = λ number master message is found to lives. step_caught (master_at w master) message (caught master);
  turns = λ master. turn_caught (master_at w master) (caught master);
  adds = λ master tablet range. caught master;
  splits = λ master tablet at new term. split_caught (master_at w master) tablet at new term (caught master);
}) called

-- ---- lanes with room

-- a master of a lane that is well formed and has room: there is a backup, and the main segments are few
pub record HasFew (master : Master) : Type 0 where
  pub backed : 1 ≤ length master.log.known
  pub few : length (cut master.log.entries) < FIRST_SIDE_SEGMENT

pub few_of : (w : World) (number : ℕ) (master : Master) → IsWellFormed w → bytes_of_logs w < MOST_BYTES → get w.masters number ≡ Some master → HasFew master
few_of w number master formed room found = record {
  backed = omega (arith, formed.backed, (formed.masters number master found).known);
  few =
      let part : log_bytes master ≤ bytes_of_logs w = within_sum_of log_bytes w.masters number master found in
      omega (arith, segments_few master.log (omega (arith, room, part)));
}
