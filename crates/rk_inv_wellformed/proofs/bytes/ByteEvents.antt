-- The bytes of all logs of a lane rise by each event at most threefold, by an entry, and by what the event brings; so they fit after each
-- event that brings few.
use Rattle.std.proofs.Common.{◌≡◌, ◌≤◌, ◌<◌, ◌+◌, ◌*◌, ℕ, Option, None, [], refl, arith}
use Rattle.rk_inv_wellformed.proofs.Words.{Node, Range, Row, Called, backup_step, IsWellFormed, limits_of, Master, log_bytes, new_master}
use Rattle.rk_inv_wellformed.proofs.Words.{tablet_at, master_step, master_turn, MayHappen, MayTurn, comes_anyway, refusal, HasRoom}
use Rattle.rk_inv_wellformed.proofs.Words.{MOST_BYTES, row_split, with_split, Stepped, happened, log_bytes_of, quietly, tablet_added}
use Rattle.rk_inv_wellformed.proofs.Words.{turned, with_added, World, bytes_of_logs, master_at, with_master, Event, LONGEST_LEFT}
use Rattle.rk_inv_wellformed.proofs.Words.{MOST_BROUGHT, brought, brought_by, Role}
use Rattle.rk_inv_wellformed.specs.Brought.{most_after}
use Rattle.rk_inv_wellformed.proofs.bytes.LogBytes.{bytes_with_tablet, unsealed_at_most}
use Rattle.rk_inv_wellformed.proofs.bytes.StepBytes.{split_bytes, told_bytes}
use Rattle.rk_inv_wellformed.proofs.bytes.TurnBytes.{turn_bytes}
use Rattle.rk_inv_wellformed.proofs.lanes.Events.{comes_fresh}
use Rattle.rk_inv_wellformed.proofs.lanes.Works.{delivered_is, split_is}
use Rattle.rk_inv_wellformed.proofs.lanes.Worlds.{formed_limits, master_of}
use Rattle.rk_inv_wellformed.proofs.maps.{either_way, sum_put, within_or, numbered_order}

-- ---- a master changes

-- a master has no more than all of a lane
pub master_below : (w : World) (number : ℕ) → log_bytes (master_at w number) ≤ bytes_of_logs w
master_below w number = within_or log_bytes (new_master number []) refl w.masters number

-- the bytes of one master count in place of those that it had
pub logs_with : (w : World) (number : ℕ) (now : Master) → IsWellFormed w
    → bytes_of_logs (with_master w number now) + log_bytes (master_at w number) ≡ bytes_of_logs w + log_bytes now
logs_with w number now formed =
    sum_put log_bytes (new_master number []) refl w.masters number now (numbered_order w.masters w.coordinator.masters formed.masters_are)

-- as a master rises, so do the logs of the lane
logs_rise : {w : World} (number : ℕ) (now : Master) (more : ℕ) → IsWellFormed w
    → log_bytes now ≤ 3 * log_bytes (master_at w number) + LONGEST_LEFT + more
    → bytes_of_logs (with_master w number now) ≤ 3 * bytes_of_logs w + LONGEST_LEFT + more
logs_rise {w} number now more formed rises = omega (arith, rises, master_below w number, logs_with w number now formed)

-- logs that stay as they are rise no further
stays : (w now : World) (more : ℕ) → bytes_of_logs now ≡ bytes_of_logs w → bytes_of_logs now ≤ 3 * bytes_of_logs w + LONGEST_LEFT + more
stays w now more same = omega (arith, same)

-- ---- a message and a turn

delivered_bytes : {w : World} (number : ℕ) (called : Called) → IsWellFormed w → HasRoom w
    → bytes_of_logs (happened w (Event.Deliver number) called).world ≤ most_after w (Event.Deliver number)
delivered_bytes {w} number called formed room =
    delivered_is w called formed (λ bytes now. bytes_of_logs now ≤ 3 * bytes_of_logs w + LONGEST_LEFT + bytes) (λ bytes. stays w w bytes refl)
    (λ message master there told.
    logs_rise master (master_step (master_at w master) message).master (brought_by (master_at w master) message.body) formed
    (told_bytes (master_at w master) (omega (arith, room.bytes, master_below w master)) (limits_of w) master message.from message.body
    (formed_limits w formed room) (master_of w master there formed) told.says))
    (λ message told. stays w w 0 refl)
    (λ message backup backups there told. either_way (λ (stepped : Stepped). bytes_of_logs stepped.world ≤ 3 * bytes_of_logs w + LONGEST_LEFT + 0)
    (backup_step backup message.from message.body (log_bytes_of w) called).lost (stays w w 0 refl) (stays w w 0 refl))
    number

turned_bytes : {w : World} (node : Node) → MayTurn w.coordinator.masters node → IsWellFormed w
    → bytes_of_logs (turned w node).world ≤ 3 * bytes_of_logs w + LONGEST_LEFT + 0
turned_bytes {w} (Node.Master master) there formed =
    logs_rise master (master_turn (master_at w master)).master 0 formed
    (omega (arith, turn_bytes (master_at w master) (master_of w master there formed).tablets_order))
turned_bytes {w} _ there formed = stays w w 0 refl

-- ---- rows change

added_bytes : {w : World} (tablet : ℕ) (range : Range) (master : ℕ) → IsWellFormed w
    → bytes_of_logs (quietly (tablet_added w tablet range master)).world ≤ 3 * bytes_of_logs w + LONGEST_LEFT + 0
added_bytes {w} tablet range master formed =
    logs_rise master (with_added (master_at w master) tablet range) 0 formed
    (omega (
      arith,
      unsealed_at_most (master_at w master) tablet,
      bytes_with_tablet (master_at w master) tablet
          (record (tablet_at (master_at w master) tablet) {
            handover = record { role = Role.Serving; term = 1; range = range; counter = 1 };
          }),
    ))

split_logs : (w : World) (found : Option Row) (at new : ℕ) → IsWellFormed w
    → bytes_of_logs (row_split w found at new) ≤ 3 * bytes_of_logs w + LONGEST_LEFT + 0
split_logs w found at new formed = split_is (λ now. bytes_of_logs now ≤ 3 * bytes_of_logs w + LONGEST_LEFT + 0) w found at new (stays w w 0 refl)
    (λ row master from there is. logs_rise master (with_split (master_at w master) row.tablet at new (row.term + 1)) 0 formed
    (omega (arith, split_bytes (master_at w master) row.tablet at new (row.term + 1))))

-- ---- every event

-- how many bytes all logs have at most after an event that is not refused
pub bytes_rise : (w : World) (event : Event) (called : Called) → MayHappen w event → refusal w event ≡ None → IsWellFormed w → HasRoom w
    → bytes_of_logs (happened w event called).world ≤ most_after w event
bytes_rise w event called may none formed room =
    grind (arith, added_bytes, delivered_bytes, turned_bytes, split_logs)

-- so they fit after an event that brings few
pub bytes_event : (w : World) (event : Event) (called : Called) → MayHappen w event → refusal w event ≡ None → brought w event ≤ MOST_BROUGHT
    → IsWellFormed w → HasRoom w → bytes_of_logs (happened w event called).world < MOST_BYTES
bytes_event w event called may none few formed room =
    grind (arith, comes_anyway, refusal, brought, bytes_of_logs, happened, comes_fresh, bytes_rise)
