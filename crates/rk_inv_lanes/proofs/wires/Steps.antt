-- A message that arrives leaves fewer deliveries, in whatever state its lane is.
use Rattle.std.proofs.Common.{List, None, Option, Some, [], arith, fold, length, ℕ, ◌+◌, ◌<◌, ◌∷◌, ◌≡◌, ◌≤◌}
use Rattle.rk_inv_base.proofs.Words.{Backed, Body, Called, Event, IsInOrder, Master, Message, Node, NumberMap, Segments, Session, Stepped}
use Rattle.rk_inv_base.proofs.Words.{Traffic, World, backed_at, backup_step, coordinator_step, delivered_to, get, is_backup, log_bytes_of}
use Rattle.rk_inv_base.proofs.Words.{master_at, refusal, remove, stepped_by, stored_after, sum_by-cons, to_backup, to_coordinator}
use Rattle.rk_inv_base.proofs.Words.{to_master, with_coordinator, with_ledger, with_master, with_message, with_rebuilt, with_stored_by}
use Rattle.rk_inv_base.proofs.Words.{world_stepped}
use Rattle.rk_types.proofs.NumberMaps.{in_order_insert}
use Rattle.rk_inv_wellformed.proofs.maps.MapSums.{sum_inserted}
use Rattle.rk_inv_lanes.specs.wires.Emptied.{Accepts, Arrival, Delivers, Loses, arrived, deliveries_left, deliveries_of, forgotten}
use Rattle.rk_inv_lanes.proofs.wires.Answers.{all_filled_same, backup_less, coordinator_less}
use Rattle.rk_inv_lanes.proofs.wires.Orders.{master_spends}
use Rattle.rk_inv_lanes.proofs.wires.Sends.{deliveries_in, one_delivery}
use Rattle.rk_inv_lanes.proofs.wires.Sums.{removed_inserted, removed_none, total}
use Rattle.rk_inv_wellformed.proofs.maps.Lists.{by_found, either_way}
use Rattle.rk_inv_lanes.proofs.lanes.Visits.{accept_covered}

-- ---- what is left

-- the deliveries that a message on the wire brings
abbrev brought : Message → ℕ
brought message = deliveries_of message.body

-- the deliveries that are left but for those of one message
abbrev pub others_on : Traffic → ℕ → ℕ
others_on wire number = total brought (remove wire.messages number)

-- how many calls wait at masters
abbrev pub waiting : NumberMap Master → ℕ
waiting masters = total (λ (master : Master). length master.calls) masters

-- once a message is forgotten, those of the others are left
pub forgotten_leaves : (w : World) (number : ℕ) → deliveries_left (forgotten w number) ≡ others_on w.wire number + waiting w.masters
forgotten_leaves w number = grind (arith, by_found, world_stepped, stepped_by, removed_none)

-- ---- messages that are sent

-- they bring no more than their deliveries
sent_brings : (number : ℕ) (messages : List Message) (wire : Traffic)
    → others_on (fold (λ now message. with_message message now) wire messages) number ≤ others_on wire number + deliveries_in messages
sent_brings number [] wire = omega arith
sent_brings number (message ∷ messages) wire =
    omega (
      arith,
      sent_brings number messages (with_message message wire),
      removed_inserted brought wire.messages (wire.sent + 1) message number,
      sum_by-cons brought message messages,
    )

-- ---- what a delivery leaves

-- beside one message, fewer deliveries are left than that message brought and were left before; and the masters stay in order
pub record LeavesFewer (w : World) (number brings : ℕ) (now : World) : Type 0 where
  pub fewer : others_on now.wire number + waiting now.masters < brings + (others_on w.wire number + waiting w.masters)
  pub order : IsInOrder w.masters → IsInOrder now.masters

-- if nothing was sent, and no more calls wait
same_leaves : (w : World) (number : ℕ) (body : Body) → LeavesFewer w number (deliveries_of body) w
same_leaves w number body = record { fewer = omega (arith, one_delivery body); order = λ order. order }

-- ---- at each receiver

coordinator_leaves : {w : World} {number : ℕ} (message : Message) → LeavesFewer w number (deliveries_of message.body) (to_coordinator w message).world
coordinator_leaves {w} {number} message =
    grind (arith, coordinator_step, with_ledger, with_coordinator, with_rebuilt, coordinator_less, sent_brings)

-- with a master in its place, its calls are counted in place of those that waited there
waiting_with : (w : World) (number : ℕ) (master : Master) → IsInOrder w.masters
    → waiting (with_master w number master).masters + length (master_at w number).calls ≡ waiting w.masters + length master.calls
waiting_with w number master order = grind (arith, sum_inserted)

master_leaves : {w : World} {number : ℕ} (master : ℕ) (message : Message) → IsInOrder w.masters
    → LeavesFewer w number (deliveries_of message.body) (to_master w master message).world
master_leaves {w} {number} master message order =
    grind (arith, master_spends, sent_brings, all_filled_same, waiting_with, in_order_insert)

-- a backup has worked
backed_leaves : (w : World) (number : ℕ) (body : Body) (backed : Backed) → deliveries_in backed.sends < deliveries_of body
    → LeavesFewer w number (deliveries_of body) (backed_at w backed).world
backed_leaves w number body backed less = grind (arith, either_way, same_leaves, sent_brings)

-- whatever it stores then
stored_leaves : {w : World} {number : ℕ} (backup : ℕ) (body : Body) (store : Segments → Segments) (stored : Option Segments) (backed : Backed)
    → deliveries_in backed.sends < deliveries_of body
    → LeavesFewer w number (deliveries_of body) (backed_at (with_stored_by w backup store stored) backed).world
stored_leaves {w} {number} backup body store None backed less = backed_leaves w number body backed less
stored_leaves {w} {number} backup body store (Some segments) backed less =
    let left = backed_leaves (with_stored_by w backup store (Some segments)) number body backed less in
    record { fewer = left.fewer; order = left.order }

backup_leaves : {w : World} {number : ℕ} (backup : ℕ) (sender : Node) (body : Body) (called : Called)
    → LeavesFewer w number (deliveries_of body) (to_backup w backup sender body called).world
backup_leaves {w} {number} backup sender body called =
    either_way (λ (stepped : Stepped). LeavesFewer w number (deliveries_of body) stepped.world) (is_backup w backup)
    (stored_leaves backup body (λ segments. stored_after segments sender body called) (get w.backups backup)
    (backup_step backup sender body (log_bytes_of w) called) (backup_less backup sender body (log_bytes_of w) called))
    (record { fewer = (same_leaves w number body).fewer; order = λ order. order })

-- ---- an arrival

receiver_leaves : (w : World) (number : ℕ) (message : Message) (to : Node) (called : Called) → IsInOrder w.masters
    → LeavesFewer w number (deliveries_of message.body) (delivered_to w message to called).world
receiver_leaves w number message (Node.Client client) called order = grind (arith, same_leaves, message.body)
receiver_leaves w number message Node.Coordinator called order = coordinator_leaves message
receiver_leaves w number message (Node.Master master) called order = master_leaves master message order
receiver_leaves w number message (Node.Backup backup) called order = backup_leaves backup message.from message.body called

-- the message of a number is delivered, unless that is refused
delivery_leaves : {w : World} {number : ℕ} (message : Message) (called : Called) → IsInOrder w.masters
    → get w.wire.messages number ≡ Some message
    → LeavesFewer w number (deliveries_of message.body) (arrived w number (Delivers called))
delivery_leaves {w} {number} message called order there =
    by_found (λ why. LeavesFewer w number (deliveries_of message.body) (world_stepped w (stepped_by w (Event.Deliver number) called why)))
    (refusal w (Event.Deliver number)) (λ none. rw there (receiver_leaves w number message message.to called order))
    (λ error is. same_leaves w number message.body)

-- a client takes it, unless that is refused: nothing is sent, and no more calls wait
accepted_leaves : {w : World} {number : ℕ} (session : Session) (body : Body)
    → LeavesFewer w number (deliveries_of body) (arrived w number (Accepts session))
accepted_leaves {w} {number} session body = grind (arith, same_leaves, accept_covered)

-- a message arrives
pub arrival_leaves : (w : World) (number : ℕ) (message : Message) (arrival : Arrival) → IsInOrder w.masters
    → get w.wire.messages number ≡ Some message → LeavesFewer w number (deliveries_of message.body) (arrived w number arrival)
arrival_leaves w number message (Delivers called) order there = delivery_leaves message called order there
arrival_leaves w number message (Accepts session) order there = accepted_leaves session message.body
arrival_leaves w number message Loses order there = same_leaves w number message.body
