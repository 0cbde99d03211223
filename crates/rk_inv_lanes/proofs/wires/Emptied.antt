-- A wire from which the oldest message is taken off, again and again, is empty once no delivery is left.
use Rattle.std.proofs.Common.{◌≡◌, ◌≤◌, ◌<◌, ◌+◌, ℕ, List, [], ◌∷◌, length, Some, None, refl, sum_by, arith, subst}
use Rattle.rk_inv_base.proofs.Words.{IsInOrder, NumberMap, get, Message, world_stepped, stepped_by, World}
use Rattle.rk_message.specs.Wire.{number_at}
use Rattle.rk_inv_wellformed.proofs.maps.Maps.{get_first}
use Rattle.rk_inv_lanes.specs.wires.Emptied.{Arrival, arrived, deliveries_left, deliveries_of, emptied, emptied_by, forgotten, taken_off}
use Rattle.rk_inv_lanes.proofs.wires.Sends.{one_delivery}
use Rattle.rk_inv_lanes.proofs.wires.Steps.{arrival_leaves, forgotten_leaves, waiting}
use Rattle.rk_inv_lanes.proofs.wires.Sums.{removed_there, total-cons}
use Rattle.rk_inv_wellformed.proofs.maps.Lists.{by_found}

-- ---- one message is taken off

-- what leaves fewer deliveries beside a message leaves fewer once that is forgotten
pub taken_off_fewer : (w : World) (number : ℕ) (message : Message) (arrival : Arrival) → IsInOrder w.masters → get w.wire.messages number ≡ Some message
    → deliveries_left (taken_off w number arrival) < deliveries_left w
taken_off_fewer w number message arrival order there =
    let left = arrival_leaves w number message arrival order there in
    omega (
      arith,
      left.fewer,
      forgotten_leaves (arrived w number arrival) number,
      removed_there (λ message. deliveries_of message.body) w.wire.messages number message there,
    )

-- the masters are in order still
forgotten_order : (w : World) (number : ℕ) → IsInOrder w.masters → IsInOrder (forgotten w number).masters
forgotten_order w number order = grind (arith, by_found, world_stepped, stepped_by)

pub taken_off_order : (w : World) (number : ℕ) (message : Message) (arrival : Arrival) → IsInOrder w.masters → get w.wire.messages number ≡ Some message
    → IsInOrder (taken_off w number arrival).masters
taken_off_order w number message arrival order there =
    forgotten_order (arrived w number arrival) number ((arrival_leaves w number message arrival order there).order order)

-- ---- the oldest message

-- a message of a number is there
pub record IsThere (messages : NumberMap Message) (number : ℕ) : Type 0 where
  pub message : Message
  pub found : get messages number ≡ Some message

-- the oldest message is there under its number
pub oldest_there : (messages : NumberMap Message) (sent number : ℕ) → number_at 1 (record { messages = messages; sent = sent }) ≡ Some number → IsThere messages number
oldest_there [] sent number oldest = absurd (cc oldest)
oldest_there (here ∷ messages) sent number oldest =
    let same : here.0 ≡ number = cc oldest in
    record { message = here.1; found = subst (λ (n : ℕ). get (here ∷ messages) n ≡ Some here.1) same (get_first here messages) }

-- if no delivery is left, nothing is on the wire
none_oldest : (messages : NumberMap Message) (sent waits : ℕ) → sum_by (λ entry. deliveries_of entry.1.body) messages + waits ≤ 0
    → number_at 1 (record { messages = messages; sent = sent }) ≡ None
none_oldest [] sent waits none = refl
none_oldest (here ∷ messages) sent waits none =
    absurd (omega (arith, one_delivery here.1.body, total-cons (λ message. deliveries_of message.body) here messages))

-- ---- all messages

-- if nothing is on a wire, nothing comes
stays_silent : (arrivals : List Arrival) (w : World) → number_at 1 w.wire ≡ None → number_at 1 (emptied w arrivals).wire ≡ None
stays_silent [] w silent = silent
stays_silent (arrival ∷ arrivals) w silent = grind (arith, (stays_silent arrivals w silent))

-- after as many messages as deliveries were left, nothing is on the wire
pub silent_after : (arrivals : List Arrival) (w : World) → IsInOrder w.masters → deliveries_left w ≤ length arrivals
    → number_at 1 (emptied w arrivals).wire ≡ None
silent_after [] w order few = none_oldest w.wire.messages w.wire.sent (waiting w.masters) few
silent_after (arrival ∷ arrivals) w order few =
    by_found (λ oldest. number_at 1 (emptied (emptied_by w arrival oldest) arrivals).wire ≡ None) (number_at 1 w.wire)
    (stays_silent arrivals w)
    (λ number is.
    let there = oldest_there w.wire.messages w.wire.sent number is in
    silent_after arrivals (taken_off w number arrival) (taken_off_order w number there.message arrival order there.found)
    (omega (arith, few, taken_off_fewer w number there.message arrival order there.found)))
