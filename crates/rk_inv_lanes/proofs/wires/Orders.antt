-- What a master makes of each message: what it sends, and the calls that wait then, come to less than the message and the calls before.
use Rattle.std.proofs.Common.{ap, arith, length, refl, ◌<◌, ◌≡◌}
use Rattle.rk_inv_base.proofs.Words.{Body, Call, Master, Message, Node, NumberMap, Worked, call_of, changed, choice_of, copy_taken}
use Rattle.rk_inv_base.proofs.Words.{master_step, order, overreach, peer_message, told_master}
use Rattle.rk_inv_lanes.specs.wires.Emptied.{deliveries_of}
use Rattle.rk_inv_lanes.proofs.masters.Sends.{IsSaid, copy_sends, order_sends, peer_sends}
use Rattle.rk_inv_lanes.proofs.masters.Steps.{copy_has, order_has, peer_has, makes_any}
use Rattle.rk_inv_lanes.proofs.wires.Sends.{Spends, chosen_spends, deliveries_in, one_delivery, same_calls, stored_spends}
use Rattle.rk_inv_lanes.proofs.masters.Changes.{of_lasting}

-- what is sent brings fewer deliveries than the message that is taken
fewer : IsSaid (λ body sends. deliveries_in sends < deliveries_of body)
fewer = grind (arith, one_delivery)

-- if the same calls wait
keeping : (master : Master) (body : Body) (worked : Worked) → deliveries_in worked.sends < deliveries_of body → worked.master.calls ≡ master.calls
    → Spends (deliveries_of body) master worked
keeping master body worked less kept = omega (arith, less, ap (λ (calls : NumberMap Call). length calls) kept)

told_spends : (master : Master) (sender : Node) (body : Body) → Spends (deliveries_of body) master (told_master master sender body)
told_spends master (Node.Client client) (Body.Request request) = grind (arith, chosen_spends, call_of, choice_of, request.tablet)
told_spends master (Node.Client client) body = keeping master body (changed master) (one_delivery body) refl
told_spends master Node.Coordinator body =
    keeping master body (order master body) (order_sends fewer master body) (order_has (of_lasting (same_calls master.calls)) master body
    (makes_any (same_calls master.calls) master Node.Coordinator body) refl)
told_spends master (Node.Master other) body =
    keeping master body (peer_message master (Node.Master other) body) (peer_sends fewer master (Node.Master other) body)
    (peer_has (of_lasting (same_calls master.calls)) master other body (makes_any (same_calls master.calls) master (Node.Master other) body) (λ place none inside. tt) refl)
told_spends master (Node.Backup backup) (Body.Stored stored) =
    stored_spends master backup stored (overreach master.log stored.segment stored.length)
told_spends master (Node.Backup backup) (Body.Copy copy) =
    keeping master (Body.Copy copy) (copy_taken master copy) (copy_sends fewer master copy) (copy_has (of_lasting (same_calls master.calls)) master copy
    (λ awaited. ((λ place none inside. tt), tt)) refl)
told_spends master (Node.Backup backup) body = keeping master body (changed master) (one_delivery body) refl

-- what a master makes of a message
pub master_spends : (master : Master) (message : Message) → Spends (deliveries_of message.body) master (master_step master message)
master_spends master message = told_spends master message.from message.body
