-- What the coordinator and a backup send when they take a message brings fewer deliveries than the message; and a message whose stamp and
-- place are filled in brings as many as before.
use Rattle.std.proofs.Common.{◌≡◌, ◌<◌, ℕ, List, [], ◌∷◌, map, Option, Some, None, refl, arith}
use Rattle.rk_inv_base.proofs.Words.{sum_by-cons, Placed, Node, Row, Body, Message, ReadSegment, Append, Appended, Called, backup_step}
use Rattle.rk_inv_base.proofs.Words.{Coordinator, coordinator_step, located, filled, Served}
use Rattle.rk_world.specs.Backup.{append_step, master_message, read_step}
use Rattle.rk_world.specs.Replies.{filled_body}
use Rattle.rk_inv_lanes.specs.wires.Emptied.{deliveries_of}
use Rattle.rk_inv_lanes.proofs.lanes.Reports.{IsMade, told_made}
use Rattle.rk_inv_lanes.proofs.wires.Sends.{deliveries_in, one_delivery}

-- ---- the coordinator

located_less : (sender : Node) (row : Option Row) → deliveries_in (located sender row) < 2
located_less sender None = omega arith
located_less sender (Some row) = omega arith

less : (coordinator : Coordinator) → IsMade (λ body taken. deliveries_in taken.sends < deliveries_of body) coordinator
less coordinator = record {
  silent = one_delivery;
  locates = λ lookup sender row. located_less sender row;
  notes = λ message row source sfrom target. omega arith;
  moves = λ message row source sfrom target dfrom. omega arith;
  joins = λ tenure row source target dfrom heard. omega arith;
  joins_again = λ tenure row master. omega arith;
  rebuilds = λ message row to heard. omega arith;
  rebuilds_again = λ message row master. omega arith;
}

-- what the coordinator makes of a message
pub coordinator_less : (coordinator : Coordinator) (message : Message)
    → deliveries_in (coordinator_step coordinator message).sends < deliveries_of message.body
coordinator_less coordinator message = told_made (less coordinator) message.from message.body

-- ---- a backup

append_less : (backup master : ℕ) (append : Append) (called : Called) → deliveries_in (append_step backup master append called).sends < 2
append_less backup master append (Appended length) = omega arith
append_less backup master append _ = omega arith

read_less : (backup master : ℕ) (read : ReadSegment) (log : ℕ → ℕ → List ℕ) (called : Called) → deliveries_in (read_step backup master read log called).sends < 2
read_less backup master read log (Appended length) = omega arith
read_less backup master read log _ = omega arith

message_less : (backup master : ℕ) (body : Body) (log : ℕ → ℕ → List ℕ) (called : Called)
    → deliveries_in (master_message backup master body log called).sends < deliveries_of body
message_less backup master (Body.Append append) log called = append_less backup master append called
message_less backup master (Body.Read read) log called = read_less backup master read log called
message_less backup master body log called = one_delivery body

-- what a backup makes of a message
pub backup_less : (backup : ℕ) (sender : Node) (body : Body) (log : ℕ → ℕ → List ℕ) (called : Called)
    → deliveries_in (backup_step backup sender body log called).sends < deliveries_of body
backup_less backup (Node.Master master) body log called = message_less backup master body log called
backup_less backup _ body log called = one_delivery body

-- ---- stamps and places

module _ (journal : List Placed) (served : List Served) where
  filled_same : (to : Node) (body : Body) → deliveries_of (filled_body journal served to body) ≡ deliveries_of body
  filled_same (Node.Client client) (Body.Reply reply) = refl
  filled_same _ body = refl

  pub all_filled_same : (messages : List Message) → deliveries_in (map (filled journal served) messages) ≡ deliveries_in messages
  all_filled_same [] = refl
  all_filled_same (message ∷ messages) =
      omega (
        arith,
        filled_same message.to message.body,
        all_filled_same messages,
        sum_by-cons (λ (message : Message). deliveries_of message.body) message messages,
        sum_by-cons (λ (message : Message). deliveries_of message.body) (filled journal served message) (map (filled journal served) messages),
      )
