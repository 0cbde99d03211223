-- Calls that are tested to be one are one, and what an accepted record of a call is by the test.
use Rattle.std.proofs.Common.{arith, ◌≡◌, ◌==◌, ◌&&◌, ℕ, true, List, Contains, bytes_eq, eq-eqb, eqb-true}
use Rattle.rk_inv_base.proofs.Words.{and_from, and_parts, Any-from_list_any, list_any_at, bytes_eq-Decides, Call, Placed, is_call}
use Rattle.rk_inv_base.proofs.Words.{is_accepted, is_of_call, IsAccepted}

-- calls that are tested to be one are one
pub same_call : (a b : Call) → is_call a b ≡ true → a ≡ b
same_call a b is = grind (arith, and_parts, bytes_eq, eqb-true, bytes_eq-Decides)

-- an accepted record that the test finds
pub record IsFound (journal : List Placed) (client seq : ℕ) : Type 0 where
  pub placed : Placed
  pub stands : Contains journal placed
  pub accepted : placed.accepted ≡ true
  pub client_is : placed.call.client ≡ client
  pub seq_is : placed.call.seq ≡ seq

pub found_accepted : (journal : List Placed) (client seq : ℕ) → is_accepted journal client seq ≡ true → IsFound journal client seq
found_accepted journal client seq is =
    let found = Any-from_list_any (λ (placed : Placed). placed.accepted && is_of_call client seq placed) journal is in
    let parts = and_parts found.1.accepted (is_of_call client seq found.1) found.4 in
    let of = and_parts (found.1.call.client == client) (found.1.call.seq == seq) parts.1 in
    record {
      placed = found.1;
      stands = (found.0, found.2, found.3);
      accepted = parts.0;
      client_is = eqb-true found.1.call.client client of.0;
      seq_is = eqb-true found.1.call.seq seq of.1;
    }

-- the test finds an accepted record of a call
pub accepted_found : (journal : List Placed) (call : Call) → IsAccepted journal call → is_accepted journal call.client call.seq ≡ true
accepted_found journal call it = grind (arith, list_any_at, is_of_call, and_from, eq-eqb)
