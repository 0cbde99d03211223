-- Nothing is seen of a client that comes and has asked nothing.
use Rattle.rk_inv_base.proofs.Words.{arith, ◌≡◌, ℕ, None, unwrap_or, cases_eq, get_same, get_other, Ledger, asked_by, with_client, World}
use Rattle.rk_inv_base.proofs.Words.{view, client_come}

-- a client that comes has asked nothing, and had asked nothing
pub asked_same : (ledger : Ledger) (client : ℕ) → asked_by ledger client ≡ None → (q : ℕ) → asked_by (with_client ledger client) q ≡ asked_by ledger q
asked_same ledger client new q = grind (arith, unwrap_or, get_same, asked_by, get_other, cases_eq)

pub view_come : (w : World) (client : ℕ) → asked_by w.ledger client ≡ None → view (client_come w client) ≡ view w
view_come w client new i = record (view w) { asked = λ q. asked_same w.ledger client new q i }
