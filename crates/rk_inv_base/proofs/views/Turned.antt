-- A view in which one master has another tablet of a number than it had: what holds of each tablet.
use Rattle.rk_inv_base.proofs.Words.{arith, ◌≡◌, ℕ, cases_eq, Tablet, View, tablet_seen}

-- this master has this of the number now, and all others have what they had
pub record IsTurned (v now : View) (master number : ℕ) (tablet : Tablet) : Type 0 where
  pub here : (q r : ℕ) → q ≡ master → r ≡ number → tablet_seen now q r ≡ tablet
  pub apart : (q r : ℕ) → (q ≡ master → r ≡ number → ⊥) → tablet_seen now q r ≡ tablet_seen v q r

module _ (v now : View) (master number : ℕ) (tablet : Tablet) (turned : IsTurned v now master number tablet) where
  -- what holds of the tablet at its master, and of each other one as it was, holds of all
  pub of_tablet : (P : ℕ → ℕ → Tablet → Type 0) (q r : ℕ) → P master number tablet → ((q ≡ master → r ≡ number → ⊥) → P q r (tablet_seen v q r)) → P q r (tablet_seen now q r)
  of_tablet P q r here was = grind (arith, cases_eq)
