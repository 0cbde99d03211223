-- What is seen of the masters of a world once one of them is another.
use Rattle.rk_inv_base.proofs.Words.{arith, [], ◌≡◌, ℕ, Option, refl, ap, unwrap_or, cases_eq, get_same, get_other, Master, new_master}
use Rattle.rk_inv_base.proofs.Words.{tablet_at, with_tablet, Tablet, no_tablet, World, master_at, tablet_in, with_master, put2}
use Rattle.rk_inv_base.proofs.views.Put.{put2_by}

-- the master that was put
pub master_same : (w : World) (number : ℕ) (master : Master) (q : ℕ) → q ≡ number → master_at (with_master w number master) q ≡ master
master_same w number master q is = ap (λ (o : Option Master). unwrap_or o (new_master q [])) (get_same w.masters number master q is)

-- each other one
pub master_other : (w : World) (number : ℕ) (master : Master) (q : ℕ) → (q ≡ number → ⊥) → master_at (with_master w number master) q ≡ master_at w q
master_other w number master q apart =
    ap (λ (o : Option Master). unwrap_or o (new_master q [])) (get_other w.masters number master q apart)

-- what is the same of the master that was put is the same of all
pub same_of_each : {X : Type 0} (f : ℕ → Master → X) (w : World) (number : ℕ) (master : Master) → f number master ≡ f number (master_at w number) → (q : ℕ) → f q (master_at (with_master w number master) q) ≡ f q (master_at w q)
same_of_each {X} f w number master same q = grind (arith, master_same, master_at, master_other, cases_eq)

pub same_of_all : {X : Type 0} (f : ℕ → Master → X) (w : World) (number : ℕ) (master : Master) → f number master ≡ f number (master_at w number) → ◌≡◌ {A = ℕ → X} (λ q. f q (master_at (with_master w number master) q)) (λ q. f q (master_at w q))
same_of_all f w number master same i q = same_of_each f w number master same q i

-- the tablet that a master keeps now, and its others
pub tablet_here : (master : Master) (number : ℕ) (tablet : Tablet) → tablet_at (with_tablet master number tablet) number ≡ tablet
tablet_here master number tablet =
    ap (λ (o : Option Tablet). unwrap_or o no_tablet) (get_same master.tablets number tablet number refl)

pub tablet_apart : (master : Master) (number : ℕ) (tablet : Tablet) (other : ℕ) → (other ≡ number → ⊥) → tablet_at (with_tablet master number tablet) other ≡ tablet_at master other
tablet_apart master number tablet other apart =
    ap (λ (o : Option Tablet). unwrap_or o no_tablet) (get_other master.tablets number tablet other apart)

-- what is seen of the tablets of a world in which one master keeps another tablet of a number
module _ (w : World) (master number : ℕ) (changed : Master) (tablet : Tablet) (here : tablet_at changed number ≡ tablet) (apart : (r : ℕ) → (r ≡ number → ⊥) → tablet_at changed r ≡ tablet_in w master r) where
  pub keeps_with : {X : Type 0} (f : Tablet → X) (q r : ℕ) → f (tablet_in (with_master w master changed) q r) ≡ put2 (λ q r. f (tablet_in w q r)) master number (f tablet) q r
  keeps_with {X} f q r = grind (arith, put2_by, tablet_in, with_master, tablet_at, master_same, master_other, cases_eq)
