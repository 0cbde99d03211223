-- Steady roles: what a master in one of them does not do, and what its post says of its term.
use Rattle.rk_inv_base.proofs.Words.{◌≡◌, ℕ, ◌<◌, ◌≤◌, true, false, List, ◌⊎◌, arith, IfSome, ltb-true, lt-ltb, Member, Handover, Role}
use Rattle.rk_inv_base.proofs.Words.{Rebuilding, is_idle, may_have_staged, Post, post_of, bond_of, Holds, is_granted, wanted_place}
use Rattle.rk_inv_base.proofs.Words.{has_all_items, is_steady}
use Rattle.rk_transfer.specs.declared.role.Role.TheVariants as roles
use Rattle.rk_inv_base.proofs.rows.Heirs.{not_begun}
pub use Rattle.rk_inv_base.proofs.rows.Heirs.{IsHeir, heir_post}

-- and was given none
pub steady_granted : (role : Role) → is_steady role ≡ true → is_granted role ≡ false
steady_granted role steady = grind arith

-- so it has no place
pub steady_place : (role : Role) (P : ℕ → Type 0) → is_steady role ≡ true → IfSome (wanted_place role) P
steady_place (roles.Wanting from) P steady = absurd (cc)
steady_place role P steady = tt

-- a role in which nothing may be staged is idle
pub idle_or_staged : (role : Role) → (is_idle role ≡ true) ⊎ (may_have_staged role ≡ true)
idle_or_staged role = grind arith

pub rebuilding_behind : (lineage : List Member) (master : ℕ) (role : Role) (term own applied : ℕ) → is_steady role ≡ true → Holds (bond_of (post_of (Rebuilding lineage master) master) role) term own applied → own < term
rebuilding_behind lineage master role term own applied steady holds = grind (arith, not_begun)

-- whether records have all of a tablet is seen from the post, and from a term below the row's
pub all_items_before : (post : Post) (old new : Handover) (term : ℕ) → old.term ≤ new.term → has_all_items post new term ≡ true → has_all_items post old term ≡ true
all_items_before post old new term grows has = grind (arith, lt-ltb, ltb-true)
