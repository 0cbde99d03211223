-- A master that gathers for a tablet is the one that rebuilds its row, and keeps the row's term.
use Rattle.std.proofs.Common.{◌≡◌, ℕ, true, List, Option, Some, None, refl, arith, eqb-true}
use Rattle.rk_inv_base.proofs.Words.{cond_both, false≢true, Member, Role, Phase, Rebuilding, is_member, is_gathering, Post, bond_of}
use Rattle.rk_inv_base.proofs.Words.{post_of, rebuilder_post, target_post, Holds}
use Rattle.rk_inv_tablets.proofs.Words.{GoesOn}
use Rattle.rk_transfer.specs.declared.role.Role.TheVariants as roles

-- a role that gathers knows its place, and has no closing entry
pub gathers_from : (role : Role) → is_gathering role ≡ true → (from : ℕ) × (role ≡ roles.Rebuilding from None)
gathers_from (roles.Rebuilding from None) gathers = (from, refl)
gathers_from _ gathers = absurd (false≢true gathers)

-- ---- posts

module _ (term own applied from : ℕ) where
  -- a master with this post gathers
  abbrev Gathers : Post → Type 0
  Gathers post = Holds (bond_of post (roles.Rebuilding from None)) term own applied

  -- and is at the row's term
  pub at_term : (post : Post) → Gathers post → own ≡ term
  at_term post holds = grind arith

  of_target : (dfrom : Option ℕ) → Gathers (target_post dfrom) → ⊥
  of_target None holds = holds
  of_target (Some place) holds = holds

  -- so the row is rebuilt by it
  pub gathering_rebuilds : (phase : Phase) (q : ℕ) → Gathers (post_of phase q) → (lineage : List Member) × (phase ≡ Rebuilding lineage q)
  gathering_rebuilds phase q holds = grind (arith, target_post, of_target, cond_both, rebuilder_post, is_member, eqb-true)

-- for rows and messages it goes on as it was
pub merged_goes_on : (from place : ℕ) → GoesOn (roles.Rebuilding from None) (roles.Rebuilding from (Some place))
merged_goes_on from place = grind arith
