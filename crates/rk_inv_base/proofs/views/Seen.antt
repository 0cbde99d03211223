-- What rows and messages see of a handover: its term, its range and its role, and of a frozen one its counter.
use Rattle.rk_inv_base.proofs.Words.{arith, ◌≡◌, ℕ, true, both_ways, Member, Range, is_serving, Handover, Role, is_absent, Written}
use Rattle.rk_inv_base.proofs.Words.{member_truth, is_wanting, HasJoined, HasRebuilt, Post, bond_of, Holds, with_counter}
use Rattle.rk_transfer.specs.declared.role.Role.TheVariants as roles

-- a role is to rows and messages what another one was
pub record GoesOn (old new : Role) : Type 0 where
  pub absent : is_absent new ≡ is_absent old
  pub wanting : is_wanting new ≡ is_wanting old
  pub waits : (place : ℕ) → old ≡ roles.Wanting place → new ≡ roles.Wanting place
  pub frozen : old ≡ roles.Frozen → new ≡ roles.Frozen
  pub joined : (applied : ℕ) → HasJoined old applied → HasJoined new applied
  pub rebuilt : (applied place : ℕ) → HasRebuilt old applied place → HasRebuilt new applied place
  pub fits :
      (post : Post) (term own applied : ℕ)
      → Holds (bond_of post old) term own applied → Holds (bond_of post new) term own applied

-- a tablet is seen as another was
pub record LooksAs (old new : Handover) : Type 0 where
  pub term : new.term ≡ old.term
  pub range : new.range ≡ old.range
  pub role : GoesOn old.role new.role
  pub counter : old.role ≡ roles.Frozen → new.counter ≡ old.counter

-- each tablet is seen as it was, as much is applied, and that counts as before
pub record AllLook (written written' : ℕ → Written) (handovers handovers' : ℕ → ℕ → Handover) : Type 0 where
  pub each : (q r : ℕ) → LooksAs (handovers q r) (handovers' q r)
  pub applied : (q : ℕ) → (written' q).applied ≡ (written q).applied
  pub truths : (range : Range) (member : Member) → member_truth written' range member ≡ member_truth written range member

-- a tablet looks as itself
pub looks_same : (handover : Handover) → LooksAs handover handover
looks_same handover = grind (arith, handover.role)

-- a tablet that is served looks the same with another counter
pub counted_looks : (counter : ℕ) (handover : Handover) → is_serving handover.role ≡ true → LooksAs handover (with_counter counter handover)
counted_looks counter handover serves = grind (arith, both_ways, is_serving)
