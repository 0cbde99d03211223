-- Posts of the members of a lineage: whoever has one is a member, and so whoever is none has another.
use Rattle.rk_inv_base.proofs.Words.{arith, ◌≡◌, ℕ, Bool, true, false, cond, ◌||◌, ◌==◌, List, Option, refl, false≢true, Member}
use Rattle.rk_inv_base.proofs.Words.{lineage_of, Phase, Owned, Opening, Moving, Rebuilding, is_member, Post, Bystander, InvitedTarget}
use Rattle.rk_inv_base.proofs.Words.{OutsideRebuilder, Owner, ReadyTarget, post_of, rebuilder_post, target_post}

-- posts of members
abbrev pub is_inside : Post → Bool
is_inside InvitedTarget = false
is_inside (ReadyTarget place) = false
is_inside OutsideRebuilder = false
is_inside Bystander = false
is_inside _ = true

-- a master with the post of a member, by the tests that decide its post: it is the first member, or has another post
pub inside_first : (first others : Bool) (one other : Post) → (is_inside other ≡ true → others ≡ true) → is_inside (cond first one other) ≡ true → (first || others) ≡ true
inside_first true others one other gives is = refl
inside_first false others one other gives is = gives is

pub inside_heir : (lineage : List Member) (master : ℕ) → is_inside (rebuilder_post lineage master) ≡ true → is_member lineage master ≡ true
inside_heir lineage master = grind (arith, inside_first, is_member, false≢true)

pub inside_target : (target : Bool) (place : Option ℕ) → is_inside (cond target (target_post place) Bystander) ≡ true → false ≡ true
inside_target target place is = grind arith

-- whoever has such a post is a member
pub inside_member : (phase : Phase) (master : ℕ) → is_inside (post_of phase master) ≡ true → is_member (lineage_of phase) master ≡ true
inside_member (Owned owner from) master = inside_first (owner == master) false (Owner from) Bystander (λ is. is)
inside_member (Opening source sfrom target dfrom) master = grind (arith, inside_first, target_post, inside_target)
inside_member (Moving source sfrom target dfrom) master = grind (arith, inside_first)
inside_member (Rebuilding lineage to) master = grind (arith, is_member, inside_heir, rebuilder_post)
