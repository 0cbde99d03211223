-- Masters that are not of a row's lineage: what they may have of the tablet below the row's term, and what it may become.
use Rattle.std.proofs.Common.{◌≡◌, ℕ, ◌<◌, ◌≤◌, Bool, true, false, List, ◌∷◌, eqb, refl, arith, nat_lt, eq-eqb, [], ne_eqb}
use Rattle.rk_inv_base.proofs.Words.{both_ways, cases_eq, cond-true, false≢true, or_left, or_right, nat_tests, Member, is_serving, Handover}
use Rattle.rk_inv_base.proofs.Words.{Role, Rebuilding, is_member, is_idle, is_rebuilding, Post, InvitedTarget, OnlyRebuilder}
use Rattle.rk_inv_base.proofs.Words.{FirstRebuilder, LastRebuilder, OutsideRebuilder, rebuilder_post, post_of, bond_of, Holds, speaks}
use Rattle.rk_inv_base.proofs.Words.{has_all_items, cond-false, View, Row}
use Rattle.rk_inv_tablets.proofs.Words.{IsOutside, heir_outside, IsHeir, heir_post, SoundRow, former_never}
use Rattle.rk_transfer.specs.declared.role.Role.TheVariants as roles

-- ---- members of a lineage

pub first_member : (source : Member) (more : List Member) → is_member (source ∷ more) source.master ≡ true
first_member source more = or_left (eqb source.master source.master) (is_member more source.master) (eq-eqb source.master source.master refl)

pub second_member : (source target : Member) (more : List Member) → is_member (source ∷ target ∷ more) target.master ≡ true
second_member source target more =
    or_right (eqb source.master target.master) (is_member (target ∷ more) target.master) (first_member target more)

-- a member that another one rebuilds beside keeps no term of the row
pub former_behind : (v : View) (x : Row) → SoundRow v x → (lineage : List Member) (to q : ℕ) → x.phase ≡ Rebuilding lineage to → is_member lineage q ≡ true → (to ≡ q → ⊥) → (v.handovers q x.tablet).term ≡ x.term → ⊥
former_behind v x was lineage to q is member away term =
    grind (arith, post_of, cond-false, rebuilder_post, is_member, ne_eqb, cond-true, former_never, bond_of)

-- ---- quiet roles

-- whether a master in this role does nothing for a tablet, or waits for it
abbrev pub is_quiet : Role → Bool
is_quiet roles.Absent = true
is_quiet (roles.Wanting from) = true
is_quiet role = false

-- what a master that rebuilds a row is to it
pub rebuilder_is : (lineage : List Member) (master : ℕ) → post_of (Rebuilding lineage master) master ≡ rebuilder_post lineage master
rebuilder_is lineage master = grind (arith, cond-true, eqb, rebuilder_post, is_member, eq-eqb)

-- what the only member of a lineage is to its row, and what the first and the last of two are
pub only_post : (only : Member) (q : ℕ) → only.master ≡ q → rebuilder_post (only ∷ []) q ≡ OnlyRebuilder only.from
only_post only q here = cond-true (eqb only.master q) (OnlyRebuilder only.from) OutsideRebuilder (eq-eqb only.master q here)

pub first_post : (first last : Member) (q : ℕ) → first.master ≡ q → rebuilder_post (first ∷ last ∷ []) q ≡ FirstRebuilder first.from
first_post first last q here = grind (arith, cond-true, eqb, eq-eqb)

pub last_post : (first last : Member) (q : ℕ) → (first.master ≡ q → ⊥) → last.master ≡ q → rebuilder_post (first ∷ last ∷ []) q ≡ LastRebuilder last.from
last_post first last q apart here = grind (arith, cond-false, eqb, ne_eqb, cond-true, eq-eqb)

pub quiet_behind : (lineage : List Member) (master : ℕ) (role : Role) (term own applied : ℕ) → is_member lineage master ≡ false → is_quiet role ≡ true → Holds (bond_of (post_of (Rebuilding lineage master) master) role) term own applied → own < term
quiet_behind lineage master role term own applied outside quiet holds = grind (arith, rebuilder_post, heir_outside, heir_post, rebuilder_is)

-- ---- at a smaller term than the row's

-- such a master, at a smaller term than the row's, has nothing staged
pub outside_idle : (post : Post) (role : Role) (term own applied : ℕ) → IsOutside post → own < term → Holds (bond_of post role) term own applied → is_idle role ≡ true
outside_idle post role term own applied outside below holds = grind arith

-- it may give the tablet up
pub outside_absent : (post : Post) (role : Role) (term own applied : ℕ) → IsOutside post → own < term → Holds (bond_of post role) term own applied → Holds (bond_of post roles.Absent) term own applied
outside_absent post role term own applied outside below holds = grind arith

-- and wait for it, at the row's term only if the row asks it to
pub outside_wants : (post : Post) (role : Role) (from term own new applied : ℕ) → IsOutside post → own < term → new ≤ term → (new ≡ term → post ≡ InvitedTarget) → Holds (bond_of post role) term own applied → Holds (bond_of post (roles.Wanting from)) term new applied
outside_wants post role from term own new applied outside below within asked holds = grind (arith, cases_eq)

-- ---- a master that begins to rebuild a row, at the row's term

at_least : (own term : ℕ) → own ≡ term → nat_lt own term ≡ false
at_least own term is = grind (arith, nat_tests)

-- it answers for nothing
pub begun_silent : (post : Post) (handover : Handover) (term : ℕ) → IsHeir post → is_serving handover.role ≡ false → handover.term ≡ term → speaks post handover term ≡ true → ⊥
begun_silent post handover term heir idle at says = grind (arith, is_serving, is_rebuilding, nat_lt, at_least, both_ways)

-- and is not said to have all items
pub begun_lacks : (post : Post) (handover : Handover) (term : ℕ) → IsHeir post → handover.term ≡ term → has_all_items post handover term ≡ true → ⊥
begun_lacks post handover term heir at has = grind (arith, both_ways, nat_lt, at_least, false≢true)
