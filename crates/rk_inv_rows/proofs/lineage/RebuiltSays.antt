-- What is known of a row when the master that rebuilt it owns it: it took another phase at its own term.
use Rattle.std.proofs.Common.{◌≡◌, ℕ, true, eqb, List, Option, Some, sym, ap, ◌∙◌, arith, eq-eqb, eqb-true}
use Rattle.rk_inv_base.proofs.Words.{cond_both, false≢true, Ended, Member, Role, Owned, Rebuilding, Row, Grant, Handed, is_member, or_left}
use Rattle.rk_inv_base.proofs.Words.{is_wanting, GrantIn, HasRebuilt, MayTakeRebuilt, Bystander, FormerMember, Post, Holds, bond_of}
use Rattle.rk_inv_base.proofs.Words.{post_of, rebuilder_post, View, SoundView}
use Rattle.rk_inv_rows.proofs.Words.{row_in}
use Rattle.rk_inv_base.proofs.rows.Heirs.{heir_post}
use Rattle.rk_inv_rows.proofs.lineage.LineageSays.{HasPassed}
use Rattle.rk_transfer.specs.declared.role.Role.TheVariants as roles

-- ---- posts of a row that is rebuilt

-- what holds of the post of the master that rebuilds, and of those of the others, holds of a master's
post_by : (P : Post → Type 0) (lineage : List Member) (to q : ℕ) → (to ≡ q → P (rebuilder_post lineage q)) → P FormerMember → P Bystander → P (post_of (Rebuilding lineage to) q)
post_by P lineage to q here former bystander = grind (arith, cond_both, eqb, rebuilder_post, is_member, eqb-true)

-- a living member is the master that rebuilds
pub member_here : (lineage : List Member) (to q : ℕ) (role : Role) (term own applied : ℕ) → is_member lineage q ≡ true → Holds (bond_of (post_of (Rebuilding lineage to) q) role) term own applied → eqb to q ≡ true
member_here lineage to q role term own applied inside fits = grind (arith, eqb, is_member, bond_of, rebuilder_post)

-- the place that a role records
place_told : (role : Role) (applied one other : ℕ) → HasRebuilt role applied one → HasRebuilt role applied other → one ≡ other
place_told (roles.Rebuilding from (Some entry)) applied one other a b = sym a.1 ∙ b.1
place_told _ applied one other a b = absurd a

module _ (v : View) (row : Row) (lineage : List Member) (to place : ℕ) (ends : List Ended) (sound : SoundView v) (may : MayTakeRebuilt v row lineage to place ends) where
  abbrev terms : ℕ → ℕ
  terms q = (v.handovers q row.tablet).term

  term_here : (q : ℕ) → to ≡ q → terms q ≡ row.term
  term_here q is = ap terms (sym is) ∙ may.term_is

  rebuilt_here : (q : ℕ) → to ≡ q → HasRebuilt (v.handovers q row.tablet).role (v.written q).applied place
  rebuilt_here q is = rw (← is) may.rebuilt

  -- a Grant is taken by no living member: that one rebuilt
  none_granted : (q : ℕ) (given : Option Handed) (grant : Grant) → v.live q ≡ true → is_wanting (v.handovers q row.tablet).role ≡ true → GrantIn lineage given q grant → ⊥
  none_granted q given grant lives wants granted =
      grind (arith, bond_of, post_of, row_in, member_here, rebuilt_here, eqb-true, false≢true, eqb, eq-eqb)

  pub rebuilt_passes : HasPassed v row row.phase (Owned to place)
  rebuilt_passes = grind (arith, or_left, eqb, is_member, post_by, heir_post, term_here, none_granted, place_told, rebuilt_here, eqb-true)
