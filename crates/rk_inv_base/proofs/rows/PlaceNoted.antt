-- A row may be turned when the place of a target is noted, if the target waits at it at the row's term.
use Rattle.rk_inv_base.proofs.Words.{arith, ◌≡◌, ℕ, Bool, true, cond, eqb, Some, refl, sym, ap, subst, ◌∙◌, eqb-true, Handover, lineage_of}
use Rattle.rk_inv_base.proofs.Words.{Phase, Opening, Row, names, IsMaster, MayTakePost, MayTurn, Post, InvitedTarget, ReadyTarget}
use Rattle.rk_inv_base.proofs.Words.{OpeningSource, Bystander, post_of, bond_of, Holds, StillCounts, View, SoundView, MayNote}
use Rattle.rk_transfer.specs.declared.role.Role.TheVariants as roles
use Rattle.rk_inv_base.proofs.Base.{IsEarly, none_closes, none_marked, none_rebuilds, SoundRow, row_in}

-- a target that waits at its place, at the row's term, is ready
pub ready_post : (place term : ℕ) (handover : Handover) (applied : ℕ) → handover.role ≡ roles.Wanting place → handover.term ≡ term → MayTakePost InvitedTarget (ReadyTarget place) term term handover applied
ready_post place term handover applied waits at =
    let fits : Holds (bond_of (ReadyTarget place) handover.role) term handover.term applied = rw waits (at, refl) in assumption

module _ (v : View) (row : Row) (source sfrom target place : ℕ) (sound : SoundView v) (may : MayNote v row source sfrom target place) where
  abbrev noted : Phase
  noted = Opening source sfrom target (Some place)

  abbrev TakesPost : ℕ → Post → Post → Type 0
  TakesPost q was is = MayTakePost was is row.term row.term (v.handovers q row.tablet) (v.written q).applied

  -- what a master has fits a post of the row, as it is
  abbrev FitsPost : ℕ → Post → Type 0
  FitsPost q post = Holds (bond_of post (v.handovers q row.tablet).role) row.term (v.handovers q row.tablet).term (v.written q).applied

  its : SoundRow v row
  its = row_in v sound row may.has_row

  named : (q : ℕ) → names noted q ≡ true → IsMaster v.masters q
  named q there = its.nodes q (ap (λ (phase : Phase). names phase q) may.phase_is ∙ there)

  -- only the post of the target is another one
  posts_by : (q : ℕ) (a b : Bool) → eqb target q ≡ b
      → FitsPost q (cond a OpeningSource (cond b InvitedTarget Bystander))
      → TakesPost q (cond a OpeningSource (cond b InvitedTarget Bystander)) (cond a OpeningSource (cond b (ReadyTarget place) Bystander))
  posts_by q a b is fits = grind (arith, its, eqb-true, ready_post)

  posts : (q : ℕ) → StillCounts (v.live q) (v.handovers q row.tablet).term row.term → TakesPost q (post_of row.phase q) (post_of noted q)
  posts q counting = grind (arith, post_of, its, posts_by, eqb)

  early : IsEarly row.phase
  early = subst IsEarly (sym may.phase_is) tt

  pub may_be_noted : MayTurn v row row.term noted
  may_be_noted = grind (arith, lineage_of, its, named, posts, none_closes, early, none_rebuilds, none_marked)
