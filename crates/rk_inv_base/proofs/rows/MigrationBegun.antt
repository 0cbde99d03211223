-- A row that is owned may be turned when it begins to move to another master that is there, at the next term.
use Rattle.rk_inv_base.proofs.Words.{◌≡◌, ℕ, ◌+◌, Bool, true, cond, eqb, None, sym, ap, subst, ◌∙◌, ⊎_elim, arith, eqb-true, or_cases, Role}
use Rattle.rk_inv_base.proofs.Words.{lineage_of, Phase, Opening, Row, names, IsMaster, MayTakePost, MayTurn, Post, Owner, OpeningSource}
use Rattle.rk_inv_base.proofs.Words.{InvitedTarget, Bystander, post_of, bond_of, Holds, StillCounts, View, SoundView, MayMigrate}
use Rattle.rk_inv_base.proofs.Base.{IsEarly, at_most, counted_before, none_closes, none_marked, none_rebuilds, SoundRow, row_in}

-- ---- posts at the next term

-- an owner may open the tablet
pub owner_fits : (role : Role) (place term own applied : ℕ) → Holds (bond_of (Owner place) role) term own applied → Holds (bond_of OpeningSource role) (term + 1) own applied
owner_fits role place term own applied fits = grind arith

pub bystander_stays : (role : Role) (term own applied : ℕ) → Holds (bond_of Bystander role) term own applied → Holds (bond_of Bystander role) (term + 1) own applied
bystander_stays role term own applied fits = grind arith

module _ (v : View) (row : Row) (to : ℕ) (sound : SoundView v) (may : MayMigrate v row to) where
  abbrev opening : Phase
  opening = Opening may.owner may.from to None

  abbrev TakesPost : ℕ → Post → Post → Type 0
  TakesPost q was is = MayTakePost was is row.term (row.term + 1) (v.handovers q row.tablet) (v.written q).applied

  -- what a master has fits a post of the row, as it is
  abbrev FitsPost : ℕ → Post → Type 0
  FitsPost q post = Holds (bond_of post (v.handovers q row.tablet).role) row.term (v.handovers q row.tablet).term (v.written q).applied

  its : SoundRow v row
  its = row_in v sound row may.has_row

  named : (q : ℕ) → names opening q ≡ true → IsMaster v.masters q
  named q there =
      ⊎_elim
      (λ (owns : eqb may.owner q ≡ true).
      its.nodes q (ap (λ (phase : Phase). names phase q) may.phase_is ∙ owns))
      (λ (takes : eqb to q ≡ true). subst (IsMaster v.masters) (eqb-true to q takes) may.there)
      (or_cases (eqb may.owner q) (eqb to q) there)

  posts_by : (q : ℕ) (a b : Bool) → FitsPost q (cond a (Owner may.from) Bystander)
      → TakesPost q (cond a (Owner may.from) Bystander) (cond a OpeningSource (cond b InvitedTarget Bystander))
  posts_by q a b fits = grind (arith, owner_fits, bystander_stays)

  posts : (q : ℕ) → StillCounts (v.live q) (v.handovers q row.tablet).term (row.term + 1) → TakesPost q (post_of row.phase q) (post_of opening q)
  posts q counting = grind (arith, post_of, its, counted_before, at_most, posts_by, eqb)

  early : IsEarly row.phase
  early = subst IsEarly (sym may.phase_is) tt

  pub may_begin : MayTurn v row (row.term + 1) opening
  may_begin = grind (arith, lineage_of, named, posts, none_closes, early, none_rebuilds, none_marked)
