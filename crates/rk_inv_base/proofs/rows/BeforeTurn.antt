-- What is known of a row that is to be turned: what its masters have is at most at its term; and a row that is owned, or opens before its
-- target reported a place, asks for no Close and is not rebuilt.
use Rattle.rk_inv_base.proofs.Words.{◌≡◌, ℕ, ◌≤◌, ◌<◌, Bool, true, eqb, None, refl, ⊎_elim, arith, inl, inr, All, Contains, cond_both}
use Rattle.rk_inv_base.proofs.Words.{All-contains, ⊤, Phase, Owned, Opening, Row, IsRebuiltBy, row_at, post_of, StillCounts, MarkFits}
use Rattle.rk_inv_base.proofs.Words.{HandoverFits, View, SoundView, MayFollowClose}
use Rattle.rk_inv_base.proofs.views.ByRows.{row_in}

-- what counts at a term counted at a term that is not greater, if its own is at most that
pub counted_before : (live : Bool) (own old new : ℕ) → own ≤ old → old ≤ new → StillCounts live own new → StillCounts live own old
counted_before live own old new low grows counting =
    ⊎_elim (λ (lives : live ≡ true). inl lives) (λ (at : own ≡ new). inr (omega (arith, at, low, grows))) counting

-- what a master has of a row's tablet is at most at the row's term
pub at_most : (v : View) (row : Row) (master : ℕ) → SoundView v → Contains v.rows row → (v.handovers master row.tablet).term ≤ row.term
at_most v row master sound has =
    (All-contains (λ r. HandoverFits r row.tablet (v.handovers master row.tablet)) v.rows row (sound.terms.kept master row.tablet) has).within
    refl

-- a row is owned, or opens and has not noted the place of its target
abbrev pub IsEarly : Phase → Type 0
IsEarly (Owned owner from) = ⊤
IsEarly (Opening source sfrom target None) = ⊤
IsEarly phase = ⊥

module _ (v : View) (row : Row) (term : ℕ) (phase : Phase) (sound : SoundView v) (has_row : Contains v.rows row) (early : IsEarly row.phase) where
  -- no living master follows a Close
  pub none_closes : (q order : ℕ) → v.live q ≡ true → (v.handovers q row.tablet).term < order → MayFollowClose row q order → MayFollowClose (row_at row term phase) q order
  none_closes q order lives below follows = grind (arith, post_of, cond_both, eqb)

  pub none_rebuilds : (q : ℕ) → v.live q ≡ true → IsRebuiltBy row.phase q → ⊥
  none_rebuilds q lives by = grind arith

  -- there is no mark of the tablet
  pub none_marked : (q : ℕ) → All (λ mark. mark.tablet ≡ row.tablet → MarkFits (row_at row term phase) q (v.handovers q row.tablet) (v.live q) (v.written q) mark) (v.written q).marks
  none_marked q = grind (arith, row_at, row_in)
