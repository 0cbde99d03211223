-- What a sound view says of all rows, of one of them.
use Rattle.std.proofs.Common.{◌≡◌, ℕ, true, Contains, Some}
use Rattle.rk_inv_base.proofs.Words.{get, lineage_of, Row, Message, is_member, IsFormed, StillCounts, RoleFits, IsTruth, FirstIsDone}
use Rattle.rk_inv_base.proofs.Words.{IsRest, RowIsRebuilt, SaysOf, View, rests, truths, SoundView}
use Rattle.rk_inv_logs.proofs.Words.{row_in}

module _ (v : View) (sound : SoundView v) (row : Row) (has : Contains v.rows row) where
  pub row_formed : IsFormed row.phase
  row_formed = (row_in v sound row has).rows.formed

  pub role_fits : (q : ℕ) → StillCounts (v.live q) (v.handovers q row.tablet).term row.term → RoleFits row q (v.handovers q row.tablet) (v.written q).applied
  role_fits q = (row_in v sound row has).roles.fitting q

  pub row_ranged : (q : ℕ) → StillCounts (v.live q) (v.handovers q row.tablet).term row.term → is_member (lineage_of row.phase) q ≡ true → (v.handovers q row.tablet).range ≡ row.range
  row_ranged q = (row_in v sound row has).roles.ranged q

  pub row_true : IsTruth v.base row.range (truths v row) v.journal
  row_true = (row_in v sound row has).truth

  pub row_goes_on : IsRest v.base row.range (truths v row) (rests v row) v.journal v.asked
  row_goes_on = (row_in v sound row has).rest.goes_on

  pub row_done : FirstIsDone v.written row.range (lineage_of row.phase)
  row_done = (row_in v sound row has).rest.done

  pub row_rebuilt : RowIsRebuilt row row.phase (truths v row) v.logs v.written v.stored v.handovers v.completions v.gathers v.merged v.records v.live
  row_rebuilt = (row_in v sound row has).rebuilds.rebuilt

  pub row_said : (number : ℕ) (m : Message) → get v.wire number ≡ Some m
      → SaysOf row v.logs v.written v.stored v.handovers v.completions v.merged v.live v.handed m.from m.to m.body
  row_said number m there = (row_in v sound row has).messages number m there
