-- What a sound view says of the truth and the rest of one row, and what of them concerns one key.
use Rattle.std.proofs.Common.{ℕ, List, ◌++◌, refl, Contains, ◌≡◌}
use Rattle.rk_inv_base.proofs.Words.{Entry, Row, of_key, tells_of, View, truths, rests, SoundView, All-contains, HandoverFits}
use Rattle.rk_inv_rows.proofs.Words.{filter_from, TellHistory, row_in}
use Rattle.rk_inv_base.proofs.logs.Grows.{still_contains}

-- the truth and the rest of a row give its history
pub history_of : (v : View) (row : Row) → SoundView v → Contains v.rows row → TellHistory v.base row.range (truths v row) (rests v row) v.journal v.asked
history_of v row sound has = record {
  leaves = (row_in v sound row has).truth;
  above = (row_in v sound row has).order;
  ends = (row_in v sound row has).calls.reached;
  known = (row_in v sound row has).calls.recorded;
  low = (row_in v sound row has).counters.low;
  goes_on = (row_in v sound row has).rest.goes_on;
}

-- a master that keeps the row's term keeps its range
pub range_at : (v : View) → SoundView v → (row : Row) → Contains v.rows row → (q : ℕ) → (v.handovers q row.tablet).term ≡ row.term → (v.handovers q row.tablet).range ≡ row.range
range_at v sound row has q at =
    (All-contains (λ r. HandoverFits r row.tablet (v.handovers q row.tablet)) v.rows row (sound.terms.kept q row.tablet) has).exact refl at

-- an entry of the truth about a key is among all that counts
pub kept_stands : (table : ℕ) (key : List ℕ) (truth rest : List Entry) (entry : Entry) → Contains (of_key table key truth) entry → Contains (truth ++ rest) entry
kept_stands table key truth rest entry stands =
    still_contains truth (truth ++ rest) entry (record { more = rest; parts = refl }) (filter_from (tells_of table key) truth entry stands)
