-- Laws of the part Rows: what logs that grew keep of it.
use Rattle.rk_inv_base.proofs.Words.{arith, ◌≤◌, ℕ, List, length, Placed, lineage_of, Row, Written, Rows}

-- no log is shorter than before
pub rows_grown : (rows : List Row) (written written' : ℕ → Written) (journal : List Placed) → Rows rows written journal → ((q : ℕ) → length (written q).entries ≤ length (written' q).entries) → Rows rows written' journal
rows_grown rows written written' journal old grown = grind (arith, lineage_of)
