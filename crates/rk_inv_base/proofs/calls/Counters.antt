-- The counter of a tablet from which its master answers calls.
use Rattle.rk_inv_base.proofs.Words.{arith, ℕ, List, ◌++◌, IsNext, post_of, speaks, View, truths, rests, CountersOf, IsServed}
use Rattle.rk_inv_base.proofs.rows.Speakers.{speaks_serving}

-- the counter of a tablet is above all that counts for its row, if its master serves it
pub counter_low : (v : View) (master table : ℕ) (key : List ℕ) → CountersOf v (truths v) (rests v) → (served : IsServed v.rows (v.handovers master) (v.live master) master table key) → IsNext (truths v served.row ++ rests v served.row) (v.handovers master served.row.tablet).counter
counter_low v master table key counters served = grind (arith, speaks, post_of, truths, rests, speaks_serving)
