-- What is applied of a log is in it.
use Rattle.rk_inv_base.proofs.Words.{ℕ, ◌≤◌, List, length, arith, prefix_len-le-length, length-ends, ends, Log, is_held, Written, IsLog}

-- what is applied is in the log
pub applied_within : (log : Log) (written : Written) (stored : ℕ → ℕ → List ℕ) → IsLog log written stored → written.applied ≤ length written.entries
applied_within log written stored kept = grind (arith, prefix_len-le-length, is_held, ends, length-ends, length)
