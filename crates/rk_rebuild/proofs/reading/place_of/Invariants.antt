use Rattle.rk_rebuild.proofs.Words.{◌≡◌, ℕ, ◌<◌, false, get_or, ReadLog, is_by}
use Rattle.rk_rebuild.proofs.reading.place_of.Given as goal

-- none of the logs so far is that of the master
abbrev pub invariant-loop-place : goal.invariant-loop-place
invariant-loop-place l = (k : ℕ) (d : ReadLog) → k < l.place → is_by l.master (get_or l.logs k d) ≡ false
