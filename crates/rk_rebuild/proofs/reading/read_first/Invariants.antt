use Rattle.rk_rebuild.proofs.Words.{◌≡◌, ℕ, ◌<◌, false, get_or, is_unread}
use Rattle.rk_rebuild.proofs.reading.read_first.Given as goal

-- the segments so far were read
abbrev pub invariant-loop-place : goal.invariant-loop-place
invariant-loop-place l = (k : ℕ) (d : ℕ) → k < l.place → is_unread l.sides (get_or l.segments k d) ≡ false
