use Rattle.rk_rebuild.proofs.Words.{◌≡◌, take, counting, lent}
use Rattle.rk_rebuild.proofs.material.counted_entries.Given as goal

-- those so far that count
abbrev pub invariant-loop-entry : goal.invariant-loop-entry
invariant-loop-entry l = lent l.counted.items ≡ counting l.range (lent (take l.entry-index l.entries))
