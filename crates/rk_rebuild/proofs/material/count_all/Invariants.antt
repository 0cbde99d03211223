use Rattle.rk_rebuild.proofs.Words.{◌≡◌, ◌++◌, take, counting, lent}
use Rattle.rk_rebuild.proofs.material.count_all.Given as goal

-- those so far that count
abbrev pub invariant-loop-entry : goal.invariant-loop-entry
invariant-loop-entry l = lent l.counted.items ≡ lent l.fn.counted.items ++ counting l.range (take l.entry-index l.entries)
