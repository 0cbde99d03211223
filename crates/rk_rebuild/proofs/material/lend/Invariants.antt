use Rattle.rk_rebuild.proofs.Words.{◌≡◌, ◌++◌, take, lent}
use Rattle.rk_rebuild.proofs.material.lend.Given as goal

abbrev pub invariant-loop-entry : goal.invariant-loop-entry
invariant-loop-entry l = lent l.into.items ≡ lent l.fn.into.items ++ take l.entry-index l.entries
