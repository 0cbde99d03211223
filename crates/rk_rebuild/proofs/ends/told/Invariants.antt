use Rattle.rk_rebuild.proofs.Words.{◌≡◌, ◌++◌, drop, lent}
use Rattle.rk_world.specs.Ends.{told}
use Rattle.rk_rebuild.proofs.ends.told.Given as goal

-- the ends so far, and those of what is left, are those of all
abbrev pub invariant-loop-entry : goal.invariant-loop-entry
invariant-loop-entry l = l.ends.items ++ told (lent (drop l.entry-index l.entries)) ≡ told (lent l.entries)
