use Rattle.rk_rebuild.proofs.Words.{◌≡◌, drop, lent}
use Rattle.std.specs.Prelude.{fold}
use Rattle.rk_world.specs.Merge.{floor_by, floor_of}
use Rattle.rk_rebuild.proofs.floor.floor_of.Given as goal

-- the floor so far, raised by what is left, is the floor of all
abbrev pub invariant-loop-entry : goal.invariant-loop-entry
invariant-loop-entry l = fold floor_by l.floor (lent (drop l.entry-index l.entries)) ≡ floor_of (lent l.entries)
