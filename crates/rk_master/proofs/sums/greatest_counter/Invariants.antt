use Rattle.rk_master.proofs.Words.{◌≡◌, map, take, tablets_of}
use Rattle.rk_world.specs.World.{greatest}
use Rattle.rk_master.proofs.sums.greatest_counter.Given as goal

abbrev pub invariant-loop-entry : goal.invariant-loop-entry
invariant-loop-entry l = l.greatest ≡ greatest (map (λ entry. entry.1.handover.counter) (tablets_of (take l.entry-index l.tablets)))
