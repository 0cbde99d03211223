use Rattle.rk_dispatch.specs.Queue.{HasTaken}
use Rattle.rk_dispatch.proofs.workers.take_all.Given as goal

abbrev pub invariant-loop : goal.invariant-loop
invariant-loop g l = HasTaken l.parcels l.taken.items l.pass
