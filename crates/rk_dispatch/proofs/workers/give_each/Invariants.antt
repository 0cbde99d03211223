use Rattle.std.proofs.Common.{◌≤◌, length, take}
use Rattle.rk_dispatch.specs.Queue.{HasGiven}
use Rattle.rk_dispatch.proofs.workers.give_each.Given as goal

abbrev pub invariant-loop : goal.invariant-loop
invariant-loop g l = HasGiven l.parcels (take l.count l.all) l.pass × (l.count ≤ length l.all)
