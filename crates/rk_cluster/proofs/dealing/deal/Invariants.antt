use Rattle.std.specs.Vec.Iter.{into_iter_items}
use Rattle.rk_cluster.proofs.Eighths.{IsDealing}
use Rattle.rk_cluster.proofs.dealing.deal.Given as goal

abbrev pub invariant-loop-thing : goal.invariant-loop-thing
invariant-loop-thing g l = IsDealing l.fn.things.items l.yielded (into_iter_items l.thing-iterator) l.hands.items l.place
