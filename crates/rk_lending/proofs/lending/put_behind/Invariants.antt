-- What was put so far, and what is left; there is room for it.
use Rattle.std.proofs.Common.{◌≡◌, ◌≤◌, ◌+◌, ◌++◌, length, vec_capacity}
use Rattle.std.specs.Vec.Iter.{into_iter_items}
use Rattle.rk_lending.proofs.lending.put_behind.Given as goal

abbrev pub invariant-loop-thing : goal.invariant-loop-thing
invariant-loop-thing g l = record {
  whole : l.all.items ++ into_iter_items l.thing-iterator ≡ l.fn.all.items ++ l.fn.things.items;
  room : length l.all.items + length (into_iter_items l.thing-iterator) ≤ vec_capacity l.all;
}
