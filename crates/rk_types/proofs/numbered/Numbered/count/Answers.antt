use Rattle.std.proofs.Common.{subst}
use Rattle.rk_types.specs.NumberMap.{IsInOrder}
use Rattle.rk_types.proofs.Trees.{in_order_tree}
use Rattle.rk_types.proofs.numbered.Numbered.count.Goals as goal

pub returns-clause-order : goal.returns-clause-order
returns-clause-order g c = subst IsInOrder c.self.view_is (in_order_tree c.self.inside.values c.self.invariant)
