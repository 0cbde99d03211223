use Rattle.std.proofs.Common.{ap, ◌∙◌}
use Rattle.rk_types.specs.NumberMap.{insert}
use Rattle.rk_types.proofs.Trees.{insert_tree}
use Rattle.rk_types.proofs.numbered.Numbered.insert.Goals as goal

pub returns-clause-ok : goal.returns-clause-ok
returns-clause-ok g c =
    insert_tree c.self.inside.values c.insert.new.self c.args.number c.args.value c.self.invariant c.insert.ensures.ordered c.in_ok-insert.ensures.updates
    ∙ ap (λ values. insert values c.args.number c.args.value) c.self.view_is
