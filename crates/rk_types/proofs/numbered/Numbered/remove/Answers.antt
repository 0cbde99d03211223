use Rattle.std.proofs.Common.{ap, sym, ◌∙◌}
use Rattle.rk_types.specs.NumberMap.{get, remove}
use Rattle.rk_types.proofs.Trees.{get_tree, remove_tree}
use Rattle.rk_types.proofs.numbered.Numbered.remove.Goals as goal

pub returns-clause-value : goal.returns-clause-value
returns-clause-value g c =
    c.remove.ensures.value ∙ sym (get_tree c.self.inside.values c.args.number) ∙ ap (λ values. get values c.args.number) c.self.view_is

pub returns-clause-removed : goal.returns-clause-removed
returns-clause-removed g c =
    remove_tree c.self.inside.values c.remove.new.self c.args.number c.self.invariant c.remove.ensures.ordered c.remove.ensures.updates
    ∙ ap (λ values. remove values c.args.number) c.self.view_is
