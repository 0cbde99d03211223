use Rattle.std.proofs.Common.{ap, sym, ◌∙◌}
use Rattle.rk_types.specs.NumberMap.{get}
use Rattle.rk_types.proofs.Trees.{get_tree}
use Rattle.rk_types.proofs.numbered.Numbered.get.Goals as goal

pub returns : goal.returns
returns g c =
    c.get.ensures.value ∙ sym (get_tree c.self.inside.values c.args.number) ∙ ap (λ values. get values c.args.number) c.self.view_is
