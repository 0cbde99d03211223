use Rattle.std.proofs.Common.{slice_get, ap, ◌∙◌}
use Rattle.std.specs.Map.{keys_of}
use Rattle.std.proofs.lemmas.Iterator.Consumers.{nth_from_yields_List, YieldsList-from_rest}
use Rattle.rk_types.specs.NumberMap.{numbers}
use Rattle.rk_types.proofs.numbered.Numbered.number_at.Goals as goal

pub returns : goal.returns
returns g c =
    c.copied.ensures
    ∙ nth_from_yields_List c.nth.result c.nth.new.self c.args.place c.nth.ensures.ran
    (YieldsList-from_rest (keys_of c.self.inside.values.entries) c.keys.ensures.rest)
    ∙ ap (λ values. slice_get (numbers values) c.args.place) c.self.view_is
