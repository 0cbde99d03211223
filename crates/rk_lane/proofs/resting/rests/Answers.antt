use Rattle.std.proofs.Common.{sym, ◌∙◌}
use Rattle.rk_lane.proofs.Rested.{none_is, rests_by}
use Rattle.rk_lane.proofs.resting.rests.Goals as goal

pub returns-then-rests : goal.returns-then-rests
returns-then-rests c = λ all stored.
    rests_by c.args.parts.now c.requires (sym c.worn.ensures ∙ none_is c.worn.result (sym c.is_some.ensures ∙ c.if-is_some.false)) (c.rests.ensures c.if-rests.true)
    (c.masters_rest.ensures all) stored
