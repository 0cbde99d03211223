use Rattle.std.proofs.Common.{rules, ap, ◌∙◌}
use Rattle.std.proofs.lemmas.Fn.{filter_same}
use Rattle.rk_session.specs.Cached.{Cached, without_call}
use Rattle.rk_session.proofs.lane_ranges.LaneRanges.forget.Goals as goal

pub returns-clause-ranges : goal.returns-clause-ranges
returns-clause-ranges c =
    filter_same _ _ _ (λ x b f' k. search rules) _ _ c.retain.ensures.filtered
    ∙ ap (λ (cached : Cached). without_call c.args.call.now cached.ranges) c.self.view_is
