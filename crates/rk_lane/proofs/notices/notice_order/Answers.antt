use Rattle.rk_lane.proofs.Words.{◌≡◌, ◌++◌, filter, ◌∙◌, is_of, unnoticed}
use Rattle.rk_lane.specs.declared.notices.Group.TheVariants as groups
use Rattle.rk_lane.proofs.Noticed.{groups_are}
use Rattle.rk_lane.proofs.notices.notice_order.Goals as goal

pub returns : goal.returns
returns c =
    let rows : c.rows-rows.result.now ≡ c.args.parts.now.coordinator.rows = c.rows-rows.ensures.value ∙ c.map.ensures in
    groups_are c.args.parts.now.coordinator.rows c.args.dead (unnoticed c.args.parts.now)
    c.push_group.new.order.items c.push_group-2.new.order.items c.push_group-3.new.order.items
    (c.in_ok-push_group.ensures
    ∙ (λ i. c.in_ok-order.ensures.items i ++ filter (is_of (rows i) c.args.dead groups.Unnamed) ((c.as_slice.ensures.value ∙ c.in_ok-masters.ensures) i)))
    (c.in_ok-push_group-2.ensures
    ∙ (λ i. c.push_group.new.order.items ++ filter (is_of (rows i) c.args.dead groups.Named) ((c.as_slice-2.ensures.value ∙ c.in_ok-masters.ensures) i)))
    (c.in_ok-push_group-3.ensures
    ∙ (λ i. c.push_group-2.new.order.items ++ filter (is_of (rows i) c.args.dead groups.Last) ((c.as_slice-3.ensures.value ∙ c.in_ok-masters.ensures) i)))
