use Rattle.std.proofs.Common.{ℕ, ap, ◌∙◌}
use Rattle.rk_types.specs.NumberMap.{insert}
use Rattle.rk_types.proofs.Trees.{insert_tree}
use Rattle.rk_conclude.proofs.ending.put_session.Goals as goal

pub returns : goal.returns
returns c =
    insert_tree c.args.map.now c.insert.new.self c.client.result c.args.session c.in_ok-insert.ensures.was_ordered c.in_ok-insert.ensures.ordered c.in_ok-insert.ensures.updates
    ∙ ap (λ (client : ℕ). insert c.args.map.now.entries client c.args.session) c.client.ensures
