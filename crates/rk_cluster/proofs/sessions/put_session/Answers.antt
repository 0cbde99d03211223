use Rattle.rk_types.proofs.Trees.{insert_tree}
use Rattle.rk_cluster.proofs.sessions.put_session.Goals as goal

pub returns-clause-ok : goal.returns-clause-ok
returns-clause-ok c =
    insert_tree c.args.sessions.now c.insert.new.self c.args.client c.args.session c.in_ok-insert.ensures.was_ordered c.in_ok-insert.ensures.ordered c.in_ok-insert.ensures.updates
