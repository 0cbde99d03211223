use Rattle.rk_model.proofs.Standings.{stands_with}
use Rattle.rk_model.proofs.replay.set.Goals as goal

pub returns : goal.returns
returns c = λ map stands.
    stands_with c.args.standings.now c.insert.new.self map (c.args.table, c.args.key) c.args.standing stands
    c.in_ok-insert.ensures.updates
