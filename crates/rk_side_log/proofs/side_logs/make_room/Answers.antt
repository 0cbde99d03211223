use Rattle.rk_side_log.proofs.Sides.{same_items}
use Rattle.rk_side_log.proofs.side_logs.make_room.Goals as goal

pub returns-clause-items : goal.returns-clause-items
returns-clause-items c =
    same_items c.args.sides.now c.args.worker c.index-sides-worker-2.result c.make.new.self c.make.ensures.items c.requires.worker
