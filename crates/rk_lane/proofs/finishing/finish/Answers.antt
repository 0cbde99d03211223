use Rattle.rk_lane.proofs.Words.{refl}
use Rattle.rk_lane.proofs.finishing.finish.Goals as goal

pub returns-clause-ok : goal.returns-clause-ok
returns-clause-ok c = c.close.ensures.ok c.args.parts.now c.args.sends.items refl c.send_all-sent.ensures

pub returns-clause-err : goal.returns-clause-err
returns-clause-err c = c.close.ensures.err c.args.parts.now refl
