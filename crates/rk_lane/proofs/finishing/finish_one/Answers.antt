use Rattle.rk_lane.proofs.Words.{refl}
use Rattle.std.specs.Option.{option_to_list}
use Rattle.rk_lane.proofs.finishing.finish_one.Goals as goal

pub returns-clause-ok : goal.returns-clause-ok
returns-clause-ok c = c.close.ensures.ok c.args.parts.now (option_to_list c.args.send) refl c.send_some-sent.ensures

pub returns-clause-err : goal.returns-clause-err
returns-clause-err c = c.close.ensures.err c.args.parts.now refl
