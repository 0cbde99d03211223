use Rattle.std.proofs.Common.{◌∙◌, ap}
use Rattle.rk_model.specs.Standing.{entry_found}
use Rattle.rk_model.proofs.replay.standing_at.Goals as goal

pub returns-in-Some : goal.returns-in-Some
returns-in-Some c = λ map stands. ap entry_found c.in-Some.ensures.value ∙ stands (c.args.table, c.args.key)

pub returns-in-None : goal.returns-in-None
returns-in-None c = λ map stands. ap entry_found c.in-None.ensures.value ∙ stands (c.args.table, c.args.key)
