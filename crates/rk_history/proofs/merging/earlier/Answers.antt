use Rattle.std.proofs.Common.{◌∙◌}
use Rattle.std.proofs.lemmas.List.{nil_from_length}
use Rattle.rk_history.proofs.Firsts.{none_of_lane}
use Rattle.rk_history.proofs.merging.earlier.Goals as goal

pub returns-in_default : goal.returns-in_default
returns-in_default c = λ journals here so_far.
    none_of_lane journals c.args.lane (here ∙ nil_from_length c.args.journal.now c.in_default.ensures.cases) c.args.first so_far
