use Rattle.rk_master.proofs.Words.{List, refl, subst, ◌∙◌, Master, no_tablet, IsAt, Row, master_of}
use Rattle.rk_master.proofs.Answering.{want_ignored}
use Rattle.rk_master.proofs.Handovers.{none_lent, worked_quietly}
use Rattle.rk_master.proofs.pulls.take_want.Goals as goal

pub returns-in_default : goal.returns-in_default
returns-in_default c =
    let master : Master = master_of c.args.state.now in
    let rows : List Row = c.args.state.now.tablets.items in
    worked_quietly master c.nothing.result c.nothing.ensures.sends c.nothing.ensures.served c.nothing.ensures.marked
    ∙ want_ignored master c.args.from c.args.want.now no_tablet
    (none_lent rows c.as_slice.result.now c.args.want.now.tenure.tablet c.in_default.field-0 c.as_slice.ensures.value c.in_default.ensures.absent) refl

pub answer_want-requires-clause-place : goal.answer_want-requires-clause-place
answer_want-requires-clause-place c = subst (λ (xs : List Row). IsAt c.args.want.now.tenure.tablet xs c.in-Ok.at) c.as_slice.ensures.value c.in-Ok.ensures.found
