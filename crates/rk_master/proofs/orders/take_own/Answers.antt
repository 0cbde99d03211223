use Rattle.rk_master.proofs.Words.{List, ◌∙◌, Master, Row, master_of}
use Rattle.rk_master.proofs.Handovers.{worked_quietly, none_lent, own_absent}
use Rattle.rk_master.proofs.orders.take_own.Goals as goal

pub returns-in_default-clause-ok : goal.returns-in_default-clause-ok
returns-in_default-clause-ok c =
    let master : Master = master_of c.args.state.now in
    let rows : List Row = c.args.state.now.tablets.items in
    worked_quietly master c.nothing.result c.nothing.ensures.sends c.nothing.ensures.served c.nothing.ensures.marked
    ∙ own_absent master c.args.tenure
    (none_lent rows c.as_slice.result.now c.args.tenure.tablet c.in_default.field-0 c.as_slice.ensures.value c.in_default.ensures.absent)
