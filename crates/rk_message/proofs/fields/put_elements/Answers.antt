use Rattle.rk_message.proofs.Loops.{element_room, element_gains}
use Rattle.rk_message.proofs.fields.put_elements.Goals as goal

pub put-requires-clause-room : goal.put-requires-clause-room
put-requires-clause-room g c =
    element_room g.T.Element.spelled g.T.Element.count c.args.elements.now c.elements.element-index c.element-item.result c.args.into.now c.elements.into c.elements-test.true c.element-item.is c.requires.room c.elements.invariant

pub elements-preserved : goal.elements-preserved
elements-preserved g c =
    element_gains g.T.Element.spelled g.T.Element.count c.args.elements.now c.elements.element-index c.element-item.result c.args.into.now c.elements.into c.put.new.into c.elements-test.true c.element-item.is c.elements.invariant c.put.ensures
