use Rattle.std.proofs.lemmas.Result.{err_from_is_err_and}
use Rattle.rk_message.specs.Fields.{read_list}
use Rattle.rk_message.proofs.Loops.{list_goes_on, list_fails, list_done}
use Rattle.rk_message.proofs.fields.read_list.Goals as goal

pub returns-in_err-element : goal.returns-in_err-element
returns-in_err-element g c =
    let p = err_from_is_err_and c.from_residual.result c.from_residual.ensures.1 in
    rw (p.1, p.2) (list_fails g.T.Element.read_as c.in_err-element.field-0.0 c.args.count c.elements.counter c.elements.elements c.elements.rest.now (read_list g.T.Element.read_as c.args.count c.args.bytes.now) c.elements-test.true c.in_err-element.ensures c.elements.invariant)

pub elements-preserved : goal.elements-preserved
elements-preserved g c =
    rw c.in_ok-push.ensures.ok (list_goes_on g.T.Element.read_as c.args.count c.elements.counter c.elements.elements c.elements.rest.now c.in_ok-element.element c.in_ok-element.after.now (read_list g.T.Element.read_as c.args.count c.args.bytes.now) c.elements-test.true c.in_ok-element.ensures c.elements.invariant)

pub returns : goal.returns
returns g c = list_done g.T.Element.read_as c.args.count c.elements.counter c.elements.elements c.elements.rest.now (read_list g.T.Element.read_as c.args.count c.args.bytes.now) c.elements-test.false c.elements.invariant
