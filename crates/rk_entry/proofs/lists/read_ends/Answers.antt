use Rattle.std.proofs.Common.{[]}
use Rattle.std.proofs.lemmas.Result.{err_from_is_err_and}
use Rattle.rk_entry.specs.Lists.{read_ends}
use Rattle.rk_entry.proofs.Loops.{ends_go_on, ends_fail, ends_done}
use Rattle.rk_entry.proofs.lists.read_ends.Goals as goal

pub returns-in_err-end : goal.returns-in_err-end
returns-in_err-end c =
    let p = err_from_is_err_and c.from_residual.result c.from_residual.ensures.1 in
    rw (p.1, p.2) (ends_fail c.in_err-end.field-0.0 c.args.count c.ends.counter c.ends.above c.ends.ends c.ends.rest.now (read_ends c.args.count 0 [] c.args.bytes.now) c.ends-test.true c.in_err-end.ensures c.ends.invariant)

pub ends-preserved : goal.ends-preserved
ends-preserved c =
    rw c.in_ok-push.ensures.ok (ends_go_on c.args.count c.ends.counter c.ends.above c.ends.ends c.ends.rest.now c.in_ok-end.end c.in_ok-end.after.now (read_ends c.args.count 0 [] c.args.bytes.now) c.ends-test.true c.in_ok-end.ensures c.ends.invariant)

pub returns : goal.returns
returns c = ends_done c.args.count c.ends.counter c.ends.above c.ends.ends c.ends.rest.now (read_ends c.args.count 0 [] c.args.bytes.now) c.ends-test.false c.ends.invariant
