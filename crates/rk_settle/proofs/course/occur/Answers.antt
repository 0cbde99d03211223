use Rattle.rk_settle.proofs.Words.{rules, err_from_is_err_and, counts_same}
use Rattle.rk_settle.proofs.Courses.{asks_moves, asks_stops, happens_moves, happens_stops, nobody_moves}
use Rattle.rk_settle.proofs.course.occur.Goals as goal

pub returns-in_err-happen-in-Happens-clause-err : goal.returns-in_err-happen-in-Happens-clause-err
returns-in_err-happen-in-Happens-clause-err g c =
    let lost = err_from_is_err_and c.from_residual.result c.from_residual.ensures.1 in
    rw (lost.1, lost.2)
    (happens_stops g.R.Replica.segments g.R.Replica.faults c.args.cluster.now c.happen.new.self c.args.lane c.args.act c.in-Happens.event c.in-Happens.is c.in_err-happen-in-Happens.field-0.0 c.in_err-happen-in-Happens.ensures.err)

pub returns-in_err-ask_in-in-Asks-clause-err : goal.returns-in_err-ask_in-in-Asks-clause-err
returns-in_err-ask_in-in-Asks-clause-err g c =
    let lost = err_from_is_err_and c.from_residual-in_err-ask_in-in-Asks.result c.from_residual-in_err-ask_in-in-Asks.ensures.1 in
    rw (lost.1, lost.2)
    (asks_stops g.R.Replica.segments g.R.Replica.faults c.args.cluster.now c.ask_in.new.self c.args.lane c.args.act c.in-Asks.client c.in-Asks.is (search rules) c.in_err-ask_in-in-Asks.field-0.0 c.in_err-ask_in-in-Asks.ensures.err)

pub returns-in_ok-happen-in-Happens-clause-ok : goal.returns-in_ok-happen-in-Happens-clause-ok
returns-in_ok-happen-in-Happens-clause-ok g c =
    happens_moves g.R.Replica.segments g.R.Replica.faults c.args.cluster.now c.happen.new.self c.args.lane c.args.act c.in-Happens.event c.in-Happens.is c.in_ok-happen-in-Happens.ensures.ok c.happen.ensures.counts

pub returns-in_ok-ask_in-in-Asks-clause-ok : goal.returns-in_ok-ask_in-in-Asks-clause-ok
returns-in_ok-ask_in-in-Asks-clause-ok g c =
    asks_moves g.R.Replica.segments g.R.Replica.faults c.args.cluster.now c.ask_in.new.self c.args.lane c.args.act c.in-Asks.client c.in-Asks.is (search rules) c.in_ok-ask_in-in-Asks.ensures.ok c.ask_in.ensures.counts

pub returns-else-is_some-clause-ok : goal.returns-else-is_some-clause-ok
returns-else-is_some-clause-ok g c = nobody_moves g.R.Replica.segments g.R.Replica.faults c.args.cluster.now c.args.cluster.now c.args.lane c.args.act c.in-Asks.client c.in-Asks.is (search rules)

pub returns-else-is_some-clause-counts : goal.returns-else-is_some-clause-counts
returns-else-is_some-clause-counts g c = counts_same g.R.Replica.faults c.args.cluster.now
