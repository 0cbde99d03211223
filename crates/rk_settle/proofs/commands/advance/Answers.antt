use Rattle.rk_settle.proofs.Words.{List, [], ◌++◌, append-nil, ap, sym, ◌∙◌, err_from_is_err_and, advance, Task, counts_same}
use Rattle.rk_settle.specs.declared.task.Task.TheVariants.{Advances}
use Rattle.rk_settle.proofs.Ending.{each_tells, nothing_said}
use Rattle.rk_settle.proofs.Keeping.{keeps_same}
use Rattle.rk_settle.proofs.commands.advance.Goals as goal

pub returns-clause-ok : goal.returns-clause-ok
returns-clause-ok g c =
    c.run.ensures.ok (λ cluster. advance cluster c.args.tablet c.args.reach)
    (λ cluster stands eight.
    sym (append-nil (advance cluster c.args.tablet c.args.reach))
    ∙ each_tells g.R.Replica.segments c.args.cluster.now (λ lane. Advances lane c.args.tablet c.args.reach) [] c.advances.result c.push_all.new.self c.advances.ensures
    (c.in_ok-push_all.ensures ∙ ap (λ (more : List Task). c.advances.result ++ more) c.new-tasks.ensures) cluster stands eight)

pub returns-clause-err : goal.returns-clause-err
returns-clause-err g c =
    c.run.ensures.err (λ cluster. advance cluster c.args.tablet c.args.reach)
    (λ cluster stands eight.
    sym (append-nil (advance cluster c.args.tablet c.args.reach))
    ∙ each_tells g.R.Replica.segments c.args.cluster.now (λ lane. Advances lane c.args.tablet c.args.reach) [] c.advances.result c.push_all.new.self c.advances.ensures
    (c.in_ok-push_all.ensures ∙ ap (λ (more : List Task). c.advances.result ++ more) c.new-tasks.ensures) cluster stands eight)

pub returns-in_err-push_all-clause-counts : goal.returns-in_err-push_all-clause-counts
returns-in_err-push_all-clause-counts g c = counts_same g.R.Replica.faults c.args.cluster.now

pub returns-in_err-push_all-clause-err : goal.returns-in_err-push_all-clause-err
returns-in_err-push_all-clause-err g c =
    let lost = err_from_is_err_and c.from_residual.result c.from_residual.ensures.1 in
    rw (lost.1, lost.2) (nothing_said g.R.Replica.segments g.R.Replica.faults c.args.cluster.now (λ cluster. advance cluster c.args.tablet c.args.reach) c.args.said.now.items)

pub returns-in_err-push_all-clause-kept : goal.returns-in_err-push_all-clause-kept
returns-in_err-push_all-clause-kept g c = keeps_same c.args.said.now.items
