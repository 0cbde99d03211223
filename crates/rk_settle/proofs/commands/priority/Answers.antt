use Rattle.rk_settle.proofs.Words.{List, [], ◌++◌, append-nil, ap, sym, ◌∙◌, err_from_is_err_and, Task, counts_same}
use Rattle.rk_settle.specs.Priority.{priority}
use Rattle.rk_settle.specs.declared.task.Task.TheVariants.{Hastens}
use Rattle.rk_settle.proofs.Ending.{each_tells, nothing_said}
use Rattle.rk_settle.proofs.Keeping.{keeps_same}
use Rattle.rk_settle.proofs.commands.priority.Goals as goal

pub returns-clause-ok : goal.returns-clause-ok
returns-clause-ok g c =
    c.run.ensures.ok (λ cluster. priority cluster c.args.tablet)
    (λ cluster stands eight.
    sym (append-nil (priority cluster c.args.tablet))
    ∙ each_tells g.R.Replica.segments c.args.cluster.now (λ lane. Hastens lane c.args.tablet) [] c.hastenings.result c.push_all.new.self c.hastenings.ensures
    (c.in_ok-push_all.ensures ∙ ap (λ (more : List Task). c.hastenings.result ++ more) c.new-tasks.ensures) cluster stands eight)

pub returns-clause-err : goal.returns-clause-err
returns-clause-err g c =
    c.run.ensures.err (λ cluster. priority cluster c.args.tablet)
    (λ cluster stands eight.
    sym (append-nil (priority cluster c.args.tablet))
    ∙ each_tells g.R.Replica.segments c.args.cluster.now (λ lane. Hastens lane c.args.tablet) [] c.hastenings.result c.push_all.new.self c.hastenings.ensures
    (c.in_ok-push_all.ensures ∙ ap (λ (more : List Task). c.hastenings.result ++ more) c.new-tasks.ensures) cluster stands eight)

pub returns-in_err-push_all-clause-counts : goal.returns-in_err-push_all-clause-counts
returns-in_err-push_all-clause-counts g c = counts_same g.R.Replica.faults c.args.cluster.now

pub returns-in_err-push_all-clause-err : goal.returns-in_err-push_all-clause-err
returns-in_err-push_all-clause-err g c =
    let lost = err_from_is_err_and c.from_residual.result c.from_residual.ensures.1 in
    rw (lost.1, lost.2) (nothing_said g.R.Replica.segments g.R.Replica.faults c.args.cluster.now (λ cluster. priority cluster c.args.tablet) c.args.said.now.items)

pub returns-in_err-push_all-clause-kept : goal.returns-in_err-push_all-clause-kept
returns-in_err-push_all-clause-kept g c = keeps_same c.args.said.now.items
