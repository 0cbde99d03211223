use Rattle.rk_settle.proofs.Words.{List, [], ◌∷◌, ◌++◌, ap, ◌∙◌, err_from_is_err_and, settle, Task, counts_same}
use Rattle.rk_settle.specs.declared.task.Task.TheVariants.{Notices, Settles}
use Rattle.rk_settle.proofs.Ending.{each_tells, nothing_said}
use Rattle.rk_settle.proofs.Keeping.{keeps_same}
use Rattle.rk_settle.proofs.commands.settle.Goals as goal

pub returns-clause-ok : goal.returns-clause-ok
returns-clause-ok g c =
    c.run.ensures.ok settle
    (each_tells g.R.Replica.segments c.args.cluster.now Notices (Settles ∷ []) c.notices.result c.push_all.new.self c.notices.ensures
    (c.in_ok-push_all.ensures ∙ ap (λ (more : List Task). c.notices.result ++ more) (c.in_ok-push.ensures ∙ ap (λ (none : List Task). Settles ∷ none) c.new-tasks.ensures)))

pub returns-clause-err : goal.returns-clause-err
returns-clause-err g c =
    c.run.ensures.err settle
    (each_tells g.R.Replica.segments c.args.cluster.now Notices (Settles ∷ []) c.notices.result c.push_all.new.self c.notices.ensures
    (c.in_ok-push_all.ensures ∙ ap (λ (more : List Task). c.notices.result ++ more) (c.in_ok-push.ensures ∙ ap (λ (none : List Task). Settles ∷ none) c.new-tasks.ensures)))

pub returns-in_err-push-clause-counts : goal.returns-in_err-push-clause-counts
returns-in_err-push-clause-counts g c = counts_same g.R.Replica.faults c.args.cluster.now

pub returns-in_err-push_all-clause-counts : goal.returns-in_err-push_all-clause-counts
returns-in_err-push_all-clause-counts g c = counts_same g.R.Replica.faults c.args.cluster.now

pub returns-in_err-push-clause-err : goal.returns-in_err-push-clause-err
returns-in_err-push-clause-err g c =
    let lost = err_from_is_err_and c.from_residual.result c.from_residual.ensures.1 in
    rw (lost.1, lost.2) (nothing_said g.R.Replica.segments g.R.Replica.faults c.args.cluster.now settle c.args.said.now.items)

pub returns-in_err-push-clause-kept : goal.returns-in_err-push-clause-kept
returns-in_err-push-clause-kept g c = keeps_same c.args.said.now.items

pub returns-in_err-push_all-clause-err : goal.returns-in_err-push_all-clause-err
returns-in_err-push_all-clause-err g c =
    let lost = err_from_is_err_and c.from_residual-in_err-push_all.result c.from_residual-in_err-push_all.ensures.1 in
    rw (lost.1, lost.2) (nothing_said g.R.Replica.segments g.R.Replica.faults c.args.cluster.now settle c.args.said.now.items)

pub returns-in_err-push_all-clause-kept : goal.returns-in_err-push_all-clause-kept
returns-in_err-push_all-clause-kept g c = keeps_same c.args.said.now.items
