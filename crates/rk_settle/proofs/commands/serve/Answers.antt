use Rattle.rk_settle.proofs.Words.{List, ◌++◌, append-nil, ap, sym, ◌∙◌, err_from_is_err_and, serve, Task, counts_same}
use Rattle.rk_settle.proofs.Ending.{nothing_said, tells_anyway}
use Rattle.rk_settle.proofs.Keeping.{keeps_same}
use Rattle.rk_settle.proofs.commands.serve.Goals as goal

pub returns-clause-ok : goal.returns-clause-ok
returns-clause-ok g c =
    c.run.ensures.ok (λ cluster. serve cluster c.args.client)
    (tells_anyway g.R.Replica.segments c.args.cluster.now (λ cluster. serve cluster c.args.client) c.push_serve.new.tasks
    (λ cluster stands.
    sym (append-nil (serve cluster c.args.client)) ∙ ap (λ (none : List Task). serve cluster c.args.client ++ none) (sym c.new-tasks.ensures)
    ∙ c.in_ok-push_serve.ensures.pushed cluster stands))

pub returns-clause-err : goal.returns-clause-err
returns-clause-err g c =
    c.run.ensures.err (λ cluster. serve cluster c.args.client)
    (tells_anyway g.R.Replica.segments c.args.cluster.now (λ cluster. serve cluster c.args.client) c.push_serve.new.tasks
    (λ cluster stands.
    sym (append-nil (serve cluster c.args.client)) ∙ ap (λ (none : List Task). serve cluster c.args.client ++ none) (sym c.new-tasks.ensures)
    ∙ c.in_ok-push_serve.ensures.pushed cluster stands))

pub returns-in_err-push_serve-clause-counts : goal.returns-in_err-push_serve-clause-counts
returns-in_err-push_serve-clause-counts g c = counts_same g.R.Replica.faults c.args.cluster.now

pub returns-in_err-push_serve-clause-err : goal.returns-in_err-push_serve-clause-err
returns-in_err-push_serve-clause-err g c =
    let lost = err_from_is_err_and c.from_residual.result c.from_residual.ensures.1 in
    rw (lost.1, lost.2) (nothing_said g.R.Replica.segments g.R.Replica.faults c.args.cluster.now (λ cluster. serve cluster c.args.client) c.args.said.now.items)

pub returns-in_err-push_serve-clause-kept : goal.returns-in_err-push_serve-clause-kept
returns-in_err-push_serve-clause-kept g c = keeps_same c.args.said.now.items
