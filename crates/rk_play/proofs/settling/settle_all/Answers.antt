use Rattle.rk_play.proofs.Words.{◌++◌, List, None, refl, ap, ◌∙◌, err_from_is_err_and, Said, said_lines}
use Rattle.rk_settle.specs.Settle.{settle}
use Rattle.rk_play.proofs.Settled.{settled_ran, settled_stopped}
use Rattle.rk_play.proofs.Failing.{of_settling_replicas}
use Rattle.rk_play.proofs.settling.settle_all.Goals as goal

pub returns-in_err-settle-clause-err : goal.returns-in_err-settle-clause-err
returns-in_err-settle-clause-err g c =
    let lost = err_from_is_err_and c.from_residual.result c.from_residual.ensures.1 in
    rw (lost.1, lost.2)
    (settled_stopped g.R.Replica.segments g.R.Replica.faults c.args.cluster.now c.settle.new.cluster (λ cluster. None) (settle) (λ cluster is. refl) c.clear.new.self.items c.settle.new.said.items c.in_err-settle.field-0.0 c.clear.ensures.items c.in_err-settle.ensures.err)

pub returns-in_err-settle-clause-cause : goal.returns-in_err-settle-clause-cause
returns-in_err-settle-clause-cause g c =
    let lost = err_from_is_err_and c.from_residual.result c.from_residual.ensures.1 in
    rw (lost.1, lost.2) (λ is. c.in_err-settle.ensures.cause (of_settling_replicas c.in_err-settle.field-0.0 is))

pub returns-clause-ok : goal.returns-clause-ok
returns-clause-ok g c =
    settled_ran g.R.Replica.segments g.R.Replica.faults c.args.cluster.now c.settle.new.cluster (λ cluster. None) (settle) (λ cluster is. refl) c.clear.new.self.items c.settle.new.said.items c.args.text.now.items c.push_all_said.new.text.items
    c.clear.ensures.items c.in_ok-settle.ensures.ok (c.in_ok-push_all_said.ensures ∙ ap (λ (said : List Said). c.args.text.now.items ++ said_lines said) c.as_slice.ensures.value)
