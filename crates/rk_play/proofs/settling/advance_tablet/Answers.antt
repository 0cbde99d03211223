use Rattle.rk_play.proofs.Words.{◌++◌, List, Option, ap, ◌∙◌, err_from_is_err_and, Said, said_lines, Code, counts_same, course_of, effect}
use Rattle.rk_play.proofs.Words.{settled}
use Rattle.rk_settle.specs.Codes.{advance_code}
use Rattle.rk_settle.specs.Advance.{advance}
use Rattle.rk_script.specs.declared.command.Command.TheVariants.{Advance}
use Rattle.rk_play.proofs.Settled.{settled_ran, settled_stopped}
use Rattle.rk_play.proofs.Shown.{came_refused}
use Rattle.rk_play.proofs.Failing.{of_settling_replicas}
use Rattle.rk_play.proofs.settling.advance_tablet.Goals as goal

pub returns-in_err-advance-clause-err : goal.returns-in_err-advance-clause-err
returns-in_err-advance-clause-err g c =
    let lost = err_from_is_err_and c.from_residual.result c.from_residual.ensures.1 in
    rw (lost.1, lost.2)
    (settled_stopped g.R.Replica.segments g.R.Replica.faults c.args.cluster.now c.advance.new.cluster (λ cluster. advance_code cluster c.args.tablet c.args.reach) (λ cluster. advance cluster c.args.tablet c.args.reach) (λ cluster is. c.advance_code.ensures cluster is ∙ c.in_default.is) c.clear.new.self.items c.advance.new.said.items c.in_err-advance.field-0.0 c.clear.ensures.items c.in_err-advance.ensures.err)

pub returns-in_err-advance-clause-cause : goal.returns-in_err-advance-clause-cause
returns-in_err-advance-clause-cause g c =
    let lost = err_from_is_err_and c.from_residual.result c.from_residual.ensures.1 in
    rw (lost.1, lost.2) (λ is. c.in_err-advance.ensures.cause (of_settling_replicas c.in_err-advance.field-0.0 is))

pub returns-clause-ok : goal.returns-clause-ok
returns-clause-ok g c =
    settled_ran g.R.Replica.segments g.R.Replica.faults c.args.cluster.now c.advance.new.cluster (λ cluster. advance_code cluster c.args.tablet c.args.reach) (λ cluster. advance cluster c.args.tablet c.args.reach) (λ cluster is. c.advance_code.ensures cluster is ∙ c.in_default.is) c.clear.new.self.items c.advance.new.said.items c.args.text.now.items c.push_all_said.new.text.items
    c.clear.ensures.items c.in_ok-advance.ensures.ok (c.in_ok-push_all_said.ensures ∙ ap (λ (said : List Said). c.args.text.now.items ++ said_lines said) c.as_slice.ensures.value)

pub returns-in-Some-clause-err : goal.returns-in-Some-clause-err
returns-in-Some-clause-err g c =
    came_refused g.R.Replica.segments g.R.Replica.faults c.args.cluster.now (λ cluster fates. effect cluster (Advance c.args.tablet c.args.reach) fates) c.in-Some.code
    (λ cluster is. ap (λ (code : Option Code). settled cluster code (course_of cluster (advance cluster c.args.tablet c.args.reach))) (c.advance_code.ensures cluster is ∙ c.in-Some.is))

pub returns-in-Some-clause-counts : goal.returns-in-Some-clause-counts
returns-in-Some-clause-counts g c = counts_same g.R.Replica.faults c.args.cluster.now
