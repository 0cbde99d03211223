use Rattle.rk_settle.proofs.Words.{◌||◌, refl, Progress}
use Rattle.rk_settle.proofs.Courses.{delivers_moves}
use Rattle.rk_settle.proofs.Failing.{keeps_up_once}
use Rattle.rk_settle.proofs.course.deliver.Goals as goal

-- what its receiver said is recorded, and whether the call of a replica failed
pub returns-clause-ok : goal.returns-clause-ok
returns-clause-ok g c =
    let is : Progress = record c.args.progress.now { said = c.tell.new.into; failing = c.args.progress.now.failing || c.in_ok-said.field-0.failed } in
    λ rest. delivers_moves g.R.Replica.segments g.R.Replica.faults c.args.cluster.now c.deliver_in.new.self c.args.lane c.args.number c.in_ok-said.field-0 c.args.progress.now is
    c.in_ok-said.ensures.ok c.in_ok-tell.ensures.ok refl refl rest

pub returns-clause-failed : goal.returns-clause-failed
returns-clause-failed g c =
    let is : Progress = record c.args.progress.now { said = c.tell.new.into; failing = c.args.progress.now.failing || c.in_ok-said.field-0.failed } in
    keeps_up_once g.R.Replica.faults c.in_ok-said.field-0.failed c.args.cluster.now c.deliver_in.new.self c.args.progress.now is refl refl c.in_ok-said.ensures.counts
    c.in_ok-said.ensures.failed
