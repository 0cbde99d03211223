use Rattle.rk_settle.proofs.Words.{◌∷◌, ◌∙◌, sym, subst, masters_of, IsTask, Moves, Task}
use Rattle.rk_settle.specs.declared.task.Task.TheVariants as made
use Rattle.rk_settle.proofs.Handing.{sorts_none}
use Rattle.rk_settle.proofs.course.handing_of.Goals as goal

pub returns-in-None-clause-there : goal.returns-in-None-clause-there
returns-in-None-clause-there g c = subst (IsTask (masters_of c.args.cluster.now)) c.in-Sorts.is c.requires

pub returns-in-None-clause-moves : goal.returns-in-None-clause-moves
returns-in-None-clause-moves g c = λ rest progress.
    subst (λ (task : Task). Moves g.R.Replica.segments g.R.Replica.faults c.args.cluster.now c.args.cluster.now (task ∷ rest)
    (made.Hands c.in-Sorts.lane c.in-Sorts.topic c.in-Sorts.from ∷ rest) progress progress) (sym c.in-Sorts.is)
    (sorts_none g.R.Replica.segments g.R.Replica.faults c.args.cluster.now c.in-Sorts.lane c.in-Sorts.topic c.wire_of.result.now
    (λ cluster stands. c.wire_of.ensures _ (c.lane_of.ensures.lane cluster stands)) c.in-Sorts.from rest progress c.in-Sorts.last (sym c.in-Ok.ensures ∙ c.in-None.is))
