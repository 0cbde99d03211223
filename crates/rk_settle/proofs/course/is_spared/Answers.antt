use Rattle.rk_settle.proofs.Words.{◌∷◌, sym, subst, MovesAll, Task}
use Rattle.rk_settle.proofs.Idle.{idle_moves}
use Rattle.rk_settle.proofs.course.is_spared.Goals as goal

pub returns-in-Turns : goal.returns-in-Turns
returns-in-Turns g c = λ spared rest progress.
    subst (λ (task : Task). MovesAll g.R.Replica.segments g.R.Replica.faults c.args.cluster.now c.args.cluster.now (task ∷ rest) rest progress progress) (sym c.in-Turns.is)
    (idle_moves g.R.Replica.segments g.R.Replica.faults c.args.cluster.now c.in-Turns.lane (c.rests_in.ensures spared) progress rest)
