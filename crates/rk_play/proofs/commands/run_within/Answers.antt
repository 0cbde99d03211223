use Rattle.rk_play.proofs.Words.{subst, Tells, counts_same, is_full}
use Rattle.rk_play.proofs.Carried.{ends_within, full_refuses, ran_within}
use Rattle.rk_play.proofs.commands.run_within.Goals as goal

pub returns-then-is_full-clause-err : goal.returns-then-is_full-clause-err
returns-then-is_full-clause-err g c =
    full_refuses _ _ _ _ (subst (Tells g.R.Replica.segments c.args.cluster.now is_full) c.if-is_full.true c.is_full.ensures)

pub returns-then-is_full-clause-counts : goal.returns-then-is_full-clause-counts
returns-then-is_full-clause-counts g c = counts_same g.R.Replica.faults c.args.cluster.now

pub returns-clause-ok : goal.returns-clause-ok
returns-clause-ok g c =
    ran_within _ _ _ _ _ (subst (Tells g.R.Replica.segments c.args.cluster.now is_full) c.if-is_full.false c.is_full.ensures)
    _ _ _ c.run_command.ensures.ok

pub returns-clause-err : goal.returns-clause-err
returns-clause-err g c =
    ends_within _ _ _ _ _ (subst (Tells g.R.Replica.segments c.args.cluster.now is_full) c.if-is_full.false c.is_full.ensures)
    _ c.run_command.ensures.err
