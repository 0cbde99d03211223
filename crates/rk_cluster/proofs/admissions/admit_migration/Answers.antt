use Rattle.rk_cluster.proofs.Words.{true, rules, state_of}
use Rattle.rk_cluster.proofs.Admitting.{migrate_last}
use Rattle.rk_cluster.proofs.admissions.admit_migration.Goals as goal

pub returns-then-is_dead-clause-err : goal.returns-then-is_dead-clause-err
returns-then-is_dead-clause-err g c =
    λ sessions.
    migrate_last g.R.Replica.segments (state_of c.args.lanes.now sessions) c.args.tablet c.args.to true (search rules) (search rules) (search rules) (search rules)
