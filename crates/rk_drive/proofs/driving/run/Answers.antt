-- The lanes are sound if replicas report that nothing was written.
use Rattle.rk_cluster.specs.Fresh.{AreEmpty}
use Rattle.rk_cluster.proofs.Faults.{lanes_same}
use Rattle.rk_shared_lanes.specs.Together.{AllSoundOrSpent}
use Rattle.rk_drive.proofs.Opening.{granted_ok}
use Rattle.rk_drive.proofs.Rising.{since_gathered}
use Rattle.rk_drive.proofs.driving.run.Goals as goal

pub returns-clause-driven : goal.returns-clause-driven
returns-clause-driven g c =
    granted_ok g.R.Replica.segments (AllSoundOrSpent g.R.Replica.segments c.in_ok-lanes.lanes.items) (AreEmpty g.R.Replica.segments c.args.replicas.items)
    c.args.plan.now c.in_ok-lanes.ensures.sound c.run_with.result c.run_with.ensures.driven

-- the counts of the roster are those of the new lanes
pub run_with-requires-clause-counts : goal.run_with-requires-clause-counts
run_with-requires-clause-counts g c = λ lives within. lanes_same g.R.Replica.faults c.in_ok-lanes.lanes.items

pub returns-clause-counts : goal.returns-clause-counts
returns-clause-counts g c =
    since_gathered g.R.Replica.faults c.args.replicas.items c.in_ok-lanes.lanes.items c.run_with.result c.in_ok-lanes.ensures.counts c.run_with.ensures.counts
