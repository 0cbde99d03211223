-- A drive whose lanes and sessions were gathered ends as they are concluded.
use Rattle.std.proofs.Common.{inr}
use Rattle.rk_cluster.specs.Fresh.{AreEmpty}
use Rattle.rk_play.proofs.Rising.{none_fell_gone, none_fell_same}
use Rattle.rk_drive.proofs.Ending.{concluded, done}
use Rattle.rk_drive.proofs.Rising.{back_in_rounds, back_none_fell}
use Rattle.rk_drive.proofs.Starting.{lanes_are}
use Rattle.rk_drive.proofs.driving.drive.Goals as goal

pub conclude-requires-clause-lanes : goal.conclude-requires-clause-lanes
conclude-requires-clause-lanes g c =
    lanes_are g.R.Replica.segments (AreEmpty g.R.Replica.segments c.in-Ok.its.items) c.args.plan.now c.in-Ok-run.field-0.lanes.items c.in-Ok-run.field-0.sessions.items c.in-Ok-run.ensures.driven

pub returns-in-Ok-run-clause-drives : goal.returns-in-Ok-run-clause-drives
returns-in-Ok-run-clause-drives g c = λ empty.
    let lent = c.in-Ok.ensures.ok in
    let its = c.in-Ok-run.field-0 in
    inr (concluded g.R.Replica.segments c.args.plan.now (g.K.Sink.written c.args.sink.now) (g.K.Sink.written c.conclude.new.sink) c.args.replicas.now.items
    c.conclude.new.replicas.items c.in-Ok.its.items c.in-Ok.kept.others.items its.lanes.items its.sessions.items c.conclude.result lent.its_are lent.others_are
    c.in-Ok-run.ensures.driven c.conclude.ensures.concludes empty)

pub returns-in-Ok-run-clause-done : goal.returns-in-Ok-run-clause-done
returns-in-Ok-run-clause-done g c = λ empty is.
    let lent = c.in-Ok.ensures.ok in
    let its = c.in-Ok-run.field-0 in
    done g.R.Replica.segments c.args.plan.now (g.K.Sink.written c.args.sink.now) (g.K.Sink.written c.conclude.new.sink) c.args.replicas.now.items
    c.conclude.new.replicas.items c.in-Ok.its.items c.in-Ok.kept.others.items its.lanes.items its.sessions.items c.conclude.result lent.its_are lent.others_are
    c.in-Ok-run.ensures.driven c.conclude.ensures.concludes empty is

-- memory was wanting before any replica was lent
pub returns-in_default-clause-counts : goal.returns-in_default-clause-counts
returns-in_default-clause-counts g c =
    none_fell_same g.R.Replica.faults c.args.replicas.now.items c.lend.new.replicas.items c.in_default.ensures.err

-- or before the lanes were gathered: the replicas went with them
pub returns-in-Err-clause-counts : goal.returns-in-Err-clause-counts
returns-in-Err-clause-counts g c =
    none_fell_gone g.R.Replica.faults c.args.replicas.now.items c.lend.new.replicas.items c.in-Ok.ensures.ok.room.room_is.nothing

pub returns-in-Ok-run-clause-counts : goal.returns-in-Ok-run-clause-counts
returns-in-Ok-run-clause-counts g c = λ there.
    back_none_fell g.R.Replica.faults c.args.replicas.now c.lend.new.replicas c.in-Ok.its c.conclude.new.replicas c.in-Ok.kept c.in-Ok-run.field-0.lanes.items
    c.requires.count c.in-Ok.ensures.ok c.in-Ok-run.ensures.counts (c.conclude.ensures.counts there) there

pub returns-in-Ok-run-clause-replica_cause : goal.returns-in-Ok-run-clause-replica_cause
returns-in-Ok-run-clause-replica_cause g c = λ fault.
    back_in_rounds g.R.Replica.faults c.args.replicas.now c.lend.new.replicas c.in-Ok.its c.conclude.new.replicas c.in-Ok.kept c.in-Ok-run.field-0.lanes.items
    c.requires.count c.in-Ok.ensures.ok c.in-Ok-run.ensures.counts (c.conclude.ensures.replica_cause fault)
