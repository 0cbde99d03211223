use Rattle.rk_shared_lanes.proofs.Stepping.{none_falls, sound_stepped}
use Rattle.std.proofs.Common.{refl}
use Rattle.rk_drive.proofs.Beginnings.{took, took_clients}
use Rattle.rk_drive.proofs.start.take.Goals as goal

pub returns-clause-ledger : goal.returns-clause-ledger
returns-clause-ledger g c =
    took g.R.Replica.segments g.R.Replica.faults c.args.event c.args.lane.now c.step.new.self c.step.ensures.lane c.in-Ok.field-0 c.args.lane.now.running c.in-Ok.ensures.ok
    c.in-Ok.ensures.never

pub returns-clause-clients : goal.returns-clause-clients
returns-clause-clients g c =
    took_clients g.R.Replica.segments g.R.Replica.faults c.args.event c.args.lane.now c.step.new.self c.step.ensures.lane c.in-Ok.field-0 c.args.lane.now.running c.in-Ok.ensures.ok
    c.in-Ok.ensures.never

pub returns-clause-sound : goal.returns-clause-sound
returns-clause-sound g c =
    sound_stepped g.R.Replica.segments g.R.Replica.faults c.args.lane.now c.step.new.self c.args.event c.step.ensures.lane c.args.lane.now.running refl c.step.result
    c.step.ensures.ok c.step.ensures.refused c.step.ensures.spent

pub returns-in_default-clause-sound : goal.returns-in_default-clause-sound
returns-in_default-clause-sound g c =
    sound_stepped g.R.Replica.segments g.R.Replica.faults c.args.lane.now c.step.new.self c.args.event c.step.ensures.lane c.args.lane.now.running refl c.step.result
    c.step.ensures.ok c.step.ensures.refused c.step.ensures.spent

pub returns-clause-counts : goal.returns-clause-counts
returns-clause-counts g c =
    none_falls g.R.Replica.segments g.R.Replica.faults c.args.lane.now c.step.new.self c.args.event c.step.ensures.lane c.step.result c.step.ensures.ok
    c.step.ensures.refused c.step.ensures.spent

pub returns-in_default-clause-counts : goal.returns-in_default-clause-counts
returns-in_default-clause-counts g c =
    none_falls g.R.Replica.segments g.R.Replica.faults c.args.lane.now c.step.new.self c.args.event c.step.ensures.lane c.step.result c.step.ensures.ok
    c.step.ensures.refused c.step.ensures.spent
