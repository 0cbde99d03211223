use Rattle.std.proofs.Common.{arith}
use Rattle.rk_cluster.proofs.Crashing.{crash_may, crashing_all, crashing_none, crashing_one}
use Rattle.rk_cluster.proofs.cluster.crashing.crash_all.Goals as goal

pub act_anyway-requires-clause-may : goal.act_anyway-requires-clause-may
act_anyway-requires-clause-may g c = crash_may _ _ _ _ _ _ _ c.requires.there c.requires.calm c.loop-lane.invariant

pub loop-lane-preserved : goal.loop-lane-preserved
loop-lane-preserved g c =
    let its = c.act_anyway.ensures in
    crashing_one _ _ _ _ _ _ _ _ c.loop-lane-test.true its.happens its.beside its.lanes its.count its.backups its.counts c.loop-lane.invariant

pub returns-clause-acts : goal.returns-clause-acts
returns-clause-acts g c = crashing_all _ _ _ _ _ _ _ (omega (arith, c.loop-lane-test.false)) c.loop-lane.invariant

pub loop-lane-init : goal.loop-lane-init
loop-lane-init g c = crashing_none _ _ _ _ _ c.requires.lanes
