use Rattle.rk_cluster.proofs.Failing.{lanes_stepped}
use Rattle.rk_cluster.proofs.Happenings.{happened}
use Rattle.rk_cluster.proofs.Heard.{anyway_well}
use Rattle.rk_cluster.proofs.Worlds.{counts_set, lane_set, set_beside, there_read}
use Rattle.rk_cluster.proofs.steps.act_anyway.Goals as goal
use Rattle.std.proofs.Math.ListN.{length-set}

pub returns : goal.returns
returns g c =
    let there = there_read _ _ _ c.requires.there c.index_mut.ensures.value in
    let step = c.step.ensures in
    let memory = step.free c.requires.anyway in
    record {
      happens = rw (← (anyway_well g.R.Replica.faults c.index_mut.result.now c.step.new.self c.args.event c.step.result c.requires.anyway memory step.refused))
          (happened g.R.Replica.segments g.R.Replica.faults _ _ _ _ _ there _ memory step.ok step.refused step.spent).happens;
      beside = set_beside _ _ _;
      lanes = λ masters. lane_set masters 0 _ _ _ _ there step.lane;
      count = length-set _ _ _;
      backups = counts_set _ _ _ _ there step.lane;
      counts = lanes_stepped _ _ _ _ _ there g.R.Replica.segments _ _ step.ok step.refused step.spent;
    }
