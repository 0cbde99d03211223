use Rattle.rk_cluster.proofs.Words.{refl}
use Rattle.rk_world.specs.declared.event.Event.TheVariants as events
use Rattle.rk_cluster.proofs.Failing.{lanes_stepped}
use Rattle.rk_cluster.proofs.Happenings.{happened}
use Rattle.rk_cluster.proofs.Heard.{anyway_well}
use Rattle.rk_cluster.proofs.Worlds.{counts_set, lane_set, there_read}
use Rattle.rk_cluster.proofs.steps.lose.Goals as goal
use Rattle.std.proofs.Math.ListN.{length-set}

pub returns : goal.returns
returns g c =
    let there = there_read _ _ _ c.requires c.index_mut.ensures.value in
    let it = c.forget.ensures in
    record {
      happens = rw (← (anyway_well g.R.Replica.faults c.index_mut.result.now c.forget.new.self (events.Forget c.args.number) c.forget.result refl it.free it.refused))
          (happened g.R.Replica.segments g.R.Replica.faults _ _ _ _ _ there _ it.free it.ok it.refused it.spent).happens;
      lanes = λ masters. lane_set masters 0 _ _ _ _ there it.lane;
      count = length-set _ _ _;
      backups = counts_set _ _ _ _ there it.lane;
      counts = lanes_stepped _ _ _ _ _ there g.R.Replica.segments _ _ it.ok it.refused it.spent;
    }
