use Rattle.rk_cluster.proofs.Words.{on_ok_weaker, IfErr-weaker, length-set}
use Rattle.rk_cluster.proofs.Happenings.{happened}
use Rattle.rk_cluster.proofs.Heard.{heard_ends, heard_well}
use Rattle.rk_cluster.proofs.Shortage.{on_err_from, stepped_short}
use Rattle.rk_cluster.proofs.Worlds.{counts_set, lane_set, there_read}
use Rattle.rk_cluster.proofs.Failing.{lanes_stepped}
use Rattle.rk_cluster.proofs.steps.act.Goals as goal

pub returns : goal.returns
returns g c =
    let there = there_read _ _ _ c.requires.there c.index_mut.ensures.value in
    let step = c.step-answer.ensures in
    record {
      ok = on_ok_weaker c.heard.result (λ well.
          let heard = heard_well c.step-answer.result well in
          rw (← heard.worn) (happened g.R.Replica.segments g.R.Replica.faults _ _ _ _ _ there _ heard.memory step.ok step.refused step.spent).happens)
          c.heard.ensures.ok;
      err = IfErr-weaker c.heard.result _ _ (λ e failed. heard_ends _ c.step-answer.result e failed (λ number heard.
          rw (← heard.worn) (happened g.R.Replica.segments g.R.Replica.faults _ _ _ _ _ there _ heard.memory step.ok step.refused step.spent).happens))
          c.heard.ensures.err;
      short = on_err_from c.heard.result _ (λ e failed. stepped_short _ _ _ _ _ _ _ e there step.lane step.refused failed) c.heard.ensures.err;
      lanes = λ masters. lane_set masters 0 _ _ _ _ there step.lane;
      count = length-set _ _ _;
      backups = counts_set _ _ _ _ there step.lane;
      counts = lanes_stepped _ _ _ _ _ there g.R.Replica.segments _ _ step.ok step.refused step.spent;
    }
