use Rattle.rk_cluster.proofs.Words.{sym, ◌∙◌, err_from_is_err_and, length-set}
use Rattle.rk_cluster.proofs.Happenings.{happened}
use Rattle.rk_cluster.proofs.Heard.{heard_ends, heard_well}
use Rattle.rk_cluster.proofs.Shortage.{stepped_short}
use Rattle.rk_cluster.proofs.Worlds.{counts_set, lane_set, there_read}
use Rattle.rk_cluster.proofs.Failing.{lanes_failed, lanes_stepped}
use Rattle.rk_cluster.proofs.steps.deliver_told.Goals as goal

pub returns-in_err-heard : goal.returns-in_err-heard
returns-in_err-heard g c =
    let lost = err_from_is_err_and c.from_residual.result c.from_residual.ensures.1 in
    let there = there_read _ _ _ c.requires.there c.index_mut.ensures.value in
    let its = c.deliver-answer.ensures in
    rw (lost.1, lost.2)
    (record {
      ok = tt;
      err = heard_ends _ _ _ c.in_err-heard.ensures.err (λ number heard.
          rw (← heard.worn) (happened g.R.Replica.segments g.R.Replica.faults _ _ _ _ _ there _ heard.memory its.ok its.refused its.spent).happens);
      short = stepped_short _ _ _ _ _ _ _ _ there its.lane its.refused c.in_err-heard.ensures.err;
      lanes = λ masters. lane_set masters 0 _ _ _ _ there its.lane;
      count = length-set _ _ _;
      backups = counts_set _ _ _ _ there its.lane;
      counts = lanes_stepped _ _ _ _ _ there g.R.Replica.segments _ _ its.ok its.refused its.spent;
      failed = tt;
    })

pub returns : goal.returns
returns g c =
    let heard = heard_well c.deliver-answer.result c.in_ok-heard.ensures.ok in
    let there = there_read _ _ _ c.requires.there c.index_mut.ensures.value in
    let its = c.deliver-answer.ensures in
    record {
      ok = rw (c.has_lost.ensures, ← heard.worn)
          (happened g.R.Replica.segments g.R.Replica.faults _ _ _ _ _ there _ heard.memory its.ok its.refused its.spent);
      err = tt;
      short = tt;
      lanes = λ masters. lane_set masters 0 _ _ _ _ there its.lane;
      count = length-set _ _ _;
      backups = counts_set _ _ _ _ there its.lane;
      counts = lanes_stepped _ _ _ _ _ there g.R.Replica.segments _ _ its.ok its.refused its.spent;
      failed = λ is_for lost. lanes_failed _ _ _ _ _ there g.R.Replica.segments _ _ its.ok (λ none waits. its.never none) is_for (sym c.has_lost.ensures ∙ lost);
    }
