use Rattle.rk_settle.proofs.Words.{refl, arith, on_ok_weaker, counts_same}
use Rattle.std.proofs.lemmas.Result.{IfErr-weaker}
use Rattle.rk_settle.proofs.Moving.{begins_moves, begins_stops, ends_moves, unfolds_moves}
use Rattle.rk_settle.proofs.Failing.{keeps_up}
use Rattle.rk_settle.proofs.course.make_move.Goals as goal

pub returns-in-Begins-clause-ok : goal.returns-in-Begins-clause-ok
returns-in-Begins-clause-ok g c =
    on_ok_weaker c.begin.result
    (λ below. begins_moves g.R.Replica.segments g.R.Replica.faults c.args.cluster.now c.args.task c.args.tasks.now c.args.progress.now c.begin.new.progress c.in-Begins.is below c.begin.ensures.same)
    c.begin.ensures.ok

pub returns-in-Begins-clause-err : goal.returns-in-Begins-clause-err
returns-in-Begins-clause-err g c =
    IfErr-weaker c.begin.result _ _
    (λ e why. begins_stops g.R.Replica.segments g.R.Replica.faults c.args.cluster.now c.args.task c.args.tasks.now c.args.progress.now e c.in-Begins.is why.0 why.1)
    c.begin.ensures.err

pub returns-in-Ends-clause-ok : goal.returns-in-Ends-clause-ok
returns-in-Ends-clause-ok g c =
    ends_moves g.R.Replica.segments g.R.Replica.faults c.args.cluster.now c.args.task c.args.tasks.now c.args.progress.now c.end.new.progress c.in-Ends.is c.end.ensures

pub returns-in_ok-unfold-in_default : goal.returns-in_ok-unfold-in_default
returns-in_ok-unfold-in_default g c = record {
  ok = unfolds_moves g.R.Replica.segments g.R.Replica.faults c.args.cluster.now c.args.task c.args.tasks.now c.unfold.new.tasks c.args.progress.now
      (record { occurs = c.in_default.not-Occurs; delivers = c.in_default.not-Delivers; begins = c.in_default.not-Begins; ends = c.in_default.not-Ends })
      c.in_ok-unfold-in_default.ensures.ok;
  err = tt;
  silent = tt;
  lawful = c.in_ok-unfold-in_default.ensures.lawful;
  faults = omega arith;
  masters = refl;
  backups = refl;
  counts = counts_same g.R.Replica.faults c.args.cluster.now;
  failed = λ start before. before;
  cause = tt;
}

pub returns-in_err-unfold-in_default-clause-counts : goal.returns-in_err-unfold-in_default-clause-counts
returns-in_err-unfold-in_default-clause-counts g c = counts_same g.R.Replica.faults c.args.cluster.now

pub returns-in-Begins-clause-counts : goal.returns-in-Begins-clause-counts
returns-in-Begins-clause-counts g c = counts_same g.R.Replica.faults c.args.cluster.now

pub returns-in-Ends-clause-counts : goal.returns-in-Ends-clause-counts
returns-in-Ends-clause-counts g c = counts_same g.R.Replica.faults c.args.cluster.now

pub returns-in-Occurs-clause-failed : goal.returns-in-Occurs-clause-failed
returns-in-Occurs-clause-failed g c =
    on_ok_weaker c.occur.result (λ moves. keeps_up g.R.Replica.faults c.args.cluster.now c.occur.new.cluster c.args.progress.now c.args.progress.now refl c.occur.ensures.counts)
    c.occur.ensures.ok
