-- The run goes on by one command a turn.
use Rattle.rk_play.proofs.Words.{[], length, refl, sym, subst, ◌∙◌, arith, PIECE, counts_same, counts_then, IsLawful, EndsBy, End}
use Rattle.std.proofs.Common.{nat_lt}
use Rattle.std.proofs.lemmas.List.Elements.{All-tail}
use Rattle.rk_play.proofs.Failing.{ended_often}
use Rattle.rk_play.proofs.Reaching.{end_apart, on_ended, on_failed, on_spilled, on_start, on_step}
use Rattle.rk_play.proofs.Sending.{where_err, where_ok}
use Rattle.rk_play.proofs.run.run_all.Goals as goal

pub commands-init : goal.commands-init
commands-init g c = record {
  lawful = c.requires.lawful;
  on = on_start g.R.Replica.segments g.R.Replica.faults c.args.cluster.now c.args.commands (g.K.Sink.written c.args.sink.now) c.args.held.now.items c.requires.empty;
  kept = refl;
  backups = refl;
  counts = counts_same g.R.Replica.faults c.args.cluster.now;
}

pub returns-then-is_err-clause-ends : goal.returns-then-is_err-clause-ends
returns-then-is_err-clause-ends g c =
    on_failed g.R.Replica.segments g.R.Replica.faults c.args.cluster.now c.commands.cluster c.args.commands c.commands.coming (g.K.Sink.written c.args.sink.now)
    (g.K.Sink.written c.commands.sink) (g.K.Sink.written c.spill.new.sink) c.commands.held.items c.commands.invariant.on
    (where_err c.spill.result _ c.spill.ensures.err (sym c.is_err.ensures.value ∙ c.if-is_err.true))

pub commands-preserved : goal.commands-preserved
commands-preserved g c =
    let fine = sym c.is_err.ensures.value ∙ c.if-is_err.false in
    record {
      lawful = All-tail IsLawful c.in-Some.numbered c.next.new.self (rw c.in-Some.ensures.some at c.commands.invariant.lawful);
      on =
          on_step g.R.Replica.segments g.R.Replica.faults c.args.cluster.now c.commands.cluster c.run_within.new.cluster c.args.commands c.next.new.self c.in-Some.numbered
          (g.K.Sink.written c.args.sink.now) (g.K.Sink.written c.spill.new.sink) c.spill.new.held.items
          (on_spilled g.R.Replica.segments g.R.Replica.faults c.args.cluster.now c.commands.cluster c.args.commands _ (g.K.Sink.written c.args.sink.now) (g.K.Sink.written c.commands.sink)
          (g.K.Sink.written c.spill.new.sink) c.commands.held.items c.spill.new.held.items (nat_lt (length c.commands.held.items) PIECE)
          (rw c.in-Some.ensures.some at c.commands.invariant.on) (where_ok c.spill.result _ c.spill.ensures.ok fine))
          c.run_within.new.text.items c.in-Ok.ensures.ok;
      kept = where_ok c.spill.result _ c.spill.ensures.cause.kept fine ∙ c.commands.invariant.kept;
      backups = c.run_within.ensures.backups ∙ c.commands.invariant.backups;
      counts = counts_then g.R.Replica.faults [] [] c.args.cluster.now c.commands.cluster c.run_within.new.cluster c.commands.invariant.counts c.run_within.ensures.counts;
    }

pub returns-in-Err-clause-ends : goal.returns-in-Err-clause-ends
returns-in-Err-clause-ends g c =
    let fine = sym c.is_err.ensures.value ∙ c.if-is_err.false in
    subst
    (λ (end : End). EndsBy g.R.Replica.segments g.R.Replica.faults c.args.cluster.now c.run_within.new.cluster c.args.commands (g.K.Sink.written c.args.sink.now) (g.K.Sink.written c.spill.new.sink)
    c.run_within.new.text.items end)
    (sym c.end_at.ensures)
    (on_ended g.R.Replica.segments g.R.Replica.faults c.args.cluster.now c.commands.cluster c.run_within.new.cluster c.args.commands c.next.new.self c.in-Some.numbered
    (g.K.Sink.written c.args.sink.now) (g.K.Sink.written c.spill.new.sink) c.spill.new.held.items
    (on_spilled g.R.Replica.segments g.R.Replica.faults c.args.cluster.now c.commands.cluster c.args.commands _ (g.K.Sink.written c.args.sink.now) (g.K.Sink.written c.commands.sink)
    (g.K.Sink.written c.spill.new.sink) c.commands.held.items c.spill.new.held.items (nat_lt (length c.commands.held.items) PIECE)
    (rw c.in-Some.ensures.some at c.commands.invariant.on) (where_ok c.spill.result _ c.spill.ensures.ok fine))
    c.in-Err.error c.run_within.new.text.items c.in-Err.ensures.kept c.in-Err.ensures.err)

pub returns-in-Err-clause-cause : goal.returns-in-Err-clause-cause
returns-in-Err-clause-cause g c =
    let kept = where_ok c.spill.result _ c.spill.ensures.cause.kept (sym c.is_err.ensures.value ∙ c.if-is_err.false) ∙ c.commands.invariant.kept in
    record {
      later = omega (arith, kept);
      kept = λ _. kept;
      rose = λ failed. absurd (end_apart c.in-Some.numbered.line c.in-Err.error (sym c.end_at.ensures ∙ failed));
    }

pub returns-in-Err-clause-backups : goal.returns-in-Err-clause-backups
returns-in-Err-clause-backups g c = c.run_within.ensures.backups ∙ c.commands.invariant.backups

pub returns-in-Err-clause-counts : goal.returns-in-Err-clause-counts
returns-in-Err-clause-counts g c =
    counts_then g.R.Replica.faults [] [] c.args.cluster.now c.commands.cluster c.run_within.new.cluster c.commands.invariant.counts c.run_within.ensures.counts

pub returns-in-Err-clause-replica_cause : goal.returns-in-Err-clause-replica_cause
returns-in-Err-clause-replica_cause g c =
    ended_often g.R.Replica.faults c.args.cluster.now c.commands.cluster c.run_within.new.cluster c.in-Some.numbered.line c.in-Err.error c.end_at.result c.end_at.ensures
    c.commands.invariant.counts c.in-Err.ensures.cause
