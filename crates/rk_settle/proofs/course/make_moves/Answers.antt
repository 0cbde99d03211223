use Rattle.rk_settle.proofs.Words.{◌+◌, ◌∷◌, ℕ, List, [], if◌then◌else◌, sym, subst, ◌∙◌, refl, arith, All-head, All-tail}
use Rattle.rk_settle.proofs.Words.{err_from_is_err_and, Said, masters_of, counts_same, MOST_FAULTS, FailsInRounds, failed_rounds, AreTasks}
use Rattle.rk_settle.proofs.Words.{IsTask, Fails, Keeps, MovesAll, Task}
use Rattle.rk_cluster.proofs.Faults.{counts_then}
use Rattle.rk_settle.specs.States.{StopsLater}
use Rattle.rk_settle.specs.declared.error.SettleError.TheVariants.{TooLong}
use Rattle.rk_settle.proofs.Ending.{ends_by, fails_by}
use Rattle.rk_settle.proofs.Failing.{failed_often, in_no_round, rounds_counted}
use Rattle.rk_settle.proofs.Handing.{stops_then}
use Rattle.rk_settle.proofs.Moving.{more_moved, none_moved, says_after, stops_in}
use Rattle.rk_settle.proofs.course.make_moves.Goals.{then-not-is_spared+in_ok-perform, else-not-is_spared}
use Rattle.rk_settle.proofs.course.make_moves.Goals as goal

pub loop-init : goal.loop-init
loop-init g c = record {
  eight = c.masters-masters.ensures.eight;
  moves = none_moved g.R.Replica.segments g.R.Replica.faults c.args.cluster.now c.args.tasks c.args.progress.now;
  lawful = c.requires.tasks;
  few = omega (arith, c.requires.faults);
  masters = refl;
  backups = refl;
  counts = subst (λ (count : ℕ). FailsInRounds g.R.Replica.faults count c.args.cluster.now c.args.cluster.now)
      (λ i. (sym c.requires.faults i) + (if (sym c.requires.failing i) then 1 else 0)) (in_no_round g.R.Replica.faults c.args.cluster.now);
}

pub returns-in_default-clause-ok : goal.returns-in_default-clause-ok
returns-in_default-clause-ok g c =
    λ command tells.
    ends_by g.R.Replica.segments g.R.Replica.faults c.args.cluster.now c.loop.cluster command c.args.tasks c.args.progress.now
    (record { faults = c.requires.faults; failing = c.requires.failing }) c.loop.invariant.eight tells c.loop.tasks c.loop.progress (c.pop.ensures.none c.in_default.is) c.loop.invariant.moves

pub returns-in_default-clause-kept : goal.returns-in_default-clause-kept
returns-in_default-clause-kept g c = c.loop.invariant.moves.kept

pub returns-in_default-clause-masters : goal.returns-in_default-clause-masters
returns-in_default-clause-masters g c = c.loop.invariant.masters

pub returns-in_default-clause-backups : goal.returns-in_default-clause-backups
returns-in_default-clause-backups g c = c.loop.invariant.backups

pub returns-in_default-clause-counts : goal.returns-in_default-clause-counts
returns-in_default-clause-counts g c =
    rounds_counted g.R.Replica.faults (failed_rounds c.loop.progress) c.args.cluster.now c.loop.cluster c.loop.invariant.counts

pub perform-requires-clause-task : goal.perform-requires-clause-task
perform-requires-clause-task g c =
    subst (λ (masters : ℕ). IsTask masters c.in-Some.task) (sym c.loop.invariant.masters)
    (All-head (IsTask (masters_of c.args.cluster.now)) c.in-Some.task c.pop.new.self
    (subst (AreTasks (masters_of c.args.cluster.now)) c.in-Some.ensures.some c.loop.invariant.lawful))

pub perform-requires-clause-left : goal.perform-requires-clause-left
perform-requires-clause-left g c =
    subst (λ (masters : ℕ). AreTasks masters c.pop.new.self) (sym c.loop.invariant.masters)
    (All-tail (IsTask (masters_of c.args.cluster.now)) c.in-Some.task c.pop.new.self
    (subst (AreTasks (masters_of c.args.cluster.now)) c.in-Some.ensures.some c.loop.invariant.lawful))

pub perform-requires-clause-faults : goal.perform-requires-clause-faults
perform-requires-clause-faults g c = omega (arith, c.loop.invariant.few, c.loop-test.true)

pub returns-in_err-perform-clause-err : goal.returns-in_err-perform-clause-err
returns-in_err-perform-clause-err g c =
    let lost = err_from_is_err_and c.from_residual.result c.from_residual.ensures.1 in
    let it =
    stops_then g.R.Replica.segments g.R.Replica.faults c.args.cluster.now c.loop.cluster c.perform.new.cluster c.args.tasks c.loop.tasks c.args.progress.now c.loop.progress
    c.perform.new.progress.said.items c.in_err-perform.field-0.0 c.loop.invariant.moves
    (subst (λ (left : List Task). StopsLater g.R.Replica.segments g.R.Replica.faults c.loop.cluster c.perform.new.cluster left c.loop.progress c.perform.new.progress.said.items c.in_err-perform.field-0.0)
    (sym c.in-Some.ensures.some) c.in_err-perform.ensures.err) in
    λ command tells.
    rw (lost.1, lost.2)
    (subst (λ (has : List Said). Fails g.R.Replica.segments g.R.Replica.faults c.args.cluster.now c.perform.new.cluster command c.args.progress.now.said.items has c.in_err-perform.field-0.0)
    (sym it.said)
    (fails_by g.R.Replica.segments g.R.Replica.faults c.args.cluster.now c.perform.new.cluster command c.args.tasks c.args.progress.now
    (record { faults = c.requires.faults; failing = c.requires.failing }) c.loop.invariant.eight tells it.is.said.items c.in_err-perform.field-0.0
    (stops_in g.R.Replica.segments g.R.Replica.faults c.args.cluster.now it.now c.perform.new.cluster c.args.tasks it.left c.args.progress.now it.is
    c.in_err-perform.field-0.0 it.moves it.counts it.stops)))

pub returns-in_err-perform-clause-kept : goal.returns-in_err-perform-clause-kept
returns-in_err-perform-clause-kept g c =
    let it =
    stops_then g.R.Replica.segments g.R.Replica.faults c.args.cluster.now c.loop.cluster c.perform.new.cluster c.args.tasks c.loop.tasks c.args.progress.now c.loop.progress
    c.perform.new.progress.said.items c.in_err-perform.field-0.0 c.loop.invariant.moves
    (subst (λ (left : List Task). StopsLater g.R.Replica.segments g.R.Replica.faults c.loop.cluster c.perform.new.cluster left c.loop.progress c.perform.new.progress.said.items c.in_err-perform.field-0.0)
    (sym c.in-Some.ensures.some) c.in_err-perform.ensures.err) in
    subst (Keeps c.args.progress.now.said.items) (sym it.said) it.moves.kept

pub returns-in_err-perform-clause-masters : goal.returns-in_err-perform-clause-masters
returns-in_err-perform-clause-masters g c = c.perform.ensures.masters ∙ c.loop.invariant.masters

pub returns-in_err-perform-clause-backups : goal.returns-in_err-perform-clause-backups
returns-in_err-perform-clause-backups g c = c.perform.ensures.backups ∙ c.loop.invariant.backups

pub returns-in_err-perform-clause-counts : goal.returns-in_err-perform-clause-counts
returns-in_err-perform-clause-counts g c =
    counts_then g.R.Replica.faults [] [] c.args.cluster.now c.loop.cluster c.perform.new.cluster
    (rounds_counted g.R.Replica.faults (failed_rounds c.loop.progress) c.args.cluster.now c.loop.cluster c.loop.invariant.counts)
    c.perform.ensures.counts

pub returns-in_err-perform-clause-cause : goal.returns-in_err-perform-clause-cause
returns-in_err-perform-clause-cause g c =
    let lost = err_from_is_err_and c.from_residual.result c.from_residual.ensures.1 in
    rw (lost.1, lost.2)
    (λ of_replicas.
    failed_often g.R.Replica.faults MOST_FAULTS c.args.cluster.now c.loop.cluster c.perform.new.cluster c.loop.progress (c.in_err-perform.ensures.cause of_replicas) c.loop.invariant.counts
    c.perform.ensures.counts)

pub loop-preserved : goal.loop-preserved
loop-preserved g c =
    let taken : AreTasks (masters_of c.args.cluster.now) (c.in-Some.task ∷ c.pop.new.self) = subst (AreTasks (masters_of c.args.cluster.now)) c.in-Some.ensures.some c.loop.invariant.lawful in
    elim c.if-not-is_spared.branch [
      | then-not-is_spared+in_ok-perform w ↦
          rw (w.cluster-is, w.progress-is, w.tasks-is) (record {
            eight = c.loop.invariant.eight;
            moves = more_moved g.R.Replica.segments g.R.Replica.faults c.args.cluster.now c.loop.cluster w.perform.new.cluster c.args.tasks c.loop.tasks w.perform.new.tasks c.args.progress.now c.loop.progress
                w.perform.new.progress c.loop.invariant.moves
                (subst (λ (left : List Task). MovesAll g.R.Replica.segments g.R.Replica.faults c.loop.cluster w.perform.new.cluster left w.perform.new.tasks c.loop.progress w.perform.new.progress)
                (sym c.in-Some.ensures.some) w.in_ok-perform.ensures.ok);
            lawful = subst (λ (masters : ℕ). AreTasks masters w.perform.new.tasks) (w.perform.ensures.masters ∙ c.loop.invariant.masters) w.in_ok-perform.ensures.lawful;
            few = omega (arith, w.perform.ensures.faults, c.loop.invariant.few);
            masters = w.perform.ensures.masters ∙ c.loop.invariant.masters;
            backups = w.perform.ensures.backups ∙ c.loop.invariant.backups;
            counts = w.in_ok-perform.ensures.failed c.args.cluster.now c.loop.invariant.counts;
          })
      | else-not-is_spared w ↦
          rw (w.cluster-is, w.progress-is, w.tasks-is) (record {
            eight = c.loop.invariant.eight;
            moves = more_moved g.R.Replica.segments g.R.Replica.faults c.args.cluster.now c.loop.cluster c.loop.cluster c.args.tasks c.loop.tasks c.pop.new.self c.args.progress.now c.loop.progress
                c.loop.progress c.loop.invariant.moves
                (subst (λ (left : List Task). MovesAll g.R.Replica.segments g.R.Replica.faults c.loop.cluster c.loop.cluster left c.pop.new.self c.loop.progress c.loop.progress)
                (sym c.in-Some.ensures.some) (c.is_spared.ensures w.if-not-is_spared.false c.pop.new.self c.loop.progress));
            lawful = All-tail (IsTask (masters_of c.args.cluster.now)) c.in-Some.task c.pop.new.self taken;
            few = omega (arith, c.loop.invariant.few);
            masters = c.loop.invariant.masters;
            backups = c.loop.invariant.backups;
            counts = c.loop.invariant.counts;
          })
    ]

pub is_spared-requires : goal.is_spared-requires
is_spared-requires g c =
    subst (λ (masters : ℕ). IsTask masters c.in-Some.task) (sym c.loop.invariant.masters)
    (All-head (IsTask (masters_of c.args.cluster.now)) c.in-Some.task c.pop.new.self
    (subst (AreTasks (masters_of c.args.cluster.now)) c.in-Some.ensures.some c.loop.invariant.lawful))

pub returns-clause-err : goal.returns-clause-err
returns-clause-err g c =
    λ command tells.
    fails_by g.R.Replica.segments g.R.Replica.faults c.args.cluster.now c.loop.cluster command c.args.tasks c.args.progress.now
    (record { faults = c.requires.faults; failing = c.requires.failing }) c.loop.invariant.eight tells c.loop.progress.said.items TooLong
    (says_after g.R.Replica.segments g.R.Replica.faults c.args.cluster.now c.loop.cluster c.loop.cluster c.args.tasks c.loop.tasks c.args.progress.now c.loop.progress c.loop.invariant.moves
    (counts_same g.R.Replica.faults c.loop.cluster))

pub returns-clause-kept : goal.returns-clause-kept
returns-clause-kept g c = c.loop.invariant.moves.kept

pub returns-clause-masters : goal.returns-clause-masters
returns-clause-masters g c = c.loop.invariant.masters

pub returns-clause-backups : goal.returns-clause-backups
returns-clause-backups g c = c.loop.invariant.backups

pub returns-clause-counts : goal.returns-clause-counts
returns-clause-counts g c =
    rounds_counted g.R.Replica.faults (failed_rounds c.loop.progress) c.args.cluster.now c.loop.cluster c.loop.invariant.counts
