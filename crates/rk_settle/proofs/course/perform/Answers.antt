use Rattle.std.proofs.Common.{◌∷◌}
use Rattle.std.proofs.lemmas.Result.{IfErr-weaker, on_ok_weaker}
use Rattle.rk_settle.specs.declared.task.Task.TheVariants as made
use Rattle.rk_settle.proofs.Handing.{of_both, stops_first, stops_then}
use Rattle.rk_settle.proofs.Moving.{more_moved, one_moved}
use Rattle.rk_settle.proofs.course.perform.Goals as goal

-- a handing out: the task moves to it, and it goes on from there
pub returns-in-Some-clause-ok : goal.returns-in-Some-clause-ok
returns-in-Some-clause-ok g c =
    let it = c.in-Some.handing in
    on_ok_weaker c.hand_out.result
    (λ all.
    more_moved g.R.Replica.segments g.R.Replica.faults c.args.cluster.now c.args.cluster.now c.hand_out.new.cluster (c.args.task ∷ c.args.tasks.now)
    (made.Hands it.lane it.topic it.from ∷ c.args.tasks.now) c.hand_out.new.tasks c.args.progress.now c.args.progress.now c.hand_out.new.progress
    (one_moved g.R.Replica.segments g.R.Replica.faults c.args.cluster.now c.args.cluster.now (c.args.task ∷ c.args.tasks.now)
    (made.Hands it.lane it.topic it.from ∷ c.args.tasks.now) c.args.progress.now c.args.progress.now (c.in-Some.ensures.moves c.args.tasks.now c.args.progress.now))
    all)
    c.hand_out.ensures.ok

pub returns-in-Some-clause-err : goal.returns-in-Some-clause-err
returns-in-Some-clause-err g c =
    let it = c.in-Some.handing in
    IfErr-weaker c.hand_out.result _ _
    (λ e later.
    stops_then g.R.Replica.segments g.R.Replica.faults c.args.cluster.now c.args.cluster.now c.hand_out.new.cluster (c.args.task ∷ c.args.tasks.now)
    (made.Hands it.lane it.topic it.from ∷ c.args.tasks.now) c.args.progress.now c.args.progress.now c.hand_out.new.progress.said.items e
    (one_moved g.R.Replica.segments g.R.Replica.faults c.args.cluster.now c.args.cluster.now (c.args.task ∷ c.args.tasks.now)
    (made.Hands it.lane it.topic it.from ∷ c.args.tasks.now) c.args.progress.now c.args.progress.now (c.in-Some.ensures.moves c.args.tasks.now c.args.progress.now))
    later)
    c.hand_out.ensures.err

pub returns-in-Some-clause-cause : goal.returns-in-Some-clause-cause
returns-in-Some-clause-cause g c = IfErr-weaker c.hand_out.result _ _ (λ e never of_replicas. absurd (never of_replicas)) c.hand_out.ensures.cause

-- or one move
pub returns-in-None-clause-ok : goal.returns-in-None-clause-ok
returns-in-None-clause-ok g c =
    on_ok_weaker c.make_move.result
    (λ move.
    one_moved g.R.Replica.segments g.R.Replica.faults c.args.cluster.now c.make_move.new.cluster (c.args.task ∷ c.args.tasks.now) c.make_move.new.tasks c.args.progress.now
    c.make_move.new.progress move)
    c.make_move.ensures.ok

pub returns-in-None-clause-err : goal.returns-in-None-clause-err
returns-in-None-clause-err g c =
    of_both c.make_move.result _ _ _
    (λ e stops silent.
    stops_first g.R.Replica.segments g.R.Replica.faults c.args.cluster.now c.make_move.new.cluster (c.args.task ∷ c.args.tasks.now) c.args.progress.now
    c.make_move.new.progress.said.items e silent c.make_move.ensures.counts stops)
    c.make_move.ensures.err c.make_move.ensures.silent
