use Rattle.rk_settle.proofs.Words.{ℕ, ◌∷◌, ◌∙◌, refl, sym, ap, subst, List, Cluster, IsOf, counts_same, forgets, MovesAll, Task}
use Rattle.std.proofs.lemmas.Result.{err_from_is_err_and}
use Rattle.rk_world.specs.declared.event.Event.TheVariants as events
use Rattle.rk_settle.specs.declared.task.Act.TheVariants as acts
use Rattle.rk_settle.specs.declared.task.Task.TheVariants as made
use Rattle.rk_settle.proofs.Courses.{happens_moves, happens_stops}
use Rattle.rk_settle.proofs.Handing.{delivered, found_one, handed, hands_none, stops_first, stops_then}
use Rattle.rk_settle.proofs.Moving.{one_moved}
use Rattle.rk_settle.proofs.course.hand_out.Goals as goal

-- no message is left
pub returns-in_default-clause-ok : goal.returns-in_default-clause-ok
returns-in_default-clause-ok g c =
    let it = c.args.handing in
    one_moved g.R.Replica.segments g.R.Replica.faults c.args.cluster.now c.args.cluster.now (made.Hands it.lane it.topic it.from ∷ c.args.tasks.now) c.args.tasks.now
    c.args.progress.now c.args.progress.now
    (hands_none g.R.Replica.segments g.R.Replica.faults c.args.cluster.now it.lane it.topic c.wire_of-wire.result.now
    (λ cluster stands. c.wire_of-wire.ensures _ (c.lane_of.ensures.lane cluster stands)) it.from c.args.tasks.now c.args.progress.now
    (sym c.oldest_after.ensures ∙ c.in_default.is))

pub returns-in_default-clause-counts : goal.returns-in_default-clause-counts
returns-in_default-clause-counts g c = counts_same g.R.Replica.faults c.args.cluster.now

-- no memory for the task that follows
pub returns-in_err-push-clause-err : goal.returns-in_err-push-clause-err
returns-in_err-push-clause-err g c =
    let it = c.args.handing in
    let lost = err_from_is_err_and c.from_residual.result c.from_residual.ensures.1 in
    rw (lost.1, lost.2)
    (stops_first g.R.Replica.segments g.R.Replica.faults c.args.cluster.now c.args.cluster.now (made.Hands it.lane it.topic it.from ∷ c.args.tasks.now) c.args.progress.now
    c.args.progress.now.said.items _ refl (counts_same g.R.Replica.faults c.args.cluster.now) tt)

pub returns-in_err-push-clause-counts : goal.returns-in_err-push-clause-counts
returns-in_err-push-clause-counts g c = counts_same g.R.Replica.faults c.args.cluster.now

-- the message is not delivered
pub returns-in_err-deliver-clause-err : goal.returns-in_err-deliver-clause-err
returns-in_err-deliver-clause-err g c =
    let it = c.args.handing in
    let wire_is = λ (cluster : Cluster) (stands : IsOf g.R.Replica.segments c.args.cluster.now cluster). c.wire_of-wire.ensures _ (c.lane_of.ensures.lane cluster stands) in
    let found = sym c.oldest_after.ensures ∙ c.in-Some.is in
    let lost = err_from_is_err_and c.from_residual-in_err-deliver.result c.from_residual-in_err-deliver.ensures.1 in
    rw (lost.1, lost.2)
    (stops_then g.R.Replica.segments g.R.Replica.faults c.args.cluster.now c.args.cluster.now c.deliver.new.cluster (made.Hands it.lane it.topic it.from ∷ c.args.tasks.now)
    (made.Delivers it.lane c.in-Some.number ∷ forgets it.lane c.in-Some.number ∷ made.Sorts it.lane it.topic c.in-Some.number c.wire_of-wire.result.now.sent ∷ c.args.tasks.now)
    c.args.progress.now c.args.progress.now c.deliver.new.progress.said.items c.in_err-deliver.field-0.0
    (found_one g.R.Replica.segments g.R.Replica.faults c.args.cluster.now c.args.cluster.now it.lane it.topic c.wire_of-wire.result.now wire_is it.from c.in-Some.number found
    c.args.tasks.now c.args.progress.now c.args.progress.now)
    (stops_first g.R.Replica.segments g.R.Replica.faults c.args.cluster.now c.deliver.new.cluster _ c.args.progress.now c.deliver.new.progress.said.items c.in_err-deliver.field-0.0
    c.in_err-deliver.ensures.silent c.deliver.ensures.counts (c.in_err-deliver.ensures.err _)))

-- it is delivered and forgotten
pub returns-clause-ok : goal.returns-clause-ok
returns-clause-ok g c =
    let it = c.args.handing in
    let wire_is = λ (cluster : Cluster) (stands : IsOf g.R.Replica.segments c.args.cluster.now cluster). c.wire_of-wire.ensures _ (c.lane_of.ensures.lane cluster stands) in
    let found = sym c.oldest_after.ensures ∙ c.in-Some.is in
    subst (λ (left : List Task). MovesAll g.R.Replica.segments g.R.Replica.faults c.args.cluster.now c.lose.new.self (made.Hands it.lane it.topic it.from ∷ c.args.tasks.now) left
    c.args.progress.now c.deliver.new.progress) (sym (c.in_ok-push.ensures ∙ ap (λ (last : ℕ). made.Sorts it.lane it.topic c.in-Some.number last ∷ c.args.tasks.now) c.sent-last.ensures))
    (handed g.R.Replica.segments g.R.Replica.faults c.args.cluster.now c.deliver.new.cluster it.lane it.topic c.wire_of-wire.result.now wire_is it.from c.in-Some.number found
    c.args.tasks.now c.args.progress.now c.deliver.new.progress c.lose.new.self (c.in_ok-deliver.ensures.ok _)
    (happens_moves g.R.Replica.segments g.R.Replica.faults c.deliver.new.cluster c.lose.new.self it.lane (acts.Happens (events.Forget c.in-Some.number)) (events.Forget c.in-Some.number) refl
    c.lose.ensures.acts c.lose.ensures.counts _ c.deliver.new.progress))
