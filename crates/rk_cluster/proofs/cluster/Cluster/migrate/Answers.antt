use Rattle.rk_cluster.proofs.Words.{◌≡◌, ℕ, List, None, Some, Option, ap, ◌∙◌, err_from_is_err_and, LaneState, Cluster, Occurrence}
use Rattle.rk_cluster.proofs.Words.{migrate_code, lanes_without, state_of, LanesTell, Code}
use Rattle.rk_world.specs.declared.event.Event.TheVariants as events
use Rattle.rk_cluster.specs.Makes.{migrate_makes}
use Rattle.rk_cluster.proofs.Making.{carried_out, deeds_may, deeds_of, found_made, refused, stopped, told_of}
use Rattle.rk_cluster.proofs.Faults.{counts_same}
use Rattle.rk_cluster.proofs.Shortage.{nothing_done, same_short}
use Rattle.rk_cluster.proofs.cluster.Cluster.migrate.Goals as goal

abbrev code_of : ℕ → ℕ → Cluster → Option Code
code_of tablet to cluster = migrate_code cluster tablet to

abbrev makes_of : ℕ → ℕ → Cluster → List Occurrence
makes_of tablet to cluster = migrate_makes cluster tablet to

abbrev concerned_of : ℕ → ℕ → Cluster → List ℕ
concerned_of tablet to cluster = lanes_without cluster tablet to

pub returns-in_err-concerned-clause-err : goal.returns-in_err-concerned-clause-err
returns-in_err-concerned-clause-err g c =
    let lost = err_from_is_err_and c.from_residual.result c.from_residual.ensures.1 in
    let now = c.self.inside.sessions.entries in
    let here : state_of c.deref.result.now now ≡ c.args.self.now = ap (λ (lanes : List (LaneState g.row.R.Denot)). state_of lanes now) c.deref.ensures.value ∙ c.self.view_is in
    rw (lost.1, lost.2)
    (refused g.R.Replica.segments c.args.self.now (code_of c.args.tablet c.args.to) (makes_of c.args.tablet c.args.to)
    (λ code. LanesTell g.R.Replica.segments c.deref.result.now (code_of c.args.tablet c.args.to) (Some code)) c.in_err-concerned.field-0.0
    (λ code told. rw (← here) (told now)) c.in_err-concerned.ensures.err)

pub act_all-requires-clause-may : goal.act_all-requires-clause-may
act_all-requires-clause-may g c =
    rw (c.deref-3.ensures.value, c.in_ok-deeds.ensures, c.deref-2.ensures.value)
    (deeds_may c.self.inside.masters _ (events.Migrate c.args.tablet c.args.to) c.in_ok-concerned.concerned.items c.self.invariant.count tt
    c.in_ok-concerned.ensures.master c.in_ok-concerned.ensures.there)

pub returns-in_err-act_all-clause-err : goal.returns-in_err-act_all-clause-err
returns-in_err-act_all-clause-err g c =
    let lost = err_from_is_err_and c.from_residual-in_err-act_all.result c.from_residual-in_err-act_all.ensures.1 in
    let event = events.Migrate c.args.tablet c.args.to in
    let lanes = c.self.inside.lanes.items in
    let now = c.self.inside.sessions.entries in
    let found = c.in_ok-concerned.concerned.items in
    let deeds : c.deref-3.result.now ≡ deeds_of event found = c.deref-3.ensures.value ∙ c.in_ok-deeds.ensures ∙ ap (deeds_of event) c.deref-2.ensures.value in
    let code = told_of g.R.Replica.segments c.deref.result.now lanes (code_of c.args.tablet c.args.to) None c.deref.ensures.value c.in_ok-concerned.ensures.code in
    let told = told_of g.R.Replica.segments c.deref.result.now lanes (concerned_of c.args.tablet c.args.to) found c.deref.ensures.value c.in_ok-concerned.ensures.found in
    rw (lost.1, lost.2, ← c.self.view_is)
    (stopped _ lanes _ now (code_of c.args.tablet c.args.to) (makes_of c.args.tablet c.args.to) (deeds_of event found) (code now)
    (found_made _ lanes now event (concerned_of c.args.tablet c.args.to) found told) _
    (rw deeds at c.in_err-act_all.ensures.err) (rw deeds at c.in_err-act_all.ensures.short))

pub returns-in_err-deeds-clause-err : goal.returns-in_err-deeds-clause-err
returns-in_err-deeds-clause-err g c =
    let lost = err_from_is_err_and c.from_residual-in_err-deeds.result c.from_residual-in_err-deeds.ensures.1 in
    rw (lost.1, lost.2) (nothing_done _ _ _ _ (same_short c.args.self.now))

pub returns-clause-ok : goal.returns-clause-ok
returns-clause-ok g c =
    let event = events.Migrate c.args.tablet c.args.to in
    let lanes = c.self.inside.lanes.items in
    let now = c.self.inside.sessions.entries in
    let found = c.in_ok-concerned.concerned.items in
    let deeds : c.deref-3.result.now ≡ deeds_of event found = c.deref-3.ensures.value ∙ c.in_ok-deeds.ensures ∙ ap (deeds_of event) c.deref-2.ensures.value in
    let code = told_of g.R.Replica.segments c.deref.result.now lanes (code_of c.args.tablet c.args.to) None c.deref.ensures.value c.in_ok-concerned.ensures.code in
    let told = told_of g.R.Replica.segments c.deref.result.now lanes (concerned_of c.args.tablet c.args.to) found c.deref.ensures.value c.in_ok-concerned.ensures.found in
    rw (c.nothing_said.ensures, ← c.self.view_is)
    (carried_out _ lanes _ now (code_of c.args.tablet c.args.to) (makes_of c.args.tablet c.args.to) (deeds_of event found) (code now)
    (found_made _ lanes now event (concerned_of c.args.tablet c.args.to) found told) (rw deeds at c.in_ok-act_all.ensures.ok))

pub returns-in_err-concerned-clause-counts : goal.returns-in_err-concerned-clause-counts
returns-in_err-concerned-clause-counts g c = counts_same g.R.Replica.faults c.args.self.now

pub returns-in_err-deeds-clause-counts : goal.returns-in_err-deeds-clause-counts
returns-in_err-deeds-clause-counts g c = counts_same g.R.Replica.faults c.args.self.now
