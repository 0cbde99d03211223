use Rattle.rk_cluster.proofs.Words.{◌≡◌, ℕ, List, Some, Option, ap, rules, ◌∙◌, err_from_is_err_and, LaneState, Cluster, Occurrence, Event}
use Rattle.rk_cluster.proofs.Words.{table_code, HasCode, next_tablet, state_of, Code}
use Rattle.rk_world.specs.declared.event.Event.TheVariants as events
use Rattle.rk_cluster.specs.Makes.{table_makes, whole_table}
use Rattle.rk_cluster.proofs.Joining.{deeds_fit, deeds_in}
use Rattle.rk_cluster.proofs.Making.{carried_out, numbered_made, refused, stopped, told_of}
use Rattle.rk_cluster.proofs.Faults.{counts_same}
use Rattle.rk_cluster.proofs.cluster.Cluster.add_table.Goals as goal

abbrev code_of : ℕ → ℕ → Cluster → Option Code
code_of table master cluster = table_code cluster table master

abbrev makes_of : ℕ → ℕ → Cluster → List Occurrence
makes_of table master cluster = table_makes cluster table master

abbrev event_of : ℕ → ℕ → ℕ → Event
event_of table master number = events.AddTablet number (whole_table table) master

pub returns-in_err-tablet-clause-err : goal.returns-in_err-tablet-clause-err
returns-in_err-tablet-clause-err g c =
    let lost = err_from_is_err_and c.from_residual.result c.from_residual.ensures.1 in
    let now = c.self.inside.sessions.entries in
    let here : state_of c.deref.result.now now ≡ c.args.self.now = ap (λ (lanes : List (LaneState g.row.R.Denot)). state_of lanes now) c.deref.ensures.value ∙ c.self.view_is in
    rw (lost.1, lost.2)
    (refused g.R.Replica.segments c.args.self.now (code_of c.args.table c.args.master) (makes_of c.args.table c.args.master)
    (λ code. HasCode g.R.Replica.segments (state_of c.deref.result.now now) (code_of c.args.table c.args.master) (Some code)) c.in_err-tablet.field-0.0
    (λ code told. rw (← here) told) c.in_err-tablet.ensures.err)

pub act_all-requires-clause-may : goal.act_all-requires-clause-may
act_all-requires-clause-may g c =
    rw c.in_all_lanes-deeds.ensures
    (deeds_fit c.self.inside.masters _ (event_of c.args.table c.args.master c.in_ok-tablet.tablet) c.self.invariant.count tt (search rules))

pub returns-in_err-act_all-clause-err : goal.returns-in_err-act_all-clause-err
returns-in_err-act_all-clause-err g c =
    let lost = err_from_is_err_and c.from_residual-in_err-act_all.result c.from_residual-in_err-act_all.ensures.1 in
    let lanes = c.self.inside.lanes.items in
    let told = told_of g.R.Replica.segments c.deref.result.now lanes next_tablet c.in_ok-tablet.tablet c.deref.ensures.value c.in_ok-tablet.ensures.tablet in
    rw (lost.1, lost.2, ← c.self.view_is)
    (stopped _ lanes _ _ (code_of c.args.table c.args.master) (makes_of c.args.table c.args.master)
    (deeds_in (event_of c.args.table c.args.master c.in_ok-tablet.tablet)) (rw c.deref.ensures.value at c.in_ok-tablet.ensures.code)
    (numbered_made _ lanes _ (event_of c.args.table c.args.master) c.in_ok-tablet.tablet c.self.invariant.count told) _
    (rw c.in_all_lanes-deeds.ensures at c.in_err-act_all.ensures.err) (rw c.in_all_lanes-deeds.ensures at c.in_err-act_all.ensures.short))

pub returns-clause-ok : goal.returns-clause-ok
returns-clause-ok g c =
    let lanes = c.self.inside.lanes.items in
    let told = told_of g.R.Replica.segments c.deref.result.now lanes next_tablet c.in_ok-tablet.tablet c.deref.ensures.value c.in_ok-tablet.ensures.tablet in
    rw (c.nothing_said.ensures, ← c.self.view_is)
    (carried_out _ lanes _ _ (code_of c.args.table c.args.master) (makes_of c.args.table c.args.master)
    (deeds_in (event_of c.args.table c.args.master c.in_ok-tablet.tablet)) (rw c.deref.ensures.value at c.in_ok-tablet.ensures.code)
    (numbered_made _ lanes _ (event_of c.args.table c.args.master) c.in_ok-tablet.tablet c.self.invariant.count told)
    (rw c.in_all_lanes-deeds.ensures at c.in_ok-act_all.ensures.ok))

pub returns-in_err-tablet-clause-counts : goal.returns-in_err-tablet-clause-counts
returns-in_err-tablet-clause-counts g c = counts_same g.R.Replica.faults c.args.self.now
