use Rattle.rk_cluster.proofs.Words.{◌≡◌, ℕ, List, None, Some, Option, ap, rules, ◌∙◌, err_from_is_err_and, LaneState, Cluster, Occurrence}
use Rattle.rk_cluster.proofs.Words.{Event, next_tablet, state_of, LanesTell, Code}
use Rattle.rk_world.specs.declared.event.Event.TheVariants as events
use Rattle.rk_cluster.specs.Codes.{split_code}
use Rattle.rk_cluster.specs.Makes.{split_makes}
use Rattle.rk_cluster.proofs.Joining.{deeds_fit, deeds_in}
use Rattle.rk_cluster.proofs.Making.{carried_out, numbered_made, refused, stopped, told_of}
use Rattle.rk_cluster.proofs.Faults.{counts_same}
use Rattle.rk_cluster.proofs.cluster.Cluster.split.Goals as goal

abbrev code_of : ℕ → ℕ → Cluster → Option Code
code_of tablet at cluster = split_code cluster tablet at

abbrev makes_of : ℕ → ℕ → Cluster → List Occurrence
makes_of tablet at cluster = split_makes cluster tablet at

abbrev event_of : ℕ → ℕ → ℕ → Event
event_of tablet at number = events.Split tablet at number

pub returns-in_err-new-clause-err : goal.returns-in_err-new-clause-err
returns-in_err-new-clause-err g c =
    let lost = err_from_is_err_and c.from_residual.result c.from_residual.ensures.1 in
    let now = c.self.inside.sessions.entries in
    let here : state_of c.deref.result.now now ≡ c.args.self.now = ap (λ (lanes : List (LaneState g.row.R.Denot)). state_of lanes now) c.deref.ensures.value ∙ c.self.view_is in
    rw (lost.1, lost.2)
    (refused g.R.Replica.segments c.args.self.now (code_of c.args.tablet c.args.at) (makes_of c.args.tablet c.args.at)
    (λ code. LanesTell g.R.Replica.segments c.deref.result.now (code_of c.args.tablet c.args.at) (Some code)) c.in_err-new.field-0.0
    (λ code told. rw (← here) (told now)) c.in_err-new.ensures.err)

pub act_all-requires-clause-may : goal.act_all-requires-clause-may
act_all-requires-clause-may g c =
    rw c.in_all_lanes-deeds.ensures
    (deeds_fit c.self.inside.masters _ (event_of c.args.tablet c.args.at c.in_ok-new.new) c.self.invariant.count tt (search rules))

pub returns-in_err-act_all-clause-err : goal.returns-in_err-act_all-clause-err
returns-in_err-act_all-clause-err g c =
    let lost = err_from_is_err_and c.from_residual-in_err-act_all.result c.from_residual-in_err-act_all.ensures.1 in
    let lanes = c.self.inside.lanes.items in
    let now = c.self.inside.sessions.entries in
    let code = told_of g.R.Replica.segments c.deref.result.now lanes (code_of c.args.tablet c.args.at) None c.deref.ensures.value c.in_ok-new.ensures.code in
    let told = told_of g.R.Replica.segments c.deref.result.now lanes next_tablet c.in_ok-new.new c.deref.ensures.value c.in_ok-new.ensures.tablet in
    rw (lost.1, lost.2, ← c.self.view_is)
    (stopped _ lanes _ now (code_of c.args.tablet c.args.at) (makes_of c.args.tablet c.args.at) (deeds_in (event_of c.args.tablet c.args.at c.in_ok-new.new))
    (code now) (numbered_made _ lanes now (event_of c.args.tablet c.args.at) c.in_ok-new.new c.self.invariant.count told) _
    (rw c.in_all_lanes-deeds.ensures at c.in_err-act_all.ensures.err) (rw c.in_all_lanes-deeds.ensures at c.in_err-act_all.ensures.short))

pub returns-clause-ok : goal.returns-clause-ok
returns-clause-ok g c =
    let lanes = c.self.inside.lanes.items in
    let now = c.self.inside.sessions.entries in
    let code = told_of g.R.Replica.segments c.deref.result.now lanes (code_of c.args.tablet c.args.at) None c.deref.ensures.value c.in_ok-new.ensures.code in
    let told = told_of g.R.Replica.segments c.deref.result.now lanes next_tablet c.in_ok-new.new c.deref.ensures.value c.in_ok-new.ensures.tablet in
    rw (c.nothing_said.ensures, ← c.self.view_is)
    (carried_out _ lanes _ now (code_of c.args.tablet c.args.at) (makes_of c.args.tablet c.args.at) (deeds_in (event_of c.args.tablet c.args.at c.in_ok-new.new))
    (code now) (numbered_made _ lanes now (event_of c.args.tablet c.args.at) c.in_ok-new.new c.self.invariant.count told)
    (rw c.in_all_lanes-deeds.ensures at c.in_ok-act_all.ensures.ok))

pub returns-in_err-new-clause-counts : goal.returns-in_err-new-clause-counts
returns-in_err-new-clause-counts g c = counts_same g.R.Replica.faults c.args.self.now
