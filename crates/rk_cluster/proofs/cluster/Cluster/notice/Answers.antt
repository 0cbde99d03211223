use Rattle.rk_cluster.proofs.Words.{true, sym, arith, rules, err_from_is_err_and, notice_code}
use Rattle.rk_world.specs.declared.event.Event.TheVariants as events
use Rattle.rk_cluster.specs.Makes.{notice_makes}
use Rattle.rk_cluster.proofs.Joining.{deeds_fit, deeds_in, made_in_all}
use Rattle.rk_cluster.proofs.Noticing.{is_within, notice_by}
use Rattle.rk_cluster.proofs.Worlds.{masters_at, there_read}
use Rattle.rk_cluster.proofs.Faults.{counts_same}
use Rattle.rk_cluster.proofs.cluster.Cluster.notice.Goals as goal
use Rattle.rk_cluster.proofs.Making.{carried_out, stopped}

pub act_all-requires-clause-may : goal.act_all-requires-clause-may
act_all-requires-clause-may g c =
    rw c.in_all_lanes-deeds.ensures (deeds_fit c.self.inside.masters _ (events.Notice c.args.master) c.self.invariant.count tt (search rules))

pub returns-in_err-act_all-clause-err : goal.returns-in_err-act_all-clause-err
returns-in_err-act_all-clause-err g c =
    let lost = err_from_is_err_and c.from_residual.result c.from_residual.ensures.1 in
    let lanes = c.self.inside.lanes.items in
    let now = c.self.inside.sessions.entries in
    let there = there_read lanes 0 c.index-first.result.now (omega (arith, c.self.invariant.count)) c.index-first.ensures in
    rw (lost.1, lost.2, ← c.self.view_is)
    (stopped _ lanes _ now (λ cluster. notice_code cluster c.args.master) (λ cluster. notice_makes cluster c.args.master) (deeds_in (events.Notice c.args.master))
    (notice_by _ lanes now c.index-first.result.now c.self.inside.masters c.args.master true c.crashed.result true there
    (masters_at c.self.inside.masters 0 lanes 0 _ there c.self.invariant.lanes) c.spent-spent.ensures.masters c.crashed.ensures
    (is_within c.args.master c.self.inside.masters (omega (arith, c.if-master-lt1.false)) (omega (arith, c.if-master-self.false))) c.if-not-crashed.false)
    (λ cluster is. sym (made_in_all _ lanes now (events.Notice c.args.master) c.self.invariant.count cluster is)) _
    (rw c.in_all_lanes-deeds.ensures at c.in_err-act_all.ensures.err) (rw c.in_all_lanes-deeds.ensures at c.in_err-act_all.ensures.short))

pub returns-clause-ok : goal.returns-clause-ok
returns-clause-ok g c =
    let lanes = c.self.inside.lanes.items in
    let now = c.self.inside.sessions.entries in
    let there = there_read lanes 0 c.index-first.result.now (omega (arith, c.self.invariant.count)) c.index-first.ensures in
    rw (c.nothing_said.ensures, ← c.self.view_is)
    (carried_out _ lanes _ now (λ cluster. notice_code cluster c.args.master) (λ cluster. notice_makes cluster c.args.master) (deeds_in (events.Notice c.args.master))
    (notice_by _ lanes now c.index-first.result.now c.self.inside.masters c.args.master true c.crashed.result true there
    (masters_at c.self.inside.masters 0 lanes 0 _ there c.self.invariant.lanes) c.spent-spent.ensures.masters c.crashed.ensures
    (is_within c.args.master c.self.inside.masters (omega (arith, c.if-master-lt1.false)) (omega (arith, c.if-master-self.false))) c.if-not-crashed.false)
    (λ cluster is. sym (made_in_all _ lanes now (events.Notice c.args.master) c.self.invariant.count cluster is))
    (rw c.in_all_lanes-deeds.ensures at c.in_ok-act_all.ensures.ok))

pub returns-then-master-lt1-clause-counts : goal.returns-then-master-lt1-clause-counts
returns-then-master-lt1-clause-counts g c = counts_same g.R.Replica.faults c.args.self.now

pub returns-then-not-crashed-clause-counts : goal.returns-then-not-crashed-clause-counts
returns-then-not-crashed-clause-counts g c = counts_same g.R.Replica.faults c.args.self.now
