use Rattle.rk_cluster.proofs.Words.{true, false, sym, ◌∙◌, arith, crash_code}
use Rattle.rk_world.specs.declared.event.Event.TheVariants as events
use Rattle.rk_cluster.specs.Makes.{crash_makes}
use Rattle.rk_cluster.proofs.Crashing.{crash_by}
use Rattle.rk_cluster.proofs.Noticing.{is_within}
use Rattle.rk_cluster.proofs.Worlds.{masters_at, there_read}
use Rattle.rk_cluster.proofs.Faults.{counts_same}
use Rattle.rk_cluster.proofs.cluster.Cluster.crash.Goals as goal
use Rattle.rk_cluster.proofs.Making.{carried_out}
use Rattle.rk_cluster.proofs.Joining.{deeds_in, made_in_all}

pub returns-clause-ok : goal.returns-clause-ok
returns-clause-ok g c =
    let lanes = c.self.inside.lanes.items in
    let now = c.self.inside.sessions.entries in
    let there = there_read lanes 0 c.index-first.result.now (omega (arith, c.self.invariant.count)) c.index-first.ensures in
    rw (c.nothing_said.ensures, ← c.self.view_is)
    (carried_out _ lanes _ now (λ cluster. crash_code cluster c.args.master) (λ cluster. crash_makes cluster c.args.master) (deeds_in (events.Crash c.args.master))
    (crash_by _ lanes now c.index-first.result.now c.self.inside.masters c.args.master true c.crashed.result false true there
    (masters_at c.self.inside.masters 0 lanes 0 _ there c.self.invariant.lanes) c.spent-spent.ensures.masters c.crashed.ensures
    (is_within c.args.master c.self.inside.masters (omega (arith, c.if-master-lt1.false)) (omega (arith, c.if-master-self.false))) c.if-crashed.false
    (λ worlds are. sym c.if-not-lives_another.false ∙ c.lives_another.ensures.value worlds (rw c.deref.ensures.value are)))
    (λ cluster is. sym (made_in_all _ lanes now (events.Crash c.args.master) c.self.invariant.count cluster is)) c.crash_all.ensures.acts)

pub returns-then-master-lt1-clause-counts : goal.returns-then-master-lt1-clause-counts
returns-then-master-lt1-clause-counts g c = counts_same g.R.Replica.faults c.args.self.now

pub returns-then-crashed-clause-counts : goal.returns-then-crashed-clause-counts
returns-then-crashed-clause-counts g c = counts_same g.R.Replica.faults c.args.self.now

pub returns-then-not-lives_another-clause-counts : goal.returns-then-not-lives_another-clause-counts
returns-then-not-lives_another-clause-counts g c = counts_same g.R.Replica.faults c.args.self.now
