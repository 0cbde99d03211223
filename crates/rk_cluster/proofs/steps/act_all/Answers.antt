use Rattle.rk_cluster.proofs.Words.{arith, err_from_is_err_and, Deed}
use Rattle.rk_world.specs.declared.event.Event.TheVariants as events
use Rattle.rk_cluster.proofs.Deeds.{acting_all, acting_none, acting_one, acting_short, acting_worn, may_come_at}
use Rattle.rk_cluster.proofs.Heard.{worn_weaker}
use Rattle.rk_cluster.proofs.Faults.{lanes_then}
use Rattle.rk_cluster.proofs.steps.act_all.Goals as goal

-- what is read past the end of the deeds
abbrev no_deed : Deed
no_deed = record { lane = 0; event = events.AddTablet 0 (record { table = 0; first = 0; last = 0 }) 0 }

pub act-requires-clause-may : goal.act-requires-clause-may
act-requires-clause-may g c =
    let may = c.requires.may c.loop-deed.deed-index no_deed c.loop-deed-test.true in
    may_come_at _ _ _ _ _ _ _ c.loop-deed.invariant no_deed c.loop-deed-test.true may

pub loop-deed-preserved : goal.loop-deed-preserved
loop-deed-preserved g c =
    let may = c.requires.may c.loop-deed.deed-index no_deed c.loop-deed-test.true in
    let its = c.in_ok-act.ensures in
    acting_one _ _ _ _ _ _ _ c.loop-deed.invariant no_deed c.loop-deed-test.true may _ its.ok its.lanes its.count its.backups its.counts

pub returns-in_err-act-clause-err : goal.returns-in_err-act-clause-err
returns-in_err-act-clause-err g c =
    let lost = err_from_is_err_and c.from_residual.result c.from_residual.ensures.1 in
    let may = c.requires.may c.loop-deed.deed-index no_deed c.loop-deed-test.true in
    rw (lost.1, lost.2)
    (worn_weaker _ _ _ (acting_worn _ _ _ _ _ _ _ c.loop-deed.invariant no_deed c.loop-deed-test.true may _) c.in_err-act.ensures.err)

pub returns-in_err-act-clause-short : goal.returns-in_err-act-clause-short
returns-in_err-act-clause-short g c =
    let lost = err_from_is_err_and c.from_residual.result c.from_residual.ensures.1 in
    rw lost.1 (acting_short _ _ _ _ _ _ _ c.loop-deed.invariant _ c.in_err-act.ensures.short)

pub returns-clause-ok : goal.returns-clause-ok
returns-clause-ok g c = acting_all _ _ _ _ _ _ _ c.loop-deed.invariant (omega (arith, c.loop-deed-test.false))

pub loop-deed-init : goal.loop-deed-init
loop-deed-init g c = acting_none _ _ _ _ _ c.requires.lanes

pub returns-in_err-act-clause-counts : goal.returns-in_err-act-clause-counts
returns-in_err-act-clause-counts g c =
    lanes_then g.R.Replica.faults c.args.lanes.now.items c.loop-deed.lanes.items c.act.new.lanes.items c.loop-deed.invariant.counts c.act.ensures.counts
