use Rattle.rk_cluster.proofs.Words.{None, Some, IfErr-weaker, err_from_is_err_and, on_err_weaker, on_ok_weaker}
use Rattle.rk_cluster.proofs.Heard.{worn_weaker}
use Rattle.rk_cluster.proofs.Resending.{to_end, undelivered, undelivered_short, unforgotten_short, unsent, unsent_short}
use Rattle.rk_cluster.proofs.Worlds.{something_within}
use Rattle.rk_cluster.proofs.Faults.{lanes_then}
use Rattle.rk_cluster.proofs.cluster.again.again_in.Goals as goal

pub returns-in_err-act-clause-err : goal.returns-in_err-act-clause-err
returns-in_err-act-clause-err g c =
    let lost = err_from_is_err_and c.from_residual.result c.from_residual.ensures.1 in
    rw (lost.1, lost.2) (worn_weaker _ _ _ (unsent g.R.Replica.segments _ _ _ c.args.client c.args.number) c.in_err-act.ensures.err)

pub returns-in_err-act-2-clause-err : goal.returns-in_err-act-2-clause-err
returns-in_err-act-2-clause-err g c =
    let lost = err_from_is_err_and c.from_residual-in_err-act-2.result c.from_residual-in_err-act-2.ensures.1 in
    let its = something_within c.args.lanes.now.items c.args.lane c.requires.there in
    rw (lost.1, lost.2)
    (worn_weaker _ _ _ (undelivered g.R.Replica.segments _ _ _ _ c.args.client _ its.0 its.1 (c.requires.next its.0 its.1) c.in_ok-act.ensures.ok)
    c.in_err-act-2.ensures.err)

pub returns-clause-ok : goal.returns-clause-ok
returns-clause-ok g c =
    let its = something_within c.args.lanes.now.items c.args.lane c.requires.there in
    on_ok_weaker c.act-3.result
    (to_end g.R.Replica.segments _ _ _ _ _ c.args.client _ its.0 its.1 (c.requires.next its.0 its.1) c.in_ok-act.ensures.ok c.in_ok-act-2.ensures.ok None)
    c.act-3.ensures.ok

pub returns-clause-err : goal.returns-clause-err
returns-clause-err g c =
    let its = something_within c.args.lanes.now.items c.args.lane c.requires.there in
    IfErr-weaker c.act-3.result _ _ (λ e. worn_weaker _ _ e (λ broken.
    to_end g.R.Replica.segments _ _ _ _ _ c.args.client _ its.0 its.1 (c.requires.next its.0 its.1) c.in_ok-act.ensures.ok c.in_ok-act-2.ensures.ok (Some broken)))
    c.act-3.ensures.err

pub returns-in_err-act-2-clause-counts : goal.returns-in_err-act-2-clause-counts
returns-in_err-act-2-clause-counts g c = lanes_then g.R.Replica.faults _ _ _ c.act.ensures.counts c.act-2.ensures.counts

pub returns-clause-counts : goal.returns-clause-counts
returns-clause-counts g c =
    lanes_then g.R.Replica.faults _ _ _ (lanes_then g.R.Replica.faults _ _ _ c.act.ensures.counts c.act-2.ensures.counts) c.act-3.ensures.counts

pub returns-in_err-act-clause-short : goal.returns-in_err-act-clause-short
returns-in_err-act-clause-short g c =
    let lost = err_from_is_err_and c.from_residual.result c.from_residual.ensures.1 in
    rw lost.1 (unsent_short _ _ _ _ _ _ c.in_err-act.ensures.short)

pub returns-in_err-act-2-clause-short : goal.returns-in_err-act-2-clause-short
returns-in_err-act-2-clause-short g c =
    let lost = err_from_is_err_and c.from_residual-in_err-act-2.result c.from_residual-in_err-act-2.ensures.1 in
    rw lost.1 (undelivered_short _ _ _ _ _ _ _ c.in_ok-act.ensures.ok c.in_err-act-2.ensures.short)

pub returns-clause-short : goal.returns-clause-short
returns-clause-short g c =
    let its = something_within c.args.lanes.now.items c.args.lane c.requires.there in
    on_err_weaker c.act-3.result
    (unforgotten_short _ _ _ _ _ _ _ _ its.0 its.1 (c.requires.next its.0 its.1) c.in_ok-act.ensures.ok c.in_ok-act-2.ensures.ok) c.act-3.ensures.short
