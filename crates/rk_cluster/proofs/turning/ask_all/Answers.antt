use Rattle.rk_cluster.proofs.Words.{arith, err_from_is_err_and, Asks}
use Rattle.rk_cluster.proofs.Heard.{worn_weaker}
use Rattle.rk_cluster.proofs.Turned.{asking_none, asking_one}
use Rattle.rk_cluster.proofs.Faults.{lanes_then}
use Rattle.rk_cluster.proofs.turning.ask_all.Goals as goal
use Rattle.rk_cluster.proofs.Parts.{come_all, come_short, come_worn}

pub ask_in-requires-clause-session : goal.ask_in-requires-clause-session
ask_in-requires-clause-session g c = c.loop-client.invariant.have c.loop-client.client-index 0 c.loop-client-test.true

pub loop-client-preserved : goal.loop-client-preserved
loop-client-preserved g c =
    let its = c.in_ok-ask_in.ensures in
    asking_one g.R.Replica.segments g.R.Replica.faults _ _ _ _ _ _ _ 0 c.loop-client-test.true its.ok its.lanes its.count its.backups its.counts its.acts its.clients
    c.loop-client.invariant

pub returns-in_err-ask_in-clause-err : goal.returns-in_err-ask_in-clause-err
returns-in_err-ask_in-clause-err g c =
    let lost = err_from_is_err_and c.from_residual.result c.from_residual.ensures.1 in
    rw (lost.1, lost.2)
    (worn_weaker _ _ _ (λ number one. come_worn g.R.Replica.segments (Asks c.args.lane) c.args.clients.now _ _ _ _ number 0 c.loop-client-test.true one
    c.loop-client.invariant.came) c.in_err-ask_in.ensures.err)

pub returns-in_err-ask_in-clause-short : goal.returns-in_err-ask_in-clause-short
returns-in_err-ask_in-clause-short g c =
    let lost = err_from_is_err_and c.from_residual.result c.from_residual.ensures.1 in
    rw lost.1 (come_short _ (Asks c.args.lane) c.args.clients.now _ _ _ _ c.loop-client.invariant.came c.in_err-ask_in.ensures.short)

pub returns-clause-ok : goal.returns-clause-ok
returns-clause-ok g c =
    come_all _ (Asks c.args.lane) c.args.clients.now _ _ _ (omega (arith, c.loop-client-test.false)) c.loop-client.invariant.came

pub loop-client-init : goal.loop-client-init
loop-client-init g c = asking_none _ _ _ _ _ _ c.requires.lanes c.requires.acts c.requires.clients

pub returns-in_err-ask_in-clause-counts : goal.returns-in_err-ask_in-clause-counts
returns-in_err-ask_in-clause-counts g c =
    lanes_then g.R.Replica.faults c.args.lanes.now.items c.loop-client.lanes.items c.ask_in.new.lanes.items c.loop-client.invariant.counts c.ask_in.ensures.counts
