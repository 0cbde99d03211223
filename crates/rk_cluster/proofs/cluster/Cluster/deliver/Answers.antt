use Rattle.rk_cluster.proofs.Words.{◌≡◌, None, Some, refl, sym, ◌∙◌, arith, err_from_is_err_and, number_at, Kept}
use Rattle.rk_cluster.proofs.Deliveries.{carried_out, ends, unlisted}
use Rattle.rk_cluster.proofs.Forgetting.{place_by}
use Rattle.rk_cluster.proofs.Worlds.{there_read}
use Rattle.rk_cluster.proofs.Faults.{counts_same}
use Rattle.rk_cluster.proofs.cluster.Cluster.deliver.Goals as goal

pub returns-in_default-clause-err : goal.returns-in_default-clause-err
returns-in_default-clause-err g c =
    let lanes = c.self.inside.lanes.items in
    let there = there_read lanes c.args.lane c.index.result.now (omega (arith, c.requires, c.self.invariant.count)) c.index.ensures in
    record {
      fate = Kept;
      counts = counts_same g.R.Replica.faults c.args.self.now;
      holds = (
        rw (← c.self.view_is)
            (place_by _ lanes c.self.inside.sessions.entries _ _ c.wire.result.now there c.wire.ensures c.args.place None (sym c.at.ensures ∙ c.in_default.is)),
        refl,
      );
    }

pub returns-in_err-delivered-clause-err : goal.returns-in_err-delivered-clause-err
returns-in_err-delivered-clause-err g c =
    let failure = err_from_is_err_and c.from_residual.result c.from_residual.ensures.1 in
    let lanes = c.self.inside.lanes.items in
    let there = there_read lanes c.args.lane c.index.result.now (omega (arith, c.requires, c.self.invariant.count)) c.index.ensures in
    let found : number_at c.args.place c.wire.result.now ≡ Some c.in-Some.number = sym c.at.ensures ∙ c.in-Some.is in
    let its = c.in_err-delivered.ensures in
    rw (failure.1, failure.2, ← c.self.view_is)
    (ends g.R.Replica.segments g.R.Replica.faults lanes c.self.inside.sessions.entries _ _ _ _ there c.wire.ensures c.args.place _ found _
    (rw (← c.self.view_is) at its.counts) (rw (← c.self.view_is) at its.err) (rw (← c.self.view_is) at its.short))

pub returns-in_err-listed-clause-err : goal.returns-in_err-listed-clause-err
returns-in_err-listed-clause-err g c =
    let failure = err_from_is_err_and c.from_residual-in_err-listed.result c.from_residual-in_err-listed.ensures.1 in
    let lanes = c.self.inside.lanes.items in
    let there = there_read lanes c.args.lane c.index.result.now (omega (arith, c.requires, c.self.invariant.count)) c.index.ensures in
    let found : number_at c.args.place c.wire.result.now ≡ Some c.in-Some.number = sym c.at.ensures ∙ c.in-Some.is in
    rw (failure.1, failure.2, ← c.self.view_is)
    (unlisted g.R.Replica.segments g.R.Replica.faults lanes c.self.inside.sessions.entries _ _ _ _ there c.wire.ensures c.args.place _ found
    c.in_ok-delivered.delivered (rw (← c.self.view_is) at c.in_ok-delivered.ensures.ok))

pub returns-clause-ok : goal.returns-clause-ok
returns-clause-ok g c =
    let lanes = c.self.inside.lanes.items in
    let there = there_read lanes c.args.lane c.index.result.now (omega (arith, c.requires, c.self.invariant.count)) c.index.ensures in
    let found : number_at c.args.place c.wire.result.now ≡ Some c.in-Some.number = sym c.at.ensures ∙ c.in-Some.is in
    rw (c.in_ok-listed.ensures, ← c.self.view_is)
    (carried_out g.R.Replica.segments g.R.Replica.faults lanes c.self.inside.sessions.entries _ _ _ _ there c.wire.ensures c.args.place _ found
    c.in_ok-delivered.delivered (rw (← c.self.view_is) at c.in_ok-delivered.ensures.ok))

pub returns-in_default-clause-counts : goal.returns-in_default-clause-counts
returns-in_default-clause-counts g c = counts_same g.R.Replica.faults c.args.self.now
