use Rattle.rk_cluster.proofs.Words.{◌≡◌, None, Some, refl, sym, ◌∙◌, arith, number_at}
use Rattle.rk_cluster.proofs.Forgetting.{forgets, place_by}
use Rattle.rk_cluster.proofs.Worlds.{there_read}
use Rattle.rk_cluster.proofs.Faults.{counts_same}
use Rattle.rk_cluster.proofs.cluster.Cluster.forget.Goals as goal

pub returns-in_default-clause-err : goal.returns-in_default-clause-err
returns-in_default-clause-err g c =
    let lanes = c.self.inside.lanes.items in
    let there = there_read lanes c.args.lane c.index.result.now (omega (arith, c.requires, c.self.invariant.count)) c.index.ensures in (
      rw (← c.self.view_is)
          (place_by _ lanes c.self.inside.sessions.entries _ _ c.wire.result.now there c.wire.ensures c.args.place None (sym c.at.ensures ∙ c.in_default.is)),
      refl,
    )

pub returns-clause-ok : goal.returns-clause-ok
returns-clause-ok g c =
    let lanes = c.self.inside.lanes.items in
    let now = c.self.inside.sessions.entries in
    let wire = c.wire.result.now in
    let there = there_read lanes c.args.lane c.index.result.now (omega (arith, c.requires, c.self.invariant.count)) c.index.ensures in
    let found : number_at c.args.place wire ≡ Some c.in-Some.number = sym c.at.ensures ∙ c.in-Some.is in
    rw (c.nothing_said.ensures, ← c.self.view_is)
    (record {
      code = place_by _ lanes now _ _ wire there c.wire.ensures c.args.place _ found;
      acts = forgets _ lanes now _ _ wire there c.wire.ensures c.args.place _ _ found c.lose.ensures.happens;
    })

pub returns-in_default-clause-counts : goal.returns-in_default-clause-counts
returns-in_default-clause-counts g c = counts_same g.R.Replica.faults c.args.self.now
