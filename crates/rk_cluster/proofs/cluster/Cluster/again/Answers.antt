use Rattle.rk_cluster.proofs.Words.{◌≡◌, ◌+◌, None, Some, refl, sym, ◌∙◌, arith, err_from_is_err_and, get, get_tree, IsSentAgain}
use Rattle.rk_cluster.proofs.Joining.{ends_in}
use Rattle.rk_cluster.proofs.Resending.{again_acts, again_code_by, again_short, again_unknown, few_sent, next_in}
use Rattle.rk_cluster.proofs.Worlds.{there_read}
use Rattle.rk_cluster.proofs.Faults.{counts_same}
use Rattle.rk_cluster.proofs.Shortage.{nothing_done, same_short}
use Rattle.rk_cluster.proofs.cluster.Cluster.again.Goals as goal

pub returns-in_default-clause-err : goal.returns-in_default-clause-err
returns-in_default-clause-err g c =
    let absent : get c.self.inside.sessions.entries c.args.client ≡ None = get_tree c.self.inside.sessions c.args.client ∙ sym c.in_default.ensures.value in
    (rw (← c.self.view_is) (again_unknown _ c.self.inside.lanes.items _ c.args.client absent), refl)

pub returns-in_default-sent_in-clause-err : goal.returns-in_default-sent_in-clause-err
returns-in_default-sent_in-clause-err g c =
    let now = c.self.inside.sessions.entries in
    let found : get now c.args.client ≡ Some c.in-Some.session.now = get_tree c.self.inside.sessions c.args.client ∙ sym c.in-Some.ensures.value in
    (rw (← c.self.view_is) (again_code_by _ c.self.inside.lanes.items now c.args.client _ None found (sym c.in_default-sent_in.ensures.lane)), refl)

pub overflow_add-next : goal.overflow_add-next
overflow_add-next g c =
    let few =
    few_sent c.index-its.result.now c.wire.result.now c.sent-next.result c.spent.result c.spent.ensures.spent c.if-spent.false c.sent-next.ensures c.wire.ensures c.spent.ensures.formed in
    omega (arith, few)

pub again_in-requires-clause-next : goal.again_in-requires-clause-next
again_in-requires-clause-next g c = λ lane there.
    let its = c.index-its.result.now in
    let here = there_read c.self.inside.lanes.items c.in-Some-sent_in.lane its (omega (arith, c.in-Some-sent_in.ensures.there, c.self.invariant.count)) c.index-its.ensures in
    let same : its ≡ lane = cc (here, there) in
    rw (← same) (next_in its _ c.sent-next.result c.sent-next.ensures c.wire.ensures c.spent.ensures.formed c.spent.ensures.requests)

pub returns-in_err-again_in-clause-err : goal.returns-in_err-again_in-clause-err
returns-in_err-again_in-clause-err g c =
    let lost = err_from_is_err_and c.from_residual.result c.from_residual.ensures.1 in
    let lanes = c.self.inside.lanes.items in
    let now = c.self.inside.sessions.entries in
    let new = c.again_in.new.lanes.items in
    let number = c.sent-next.result + 1 in
    let its = c.index-its.result.now in
    let here = there_read lanes c.in-Some-sent_in.lane its (omega (arith, c.in-Some-sent_in.ensures.there, c.self.invariant.count)) c.index-its.ensures in
    let next = next_in its c.wire.result.now c.sent-next.result c.sent-next.ensures c.wire.ensures c.spent.ensures.formed c.spent.ensures.requests in
    let found : get now c.args.client ≡ Some c.in-Some.session.now = get_tree c.self.inside.sessions c.args.client ∙ sym c.in-Some.ensures.value in
    let sent = sym c.in-Some-sent_in.ensures.lane in
    rw (lost.1, lost.2, ← c.self.view_is)
    (ends_in _ (λ broken. IsSentAgain g.R.Replica.segments lanes new c.in-Some-sent_in.lane c.args.client number (Some broken)) _ _ _ _ _
    (again_code_by _ lanes now c.args.client _ _ found sent)
    (λ broken. again_acts _ lanes now c.args.client _ _ number its new (Some broken) found sent here next) c.in_err-again_in.ensures.err
    (again_short _ lanes now c.args.client _ _ number its new found sent here next c.in_err-again_in.ensures.short))

pub returns-then-spent-clause-err : goal.returns-then-spent-clause-err
returns-then-spent-clause-err g c = nothing_done _ _ _ _ (same_short c.args.self.now)

pub returns-clause-ok : goal.returns-clause-ok
returns-clause-ok g c =
    let lanes = c.self.inside.lanes.items in
    let now = c.self.inside.sessions.entries in
    let its = c.index-its.result.now in
    let here = there_read lanes c.in-Some-sent_in.lane its (omega (arith, c.in-Some-sent_in.ensures.there, c.self.invariant.count)) c.index-its.ensures in
    let next = next_in its c.wire.result.now c.sent-next.result c.sent-next.ensures c.wire.ensures c.spent.ensures.formed c.spent.ensures.requests in
    let found : get now c.args.client ≡ Some c.in-Some.session.now = get_tree c.self.inside.sessions c.args.client ∙ sym c.in-Some.ensures.value in
    let sent = sym c.in-Some-sent_in.ensures.lane in
    rw (c.nothing_said.ensures, ← c.self.view_is)
    (record {
      code = again_code_by _ lanes now c.args.client _ _ found sent;
      acts = again_acts _ lanes now c.args.client _ _ (c.sent-next.result + 1) its _ None found sent here next c.in_ok-again_in.ensures.ok;
    })

pub returns-in_default-clause-counts : goal.returns-in_default-clause-counts
returns-in_default-clause-counts g c = counts_same g.R.Replica.faults c.args.self.now

pub returns-in_default-sent_in-clause-counts : goal.returns-in_default-sent_in-clause-counts
returns-in_default-sent_in-clause-counts g c = counts_same g.R.Replica.faults c.args.self.now

pub returns-then-spent-clause-counts : goal.returns-then-spent-clause-counts
returns-then-spent-clause-counts g c = counts_same g.R.Replica.faults c.args.self.now
