use Rattle.rk_cluster.proofs.Words.{Some, sym, ap, ◌∙◌, err_from_is_err_and, is_backup, state_of}
use Rattle.std.proofs.lemmas.Bool.{and_parts}
use Rattle.rk_cluster.proofs.Deliveries.{arrives, client_short, delivers_node, delivery_client, delivery_node, delivery_nothing, delivery_stranger, no_receiver}
use Rattle.rk_cluster.proofs.Deliveries.{received, short_delivery}
use Rattle.rk_cluster.proofs.Failing.{for_backup}
use Rattle.rk_cluster.proofs.Heard.{worn_weaker}
use Rattle.rk_cluster.proofs.Shortage.{lanes_short, same_short}
use Rattle.rk_cluster.proofs.Worlds.{there_read}
use Rattle.rk_cluster.proofs.Faults.{lanes_same}
use Rattle.rk_cluster.proofs.delivering.deliver_in.Goals as goal

pub returns-in_default-clause-ok : goal.returns-in_default-clause-ok
returns-in_default-clause-ok g c =
    rw c.quietly.ensures
    (delivery_nothing g.R.Replica.segments g.R.Replica.faults _ _ _ _ _ _ (there_read _ _ _ c.requires.there c.index.ensures) c.wire.ensures
    (no_receiver c.args.number c.wire.result.now c.in_default.field-0 c.in_default.ensures.err))

pub returns-in_err-message-clause-short : goal.returns-in_err-message-clause-short
returns-in_err-message-clause-short g c =
    let failure = err_from_is_err_and c.from_residual.result c.from_residual.ensures.1 in
    rw failure.1 (short_delivery _ _ _ _ _ _ (lanes_same g.R.Replica.faults c.args.lanes.now.items) (same_short _))

pub returns-in_err-message-clause-counts : goal.returns-in_err-message-clause-counts
returns-in_err-message-clause-counts g c = lanes_same g.R.Replica.faults c.args.lanes.now.items

pub deliver_told-requires-clause-arrives : goal.deliver_told-requires-clause-arrives
deliver_told-requires-clause-arrives g c =
    arrives c.args.lanes.now.items c.args.lane c.args.number _ c.wire.result.now c.in_ok-message.message _ (there_read _ _ _ c.requires.there c.index.ensures) c.wire.ensures
    c.in-Ok.ensures.ok c.in_ok-message.ensures

pub returns-in_err-lost : goal.returns-in_err-lost
returns-in_err-lost g c =
    let failure = err_from_is_err_and c.from_residual-in_err-lost.result c.from_residual-in_err-lost.ensures.1 in
    let there = there_read _ _ _ c.requires.there c.index.ensures in
    let to_is = received c.args.number c.wire.result.now c.in-Ok.frame.now c.to-to.result c.in-Ok.ensures.ok c.to-to.ensures in
    let its = c.in_err-lost.ensures in
    rw (failure.1, failure.2)
    (record {
      ok = tt;
      err = worn_weaker _ _ _ (λ worn. delivers_node g.R.Replica.segments g.R.Replica.faults _ c.args.sessions.now.entries _ _ _ _ there c.wire.ensures
          _ c.to-to.result (Some worn) c.in_default-to.not-Client to_is) its.err;
      short = short_delivery _ _ _ _ _ _ its.counts (lanes_short _ _ _ its.short);
      lanes = its.lanes c.args.masters c.requires.lanes;
      count = its.count;
      backups = its.backups;
      counts = its.counts;
      failed = tt;
      acts = c.requires.acts;
    })

pub returns-in_default-to : goal.returns-in_default-to
returns-in_default-to g c =
    let there = there_read _ _ _ c.requires.there c.index.ensures in
    let to_is = received c.args.number c.wire.result.now c.in-Ok.frame.now c.to-to.result c.in-Ok.ensures.ok c.to-to.ensures in
    let its = c.in_ok-lost.ensures in
    record {
      ok = rw c.is_lost_at_backup.ensures
          (delivery_node g.R.Replica.segments g.R.Replica.faults _ _ _ _ _ _ there c.wire.ensures _ c.to-to.result c.in_ok-lost.lost c.in_default-to.not-Client
          to_is its.ok);
      err = tt;
      short = tt;
      lanes = its.lanes c.args.masters c.requires.lanes;
      count = its.count;
      backups = its.backups;
      counts = its.counts;
      failed = λ failed.
          let both = and_parts (is_backup (Some c.to-to.result)) c.in_ok-lost.lost (sym c.is_lost_at_backup.ensures ∙ failed) in
          its.failed
          (for_backup c.args.lanes.now.items c.args.lane c.args.number c.index.result.now c.wire.result.now c.to-to.result there c.wire.ensures to_is both.0)
          both.1;
      acts = c.requires.acts;
    }

pub returns-then-not-has_session-clause-ok : goal.returns-then-not-has_session-clause-ok
returns-then-not-has_session-clause-ok g c =
    let to_is = received c.args.number c.wire.result.now c.in-Ok.frame.now c.to-to.result c.in-Ok.ensures.ok c.to-to.ensures in
    rw c.quietly-then-not-has_session.ensures
    (delivery_stranger g.R.Replica.segments g.R.Replica.faults _ _ _ _ _ _ (there_read _ _ _ c.requires.there c.index.ensures) c.wire.ensures
    c.in-Client.client (to_is ∙ ap Some c.in-Client.is) (sym c.has_session.ensures ∙ c.if-not-has_session.true))

pub returns-in_err-message-2-clause-short : goal.returns-in_err-message-2-clause-short
returns-in_err-message-2-clause-short g c =
    let failure = err_from_is_err_and c.from_residual-in_err-message-2.result c.from_residual-in_err-message-2.ensures.1 in
    rw failure.1 (short_delivery _ _ _ _ _ _ (lanes_same g.R.Replica.faults c.args.lanes.now.items) (same_short _))

pub returns-in_err-message-2-clause-counts : goal.returns-in_err-message-2-clause-counts
returns-in_err-message-2-clause-counts g c = lanes_same g.R.Replica.faults c.args.lanes.now.items

pub accept_in-requires-clause-arrives : goal.accept_in-requires-clause-arrives
accept_in-requires-clause-arrives g c =
    arrives c.args.lanes.now.items c.args.lane c.args.number _ c.wire.result.now c.in_ok-message-2.message _ (there_read _ _ _ c.requires.there c.index.ensures) c.wire.ensures
    c.in-Ok.ensures.ok c.in_ok-message-2.ensures

pub returns-clause-ok : goal.returns-clause-ok
returns-clause-ok g c =
    let to_is = received c.args.number c.wire.result.now c.in-Ok.frame.now c.to-to.result c.in-Ok.ensures.ok c.to-to.ensures in
    delivery_client g.R.Replica.segments g.R.Replica.faults _ _ _ _ _ _ (there_read _ _ _ c.requires.there c.index.ensures) c.wire.ensures
    (state_of c.accept_in.new.lanes.items c.accept_in.new.sessions.entries) c.in-Client.client c.in_ok-said.said (to_is ∙ ap Some c.in-Client.is)
    (sym c.has_session.ensures ∙ c.if-not-has_session.false) c.in_ok-said.ensures.counts c.in_ok-said.ensures.ok

pub returns-in_err-said-clause-short : goal.returns-in_err-said-clause-short
returns-in_err-said-clause-short g c =
    let lost = err_from_is_err_and c.from_residual-in_err-said.result c.from_residual-in_err-said.ensures.1 in
    let to_is = received c.args.number c.wire.result.now c.in-Ok.frame.now c.to-to.result c.in-Ok.ensures.ok c.to-to.ensures in
    rw lost.1
    (client_short g.R.Replica.segments g.R.Replica.faults _ _ _ _ _ _ (there_read _ _ _ c.requires.there c.index.ensures) c.wire.ensures
    (state_of c.accept_in.new.lanes.items c.accept_in.new.sessions.entries) c.in-Client.client (to_is ∙ ap Some c.in-Client.is)
    (sym c.has_session.ensures ∙ c.if-not-has_session.false) c.accept_in.ensures.counts c.in_err-said.ensures.short)

pub returns-in_default-clause-counts : goal.returns-in_default-clause-counts
returns-in_default-clause-counts g c = lanes_same g.R.Replica.faults c.args.lanes.now.items

pub returns-then-not-has_session-clause-counts : goal.returns-then-not-has_session-clause-counts
returns-then-not-has_session-clause-counts g c = lanes_same g.R.Replica.faults c.args.lanes.now.items
