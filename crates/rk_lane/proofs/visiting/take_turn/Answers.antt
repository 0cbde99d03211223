use Rattle.rk_lane.proofs.Words.{◌≡◌, ◌+◌, ℕ, [], true, false, max, None, ap, refl, sym, subst, ◌∙◌, ask, Ledger, is_added, world_of, noted}
use Rattle.rk_lane.proofs.Words.{saved, Parts}
use Rattle.rk_lane.proofs.Clients.{added_noted, added_where_allowed, ledger_then, parts_then, turn_fits, turn_made, visited_as}
use Rattle.rk_lane.proofs.visiting.take_turn.Goals as goal

pub send_one-requires : goal.send_one-requires
send_one-requires c = turn_fits c.args.parts.now c.args.session.now c.turn.new.session c.in-Ok-turn.message c.requires c.in-Ok-turn.ensures.ok

pub save-requires : goal.save-requires
save-requires c =
    subst (λ (ledger : Ledger). is_added ledger c.client-client.result ≡ true) (sym c.note.ensures)
    (added_noted c.args.parts.now.ledger c.client-client.result c.in-Ok.last
    (subst (λ (client : ℕ). is_added c.args.parts.now.ledger client ≡ true) (sym c.client-client.ensures)
    (added_where_allowed (world_of c.args.parts.now []) c.args.session.now c.requires.allowed)))

pub returns-clause-ok : goal.returns-clause-ok
returns-clause-ok c =
    let old : Parts = c.args.parts.now in
    let ledger_is : c.save.new.ledger ≡ ledger_then old c.args.session.now c.turn.new.session c.in-Ok-turn.message c.requires c.in-Ok-turn.ensures.ok =
    c.save.ensures
    ∙ (λ i. saved (c.note.ensures i) c.client-client.result c.request_in.result)
    ∙ (λ i. saved (noted old.ledger (c.client-client.ensures i) (c.in-Ok.ensures.last i)) (c.client-client.ensures i) (c.request_in.ensures i)) in
    let is : c.raise-2.new.self ≡ parts_then old c.args.session.now c.turn.new.session c.in-Ok-turn.message c.requires c.in-Ok-turn.ensures.ok =
    c.raise-2.ensures
    ∙ ap (λ (p : Parts). record p { top = max p.top c.in-Ok-send_one.number }) c.raise.ensures
    ∙ (λ i. record old {
      ledger = ledger_is i;
      wire = c.in-Ok-send_one.ensures.sent i;
      top = max (max old.top (c.seen-seen.ensures i)) (c.in-Ok-send_one.ensures.number i);
    }) in
    let seen_is : c.one_sent.result ≡ record { first = old.wire.sent + 1; sent = 1; lost = false; taken = None } =
    c.one_sent.ensures ∙ (λ i. record { first = c.in-Ok-send_one.ensures.number i; sent = 1; lost = false; taken = None }) in
    visited_as (λ w. ask w c.args.session.now) old
    (parts_then old c.args.session.now c.turn.new.session c.in-Ok-turn.message c.requires c.in-Ok-turn.ensures.ok)
    c.raise-2.new.self c.turn.new.session c.turn.new.session (record { first = old.wire.sent + 1; sent = 1; lost = false; taken = None }) c.one_sent.result
    is refl seen_is (turn_made old c.args.session.now c.turn.new.session c.in-Ok-turn.message c.requires c.in-Ok-turn.ensures.ok)
