use Rattle.rk_lane.proofs.Words.{◌≡◌, ℕ, [], true, false, Option, Some, None, ap, sym, ◌∙◌, get, accept, is_asked_here, session_accept}
use Rattle.rk_lane.proofs.Words.{Message, accept_refusal, world_of, Parts}
use Rattle.rk_lane.proofs.Clients.{answer_taken, parts_taken, visited_as}
use Rattle.rk_lane.proofs.visiting.take.Goals as goal

pub returns-clause-ok : goal.returns-clause-ok
returns-clause-ok c =
    let old : Parts = c.args.parts.now in
    let number : ℕ = c.args.arrival.number in
    let message : Message = c.args.arrival.message in
    let none : accept_refusal (world_of old []) number c.args.session.now.client (get old.wire.messages number) ≡ None =
    ap (λ (found : Option Message). accept_refusal (world_of old []) number c.args.session.now.client found) c.requires.there
    ∙ ap (λ (client : ℕ). accept_refusal (world_of old []) number client (Some message)) (sym c.client.ensures)
    ∙ sym c.take_refusal.ensures ∙ c.in_default.is in
    let asked : is_asked_here (world_of old []) c.args.session.now ≡ true = sym c.is_asked_here.ensures ∙ c.if-not-is_asked_here.false in
    visited_as (λ w. accept w number c.args.session.now) old
    (parts_taken old number c.args.session.now c.requires.kept c.requires.may none message c.requires.there asked)
    (record old { ledger = c.take_message.new.ledger }) (session_accept c.args.session.now message.body).session c.take_message.new.session
    (record { first = 0; sent = 0; lost = false; taken = Some (session_accept c.args.session.now message.body).taken }) c.took-2.result
    (λ i. record old { ledger = c.take_message.ensures.ledger i }) c.take_message.ensures.session
    (c.took-2.ensures ∙ (λ i. record { first = 0; sent = 0; lost = false; taken = Some (c.take_message.ensures.taken i) }))
    (answer_taken old number c.args.session.now c.requires.kept c.requires.may none message c.requires.there asked)
