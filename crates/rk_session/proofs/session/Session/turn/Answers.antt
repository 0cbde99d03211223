use Rattle.std.proofs.Common.{ℕ, ◌+◌, Some, refl, sym, ap, ◌∙◌}
use Rattle.rk_types.specs.Hashing.{hash_of, lane_of}
use Rattle.rk_session.specs.Fields.{session_of}
use Rattle.rk_session.specs.Turns.{message_of, session_after}
use Rattle.rk_session.proofs.Turning.{turn_looks, turn_requests}
use Rattle.rk_session.proofs.session.Session.turn.Goals as goal

pub returns-in_default-address_of-clause-message : goal.returns-in_default-address_of-clause-message
returns-in_default-address_of-clause-message c =
    let before = session_of c.self.inside in
    let looks = turn_looks before c.args.self.now c.in-Some.call c.find.result c.address_of.result c.self.view_is c.in-Some.is c.find.ensures c.address_of.ensures c.in_default-address_of.is in
    ap Some (c.lookup_of.ensures before refl) ∙ ap message_of (sym looks)

pub returns-clause-message : goal.returns-clause-message
returns-clause-message c =
    let before = session_of c.self.inside in
    let there = c.in-Some-address_of in
    let sends = turn_requests before c.args.self.now c.in-Some.call c.find.result c.address_of.result there.tablet there.master c.self.view_is c.in-Some.is c.find.ensures c.address_of.ensures there.is in
    ap Some (c.in_ok-request.ensures before refl refl) ∙ ap message_of (sym sends)

pub returns-clause-ok : goal.returns-clause-ok
returns-clause-ok c =
    let before = session_of c.self.inside in
    let there = c.in-Some-address_of in
    let sends = turn_requests before c.args.self.now c.in-Some.call c.find.result c.address_of.result there.tablet there.master c.self.view_is c.in-Some.is c.find.ensures c.address_of.ensures there.is in
    let lane = c.lane_of.ensures.lane ∙ ap lane_of (c.hash.ensures ∙ ap hash_of c.bytes.ensures.value) in
    ap (λ (lane : ℕ). record before { requests = before.requests + 1; sent_in = Some lane }) lane
    ∙ ap (session_after c.args.self.now) (sym sends)
