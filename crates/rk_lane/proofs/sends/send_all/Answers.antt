use Rattle.std.proofs.Common.{drop}
use Rattle.std.proofs.lemmas.List.{drop_all, drop_more}
use Rattle.rk_lane.proofs.Words.{◌≡◌, ◌+◌, ◌∷◌, ◌∙◌, List, All, All-head, ap, arith, length, subst, sym, IsSendable, Message}
use Rattle.rk_lane.specs.Sends.{IsSent}
use Rattle.rk_lane.proofs.Sending.{IsSending, all_sent, none_sent, one_sent}
use Rattle.rk_lane.proofs.sends.send_all.Goals as goal

pub loop-message-init : goal.loop-message-init
loop-message-init c =
    subst (λ (items : List Message). IsSending c.args.wire.now items items c.args.wire.now c.nothing-sent.result) (sym c.as_slice-message-items.ensures.value)
    (none_sent c.args.wire.now c.args.sends.items c.nothing-sent.result c.nothing-sent.ensures c.requires.lawful c.requires.room)

pub send-requires : goal.send-requires
send-requires c =
    let items = c.as_slice-message-items.result.now in
    let i = c.loop-message.message-index in
    let message = c.message-item.result in
    let left = c.loop-message.invariant in
    let next : drop i items ≡ message ∷ drop (i + 1) items =
    drop_more items i message c.loop-message-test.true ∙ ap (λ (m : Message). m ∷ drop (i + 1) items) (sym c.message-item.is) in
    let longer = ap (λ (list : List Message). length list) next in
    let it : IsSendable message = All-head IsSendable message (drop (i + 1) items) (subst (All IsSendable) next left.lawful) in
    record {
      room = omega (arith, left.room, longer);
      lawful = record { from = it.from; to = it.to; body = it.body; within = c.is_short.ensures c.if-not-is_short.false };
    }

pub loop-message-preserved : goal.loop-message-preserved
loop-message-preserved c =
    let items = c.as_slice-message-items.result.now in
    let i = c.loop-message.message-index in
    let message = c.message-item.result in
    let next : drop i items ≡ message ∷ drop (i + 1) items =
    drop_more items i message c.loop-message-test.true ∙ ap (λ (m : Message). m ∷ drop (i + 1) items) (sym c.message-item.is) in
    one_sent c.args.wire.now items (drop i items) (drop (i + 1) items) message c.loop-message.wire c.send.new.self c.loop-message.sent c.with-sent.result
    c.in_ok-send.field-0 next c.in_ok-send.ensures.number c.in_ok-send.ensures.sent c.with-sent.ensures c.loop-message.invariant

pub returns : goal.returns
returns c =
    let items = c.as_slice-message-items.result.now in
    let i = c.loop-message.message-index in
    subst (λ (sends : List Message). IsSent c.args.wire.now sends c.loop-message.wire c.loop-message.sent) c.as_slice-message-items.ensures.value
    (all_sent c.args.wire.now items c.loop-message.wire c.loop-message.sent
    (subst (λ (left : List Message). IsSending c.args.wire.now items left c.loop-message.wire c.loop-message.sent) (drop_all i items c.loop-message-test.false)
    c.loop-message.invariant))
