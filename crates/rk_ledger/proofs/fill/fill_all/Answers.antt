use Rattle.std.proofs.Common.{ℕ, ◌<◌, List, length, arith, set, sym, ap, ◌∙◌}
use Rattle.std.proofs.lemmas.List.Edits.{map_over_more}
use Rattle.rk_message.specs.declared.message.Message.{Message}
use Rattle.rk_world.specs.Replies.{filled}
use Rattle.rk_ledger.proofs.fill.fill_all.Goals as goal

pub loop-message-preserved : goal.loop-message-preserved
loop-message-preserved c =
    let messages : List Message = c.loop-message.messages in
    let i : ℕ = c.loop-message.message-index in
    let within : i < length c.args.messages.now = omega (arith, c.loop-message-test.true, c.loop-message.auto.message-index-end) in
    ap (set messages i) (c.fill.ensures ∙ ap (filled c.args.journal.now c.args.served.now) (sym c.message-item.is))
    ∙ map_over_more (filled c.args.journal.now c.args.served.now) c.args.messages.now messages i c.message-item.result within
    c.loop-message.invariant c.message-item.is
