use Rattle.std.proofs.Common.{◌<◌, sym, ◌∙◌, arith}
use Rattle.rk_settle.specs.Exchange.{is_number_off}
use Rattle.rk_settle.proofs.Following.{first_here, first_later, first_none}
use Rattle.rk_settle.proofs.exchange.first_off.Goals as goal

pub returns-then-is_off : goal.returns-then-is_off
returns-then-is_off c =
    let wire = c.args.wire.now in
    let within : c.loop-before.before < wire.sent = omega (arith, c.loop-before-test.true, c.sent-before-end.ensures) in
    sym (first_here (is_number_off wire c.args.topic) c.loop-before.before wire.sent within (sym c.in_ok-is_off.ensures ∙ c.if-is_off.true))
    ∙ c.loop-before.invariant

pub loop-before-preserved : goal.loop-before-preserved
loop-before-preserved c =
    let wire = c.args.wire.now in
    let within : c.loop-before.before < wire.sent = omega (arith, c.loop-before-test.true, c.sent-before-end.ensures) in
    sym (first_later (is_number_off wire c.args.topic) c.loop-before.before wire.sent within (sym c.in_ok-is_off.ensures ∙ c.if-is_off.false))
    ∙ c.loop-before.invariant

pub returns : goal.returns
returns c =
    let wire = c.args.wire.now in
    sym (first_none (is_number_off wire c.args.topic) c.loop-before.before wire.sent (omega (arith, c.loop-before-test.false, c.sent-before-end.ensures)))
    ∙ c.loop-before.invariant
