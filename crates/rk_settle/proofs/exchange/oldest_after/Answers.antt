use Rattle.std.proofs.Common.{◌<◌, sym, ◌∙◌, arith}
use Rattle.rk_settle.specs.Exchange.{is_there}
use Rattle.rk_settle.proofs.Following.{first_here, first_later, first_none}
use Rattle.rk_settle.proofs.exchange.oldest_after.Goals as goal

pub returns-then-is_there : goal.returns-then-is_there
returns-then-is_there c =
    let wire = c.args.wire.now in
    let within : c.loop-before.before < wire.sent = omega (arith, c.loop-before-test.true, c.sent-before-end.ensures) in
    sym (first_here (is_there wire) c.loop-before.before wire.sent within (sym c.is_there.ensures ∙ c.if-is_there.true))
    ∙ c.loop-before.invariant

pub loop-before-preserved : goal.loop-before-preserved
loop-before-preserved c =
    let wire = c.args.wire.now in
    let within : c.loop-before.before < wire.sent = omega (arith, c.loop-before-test.true, c.sent-before-end.ensures) in
    sym (first_later (is_there wire) c.loop-before.before wire.sent within (sym c.is_there.ensures ∙ c.if-is_there.false))
    ∙ c.loop-before.invariant

pub returns : goal.returns
returns c =
    let wire = c.args.wire.now in
    sym (first_none (is_there wire) c.loop-before.before wire.sent (omega (arith, c.loop-before-test.false, c.sent-before-end.ensures)))
    ∙ c.loop-before.invariant
