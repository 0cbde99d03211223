use Rattle.std.proofs.Common.{subst, arith}
use Rattle.std.specs.List.{All}
use Rattle.std.proofs.lemmas.List.{take_all}
use Rattle.std.proofs.lemmas.List.Elements.{All-more}
use Rattle.rk_drive.specs.Driven.{HasAnswers}
use Rattle.rk_drive.proofs.driving.have_ended.Goals as goal

pub loop-session-preserved : goal.loop-session-preserved
loop-session-preserved c =
    All-more (HasAnswers c.args.plan.now.calls) c.args.sessions.now c.loop-session.session-index c.session-item.result c.loop-session-test.true
    c.loop-session.invariant
    (subst (HasAnswers c.args.plan.now.calls) c.session-item.is (c.has_ended.ensures c.if-not-has_ended.false))

pub returns : goal.returns
returns c = λ is.
    subst (All (HasAnswers c.args.plan.now.calls)) (take_all c.loop-session.session-index c.args.sessions.now (omega (arith, c.loop-session-test.false)))
    c.loop-session.invariant
