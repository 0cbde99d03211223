use Rattle.rk_settle.proofs.Words.{◌<◌, ◌≤◌, ◌+◌, ◌++◌, ◌∷◌, [], List, filter, sym, ap, subst, ◌∙◌, arith, is_number_off, sent_after}
use Rattle.rk_settle.proofs.Words.{AreTasks, forgets, Task}
use Rattle.rk_settle.proofs.Following.{all_made, one_made, one_passed, made_after}
use Rattle.rk_settle.proofs.Named.{forgets_are}
use Rattle.rk_settle.proofs.exchange.off_topic.Goals as goal
use Rattle.rk_settle.proofs.exchange.off_topic.Goals.{then-is_off+in_ok-push, else-is_off}

pub loop-before-preserved : goal.loop-before-preserved
loop-before-preserved c =
    let wire = c.args.wire.now in
    let test = is_number_off wire c.args.topic in
    let later = made_after test (forgets c.args.lane) (c.loop-before.before + 1) wire.sent in
    let within : c.loop-before.before < wire.sent = omega (arith, c.loop-before-test.true, c.sent-before-end.ensures) in
    elim c.if-is_off.branch [
      | then-is_off+in_ok-push w ↦
          ap (λ (off : _). off.items ++ later) w.off-is
          ∙ ap (λ (items : List Task). items ++ later) w.in_ok-push.ensures.items
          ∙ ap (λ (one : Task). (c.loop-before.off.items ++ one ∷ []) ++ later) w.forgets.ensures
          ∙ one_made test (forgets c.args.lane) c.loop-before.off.items c.loop-before.before wire.sent within (sym c.in_ok-is_off.ensures ∙ w.if-is_off.true)
          ∙ c.loop-before.invariant
      | else-is_off w ↦
          ap (λ (off : _). off.items ++ later) w.off-is
          ∙ one_passed test (forgets c.args.lane) c.loop-before.off.items c.loop-before.before wire.sent within (sym c.in_ok-is_off.ensures ∙ w.if-is_off.false)
          ∙ c.loop-before.invariant
    ]

pub returns-clause-found : goal.returns-clause-found
returns-clause-found c =
    let wire = c.args.wire.now in
    let past : wire.sent ≤ c.loop-before.before = omega (arith, c.loop-before-test.false, c.sent-before-end.ensures) in
    sym (all_made (is_number_off wire c.args.topic) (forgets c.args.lane) c.loop-before.off.items c.loop-before.before wire.sent past)
    ∙ c.loop-before.invariant

pub returns-clause-lawful : goal.returns-clause-lawful
returns-clause-lawful c =
    λ masters there.
    subst (AreTasks masters) (sym (returns-clause-found c))
    (forgets_are masters c.args.lane (filter (is_number_off c.args.wire.now c.args.topic) (sent_after c.args.wire.now c.args.last)) there)
