use Rattle.rk_lane.proofs.Words.{◌≡◌, ◌∙◌, ap, max, refl, subst, take, with_journal, Ledger, IfOk, Parts, Result, Sent}
use Rattle.rk_types.specs.declared.memory.NoMemory.{NoMemory}
use Rattle.rk_lane.specs.Sends.{IsSent}
use Rattle.rk_lane.proofs.Sending.{closed}
use Rattle.rk_lane.proofs.finishing.close.Goals as goal

pub returns-clause-ok : goal.returns-clause-ok
returns-clause-ok c = λ old sends same is.
    closed old c.args.parts.now.wire c.raise.new.self sends c.in-Ok.sent c.seen.result
    (c.raise.ensures ∙ ap (λ (p : Parts). record p { top = max p.top c.in-Ok.sent.last }) same)
    (subst (λ (sent : Result Sent NoMemory). IfOk sent (IsSent old.wire sends c.args.parts.now.wire)) c.in-Ok.is is) c.seen.ensures

pub returns-in_default-clause-err : goal.returns-in_default-clause-err
returns-in_default-clause-err c = λ old same.
    let ledger : c.args.parts.now.ledger ≡ old.ledger = ap (λ (p : Parts). p.ledger) same in
    let cut = c.withdraw.ensures ∙ ap (λ (l : Ledger). with_journal l (take c.args.records l.journal)) ledger in
    record {
      parts = ap (λ (p : Parts). record p { ledger = c.withdraw.new.self }) same ∙ (λ i. record old { wire = c.args.parts.now.wire; ledger = cut i });
      memory = refl;
    }
