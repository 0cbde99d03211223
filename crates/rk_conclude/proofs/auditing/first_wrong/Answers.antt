use Rattle.rk_conclude.proofs.Words.{◌++◌, [], List, ap, subst, sym, ◌∙◌, IsItemAt, NumberMap, Receipt, journals_of, IsRecorded, Session}
use Rattle.rk_conclude.proofs.Words.{receipts_in}
use Rattle.std.proofs.lemmas.List.Elements.{All-nil}
use Rattle.rk_conclude.proofs.Wrongs.{all_recorded, found_wrong, more_recorded, receipts_next}
use Rattle.rk_conclude.proofs.auditing.first_wrong.Goals as goal

pub loop-session-init : goal.loop-session-init
loop-session-init c =
    ([], ap receipts_in c.into_iter-session-iterator.ensures.into_iter_gives.0, All-nil (IsRecorded (journals_of c.args.journals.now)))

pub returns-in-Err : goal.returns-in-Err
returns-in-Err c =
    let it = c.loop-session.invariant in
    let its = c.receipts.result.now in
    let whole =
    ap (λ (list : List Receipt). it.0 ++ list) (receipts_next its _ c.loop-session.session-iterator c.next.new.self c.in-Some.ensures.steps (sym c.receipts.ensures)) ∙ it.1 in
    found_wrong (journals_of c.args.journals.now) (receipts_in c.args.sessions.now.entries) it.0 it.2 its (receipts_in c.next.new.self) c.in-Err.disagree c.get.result whole
    c.in-Err.ensures.err
    (subst (λ (list : List Receipt). IsItemAt list c.in-Err.disagree.index c.get.result) (c.receipts-in-Err.ensures ∙ sym c.receipts.ensures) c.get.ensures.lookup)

pub loop-session-preserved : goal.loop-session-preserved
loop-session-preserved c =
    let it = c.loop-session.invariant in
    let its = c.receipts.result.now in
    let whole =
    ap (λ (list : List Receipt). it.0 ++ list) (receipts_next its _ c.loop-session.session-iterator c.next.new.self c.in-Some.ensures.steps (sym c.receipts.ensures)) ∙ it.1 in
    more_recorded (journals_of c.args.journals.now) (receipts_in c.args.sessions.now.entries) it.0 it.2 its (receipts_in c.next.new.self) whole c.in_default.ensures.ok

pub returns : goal.returns
returns c =
    let it = c.loop-session.invariant in
    all_recorded (journals_of c.args.journals.now) (receipts_in c.args.sessions.now.entries) it.0 it.2
    (ap (λ (rest : NumberMap Session). it.0 ++ receipts_in rest) (sym c.in-None.ensures.steps.0) ∙ it.1)
