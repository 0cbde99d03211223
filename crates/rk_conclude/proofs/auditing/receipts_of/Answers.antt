use Rattle.rk_conclude.proofs.Words.{◌++◌, Bor, List, map, ap, sym, ◌∙◌, append_assoc, append-nil, NumberMap, Receipt, Session, receipts_in}
use Rattle.rk_conclude.proofs.auditing.receipts_of.Goals as goal

abbrev behind : List (Bor Receipt) → List Receipt
behind lent = map (λ (receipt : Bor Receipt). receipt.now) lent

pub loop-session-preserved : goal.loop-session-preserved
loop-session-preserved c =
    let before = behind c.loop-session.receipts.items in
    let its = c.in-Some.session.now.receipts in
    let later = c.next.new.self in
    ap (λ (list : List Receipt). list ++ receipts_in later) c.in_ok-push_receipts.ensures
    ∙ append_assoc before its (receipts_in later)
    ∙ ap (λ (list : List Receipt). before ++ list) (ap receipts_in (sym c.in-Some.ensures.steps))
    ∙ c.loop-session.invariant

pub returns : goal.returns
returns c =
    let before = behind c.loop-session.receipts.items in
    sym (append-nil before)
    ∙ ap (λ (rest : NumberMap Session). before ++ receipts_in rest) (sym c.in-None.ensures.steps.0)
    ∙ c.loop-session.invariant
