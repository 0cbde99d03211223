use Rattle.rk_staged.proofs.Words.{subst, sym, ◌∙◌, IsCounted}
use Rattle.rk_staged.proofs.Counting.{counted_removed}
use Rattle.rk_staged.proofs.staged_calls.remove.Goals as goal

pub returns-clause-counted : goal.returns-clause-counted
returns-clause-counted c =
    subst (IsCounted c.subtract.new.self) (sym c.remove.ensures.removed)
    (counted_removed c.args.counts.now c.subtract.new.self c.args.calls.now c.args.place c.in_ok-call.call
    c.requires (sym c.remove.ensures.value ∙ c.in_ok-call.was) c.subtract.ensures)
