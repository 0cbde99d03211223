use Rattle.rk_staged.proofs.Words.{subst, sym, IsCounted}
use Rattle.rk_staged.proofs.Counting.{counted_inserted}
use Rattle.rk_staged.proofs.staged_calls.put.Goals as goal

pub returns-clause-counted : goal.returns-clause-counted
returns-clause-counted c =
    subst (IsCounted c.forget.new.counts) (sym c.in_default.ensures.ok)
    (counted_inserted c.args.counts.now c.add.new.self c.forget.new.counts c.args.calls.now c.args.place c.args.call c.name_at-before.result
    c.requires c.name_at-before.ensures c.in_ok-add.ensures.ok c.forget.ensures)
