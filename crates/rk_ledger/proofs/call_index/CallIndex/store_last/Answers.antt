use Rattle.std.proofs.Common.{Option, ap, sym, ◌∙◌}
use Rattle.rk_ledger.specs.Noted.{last_or, stored_in}
use Rattle.rk_ledger.specs.declared.call_index.OfCall.{OfCall}
use Rattle.rk_ledger.proofs.call_index.CallIndex.store_last.Goals as goal

pub returns-in_ok-insert-clause-ok : goal.returns-in_ok-insert-clause-ok
returns-in_ok-insert-clause-ok c client seq =
    c.in_ok-insert.ensures.updates.0 (client, seq)
    ∙ ap (λ (last : Option OfCall). last_or last client seq (stored_in c.args.self.now client seq)) (sym c.in-Some.is)
