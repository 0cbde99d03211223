use Rattle.rk_bucket_table.proofs.Words.{sym, subst, List, ℕ, AreChains}
use Rattle.rk_bucket_table.proofs.Tables.{table_chains}
use Rattle.rk_bucket_table.proofs.chains.Chains.live_items.Goals as goal

pub new-requires-clause-chains : goal.new-requires-clause-chains
new-requires-clause-chains c =
    let fields = c.self.inside in
    subst (λ (l : List ℕ). AreChains l fields.cells.slots) (sym c.as_slice.ensures.value)
    (table_chains fields.per_bucket fields.heads.items fields.cells.slots c.self.invariant.0 c.self.invariant.1)
