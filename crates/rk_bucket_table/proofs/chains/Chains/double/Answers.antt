use Rattle.rk_bucket_table.proofs.Words.{◌*◌, ℕ, List, length, sym, ap, ◌∙◌, subst, arith, IsTable, Shown}
use Rattle.rk_bucket_table.proofs.Tables.{table_items}
use Rattle.rk_bucket_table.proofs.chains.Chains.double.Goals as goal

pub spread_chains-requires-clause-table : goal.spread_chains-requires-clause-table
spread_chains-requires-clause-table c =
    let fields = c.self.inside in (
      c.self.invariant.0,
      subst (λ (l : List ℕ). IsTable fields.per_bucket l fields.cells.slots c.self.invariant.0) (sym c.as_slice.ensures.value) c.self.invariant.1,
    )

pub invariant_of-self : goal.invariant_of-self
invariant_of-self c =
    let fields = c.self.inside in
    let spread = c.spread_chains.ensures.spread c.self.invariant.0
    (subst (λ (l : List ℕ). IsTable fields.per_bucket l fields.cells.slots c.self.invariant.0) (sym c.as_slice.ensures.value) c.self.invariant.1) in
    (spread.0, spread.1)

-- the same items lie in twice as many chains
pub returns-clause-items : goal.returns-clause-items
returns-clause-items c =
    let fields = c.self.inside in
    let spread = c.spread_chains.ensures.spread c.self.invariant.0
    (subst (λ (l : List ℕ). IsTable fields.per_bucket l fields.cells.slots c.self.invariant.0) (sym c.as_slice.ensures.value) c.self.invariant.1) in
    table_items (2 * fields.per_bucket) c.spread_chains.new.twice.items c.spread_chains.new.cells.slots spread.0 spread.1
    ∙ spread.2
    ∙ sym (table_items fields.per_bucket fields.heads.items fields.cells.slots c.self.invariant.0 c.self.invariant.1)
    ∙ ap (λ (s : Shown). s.items) c.self.view_is

pub returns-clause-spare : goal.returns-clause-spare
returns-clause-spare c =
    let fields = c.self.inside in
    let spread = c.spread_chains.ensures.spread c.self.invariant.0
    (subst (λ (l : List ℕ). IsTable fields.per_bucket l fields.cells.slots c.self.invariant.0) (sym c.as_slice.ensures.value) c.self.invariant.1) in
    omega (arith, ap (λ (s : Shown). s.spare) c.self.view_is, c.spread_chains.ensures.capacity, spread.1.all, c.self.invariant.1.all, ap length spread.2)
