use Rattle.rk_bucket_table.proofs.Words.{length, map, sym, ap, ◌∙◌, arith, without, IsTable, joined, Shown}
use Rattle.rk_bucket_table.proofs.Dropping.{joined_without, without_less}
use Rattle.rk_bucket_table.proofs.Tables.{table_items}
use Rattle.rk_bucket_table.proofs.chains.Chains.drop_range.Goals as goal
use Rattle.rk_bucket_table.proofs.chains.Chains.drop_range.Goals.{After-drop_in_chains}

-- the chains without the items of the range
dropped : (c : After-drop_in_chains) → IsTable c.self.inside.per_bucket c.drop_in_chains.new.heads.items c.drop_in_chains.new.cells.slots
    (map (without c.args.range.now) c.self.invariant.0)
dropped c = c.drop_in_chains.ensures.dropped c.self.invariant.0 c.self.invariant.1

pub drop_in_chains-requires : goal.drop_in_chains-requires
drop_in_chains-requires c = record { table = c.self.invariant }

pub invariant_of-self : goal.invariant_of-self
invariant_of-self c = (map (without c.args.range.now) c.self.invariant.0, dropped c)

pub returns-clause-dropped : goal.returns-clause-dropped
returns-clause-dropped c =
    let fields = c.self.inside in
    table_items fields.per_bucket c.drop_in_chains.new.heads.items c.drop_in_chains.new.cells.slots (map (without c.args.range.now) c.self.invariant.0) (dropped c)
    ∙ joined_without c.args.range.now c.self.invariant.0
    ∙ ap (without c.args.range.now) (sym (table_items fields.per_bucket fields.heads.items fields.cells.slots c.self.invariant.0 c.self.invariant.1))
    ∙ ap (λ (s : Shown). without c.args.range.now s.items) c.self.view_is

pub returns-clause-room : goal.returns-clause-room
returns-clause-room c =
    omega (
      arith,
      ap (λ (s : Shown). s.spare) c.self.view_is,
      c.drop_in_chains.ensures.capacity,
      (dropped c).all,
      c.self.invariant.1.all,
      ap length (joined_without c.args.range.now c.self.invariant.0),
      without_less c.args.range.now (joined c.self.invariant.0),
    )
