use Rattle.rk_bucket_table.proofs.Words.{◌<◌, ◌≤◌, ◌++◌, drop, length, map, take, refl, ◌∙◌, subst, arith, without, IsTable}
use Rattle.rk_bucket_table.proofs.Dropping.{all_chains_first, all_chains_last, all_chains_next}
use Rattle.rk_bucket_table.proofs.Scanning.{linked_size}
use Rattle.rk_bucket_table.proofs.drops.drop_in_chains.Goals as goal

pub loop-chain-init : goal.loop-chain-init
loop-chain-init c = record {
  tables = λ chains table.
      subst (IsTable c.args.per_bucket c.args.heads.now.items c.args.cells.now.slots) (all_chains_first (without c.args.range.now) chains) table;
  capacity = refl;
}

pub drop_in_chain-requires-clause-within : goal.drop_in_chain-requires-clause-within
drop_in_chain-requires-clause-within c =
    omega (
      arith,
      c.loop-chain-test.true,
      c.len-chain-end.ensures,
      c.args.heads.now.ok.0,
      c.requires.table.1.count.whole,
      (c.loop-chain.invariant.tables c.requires.table.0 c.requires.table.1).count.whole,
    )

pub drop_in_chain-requires-clause-table : goal.drop_in_chain-requires-clause-table
drop_in_chain-requires-clause-table c = (
  map (without c.args.range.now) (take c.loop-chain.chain c.requires.table.0) ++ drop c.loop-chain.chain c.requires.table.0,
  c.loop-chain.invariant.tables c.requires.table.0 c.requires.table.1,
)

pub loop-chain-preserved : goal.loop-chain-preserved
loop-chain-preserved c = record {
  tables = λ chains table.
      let before : IsTable c.args.per_bucket c.loop-chain.heads.items c.loop-chain.cells.slots
      (map (without c.args.range.now) (take c.loop-chain.chain chains) ++ drop c.loop-chain.chain chains) = c.loop-chain.invariant.tables chains table in
      let within : c.loop-chain.chain < length chains =
      omega (
        arith,
        c.loop-chain-test.true,
        c.len-chain-end.ensures,
        c.args.heads.now.ok.0,
        linked_size c.args.cells.now.slots c.args.heads.now.items chains table.linked,
      ) in
      subst (IsTable c.args.per_bucket c.drop_in_chain.new.heads.items c.drop_in_chain.new.cells.slots)
      (all_chains_next (without c.args.range.now) chains c.loop-chain.chain within)
      (c.drop_in_chain.ensures.dropped (map (without c.args.range.now) (take c.loop-chain.chain chains) ++ drop c.loop-chain.chain chains) before);
  capacity = c.drop_in_chain.ensures.capacity ∙ c.loop-chain.invariant.capacity;
}

pub returns-clause-dropped : goal.returns-clause-dropped
returns-clause-dropped c = λ chains table.
    let past : length chains ≤ c.loop-chain.chain =
    omega (
      arith,
      c.loop-chain-test.false,
      c.len-chain-end.ensures,
      c.args.heads.now.ok.0,
      linked_size c.args.cells.now.slots c.args.heads.now.items chains table.linked,
    ) in
    subst (IsTable c.args.per_bucket c.loop-chain.heads.items c.loop-chain.cells.slots)
    (all_chains_last (without c.args.range.now) chains c.loop-chain.chain past)
    (c.loop-chain.invariant.tables chains table)
