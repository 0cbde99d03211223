use Rattle.rk_bucket_table.proofs.Words.{Some, sym, ap, ◌∙◌, hash_of, place_seen, Shown}
use Rattle.rk_bucket_table.proofs.Gets.{got_cell, got_none, got_other, number_of}
use Rattle.rk_bucket_table.proofs.Lookups.{head_ends}
use Rattle.rk_bucket_table.proofs.Numbers.{hash_below}
use Rattle.rk_bucket_table.proofs.chains.Chains.get.Goals as goal

pub seek-spot-requires-clause-chain : goal.seek-spot-requires-clause-chain
seek-spot-requires-clause-chain c =
    let fields = c.self.inside in
    head_ends fields.per_bucket fields.heads.items fields.cells.slots c.self.invariant.0 c.self.invariant.1
    (hash_of c.args.key.now) c.chain_number-chain.result (hash_below c.args.key.now) (number_of fields.per_bucket c.args.table c.args.key.now (place_seen c.of_key-place.result) c.hash.result c.chain_number-chain.result
    c.of_key-place.ensures c.hash.ensures c.chain_number-chain.ensures)
    c.index.result.now c.index.ensures

pub returns-then-is_at : goal.returns-then-is_at
returns-then-is_at c =
    let fields = c.self.inside in
    ap Some c.held.ensures
    ∙ got_cell fields.per_bucket fields.heads.items fields.cells.slots c.self.invariant c.args.table c.args.key.now
    (place_seen c.of_key-place.result) c.of_key-place.ensures c.chain_number-chain.result (number_of fields.per_bucket c.args.table c.args.key.now (place_seen c.of_key-place.result) c.hash.result c.chain_number-chain.result
    c.of_key-place.ensures c.hash.ensures c.chain_number-chain.ensures)
    c.index.result.now c.index.ensures c.seek-spot.result.before c.seek-spot.result.at c.seek-spot.ensures
    c.args.self.now.items (ap (λ (s : Shown). s.items) c.self.view_is) c.in-Some.cell.now c.in-Some.ensures (sym c.is_at.ensures ∙ c.if-is_at.true)

pub returns-else-is_at : goal.returns-else-is_at
returns-else-is_at c =
    let fields = c.self.inside in
    got_other fields.per_bucket fields.heads.items fields.cells.slots c.self.invariant c.args.table c.args.key.now
    (place_seen c.of_key-place.result) c.of_key-place.ensures c.chain_number-chain.result (number_of fields.per_bucket c.args.table c.args.key.now (place_seen c.of_key-place.result) c.hash.result c.chain_number-chain.result
    c.of_key-place.ensures c.hash.ensures c.chain_number-chain.ensures)
    c.index.result.now c.index.ensures c.seek-spot.result.before c.seek-spot.result.at c.seek-spot.ensures
    c.args.self.now.items (ap (λ (s : Shown). s.items) c.self.view_is) c.in-Some.cell.now c.in-Some.ensures (sym c.is_at.ensures ∙ c.if-is_at.false)

pub returns-in-None : goal.returns-in-None
returns-in-None c =
    let fields = c.self.inside in
    got_none fields.per_bucket fields.heads.items fields.cells.slots c.self.invariant c.args.table c.args.key.now
    (place_seen c.of_key-place.result) c.of_key-place.ensures c.chain_number-chain.result (number_of fields.per_bucket c.args.table c.args.key.now (place_seen c.of_key-place.result) c.hash.result c.chain_number-chain.result
    c.of_key-place.ensures c.hash.ensures c.chain_number-chain.ensures)
    c.index.result.now c.index.ensures c.seek-spot.result.before c.seek-spot.result.at c.seek-spot.ensures
    c.args.self.now.items (ap (λ (s : Shown). s.items) c.self.view_is) c.in-None.ensures
