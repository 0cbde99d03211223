use Rattle.rk_bucket_table.proofs.Words.{◌≡◌, ℕ, ◌<◌, ◌^◌, ◌∷◌, ◌++◌, [], List, drop, get_or, length, take, sym, ap, ◌∙◌, subst, arith}
use Rattle.rk_bucket_table.proofs.Words.{Held, at_hash, live_in, END, AreChains, items_in, joined, Shown}
use Rattle.rk_bucket_table.proofs.Lookups.{in_heads}
use Rattle.rk_bucket_table.proofs.Scanning.{hash_in_chain, one_head}
use Rattle.rk_bucket_table.proofs.Tables.{chain_ends, table_items}
use Rattle.rk_bucket_table.proofs.chains.Chains.at_hash.Goals as goal

pub new-requires-clause-chains : goal.new-requires-clause-chains
new-requires-clause-chains c =
    let fields = c.self.inside in
    let number : ℕ = c.chain_number-chain.result in
    let below : c.args.hash < 2 ^ 64 = omega (arith, c.ranges.hash.fits) in
    let within : number < length fields.heads.items = in_heads fields.per_bucket fields.heads.items fields.cells.slots c.self.invariant.0 c.self.invariant.1 c.args.hash number below c.chain_number-chain.ensures in
    let one : c.split_at-2.result.0.now ≡ get_or fields.heads.items number END ∷ [] =
    c.split_at-2.ensures.front ∙ ap (take 1) (c.split_at.ensures.back ∙ ap (drop number) c.as_slice.ensures.value)
    ∙ one_head fields.heads.items number within in
    subst (λ (l : List ℕ). AreChains l fields.cells.slots) (sym one) (chain_ends fields.per_bucket fields.heads.items fields.cells.slots c.self.invariant.0 c.self.invariant.1 number within, tt)

pub returns-in-Ok-clause-ok : goal.returns-in-Ok-clause-ok
returns-in-Ok-clause-ok c =
    let fields = c.self.inside in
    let number : ℕ = c.chain_number-chain.result in
    let below : c.args.hash < 2 ^ 64 = omega (arith, c.ranges.hash.fits) in
    let within : number < length fields.heads.items = in_heads fields.per_bucket fields.heads.items fields.cells.slots c.self.invariant.0 c.self.invariant.1 c.args.hash number below c.chain_number-chain.ensures in
    let one : c.split_at-2.result.0.now ≡ get_or fields.heads.items number END ∷ [] =
    c.split_at-2.ensures.front ∙ ap (take 1) (c.split_at.ensures.back ∙ ap (drop number) c.as_slice.ensures.value)
    ∙ one_head fields.heads.items number within in
    let shown : joined c.self.invariant.0 ≡ c.args.self.now.items =
    sym (table_items fields.per_bucket fields.heads.items fields.cells.slots c.self.invariant.0 c.self.invariant.1) ∙ ap (λ (s : Shown). s.items) c.self.view_is in
    c.in-Ok.ensures.ok
    ∙ ap (λ (l : List Held). c.args.into.now.items ++ l)
    (ap (λ (l : List Held). at_hash c.args.hash (live_in c.args.range.now l)) (c.new.ensures ∙ ap (λ (l : List ℕ). items_in l fields.cells.slots) one)
    ∙ hash_in_chain fields.per_bucket fields.heads.items fields.cells.slots c.self.invariant.0 c.self.invariant.1 c.args.hash number within c.chain_number-chain.ensures c.args.range.now
    ∙ ap (λ (l : List Held). at_hash c.args.hash (live_in c.args.range.now l)) shown)
