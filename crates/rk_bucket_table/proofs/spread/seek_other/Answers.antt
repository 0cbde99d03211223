use Rattle.rk_bucket_table.proofs.Words.{eqb, sym, ap, ◌∙◌, eq-eqb, ne_eqb, item_hash, chain_of}
use Rattle.rk_bucket_table.proofs.Seeking.{less_left, passed_more, passed_none, sought_at_end, sought_here}
use Rattle.rk_bucket_table.proofs.spread.seek_other.Goals as goal

pub chain-init : goal.chain-init
chain-init c =
    passed_none c.args.cells.now.slots c.args.head (λ item. eqb (chain_of c.args.per_bucket (item_hash item)) c.args.number) c.requires.chain

pub chain-smaller : goal.chain-smaller
chain-smaller c =
    less_left c.args.cells.now.slots c.args.head (λ item. eqb (chain_of c.args.per_bucket (item_hash item)) c.args.number) c.requires.free
    c.chain.before c.chain.at c.chain.invariant c.in-Some.cell.now c.in-Some.ensures

pub chain-preserved : goal.chain-preserved
chain-preserved c =
    passed_more c.args.cells.now.slots c.args.head (λ item. eqb (chain_of c.args.per_bucket (item_hash item)) c.args.number) c.requires.free
    c.chain.before c.chain.at c.chain.invariant c.in-Some.cell.now c.in-Some.ensures
    (eq-eqb _ _ (ap (chain_of c.args.per_bucket) (sym c.hash.ensures) ∙ sym c.chain_number.ensures ∙ c.if-chain_number-number.false))

pub returns-then-chain_number-number : goal.returns-then-chain_number-number
returns-then-chain_number-number c =
    sought_here c.args.cells.now.slots c.args.head (λ item. eqb (chain_of c.args.per_bucket (item_hash item)) c.args.number) c.requires.free
    c.chain.before c.chain.at c.chain.invariant c.in-Some.cell.now c.in-Some.ensures
    (ne_eqb _ _ (λ same. c.if-chain_number-number.true (c.chain_number.ensures ∙ ap (chain_of c.args.per_bucket) c.hash.ensures ∙ same)))

pub returns-in_default : goal.returns-in_default
returns-in_default c =
    sought_at_end c.args.cells.now.slots c.args.head (λ item. eqb (chain_of c.args.per_bucket (item_hash item)) c.args.number) c.requires.free
    c.chain.before c.chain.at c.chain.invariant c.in_default.ensures
