use Rattle.rk_bucket_table.proofs.Empty.{empty_items, empty_table}
use Rattle.rk_bucket_table.proofs.chains.empty_chains.Goals as goal

pub invariant_of-result : goal.invariant_of-result
invariant_of-result c =
    empty_table c.args.per_bucket c.args.count c.requires.count c.in_ok-vec.field-0.items c.new.result.slots
    (c.in_ok-vec.ensures.items_if_clones_equal (λ y e. e)) c.new.ensures.empty

pub returns : goal.returns
returns c = empty_items c.args.count _ _ (c.in_ok-vec.ensures.items_if_clones_equal (λ y e. e)) c.new.ensures.empty
