use Rattle.rk_shared_lanes.proofs.Words.{List, sym, ap, ◌∙◌, subst, arith, numbers_of}
use Rattle.std.specs.List.Sorted.{IsPermutation}
use Rattle.rk_shared.proofs.Ordered.{are_in_order, written_over}
use Rattle.rk_shared_lanes.proofs.shared.in_order.Goals as goal

pub returns-clause-numbers : goal.returns-clause-numbers
returns-clause-numbers g c =
    ap numbers_of (written_over c.args.lanes.items c.sort.new.lanes c.args.lanes.len (omega arith))
    ∙ are_in_order (λ lane. lane.number) c.args.lanes.items c.sort.new.lanes (rw c.as_mut_slice.ensures.value at c.sort.ensures.permutation) c.sort.ensures.sorted
    c.requires.few c.requires.count (omega arith) c.requires.powers

pub returns-clause-permutation : goal.returns-clause-permutation
returns-clause-permutation g c =
    subst (λ (lanes : List _). IsPermutation c.args.lanes.items lanes) (sym (written_over c.args.lanes.items c.sort.new.lanes c.args.lanes.len (omega arith)))
    (rw c.as_mut_slice.ensures.value at c.sort.ensures.permutation)
