use Rattle.std.proofs.Common.{◌≡◌, true, List, refl, sym, ◌∙◌, subst, arith}
use Rattle.std.specs.Prelude.{is_ok, slice_set, insert}
use Rattle.std.proofs.lemmas.Bool.{cond-true}
use Rattle.rk_types.specs.declared.held.Held.{Held}
use Rattle.rk_table.specs.Order.{IsInScanOrder}
use Rattle.rk_table.specs.Items.{with_item}
use Rattle.rk_table.proofs.Found.{order_with_item}
use Rattle.rk_table.proofs.sorted.SortedTableRecordTable.put_if_newer.Goals as goal

-- the item is in the place of the older one
pub invariant_of-self : goal.invariant_of-self
invariant_of-self c =
    let slots : List Held = c.as_slice.result.now in
    let put : with_item c.args.item slots ≡ slice_set slots c.in-Ok.at c.args.item = c.in-Ok.ensures.here.replaced c.args.item refl refl in
    record {
      in_order =
          subst IsInScanOrder (put ∙ (λ i. slice_set (c.as_slice.ensures.value i) c.in-Ok.at (sym c.new.ensures i)))
          (order_with_item c.args.item slots (subst IsInScanOrder (sym c.as_slice.ensures.value) c.args.self.now.in_order));
    }

-- the item is at a place at which none with its key was
pub invariant_of-self-in-Err : goal.invariant_of-self-in-Err
invariant_of-self-in-Err c =
    let slots : List Held = c.as_slice.result.now in
    let put : with_item c.args.item slots ≡ insert slots c.in-Err.at c.args.item = c.in-Err.ensures.gap.inserted c.args.item refl refl in
    let done : is_ok c.insert.result ≡ true = c.insert.ensures.succeeds (omega arith) in
    record {
      in_order =
          subst IsInScanOrder
          (put ∙ (λ i. insert (c.as_slice.ensures.value i) c.in-Err.at (sym c.new-in-Err.ensures i))
          ∙ sym (c.insert.ensures.items ∙ cond-true (is_ok c.insert.result) _ _ done))
          (order_with_item c.args.item slots (subst IsInScanOrder (sym c.as_slice.ensures.value) c.args.self.now.in_order));
    }
