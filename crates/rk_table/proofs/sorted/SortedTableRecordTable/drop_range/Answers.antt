use Rattle.std.proofs.Common.{◌≡◌, rules, sym, subst, not}
use Rattle.std.proofs.lemmas.Fn.{filter_same}
use Rattle.std.proofs.lemmas.List.Kept.{IsStrictlySortedBy-filter}
use Rattle.rk_table.specs.Order.{IsInScanOrder, item_cmp}
use Rattle.rk_table.specs.Items.{is_in, without}
use Rattle.rk_table.proofs.sorted.SortedTableRecordTable.drop_range.Goals as goal

-- what is left is what is not in the range
left : (c : goal.After-retain) → c.retain.new.self.items ≡ without c.args.range.now c.args.self.now.slots.items
left c = filter_same _ (λ item. not (is_in c.args.range.now item)) _ (λ x b f k. search rules) _ _ c.retain.ensures.filtered

pub invariant_of-self : goal.invariant_of-self
invariant_of-self c = record {
  in_order =
      subst IsInScanOrder (sym (left c))
      (IsStrictlySortedBy-filter item_cmp (λ item. not (is_in c.args.range.now item)) c.args.self.now.slots.items c.args.self.now.in_order);
}

pub returns-clause-dropped : goal.returns-clause-dropped
returns-clause-dropped c = filter_same _ (λ item. not (is_in c.args.range.now item)) _ (λ x b f k. search rules) _ _ c.retain.ensures.filtered
