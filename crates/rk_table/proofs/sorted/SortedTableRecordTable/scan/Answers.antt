use Rattle.std.proofs.Common.{◌≡◌, ◌+◌, ◌-◌, ◌++◌, ℕ, List, drop, sym, ap, ◌∙◌, subst, arith}
use Rattle.rk_types.specs.declared.held.Held.{Held}
use Rattle.rk_table.specs.Order.{IsInScanOrder}
use Rattle.rk_table.proofs.Scanning.{order_drop, scan_batch, scan_behind, scan_end, scan_last}
use Rattle.rk_table.proofs.sorted.SortedTableRecordTable.scan.Goals as goal

pub passed_over-requires-clause-order : goal.passed_over-requires-clause-order
passed_over-requires-clause-order c =
    subst IsInScanOrder (sym (c.split_at.ensures.back ∙ ap (drop c.count_before_bucket.result) c.as_slice-slots.ensures.value))
    (order_drop c.count_before_bucket.result c.args.self.now.slots.items c.args.self.now.in_order)

-- how far the batch goes
cut_is : (whole behind first second third left count : ℕ) → behind + third ≡ left → left + second ≡ count → count + first ≡ whole
    → whole - behind ≡ first + second + third
cut_is whole behind first second third left count a b c = omega arith

pub token_behind-requires-clause-last : goal.token_behind-requires-clause-last
token_behind-requires-clause-last c =
    scan_last c.args.range.now c.args.from.now c.args.limit c.args.self.now.slots.items c.as_slice-slots.result.now c.split_at.result.1.now c.split_at-2.result.1.now
    c.count_before_bucket.result c.passed_over.result c.batch_end.result
    c.as_slice-slots.ensures.value c.split_at.ensures.back c.split_at-2.ensures.back c.args.self.now.in_order
    c.count_before_bucket.ensures c.passed_over.ensures.left c.batch_end.ensures.batch
    c.split_at-3.result.1.now c.split_at-3.ensures.back (sym c.has_live.ensures ∙ c.if-has_live.true) _
    (cut_is _ _ _ _ _ _ _ c.split_at-3.ensures.back_len c.split_at-2.ensures.back_len c.split_at.ensures.back_len)
    c.batch_end.ensures.closed

pub returns-then-has_live-clause-batch : goal.returns-then-has_live-clause-batch
returns-then-has_live-clause-batch c =
    c.in_ok-append_live.ensures.ok
    ∙ ap (λ (l : List Held). c.args.into.now.items ++ l)
    (scan_batch c.args.range.now c.args.from.now c.args.limit c.args.self.now.slots.items c.as_slice-slots.result.now c.split_at.result.1.now c.split_at-2.result.1.now
    c.count_before_bucket.result c.passed_over.result c.batch_end.result
    c.as_slice-slots.ensures.value c.split_at.ensures.back c.split_at-2.ensures.back c.args.self.now.in_order
    c.count_before_bucket.ensures c.passed_over.ensures.left c.batch_end.ensures.batch
    c.split_at-3.result.0.now c.split_at-3.ensures.front)

pub returns-then-has_live-clause-next : goal.returns-then-has_live-clause-next
returns-then-has_live-clause-next c =
    c.token_behind.ensures
    ∙ scan_behind c.args.range.now c.args.from.now c.args.limit c.args.self.now.slots.items c.as_slice-slots.result.now c.split_at.result.1.now c.split_at-2.result.1.now
    c.count_before_bucket.result c.passed_over.result c.batch_end.result
    c.as_slice-slots.ensures.value c.split_at.ensures.back c.split_at-2.ensures.back c.args.self.now.in_order
    c.count_before_bucket.ensures c.passed_over.ensures.left c.batch_end.ensures.batch
    c.split_at-3.result.1.now c.split_at-3.ensures.back (sym c.has_live.ensures ∙ c.if-has_live.true) _
    (cut_is _ _ _ _ _ _ _ c.split_at-3.ensures.back_len c.split_at-2.ensures.back_len c.split_at.ensures.back_len)

pub returns-clause-batch : goal.returns-clause-batch
returns-clause-batch c =
    c.in_ok-append_live.ensures.ok
    ∙ ap (λ (l : List Held). c.args.into.now.items ++ l)
    (scan_batch c.args.range.now c.args.from.now c.args.limit c.args.self.now.slots.items c.as_slice-slots.result.now c.split_at.result.1.now c.split_at-2.result.1.now
    c.count_before_bucket.result c.passed_over.result c.batch_end.result
    c.as_slice-slots.ensures.value c.split_at.ensures.back c.split_at-2.ensures.back c.args.self.now.in_order
    c.count_before_bucket.ensures c.passed_over.ensures.left c.batch_end.ensures.batch
    c.split_at-3.result.0.now c.split_at-3.ensures.front)

pub returns-clause-next : goal.returns-clause-next
returns-clause-next c =
    scan_end c.args.range.now c.args.from.now c.args.limit c.args.self.now.slots.items c.as_slice-slots.result.now c.split_at.result.1.now c.split_at-2.result.1.now
    c.count_before_bucket.result c.passed_over.result c.batch_end.result
    c.as_slice-slots.ensures.value c.split_at.ensures.back c.split_at-2.ensures.back c.args.self.now.in_order
    c.count_before_bucket.ensures c.passed_over.ensures.left c.batch_end.ensures.batch
    c.split_at-3.result.1.now c.split_at-3.ensures.back (sym c.has_live.ensures ∙ c.if-has_live.false)
