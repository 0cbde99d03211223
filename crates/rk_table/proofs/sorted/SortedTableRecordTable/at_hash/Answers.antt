use Rattle.std.proofs.Common.{◌≡◌, ◌++◌, ℕ, List, [], eqb, take, drop, sym, ap, ◌∙◌, subst}
use Rattle.std.specs.Prelude.{OnOk}
use Rattle.rk_types.specs.declared.held.Held.{Held}
use Rattle.rk_types.specs.Hashing.{bucket_of}
use Rattle.rk_table.specs.Order.{IsInScanOrder, Place, item_hash}
use Rattle.rk_table.specs.Items.{at_hash, live_in}
use Rattle.rk_table.specs.Places.{IsCut, comes_before}
use Rattle.rk_table.proofs.Scanning.{at_hash_is, order_drop}
use Rattle.rk_table.proofs.sorted.SortedTableRecordTable.at_hash.Goals as goal

pub count_with_hash-requires-clause-order : goal.count_with_hash-requires-clause-order
count_with_hash-requires-clause-order c =
    subst IsInScanOrder (sym (c.split_at.ensures.back ∙ ap (drop c.count_before.result) c.as_slice-slots.ensures.value))
    (order_drop c.count_before.result c.args.self.now.slots.items c.args.self.now.in_order)

pub returns-clause-ok : goal.returns-clause-ok
returns-clause-ok c =
    let hash : ℕ = c.args.hash in
    let items : List Held = c.args.self.now.slots.items in
    let start : ℕ = c.count_before.result in
    let run : ℕ = c.count_with_hash.result in
    let from_hash : c.split_at.result.1.now ≡ drop start items = c.split_at.ensures.back ∙ ap (drop start) c.as_slice-slots.ensures.value in
    let before : IsCut (comes_before (bucket_of hash, hash, 0, [])) items start =
    subst (λ (l : List Held). IsCut (comes_before (bucket_of hash, hash, 0, [])) l start) c.as_slice-slots.ensures.value
    (subst (λ (p : Place). IsCut (comes_before p) c.as_slice-slots.result.now start) c.first_at.ensures c.count_before.ensures) in
    let with_hash : IsCut (λ item. eqb (item_hash item) hash) (drop start items) run =
    subst (λ (l : List Held). IsCut (λ item. eqb (item_hash item) hash) l run) from_hash c.count_with_hash.ensures in
    let found : live_in c.args.range.now c.split_at-2.result.0.now ≡ at_hash hash (live_in c.args.range.now items) =
    ap (live_in c.args.range.now) (c.split_at-2.ensures.front ∙ ap (take run) from_hash)
    ∙ at_hash_is c.args.range.now hash items start run before with_hash in
    subst (λ (l : List Held). OnOk c.append_live.result (c.append_live.new.into.items ≡ c.args.into.now.items ++ l)) found c.append_live.ensures.ok
