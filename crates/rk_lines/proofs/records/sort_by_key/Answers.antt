-- The closure compares keys, so the sort gives the items by key.
use Rattle.std.proofs.Common.{◌≡◌, rules}
use Rattle.std.specs.Ordering.{is_lt}
use Rattle.std.proofs.lemmas.List.Sorted.{answers_always}
use Rattle.rk_lines.specs.Records.{is_before}
use Rattle.rk_lines.proofs.ByKey.{by_key_alone, key_order}
use Rattle.rk_lines.proofs.records.sort_by_key.Goals as goal

pub returns : goal.returns
returns c =
    let compares = answers_always _ (λ a r. is_lt r ≡ is_before a.0.now a.1.0.now) _ (λ f a r f' k. search rules) in
    by_key_alone c.args.items.now.items c.sort_by.new.self.items
    (c.in_ok-sort_by.ensures.sorted is_before key_order compares)
    (c.in_ok-sort_by.ensures.stable is_before key_order compares)
