use Rattle.std.proofs.Common.{rules, subst}
use Rattle.std.specs.List.Sorted.{IsSearchInRange}
use Rattle.std.proofs.lemmas.List.Sorted.{answers_always}
use Rattle.rk_queue.proofs.Queues.{place_found}
use Rattle.rk_queue.proofs.queue.Queue.place_of.Goals as goal

-- the closure gives an entry's number
pub returns : goal.returns
returns g c =
    let facts = c.binary_search_by_key.ensures in
    let values = c.self.inside.values in
    let in_range = subst (IsSearchInRange c.binary_search_by_key.result) values.ok.0 facts.bound in
    let by_number = facts.position (λ entry. entry.0) (answers_always _ _ _ (λ f a r h called. search rules)) in
    let found = place_found c.args.number values.items c.binary_search_by_key.result c.self.invariant in_range by_number in
    record { found = rw (c.ok.ensures.value, ← c.self.view_is) found.0; absent = rw (c.ok.ensures.value, ← c.self.view_is) found.1 }
