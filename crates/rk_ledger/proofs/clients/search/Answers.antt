use Rattle.std.proofs.Common.{rules}
use Rattle.std.proofs.lemmas.List.Sorted.{answers_always}
use Rattle.rk_types.proofs.Places.{found_place}
use Rattle.rk_ledger.proofs.clients.search.Goals as goal

-- the closure gives an entry's number
pub returns : goal.returns
returns c =
    let facts = c.binary_search_by_key.ensures in
    let by_number = facts.position (λ entry. entry.0) (answers_always _ _ _ (λ f a r g called. search rules)) in
    let found = found_place c.args.client c.args.entries.now _ c.requires facts.bound by_number in
    record { found = found.0; absent = found.1 }
