use Rattle.rk_master.proofs.Words.{◌≡◌, ◌++◌, into_iter_items, as_entries}
use Rattle.rk_master.proofs.pulls.entries_of.Given as goal

abbrev pub invariant-loop-item : goal.invariant-loop-item
invariant-loop-item l = l.entries ++ as_entries (into_iter_items l.item-iterator) ≡ as_entries l.fn.items.items
