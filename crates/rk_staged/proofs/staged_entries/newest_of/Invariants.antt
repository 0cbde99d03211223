use Rattle.rk_staged.proofs.Words.{◌≡◌, List, ◌++◌, take, option_copied, Entry, newest, items_of}
use Rattle.rk_staged.proofs.staged_entries.newest_of.Given as goal

abbrev pub invariant-loop-entry : goal.invariant-loop-entry
invariant-loop-entry l = (before : List Entry) → option_copied l.fn.best ≡ newest (items_of before) l.name.0 l.name.1
    → option_copied l.best ≡ newest (items_of (before ++ take l.entry-index l.entries)) l.name.0 l.name.1
