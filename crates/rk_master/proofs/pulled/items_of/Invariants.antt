use Rattle.rk_master.proofs.Words.{◌≡◌, take, items_of}
use Rattle.rk_master.proofs.pulled.items_of.Given as goal

abbrev pub invariant-loop-entry : goal.invariant-loop-entry
invariant-loop-entry l = l.items.items ≡ items_of (take l.entry-index l.entries)
