use Rattle.rk_master.proofs.Words.{◌≡◌, drop, list_all, is_above, tablets_of}
use Rattle.rk_master.proofs.tablets.is_above_all.Given as goal

abbrev pub invariant-loop-entry : goal.invariant-loop-entry
invariant-loop-entry l = list_all (is_above l.range l.term) (tablets_of l.tablets) ≡ list_all (is_above l.range l.term) (tablets_of (drop l.entry-index l.tablets))
