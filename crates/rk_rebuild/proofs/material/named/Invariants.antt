use Rattle.rk_rebuild.proofs.Words.{◌≡◌, take, named, lent}
use Rattle.rk_rebuild.specs.Numbers.{IsSetOf}
use Rattle.rk_rebuild.proofs.material.named.Given as goal

-- those that the entries so far name, and the set of them
abbrev pub invariant-loop-entry : goal.invariant-loop-entry
invariant-loop-entry l =
    (l.numbers.items ≡ named l.range (lent (take l.entry-index l.entries))) × IsSetOf l.seen l.numbers.items
