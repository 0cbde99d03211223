use Rattle.std.proofs.Common.{◌≡◌, take}
use Rattle.rk_history.specs.Journals.{journals_of}
use Rattle.rk_history.proofs.merging.lend_again.Given as goal

abbrev pub invariant-loop-journal : goal.invariant-loop-journal
invariant-loop-journal l = journals_of l.lent.items ≡ journals_of (take l.journal-index l.journals)
