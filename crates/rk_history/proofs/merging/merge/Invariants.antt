use Rattle.std.proofs.Common.{◌≡◌, ◌++◌, length}
use Rattle.std.specs.List.{sum_by}
use Rattle.rk_model.specs.Merged.{merged}
use Rattle.rk_history.specs.Journals.{AreRising, journals_of}
use Rattle.rk_history.proofs.merging.merge.Given as goal

-- the history so far goes on with what is left
abbrev pub invariant-merge : goal.invariant-merge
invariant-merge l = record {
  lanes : length l.rest.items ≡ length l.journals;
  rising : AreRising (journals_of l.rest.items);
  merges : l.history.items ++ merged (journals_of l.rest.items) ≡ merged (journals_of l.journals);
}

abbrev pub decreases-merge : goal.decreases-merge
decreases-merge l = sum_by (λ journal. length journal) (journals_of l.rest.items)
