-- The ledger once a rebuild is taken.
use Rattle.std.proofs.Common.{arith, ◌≡◌, not, List, Some}
use Rattle.std.specs.List.{filter}
use Rattle.rk_types.specs.declared.history.Placed.{Placed}
use Rattle.rk_message.specs.declared.rebuilding.Rebuilt.{Rebuilt}
use Rattle.rk_world.specs.declared.work.Mark.{Mark}
use Rattle.rk_world.specs.Ledger.{Ledger, with_ends, with_rebuilt}
use Rattle.rk_world.specs.Marks.{is_mark_of}
use Rattle.rk_ledger.specs.Growing.{with_journal}

-- its ends made records, and its marks are left out
pub rebuilt_taken : (ledger : Ledger) (journal : List Placed) (marks : List Mark) (rebuilt : Rebuilt)
    → with_journal ledger journal ≡ with_ends ledger rebuilt.ends
    → marks ≡ filter (λ mark. not (is_mark_of rebuilt.tenure.tablet rebuilt.tenure.term mark)) ledger.marks
    → record ledger { journal = journal; marks = marks } ≡ with_rebuilt ledger (Some rebuilt)
rebuilt_taken ledger journal marks rebuilt recorded left = grind arith
