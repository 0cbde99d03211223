use Rattle.rk_conclude.proofs.Words.{◌≡◌, All, map, take, journals_of}
use Rattle.rk_model.specs.Merged.{IsRisingAbove}
use Rattle.rk_conclude.proofs.results.journals_of.Given as goal

-- the journals of the lanes so far
abbrev pub invariant-loop-lane : goal.invariant-loop-lane
invariant-loop-lane g l =
    (journals_of l.journals.items ≡ map (λ lane. lane.ledger.journal) (take l.lane-index l.lanes))
    × All (IsRisingAbove 0) (journals_of l.journals.items)
