-- The journals of a cluster's lanes, the first that of lane 0.
use Rattle.std.specs.Prelude.{ℕ, List, map}
use denote.Ref.{Bor}
use Rattle.rk_types.specs.declared.history.Placed.{Placed}
use Rattle.rk_model.specs.Merged.{IsRisingAbove, journal_of}

-- the journals that references lead to
abbrev pub journals_of : List (Bor (List Placed)) → List (List Placed)
journals_of lent = map (λ journal. journal.now) lent

-- the stamps of each journal rise
abbrev pub AreRising : List (List Placed) → Type 0
AreRising journals = (lane : ℕ) → IsRisingAbove 0 (journal_of journals lane)
