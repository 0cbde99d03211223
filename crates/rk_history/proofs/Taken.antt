-- What is left of lent journals once the record that comes first is taken.
use Rattle.std.proofs.Common.{arith, ◌≡◌, ◌<◌, List, [], ◌∷◌, ◌++◌, length, set, Bor}
use Rattle.std.specs.List.{sum_by}
use Rattle.std.proofs.lemmas.List.{length-map, map-set}
use Rattle.rk_types.specs.declared.history.Placed.{Placed}
use Rattle.rk_model.specs.Merged.{lines_of, merged}
use Rattle.rk_history.specs.declared.merging.First.{First}
use Rattle.rk_history.specs.First.{IsFirst}
use Rattle.rk_history.specs.Journals.{AreRising, journals_of}
use Rattle.rk_history.proofs.Merges.{fewer_left, merged_first, rising_after}

-- the journals without that record
abbrev pub without : List (Bor (List Placed)) → First → List (List Placed)
without lent first = journals_of (set lent first.lane first.later)

-- their stamps rise, their history is the rest of that of all, and they have fewer records
pub record IsTaken (lent : List (Bor (List Placed))) (first : First) : Type 0 where
  pub rising : AreRising (without lent first)
  pub merges : merged (journals_of lent) ≡ lines_of first.lane (first.placed.now ∷ []) ++ merged (without lent first)
  pub fewer : sum_by (λ journal. length journal) (without lent first) < sum_by (λ journal. length journal) (journals_of lent)

pub taken : (lent : List (Bor (List Placed))) (first : First) → AreRising (journals_of lent)
    → IsFirst (journals_of lent) (length lent) first → IsTaken lent first
taken lent first rises is = grind (arith, rising_after, merged_first, fewer_left, length-map, map-set)
