-- What is staged once the first staged entry is taken out.
use Rattle.std.proofs.Common.{◌≡◌, ℕ, ◌+◌, ◌<◌, List, ◌∷◌, drop, length, Option, Some, ap, subst, ⊎_elim, arith}
use Rattle.std.specs.Prelude.{slice_get, IsSome, is_some}
use Rattle.std.proofs.lemmas.Option.{slice_get_cases}
use Rattle.rk_entry.specs.declared.entry.Entry.{Entry}
use Rattle.rk_staged.specs.declared.staged_entries.StagedEntries.{StagedEntries}
use Rattle.rk_staged.specs.Kept.{AreStaged, AreStagedFrom}
use Rattle.rk_staged.proofs.Keeping.{from_place}

module _ (old new : StagedEntries) (first : Option Entry) (place : ℕ) (all : List Entry) (from : AreStagedFrom place old all)
    (is_first : (entry : Entry) (entries : List Entry) → AreStaged old (entry ∷ entries) → first ≡ Some entry)
    (are_others : (entry : Entry) (entries : List Entry) → AreStaged old (entry ∷ entries) → AreStaged new entries) where
  -- the first one is the entry at the place
  pub first_is : (entry : Entry) → slice_get all place ≡ Some entry → first ≡ Some entry
  first_is entry at = is_first entry (drop (place + 1) all) (subst (AreStaged old) (from_place all place entry at) from)

  -- and the others are staged
  others_are : (entry : Entry) → slice_get all place ≡ Some entry → AreStagedFrom (place + 1) new all
  others_are entry at = are_others entry (drop (place + 1) all) (subst (AreStaged old) (from_place all place entry at) from)

  -- there is one, if not all are applied
  pub there_is : place < length all → IsSome first
  there_is left =
      ⊎_elim (λ found. ap is_some (first_is found.0 found.2)) (λ past. absurd (omega (arith, past.0, left))) (slice_get_cases all place).1

  pub others_there : place < length all → AreStagedFrom (place + 1) new all
  others_there left = ⊎_elim (λ found. others_are found.0 found.2) (λ past. absurd (omega (arith, past.0, left))) (slice_get_cases all place).1
