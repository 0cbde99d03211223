-- The bytes of the values of a journal: with one record more, with one fewer, and once one is accepted.
use Rattle.std.proofs.Common.{arith, ◌≡◌, ℕ, zero, suc, ◌+◌, List, [], ◌∷◌, ◌++◌, Option, Some, None, refl}
use Rattle.std.specs.Prelude.{slice_get, slice_set}
use Rattle.std.proofs.lemmas.List.Sums.{sum_by-cons, sum_by_push}
use Rattle.rk_types.specs.declared.history.Placed.{Placed}
use Rattle.rk_world.specs.Journal.{accepted_at, as_accepted}
use Rattle.rk_ledger.specs.Values.{record_bytes, value_bytes}

-- with one more record
pub bytes_push : (records : List Placed) (placed : Placed) → value_bytes (records ++ placed ∷ []) ≡ value_bytes records + record_bytes placed
bytes_push = sum_by_push record_bytes

bytes_set : (records : List Placed) (place : ℕ) (placed : Placed) → slice_get records place ≡ Some placed
    → value_bytes (slice_set records place (as_accepted placed)) ≡ value_bytes records
bytes_set [] place placed stands = refl
bytes_set (first ∷ records) zero placed stands = grind (arith, sum_by-cons)
bytes_set (first ∷ records) (suc place) placed stands = search (sum_by-cons, (bytes_set records place placed stands))

-- they stay once a record is accepted
pub bytes_accepted : (records : List Placed) (place : ℕ) (found : Option Placed) → slice_get records place ≡ found
    → value_bytes (accepted_at records place found) ≡ value_bytes records
bytes_accepted records place None stands = refl
bytes_accepted records place (Some placed) stands = bytes_set records place placed stands
