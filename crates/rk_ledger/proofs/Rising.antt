-- The stamps of a journal rise still: with one record more, with fewer, and once one is accepted.
use Rattle.std.proofs.Common.{arith, ◌≡◌, ℕ, zero, suc, ◌<◌, List, [], ◌∷◌, ◌++◌, Option, Some, None}
use Rattle.std.specs.Prelude.{slice_get, slice_set}
use Rattle.rk_types.specs.declared.history.Placed.{Placed}
use Rattle.rk_model.specs.Merged.{IsRisingAbove}
use Rattle.rk_world.specs.Journal.{accepted_at, as_accepted, last_stamp_from}

-- with one more record, whose stamp is above the last
pub rising_push : (stamp : ℕ) (records : List Placed) (placed : Placed) → IsRisingAbove stamp records → last_stamp_from stamp records < placed.stamp
    → IsRisingAbove stamp (records ++ placed ∷ [])
rising_push stamp [] placed rising above = (above, tt)
rising_push stamp (first ∷ records) placed rising above = (rising.0, rising_push first.stamp records placed rising.1 above)

-- without the last ones
pub rising_front : (stamp : ℕ) (records more : List Placed) → IsRisingAbove stamp (records ++ more) → IsRisingAbove stamp records
rising_front stamp [] more rising = tt
rising_front stamp (first ∷ records) more rising = (rising.0, rising_front first.stamp records more rising.1)

rising_set : (stamp : ℕ) (records : List Placed) (place : ℕ) (placed : Placed) → slice_get records place ≡ Some placed → IsRisingAbove stamp records
    → IsRisingAbove stamp (slice_set records place (as_accepted placed))
rising_set stamp [] place placed stands rising = tt
rising_set stamp (first ∷ records) zero placed stands rising = grind arith
rising_set stamp (first ∷ records) (suc place) placed stands rising = (rising.0, rising_set first.stamp records place placed stands rising.1)

-- once a record is accepted
pub rising_accepted : (stamp : ℕ) (records : List Placed) (place : ℕ) (found : Option Placed) → slice_get records place ≡ found → IsRisingAbove stamp records
    → IsRisingAbove stamp (accepted_at records place found)
rising_accepted stamp records place None stands rising = rising
rising_accepted stamp records place (Some placed) stands rising = rising_set stamp records place placed stands rising
