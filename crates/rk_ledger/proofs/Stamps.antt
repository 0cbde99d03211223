-- The last stamp of a journal is that of its last record.
use Rattle.std.proofs.Common.{◌≡◌, ℕ, ◌-◌, List, [], ◌∷◌, length, Option, Some, None, refl, sym, ap, ◌∙◌, arith}
use Rattle.std.specs.List.{slice_get}
use Rattle.rk_types.specs.declared.history.Placed.{Placed}
use Rattle.rk_world.specs.Journal.{last_stamp, last_stamp_from}

-- the stamp of a record, 0 if there is none
abbrev pub stamp_of : Option Placed → ℕ
stamp_of None = 0
stamp_of (Some placed) = placed.stamp

last_of : (stamp : ℕ) (placed : Placed) (records : List Placed)
    → last_stamp_from stamp (placed ∷ records) ≡ stamp_of (slice_get (placed ∷ records) (length records))
last_of stamp placed [] = refl
last_of stamp placed (next ∷ records) = last_of placed.stamp next records

-- the last stamp, by the last place
pub last_is : (records : List Placed) → last_stamp records ≡ stamp_of (slice_get records (length records - 1))
last_is [] = refl
last_is (placed ∷ records) =
    let last : length (placed ∷ records) - 1 ≡ length records = omega arith in
    last_of 0 placed records ∙ ap (λ (n : ℕ). stamp_of (slice_get (placed ∷ records) n)) (sym last)
