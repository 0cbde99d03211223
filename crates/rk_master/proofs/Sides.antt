-- Side segments spell their items, and are put beside a log one after the other.
use Rattle.rk_master.proofs.Words.{◌≡◌, ℕ, suc, ◌+◌, List, [], ◌∷◌, ◌++◌, length, length-append, ap, ◌∙◌, append_assoc, arith, All}
use Rattle.rk_master.proofs.Words.{range_with_len, Held, entries_of, IsLawfulHeld, Log, as_entries, spelled_items, with_sides, IsSpelled}
use Rattle.rk_log.specs.Log.{with_side}
use Rattle.rk_side_log.proofs.Filled.{entries_spelled, items_spelled}
use Rattle.rk_master.specs.Sides.{side_items}

-- the entries that a side segment spells are its items
pub entries_in : (bytes : List ℕ) → IsSpelled bytes → entries_of bytes ≡ as_entries (side_items bytes)
entries_in bytes is = ap entries_of is.bytes_are ∙ entries_spelled (side_items bytes) is.lawful

-- the spelling of lawful items is that of a side segment
pub spelled_so : (items : List Held) → All IsLawfulHeld items → IsSpelled (spelled_items items)
spelled_so items lawful = grind (arith, items_spelled, spelled_items)

-- a segment beside the log, and then the rest, are all of them
pub side_added : (log new : Log) (bytes : List ℕ) (rest : List (List ℕ)) → new ≡ with_side log bytes → with_sides new rest ≡ with_sides log (bytes ∷ rest)
side_added log new bytes rest is = grind (arith, with_sides, append_assoc)

-- so are its number, and then those of the rest
pub number_added : (log new : Log) (bytes numbers more : List ℕ) (first number count : ℕ) → new ≡ with_side log bytes → number ≡ first + length log.sides
    → more ≡ numbers ++ number ∷ []
    → more ++ range_with_len (first + length new.sides) count ≡ numbers ++ range_with_len (first + length log.sides) (suc count)
number_added log new bytes numbers more first number count is number_is more_is = grind (arith, append_assoc, length-append)
