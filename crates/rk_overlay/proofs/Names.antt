-- Of which record an item is.
use Rattle.std.proofs.Common.{arith, ◌≡◌, ℕ, true, eqb, List}
use Rattle.std.proofs.lemmas.Bool.{and_parts, and_from, eqb-true, eq-eqb}
use Rattle.std.proofs.lemmas.Slice.Eq.{bytes_eq-Decides}
use Rattle.rk_types.specs.declared.held.Held.{Held}
use Rattle.rk_overlay.specs.Newest.{is_of}

-- an item of a record has its table and its key
pub is_of_parts : (table : ℕ) (key : List ℕ) (item : Held) → is_of table key item ≡ true → (item.table ≡ table) × (item.key ≡ key)
is_of_parts table key item here = grind (arith, and_parts, eqb, eqb-true, bytes_eq-Decides)

-- and an item that has them is of the record
pub is_of_from : (table : ℕ) (key : List ℕ) (item : Held) → item.table ≡ table → item.key ≡ key → is_of table key item ≡ true
is_of_from table key item its_table its_key = grind (arith, and_from, eqb, eq-eqb, bytes_eq-Decides)
