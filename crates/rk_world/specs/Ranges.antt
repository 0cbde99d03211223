-- Ranges of key hashes within a table: what is in one, its parts below and from a hash, and agreement in a range.
use Rattle.std.specs.Prelude.{ℕ, ◌-◌, Bool, true, ◌==◌, ◌&&◌, nat_le, List, ◌≡◌, Option}
use Rattle.rk_types.specs.Hashing.{hash_of}
use Rattle.rk_types.specs.Range.{has}
use Rattle.rk_types.specs.declared.range.Range.{Range}

-- whether a key of a table is in a range, by its hash
abbrev pub has_key : Range → ℕ → List ℕ → Bool
has_key range table key = has range table (hash_of key)

-- whether a range has all of another one
abbrev pub has_all : Range → Range → Bool
has_all outer inner = outer.table == inner.table && nat_le outer.first inner.first && nat_le inner.last outer.last

-- the part of a range below a hash
abbrev pub range_below : Range → ℕ → Range
range_below range at = record { table = range.table; first = range.first; last = at - 1 }

-- the part of a range from a hash on
abbrev pub range_from : Range → ℕ → Range
range_from range at = record { table = range.table; first = at; last = range.last }

-- the version and value of the record at each key, if there is one
abbrev pub Records : Type 0
Records = ℕ → List ℕ → Option (ℕ × List ℕ)

-- the same records at the keys of a range
abbrev pub AgreeIn : Range → Records → Records → Type 0
AgreeIn range a b = (table : ℕ) (key : List ℕ) → has_key range table key ≡ true → a table key ≡ b table key
