-- Ranges of key hashes: what is in one, and when two meet.
use Rattle.std.specs.Prelude.{ℕ, Bool, ◌==◌, ◌&&◌, nat_le}
use Rattle.rk_types.specs.declared.range.Range.{Range}

-- whether a hash of a table is in a range
abbrev pub has : Range → ℕ → ℕ → Bool
has range table hash = range.table == table && nat_le range.first hash && nat_le hash range.last

-- whether two ranges that are not empty have a hash in common
abbrev pub meets : Range → Range → Bool
meets a b = a.table == b.table && nat_le a.first b.last && nat_le b.first a.last
