-- A piece of a segment, as contracts see it.
use Rattle.std.specs.Prelude.{ℕ, List}

-- bytes of the segment of this number, from the byte `at` on
pub record PlacedBytes : Type 0 where
  pub segment : ℕ
  pub at : ℕ
  pub bytes : List ℕ
