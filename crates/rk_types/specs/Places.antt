-- Where a number is in a map by rising number.
use Rattle.std.specs.Prelude.{◌≡◌, ℕ, ◌<◌, ◌≤◌, List, length, slice_index_or}
use Rattle.rk_types.specs.NumberMap.{NumberMap}

module _ {X : Type 0} where
  -- the entry of this number is at this place
  pub record IsAt (number : ℕ) (entries : NumberMap X) (place : ℕ) : Type 0 where
    pub within : place < length entries
    pub same : (d : ℕ × X) → (slice_index_or entries place d).0 ≡ number

  -- the numbers before this place are smaller, and those from it on greater
  pub record IsBetween (number : ℕ) (entries : NumberMap X) (place : ℕ) : Type 0 where
    pub within : place ≤ length entries
    pub smaller : (k : ℕ) (d : ℕ × X) → k < place → (slice_index_or entries k d).0 < number
    pub greater : (k : ℕ) (d : ℕ × X) → place ≤ k → k < length entries → number < (slice_index_or entries k d).0
