-- The set of the numbers of a list.
use Rattle.std.specs.Prelude.{◌≡◌, ℕ, List}
use Rattle.std.specs.Ordering.{nat_cmp}
use Rattle.std.specs.BTreeSet.{BTreeSet, contains}
use Rattle.rk_entry.specs.Lists.{is_among}

-- a set has just the numbers of a list
abbrev pub IsSetOf : BTreeSet ℕ → List ℕ → Type 0
IsSetOf set numbers = (number : ℕ) → contains nat_cmp set number ≡ is_among number numbers
