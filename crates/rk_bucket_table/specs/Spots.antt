-- Places between two cells of a chain.
use Rattle.std.specs.Prelude.{◌≡◌, ℕ, Bool, true, false, List, [], ◌∷◌, ◌++◌, ◌⊎◌, Some, All}
use Rattle.rk_types.specs.declared.held.Held.{Held}
use Rattle.rk_bucket_table.specs.declared.cell.TheConstants.{END}
use Rattle.rk_bucket_table.specs.Cells.{Cells, IsSegment, cell_at, cell_of, chain}

-- the cell in front of a spot has the last of the items before it
pub record HasLast (cells : Cells) (head : ℕ) (front : List Held) (before at : ℕ) : Type 0 where
  pub others : List Held
  pub item : Held
  pub whole : front ≡ others ++ item ∷ []
  pub to : IsSegment cells head others before
  pub here : cell_at cells before ≡ Some (cell_of item at)

-- a spot of a chain: these items are before it, and those behind it
pub record IsSpot (cells : Cells) (head : ℕ) (front back : List Held) (before at : ℕ) : Type 0 where
  pub to : IsSegment cells head front at
  pub from : IsSegment cells at back END
  pub last : ((front ≡ []) × (before ≡ END)) ⊎ HasLast cells head front before at

-- the first item fails a test, if there is one
abbrev pub StopsAt : (Held → Bool) → List Held → Type 0
StopsAt passes [] = Unit {0}
StopsAt passes (item ∷ items) = passes item ≡ false

-- the items before a spot pass a test
pub record IsPassed (cells : Cells) (head : ℕ) (passes : Held → Bool) (before at : ℕ) : Type 0 where
  pub front : List Held
  pub back : List Held
  pub whole : chain cells head ≡ front ++ back
  pub spot : IsSpot cells head front back before at
  pub passed : All (λ item. passes item ≡ true) front

-- and the next one fails it
pub record IsSought (cells : Cells) (head : ℕ) (passes : Held → Bool) (before at : ℕ) : Type 0 where
  pub so_far : IsPassed cells head passes before at
  pub stops : StopsAt passes so_far.back
