-- Which record of several journals comes first.
use Rattle.std.specs.Prelude.{◌≡◌, ◌≢◌, ℕ, ◌<◌, true, List, [], ◌∷◌, Option, MatchOption}
use Rattle.rk_types.specs.declared.history.Placed.{Placed}
use Rattle.rk_model.specs.declared.line.Line.{Line}
use Rattle.rk_model.specs.Merged.{is_before, journal_of}
use Rattle.rk_history.specs.declared.merging.First.{First}

-- the line of a lane's record
abbrev pub line_of : ℕ → Placed → Line
line_of lane placed = record { lane = lane; placed = placed }

-- a line comes before the first lines of all other lanes below this one
abbrev pub IsLeast : List (List Placed) → ℕ → Line → Type 0
IsLeast journals count line =
    (other : ℕ) (placed : Placed) (later : List Placed)
    → other < count → journal_of journals other ≡ placed ∷ later → other ≢ line.lane
    → is_before line (line_of other placed) ≡ true

-- this is the first record of a lane below this one, with those behind it, and comes first
pub record IsFirst (journals : List (List Placed)) (count : ℕ) (first : First) : Type 0 where
  pub within : first.lane < count
  pub here : journal_of journals first.lane ≡ first.placed.now ∷ first.later.now
  pub least : IsLeast journals count (line_of first.lane first.placed.now)

-- no lane below this one has a record
abbrev pub AreEmpty : List (List Placed) → ℕ → Type 0
AreEmpty journals count = (lane : ℕ) → lane < count → journal_of journals lane ≡ []

-- the record that comes first of those of the lanes below this one, if they have any
abbrev pub IsFirstOf : List (List Placed) → ℕ → Option First → Type 0
IsFirstOf journals count first = MatchOption first (AreEmpty journals count) (IsFirst journals count)
