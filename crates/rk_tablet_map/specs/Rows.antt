-- The rows of a tablet map: how they lie, what is found in them, and what a change makes of them.
use Rattle.std.specs.Prelude.{◌≡◌, ℕ, ◌-◌, ◌<◌, Bool, false, ◌==◌, ◌&&◌, nat_lt, nat_le, if◌then◌else◌, List, [], ◌∷◌, find, Option, Some, None, is_some}
use Rattle.std.specs.Option.{option_map}
use Rattle.std.specs.List.{AllByRecursion, list_any}
use Rattle.rk_types.specs.declared.range.Range.{Range}
use Rattle.rk_types.specs.Range.{has, meets}
use Rattle.rk_tablet_map.specs.declared.phase.Phase.{Phase}
use Rattle.rk_tablet_map.specs.declared.row.Row.{Row}
use Rattle.rk_tablet_map.specs.declared.error.MapError.{MapError}
use Rattle.rk_tablet_map.specs.declared.error.MapError.TheVariants.{NoTablet, Taken, BadSplit, Overlap}

-- a row that comes before another one has a smaller number, and their ranges do not meet
pub record Precedes (row later : Row) : Type 0 where
  pub smaller : row.tablet < later.tablet
  pub apart : meets row.range later.range ≡ false

-- rows as a map holds them: each precedes all later ones
abbrev pub IsTabletMap : List Row → Type 0
IsTabletMap [] = Unit {0}
IsTabletMap (row ∷ rows) = AllByRecursion (Precedes row) rows × IsTabletMap rows

-- the row of a tablet
abbrev pub row_of : List Row → ℕ → Option Row
row_of rows tablet = find (λ row. row.tablet == tablet) rows

-- the row whose range has the hash
abbrev pub row_with : List Row → ℕ → ℕ → Option Row
row_with rows table hash = find (λ row. has row.range table hash) rows

-- the tablet of a hash
abbrev pub tablet_of : List Row → ℕ → ℕ → Option ℕ
tablet_of rows table hash = option_map (λ row. row.tablet) (row_with rows table hash)

-- whether some row has the hash
abbrev pub is_covered : List Row → ℕ → ℕ → Bool
is_covered rows table hash = list_any (λ row. has row.range table hash) rows

-- whether the range meets that of some row
abbrev pub meets_any : List Row → Range → Bool
meets_any rows range = list_any (λ row. meets row.range range) rows

-- the rows with one more, in its place by number
abbrev pub placed : Row → List Row → List Row
placed row [] = row ∷ []
placed row (first ∷ rest) = if nat_le row.tablet first.tablet then row ∷ first ∷ rest else first ∷ placed row rest

-- the rows with the one of this tablet replaced
abbrev pub replaced : ℕ → Row → List Row → List Row
replaced tablet row [] = []
replaced tablet row (first ∷ rest) = if first.tablet == tablet then row ∷ rest else first ∷ replaced tablet row rest

-- why a row cannot be added; its number is tested before its range
abbrev pub add_fault : List Row → Row → Option MapError
add_fault rows row =
    if is_some (row_of rows row.tablet) then Some (Taken row.tablet)
    else (if meets_any rows row.range then Some Overlap else None)

-- whether a range can be split there, so that neither part is empty
abbrev pub is_split : Range → ℕ → Bool
is_split range at = nat_lt range.first at && nat_le at range.last

-- why a split of this row is refused, when the new number may be there already
abbrev pub cut_fault : Option Row → Option Row → ℕ → ℕ → Option MapError
cut_fault None taken at new = Some NoTablet
cut_fault (Some row) (Some taken) at new = Some (Taken new)
cut_fault (Some row) None at new = if is_split row.range at then None else Some (BadSplit at)

-- why a tablet cannot be split so
abbrev pub split_fault : List Row → ℕ → ℕ → ℕ → Option MapError
split_fault rows tablet at new = cut_fault (row_of rows tablet) (row_of rows new) at new

-- the part of a row below a hash, which keeps its number
abbrev pub lower_part : Row → ℕ → Row
lower_part row at = record row { range = record { table = row.range.table; first = row.range.first; last = at - 1 } }

-- the part from the hash on, with its own number
abbrev pub upper_part : Row → ℕ → ℕ → Row
upper_part row at new = record row { tablet = new; range = record { table = row.range.table; first = at; last = row.range.last } }

-- the rows with this one split in two
abbrev pub divided : Option Row → List Row → ℕ → ℕ → ℕ → List Row
divided None rows tablet at new = rows
divided (Some row) rows tablet at new = placed (upper_part row at new) (replaced tablet (lower_part row at) rows)

-- the rows after a split
abbrev pub split_rows : List Row → ℕ → ℕ → ℕ → List Row
split_rows rows tablet at new = divided (row_of rows tablet) rows tablet at new

-- the rows with this one at another term and phase
abbrev pub turned : Option Row → List Row → ℕ → ℕ → Phase → List Row
turned None rows tablet term phase = rows
turned (Some row) rows tablet term phase = replaced tablet (record row { term = term; phase = phase }) rows

-- the rows after a change of term and phase
abbrev pub changed_rows : List Row → ℕ → ℕ → Phase → List Row
changed_rows rows tablet term phase = turned (row_of rows tablet) rows tablet term phase
