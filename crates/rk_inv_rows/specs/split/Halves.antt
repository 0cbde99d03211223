-- A half of a range, and entries of whole ranges.
use Rattle.std.specs.Prelude.{◌≡◌, ◌≤◌, ⊤, true}
use Rattle.rk_types.specs.Range.{meets}
use Rattle.rk_types.specs.declared.range.Range.{Range}
use Rattle.rk_entry.specs.declared.entry.Entry.{Entry}
use Rattle.rk_entry.specs.declared.entry.Entry.TheVariants as entries
use Rattle.rk_world.specs.Ranges.{has_all}

-- a part of a range, which is not empty
pub record IsHalf (whole half : Range) : Type 0 where
  pub table : half.table ≡ whole.table
  pub first : whole.first ≤ half.first
  pub last : half.last ≤ whole.last
  pub some : half.first ≤ half.last

-- a Carried or a Joined that meets the whole range has all of it
abbrev pub IsOfWhole : Range → Entry → Type 0
IsOfWhole whole (entries.Carried carried) = meets whole carried.range ≡ true → has_all carried.range whole ≡ true
IsOfWhole whole (entries.Joined joined) = meets whole joined.range ≡ true → has_all joined.range whole ≡ true
IsOfWhole whole entry = ⊤
