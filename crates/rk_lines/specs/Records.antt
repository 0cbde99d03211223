-- The records of a table, in lines by the bytes of their keys.
use Rattle.std.specs.Prelude.{ℕ, Bool, List, [], ◌∷◌, ◌++◌, codes, decimal, if◌then◌else◌, Option, Some, None}
use Rattle.std.specs.List.{flat_map}
use Rattle.std.specs.List.Sorted.{IsPermutation, IsSortedBy, IsStableBy}
use Rattle.std.specs.Ordering.{is_lt, nat_cmp}
use Rattle.std.specs.Cmp.Lexicographic.{slice_cmp}
use Rattle.rk_types.specs.declared.held.Held.{Held}
use Rattle.rk_lines.specs.Lines.{value_text}

-- a record with its version and its value; a tombstone has no line
abbrev pub record_line : List ℕ → ℕ → Option (List ℕ) → List ℕ
record_line key version None = []
record_line key version (Some value) = codes "record " ++ key ++ codes " " ++ decimal version ++ value_text value ++ codes "\n"

-- the line of an item
abbrev pub item_line : Held → List ℕ
item_line item = record_line item.key item.version item.value

-- whether the key of an item comes before that of another
abbrev pub is_before : Held → Held → Bool
is_before a b = is_lt (slice_cmp nat_cmp a.key b.key)

-- items by key, with one more before all whose keys are not smaller
abbrev pub put_by_key : Held → List Held → List Held
put_by_key item [] = item ∷ []
put_by_key item (first ∷ items) = if is_before first item then first ∷ put_by_key item items else item ∷ first ∷ items

-- the same items by key; those of one key stay in their order
abbrev pub by_key : List Held → List Held
by_key [] = []
by_key (item ∷ items) = put_by_key item (by_key items)

-- what pins the items by key: no key comes before an earlier one, and they are the same items, with those of one key in
-- their order
pub record AreByKey (items sorted : List Held) : Type 0 where
  pub rises : IsSortedBy is_before sorted
  pub same : IsPermutation items sorted
  pub stable : IsStableBy is_before items sorted

-- the lines of items that are given in any order
abbrev pub record_lines : List Held → List ℕ
record_lines items = flat_map item_line (by_key items)
