-- Maps by number: things under their numbers, a list of pairs by rising number. They compute, so that worked examples and laws
-- by computation can use them, and they are what contracts see of the maps of the code.
use Rattle.std.specs.Prelude.{◌≡◌, ℕ, Bool, T, not, List, map, Option, Some, unwrap_or}
use Rattle.std.specs.Ordering.{nat_cmp, eq_by_cmp}
use Rattle.std.specs.FinMap.{find, put, is_sorted}
use Rattle.std.specs.FinMap.Entries.{where_key}
use Rattle.std.specs.Coded.{Coded, coded_list, coded×, coded_ℕ}

-- a map by number: each thing with its number
abbrev pub NumberMap : Type 0 → Type 0
NumberMap X = List (ℕ × X)

-- the thing under a number, if there is one
abbrev pub get : {X : Type 0} → NumberMap X → ℕ → Option X
get map number = find nat_cmp number map

-- the thing under a number, and this one if there is none
abbrev pub get_or : {X : Type 0} → X → NumberMap X → ℕ → X
get_or other map number = unwrap_or (get map number) other

-- the map with this under a number, in the place of what was there
abbrev pub insert : {X : Type 0} → NumberMap X → ℕ → X → NumberMap X
insert map number thing = put nat_cmp number thing map

-- the map with nothing under a number
abbrev pub remove : {X : Type 0} → NumberMap X → ℕ → NumberMap X
remove map number = where_key nat_cmp (λ other. not (eq_by_cmp nat_cmp number other)) map

-- the map with each thing changed, by its number and itself
abbrev pub changed_each : {X Y : Type 0} → (ℕ → X → Y) → NumberMap X → NumberMap Y
changed_each change things = map (λ entry. (entry.0, change entry.0 entry.1)) things

-- the numbers that have a thing, rising
abbrev pub numbers : {X : Type 0} → NumberMap X → List ℕ
numbers things = map (λ entry. entry.0) things

-- the numbers rise, so each of them is there once
abbrev pub IsInOrder : {X : Type 0} → NumberMap X → Type 0
IsInOrder map = T (is_sorted nat_cmp map)

-- each thing of a map has a property, with its number
abbrev pub EachIn : {X : Type 0} → (ℕ → X → Type 0) → NumberMap X → Type 0
EachIn {X} Fits map = (number : ℕ) (thing : X) → get map number ≡ Some thing → Fits number thing

-- it is stored as the list of its pairs
abbrev pub number_map_code : {X : Type 0} → Coded X → Coded (NumberMap X)
number_map_code thing = coded_list (coded× coded_ℕ thing)
