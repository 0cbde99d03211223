-- What a rebuild has read back of a row, once all is gathered: its truth, and a first part of its rest.
use Rattle.std.specs.Prelude.{◌≡◌, ◌≤◌, List, [], ◌∷◌, ◌++◌, ◌↔◌, All, Contains, map}
use Rattle.std.specs.List.{flat_map}
use Rattle.rk_types.specs.declared.call.Ended.{Ended}
use Rattle.rk_types.specs.declared.held.Held.{Held}
use Rattle.rk_entry.specs.declared.entry.Entry.{Entry}
use Rattle.rk_world.specs.Ends.{items_of, told}
use Rattle.rk_world.specs.Merge.{floor_of}

-- all entries of some members
abbrev pub all_of : List (List Entry) → List Entry
all_of members = flat_map (λ entries. entries) members

-- the ends that were read, member by member, in order: those of the part are together at one member, in their order. All others are
-- recorded by the truth or by the part, those before them at that member by the truth, and members after it record none
pub record TellInOrder (truth part : List Entry) (members : List (List Entry)) : Type 0 where
  pub before : List (List Ended)
  pub first : List Ended
  pub behind : List Ended
  pub after : List (List Ended)
  pub split : map told members ≡ before ++ (first ++ told part ++ behind) ∷ after
  pub before_told : All (All (Contains (told (truth ++ part)))) before
  pub first_told : All (Contains (told truth)) first
  pub behind_told : All (Contains (told (truth ++ part))) behind
  pub after_none : All (λ ends. ends ≡ []) after

-- what was read of the members of a lineage is the truth of a row and a first part of its rest
pub record IsReadBack (truth rest : List Entry) (members : List (List Entry)) : Type 0 where
  pub part : List Entry
  pub left : List Entry
  pub split : rest ≡ part ++ left
  pub items : (item : Held) → Contains (items_of (all_of members)) item ↔ Contains (items_of (truth ++ part)) item
  pub floor : floor_of (truth ++ part) ≤ floor_of (all_of members)
  pub told_all : All (Contains (told (all_of members))) (told truth)
  pub ends : TellInOrder truth part members
