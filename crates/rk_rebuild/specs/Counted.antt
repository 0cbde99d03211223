-- What is kept of the members whose entries count.
use Rattle.std.specs.Prelude.{◌≡◌, List, map}
use Rattle.std.specs.List.{flat_map}
use Rattle.rk_entry.specs.declared.entry.Entry.{Entry}
use Rattle.rk_world.specs.Ends.{told}
use Rattle.rk_rebuild.specs.Lent.{lent}
use Rattle.rk_rebuild.specs.declared.merging.Counted.{Counted}

-- all that counts of members, one after the other, and the ends that each of them records
pub record IsCounted (counted : Counted) (members : List (List Entry)) : Type 0 where
  pub all : lent counted.all.items ≡ flat_map (λ entries. entries) members
  pub told : counted.told.items ≡ map told members
