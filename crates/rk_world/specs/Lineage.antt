-- Lineages: the members whose logs have the history of a tablet, first to last.
use Rattle.std.specs.Prelude.{ℕ, ◌==◌, Bool, List, [], ◌∷◌, find, Option, Some, None}
use Rattle.std.specs.List.{list_any}
use Rattle.rk_types.specs.declared.lineage.Member.{Member}
use Rattle.rk_tablet_map.specs.Phase.{member}

-- whether a lineage names a master
abbrev pub is_member : List Member → ℕ → Bool
is_member lineage master = list_any (λ member. member.master == master) lineage

-- the first member of a lineage, if it has one
abbrev pub first_of : List Member → Option Member
first_of [] = None
first_of (first ∷ more) = Some first

-- the second member of a lineage, if it has two
abbrev pub second_of : List Member → Option Member
second_of [] = None
second_of (only ∷ []) = None
second_of (first ∷ second ∷ more) = Some second

-- the last member of a lineage, if it has one
abbrev pub last_of : List Member → Option Member
last_of [] = None
last_of (member ∷ []) = Some member
last_of (member ∷ next ∷ more) = last_of (next ∷ more)

-- the master's own place in a lineage
abbrev pub own_member : List Member → ℕ → Option Member
own_member lineage number = find (λ member. member.master == number) lineage
