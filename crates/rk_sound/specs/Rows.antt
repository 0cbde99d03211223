-- Rows: what the rows of the coordinator are. Their ranges do not meet, so a key's history lies in the logs of one row's
-- lineage alone; each step that appends or applies an entry needs it for the other rows.
use Rattle.std.specs.Prelude.{◌≡◌, ◌≢◌, ◌≤◌, ℕ, true, List, [], ◌∷◌, length, All, ⊤}
use Rattle.rk_types.specs.Hashing.{hash_of}
use Rattle.rk_types.specs.declared.history.Placed.{Placed}
use Rattle.rk_types.specs.declared.lineage.Member.{Member}
use Rattle.rk_tablet_map.specs.Phase.{lineage_of}
use Rattle.rk_tablet_map.specs.Rows.{IsTabletMap, is_covered}
use Rattle.rk_tablet_map.specs.declared.phase.Phase.{Phase}
use Rattle.rk_tablet_map.specs.declared.phase.Phase.TheVariants.{Owned, Opening, Moving, Rebuilding}
use Rattle.rk_tablet_map.specs.declared.row.Row.{Row}
use Rattle.rk_world.specs.Written.{Written}

-- a lineage has one member, or two that are different masters
abbrev pub AreApart : List Member → Type 0
AreApart [] = ⊥
AreApart (member ∷ []) = ⊤
AreApart (first ∷ last ∷ []) = first.master ≢ last.master
AreApart (first ∷ second ∷ third ∷ more) = ⊥

-- source and target differ, and so do the members of a lineage
abbrev pub IsFormed : Phase → Type 0
IsFormed (Owned master from) = ⊤
IsFormed (Opening source sfrom target dfrom) = source ≢ target
IsFormed (Moving source sfrom target dfrom) = source ≢ target
IsFormed (Rebuilding lineage to) = AreApart lineage

-- a member's place is one of its log, or its end
abbrev pub IsPlaced : (ℕ → Written) → Member → Type 0
IsPlaced written member = member.from ≤ length (written member.master).entries

pub record Rows (rows : List Row) (written : ℕ → Written) (journal : List Placed) : Type 0 where
  -- numbers rise, and ranges of one table do not meet
  pub apart : IsTabletMap rows
  -- terms begin at 1
  pub begun : All (λ row. 1 ≤ row.term) rows
  pub formed : All (λ row. IsFormed row.phase) rows
  pub placed : All (λ row. All (IsPlaced written) (lineage_of row.phase)) rows
  -- each record of the journal has its key in a row
  pub covered : All (λ entry. is_covered rows entry.call.table (hash_of entry.call.key) ≡ true) journal
