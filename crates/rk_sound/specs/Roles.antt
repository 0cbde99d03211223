-- Roles: what each master has of a tablet, while that counts, fits what it is to the tablet's row. So at most one master answers calls
-- for a key, and what a phase says of its masters is so; each step that takes an order or a report needs it.
use Rattle.std.specs.Prelude.{◌≡◌, ℕ, Bool, true, false, List, Some, is_some, All, ⊤}
use Rattle.rk_transfer.specs.declared.handover.Handover.{Handover}
use Rattle.rk_tablet_map.specs.Phase.{lineage_of}
use Rattle.rk_tablet_map.specs.Rows.{row_of}
use Rattle.rk_tablet_map.specs.declared.phase.Phase.{Phase}
use Rattle.rk_tablet_map.specs.declared.phase.Phase.TheVariants.{Opening, Moving}
use Rattle.rk_tablet_map.specs.declared.row.Row.{Row}
use Rattle.rk_world.specs.Lineage.{is_member}
use Rattle.rk_world.specs.RoleTests.{is_absent}
use Rattle.rk_world.specs.Written.{Written}
use Rattle.rk_sound.specs.Posts.{post_of, bond_of, Holds, StillCounts}

-- what a master has of a tablet, while that counts, fits its post, with so many of its entries applied
abbrev pub RoleFits : Row → ℕ → Handover → ℕ → Type 0
RoleFits row master handover applied =
    Holds (bond_of (post_of row.phase master) handover.role) row.term handover.term applied

-- who hands a tablet over, and who takes it, keep the row's term, dead or alive: the one once it has reported what it hands over,
-- the other once it has reported its place
abbrev pub KeepTerm : Phase → (ℕ → ℕ) → ℕ → Type 0
KeepTerm (Opening source sfrom target (Some dfrom)) terms term = terms target ≡ term
KeepTerm (Moving source sfrom target dfrom) terms term = (terms source ≡ term) × (terms target ≡ term)
KeepTerm phase terms term = ⊤

pub record Roles (rows : List Row) (handovers : ℕ → ℕ → Handover) (written : ℕ → Written) (live : ℕ → Bool) : Type 0 where
  pub fitting :
      (master : ℕ)
      → All (λ row. StillCounts (live master) (handovers master row.tablet).term row.term
      → RoleFits row master (handovers master row.tablet) (written master).applied) rows
  -- a member of the lineage, while it counts, keeps the row's range
  pub ranged :
      (master : ℕ)
      → All (λ row. StillCounts (live master) (handovers master row.tablet).term row.term
      → is_member (lineage_of row.phase) master ≡ true → (handovers master row.tablet).range ≡ row.range) rows
  pub at_term : All (λ row. KeepTerm row.phase (λ master. (handovers master row.tablet).term) row.term) rows
  -- each tablet of a living master that is not absent has a row
  pub known :
      (master tablet : ℕ) → live master ≡ true
      → is_absent (handovers master tablet).role ≡ false → is_some (row_of rows tablet) ≡ true
