-- Tables: the records of a master that answers calls for a tablet, or gave it away, are the newest applied items of it. So a
-- read need not look into the log, and what a frozen source hands out is all that there is; the steps that read, that choose
-- what a call does, and that answer a pull need it.
use Rattle.std.specs.Prelude.{◌≡◌, ◌↔◌, ℕ, Bool, true, false, nat_lt, List, Some, Contains, IfSome, All}
use Rattle.rk_types.specs.declared.held.Held.{Held}
use Rattle.rk_types.specs.declared.range.Range.{Range}
use Rattle.rk_entry.specs.declared.entry.Entry.{Entry}
use Rattle.rk_table.specs.Items.{is_in}
use Rattle.rk_table.specs.Order.{IsInScanOrder}
use Rattle.rk_transfer.specs.declared.handover.Handover.{Handover}
use Rattle.rk_tablet_map.specs.Phase.{lineage_of}
use Rattle.rk_tablet_map.specs.declared.row.Row.{Row}
use Rattle.rk_overlay.specs.Newest.{newest}
use Rattle.rk_world.specs.Ends.{items_of}
use Rattle.rk_world.specs.Lineage.{first_of}
use Rattle.rk_world.specs.Written.{Written, member_truth}
use Rattle.rk_sound.specs.Posts.{Post, Owner, OpeningSource, MovingSource, OnlyRebuilder, FirstRebuilder, post_of}

-- records have, of a range, the newest item of each key of these entries
abbrev pub IsTableOf : Range → List Entry → List Held → Type 0
IsTableOf range material records =
    (item : Held) → is_in range item ≡ true
    → (Contains records item ↔ (newest (items_of material) item.table item.key ≡ Some item))

-- whether a master's records have all of the tablet: it owns it or gives it away, or it gave it away or is to rebuild it and
-- has not begun
abbrev pub has_all_items : Post → Handover → ℕ → Bool
has_all_items (Owner place) handover term = true
has_all_items OpeningSource handover term = true
has_all_items MovingSource handover term = true
has_all_items (OnlyRebuilder place) handover term = nat_lt handover.term term
has_all_items (FirstRebuilder place) handover term = nat_lt handover.term term
has_all_items _ handover term = false

-- the records have what is applied at the first member of a row's lineage
abbrev pub HasItems : Row → (ℕ → Written) → List Held → Type 0
HasItems row written records =
    IfSome (first_of (lineage_of row.phase))
    (λ member. IsTableOf row.range (member_truth written row.range member) records)

pub record Tables (rows : List Row) (written : ℕ → Written) (handovers : ℕ → ℕ → Handover) (records : ℕ → List Held) (live : ℕ → Bool) : Type 0 where
  -- records are in scan order, so no key is there twice
  pub ordered : (master : ℕ) → IsInScanOrder (records master)
  pub items :
      (master : ℕ) → live master ≡ true
      → All (λ row. has_all_items (post_of row.phase master) (handovers master row.tablet) row.term ≡ true
      → HasItems row written (records master)) rows
