-- Counters: the next version of a key is above all that were given. So a version names one value of a key for ever, also
-- after a move and after a crash; the steps that stage a write, that grant and that merge need it.
use Rattle.std.specs.Prelude.{◌≡◌, ◌≤◌, ◌<◌, ℕ, Bool, true, List, ◌++◌, IfSome, All}
use Rattle.rk_types.specs.NumberMap.{NumberMap, EachIn}
use Rattle.rk_types.specs.declared.history.Placed.{Placed}
use Rattle.rk_types.specs.declared.range.Range.{Range}
use Rattle.rk_model.specs.History.{Map, map_after}
use Rattle.rk_model.specs.Machine.{last_version}
use Rattle.rk_entry.specs.declared.entry.Entry.{Entry}
use Rattle.rk_transfer.specs.declared.handover.Handover.{Handover}
use Rattle.rk_tablet_map.specs.declared.row.Row.{Row}
use Rattle.rk_message.specs.declared.message.Message.{Message}
use Rattle.rk_world.specs.Ranges.{has_key}
use Rattle.rk_world.specs.Material.{of_key}
use Rattle.rk_world.specs.Base.{Base, base_map}
use Rattle.rk_world.specs.Merge.{floor_of}
use Rattle.rk_world.specs.Coordinator.{Handed}
use Rattle.rk_world.specs.Written.{Written}
use Rattle.rk_sound.specs.Posts.{post_of, speaks, StillCounts}
use Rattle.rk_sound.specs.Handing.{handed_by, handed_for_grant, target_truth}

-- the floor of the entries that concern a key is above the version that a map has of it, for each key in a range
abbrev pub AreAboveMap : Range → Map → List Entry → Type 0
AreAboveMap range map entries =
    (table : ℕ) (key : List ℕ) → has_key range table key ≡ true → last_version (map table key) < floor_of (of_key table key entries)

-- a number from which the next version may be taken: above each version, and not below each floor, of what counts
abbrev pub IsNext : List Entry → ℕ → Type 0
IsNext material number = floor_of material ≤ number

pub record Counters (base : Base) (rows : List Row) (truths rests : Row → List Entry) (written : ℕ → Written) (handovers : ℕ → ℕ → Handover) (live : ℕ → Bool) (handed : NumberMap Handed) (journal : List Placed) (wire : NumberMap Message) : Type 0 where
  -- what a rebuild takes from the truth of a row is above each version that was given there, key by key
  pub low : All (λ row. AreAboveMap row.range (map_after (base_map base) journal) (truths row)) rows
  -- so is what a row that moves has once its source is forgotten
  pub moving :
      All (λ row. IfSome (target_truth written handed row row.phase) (AreAboveMap row.range (map_after (base_map base) journal))) rows
  -- so is the counter of a master that gives versions, or will, also with what is not applied
  pub counted :
      (master : ℕ)
      → All (λ row. StillCounts (live master) (handovers master row.tablet).term row.term
      → speaks (post_of row.phase master) (handovers master row.tablet) row.term ≡ true
      → IsNext (truths row ++ rests row) (handovers master row.tablet).counter) rows
  -- and each floor that is handed over
  pub handed_on :
      All (λ row. IfSome (handed_for_grant row handovers handed) (λ h. IsNext (truths row ++ rests row) h.floor)) rows
  pub sent :
      EachIn (λ number message.
      All (λ row. IfSome (handed_by row handovers message.body) (λ h. IsNext (truths row ++ rests row) h.floor)) rows) wire
