-- Lineages: when a row may take another lineage, so that its truth and its rest are other lists.
use Rattle.std.specs.Prelude.{◌≡◌, ◌≤◌, ℕ, true, List, [], ◌++◌, Contains, All, IfSome, Option, ◌⊎◌}
use Rattle.rk_types.specs.NumberMap.{NumberMap, get}
use Rattle.rk_types.specs.declared.history.Placed.{Placed}
use Rattle.rk_types.specs.declared.range.Range.{Range}
use Rattle.rk_model.specs.History.{map_after}
use Rattle.rk_entry.specs.declared.entry.Entry.{Entry}
use Rattle.rk_tablet_map.specs.Phase.{lineage_of}
use Rattle.rk_tablet_map.specs.declared.phase.Phase.{Phase}
use Rattle.rk_tablet_map.specs.declared.row.Row.{Row}
use Rattle.rk_world.specs.Ends.{items_of, told}
use Rattle.rk_world.specs.Base.{Base, base_map}
use Rattle.rk_world.specs.Coordinator.{Handed}
use Rattle.rk_world.specs.Lineage.{last_of}
use Rattle.rk_world.specs.Merge.{floor_of}
use Rattle.rk_world.specs.declared.ledger.LastCall.{LastCall}
use Rattle.rk_sound.specs.View.{View, truths, rests}
use Rattle.rk_sound.specs.Rows.{IsPlaced}
use Rattle.rk_sound.specs.Posts.{StillCounts, post_of, speaks}
use Rattle.rk_sound.specs.Roles.{KeepTerm, RoleFits}
use Rattle.rk_sound.specs.Truth.{IsTruth}
use Rattle.rk_sound.specs.Order.{AreAbove}
use Rattle.rk_sound.specs.Handing.{handed_for_grant, target_truth}
use Rattle.rk_sound.specs.Calls.{AreHandedOver, IsKnown, TellAll}
use Rattle.rk_sound.specs.Counters.{AreAboveMap, IsNext}
use Rattle.rk_sound.specs.Rest.{FirstIsDone, IsRest, OnlyIsUnnamed}
use Rattle.rk_sound.specs.Tables.{HasItems, has_all_items}
use Rattle.rk_sound.specs.Receives.{HandedFits, MembersFit, NamedFit}
use Rattle.rk_sound.specs.Moves.{row_at}
use Rattle.rk_inv_rows.specs.lineage.Passing.{PassesOn}

-- entries that count for a row record all of it: a truth and a rest behind it
pub record TellHistory (base : Base) (range : Range) (truth rest : List Entry) (journal : List Placed) (asked : ℕ → Option LastCall) : Type 0 where
  pub leaves : IsTruth base range truth journal
  pub above : AreAbove (items_of truth) (items_of rest)
  pub ends : TellAll range journal truth
  pub known : All (IsKnown base journal) (told truth)
  pub low : AreAboveMap range (map_after (base_map base) journal) truth
  pub goes_on : IsRest base range truth rest journal asked

-- what the members of a row's lineage have written fits each other, and so does what the coordinator noted of them
pub record MembersAgree (v : View) (row : Row) (handed : NumberMap Handed) : Type 0 where
  pub placed : All (IsPlaced v.written) (lineage_of row.phase)
  pub done : FirstIsDone v.written row.range (lineage_of row.phase)
  pub unnamed : OnlyIsUnnamed v.written row.range (lineage_of row.phase)
  pub named : NamedFit v.written row.range (lineage_of row.phase)
  pub target : MembersFit row v.written v.handovers v.pullings v.records handed (lineage_of row.phase)
  pub handed_on : HandedFits row v.handovers v.completions handed (lineage_of row.phase)

-- what a target has, and what it is to be granted, will record all of a row once its source is forgotten
pub record MayBeLeft (v : View) (row : Row) (handed : NumberMap Handed) : Type 0 where
  pub ends : IfSome (target_truth v.written handed row row.phase) (TellAll row.range v.journal)
  pub low : IfSome (target_truth v.written handed row row.phase) (AreAboveMap row.range (map_after (base_map v.base) v.journal))
  pub granted :
      IfSome (handed_for_grant row v.handovers handed)
      (λ h. AreHandedOver v.base row.range v.journal h.ends × IsNext (truths v row ++ rests v row) h.floor)

-- a row that passes on may take another lineage at the same term, if its source and its target have that term, what each master has
-- fits its new post and speaks no more in it, and what counts for the row now records all of it, with no greater floor. If another
-- member is the last now, nothing waits at the member that was. Of other tablets the same is noted as before
pub record MayTakeLineage (v : View) (row : Row) (phase : Phase) (handed : NumberMap Handed) : Type 0 where
  pub has_row : Contains v.rows row
  pub passes : PassesOn row.phase phase
  pub at_term : KeepTerm phase (λ master. (v.handovers master row.tablet).term) row.term
  pub fits :
      (master : ℕ) → StillCounts (v.live master) (v.handovers master row.tablet).term row.term
      → RoleFits (row_at row row.term phase) master (v.handovers master row.tablet) (v.written master).applied
  pub speaks :
      (master : ℕ) → StillCounts (v.live master) (v.handovers master row.tablet).term row.term
      → speaks (post_of phase master) (v.handovers master row.tablet) row.term ≡ true
      → speaks (post_of row.phase master) (v.handovers master row.tablet) row.term ≡ true
  pub full :
      (master : ℕ) → v.live master ≡ true → has_all_items (post_of phase master) (v.handovers master row.tablet) row.term ≡ true
      → HasItems (row_at row row.term phase) v.written (v.records master)
  pub history :
      TellHistory v.base row.range (truths v (row_at row row.term phase)) (rests v (row_at row row.term phase)) v.journal v.asked
  pub floor :
      floor_of (truths v (row_at row row.term phase) ++ rests v (row_at row row.term phase)) ≤ floor_of (truths v row ++ rests v row)
  pub members : MembersAgree v (row_at row row.term phase) handed
  pub left : MayBeLeft v (row_at row row.term phase) handed
  pub last : (last_of (lineage_of phase) ≡ last_of (lineage_of row.phase)) ⊎ (rests v row ≡ [])
  pub others : (tablet : ℕ) → (tablet ≡ row.tablet → ⊥) → get handed tablet ≡ get v.handed tablet
