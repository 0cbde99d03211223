-- Calls: a mutation has one record, and whoever may be asked for it again knows its end. So a call that is sent again is
-- answered as before and not carried out twice; the steps that choose what a call does, and those that make records, need it.
use Rattle.std.specs.Prelude.{◌≡◌, ◌<◌, ℕ, Bool, true, List, Some, IfSome, All, slice_get, ◌⊎◌}
use Rattle.std.specs.List.{Contains}
use Rattle.rk_types.specs.NumberMap.{NumberMap, EachIn}
use Rattle.rk_types.specs.declared.call.Ended.{Ended}
use Rattle.rk_types.specs.declared.history.Placed.{Placed}
use Rattle.rk_types.specs.declared.range.Range.{Range}
use Rattle.rk_model.specs.Merged.{is_mutation}
use Rattle.rk_model.specs.Ordered.{AreOneMutation}
use Rattle.rk_entry.specs.declared.entry.Entry.{Entry}
use Rattle.rk_done.specs.Completions.{Completions, ends_of}
use Rattle.rk_transfer.specs.declared.handover.Handover.{Handover}
use Rattle.rk_tablet_map.specs.Phase.{lineage_of}
use Rattle.rk_tablet_map.specs.declared.phase.Phase.TheVariants.{Rebuilding}
use Rattle.rk_tablet_map.specs.declared.row.Row.{Row}
use Rattle.rk_message.specs.declared.message.Message.{Message}
use Rattle.rk_world.specs.Ranges.{has_key}
use Rattle.rk_world.specs.Ends.{told, outcome_of}
use Rattle.rk_world.specs.Material.{of_key}
use Rattle.rk_world.specs.Base.{Base, ends_told}
use Rattle.rk_world.specs.Coordinator.{Handed}
use Rattle.rk_world.specs.Written.{Written}
use Rattle.rk_sound.specs.Posts.{post_of, speaks, StillCounts}
use Rattle.rk_sound.specs.Handing.{handed_by, handed_for_grant, target_truth}

-- whether a record is of a key in a range
abbrev pub is_record_in : Range → Placed → Bool
is_record_in range placed = has_key range placed.call.table placed.call.key

-- an end is that of the call of a record, or of a later call of its client
pub record Reaches (end : Ended) (placed : Placed) : Type 0 where
  pub client : end.client ≡ placed.call.client
  pub reached : (placed.call.seq < end.seq) ⊎ ((placed.call.seq ≡ end.seq) × (outcome_of end.end ≡ placed.outcome))

-- among ends is an end that reaches a record
pub record IsReached (ends : List Ended) (placed : Placed) : Type 0 where
  pub end : Ended
  pub stands : Contains ends end
  pub reaches : Reaches end placed

-- ends reach the record of each mutation in a range
abbrev pub ReachAll : Range → List Placed → List Ended → Type 0
ReachAll range journal ends =
    All (λ placed. is_record_in range placed ≡ true → is_mutation placed.call.op ≡ true → IsReached ends placed) journal

-- entries record the end of each mutation in a range, by what they record of its key
abbrev pub TellAll : Range → List Placed → List Entry → Type 0
TellAll range journal entries =
    All (λ placed. is_record_in range placed ≡ true → is_mutation placed.call.op ≡ true
    → IsReached (told (of_key placed.call.table placed.call.key entries)) placed) journal

-- a record is that of the mutation that ended so
pub record IsRecordOf (end : Ended) (placed : Placed) : Type 0 where
  pub mutation : is_mutation placed.call.op ≡ true
  pub client : placed.call.client ≡ end.client
  pub seq : placed.call.seq ≡ end.seq
  pub outcome : placed.outcome ≡ outcome_of end.end

-- the journal has the record of an end
pub record IsRecorded (journal : List Placed) (end : Ended) : Type 0 where
  pub placed : Placed
  pub stands : Contains journal placed
  pub fits : IsRecordOf end placed

-- an end is that of a record, or was there at the start
abbrev pub IsKnown : Base → List Placed → Ended → Type 0
IsKnown base journal end = IsRecorded journal end ⊎ Contains (ends_told base) end

-- ends that are handed over: they reach the record of each mutation in a range, and each is known
pub record AreHandedOver (base : Base) (range : Range) (journal : List Placed) (list : List Ended) : Type 0 where
  pub reached : ReachAll range journal list
  pub known : All (IsKnown base journal) list

-- an end behind the truth of a row that this master rebuilds, at the row's term
pub record IsStagedEnd (rows : List Row) (rests : Row → List Entry) (master tablet term : ℕ) (end : Ended) : Type 0 where
  pub row : Row
  pub stands : Contains rows row
  pub told : Contains (told (rests row)) end
  pub number : row.tablet ≡ tablet
  pub rebuilt : row.phase ≡ Rebuilding (lineage_of row.phase) master
  pub at_term : term ≡ row.term

pub record Calls (base : Base) (rows : List Row) (truths rests : Row → List Entry) (written : ℕ → Written) (handovers : ℕ → ℕ → Handover) (completions : ℕ → ℕ → Completions) (live : ℕ → Bool) (handed : NumberMap Handed) (journal : List Placed) (wire : NumberMap Message) : Type 0 where
  -- no mutation has two records
  pub once :
      (i j : ℕ) (a b : Placed) → slice_get journal i ≡ Some a → slice_get journal j ≡ Some b
      → AreOneMutation a.call b.call → i ≡ j
  -- the truth of a row records, key by key, the end of each mutation there, or of a later call of its client; each end that it has
  -- is a record's, or one of the start
  pub reached : All (λ row. TellAll row.range journal (truths row)) rows
  pub recorded : All (λ row. All (IsKnown base journal) (told (truths row))) rows
  -- what a row that moves has once its source is forgotten records the end of each mutation there, too
  pub moving : All (λ row. IfSome (target_truth written handed row row.phase) (TellAll row.range journal)) rows
  -- so do the completions of a master that answers calls, or will
  pub answering :
      (master : ℕ)
      → All (λ row. StillCounts (live master) (handovers master row.tablet).term row.term
      → speaks (post_of row.phase master) (handovers master row.tablet) row.term ≡ true
      → ReachAll row.range journal (ends_of (completions master row.tablet))) rows
  -- and those that are handed over with a floor, each of which is known
  pub handed_on : All (λ row. IfSome (handed_for_grant row handovers handed) (λ h. AreHandedOver base row.range journal h.ends)) rows
  pub sent :
      EachIn (λ number message.
      All (λ row. IfSome (handed_by row handovers message.body) (λ h. AreHandedOver base row.range journal h.ends)) rows) wire
  -- each end that a living master keeps is a record's, or one of the start, or an end that its rebuild is to make a record of
  pub known :
      (master tablet : ℕ) → live master ≡ true
      → All (λ end. IsKnown base journal end
      ⊎ IsStagedEnd rows rests master tablet (handovers master tablet).term end)
      (ends_of (completions master tablet))
