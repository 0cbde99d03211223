-- The invariant by the things that it speaks of: a row with its members, a master and a tablet, a master with its log, a message, a client,
-- and the journal. These are the sentences of the sixteen parts of `Whole`: within each thing the parts are its fields. That both say the
-- same is proved (`parts_and_things` in `rk_inv_base`). What a message says of a row is said of the row as well: a change of either needs it.
use Rattle.std.specs.Prelude.{◌≡◌, ◌≢◌, ◌≤◌, ℕ, List, true, false, ◌++◌, ◌⊎◌, Some, None, IfSome, All, drop, is_some, length, slice_get}
use Rattle.std.specs.List.{flat_map, list_any}
use Rattle.rk_types.specs.Hashing.{hash_of}
use Rattle.rk_types.specs.NumberMap.{EachIn, get}
use Rattle.rk_types.specs.Range.{meets}
use Rattle.rk_types.specs.declared.history.Placed.{Placed}
use Rattle.rk_types.specs.declared.node.Node.{Node}
use Rattle.rk_model.specs.History.{IsLegal, map_after}
use Rattle.rk_model.specs.Merged.{HasOwnKeys, IsRisingAbove}
use Rattle.rk_model.specs.Ordered.{AreOneMutation}
use Rattle.rk_table.specs.Order.{IsInScanOrder}
use Rattle.rk_done.specs.Completions.{ends_of}
use Rattle.rk_transfer.specs.declared.handover.Handover.{Handover}
use Rattle.rk_tablet_map.specs.Phase.{lineage_of}
use Rattle.rk_tablet_map.specs.Rows.{IsTabletMap, is_covered, row_of}
use Rattle.rk_tablet_map.specs.declared.row.Row.{Row}
use Rattle.rk_message.specs.declared.message.Body.{Body}
use Rattle.rk_message.specs.declared.message.Message.{Message}
use Rattle.rk_world.specs.Base.{base_map}
use Rattle.rk_world.specs.Ends.{items_of, told}
use Rattle.rk_world.specs.Lineage.{is_member}
use Rattle.rk_world.specs.Master.{touches}
use Rattle.rk_world.specs.Notices.{names}
use Rattle.rk_world.specs.Premises.{IsAfterStart, IsMaster}
use Rattle.rk_world.specs.RoleTests.{is_absent, is_idle}
use Rattle.rk_world.specs.Tablet.{Tablet}
use Rattle.rk_sound.specs.View.{View, tablet_seen, truths, rests}
use Rattle.rk_sound.specs.Nodes.{SomeLives}
use Rattle.rk_sound.specs.Rows.{IsFormed, IsPlaced}
use Rattle.rk_sound.specs.Terms.{HandoverFits, SentFits}
use Rattle.rk_sound.specs.Cover.{IsEntryWithin, IsItemWithin, IsOfWholeRows, IsWithinRows}
use Rattle.rk_sound.specs.Posts.{StillCounts, post_of, speaks}
use Rattle.rk_sound.specs.Roles.{KeepTerm, RoleFits}
use Rattle.rk_sound.specs.Logs.{IsLog, stored_of}
use Rattle.rk_sound.specs.Truth.{IsAfterSeen, IsTruth}
use Rattle.rk_sound.specs.Order.{AreAbove}
use Rattle.rk_sound.specs.Handing.{handed_by, handed_for_grant, target_truth}
use Rattle.rk_sound.specs.Calls.{AreHandedOver, IsKnown, IsStagedEnd, ReachAll, TellAll}
use Rattle.rk_sound.specs.Counters.{AreAboveMap, IsNext}
use Rattle.rk_sound.specs.Rest.{EachHasCall, FirstIsDone, IsLast, IsRest, OnlyIsUnnamed, Waits}
use Rattle.rk_sound.specs.Tables.{HasItems, has_all_items}
use Rattle.rk_sound.specs.Receives.{HandedFits, IsBare, MembersFit, NamedFit, wanted_place}
use Rattle.rk_sound.specs.Rebuilds.{HasOwnRange, MarkFits, RowIsRebuilt}
use Rattle.rk_sound.specs.Messages.{SaysOf}
use Rattle.rk_sound.specs.Asked.{AreOneAccepted, IsLastCall, IsRequest, WasAsked}
use Rattle.rk_sound.specs.Changes.{MaySend}

-- ---- a row with its members

-- what a master has of a row's tablet counts
abbrev pub CountsFor : View → Row → ℕ → Type 0
CountsFor v row q = StillCounts (v.live q) (v.handovers q row.tablet).term row.term

-- a master speaks for a row: it answers calls or will
abbrev pub SpeaksFor : View → Row → ℕ → Type 0
SpeaksFor v row q = speaks (post_of row.phase q) (v.handovers q row.tablet) row.term ≡ true

-- a number is next behind all that counts for a row
abbrev pub IsNextOf : View → Row → ℕ → Type 0
IsNextOf v row = IsNext (truths v row ++ rests v row)

-- what a message says of a row
abbrev pub SaysIn : View → Row → Node → Node → Body → Type 0
SaysIn v row = SaysOf row v.logs v.written v.stored v.handovers v.completions v.merged v.live v.handed

-- what the parts say of a row
pub record RowsOfRow (v : View) (row : Row) : Type 0 where
  pub begun : 1 ≤ row.term
  pub formed : IsFormed row.phase
  pub placed : All (IsPlaced v.written) (lineage_of row.phase)

pub record RolesOfRow (v : View) (row : Row) : Type 0 where
  pub fitting : (q : ℕ) → CountsFor v row q → RoleFits row q (v.handovers q row.tablet) (v.written q).applied
  pub ranged : (q : ℕ) → CountsFor v row q → is_member (lineage_of row.phase) q ≡ true → (v.handovers q row.tablet).range ≡ row.range
  pub at_term : KeepTerm row.phase (λ q. (v.handovers q row.tablet).term) row.term

pub record CallsOfRow (v : View) (row : Row) : Type 0 where
  pub reached : TellAll row.range v.journal (truths v row)
  pub recorded : All (IsKnown v.base v.journal) (told (truths v row))
  pub moving : IfSome (target_truth v.written v.handed row row.phase) (TellAll row.range v.journal)
  pub answering : (q : ℕ) → CountsFor v row q → SpeaksFor v row q → ReachAll row.range v.journal (ends_of (v.completions q row.tablet))
  pub granted : IfSome (handed_for_grant row v.handovers v.handed) (λ h. AreHandedOver v.base row.range v.journal h.ends)
  pub sent : EachIn (λ n m. IfSome (handed_by row v.handovers m.body) (λ h. AreHandedOver v.base row.range v.journal h.ends)) v.wire

pub record CountersOfRow (v : View) (row : Row) : Type 0 where
  pub low : AreAboveMap row.range (map_after (base_map v.base) v.journal) (truths v row)
  pub moving :
      IfSome (target_truth v.written v.handed row row.phase) (AreAboveMap row.range (map_after (base_map v.base) v.journal))
  pub counted : (q : ℕ) → CountsFor v row q → SpeaksFor v row q → IsNextOf v row (v.handovers q row.tablet).counter
  pub granted : IfSome (handed_for_grant row v.handovers v.handed) (λ h. IsNextOf v row h.floor)
  pub sent : EachIn (λ n m. IfSome (handed_by row v.handovers m.body) (λ h. IsNextOf v row h.floor)) v.wire

pub record RestOfRow (v : View) (row : Row) : Type 0 where
  pub goes_on : IsRest v.base row.range (truths v row) (rests v row) v.journal v.asked
  pub done : FirstIsDone v.written row.range (lineage_of row.phase)
  pub unnamed : OnlyIsUnnamed v.written row.range (lineage_of row.phase)
  pub idle :
      (q : ℕ) → CountsFor v row q → is_idle (v.handovers q row.tablet).role ≡ true
      → list_any (touches row.range) (drop (v.written q).applied (v.written q).entries) ≡ false

pub record ReceivesOfRow (v : View) (row : Row) : Type 0 where
  pub target : MembersFit row v.written v.handovers v.pullings v.records v.handed (lineage_of row.phase)
  pub handed_on : HandedFits row v.handovers v.completions v.handed (lineage_of row.phase)
  pub named : NamedFit v.written row.range (lineage_of row.phase)

pub record RebuildsOfRow (v : View) (row : Row) : Type 0 where
  pub rebuilt :
      RowIsRebuilt row row.phase (truths v row) v.logs v.written v.stored v.handovers v.completions v.gathers v.merged v.records v.live
  pub marks :
      (q : ℕ)
      → All (λ mark. mark.tablet ≡ row.tablet → MarkFits row q (v.handovers q row.tablet) (v.live q) (v.written q) mark)
      (v.written q).marks
  pub pieces :
      (q : ℕ) → All (λ mark. mark.tablet ≡ row.tablet → HasOwnRange row.range (v.written q).entries mark) (v.written q).marks

pub record SoundRow (v : View) (row : Row) : Type 0 where
  pub nodes : (q : ℕ) → names row.phase q ≡ true → IsMaster v.masters q
  pub rows : RowsOfRow v row
  pub terms : EachIn (λ n m. SentFits row m.body) v.wire
  pub roles : RolesOfRow v row
  pub truth : IsTruth v.base row.range (truths v row) v.journal
  pub order : AreAbove (items_of (truths v row)) (items_of (rests v row))
  pub calls : CallsOfRow v row
  pub counters : CountersOfRow v row
  pub rest : RestOfRow v row
  pub tables :
      (q : ℕ) → v.live q ≡ true → has_all_items (post_of row.phase q) (v.handovers q row.tablet) row.term ≡ true
      → HasItems row v.written (v.records q)
  pub receives : ReceivesOfRow v row
  pub rebuilds : RebuildsOfRow v row
  pub messages : EachIn (λ n m. SaysIn v row m.from m.to m.body) v.wire

-- ---- a master and a tablet

-- what the parts say if a master has this of a tablet
pub record TermsOfTablet (v : View) (q number : ℕ) (handover : Handover) : Type 0 where
  pub kept : All (λ row. HandoverFits row number handover) v.rows
  pub begun : is_absent handover.role ≡ false → 1 ≤ handover.term
  pub apart :
      (other : ℕ) → number ≢ other → is_absent handover.role ≡ false → is_absent (v.handovers q other).role ≡ false
      → meets handover.range (v.handovers q other).range ≡ false

pub record CoverOfTablet (rows : List Row) (number : ℕ) (handover : Handover) : Type 0 where
  pub unknown : row_of rows number ≡ None → handover.term ≡ 0
  pub ranges : 1 ≤ handover.term → IsWithinRows rows handover.range

pub record SoundTablet (v : View) (q number : ℕ) (tablet : Tablet) : Type 0 where
  pub terms : TermsOfTablet v q number tablet.handover
  pub cover : CoverOfTablet v.rows number tablet.handover
  pub roles : v.live q ≡ true → is_absent tablet.handover.role ≡ false → is_some (row_of v.rows number) ≡ true
  pub calls :
      v.live q ≡ true
      → All (λ end. IsKnown v.base v.journal end ⊎ IsStagedEnd v.rows (rests v) q number tablet.handover.term end)
      (ends_of tablet.completions)
  pub receives :
      IfSome (wanted_place tablet.handover.role) (λ from. IsBare tablet.handover.range from (v.written q) (v.records q))

-- ---- a master with its log and its tablets

-- what the parts say of a master
pub record NodesOfMaster (v : View) (q : ℕ) : Type 0 where
  pub numbered : v.numbers q ≡ q
  pub known : IsMaster v.masters q → length (v.logs q).known ≡ v.backups
  pub left : v.live q ≡ false → SomeLives v.masters v.live

pub record CoverOfMaster (v : View) (q : ℕ) : Type 0 where
  pub marks : All (λ mark. is_some (row_of v.rows mark.tablet) ≡ true) (v.written q).marks
  pub entries : All (IsEntryWithin v.rows) (v.written q).entries
  pub sides : All (IsItemWithin v.rows) (flat_map (λ items. items) (v.written q).sides)
  pub items : All (IsItemWithin v.rows) (v.records q)
  pub wholes : All (IsOfWholeRows v.rows) (v.written q).entries

pub record RestOfMaster (v : View) (q : ℕ) : Type 0 where
  pub waiting :
      v.live q ≡ true → EachIn (λ place call. Waits v.rows (v.handovers q) (v.written q) q place call) (v.calls q)
  pub are_last : v.live q ≡ true → EachIn (λ place call. IsLast (v.asked call.client) call) (v.calls q)
  pub found : v.live q ≡ true → EachHasCall (v.calls q) (v.written q)

pub record SoundMaster (v : View) (q : ℕ) : Type 0 where
  pub tablets : (number : ℕ) → SoundTablet v q number (tablet_seen v q number)
  pub nodes : NodesOfMaster v q
  pub cover : CoverOfMaster v q
  pub logs : IsLog (v.logs q) (v.written q) (stored_of v.stored q)
  pub rest : RestOfMaster v q
  pub tables : IsInScanOrder (v.records q)

-- ---- a client

-- Asked: its last call, and the request that may be sent again
pub record SoundClient (v : View) (client : ℕ) : Type 0 where
  pub last : IfSome (v.asked client) (IsLastCall v.base v.lane client)
  pub again :
      (message : Message) → get v.requests client ≡ Some message → IsRequest v.asked v.journal client message.from message.body

-- ---- the journal

-- what the parts say of the journal
pub record TruthOfJournal (v : View) : Type 0 where
  pub legal : IsLegal (base_map v.base) v.journal
  pub rising : IsRisingAbove 0 v.journal
  pub seen : All (λ placed. IsAfterSeen (v.asked placed.call.client) placed) v.journal

pub record AskedOfJournal (v : View) : Type 0 where
  pub own_keys : HasOwnKeys v.lane v.journal
  pub recorded : All (λ placed. WasAsked (v.asked placed.call.client) v.journal placed.call) v.journal
  pub after_start : All (λ placed. IsAfterStart v.base placed.call) v.journal
  pub once :
      (i j : ℕ) (a b : Placed) → slice_get v.journal i ≡ Some a → slice_get v.journal j ≡ Some b → AreOneAccepted a b → i ≡ j

pub record SoundJournal (v : View) : Type 0 where
  pub rows : All (λ placed. is_covered v.rows placed.call.table (hash_of placed.call.key) ≡ true) v.journal
  pub truth : TruthOfJournal v
  pub calls :
      (i j : ℕ) (a b : Placed) → slice_get v.journal i ≡ Some a → slice_get v.journal j ≡ Some b → AreOneMutation a.call b.call → i ≡ j
  pub asked : AskedOfJournal v

-- ---- all things

-- each thing of a view is sound; beside them the coordinator's rows are a tablet map, there is a backup, and whom it noticed has crashed
pub record SoundThings (v : View) : Type 0 where
  pub rows : All (SoundRow v) v.rows
  pub masters : (q : ℕ) → SoundMaster v q
  pub messages : EachIn (λ number message. MaySend v message) v.wire
  pub clients : (client : ℕ) → SoundClient v client
  pub journal : SoundJournal v
  pub apart : IsTabletMap v.rows
  pub backed : 1 ≤ v.backups
  pub crashed : All (λ q. v.live q ≡ false) v.noticed
