-- Receives: what a target that pulls has. Each record that arrived is there, beside the log or under a newer one of the target's
-- own, and the records have the newest of all that came; so calls may be answered while records are fetched, and once all is
-- fetched the target's log alone has the tablet. The steps that replay, seal, and take a Joined need it.
use Rattle.std.specs.Prelude.{◌≡◌, ◌≤◌, ◌<◌, ℕ, Bool, true, false, List, [], ◌∷◌, Option, Some, Contains, IfSome, All, drop, take, fold, filter, is_some, length, slice_get, ⊤, ◌⊎◌, if◌then◌else◌, None}
use Rattle.std.specs.List.{flat_map, list_any}
use Rattle.rk_types.specs.NumberMap.{NumberMap, get}
use Rattle.rk_types.specs.declared.held.Held.{Held}
use Rattle.rk_types.specs.declared.lineage.Member.{Member}
use Rattle.rk_types.specs.declared.range.Range.{Range}
use Rattle.rk_entry.specs.declared.entry.Entry.{Entry}
use Rattle.rk_entry.specs.declared.entry.Entry.TheVariants as entries
use Rattle.rk_table.specs.Items.{is_in, with_item}
use Rattle.rk_table.specs.Order.{item_hash}
use Rattle.rk_table.specs.Scans.{passed, end}
use Rattle.rk_done.specs.Completions.{Completions, ends_of}
use Rattle.rk_transfer.specs.declared.handover.Handover.{Handover}
use Rattle.rk_transfer.specs.declared.role.Role.{Role}
use Rattle.rk_transfer.specs.declared.role.Role.TheVariants as roles
use Rattle.rk_tablet_map.specs.Phase.{lineage_of}
use Rattle.rk_tablet_map.specs.declared.row.Row.{Row}
use Rattle.rk_priority.specs.Hashes.{contains}
use Rattle.rk_overlay.specs.Newest.{is_of}
use Rattle.rk_overlay.specs.Overlay.{newest_items}
use Rattle.rk_world.specs.Ends.{items_of}
use Rattle.rk_world.specs.Marks.{unmarked_from}
use Rattle.rk_world.specs.Material.{counting, side_entries, joined_from, named}
use Rattle.rk_world.specs.Tablet.{Pulling}
use Rattle.rk_world.specs.RoleTests.{is_receiving}
use Rattle.rk_world.specs.Master.{touches}
use Rattle.rk_world.specs.Coordinator.{Handed}
use Rattle.rk_world.specs.Written.{Written, member_material, member_truth, applied_entries}

-- the records that entries leave, as items in scan order
abbrev pub scan_items : List Entry → List Held
scan_items material =
    fold (λ items item. with_item item items) [] (filter (λ item. is_some item.value) (newest_items (items_of material)))

-- an item of the source has arrived at a target: the scan has passed it, or its hash was asked for first and came; a target
-- that pulls no more has all
abbrev pub HasArrived : Role → Pulling → List Held → Held → Type 0
HasArrived role pulling items item =
    is_receiving role ≡ true
    → Contains (passed pulling.token items) item ⊎ (contains pulling.hashes.resolved (item_hash item) ≡ true)

-- an item is there: it is the target's own, or one of the source's that arrived
abbrev pub HasCome : (Held → Type 0) → List Held → List Held → Held → Type 0
HasCome Arrived items own item = Contains own item ⊎ (Contains items item × Arrived item)

-- a newer item of the key is there
pub record IsOutdone (own : List Held) (item : Held) : Type 0 where
  pub newer : Held
  pub stands : Contains own newer
  pub same_key : is_of item.table item.key newer ≡ true
  pub above : item.version < newer.version

-- the records have the key, with as great a version
pub record IsFound (records : List Held) (item : Held) : Type 0 where
  pub there : Held
  pub stands : Contains records there
  pub same_key : is_of item.table item.key there ≡ true
  pub as_new : item.version ≤ there.version

-- what has come is where it should be: `items` are the source's, `own` those that the target applied itself, `sides` those
-- that it copied
pub record IsReceived (Arrived : Held → Type 0) (range : Range) (items own sides records : List Held) : Type 0 where
  -- what is copied is the source's, and what arrived is copied or outdone
  pub within : (item : Held) → Contains sides item → Contains items item
  pub copied : (item : Held) → Contains items item → Arrived item → Contains sides item ⊎ IsOutdone own item
  -- the records have nothing else, and of what has come nothing newer is missing
  pub come : (item : Held) → Contains records item → is_in range item ≡ true → Contains own item ⊎ Contains sides item
  pub found : (item : Held) → HasCome Arrived items own item → IsFound records item

-- a target's own entries of a range: those of its log from a place on
abbrev pub entries_from : Range → ℕ → List Entry → List Entry
entries_from range from entries = counting range (drop from entries)

-- the items that a target copied: while it pulls they are in its lists, and then in the side segments that it sealed
abbrev pub copied_items : Role → Pulling → List (List Held) → List Held
copied_items role pulling sides =
    if is_receiving role then flat_map (λ items. items) pulling.sides
    else items_of (flat_map (side_entries sides) pulling.sealed)

-- whether a target joins: it has pulled all
abbrev pub is_joining : Role → Bool
is_joining (roles.Joining entry) = true
is_joining role = false

-- the place of the entry that closes the role of a target, if it has one
abbrev pub joined_place : Role → Option ℕ
joined_place (roles.Joining entry) = entry
joined_place role = None

-- a log has a closing entry at a place, and no other Joined of the range from a place on
pub record IsClosedAt (closing : Entry) (range : Range) (from : ℕ) (list : List Entry) (place : ℕ) : Type 0 where
  pub stands : slice_get list place ≡ Some closing
  pub alone : joined_from range from list ≡ closing ∷ []
  pub behind : from ≤ place

-- a log has the closing entry of a target, if that has one, and no other Joined
abbrev pub HasClosing : Option ℕ → Entry → Range → ℕ → List Entry → Type 0
HasClosing None closing range from list = joined_from range from list ≡ []
HasClosing (Some place) closing range from list = IsClosedAt closing range from list place

-- a target that has pulled all has no item in its lists
pub record HasPulled (pulling : Pulling) : Type 0 where
  pub at_end : pulling.token ≡ end
  pub sealed : flat_map (λ items. items) pulling.sides ≡ []

-- the entry that begins what a target has of a tablet, by what the source handed over
abbrev pub beginning_of : Handover → Handed → Entry
beginning_of handover handed = entries.Carried (record {
  range = handover.range;
  term = handover.term;
  floor = handed.floor;
  ends = handed.ends;
})

-- the entry that closes the role of a target that sealed these segments
abbrev pub closing_joined : Handover → List ℕ → Entry
closing_joined handover sealed =
    entries.Joined (record { range = handover.range; term = handover.term; segments = sealed })

-- the entries before the closing entry, if there is one
abbrev pub before_closing : Option ℕ → List Entry → List Entry
before_closing None entries = entries
before_closing (Some place) entries = take place entries

-- a target that pulls, or has all: `truth` counts for the range of what is applied at its source, `material` of all that the source
-- has written, and its own entries count from the place `from` on
pub record IsTarget (range : Range) (source : ℕ) (truth material : List Entry) (from : ℕ) (written : Written) (handover : Handover) (pulling : Pulling) (handed : Option Handed) (records : List Held) : Type 0 where
  pub from_source : pulling.source ≡ source
  pub workers : length pulling.sides ≡ 4
  pub pulled : is_joining handover.role ≡ true → HasPulled pulling
  pub received :
      IsReceived (HasArrived handover.role pulling (scan_items truth)) range (scan_items truth)
      (items_of (entries_from range from (applied_entries written)))
      (copied_items handover.role pulling written.sides) records
  -- each of its own versions is above each of the source's
  pub above :
      All (λ own. All (λ other. other.version < own.version) (items_of material))
      (items_of (entries_from range from written.entries))
  -- its log has what the source handed over, before its closing entry
  pub told :
      IfSome handed
      (λ h. Contains (drop from (before_closing (joined_place handover.role) written.entries)) (beginning_of handover h))
  -- what it had not applied before its place is of other ranges
  pub early : list_any (touches range) (drop written.applied (take from written.entries)) ≡ false
  pub closing : HasClosing (joined_place handover.role) (closing_joined handover pulling.sealed) range from written.entries

-- whether a target has been granted its tablet, and has not begun to rebuild it
abbrev pub is_granted : Role → Bool
is_granted roles.Receiving = true
is_granted (roles.Joining entry) = true
is_granted _ = false

-- what the coordinator has noted of a tablet that moves is what the frozen source has
abbrev pub IsHandedBy : Option Handed → Handover → Completions → Type 0
IsHandedBy handed handover completions = handed ≡ Some (record { floor = handover.counter; ends = ends_of completions })

-- what holds of the two members of a lineage, if the second one was granted the tablet
abbrev pub MembersFit : Row → (ℕ → Written) → (ℕ → ℕ → Handover) → (ℕ → ℕ → Pulling) → (ℕ → List Held) → NumberMap Handed → List Member → Type 0
MembersFit row written handovers pullings records handed (source ∷ target ∷ []) =
    is_granted (handovers target.master row.tablet).role ≡ true
    → IsTarget row.range source.master (member_truth written row.range source) (member_material written row.range source)
    target.from (written target.master) (handovers target.master row.tablet) (pullings target.master row.tablet) (get handed row.tablet) (records target.master)
MembersFit row written handovers pullings records handed _ = ⊤

-- what the coordinator has noted, while source and target have one term
abbrev pub HandedFits : Row → (ℕ → ℕ → Handover) → (ℕ → ℕ → Completions) → NumberMap Handed → List Member → Type 0
HandedFits row handovers completions handed (source ∷ target ∷ []) =
    (handovers target.master row.tablet).term ≡ (handovers source.master row.tablet).term
    → IsHandedBy (get handed row.tablet) (handovers source.master row.tablet) (completions source.master row.tablet)
HandedFits row handovers completions handed _ = ⊤

-- the items of a range in the side segments that a master's unmarked entries name, applied or not
abbrev pub named_items : Range → ℕ → Written → List Held
named_items range from written =
    filter (is_in range)
    (items_of (flat_map (side_entries written.sides) (named range (unmarked_from written.marks from written.entries))))

-- of two members, the items of a range in the side segments that the last one names are of the first one's truth
abbrev pub NamedFit : (ℕ → Written) → Range → List Member → Type 0
NamedFit written range (first ∷ last ∷ []) =
    (item : Held) → Contains (named_items range last.from (written last.master)) item
    → Contains (items_of (member_truth written range first)) item
NamedFit written range lineage = ⊤

-- a master that made ready for a tablet has nothing of it: its entries begin at this place, and none is there, nor in its table
pub record IsBare (range : Range) (from : ℕ) (written : Written) (records : List Held) : Type 0 where
  pub placed : from ≤ length written.entries
  pub nothing : list_any (touches range) (drop from written.entries) ≡ false
  pub empty : list_any (is_in range) records ≡ false

-- the place from which the entries of a master that made ready are to count, if it did
abbrev pub wanted_place : Role → Option ℕ
wanted_place (roles.Wanting from) = Some from
wanted_place role = None

pub record Receives (rows : List Row) (written : ℕ → Written) (handovers : ℕ → ℕ → Handover) (completions : ℕ → ℕ → Completions) (pullings : ℕ → ℕ → Pulling) (records : ℕ → List Held) (handed : NumberMap Handed) : Type 0 where
  pub targets : All (λ row. MembersFit row written handovers pullings records handed (lineage_of row.phase)) rows
  pub handed_on : All (λ row. HandedFits row handovers completions handed (lineage_of row.phase)) rows
  pub bare :
      (master tablet : ℕ)
      → IfSome (wanted_place (handovers master tablet).role)
      (λ from. IsBare (handovers master tablet).range from (written master) (records master))
  -- what the last of two members names is the first one's, dead or alive
  pub named : All (λ row. NamedFit written row.range (lineage_of row.phase)) rows
