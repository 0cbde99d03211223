-- Rebuilds: what a rebuilding master read is the applied part of a log and maybe more, what it merged is what it read, and
-- what an earlier rebuild wrote that was given up adds nothing new. So no acknowledged call is lost with a master, and none
-- comes back in another order; the steps that read, merge and take a Rebuilt need it.
use Rattle.std.specs.Prelude.{◌≡◌, IfSome, ◌≤◌, ◌<◌, ℕ, suc, ◌-◌, ◌+◌, ◌==◌, ◌&&◌, Bool, true, false, not, nat_le, nat_lt, if◌then◌else◌, List, [], ◌∷◌, ◌++◌, None, Some, Contains, All, length, map, filter, take, drop, slice_index_or, slice_get, is_some, ⊤, ◌⊎◌, Option}
use Rattle.std.specs.List.{prefix_len, list_any}
use Rattle.rk_types.specs.NumberMap.{EachIn}
use Rattle.rk_types.specs.declared.call.Ended.{Ended}
use Rattle.rk_types.specs.declared.held.Held.{Held}
use Rattle.rk_types.specs.declared.lineage.Member.{Member}
use Rattle.rk_types.specs.declared.range.Range.{Range}
use Rattle.rk_outside.specs.Segments.{Segments}
use Rattle.rk_entry.specs.Entries.{entries_of}
use Rattle.rk_entry.specs.declared.entry.Entry.{Entry}
use Rattle.rk_entry.specs.declared.entry.Entry.TheVariants as entries
use Rattle.rk_log.specs.Cut.{ends}
use Rattle.rk_log.specs.Known.{Known, known_length}
use Rattle.rk_log.specs.Log.{Log, known_of}
use Rattle.rk_log.specs.declared.ends.EntryEnd.{EntryEnd}
use Rattle.rk_table.specs.Items.{is_in}
use Rattle.rk_done.specs.Completions.{Completions, completions_from, ends_of}
use Rattle.rk_transfer.specs.declared.handover.Handover.{Handover}
use Rattle.rk_transfer.specs.declared.role.Role.{Role}
use Rattle.rk_transfer.specs.declared.role.Role.TheVariants as roles
use Rattle.rk_tablet_map.specs.Phase.{lineage_of, member as member_at}
use Rattle.rk_tablet_map.specs.declared.phase.Phase.{Phase}
use Rattle.rk_tablet_map.specs.declared.phase.Phase.TheVariants.{Rebuilding}
use Rattle.rk_tablet_map.specs.declared.row.Row.{Row}
use Rattle.rk_world.specs.declared.work.Merged.{Merged}
use Rattle.rk_world.specs.Ends.{told, items_of, told_by, items_in}
use Rattle.rk_world.specs.declared.work.Mark.{Mark}
use Rattle.rk_world.specs.Marks.{is_marked, unmarked_from}
use Rattle.rk_world.specs.Material.{counting, side_entries, material_of, as_entries, counts}
use Rattle.rk_world.specs.Lineage.{is_member}
use Rattle.rk_world.specs.Gather.{Gather, Gathered, next_reading, by_member}
use Rattle.rk_world.specs.Merge.{merge, floor_of}
use Rattle.rk_world.specs.Master.{touches}
use Rattle.rk_world.specs.Rebuilds.{own_place}
use Rattle.rk_world.specs.Written.{Written, member_material, applied_entries}
use Rattle.rk_sound.specs.Logs.{IsFirstPart, is_main, stored_of}
use Rattle.rk_sound.specs.Receives.{IsFound, named_items}

-- rebuilds read from this backup
abbrev pub READ_BACKUP : ℕ
READ_BACKUP = 1

-- ---- what is marked

-- the marked entries from a place on
abbrev pub marked_entries : List Mark → ℕ → List Entry → List Entry
marked_entries marks place [] = []
marked_entries marks place (entry ∷ entries) =
    if is_marked marks place then entry ∷ marked_entries marks (suc place) entries
    else marked_entries marks (suc place) entries

-- the marked entries of a member that count
abbrev pub member_marked : (ℕ → Written) → Range → Member → List Entry
member_marked written range member =
    counting range
    (marked_entries (written member.master).marks member.from (drop member.from (written member.master).entries))

-- the marks of rebuilds of a row that were given up: of its tablet, and of a smaller term
abbrev pub given_up_marks : Row → List Mark → List Mark
given_up_marks row marks = filter (λ mark. mark.tablet == row.tablet && nat_lt mark.term row.term) marks

-- what a member has of rebuilds of a row that were given up
abbrev pub member_given_up : (ℕ → Written) → Row → Member → List Entry
member_given_up written row member =
    counting row.range
    (marked_entries (given_up_marks row (written member.master).marks) member.from
    (drop member.from (written member.master).entries))

-- ---- what has to be read

-- an entry is an item that these have and those have not
pub record HasItemMore (these those : List Entry) (entry : Entry) : Type 0 where
  pub item : Held
  pub here : Contains (items_in entry) item
  pub wanted : Contains (items_of these) item
  pub new : Contains (items_of those) item → ⊥

-- an entry records an end that these record and those do not
pub record TellsEndMore (these those : List Entry) (entry : Entry) : Type 0 where
  pub end : Ended
  pub here : Contains (told_by entry) end
  pub wanted : Contains (told these) end
  pub new : Contains (told those) end → ⊥

-- an entry records something that these record and those do not
abbrev pub TellsMore : List Entry → List Entry → Entry → Type 0
TellsMore these those entry = HasItemMore these those entry ⊎ TellsEndMore these those entry

-- an entry of the last of two members that has to be read: it bears no mark, counts, and is the first there to record something that
-- the first member's given up pieces record, and its own entries, `own`, do not
pub record IsNeeded (range : Range) (given_up own : List Entry) (from : ℕ) (last : Written) (place : ℕ) (entry : Entry) : Type 0 where
  pub behind : from ≤ place
  pub stands : slice_get last.entries place ≡ Some entry
  pub unmarked : is_marked last.marks place ≡ false
  pub in_range : counts range entry ≡ true
  pub tells : TellsMore given_up (own ++ counting range (unmarked_from last.marks from (take place last.entries))) entry

-- where an entry ends that has to be read
pub record NeedsEnd (range : Range) (given_up own : List Entry) (from : ℕ) (last : Written) (end : EntryEnd) : Type 0 where
  pub place : ℕ
  pub entry : Entry
  pub needed : IsNeeded range given_up own from last place entry
  pub ends_there : slice_get (ends last.entries) place ≡ Some end

-- the ends that a reader of a master has to have read, beside what that knew to be stored: only of the last of two members
abbrev pub NeededOf : Row → (ℕ → Written) → List Member → ℕ → EntryEnd → Type 0
NeededOf row written (first ∷ last ∷ []) master end =
    (last.master ≡ master)
    × NeedsEnd row.range (member_given_up written row first) (member_material written row.range first) last.from
    (written last.master) end
NeededOf row written lineage master end = ⊥

-- ---- what is read

-- what is read of a segment: a first part of what the backup stores, and all that its master knew it to store; it reaches each end
-- there that is needed
pub record IsReadPart (Needed : EntryEnd → Type 0) (known : Known) (stored : ℕ → List ℕ) (segment : ℕ) (bytes : List ℕ) : Type 0 where
  pub front : IsFirstPart bytes (stored segment)
  pub enough : known_length known segment ≤ length bytes
  pub needed : (end : EntryEnd) → Needed end → end.segment ≡ segment → end.offset ≤ length bytes

-- what was read of a segment spells these entries
pub record AreRead (Needed : EntryEnd → Type 0) (known : Known) (stored : ℕ → List ℕ) (segment : ℕ) (entries : List Entry) : Type 0 where
  pub bytes : List ℕ
  pub read : IsReadPart Needed known stored segment bytes
  pub spelled : entries ≡ entries_of bytes

-- what is gathered of a member: its main segments from the first one on, and side segments
pub record IsGathered (Needed : EntryEnd → Type 0) (known : Known) (stored : ℕ → List ℕ) (gathered : Gathered) : Type 0 where
  pub main :
      (place : ℕ) → place < length gathered.main
      → AreRead Needed known stored (place + 1) (slice_index_or gathered.main place [])
  -- once the main segments are passed, nothing was known to be stored behind them
  pub passed :
      gathered.main_read ≡ true → (segment : ℕ) → length gathered.main < segment → is_main segment ≡ true
      → known_length known segment ≡ 0
  -- nor is anything behind them needed
  pub passed_needed :
      gathered.main_read ≡ true → (end : EntryEnd) → Needed end → is_main end.segment ≡ true
      → end.segment ≤ length gathered.main
  pub sides : EachIn (λ segment entries. AreRead Needed known stored segment entries) gathered.sides

-- the gather is that of a row, by this master
pub record IsGatherOf (gather : Gather) (range : Range) (lineage : List Member) (own : ℕ) : Type 0 where
  pub range_is : gather.range ≡ range
  pub lineage_is : gather.lineage ≡ lineage
  pub own_is : gather.own ≡ own
  pub members_are : map (λ gathered. gathered.member) gather.members ≡ filter (λ member. not (member.master == own)) lineage

-- what was read of the members of a gather, by what is needed of each master, and what backup 1 is known to store of it, and stores
abbrev pub AreGathered : (ℕ → EntryEnd → Type 0) → (ℕ → Known) → (ℕ → ℕ → List ℕ) → List Gathered → Type 0
AreGathered Needed known stored members =
    All (λ gathered. IsGathered (Needed gathered.member.master) (known gathered.member.master) (stored gathered.member.master) gathered) members

-- ---- what is merged

-- the entry that closes a rebuild
abbrev pub closing_carried : Handover → Merged → Entry
closing_carried handover merged = entries.Carried (record {
  range = handover.range;
  term = handover.term;
  floor = merged.floor;
  ends = ends_of (completions_from [] merged.ends);
})

-- the piece of the log that a rebuild made, from the place on where its own entries count: the copies and then the entry that
-- closes it. It bears the only mark of the tablet there, and nothing of the range follows it
pub record IsPieceOf (number from : ℕ) (handover : Handover) (merged : Merged) (written : Written) (entry : ℕ) : Type 0 where
  pub mark : Mark
  pub marked : Contains written.marks mark
  pub past_is : mark.past ≡ suc entry
  pub tablet_is : mark.tablet ≡ number
  pub term_is : mark.term ≡ handover.term
  pub behind : from ≤ mark.first
  pub alone : All (λ other. other.tablet ≡ number → other ≡ mark) written.marks
  pub stands :
      take (suc entry - mark.first) (drop mark.first written.entries)
      ≡ as_entries merged.copies ++ closing_carried handover merged ∷ []
  pub last : list_any (touches handover.range) (drop (suc entry) written.entries) ≡ false

-- what a master merged of a tablet is all that was gathered, member by member; `own` is what counts of its own unmarked
-- entries. The tablet's counter and last ends are those of the merge
pub record IsMergedOf (number from : ℕ) (own : List Entry) (handover : Handover) (kept : Completions) (gather : Gather) (ends : List Ended) (written : Written) (entry : ℕ) : Type 0 where
  pub gathered_all : next_reading gather ≡ None
  pub merged : Merged
  pub merged_is : merged ≡ merge own (by_member gather own)
  pub ends_are : ends ≡ merged.ends
  pub piece : IsPieceOf number from handover merged written entry
  pub counter : handover.counter ≡ merged.floor
  pub completions : kept ≡ completions_from [] merged.ends

-- ---- the master that rebuilds

-- all that is applied of a master's own entries of a range, marked or not
abbrev pub applied_from : Range → ℕ → Written → List Entry
applied_from range from written = material_of range (side_entries written.sides) (drop from (applied_entries written))

-- the records of a master that rebuilds
pub record IsRebuildTable (range : Range) (truth own : List Entry) (records : List Held) : Type 0 where
  pub found : (item : Held) → Contains (items_of own) item → IsFound records item
  pub come :
      (item : Held) → Contains records item → is_in range item ≡ true
      → Contains (items_of own) item ⊎ Contains (items_of truth) item

-- the place of the entry that closes a rebuild, once it is merged
abbrev pub merged_place : Role → Option ℕ
merged_place (roles.Rebuilding from entry) = entry
merged_place role = None

-- a master that rebuilds a row: `truth` is the row's, `own` counts of its own entries that are not marked, `Needed` says what has to be
-- read of each master, and `stored` and `known` what backup 1 stores of it, and is known to store
pub record IsRebuilder (row : Row) (lineage : List Member) (master : ℕ) (truth own : List Entry) (Needed : ℕ → EntryEnd → Type 0) (known : ℕ → Known) (stored : ℕ → ℕ → List ℕ) (written : Written) (handover : Handover) (completions : Completions) (gathering : Gather) (ends : List Ended) (records : List Held) : Type 0 where
  pub range_is : handover.range ≡ row.range
  pub gather : IsGatherOf gathering row.range lineage master
  pub read : AreGathered Needed known stored gathering.members
  pub placed : own_place handover.role ≤ length written.entries
  pub merged :
      IfSome (merged_place handover.role)
      (λ entry. IsMergedOf row.tablet (own_place handover.role) own handover completions gathering ends written entry)
  pub items :
      IsRebuildTable row.range truth (applied_from row.range (own_place handover.role) written) records
  -- the items of side segments that its own entries name are the truth's, and found in its records
  pub sides :
      (item : Held) → Contains (named_items row.range (own_place handover.role) written) item
      → Contains (items_of truth) item × IsFound records item
  -- a master that is not of the lineage has no entries of its own but those that it marked
  pub outside : is_member lineage master ≡ false → own ≡ []

-- ---- marks

-- entries record nothing that others do not
pub record TellNoMore (entries others : List Entry) : Type 0 where
  pub items : (item : Held) → Contains (items_of entries) item → Contains (items_of others) item
  pub ends : All (Contains (told others)) (told entries)
  pub floor : floor_of entries ≤ floor_of others

-- how many first entries of a log a backup stores
abbrev pub stored_count : Log → (ℕ → List ℕ) → ℕ
stored_count log stored = prefix_len (λ end. nat_le end.offset (length (stored end.segment))) (ends log.entries)

-- what counts of a member's main entries that backup 1 stores, but for what is marked
abbrev pub member_stored : (ℕ → Log) → (ℕ → Written) → (ℕ → Segments) → Range → Member → List Entry
member_stored logs written stored range member =
    counting range
    (unmarked_from (written member.master).marks member.from
    (take (stored_count (logs member.master) (stored_of stored member.master READ_BACKUP)) (written member.master).entries))

-- what a dead member has in marked pieces adds nothing new: its rebuild was given up, or is not reported. Of two members, the first's
-- is also recorded by its own unmarked entries or by what backup 1 stores of the last, and the last's by the unmarked entries of either
abbrev pub MarkedFit : (ℕ → Log) → (ℕ → Written) → (ℕ → Segments) → (ℕ → Bool) → Range → List Member → Type 0
MarkedFit logs written stored live range [] = ⊤
MarkedFit logs written stored live range (only ∷ []) =
    live only.master ≡ false → TellNoMore (member_marked written range only) (member_material written range only)
MarkedFit logs written stored live range (first ∷ last ∷ more) =
    (live first.master ≡ false
    → TellNoMore (member_marked written range first)
    (member_material written range first ++ member_stored logs written stored range last))
    × (live last.master ≡ false
    → TellNoMore (member_marked written range last)
    (member_material written range first ++ member_material written range last))

-- whether a role has merged
abbrev pub has_merged : Role → Bool
has_merged (roles.Rebuilding from entry) = is_some entry
has_merged role = false

-- a marked piece comes behind its master's own entries: from it on there is no unmarked one of the range
abbrev pub StandsLast : Range → Written → Mark → Type 0
StandsLast range written mark =
    list_any (touches range) (unmarked_from written.marks mark.first written.entries) ≡ false

-- a mark of a row's tablet: there is one only while the row is rebuilt, of at most its term; a living master has one only of
-- that term, and one of that term is the rebuilding master's, which has merged
pub record MarkFits (row : Row) (master : ℕ) (handover : Handover) (live : Bool) (written : Written) (mark : Mark) : Type 0 where
  pub rebuilt : (lineage : List Member) × (to : ℕ) × (row.phase ≡ Rebuilding lineage to)
  pub within : mark.term ≤ row.term
  pub present : live ≡ true → mark.term ≡ row.term
  pub by_rebuilder :
      mark.term ≡ row.term
      → (row.phase ≡ Rebuilding (lineage_of row.phase) master) × (handover.term ≡ row.term)
      × (has_merged handover.role ≡ true)
  pub behind : StandsLast row.range written mark

-- an entry of a rebuild of a range: an item of it, or a Carried of just that range
abbrev pub IsOfRange : Range → Entry → Type 0
IsOfRange range (entries.Held held) = is_in range held ≡ true
IsOfRange range (entries.Carried carried) = carried.range ≡ range
IsOfRange range entry = ⊥

-- a marked piece has entries of its row's range alone
abbrev pub HasOwnRange : Range → List Entry → Mark → Type 0
HasOwnRange range list mark = All (IsOfRange range) (take (mark.past - mark.first) (drop mark.first list))

-- what holds of a row while it is rebuilt
abbrev pub RowIsRebuilt : Row → Phase → List Entry → (ℕ → Log) → (ℕ → Written) → (ℕ → Segments) → (ℕ → ℕ → Handover) → (ℕ → ℕ → Completions) → (ℕ → ℕ → Gather) → (ℕ → ℕ → List Ended) → (ℕ → List Held) → (ℕ → Bool) → Type 0
RowIsRebuilt row (Rebuilding lineage to) truth logs written stored handovers completions gathers merged records live =
    ((handovers to row.tablet).term ≡ row.term
    → IsRebuilder row lineage to truth
    (member_material written row.range (member_at to (own_place (handovers to row.tablet).role)))
    (NeededOf row written lineage)
    (λ master. known_of (logs master) READ_BACKUP) (λ master. stored_of stored master READ_BACKUP) (written to)
    (handovers to row.tablet) (completions to row.tablet) (gathers to row.tablet) (merged to row.tablet) (records to))
    × MarkedFit logs written stored live row.range lineage
RowIsRebuilt row phase truth logs written stored handovers completions gathers merged records live = ⊤

pub record Rebuilds (rows : List Row) (truths : Row → List Entry) (logs : ℕ → Log) (written : ℕ → Written) (stored : ℕ → Segments) (handovers : ℕ → ℕ → Handover) (completions : ℕ → ℕ → Completions) (gathers : ℕ → ℕ → Gather) (merged : ℕ → ℕ → List Ended) (records : ℕ → List Held) (live : ℕ → Bool) : Type 0 where
  pub rebuilt : All (λ row. RowIsRebuilt row row.phase (truths row) logs written stored handovers completions gathers merged records live) rows
  pub marks :
      (master : ℕ)
      → All (λ row. All (λ mark. mark.tablet ≡ row.tablet → MarkFits row master (handovers master row.tablet) (live master) (written master) mark)
      (written master).marks) rows
  pub pieces :
      (master : ℕ)
      → All (λ row. All (λ mark. mark.tablet ≡ row.tablet → HasOwnRange row.range (written master).entries mark)
      (written master).marks) rows
