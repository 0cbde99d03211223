-- Moves: the conditions of the small changes of roles, rebuilds and rows, over views. One that takes a row says that the row is there.
use Rattle.std.specs.Prelude.{◌≡◌, ◌≢◌, ◌≤◌, ◌<◌, ℕ, ◌+◌, Bool, true, false, List, [], ◌∷◌, ◌++◌, Option, Some, None, Contains, All, IfSome, length, drop, ◌⊎◌, ◌^◌, ⊤}
use Rattle.std.specs.List.{flat_map, list_any}
use Rattle.rk_types.specs.NumberMap.{EachIn, get}
use Rattle.rk_types.specs.Range.{meets}
use Rattle.rk_types.specs.declared.call.Ended.{Ended}
use Rattle.rk_types.specs.declared.held.Held.{Held}
use Rattle.rk_types.specs.declared.held.Token.{Token}
use Rattle.rk_types.specs.declared.lineage.Member.{Member}
use Rattle.rk_types.specs.declared.range.Range.{Range}
use Rattle.rk_outside.specs.Segments.{bytes_of as read_bytes}
use Rattle.rk_entry.specs.declared.entry.Entry.{Entry}
use Rattle.rk_entry.specs.declared.entry.Entry.TheVariants as entries
use Rattle.rk_entry.specs.declared.lists.TheConstants.{FIRST_SIDE_SEGMENT}
use Rattle.rk_log.specs.Cut.{cut}
use Rattle.rk_log.specs.Log.{is_side_stored, known_of}
use Rattle.rk_table.specs.Items.{at_hash}
use Rattle.rk_table.specs.Scans.{passed, end}
use Rattle.rk_done.specs.Completions.{ends_of}
use Rattle.rk_transfer.specs.Handover.{role_closed}
use Rattle.rk_transfer.specs.declared.handover.Handover.{Handover}
use Rattle.rk_transfer.specs.declared.role.Role.{Role}
use Rattle.rk_transfer.specs.declared.role.Role.TheVariants as roles
use Rattle.rk_tablet_map.specs.Phase.{lineage_of}
use Rattle.rk_tablet_map.specs.Rows.{add_fault, split_fault}
use Rattle.rk_tablet_map.specs.declared.phase.Phase.{Phase}
use Rattle.rk_tablet_map.specs.declared.phase.Phase.TheVariants.{Owned, Opening, Moving, Rebuilding}
use Rattle.rk_tablet_map.specs.declared.row.Row.{Row}
use Rattle.rk_message.specs.declared.handover.Grant.{Grant}
use Rattle.rk_message.specs.declared.handover.Prepare.{Prepare}
use Rattle.rk_message.specs.declared.rebuilding.Rebuild.{Rebuild}
use Rattle.rk_world.specs.Ends.{items_of}
use Rattle.rk_world.specs.Material.{as_entries}
use Rattle.rk_world.specs.Lineage.{is_member}
use Rattle.rk_world.specs.Gather.{Gather, next_reading, is_awaited}
use Rattle.rk_world.specs.Tablet.{Pulling}
use Rattle.rk_world.specs.RoleTests.{is_absent, is_gathering, is_idle}
use Rattle.rk_world.specs.SideLogs.{sealed_sides}
use Rattle.rk_world.specs.Master.{touches}
use Rattle.rk_world.specs.Coordinator.{Handed}
use Rattle.rk_world.specs.Notices.{names}
use Rattle.rk_world.specs.Written.{Written, applied_entries, member_truth}
use Rattle.rk_world.specs.Premises.{IsMaster}
use Rattle.rk_sound.specs.View.{View, truths}
use Rattle.rk_sound.specs.Rows.{IsFormed}
use Rattle.rk_sound.specs.Terms.{IsBelowOthers, range_in}
use Rattle.rk_sound.specs.Cover.{IsItemWithin, IsWithinRows}
use Rattle.rk_sound.specs.Posts.{InvitedTarget, Post, StillCounts, Holds, bond_of, post_of, speaks}
use Rattle.rk_sound.specs.Roles.{KeepTerm, RoleFits}
use Rattle.rk_sound.specs.Handing.{is_wanting, target_truth}
use Rattle.rk_sound.specs.Calls.{IsKnown}
use Rattle.rk_sound.specs.Receives.{is_joining, HasPulled, HasArrived, scan_items, IsOutdone, IsFound, entries_from, copied_items}
use Rattle.rk_sound.specs.Logs.{stored_of}
use Rattle.rk_sound.specs.Rebuilds.{AreGathered, IsGatherOf, IsReadPart, MarkFits, RowIsRebuilt, READ_BACKUP, NeededOf}
use Rattle.rk_sound.specs.Messages.{AsksFor, HasJoined, HasRebuilt, IsRebuiltBy, MayFollowClose, IsOwner}
use Rattle.rk_sound.specs.Tables.{has_all_items}
use Rattle.rk_sound.specs.Changes.{HasSegmentLeft}

-- a log has nothing of a range that is not applied
abbrev pub IsSettledIn : Range → Written → Type 0
IsSettledIn range written = list_any (touches range) (drop written.applied written.entries) ≡ false

-- ---- a tablet is handed over

-- each range that a master keeps and that meets this one has a smaller term
abbrev pub IsAboveKept : View → ℕ → Range → ℕ → Type 0
IsAboveKept v master range term =
    (number : ℕ) → meets (v.handovers master number).range range ≡ true → (v.handovers master number).term < term

-- a living master may make ready for a tablet at a term above each that it keeps of it, or of a range that meets it, and at most the
-- row's; at the row's own term only if the row asks it to. The range lies in rows, the term is below that of each other row that
-- the range meets, and the master is in the lineage of no row that is asked for
pub record MayPrepare (v : View) (row : Row) (master : ℕ) (prepare : Prepare) : Type 0 where
  pub lives : v.live master ≡ true
  pub has_row : Contains v.rows row
  pub tablet_is : prepare.tenure.tablet ≡ row.tablet
  pub greater : (v.handovers master row.tablet).term < prepare.tenure.term
  pub above : IsAboveKept v master prepare.range prepare.tenure.term
  pub within : prepare.tenure.term ≤ row.term
  pub invited : prepare.tenure.term ≡ row.term → (post_of row.phase master ≡ InvitedTarget) × (prepare.range ≡ row.range)
  pub covered : IsWithinRows v.rows prepare.range
  pub below : All (λ other. IsBelowOthers other row.tablet prepare.tenure.term prepare.range) v.rows
  pub outside : All (λ other. AsksFor prepare other → is_member (lineage_of other.phase) master ≡ true → ⊥) v.rows

-- a living source may close at a greater term, in a role from which that is a move, if the row asks it to, or if it is now to
-- rebuild the tablet, which was its alone, at a term that is greater still
pub record MayClose (v : View) (row : Row) (master term : ℕ) : Type 0 where
  pub lives : v.live master ≡ true
  pub has_row : Contains v.rows row
  pub greater : (v.handovers master row.tablet).term < term
  pub closes : role_closed (v.handovers master row.tablet).role ≡ Some roles.Closing
  pub may_follow : MayFollowClose row master term

-- a tablet that closes may freeze, if nothing of it is left to be applied
pub record MayFreeze (v : View) (master tablet : ℕ) : Type 0 where
  pub lives : v.live master ≡ true
  pub closing : (v.handovers master tablet).role ≡ roles.Closing
  pub settled : IsSettledIn (v.handovers master tablet).range (v.written master)

-- a living target may be granted its tablet, by what its source handed over
pub record MayGrant (v : View) (row : Row) (source target : Member) (grant : Grant) : Type 0 where
  pub lives : v.live target.master ≡ true
  pub has_row : Contains v.rows row
  pub room : HasSegmentLeft (v.logs target.master)
  pub lineage_is : lineage_of row.phase ≡ source ∷ target ∷ []
  pub waiting : (v.handovers target.master row.tablet).role ≡ roles.Wanting target.from
  pub term_is : grant.tenure.term ≡ (v.handovers target.master row.tablet).term
  pub source_is : grant.source ≡ source.master
  pub told : get v.handed row.tablet ≡ Some (record { floor = grant.floor; ends = grant.ends })

-- a living target of a row pulls from the source
pub record IsPulling (v : View) (row : Row) (source target : Member) : Type 0 where
  pub lives : v.live target.master ≡ true
  pub has_row : Contains v.rows row
  pub lineage_is : lineage_of row.phase ≡ source ∷ target ∷ []
  pub receiving : (v.handovers target.master row.tablet).role ≡ roles.Receiving

-- the items of the source of a row, in scan order
abbrev pub source_items : View → Row → Member → List Held
source_items v row source = scan_items (member_truth v.written row.range source)

-- an item may be replayed if it is one of the source's
pub record MayReplay (v : View) (row : Row) (source target : Member) (worker : ℕ) (item : Held) : Type 0 where
  pub pulling : IsPulling v row source target
  pub worker_is : worker < 4
  pub of_source : Contains (source_items v row source) item

-- an item is copied at a target of a row or outdone, and found in its records
pub record IsThere (v : View) (row : Row) (target : Member) (item : Held) : Type 0 where
  pub copied :
      Contains
      (copied_items (v.handovers target.master row.tablet).role (v.pullings target.master row.tablet) (v.written target.master).sides)
      item
      ⊎ IsOutdone (items_of (entries_from row.range target.from (applied_entries (v.written target.master)))) item
  pub found : IsFound (v.records target.master) item

-- items of the source of a row have arrived at its target
abbrev pub HaveArrived : View → Row → Member → List Held → Type 0
HaveArrived v row target items = (item : Held) → Contains items item → IsThere v row target item

-- what a target of a row pulls goes on: each item of the source that counts as arrived did so before, or is copied or outdone, and
-- found in the records; a target that has pulled all stays at the end
pub record GoesOn (v : View) (row : Row) (source target : Member) (new : Pulling) : Type 0 where
  pub at_end : is_joining (v.handovers target.master row.tablet).role ≡ true → HasPulled (v.pullings target.master row.tablet) → new.token ≡ end
  pub arrived :
      (item : Held) → Contains (source_items v row source) item
      → HasArrived (v.handovers target.master row.tablet).role new (source_items v row source) item
      → HasArrived (v.handovers target.master row.tablet).role (v.pullings target.master row.tablet) (source_items v row source) item
      ⊎ IsThere v row target item

-- what is pulled of a tablet may go on at a master, if it does so for each row whose target the master is
abbrev pub MayGoOn : View → ℕ → ℕ → (Pulling → Pulling) → Type 0
MayGoOn v master tablet change =
    (row : Row) (source target : Member) → Contains v.rows row → target.master ≡ master → row.tablet ≡ tablet
    → lineage_of row.phase ≡ source ∷ target ∷ []
    → GoesOn v row source target (change (v.pullings target.master row.tablet))

-- a target may pass on to a token if all items that the token has passed have arrived
pub record MayPass (v : View) (row : Row) (source target : Member) (next : Token) : Type 0 where
  pub pulling : IsPulling v row source target
  pub arrived : HaveArrived v row target (passed next (source_items v row source))

-- hashes may be resolved if all items that have them have arrived
pub record MayResolve (v : View) (row : Row) (source target : Member) (hashes : List ℕ) : Type 0 where
  pub pulling : IsPulling v row source target
  pub arrived : HaveArrived v row target (flat_map (λ hash. at_hash hash (source_items v row source)) hashes)

-- the side lists of a tablet may be sealed once all is pulled
pub record MaySeal (v : View) (master tablet : ℕ) : Type 0 where
  pub lives : v.live master ≡ true
  pub room :
      FIRST_SIDE_SEGMENT
      + (length (v.logs master).sides + length (sealed_sides (v.pullings master tablet).sides))
      ≤ 2 ^ 32
  pub receiving : (v.handovers master tablet).role ≡ roles.Receiving
  pub pulled : (v.pullings master tablet).token ≡ end

-- the closing entry of a target may be appended once every backup is known to hold what it sealed; that the range of a tablet is not
-- empty is so in each lane that is well formed
pub record MayJoin (v : View) (master tablet : ℕ) : Type 0 where
  pub lives : v.live master ≡ true
  pub joining : (v.handovers master tablet).role ≡ roles.Joining None
  pub room : HasSegmentLeft (v.logs master)
  pub stored : All (λ segment. is_side_stored (v.logs master) segment ≡ true) (v.pullings master tablet).sealed
  pub some : meets (v.handovers master tablet).range (v.handovers master tablet).range ≡ true

-- the entry that closes the role is applied
abbrev pub IsClosed : Role → ℕ → Type 0
IsClosed (roles.Joining (Some entry)) applied = entry < applied
IsClosed (roles.Rebuilding from (Some entry)) applied = entry < applied
IsClosed role applied = ⊥

-- the owner of a row, or a master that owned it at the term that it keeps, may serve once its closing entry is applied
pub record MayOwn (v : View) (row : Row) (master : ℕ) : Type 0 where
  pub lives : v.live master ≡ true
  pub has_row : Contains v.rows row
  pub owner : IsOwner (post_of row.phase master) (v.handovers master row.tablet).term row.term
  pub closed : IsClosed (v.handovers master row.tablet).role (v.written master).applied

-- a frozen tablet may be given up by a living master that is not of the lineage
pub record MayRelease (v : View) (row : Row) (master : ℕ) : Type 0 where
  pub lives : v.live master ≡ true
  pub has_row : Contains v.rows row
  pub frozen : (v.handovers master row.tablet).role ≡ roles.Frozen
  pub outside : is_member (lineage_of row.phase) master ≡ false

-- ---- the role of a tablet changes

-- whether a master in this role neither waits for the tablet, nor takes it over, nor rebuilds it
abbrev pub is_steady : Role → Bool
is_steady roles.Absent = true
is_steady roles.Serving = true
is_steady roles.Closing = true
is_steady roles.Frozen = true
is_steady _ = false

-- the term of a tablet may rise at a master: its row has one member alone, its range is the row's, and the master owned the tablet at
-- the new term, or owns it
pub record MayRise (row : Row) (master : ℕ) (new : Handover) : Type 0 where
  pub only : Member
  pub lineage_is : lineage_of row.phase ≡ only ∷ []
  pub range_is : new.range ≡ row.range
  pub owner : IsOwner (post_of row.phase master) new.term row.term

-- the role of a row's tablet may change at a living master into a steady one: the range and the counter stay, and so does the term or
-- it may rise to one that is at most the row's. The new role fits the master's post and speaks no more than the old one; if it
-- allows nothing staged, nothing is. The old role awaits no grant, and is that of no frozen member
pub record MayTakeRole (v : View) (row : Row) (master : ℕ) (new : Handover) : Type 0 where
  pub lives : v.live master ≡ true
  pub has_row : Contains v.rows row
  pub range_is : new.range ≡ (v.handovers master row.tablet).range
  pub counter_is : new.counter ≡ (v.handovers master row.tablet).counter
  pub grows : (v.handovers master row.tablet).term ≤ new.term
  pub within : new.term ≤ row.term
  pub term_is : (new.term ≡ (v.handovers master row.tablet).term) ⊎ MayRise row master new
  pub steady : is_steady new.role ≡ true
  pub present : is_absent new.role ≡ false → is_absent (v.handovers master row.tablet).role ≡ false
  pub waited : is_wanting (v.handovers master row.tablet).role ≡ false
  pub given_up : (v.handovers master row.tablet).role ≡ roles.Frozen → is_member (lineage_of row.phase) master ≡ false
  pub fits : RoleFits row master new (v.written master).applied
  pub speaks :
      speaks (post_of row.phase master) new row.term ≡ true
      → speaks (post_of row.phase master) (v.handovers master row.tablet) row.term ≡ true
  pub settled : is_idle new.role ≡ true → IsSettledIn row.range (v.written master)

-- ---- a tablet is rebuilt

-- a living master may begin to rebuild a tablet that its row asks it to, at a term above all that it keeps there
pub record MayBegin (v : View) (row : Row) (master : ℕ) (rebuild : Rebuild) : Type 0 where
  pub lives : v.live master ≡ true
  pub has_row : Contains v.rows row
  pub ordered : row.phase ≡ Rebuilding rebuild.lineage master
  pub tablet_is : rebuild.tenure.tablet ≡ row.tablet
  pub term_is : rebuild.tenure.term ≡ row.term
  pub range_is : rebuild.range ≡ row.range
  pub greater : (v.handovers master row.tablet).term < row.term
  pub above : IsAboveKept v master row.range row.term

-- what was read of the awaited segment may be gathered for the row that the master rebuilds, if it is a first part that holds what
-- its master knew to be stored, and what is needed; if there are no bytes, the master knew nothing of it to be stored
pub record MayGather (v : View) (own tablet master segment : ℕ) (bytes : Option (List ℕ)) : Type 0 where
  pub lives : v.live own ≡ true
  pub row : Row
  pub has_row : Contains v.rows row
  pub tablet_is : row.tablet ≡ tablet
  pub phase_is : row.phase ≡ Rebuilding (v.gathers own tablet).lineage own
  pub term_is : (v.handovers own tablet).term ≡ row.term
  pub gathering : is_gathering (v.handovers own tablet).role ≡ true
  pub awaited : is_awaited (next_reading (v.gathers own tablet)) master segment ≡ true
  pub read :
      IsReadPart (NeededOf row v.written (v.gathers own tablet).lineage master) (known_of (v.logs master) READ_BACKUP)
      (stored_of v.stored master READ_BACKUP) segment (read_bytes bytes)

-- what a master gathers for a row that it rebuilds goes on: it is still that of the row, and each segment that was read is a first
-- part that holds what its master knew to be stored, and what is needed; nothing is merged so far
pub record GathersOn (v : View) (row : Row) (lineage : List Member) (own : ℕ) (new : Gather) : Type 0 where
  pub gathering : is_gathering (v.handovers own row.tablet).role ≡ true
  pub gather : IsGatherOf new row.range lineage own
  pub read :
      AreGathered (NeededOf row v.written lineage) (λ q. known_of (v.logs q) READ_BACKUP) (λ q. stored_of v.stored q READ_BACKUP)
      new.members

-- what is gathered for a tablet may go on at a master, if it does so for each row that the master rebuilds at the row's term
abbrev pub MayGatherOn : View → ℕ → ℕ → (Gather → Gather) → Type 0
MayGatherOn v own tablet change =
    (row : Row) (lineage : List Member) → Contains v.rows row → row.tablet ≡ tablet → row.phase ≡ Rebuilding lineage own
    → (v.handovers own row.tablet).term ≡ row.term
    → GathersOn v row lineage own (change (v.gathers own row.tablet))

-- what was gathered may be merged, once all is, if the log has room for the copies and the entry that closes the rebuild
pub record MayMerge (v : View) (master tablet : ℕ) (copies : List Held) (closing : Entry) : Type 0 where
  pub lives : v.live master ≡ true
  pub room : length (cut ((v.logs master).entries ++ (as_entries copies ++ closing ∷ []))) < FIRST_SIDE_SEGMENT
  pub gathering : is_gathering (v.handovers master tablet).role ≡ true
  pub gathered : next_reading (v.gathers master tablet) ≡ None

-- ---- rows

-- a range is not empty
abbrev pub HasSome : Range → Type 0
HasSome range = range.first ≤ range.last

-- the range of an entry, if it has one, is not empty
abbrev pub HasSomeIn : Entry → Type 0
HasSomeIn (entries.Carried carried) = HasSome carried.range
HasSomeIn (entries.Joined joined) = HasSome joined.range
HasSomeIn entry = ⊤

-- a row may be added for a master that lives and is there, if its number is free and it meets no other. An empty range may seem to
-- meet a range that has nothing of it; and the history may start with items of the new range, if none of them lies in a row. A lane that is
-- well formed has neither: no range in it is empty, and what its history starts from lies in rows
pub record MayAdd (v : View) (row : Row) (master : ℕ) : Type 0 where
  pub lives : v.live master ≡ true
  pub there : IsMaster v.masters master
  pub fits : add_fault v.rows row ≡ None
  pub begins : row.phase ≡ Owned master 0
  pub first_term : row.term ≡ 1
  pub some : HasSome row.range
  pub entries : (q : ℕ) → All HasSomeIn (v.written q).entries
  pub tablets : (q tablet : ℕ) → 1 ≤ (v.handovers q tablet).term → HasSome (v.handovers q tablet).range
  pub orders : EachIn (λ number message. IfSome (range_in message.body) HasSome) v.wire
  pub base : All (IsItemWithin v.rows) v.base.items

-- a row at another term and phase
abbrev pub row_at : Row → ℕ → Phase → Row
row_at row term phase = record row { term = term; phase = phase }

-- a row that opens goes on to open, and the place of its target is noted then
pub record OpensOn (old new : Phase) : Type 0 where
  pub source : ℕ
  pub from : ℕ
  pub target : ℕ
  pub noted : Option ℕ
  pub place : ℕ
  pub was : old ≡ Opening source from target noted
  pub is : new ≡ Opening source from target (Some place)

-- what a master has of a tablet fits its new post at the row's new term; in the new post it speaks and has all items only
-- if it did before, and it still owns the tablet if it did
pub record MayTakePost (was is : Post) (old new : ℕ) (handover : Handover) (applied : ℕ) : Type 0 where
  pub fits : Holds (bond_of is handover.role) new handover.term applied
  pub speaks : speaks is handover new ≡ true → speaks was handover old ≡ true
  pub full : has_all_items is handover new ≡ true → has_all_items was handover old ≡ true
  pub owns : IsOwner was handover.term old → IsOwner is handover.term new

-- a row of the lineage that it had may be at another phase: its term rises, so no order or report of the old one counts any more, or it
-- opens and goes on to open. The masters that the phase names are there, what each has fits its new post, and a Close that a living
-- master would follow it may follow still. The row does not move then; no living master rebuilds it, and what is rebuilt of it, and the
-- marks of its tablet, fit the new phase
pub record MayTurn (v : View) (row : Row) (term : ℕ) (phase : Phase) : Type 0 where
  pub has_row : Contains v.rows row
  pub lineage_is : lineage_of phase ≡ lineage_of row.phase
  pub term_is : (row.term < term) ⊎ ((term ≡ row.term) × OpensOn row.phase phase)
  pub formed : IsFormed phase
  pub named : (master : ℕ) → names phase master ≡ true → IsMaster v.masters master
  pub at_term : KeepTerm phase (λ master. (v.handovers master row.tablet).term) term
  pub posts :
      (master : ℕ) → StillCounts (v.live master) (v.handovers master row.tablet).term term
      → MayTakePost (post_of row.phase master) (post_of phase master) row.term term (v.handovers master row.tablet)
      (v.written master).applied
  pub closes :
      (master order : ℕ) → v.live master ≡ true → (v.handovers master row.tablet).term < order
      → MayFollowClose row master order → MayFollowClose (row_at row term phase) master order
  pub unmoved : target_truth v.written v.handed (row_at row term phase) phase ≡ None
  pub given_up : (master : ℕ) → v.live master ≡ true → IsRebuiltBy row.phase master → ⊥
  pub rebuilt :
      RowIsRebuilt (row_at row term phase) phase (truths v row) v.logs v.written v.stored v.handovers v.completions v.gathers v.merged
      v.records v.live
  pub marks :
      (master : ℕ)
      → All (λ mark. mark.tablet ≡ row.tablet
      → MarkFits (row_at row term phase) master (v.handovers master row.tablet) (v.live master) (v.written master) mark)
      (v.written master).marks

-- a row that is owned may begin to move to another master that is there
pub record MayMigrate (v : View) (row : Row) (to : ℕ) : Type 0 where
  pub has_row : Contains v.rows row
  pub there : IsMaster v.masters to
  pub owner : ℕ
  pub from : ℕ
  pub phase_is : row.phase ≡ Owned owner from
  pub another : owner ≢ to

-- a row that is owned may be split
pub record MaySplit (v : View) (row : Row) (at new : ℕ) : Type 0 where
  pub has_row : Contains v.rows row
  pub owner : ℕ
  pub from : ℕ
  pub phase_is : row.phase ≡ Owned owner from
  pub fits : split_fault v.rows row.tablet at new ≡ None

-- a target waits at a place for its grant, at the row's term
pub record IsWaitingFor (v : View) (row : Row) (target place : ℕ) : Type 0 where
  pub role_is : (v.handovers target row.tablet).role ≡ roles.Wanting place
  pub term_is : (v.handovers target row.tablet).term ≡ row.term

-- the place of a target may be noted, if the target waits at it
pub record MayNote (v : View) (row : Row) (source sfrom target place : ℕ) : Type 0 where
  pub has_row : Contains v.rows row
  pub phase_is : row.phase ≡ Opening source sfrom target None
  pub waiting : IsWaitingFor v row target place

-- a row may move, if its source is frozen and reported its counter and its ends, each of which is known, and its target waits at the
-- place that it reported
pub record MayMove (v : View) (row : Row) (source sfrom target dfrom : ℕ) (handed : Handed) : Type 0 where
  pub has_row : Contains v.rows row
  pub phase_is : row.phase ≡ Opening source sfrom target (Some dfrom)
  pub frozen : (v.handovers source row.tablet).role ≡ roles.Frozen
  pub term_is : (v.handovers source row.tablet).term ≡ row.term
  pub floor_is : handed.floor ≡ (v.handovers source row.tablet).counter
  pub ends_are : handed.ends ≡ ends_of (v.completions source row.tablet)
  pub known : All (IsKnown v.base v.journal) handed.ends
  pub waiting : IsWaitingFor v row target dfrom

-- a row that moved may be owned by its target, once that has joined
pub record MayTakeJoined (v : View) (row : Row) (source sfrom target dfrom : ℕ) : Type 0 where
  pub has_row : Contains v.rows row
  pub phase_is : row.phase ≡ Moving source sfrom target dfrom
  pub term_is : (v.handovers target row.tablet).term ≡ row.term
  pub joined : HasJoined (v.handovers target row.tablet).role (v.written target).applied

-- a row that is rebuilt may be owned by the master that rebuilt it, which reported its place and the ends that it merged
pub record MayTakeRebuilt (v : View) (row : Row) (lineage : List Member) (to place : ℕ) (ends : List Ended) : Type 0 where
  pub has_row : Contains v.rows row
  pub phase_is : row.phase ≡ Rebuilding lineage to
  pub term_is : (v.handovers to row.tablet).term ≡ row.term
  pub rebuilt : HasRebuilt (v.handovers to row.tablet).role (v.written to).applied place
  pub ends_are : ends ≡ v.merged to row.tablet

-- a master may be noticed once it has crashed; that no range of a row is empty is so in each lane that is well formed
pub record MayNotice (v : View) (master : ℕ) : Type 0 where
  pub there : IsMaster v.masters master
  pub crashed : v.live master ≡ false
  pub ranges : All (λ row. row.range.first ≤ row.range.last) v.rows

-- a master may crash while another one lives
pub record MayCrash (v : View) (master : ℕ) : Type 0 where
  pub other : ℕ
  pub there : IsMaster v.masters other
  pub another : other ≢ master
  pub lives : v.live other ≡ true
