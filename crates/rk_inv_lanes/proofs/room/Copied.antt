-- What a rebuild copies when it takes its last Copy is logged, each key once, and its master has no more bytes then than before, those of
-- the copies, and a closing entry.
use Rattle.std.proofs.Common.{All, Bool, Contains, List, [], ap, arith, drop, filter, flat_map, length, nat_lt, not, refl, slice_index_or}
use Rattle.std.proofs.Common.{subst, suc, sym, take, true, zero, ℕ, ⊎_elim, ◌++◌, ◌+◌, ◌-◌, ◌==◌, ◌∙◌, ◌∷◌, ◌≡◌, ◌≤◌, None, Option, Some}
use Rattle.std.proofs.Common.{false, sum_by}
use Rattle.rk_inv_base.proofs.Words.{All-contains, Contains-append_cases, Contains-append_left, Contains-append_right, Entry}
use Rattle.rk_inv_base.proofs.Words.{FIRST_SIDE_SEGMENT, Gather, Gathered, Held, IsBackup, IsGathered, IsMaster, LAST_MAIN_SEGMENT, Member}
use Rattle.rk_inv_base.proofs.Words.{NeededOf, Phase, READ_BACKUP, Range, Rebuilding, Row, RowIsRebuilt, SoundView, TellNoMore, View, World}
use Rattle.rk_inv_base.proofs.Words.{Written, as_entries, by_member, cond_both, counted_of, counting, counts, flat_map-append, is_member}
use Rattle.rk_inv_base.proofs.Words.{items_in, items_of, known_of, master_at, material_of, member_stored, named, names, or_right, own_place}
use Rattle.rk_inv_base.proofs.Words.{side_entries, stored_of, truths, unmarked_from, view, All-nil, All-weaker, CopySegment, Handover}
use Rattle.rk_inv_base.proofs.Words.{HasRoom, IsFormedGathered, IsFormedMaster, IsInOrder, IsSound, IsWellFormed, Master, Merged, Reading}
use Rattle.rk_inv_base.proofs.Words.{Role, Tablet, Worked, changed, completions_from, cond-false, cond-true, copy_taken, ends_of, get}
use Rattle.rk_inv_base.proofs.Words.{has_crashed, has_version, limits_of, log_bytes, merge, newest_items, newest_items_are, next_reading}
use Rattle.rk_inv_base.proofs.Words.{own_material, put2, rebuild_goes_on, rebuild_merged, rebuilding_on, segment_gathered, spelled_of}
use Rattle.rk_inv_base.proofs.Words.{sum-map, tablet_at, tablet_in, with_all, with_appended, with_gathered}
use Rattle.rk_tablet_map.specs.Phase.{member as member_at}
use Rattle.rk_inv_wellformed.proofs.masters.Pulls.{items_again}
use Rattle.rk_inv_base.proofs.calls.Rebuilds.{IsRebuilderIn}
use Rattle.rk_inv_base.proofs.logs.LengthTold.{each_member, members_by}
use Rattle.rk_inv_base.proofs.logs.MarkedApart.{place_of}
use Rattle.rk_inv_base.proofs.pulls.Joining.{kept_stands}
use Rattle.rk_inv_events.proofs.Below.{flat_from, flat_of, place_there, IsToldBy, all_stand_told, all_told, read_all, read_told}
use Rattle.rk_inv_events.proofs.Below.{stands_told, AreMarksTold, counted_told, side_material, stands_there, first_among, free_place}
use Rattle.rk_inv_events.proofs.Below.{own_entries, gathers_from}
use Rattle.rk_inv_lanes.specs.room.Logged.{IsLogged}
use Rattle.rk_inv_events.proofs.rebuilt.Newest.{copy_of_all}
use Rattle.rk_inv_events.proofs.Words.{AreReadable, all_by, merge_in, row_rebuilt, as_merged, master_of, tablet_here, view_gathered}
use Rattle.std.proofs.lemmas.List.Kept.{IsStrictlySortedBy-filter}
use Rattle.rk_entry.proofs.Sizes.{held_spelled}
use Rattle.rk_overlay.specs.Overlay.{item_cmp}
use Rattle.rk_world.specs.Formed.{MOST_BASE_CLIENTS}
use Rattle.rk_world.specs.Limits.{IsFormedCopy}
use Rattle.rk_world.specs.Refusals.{MOST_CLIENTS}
use Rattle.rk_inv_wellformed.proofs.bytes.EntryBytes.{carried_fits}
use Rattle.rk_inv_wellformed.proofs.bytes.LogBytes.{bytes_appended, bytes_put}
use Rattle.rk_inv_wellformed.proofs.bytes.PullBytes.{first_bytes, items_bytes, none_bytes}
use Rattle.rk_inv_wellformed.proofs.lanes.Worlds.{formed_limits}
use Rattle.rk_inv_wellformed.proofs.masters.Handovers.{one_stood}
use Rattle.rk_inv_wellformed.proofs.masters.Rebuilding.{few_ends, formed_gathered, merge_formed, read_formed}
use Rattle.rk_inv_wellformed.proofs.masters.Sealing.{first_holds, items_spelled}
use Rattle.rk_inv_wellformed.specs.Brought.{LONGEST_LEFT}
use Rattle.rk_inv_base.proofs.views.Put.{put2_here}
use Rattle.rk_inv_events.proofs.events.PostsOf.{gathering_row}
use Rattle.rk_inv_events.proofs.copies.Gathers.{gathers, last_is, sound_with_copy}
use Rattle.rk_inv_events.proofs.events.Crashing.{gathered_formed, readable}
use Rattle.rk_inv_events.proofs.events.Duties.{fits_as, known}
use Rattle.rk_inv_events.specs.copies.Small.{awaits, copy_message, next_after}
use Rattle.rk_inv_events.proofs.events.RowsApart.{has_row}
use Rattle.std.specs.List.Sorted.{IsStrictlySortedBy}

-- What a rebuild merges is what masters have written: what it read of a member is among what that has written, marked or not, and its own
-- entries are too.

-- ---- what a master has written

-- all that it has written, the items of its side segments too
abbrev pub all_written : Written → List Entry
all_written w = w.entries ++ flat_map as_entries w.sides

-- the items of side segments are those of their entries
side_items : (sides : List (List Held)) → items_of (flat_map as_entries sides) ≡ flat_map (λ items. items) sides
side_items [] = refl
side_items (side ∷ sides) = grind (arith, flat_map-append, items_in, as_entries, items_again, (side_items sides))

-- the items of one side segment are among those of all
one_side : (sides : List (List Held)) (place : ℕ) (e : Entry) → Contains (as_entries (slice_index_or sides place [])) e
    → Contains (flat_map as_entries sides) e
one_side [] place e at = absurd (omega (arith, at.1))
one_side (side ∷ sides) zero e at = Contains-append_left (as_entries side) (flat_map as_entries sides) e at
one_side (side ∷ sides) (suc place) e at =
    Contains-append_right (as_entries side) (flat_map as_entries sides) e (one_side sides place e at)

-- so does what the segment of this number has
side_written : (sides : List (List Held)) (number : ℕ) (e : Entry) → Contains (side_entries sides number) e → Contains (flat_map as_entries sides) e
side_written sides number e =
    cond_both (nat_lt number FIRST_SIDE_SEGMENT) [] (as_entries (slice_index_or sides (number - FIRST_SIDE_SEGMENT) []))
    (λ list. Contains list e → Contains (flat_map as_entries sides) e)
    (λ main at. absurd (omega (arith, at.1))) (λ side at. one_side sides (number - FIRST_SIDE_SEGMENT) e at)

module _ (w : Written) (range : Range) where
  -- what counts of side segments is written
  sides_written : (numbers : List ℕ) (e : Entry) → Contains (counting range (flat_map (side_entries w.sides) numbers)) e → Contains (all_written w) e
  sides_written numbers e at =
      let of = flat_from (side_entries w.sides) numbers e (kept_stands (counts range) (flat_map (side_entries w.sides) numbers) e at).0 in
      Contains-append_right w.entries (flat_map as_entries w.sides) e (side_written w.sides of.0 e of.2)

  -- so is what counts of the log from a place on
  own_written : (from : ℕ) (e : Entry) → Contains (material_of range (side_entries w.sides) (drop from w.entries)) e → Contains (all_written w) e
  own_written from e at =
      let list : List Entry = drop from w.entries in
      ⊎_elim
      (λ (main : Contains (counting range list) e).
      let there = place_there list e (kept_stands (counts range) list e main).0 in
      Contains-append_left w.entries (flat_map as_entries w.sides) e
      (stands_there w.entries (from + there.0) e (place_of w.entries from there.0 (from + there.0) e refl there.1)))
      (λ (side : Contains (counting range (flat_map (side_entries w.sides) (named range list))) e). sides_written (named range list) e side)
      (Contains-append_cases (counting range list) (counting range (flat_map (side_entries w.sides) (named range list))) e at)

  -- and what counts of its first entries
  first_written : (from count : ℕ) (e : Entry) → Contains (counting range (unmarked_from w.marks from (take count w.entries))) e
      → Contains (all_written w) e
  first_written from count e at =
      let kept = kept_stands (counts range) (unmarked_from w.marks from w.entries) e (first_among w.marks range from count w.entries e at) in
      let is = free_place w.marks from w.entries e kept.0 in
      Contains-append_left w.entries (flat_map as_entries w.sides) e (stands_there w.entries is.place e is.stands)

-- an item is written by some master
abbrev pub IsWritten : (ℕ → Written) → Held → Type 0
IsWritten written item = (q : ℕ) × Contains (items_of (all_written (written q))) item

-- so it is logged
pub written_logged : (w : World) (item : Held) → IsWritten (view w).written item → IsLogged w item
written_logged w item is = grind (arith, master_at, flat_map-append, items_in, as_entries, items_of, side_items)

-- ---- what a rebuild has gathered

-- in a sound view whose logs can be read again, for a row that a master rebuilds
module _ (v : View) (sound : SoundView v) (readable : AreReadable v.logs v.written) (row : Row) (has_row : Contains v.rows row)
    (lineage : List Member) (master : ℕ) (phase_is : row.phase ≡ Rebuilding lineage master) (term_is : (v.handovers master row.tablet).term ≡ row.term)
    (few : All (λ gathered. length gathered.main ≤ LAST_MAIN_SEGMENT) (v.gathers master row.tablet).members) where
  abbrev gather : Gather
  gather = v.gathers master row.tablet

  abbrev own : List Entry
  own = own_entries v master row.tablet

  -- the master, as the rebuilder of the row
  rebuilder : IsRebuilderIn v.logs v.written v.stored row lineage master (truths v row) (v.handovers master row.tablet)
      (v.completions master row.tablet) (v.gathers master row.tablet) (v.merged master row.tablet) (v.records master)
  rebuilder = (subst (λ (phase : Phase). RowIsRebuilt row phase (truths v row) v.logs v.written v.stored v.handovers v.completions v.gathers
      v.merged v.records v.live) phase_is (row_rebuilt v sound row has_row)).0 term_is

  -- all that the master and the members have written
  abbrev members : List Member
  members = member_at master 0 ∷ lineage

  abbrev all : List Entry
  all = flat_map (λ (m : Member). all_written (v.written m.master)) members

  of_one : (m : Member) → Contains members m → (e : Entry) → Contains (all_written (v.written m.master)) e → Contains all e
  of_one m has e at = flat_of (λ (m : Member). all_written (v.written m.master)) members m e has at

  -- its own entries that count are written
  own_told : All (IsToldBy all) own
  own_told = all_stand_told own all (λ e at. of_one (member_at master 0) (zero, omega arith, refl) e
      (own_written (v.written master) (v.handovers master row.tablet).range (own_place (v.handovers master row.tablet).role) e
      at))

  -- each of which something was read is a member
  read_members : All (λ gathered. Contains lineage gathered.member) gather.members
  read_members = members_by (Contains lineage) gather.members
      (subst (All (Contains lineage)) (sym rebuilder.gather.members_are)
      (all_by (Contains lineage) (filter is_other lineage) (λ m at. (kept_stands is_other lineage m at).0)))
    where
      is_other : Member → Bool
      is_other m = not (m.master == master)

  -- and knows of backup 1
  backed : (m : Member) → Contains lineage m → IsBackup (v.logs m.master) READ_BACKUP
  backed m has =
      let is_one : is_member lineage m.master ≡ true =
      All-contains (λ (x : Member). is_member lineage x.master ≡ true) lineage m (each_member lineage) has in
      let there : IsMaster v.masters m.master =
      All-contains (λ (r : Row). names r.phase m.master ≡ true → IsMaster v.masters m.master) v.rows row (sound.nodes.named m.master) has_row
      (ap (λ (phase : Phase). names phase m.master) phase_is ∙ or_right (master == m.master) (is_member lineage m.master) is_one) in
      record { first = omega arith; last = omega (arith, sound.nodes.known m.master there, sound.nodes.backed) }

  -- what was read of it and counts is written, marked or not
  each_told : (gathered : Gathered) → Contains gather.members gathered → All (IsToldBy all) (counted_of row.range gathered)
  each_told gathered stands =
      let m : Member = gathered.member in
      let w : Written = v.written m.master in
      let has : Contains lineage m = All-contains (λ (g : Gathered). Contains lineage g.member) gather.members gathered read_members stands in
      let told : (e : Entry) → Contains (all_written w) e → Contains all e = of_one m (Contains-append_right (member_at master 0 ∷ []) lineage m has) in
      let stored : All (IsToldBy all) (member_stored v.logs v.written v.stored row.range m) =
      all_stand_told (member_stored v.logs v.written v.stored row.range m) all (λ e at. told e (first_written w row.range m.from _ e at)) in
      let sides : All (IsToldBy all) (side_material row.range m w) = all_stand_told (side_material row.range m w) all
      (λ e at. told e (sides_written w row.range (named row.range (unmarked_from w.marks m.from w.entries)) e at)) in
      let marks : AreMarksTold v row m all =
      (λ place e behind before at marked inside.
      stands_told all e (told e (Contains-append_left w.entries (flat_map as_entries w.sides) e (stands_there w.entries place e at)))) in
      counted_told v sound readable row m (backed m has) (NeededOf row v.written lineage m.master) gathered
      (All-contains (λ (g : Gathered). length g.main ≤ LAST_MAIN_SEGMENT) gather.members gathered few stands)
      (All-contains
      (λ (g : Gathered). IsGathered (NeededOf row v.written lineage g.member.master) (known_of (v.logs g.member.master) READ_BACKUP)
      (stored_of v.stored g.member.master READ_BACKUP) g) gather.members gathered rebuilder.read stands)
      all stored sides marks refl

  -- so is all that is merged
  read : TellNoMore (read_all (by_member gather own)) all
  read = all_told (read_all (by_member gather own)) all (read_told all own gather own_told
      (rw rebuilder.gather.range_is (all_by (λ (gathered : Gathered). All (IsToldBy all) (counted_of row.range gathered))
      gather.members each_told)))

  -- and each copy
  pub copies_written : All (IsWritten v.written) (merge_in v master row.tablet).copies
  copies_written = all_by (IsWritten v.written) (merge_in v master row.tablet).copies
      (λ item at.
      let entry = flat_from items_in all item (read.items item (copy_of_all (items_of own) (items_of (read_all (by_member gather own))) item at)) in
      let one = flat_from (λ (m : Member). all_written (v.written m.master)) members entry.0 entry.1 in
      (one.0.master, flat_of items_in (all_written (v.written one.0.master)) entry.0 item one.2 entry.2))

-- what a rebuild copies when it takes its last Copy: items that are logged, each key once; and how many bytes its master has then
pub record CopiesLogged (w : World) (master : ℕ) (copy : CopySegment) : Type 0 where
  pub copies : List Held
  pub apart : IsStrictlySortedBy item_cmp copies
  pub logged : All (IsLogged w) copies
  pub bytes : log_bytes (copy_taken (master_at w master) copy).master ≤ log_bytes (master_at w master) + sum_by spelled_of copies + LONGEST_LEFT

-- ---- bytes

-- items that are appended have their bytes
all_bytes : (items : List Held) (master : Master) → log_bytes (with_all master (as_entries items)) ≡ log_bytes master + items_bytes items
all_bytes [] master = omega (arith, none_bytes)
all_bytes (item ∷ items) master =
    grind (arith, with_appended, bytes_appended, held_spelled, first_bytes, (all_bytes items (with_appended master (Entry.Held item))))

-- they leave the tablets as they are
all_tablets : (list : List Entry) (master : Master) → (with_all master list).tablets ≡ master.tablets
all_tablets [] master = refl
all_tablets (entry ∷ list) master = all_tablets list (with_appended master entry)

-- what is merged has the bytes of its copies, and the entry that closes the rebuild
merged_bytes : (id : ℕ) (master : Master) (merged : Merged) (handover : Handover) → IsInOrder master.tablets
    → length (ends_of (completions_from [] merged.ends)) ≤ MOST_CLIENTS + MOST_BASE_CLIENTS
    → log_bytes (rebuild_merged master id (tablet_at master id) merged handover) ≤ log_bytes master + items_bytes merged.copies + LONGEST_LEFT
merged_bytes id master merged handover order few =
    grind (arith, all_tablets, all_bytes, bytes_appended, bytes_put, carried_fits)

-- nothing is copied if there are no more bytes than before
none_copied : {w : World} {master : ℕ} {copy : CopySegment} → log_bytes (copy_taken (master_at w master) copy).master ≤ log_bytes (master_at w master)
    → CopiesLogged w master copy
unfolding IsStrictlySortedBy
none_copied {w} few = record { copies = []; apart = tt; logged = All-nil (IsLogged w); bytes = omega (arith, few) }

-- ---- a Copy

module _ (w : World) (number backup master : ℕ) (copy : CopySegment) (sound : IsSound w) (formed : IsWellFormed w) (room : HasRoom w)
    (is_there : IsMaster w.coordinator.masters master) (lives : has_crashed w master ≡ false)
    (there : get w.wire.messages number ≡ Some (copy_message backup master copy)) where
  abbrev tablet : ℕ
  tablet = copy.tenure.tablet

  abbrev kept : Tablet
  kept = tablet_in w master copy.tenure.tablet

  -- the master once the segment is gathered, and its tablet then
  abbrev now : Master
  now = segment_gathered (master_at w master) copy

  here : tablet_at now tablet ≡ with_gathered kept copy
  here = tablet_here (master_at w master) tablet (with_gathered kept copy)

  -- what it merges of a tablet
  abbrev made : Tablet → Merged
  made t = merge (own_material now t) (by_member t.gather (own_material now t))

  says : IsFormedCopy (limits_of w) copy
  says = (formed.wire.each number (copy_message backup master copy) there).says

  own_formed : IsFormedMaster (limits_of w) master (master_at w master)
  own_formed = master_of w master is_there formed

  -- what is gathered has no bytes in the log
  gathered_bytes : log_bytes now ≡ log_bytes (master_at w master)
  gathered_bytes = omega (arith, bytes_put (master_at w master) tablet (with_gathered kept copy) own_formed.tablets_order)

  module _ (awaited : awaits (master_at w master) copy ≡ true) where
    -- what is seen of the lane then
    abbrev v : View
    v = record (view w) { gathers = put2 (view w).gathers master tablet (with_gathered kept copy).gather }

    sound_then : SoundView v
    sound_then = subst SoundView (view_gathered w master tablet (with_gathered kept copy).gather)
        (sound_with_copy w number backup master copy sound lives there awaited)

    -- what it gathered of the tablet
    gather_is : (r : ℕ) → r ≡ tablet → v.gathers master r ≡ (with_gathered kept copy).gather
    gather_is r its = put2_here (view w).gathers master tablet (with_gathered kept copy).gather master r refl its

    -- of no member more main segments than there can be
    few : All (λ gathered. length gathered.main ≤ LAST_MAIN_SEGMENT) (with_gathered kept copy).gather.members
    few =
        All-weaker (IsFormedGathered (limits_of w)) (λ gathered. length gathered.main ≤ LAST_MAIN_SEGMENT) (λ gathered its. its.few)
        (with_gathered kept copy).gather.members
        (read_formed (limits_of w) kept.gather.members copy.master copy.segment copy.bytes says.spelled (gathered_formed w formed master tablet))

    -- the copies for the tablet are written
    written : All (IsWritten v.written) (merge_in v master tablet).copies
    written =
        let its = has_row v.rows tablet (known v sound_then master tablet (ap not lives) (Role.Rebuilding role.0 None) role.1 refl) in
        let at = gathering_row master role.0 its.row.term kept.handover.term (v.written master).applied its.row.phase
        (fits_as v sound_then master tablet (ap not lives) (Role.Rebuilding role.0 None) role.1 its.row its.stands (sym its.tablet_is)) in
        subst (λ (n : ℕ). All (IsWritten v.written) (merge_in v master n).copies) its.tablet_is
        (copies_written v sound_then (readable w formed room) its.row its.stands at.lineage master at.phase_is
        (ap (λ (n : ℕ). (v.handovers master n).term) its.tablet_is ∙ at.term_is) (rw (gather_is its.row.tablet its.tablet_is) few))
      where
        role : (from : ℕ) × (kept.handover.role ≡ Role.Rebuilding from None)
        role = gathers_from kept.handover.role (gathers w number backup master copy sound lives there awaited).0

    -- and so they are logged
    logged : All (IsLogged w) (made (with_gathered kept copy)).copies
    logged =
        All-weaker (IsWritten (view w).written) (IsLogged w) (written_logged w) (made (with_gathered kept copy)).copies
        (subst
        (λ (gather : Gather). All (IsWritten (view w).written) (merge (own_entries v master tablet) (by_member gather (own_entries v master tablet))).copies)
        (gather_is tablet refl) written)

    now_formed : IsFormedMaster (limits_of w) master now
    now_formed = formed_gathered (limits_of w) master (master_at w master) copy says (first_holds _ _ awaited) own_formed

    -- something is left to read, or all is merged
    by_next : (next : Option Reading) → next_after (master_at w master) copy ≡ next → CopiesLogged w master copy
    by_next (Some reading) is =
        let goes_on : copy_taken (master_at w master) copy ≡ changed now =
        cond-true (awaits (master_at w master) copy) (rebuild_goes_on now tablet) (changed (master_at w master)) awaited
        ∙ ap (λ (next : Option Reading). rebuilding_on now tablet next) (ap (λ (t : Tablet). next_reading t.gather) here ∙ is) in
        none_copied (omega (arith, ap (λ (worked : Worked). log_bytes worked.master) goes_on, gathered_bytes))
    by_next None is =
        let merged : Merged = made (tablet_at now tablet) in
        let own : List Entry = own_material now (tablet_at now tablet) in
        let read : List Held = items_of (read_all (by_member (tablet_at now tablet).gather own)) in
        let moved : Handover = as_merged (length (with_all now (as_entries merged.copies)).log.entries) merged.floor (tablet_at now tablet).handover in
        let ends = (merge_formed (limits_of w) master now tablet (one_stood (limits_of w) copy.tenure.term says.tenure.term) now_formed).told in
        record {
          copies = merged.copies;
          apart =
              IsStrictlySortedBy-filter item_cmp (λ item. not (has_version (items_of own) item)) (newest_items read) (newest_items_are read).order;
          logged = rw here logged;
          bytes =
              omega (
                arith,
                ap (λ (worked : Worked). log_bytes worked.master) (last_is w number backup master copy sound lives there awaited is),
                merged_bytes tablet now merged moved now_formed.tablets_order (few_ends (limits_of w) merged.ends (formed_limits w formed room) ends),
                gathered_bytes,
                items_spelled merged.copies,
                sum-map spelled_of merged.copies,
              );
        }

  -- if it does not await the Copy it copies nothing
  taken_logged : (awaited : Bool) → awaits (master_at w master) copy ≡ awaited → CopiesLogged w master copy
  taken_logged true is = by_next is (next_after (master_at w master) copy) refl
  taken_logged false is = grind (arith, copy_taken, master_at, changed, cond-false, rebuild_goes_on, none_copied, log_bytes)

-- so it is with each Copy that reaches a living master
pub copy_logged : {w : World} (number backup : ℕ) {master : ℕ} (copy : CopySegment) → IsSound w → IsWellFormed w → HasRoom w
    → IsMaster w.coordinator.masters master → has_crashed w master ≡ false
    → get w.wire.messages number ≡ Some (copy_message backup master copy) → CopiesLogged w master copy
copy_logged {w} number backup {master} copy sound formed room is_there lives there =
    taken_logged w number backup master copy sound formed room is_there lives there (awaits (master_at w master) copy) refl
