-- A master that rebuilds a tablet stays well formed: when it begins, when it gathers a segment, and when it merges; and what it merges of
-- well formed entries is: its copies, its ends and its floor.
use Rattle.std.proofs.Common.{◌≡◌, ◌≤◌, ◌<◌, ◌+◌, ◌==◌, ◌&&◌, ℕ, false, true, if◌then◌else◌, List, [], ◌∷◌, ◌++◌, filter, map, All, length}
use Rattle.std.proofs.Common.{Option, None, Some, IfSome, refl, subst, sym, ⊎_elim, arith, nat_lt, w64, not, flat_map, eq-eqb, ◌-◌}
use Rattle.std.proofs.Common.{slice_index_or}
use Rattle.rk_inv_wellformed.proofs.Words.{cond_both, length_push, All-filter, All-head, All-map, All-nil, All-push, All-tail}
use Rattle.rk_inv_wellformed.proofs.Words.{each_insert, Ended, Member, Range, entries_of, IsNumber, Entry, completions_from, ends_of}
use Rattle.rk_inv_wellformed.proofs.Words.{role_carried, Handover, Role, CopySegment, Rebuild, items_of, IsFormedGathered, IsFormedMaster}
use Rattle.rk_inv_wellformed.proofs.Words.{IsFormedTablet, MOST_BASE_CLIENTS, place_in, Gathered, by_member, next_reading}
use Rattle.rk_inv_wellformed.proofs.Words.{with_others_given_up, AreOfDistinctClients, IsFormedCopy, IsFormedEnd, IsFormedEntry}
use Rattle.rk_inv_wellformed.proofs.Words.{IsFormedHeld, IsFormedMember, IsFormedRebuild, Limits, own_member, Master, tablet_at, with_all}
use Rattle.rk_inv_wellformed.proofs.Words.{with_appended, as_entries, merge, MOST_CLIENTS, is_absent, is_gathering, is_receiving, Tablet}
use Rattle.rk_inv_wellformed.proofs.Words.{Worked, Merged, bytes_of, unread, counters_of, IsFormedNumber, IsMaster, All-contains_itself}
use Rattle.rk_inv_wellformed.proofs.Words.{All-append, All-cons, All-contains, All-drop, get, Held, FIRST_SIDE_SEGMENT, ended_of}
use Rattle.rk_inv_wellformed.proofs.Words.{newest_is, told_by, newest_items_are, newest_items, told, Gather, counted_of, is_of_lineage}
use Rattle.rk_inv_wellformed.proofs.Words.{main_entries, material_by, side_read, material_of, named, copies_of, ends_by_place, first_told}
use Rattle.rk_inv_wellformed.proofs.Words.{floor_by, floor_of, has_version, merged_ends, LAST_MAIN_SEGMENT}
use Rattle.rk_inv_wellformed.proofs.Words.{with_main, with_read, with_segment, side_entries}
use Rattle.rk_world.specs.Rebuilds.{own_material, own_place}
use Rattle.rk_world.specs.Rebuilds as rebuilds
use Rattle.rk_inv_wellformed.proofs.lanes.More.{IsMore, more_master}
use Rattle.rk_inv_wellformed.proofs.masters.Work.{counted_fits, AreLimits, IsFormedWork, Rises, formed_changed}
use Rattle.rk_inv_wellformed.proofs.maps.{completions_each, completions_order, all_flat, by_found, either_way, pairs_from_ends, all_at}
use Rattle.rk_inv_wellformed.proofs.maps.{all_each, all_given, fold_keeps, each_from_pairs, each_or, fold_keeps_all}
use Rattle.rk_inv_wellformed.proofs.masters.Changes.{formed_with_all, formed_with_appended, formed_with_tablet, formed_without_items}
use Rattle.rk_inv_wellformed.proofs.masters.Changes.{formed_others_given_up, tablet_there, moved_is}
use Rattle.rk_inv_wellformed.proofs.masters.Handovers.{ends_are_formed, ends_are_lawful, formed_begun, one_stood, formed_ends_few}
use Rattle.rk_inv_wellformed.proofs.masters.MergedOnce.{merged_once, none_twice, placed_each}
use Rattle.rk_inv_wellformed.proofs.masters.Requests.{counter_with_tablet, items_formed}
use Rattle.rk_inv_wellformed.proofs.masters.Sealing.{first_holds}
use Rattle.rk_inv_wellformed.proofs.masters.Tablets.{counter_at, formed_pulling_from, formed_tablet, rest_at, WaitsForNone, none_waits}
use Rattle.rk_inv_wellformed.proofs.masters.Tablets.{role_there}
use Rattle.rk_inv_wellformed.proofs.masters.Commits.{told_formed}

-- ---- what counts

-- what counts of entries, with the side segments that they name
material_formed : (limits : Limits) (range : Range) (side : ℕ → List Entry) (list : List Entry) → ((segment : ℕ) → All (IsFormedEntry limits) (side segment)) → All (IsFormedEntry limits) list → All (IsFormedEntry limits) (material_of range side list)
material_formed limits range side list sides all = All-append (IsFormedEntry limits) _ _
    (All-filter _ (IsFormedEntry limits) list all) (All-filter _ (IsFormedEntry limits) _
    (all_flat (IsFormedEntry limits) side (named range list) (all_each (λ segment. All (IsFormedEntry limits) (side segment))
    (named range list) sides)))

-- the entries of a side segment of a log
side_formed : (limits : Limits) (sides : List (List Held)) (segment : ℕ) → All (IsFormedHeld limits) (flat_map (λ items. items) sides) → All (IsFormedEntry limits) (side_entries sides segment)
side_formed limits sides segment all = either_way (All (IsFormedEntry limits)) (nat_lt segment FIRST_SIDE_SEGMENT)
    (All-nil (IsFormedEntry limits)) (All-map (IsFormedEntry limits) Entry.Held (slice_index_or sides (segment - FIRST_SIDE_SEGMENT) [])
    (all_at (All (IsFormedHeld limits)) sides (segment - FIRST_SIDE_SEGMENT) [] (All-nil _)
    (all_given (IsFormedHeld limits) (λ items. items) sides all)))

-- the own entries that count
pub own_formed : {limits : Limits} {number : ℕ} {master : Master} (tablet : Tablet) → IsFormedMaster limits number master → All (IsFormedEntry limits) (own_material master tablet)
own_formed {limits} {master} tablet formed =
    material_formed limits tablet.handover.range (side_entries master.sides) _
    (λ segment. side_formed limits master.sides segment formed.items)
    (All-drop (IsFormedEntry limits) (own_place tablet.handover.role) master.log.entries formed.written)

-- the main entries that were read, from the place of the member on
pub main_formed : {limits : Limits} {gathered : Gathered} → IsFormedGathered limits gathered → All (IsFormedEntry limits) (main_entries gathered)
main_formed {limits} {gathered} formed = All-drop (IsFormedEntry limits) gathered.member.from _
    (all_flat (IsFormedEntry limits) (λ list. list) gathered.main formed.main)

counted_formed : {limits : Limits} (range : Range) {gathered : Gathered} → IsFormedGathered limits gathered → All (IsFormedEntry limits) (counted_of range gathered)
counted_formed {limits} range {gathered} formed =
    material_formed limits range (side_read gathered) (main_entries gathered)
    (λ segment. each_or (λ segment entries. All (IsFormedEntry limits) entries) [] gathered.sides segment (All-nil _) formed.sides) (main_formed formed)

-- what counts of one member
by_formed : (limits : Limits) (gather : Gather) (own : List Entry) (master : ℕ) → All (IsFormedGathered limits) gather.members → All (IsFormedEntry limits) own → All (IsFormedEntry limits) (material_by gather own master)
by_formed limits gather own master members own_is = either_way (All (IsFormedEntry limits)) (master == gather.own) own_is
    (all_flat (IsFormedEntry limits) (counted_of gather.range) _
    (λ place other within. counted_formed gather.range
    (All-filter (λ gathered. gathered.member.master == master) (IsFormedGathered limits) gather.members members place other within)))

-- what counts of each member
pub members_formed : (limits : Limits) (gather : Gather) (own : List Entry) → All (IsFormedGathered limits) gather.members → All (IsFormedEntry limits) own → All (All (IsFormedEntry limits)) (by_member gather own)
members_formed limits gather own members own_is = All-append (All (IsFormedEntry limits)) _ _
    (All-map (All (IsFormedEntry limits)) (λ member. material_by gather own member.master) gather.lineage
    (all_each (λ (member : Member). All (IsFormedEntry limits) (material_by gather own member.master)) gather.lineage
    (λ member. by_formed limits gather own member.master members own_is)))
    (cond_both (is_of_lineage gather) [] (own ∷ []) (All (All (IsFormedEntry limits))) (λ of. All-nil _)
    (λ outside. All-cons (All (IsFormedEntry limits)) own [] own_is (All-nil _)))

-- ---- copies

newest_formed : (limits : Limits) (items : List Held) → All (IsFormedHeld limits) items → All (IsFormedHeld limits) (newest_items items)
newest_formed limits items all place other within =
    let item = slice_index_or (newest_items items) place other in
    All-contains (IsFormedHeld limits) items item all
    (newest_is items item.table item.key item (((newest_items_are items).newest item).0 (All-contains_itself (newest_items items) place other within))).stands

-- the copies of a merge
pub copies_formed : (limits : Limits) (own all : List Held) → All (IsFormedHeld limits) all → All (IsFormedHeld limits) (copies_of own all)
copies_formed limits own all formed =
    All-filter (λ item. not (has_version own item)) (IsFormedHeld limits) (newest_items all) (newest_formed limits all formed)

-- ---- the floor

floor_rises : (floor : ℕ) (entry : Entry) → floor ≤ floor_by floor entry
floor_rises floor (Entry.Held held) = omega arith
floor_rises floor _ = omega arith

-- it counts from 1
pub floor_first : (list : List Entry) → 1 ≤ floor_of list
floor_first list = fold_keeps (λ floor. 1 ≤ floor) floor_by list 1 (omega arith) (λ floor entry some. omega (arith, some, floor_rises floor entry))

-- if the entries are well formed, it is at most one above the greatest number
floor_within_by : (limits : Limits) (floor : ℕ) (entry : Entry) → floor ≤ limits.top + 1 → IsFormedEntry limits entry → floor_by floor entry ≤ limits.top + 1
floor_within_by limits floor entry below formed = grind arith

pub floor_within : (limits : Limits) (list : List Entry) → All (IsFormedEntry limits) list → floor_of list ≤ limits.top + 1
floor_within limits list formed =
    fold_keeps_all (λ floor. floor ≤ limits.top + 1) (IsFormedEntry limits) floor_by list 1 (omega arith) formed (floor_within_by limits)

-- ---- ends

by_place_formed : (P : Ended → Type 0) (all : List Ended) (members : List (List Ended)) → All (All P) members → All P (ends_by_place all members)
by_place_formed P all [] formed = All-nil P
by_place_formed P all (ends ∷ later) formed =
    All-append P _ _ (placed_each P P (λ seen. Unit {0}) all (flat_map (λ told. told) later) [] ends tt (λ seen next before. tt)
    (λ seen end before it place. it) (All-head (All P) ends later formed))
    (by_place_formed P all later (All-tail (All P) ends later formed))

-- the ends of entries
told_all : (limits : Limits) (list : List Entry) → All (IsFormedEntry limits) list → All (IsFormedEnd limits) (told list)
told_all limits list all = all_flat (IsFormedEnd limits) told_by list (λ place other within. told_formed limits _ (all place other within))

-- the end that counts for a call is one of those that were recorded
first_formed : {limits : Limits} (all : List Ended) {end : Ended} → All (IsFormedEnd limits) all → IsFormedEnd limits end → IsFormedEnd limits (first_told end (get (completions_from [] all) end.client))
first_formed {limits} all {end} formed it =
    by_found (λ last. IsFormedEnd limits (first_told end last)) (get (completions_from [] all) end.client) (λ is. it)
    (λ last is. each_from_pairs (λ client completion. IsFormedEnd limits (ended_of (client, completion))) (completions_from [] all)
    (pairs_from_ends (IsFormedEnd limits) (completions_from [] all) (completions_each (IsFormedEnd limits) [] all (All-nil _) formed))
    end.client last is)

-- the ends of a merge
pub ends_formed : (limits : Limits) (members : List (List Entry)) → All (All (IsFormedEntry limits)) members → All (IsFormedEnd limits) (merged_ends members)
ends_formed limits members formed =
    All-map (IsFormedEnd limits) (λ end. first_told end (get (completions_from [] (flat_map told members)) end.client)) _
    (λ place other within. first_formed (flat_map told members) (all_flat (IsFormedEnd limits) told members each)
    (by_place_formed (IsFormedEnd limits) (flat_map told members) (map told members)
    (All-map (All (IsFormedEnd limits)) told members each) place other within))
  where
    each : All (λ list. All (IsFormedEnd limits) (told list)) members
    each place other within = told_all limits _ (formed place other within)

-- ---- merging

-- what a merge may make
pub record IsFormedMerge (limits : Limits) (merged : Merged) : Type 0 where
  pub copies : All (IsFormedHeld limits) merged.copies
  pub floor : 1 ≤ merged.floor
  pub told : All (IsFormedEnd limits) merged.ends
  pub once : AreOfDistinctClients merged.ends

-- the last ends of clients are no more than the clients
pub few_ends : (limits : Limits) (list : List Ended) → AreLimits limits → All (IsFormedEnd limits) list
    → length (ends_of (completions_from [] list)) ≤ MOST_CLIENTS + MOST_BASE_CLIENTS
few_ends limits list are told =
    formed_ends_few (ends_of (completions_from [] list)) are (ends_are_formed limits (completions_from [] list) (completions_order [] list tt)
    (completions_each (IsFormedEnd limits) [] list (All-nil _) told))

pub merge_formed : (limits : Limits) (number : ℕ) (master : Master) (id : ℕ) → 1 ≤ limits.top → IsFormedMaster limits number master
    → IsFormedMerge limits (merge (rebuilds.own_material master (tablet_at master id)) (by_member (tablet_at master id).gather (rebuilds.own_material master (tablet_at master id))))
merge_formed limits number master id some formed =
    let it = tablet_at master id in
    let own = rebuilds.own_material master it in
    let members = members_formed limits it.gather own (rest_at limits number master id formed).gathered (own_formed it formed) in
    let all = flat_map (λ list. list) (by_member it.gather own) in
    record {
      copies = copies_formed limits (items_of own) (items_of all)
          (items_formed limits all (all_flat (IsFormedEntry limits) (λ list. list) (by_member it.gather own) members));
      floor = floor_first all;
      told = ends_formed limits (by_member it.gather own) members;
      once = merged_once (by_member it.gather own);
    }

-- the role of a rebuild that has its closing entry
record IsCarried (role r : Role) : Type 0 where
  place : place_in r ≡ place_in role
  still : is_receiving r ≡ false
  there : is_absent role ≡ false
  waits : WaitsForNone r

after_carry : (place : ℕ) (role r : Role) → role_carried place role ≡ Some r → IsCarried role r
after_carry place role r is = grind arith

module _ (limits : Limits) (number : ℕ) (master : Master) (id : ℕ) (merged : Merged) where
  abbrev it : Tablet
  it = tablet_at master id

  abbrev copied : Master
  copied = with_all master (as_entries merged.copies)

  -- the entry that closes a rebuild
  pub closing_formed : AreLimits limits → IsFormedTablet limits id it → merged.floor ≤ limits.top → IsFormedMerge limits merged → IsFormedEntry limits (rebuilds.rebuilt_entry it merged)
  closing_formed are there floor formed =
      let order = completions_order [] merged.ends tt in
      let each = completions_each (IsFormedEnd limits) [] merged.ends (All-nil _) formed.told in
      let ends = ends_are_formed limits (completions_from [] merged.ends) order each in
      let counts : IsFormedNumber limits merged.floor = omega (arith, formed, floor) in
      record {
        lawful = record {
          range = there.range;
          term = counted_fits are there.term;
          floor = counted_fits {n = merged.floor} are counts;
          few = omega (arith, few_ends limits merged.ends are formed.told);
          each = ends_are_lawful limits (ends_of (completions_from [] merged.ends)) each;
          rising = ends.rising;
        };
        term = there.term.last;
        floor = floor;
        each = each;
      }

  -- a master that merged what it gathered
  merges : (r : Role) → role_carried (length copied.log.entries) it.handover.role ≡ Some r → AreLimits limits → IsFormedMerge limits merged
      → merged.floor ≤ limits.top → IsFormedMaster limits number master
      → IsFormedWork limits number 1 (rebuilds.merging master id it merged (Some (record it.handover { counter = merged.floor; role = r })))
  merges r carried_is are formed floor master_formed =
      let after = after_carry (length copied.log.entries) it.handover.role r carried_is in
      let there = tablet_there id after.there master_formed in
      let counter : IsFormedNumber limits merged.floor = omega (arith, formed, floor) in
      let source : is_receiving r ≡ true → IsMaster limits.masters it.pulling.source = λ receives. absurd (cc (receives, after.still)) in
      record {
        master = formed_with_tablet {id = id} {tablet = rebuilds.with_merged it merged (record it.handover { counter = merged.floor; role = r })}
            (formed_with_appended (rebuilds.rebuilt_entry it merged)
            (formed_with_all (as_entries merged.copies) master_formed (All-map (IsFormedEntry limits) Entry.Held merged.copies formed.copies))
            (closing_formed are there floor formed))
            (assumption (
              formed,
              subst (IsNumber w64 0) (sym after.place) there.place,
              completions_order [] merged.ends tt,
              completions_each (IsFormedEnd limits) [] merged.ends (All-nil _) formed.told,
            ))
            (none_waits r _ _ after.waits);
        sends = All-nil _;
        few = omega arith;
        served = omega arith;
      }

-- what is made of something is well formed, if the counters that it raises keep to the limits
abbrev RiseFits : Limits → Limits → ℕ → Worked → Type 0
RiseFits small limits number worked = Rises small limits worked → IsFormedWork limits number 1 worked

-- a rebuild goes on: it merges once all is gathered
formed_goes_on : {small limits : Limits} {number : ℕ} {master : Master} (id : ℕ) → IsMore small limits → AreLimits limits → 1 ≤ small.top
    → IsFormedMaster small number master → RiseFits small limits number (rebuilds.rebuild_goes_on master id)
formed_goes_on {small} {limits} {number} {master} id more are some formed rises =
    by_found (λ reading. RiseFits small limits number (rebuilds.rebuilding_on master id reading)) (next_reading it.gather)
    (λ none. moved_is (λ moved. RiseFits small limits number (rebuilds.merging master id it merged moved)) (it.handover.term == it.handover.term)
    (record it.handover { counter = merged.floor }) (role_carried (length (with_all master (as_entries merged.copies)).log.entries) it.handover.role)
    (λ rises. formed_changed wide)
    (λ r carried_is rises. merges limits number master id merged r carried_is are
    (merge_formed limits number master id (omega (arith, some, more.top)) wide) (floor r rises) wide))
    (λ reading is rises. formed_changed wide) rises
  where
    it : Tablet
    it = tablet_at master id

    merged : Merged
    merged = merge (rebuilds.own_material master (tablet_at master id)) (by_member (tablet_at master id).gather (rebuilds.own_material master (tablet_at master id)))

    wide : IsFormedMaster limits number master
    wide = more_master small limits more formed

    floor : (r : Role) → Rises small limits (rebuilds.merging master id it merged (Some (record it.handover { counter = merged.floor; role = r })))
        → merged.floor ≤ limits.top
    floor r rises =
        let own = rebuilds.own_material master it in
        let within = floor_within small (flat_map (λ list. list) (by_member it.gather own))
        (all_flat (IsFormedEntry small) (λ list. list) (by_member it.gather own)
        (members_formed small it.gather own (rest_at small number master id formed).gathered (own_formed it formed))) in
        let handover : Handover = record it.handover { counter = merged.floor; role = r } in
        let after = rebuilds.rebuild_merged master id it merged handover in
        ⊎_elim (λ (up : small.top < limits.top). omega (arith, up, within))
        (λ (counters : All (λ counter. counter ≤ limits.top) (counters_of after)).
        counter_with_tablet limits (with_appended (with_all master (as_entries merged.copies)) (rebuilds.rebuilt_entry it merged)) id
        (rebuilds.with_merged it merged handover) counters) rises

-- ---- beginning

-- the place from which the own log counts can be spelled
begun_fits : (limits : Limits) (master : Master) (own : Option Member) → IfSome own (IsFormedMember limits) → IsNumber w64 0 (length master.log.entries) → IsNumber w64 0 (rebuilds.begun_from master own)
begun_fits limits master None member place = place
begun_fits limits master (Some own) member place = member.from

-- the own member of a lineage is one of it
own_formed_member : (limits : Limits) (lineage : List Member) (number : ℕ) → All (IsFormedMember limits) lineage → IfSome (own_member lineage number) (IsFormedMember limits)
own_formed_member limits [] number all = tt
own_formed_member limits (member ∷ lineage) number all =
    cond_both (member.master == number) (Some member) (own_member lineage number) (λ own. IfSome own (IsFormedMember limits))
    (λ own. All-head (IsFormedMember limits) member lineage all)
    (λ other. own_formed_member limits lineage number (All-tail (IsFormedMember limits) member lineage all))

-- nothing was read of a member so far
unread_formed : {limits : Limits} {member : Member} → IsFormedMember limits member → IsFormedGathered limits (unread member)
unread_formed formed = grind arith

begun_formed : (limits : Limits) (lineage : List Member) (number : ℕ) → All (IsFormedMember limits) lineage → All (IsFormedGathered limits) (map unread (filter (λ member. not (member.master == number)) lineage))
begun_formed limits lineage number all = All-map (IsFormedGathered limits) unread _ (λ place other within.
    unread_formed (All-filter (λ member. not (member.master == number)) (IsFormedMember limits) lineage all place other within))

-- a master outside the lineage drops the items of the range
foreign_formed : {limits : Limits} {number : ℕ} {master : Master} (range : Range) (own : Option Member) → IsFormedMaster limits number master → IsFormedMaster limits number (rebuilds.without_foreign master range own)
foreign_formed range None formed = formed_without_items range formed
foreign_formed range (Some own) formed = formed

module _ (limits : Limits) (number : ℕ) (master : Master) (rebuild : Rebuild) where
  abbrev own : Option Member
  own = own_member rebuild.lineage master.number

  abbrev id : ℕ
  id = rebuild.tenure.tablet

  abbrev now : Master
  now = with_others_given_up (rebuilds.without_foreign master rebuild.range own) id rebuild.range

  now_formed : IsFormedMaster limits number master → IsFormedMaster limits number now
  now_formed formed = formed_others_given_up id rebuild.range (foreign_formed rebuild.range own formed)

  -- a master that begins
  pub begins : IsFormedRebuild limits rebuild → IsNumber w64 0 (length master.log.entries) → IsFormedMaster limits number master
      → IsFormedMaster limits number (rebuilds.rebuild_begun master rebuild)
  begins told place formed =
      let at = now_formed formed in
      let source = (tablet_at now id).pulling.source in
      let handover = (tablet_at now id).handover in
      let role = Role.Rebuilding (rebuilds.begun_from master own) None in
      let moves = formed_begun source handover role (counter_at id at (one_stood limits rebuild.tenure.term told.tenure.term)) told.tenure.term
      told.range (begun_fits limits master own (own_formed_member limits rebuild.lineage master.number told.members) place) refl in
      either_way (λ moved. IsFormedMaster limits number (rebuilds.with_begun now rebuild moved)) (nat_lt handover.term rebuild.tenure.term)
      (formed_with_tablet at
      (formed_tablet _ told.tenure.tablet moves
      (assumption (
        formed_pulling_from limits source,
        begun_formed limits rebuild.lineage now.number told.members,
        All-nil (IsFormedEnd limits),
        none_twice,
        rest_at limits number now id at,
      )))
      (omega arith))
      at

-- ---- Rebuild and Copy

-- a master that takes a Rebuild
pub formed_rebuild : {small limits : Limits} {number : ℕ} {master : Master} {rebuild : Rebuild} → IsMore small limits → AreLimits limits
    → IsFormedRebuild small rebuild → IsFormedMaster small number master → IsNumber w64 0 (length master.log.entries)
    → RiseFits small limits number (rebuilds.rebuild_taken master rebuild)
formed_rebuild {small} {limits} {number} {master} {rebuild} more are told formed place rises = cond_both _ _ _ (RiseFits small limits number)
    (λ greater. formed_goes_on rebuild.tenure.tablet more are (one_stood small rebuild.tenure.term told.tenure.term)
    (begins small number master rebuild told place formed))
    (λ lower up. formed_changed (more_master small limits more formed)) rises

-- after a main segment was read another one may follow, unless it was the last that there can be
one_more : (main : List (List Entry)) (list : List Entry) → length main < LAST_MAIN_SEGMENT → (length main + 1 == LAST_MAIN_SEGMENT) ≡ false → length (main ++ list ∷ []) < LAST_MAIN_SEGMENT
one_more main list below apart = grind (arith, eq-eqb, length_push)

-- a member of which a segment was read
segment_formed : {limits : Limits} {gathered : Gathered} (segment : ℕ) (bytes : Option (List ℕ)) → All (IsFormedEntry limits) (entries_of (bytes_of bytes)) → IsFormedGathered limits gathered → IsFormedGathered limits (with_segment gathered segment bytes)
segment_formed {limits} {gathered} segment bytes spelled formed = cond_both _ _ _ (IsFormedGathered limits)
    (λ is. assumption (
      each_insert (λ segment list. All (IsFormedEntry limits) list) gathered.sides segment (entries_of (bytes_of bytes)) formed.sides spelled,
      formed,
    ))
    (λ is. main bytes is spelled)
  where
    main : (bytes : Option (List ℕ)) → gathered.main_read ≡ false → All (IsFormedEntry limits) (entries_of (bytes_of bytes)) → IsFormedGathered limits (with_main gathered bytes)
    main None is spelled =
        let few : length gathered.main ≤ LAST_MAIN_SEGMENT = omega (arith, formed.more is) in
        let more : true ≡ false → length gathered.main < LAST_MAIN_SEGMENT = λ more. absurd (cc more) in
        assumption
    main (Some read) is spelled = record {
      member_is = formed.member_is;
      main = All-push (All (IsFormedEntry limits)) gathered.main (entries_of read) formed.main spelled;
      few = omega (arith, length_push gathered.main (entries_of read), formed.more is);
      more = λ more. one_more gathered.main (entries_of read) (formed.more is) more;
      sides = formed.sides;
    }

pub read_formed : (limits : Limits) (members : List Gathered) (master segment : ℕ) (bytes : Option (List ℕ)) → All (IsFormedEntry limits) (entries_of (bytes_of bytes)) → All (IsFormedGathered limits) members → All (IsFormedGathered limits) (with_read members master segment bytes)
read_formed limits members master segment bytes spelled all =
    All-map (IsFormedGathered limits) (λ gathered. if gathered.member.master == master then with_segment gathered segment bytes else gathered) members
    (λ place other within. either_way (IsFormedGathered limits) _
    (segment_formed segment bytes spelled (all place other within)) (all place other within))

-- a rebuild gathers the copy of a segment that it awaits
pub formed_gathered : (limits : Limits) (number : ℕ) (master : Master) (copy : CopySegment) → IsFormedCopy limits copy
    → (is_gathering (tablet_at master copy.tenure.tablet).handover.role && ((tablet_at master copy.tenure.tablet).handover.term == copy.tenure.term)) ≡ true
    → IsFormedMaster limits number master → IsFormedMaster limits number (rebuilds.segment_gathered master copy)
formed_gathered limits number master copy told is formed =
    let there = tablet_there copy.tenure.tablet (role_there is_gathering refl (tablet_at master copy.tenure.tablet).handover.role _ is) formed in
    formed_with_tablet {id = copy.tenure.tablet} formed
    (assumption
    (read_formed limits (tablet_at master copy.tenure.tablet).gather.members copy.master copy.segment copy.bytes told.spelled there.gathered))
    (omega arith)

-- a master that takes the copy of a segment
pub formed_copy : {small limits : Limits} {number : ℕ} {master : Master} {copy : CopySegment} → IsMore small limits → AreLimits limits
    → IsFormedCopy small copy → IsFormedMaster small number master → RiseFits small limits number (rebuilds.copy_taken master copy)
formed_copy {small} {limits} {number} {master} {copy} more are told formed rises = cond_both _ _ _ (RiseFits small limits number)
    (λ is. formed_goes_on copy.tenure.tablet more are (one_stood small copy.tenure.term told.tenure.term)
    (formed_gathered small number master copy told (first_holds _ _ is) formed))
    (λ other up. formed_changed (more_master small limits more formed)) rises
