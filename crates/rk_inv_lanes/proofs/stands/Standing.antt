-- In a quiet lane whose backups all report, what the first backup stores of the logs gives back what is in them, and with it the map.
use Rattle.std.proofs.Common.{All, Bool, Contains, IfSome, List, None, Option, Some, [], ap, append-nil, arith, drop, eq-eqb, false}
use Rattle.std.proofs.Common.{flat_map, get_or, is_some, le-ltb, leb-true, length, length-append, length-drop, map, nat_lt, not, refl}
use Rattle.std.proofs.Common.{slice_get, subst, suc, sym, take, take_all, true, unwrap_or, zero, ℕ, ◌++◌, ◌+◌, ◌-◌, ◌<◌, ◌∙◌, ◌∷◌, ◌≡◌, ◌≤◌}
use Rattle.rk_inv_base.proofs.Words.{All-contains, All-drop, All-head, All-map, All-tail, EachIn, Entry, EntryEnd, FIRST_SIDE_SEGMENT}
use Rattle.rk_inv_base.proofs.Words.{Handover, Held, IsBackup, IsLawfulEntry, IsLawfulHeld, IsLog, IsMaster, IsSound, IsTruth}
use Rattle.rk_inv_base.proofs.Words.{IsWellFormed, Known, LAST_MAIN_SEGMENT, Log, Mark, MarkFits, Master, NumberedBytes, Owned, Phase}
use Rattle.rk_inv_base.proofs.Words.{Range, Row, Segments, Session, World, Written, all_again, applied_entries, as_entries, backup_at}
use Rattle.rk_inv_base.proofs.Words.{bytes_of, cases_lt, cond-false, counting, cut, cut_filled, ends, entries_of, false≢true, get}
use Rattle.rk_inv_base.proofs.Words.{has_crashed, is_side_stored, is_whole, known_length, known_of, length-ends, lineage_of, lineage_truth}
use Rattle.rk_inv_base.proofs.Words.{list_all, list_all_each, log_in, log_material, material_of, member, member_truth, named, names}
use Rattle.rk_inv_base.proofs.Words.{no_segments, nothing, option_map_or, recursion_from_All, row_of, segment_of, segments_in, side_entries}
use Rattle.rk_inv_base.proofs.Words.{side_segments, slice_get-get_or, spelled, spelled_all, staged, stored_of, truths, view, written_in}
use Rattle.rk_outside.specs.Segments.{bytes_of as stored_bytes}
use Rattle.rk_log.proofs.CutLaws.{cut_again}
use Rattle.rk_log.specs.Stored.{spelled_in, stored_entries, written_from, written_then}
use Rattle.rk_inv_wellformed.proofs.maps.Lists.{all_back, all_front}
use Rattle.rk_inv_base.proofs.logs.Holding.{applied_stored}
use Rattle.rk_inv_events.proofs.Below.{read_none, cut_groups, ends_in, group_ends, spelled_first, spelled_none, spelled_one}
use Rattle.rk_inv_events.proofs.Words.{All_pairs, all_by, bytes_in, bytes_main, bytes_side, each_from_pairs, flat_same, named_in}
use Rattle.rk_inv_events.proofs.Words.{numbered_at, whole_part}
use Rattle.rk_inv_base.proofs.logs.Segments.{numbered_before, numbered_past}
use Rattle.rk_inv_events.proofs.Below.{all_at, all_groups, named_from}
use Rattle.rk_inv_events.proofs.rebuilt.AppliedOwn.{none_marked}
use Rattle.rk_world.specs.Quiet.{IsOwnedLive, IsQuiet}
use Rattle.rk_world.specs.Stands.{Stands, StandsIn, stored_material}
use Rattle.rk_world.specs.World.{live_masters}
use Rattle.rk_inv_base.proofs.pulls.Joining.{stands_kept}
use Rattle.rk_inv_events.proofs.events.Crashing.{entries_lawful, items_lawful}
use Rattle.rk_inv_events.proofs.events.Coordinating.{of_master}
use Rattle.rk_inv_events.proofs.events.RowsApart.{has_row}
use Rattle.rk_inv_lanes.specs.stands.Backups.{HasOwnBackups}

-- ---- A log of which all is applied has each main segment stored whole at every backup, and is read back from them.

-- ---- segments whose entries are stored

-- an entry is stored up to its end
abbrev IsStored : (ℕ → List ℕ) → EntryEnd → Type 0
IsStored stored end = end.offset ≤ length (stored end.segment)

module _ (stored : ℕ → List ℕ) where
  -- the entries of a segment are stored, so all its bytes are
  group_stored : (segment offset : ℕ) (list : List Entry) → 0 < length list → All (IsStored stored) (ends_in segment offset list) → offset + length (spelled_all list) ≤ length (stored segment)
  group_stored segment offset [] some all = absurd (omega (arith, some))
  group_stored segment offset (entry ∷ []) some all =
      let last = All-head (IsStored stored) (record { segment = segment; offset = offset + length (spelled entry) }) [] all in
      omega (arith, last, ap length (spelled_one entry))
  group_stored segment offset (entry ∷ next ∷ more) some all =
      let past : ℕ = offset + length (spelled entry) in
      let later = group_stored segment past (next ∷ more) (omega arith)
      (All-tail (IsStored stored) (record { segment = segment; offset = past }) (ends_in segment past (next ∷ more)) all) in
      omega (arith, later, ap length (spelled_first entry (next ∷ more)), length-append (spelled entry) (spelled_all (next ∷ more)))

  -- so it is with each of these segments
  groups_stored : (first : ℕ) (groups : List (List Entry)) → All (IsStored stored) (group_ends first groups) → (k segment : ℕ) → first + k ≡ segment → length (get_or (map spelled_all groups) k []) ≤ length (stored segment)
  groups_stored first [] all k segment is = omega arith
  groups_stored first ([] ∷ groups) all zero segment is = omega (arith, ap length spelled_none)
  groups_stored first ((entry ∷ list) ∷ groups) all zero segment is =
      let at : first ≡ segment = omega (arith, is) in
      let here = all_front (IsStored stored) (ends_in first 0 (entry ∷ list)) (group_ends (suc first) groups) all in
      let whole = group_stored first 0 (entry ∷ list) (omega arith) here in
      rw (← at) (omega (arith, whole))
  groups_stored first (group ∷ groups) all (suc k) segment is = groups_stored (suc first) groups
      (all_back (IsStored stored) (ends_in first 0 group) (group_ends (suc first) groups) all) k segment (omega (arith, is))

-- ---- segments that are read

-- segments that are written, and nothing in those behind them, give what these segments spell
segments_back : (segments : ℕ → Option (List ℕ)) (first most : ℕ) (list : List (List ℕ)) → ((k : ℕ) → k < length list → 0 < length (get_or list k [])) → length list ≤ most
    → ((k number : ℕ) → first + k ≡ number → k < most → stored_bytes (segments number) ≡ get_or list k [])
    → spelled_in (written_from segments first most) ≡ spelled_in list
unfolding written_from
segments_back segments first zero [] filled few are = refl
segments_back segments first zero (x ∷ list) filled few are = absurd (omega (arith, few))
segments_back segments first (suc most) [] filled few are =
    go (segments first) (are zero first (omega arith) (omega arith))
    (segments_back segments (suc first) most [] (λ k within. absurd (omega arith)) (omega arith)
    (λ k number is within. are (suc k) number (omega (arith, is)) (omega (arith, within))))
  where
    go : (found : Option (List ℕ)) → stored_bytes found ≡ [] → spelled_in (written_from segments (suc first) most) ≡ [] → spelled_in (written_then found (written_from segments (suc first) most)) ≡ []
    go None none later = refl
    go (Some bytes) none later = (λ i. entries_of (none i) ++ later i) ∙ append-nil (entries_of []) ∙ read_none
segments_back segments first (suc most) (x ∷ list) filled few are =
    go (segments first) (are zero first (omega arith) (omega arith))
    (segments_back segments (suc first) most list (λ k within. filled (suc k) (omega (arith, within))) (omega (arith, few))
    (λ k number is within. are (suc k) number (omega (arith, is)) (omega (arith, within))))
  where
    go : (found : Option (List ℕ)) → stored_bytes found ≡ x → spelled_in (written_from segments (suc first) most) ≡ spelled_in list → spelled_in (written_then found (written_from segments (suc first) most)) ≡ spelled_in (x ∷ list)
    go None none later = let some = filled zero (omega arith) in absurd (omega (arith, some, ap length none))
    go (Some bytes) is later = λ i. entries_of (is i) ++ later i

-- ---- a log

module _ (log : Log) (w : Written) (stored : ℕ → ℕ → List ℕ) (kept : IsLog log w stored) (applied : length w.entries ≤ w.applied) (backup : ℕ) (there : IsBackup log backup) (few : length (cut log.entries) < FIRST_SIDE_SEGMENT) where
  ends_stored : All (IsStored (stored backup)) (ends log.entries)
  ends_stored k d within =
      let count = length-ends [] log.entries in
      let same = ap length kept.entries_are in
      let holds = applied_stored log w stored backup k kept there (omega (arith, within, count, same, applied)) in
      subst (λ (found : Option EntryEnd). IfSome found (λ end. end.offset ≤ length (stored backup end.segment)))
      (slice_get-get_or (ends log.entries) k d within)
      (subst (λ (list : List Entry). IfSome (slice_get (ends list) k) (λ end. end.offset ≤ length (stored backup end.segment)))
      (sym kept.entries_are) holds)

  -- each main segment is stored whole
  pub main_whole : (k segment : ℕ) → 1 + k ≡ segment → segment < FIRST_SIDE_SEGMENT → stored backup segment ≡ get_or (cut log.entries) k []
  main_whole k segment is main =
      let groups = cut_groups log.entries in
      let at : segment - 1 ≡ k = omega (arith, is) in
      let bytes : bytes_of log segment ≡ get_or (cut log.entries) k [] =
      bytes_main log segment (omega (arith, is)) main ∙ ap (λ (n : ℕ). get_or (cut log.entries) n []) at in
      let all =
      groups_stored (stored backup) 1 groups.groups (subst (All (IsStored (stored backup))) (sym groups.places_are) ends_stored) k segment is in
      let size : length (get_or (cut log.entries) k []) ≤ length (stored backup segment) =
      subst (λ (segments : List (List ℕ)). length (get_or segments k []) ≤ length (stored backup segment)) (sym groups.spelled_are) all in
      let part = (kept.copies backup there).front segment in
      whole_part (get_or (cut log.entries) k []) (stored backup segment) part.more (sym bytes ∙ part.parts) size

  -- so the entries are read back
  pub entries_back : All IsLawfulEntry w.entries → (segments : ℕ → Option (List ℕ)) → ((number : ℕ) → stored_bytes (segments number) ≡ stored backup number) → stored_entries LAST_MAIN_SEGMENT segments ≡ w.entries
  entries_back lawful segments are = segments_back segments 1 LAST_MAIN_SEGMENT (cut log.entries)
      (cut_filled [] log.entries (λ k within. absurd (omega arith))) (omega (arith, few))
      (λ k number is within. are number ∙ main_whole k number is (omega (arith, is, within)))
      ∙ cut_again log.entries (recursion_from_All IsLawfulEntry log.entries (subst (All IsLawfulEntry) (sym kept.entries_are) lawful))
      ∙ kept.entries_are

-- ---- A side segment that every backup is known to hold is stored whole, and its items are read back.

-- the bytes of the items at a place
items_at : (sides : List (List Held)) (k : ℕ) → get_or (map (λ (items : List Held). spelled_all (as_entries items)) sides) k [] ≡ spelled_all (as_entries (get_or sides k []))
items_at [] k = sym spelled_none
items_at (items ∷ sides) zero = refl
items_at (items ∷ sides) (suc k) = items_at sides k

-- entries are read back from what spells them
entries_again : (list : List Entry) → All IsLawfulEntry list → entries_of (spelled_all list) ≡ list
entries_again list lawful =
    ap entries_of (sym (append-nil (spelled_all list))) ∙ all_again list [] (recursion_from_All IsLawfulEntry list lawful)
    ∙ ap (λ (more : List Entry). list ++ more) read_none ∙ append-nil list

-- a side segment that is stored has a side segment's number, and is among them
record IsSide (log : Log) (number : ℕ) : Type 0 where
  first : FIRST_SIDE_SEGMENT ≤ number
  within : number - FIRST_SIDE_SEGMENT < length log.sides

is_side : (log : Log) (number : ℕ) → is_side_stored log number ≡ true → IsSide log number
is_side log number stands = grind (arith, false≢true, is_whole, numbered_before, cases_lt, numbered_past)

module _ (log : Log) (w : Written) (stored : ℕ → ℕ → List ℕ) (kept : IsLog log w stored) (backup : ℕ) (there : IsBackup log backup) (few : length (cut log.entries) < FIRST_SIDE_SEGMENT) where
  -- its bytes are stored, which spell its items
  side_whole : (number : ℕ) → is_side_stored log number ≡ true → stored backup number ≡ spelled_all (as_entries (get_or w.sides (number - FIRST_SIDE_SEGMENT) []))
  side_whole number stands =
      let side = is_side log number stands in
      let k : ℕ = number - FIRST_SIDE_SEGMENT in
      let bytes : List ℕ = get_or log.sides k [] in
      let past = side.first in
      let found : segment_of number (side_segments log) ≡ Some (record { number = number; bytes = bytes }) =
      numbered_at number FIRST_SIDE_SEGMENT k log.sides (omega (arith, past)) side.within in
      let all_hold : list_all (λ (known : Known). is_whole known (record { number = number; bytes = bytes })) log.known ≡ true =
      ap (λ (o : Option NumberedBytes). option_map_or (λ segment. list_all (λ known. is_whole known segment) log.known) o false) (sym found) ∙ stands in
      let first = there.first in
      let last = there.last in
      let holds : length bytes ≤ known_length (known_of log backup) number =
      leb-true (length bytes) (known_length (known_of log backup) number)
      (list_all_each (λ (known : Known). is_whole known (record { number = number; bytes = bytes })) log.known (backup - 1) nothing all_hold (omega (arith, first, last))) in
      let bytes_are : bytes_of log number ≡ bytes = bytes_side log number few past ∙ ap bytes_in found in
      let copy = kept.copies backup there in
      let part = copy.front number in
      let told = copy.told number in
      whole_part bytes (stored backup number) part.more (sym bytes_are ∙ part.parts) (omega (arith, holds, told))
      ∙ ap (λ (sides : List (List ℕ)). get_or sides k []) kept.spelled ∙ items_at w.sides k

  -- so they are read back
  pub side_back : All IsLawfulHeld (flat_map (λ items. items) w.sides) → (number : ℕ) → is_side_stored log number ≡ true → entries_of (stored backup number) ≡ side_entries w.sides number
  side_back lawful number stands =
      let side = is_side log number stands in
      let items : List Held = get_or w.sides (number - FIRST_SIDE_SEGMENT) [] in
      let each : All IsLawfulEntry (as_entries items) = All-map IsLawfulEntry Entry.Held items
      (all_at IsLawfulHeld w.sides (number - FIRST_SIDE_SEGMENT) (all_groups IsLawfulHeld w.sides lawful)) in
      ap entries_of (side_whole number stands) ∙ entries_again (as_entries items) each
      ∙ sym (cond-false (nat_lt number FIRST_SIDE_SEGMENT) [] (as_entries items) (le-ltb number FIRST_SIDE_SEGMENT side.first))

-- ---- What counts of a log that is read back from where it is stored, once all of it is applied and nothing is marked, is what counts of
-- the applied entries.

module _ (log : Log) (w : Written) (stored : ℕ → ℕ → List ℕ) (kept : IsLog log w stored) (applied : length w.entries ≤ w.applied) (backup : ℕ) (there : IsBackup log backup) (few : length (cut log.entries) < FIRST_SIDE_SEGMENT) (lawful : All IsLawfulEntry w.entries) (lawful_items : All IsLawfulHeld (flat_map (λ items. items) w.sides)) (segments : ℕ → Option (List ℕ)) (are : (number : ℕ) → stored_bytes (segments number) ≡ stored backup number) where
  -- the side segments that entries name are read back
  sides_back : (range : Range) (list : List Entry) → All (λ entry. All (λ segment. is_side_stored log segment ≡ true) (segments_in entry)) list → flat_map (λ segment. entries_of (stored_bytes (segments segment))) (named range list) ≡ flat_map (side_entries w.sides) (named range list)
  sides_back range list held =
      flat_same (λ segment. entries_of (stored_bytes (segments segment))) (side_entries w.sides) (named range list)
      (λ number at.
      let by = named_from range list number at in
      let stands : is_side_stored log number ≡ true =
      All-contains (λ (segment : ℕ). is_side_stored log segment ≡ true) (segments_in by.0) number
      (All-contains (λ (entry : Entry). All (λ segment. is_side_stored log segment ≡ true) (segments_in entry)) list by.0 held by.1)
      (named_in range by.0 number by.2) in
      ap entries_of (are number) ∙ side_back log w stored kept backup there few lawful_items number stands)

  -- what is read back counts as what is applied does
  pub material_back : w.marks ≡ [] → (range : Range) (from : ℕ) → material_of range (λ segment. entries_of (stored_bytes (segments segment))) (drop from (stored_entries LAST_MAIN_SEGMENT segments)) ≡ log_material range w.marks w.sides from (applied_entries w)
  material_back none range from =
      let side : ℕ → List Entry = λ segment. entries_of (stored_bytes (segments segment)) in
      let behind : List Entry = drop from w.entries in
      let all : take w.applied w.entries ≡ w.entries = take_all w.applied w.entries applied in
      let read : stored_entries LAST_MAIN_SEGMENT segments ≡ w.entries =
      entries_back log w stored kept applied backup there few lawful segments are in
      let held =
      All-drop (λ (entry : Entry). All (λ segment. is_side_stored log segment ≡ true) (segments_in entry)) from w.entries kept.named in
      ap (λ (list : List Entry). material_of range side (drop from list)) read
      ∙ ap (λ (list : List Entry). counting range behind ++ counting range list) (sides_back range behind held)
      ∙ ap (material_of range (side_entries w.sides)) (sym (none_marked from behind))
      ∙ ap (λ (marks : List Mark). log_material range marks w.sides from w.entries) (sym none)
      ∙ ap (log_material range w.marks w.sides from) (sym all)

-- ---- In a quiet lane no log bears a mark and all of each owner's log is applied, so what a backup stores of a row is the row's truth.

-- ---- marks

-- a row that a living master owns has no mark
owned_unmarked : (crashed : List ℕ) {row : Row} {master : ℕ} {handover : Handover} {live : Bool} {written : Written} {mark : Mark} → IsOwnedLive crashed row.phase → MarkFits row master handover live written mark → ⊥
owned_unmarked crashed owned fits = subst (IsOwnedLive crashed) fits.rebuilt.2 owned

-- so no log has one, if each tablet of a mark has a row
unmarked : (crashed : List ℕ) (rows : List Row) (master : ℕ) (handovers : ℕ → Handover) (live : Bool) (written : Written) (marks : List Mark) → All (λ row. IsOwnedLive crashed row.phase) rows → All (λ mark. is_some (row_of rows mark.tablet) ≡ true) marks → All (λ row. All (λ mark. mark.tablet ≡ row.tablet → MarkFits row master (handovers row.tablet) live written mark) marks) rows → marks ≡ []
unmarked crashed rows master handovers live written [] owned known fit = refl
unmarked crashed rows master handovers live written (mark ∷ marks) owned known fit =
    let its = has_row rows mark.tablet (All-head (λ (mark : Mark). is_some (row_of rows mark.tablet) ≡ true) mark marks known) in
    let fits =
    All-head (λ (mark : Mark). mark.tablet ≡ its.row.tablet → MarkFits its.row master (handovers its.row.tablet) live written mark)
    mark marks
    (All-contains
    (λ (row : Row). All (λ mark. mark.tablet ≡ row.tablet → MarkFits row master (handovers row.tablet) live written mark) (mark ∷ marks))
    rows its.row fit its.stands) in
    absurd
    (owned_unmarked crashed (All-contains (λ (row : Row). IsOwnedLive crashed row.phase) rows its.row owned its.stands)
    (fits (sym its.tablet_is)))

-- ---- a quiet lane

module _ (w : World) (sessions : List Session) (sound : IsSound w) (formed : IsWellFormed w) (told : HasOwnBackups w) (quiet : IsQuiet w.coordinator.rows w.crashed (live_masters w) sessions) (few : (master : ℕ) → length (cut (log_in w master).entries) < FIRST_SIDE_SEGMENT) where
  abbrev rows : List Row
  rows = w.coordinator.rows

  no_marks : (master : ℕ) → (written_in w master).marks ≡ []
  no_marks master =
      unmarked w.crashed rows master ((view w).handovers master) ((view w).live master) (written_in w master) (written_in w master).marks
      quiet.owned (sound.cover.marks master) (sound.rebuilds.marks master)

  -- nothing is staged at a living master
  settled : EachIn (λ number master. has_crashed w number ≡ false → staged master ≡ []) w.masters
  settled = each_from_pairs (λ number master. has_crashed w number ≡ false → staged master ≡ []) w.masters
      (all_by (λ (pair : ℕ × Master). has_crashed w pair.0 ≡ false → staged pair.1 ≡ []) w.masters
      (λ pair at alive. All-contains (λ (entry : ℕ × Master). staged entry.1 ≡ []) (live_masters w) pair quiet.settled
      (stands_kept (λ (entry : ℕ × Master). not (has_crashed w entry.0)) w.masters pair at (ap not alive))))

  -- so all of its log is applied
  all_applied : (q : ℕ) → has_crashed w q ≡ false → length (written_in w q).entries ≤ (written_in w q).applied
  all_applied q alive = of_master w formed (λ m. length m.log.entries ≤ m.applied) q (omega arith)
      (λ m is its. omega (arith, ap length (settled q m is alive), length-drop m.applied m.log.entries))

  module _ (number : ℕ) (segments : Segments) (found : get w.backups number ≡ Some segments) where
    -- what the backup stores of a living master's log counts as what is applied does
    member_back : (range : Range) {master : ℕ} (from : ℕ) → IsMaster w.coordinator.masters master → has_crashed w master ≡ false → stored_material segments range (member master from) ≡ member_truth (written_in w) range (member master from)
    member_back range {master} from is_there alive =
        let one = told.numbered number segments found in
        let first = one.first in
        let last = one.last in
        let count = sound.nodes.known master is_there in
        let backed : IsBackup (log_in w master) number = record { first = first; last = omega (arith, last, count) } in
        material_back (log_in w master) (written_in w master) (stored_of (backup_at w) master) (sound.logs.each master)
        (all_applied master alive) number backed (few master) (entries_lawful w formed master) (items_lawful w formed master)
        (segments master)
        (λ segment. ap (λ (stored : Option Segments). stored_bytes (unwrap_or stored no_segments master segment)) (sym found))
        (no_marks master) range from

    -- so it is with the lineage of a row that a living master owns
    lineage_back : (range : Range) (phase : Phase) → IsOwnedLive w.crashed phase → ((master : ℕ) → names phase master ≡ true → IsMaster w.coordinator.masters master) → flat_map (stored_material segments range) (lineage_of phase) ≡ lineage_truth w.base (written_in w) range (lineage_of phase)
    lineage_back range (Owned master from) alive named =
        λ i. member_back range from (named master (eq-eqb master master refl)) alive i ++ []
    lineage_back range _ alive named = absurd alive

    -- what the backup stores represents the row
    row_stands : (row : Row) → Contains w.coordinator.rows row → StandsIn w row segments
    row_stands row has =
        let its = All-contains (λ (row : Row). IsTruth w.base row.range (truths (view w) row) w.ledger.journal) rows row sound.truth.true has in
        rw (lineage_back row.range row.phase (All-contains (λ (row : Row). IsOwnedLive w.crashed row.phase) rows row quiet.owned has)
        (λ master.
        All-contains (λ (row : Row). names row.phase master ≡ true → IsMaster w.coordinator.masters master) rows row
        (sound.nodes.named master) has))
        its.live

  -- all of them do for each
  pub quiet_stands : Stands w
  quiet_stands =
      all_by (λ (row : Row). All (λ (backup : ℕ × Segments). StandsIn w row backup.1) w.backups) w.coordinator.rows
      (λ row has. All_pairs (λ number segments. StandsIn w row segments) w.backups told.order
      (λ number segments found. row_stands number segments found row has))
