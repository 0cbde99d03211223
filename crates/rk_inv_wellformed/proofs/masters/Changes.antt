-- Small changes of a master, and what they leave well formed: of its tablets, its calls, its log and its records; what a tablet waits for
-- goes on, as it freezes or the closing entry of a target is appended; and the tablets that a master gives up.
use Rattle.std.proofs.Common.{◌≡◌, ◌≤◌, ◌<◌, ◌+◌, ◌-◌, ℕ, All, List, [], ◌∷◌, ◌++◌, length, flat_map, filter, not, sym, ap, subst, ◌∙◌}
use Rattle.std.proofs.Common.{arith, length-append, length-set, ◌==◌, ◌&&◌, Bool, false, true, cond, if◌then◌else◌, refl, w32}
use Rattle.std.proofs.Common.{unwrap_or, Option, None, Some, nat_lt}
use Rattle.rk_inv_wellformed.proofs.Words.{flat_map-append, get_or_past, cases_lt, cond_both, All-append, All-cons, All-filter, All-nil}
use Rattle.rk_inv_wellformed.proofs.Words.{All-push, All-set, each_insert, in_order_insert, EachIn, IsInOrder, NumberMap, insert, Call}
use Rattle.rk_inv_wellformed.proofs.Words.{Held, Range, spelled_all, Entry, IsInScanOrder, IsFormedCall, IsFormedMaster, IsFormedSide}
use Rattle.rk_inv_wellformed.proofs.Words.{IsFormedTablet, side_waits, side_waits_of, IsFormedEntry, IsFormedHeld, Limits, Master}
use Rattle.rk_inv_wellformed.proofs.Words.{tablet_at, with_all, with_appended, with_item, with_known, with_side_segment, with_tablet}
use Rattle.rk_inv_wellformed.proofs.Words.{without_items, as_entries, with_staged, Tablet, nothing, known_of, in_order_changed}
use Rattle.rk_inv_wellformed.proofs.Words.{changed_each, get, meets, IsNumber, Handover, given_up, with_others_given_up, is_absent}
use Rattle.rk_inv_wellformed.proofs.Words.{no_tablet, with_handover, without_merged, Role, recursion_from_All, spelled_count, frozen}
use Rattle.rk_inv_wellformed.proofs.Words.{in_role, joined, role_frozen, role_joined, all_going_on, closing_entry, freezing, going_on_in}
use Rattle.rk_inv_wellformed.proofs.Words.{is_sealed_stored, joined_entry, is_settled, joining_at, role_closed, role_granted, role_owned}
use Rattle.rk_inv_wellformed.proofs.Words.{role_released, map-append, order_after, order_without, is_in, with_newer, without, is_before}
use Rattle.rk_inv_wellformed.proofs.Words.{closing_appended}
use Rattle.rk_log.proofs.KnownLaws.{told_in_order}
use Rattle.rk_log.specs.Known.{told}
use Rattle.rk_inv_wellformed.proofs.masters.Tablets.{waits_inserted, IsFormedHandover, IsFormedRest, formed_pulling_from, formed_tablet}
use Rattle.rk_inv_wellformed.proofs.masters.Tablets.{handover_of, formed_in_role, none_waits, waits_changed, formed_with_handover}
use Rattle.rk_inv_wellformed.proofs.masters.Tablets.{none_waits_in}
use Rattle.rk_inv_wellformed.proofs.maps.{by_found, either_way, each_changed, all_front, all_last, fold_keeps_all}
use Rattle.rk_inv_wellformed.proofs.masters.MergedOnce.{none_twice}
use Rattle.rk_inv_wellformed.proofs.masters.Work.{counted_fits, AreLimits}
use Rattle.rk_inv_wellformed.proofs.bytes.EntryBytes.{FitsSegment}

-- ---- tablets

-- its tablets are so
pub formed_with_tablets : {limits : Limits} {number : ℕ} {master : Master} (tablets : NumberMap Tablet) → IsFormedMaster limits number master
    → IsInOrder tablets → EachIn (IsFormedTablet limits) tablets → side_waits tablets ≤ length master.log.sides
    → IsFormedMaster limits number (record master { tablets = tablets })
formed_with_tablets tablets formed order each few = assumption

-- one of its tablets is so, and there are side segments enough for what all wait for then
pub formed_with_waiting : {limits : Limits} {number : ℕ} {master : Master} {id : ℕ} {tablet : Tablet} → IsFormedMaster limits number master
    → IsFormedTablet limits id tablet → side_waits master.tablets + side_waits_of tablet ≤ length master.log.sides + side_waits_of (tablet_at master id)
    → IsFormedMaster limits number (with_tablet master id tablet)
formed_with_waiting {limits} {master} {id} {tablet} formed new few = formed_with_tablets
    (insert master.tablets id tablet) formed (in_order_insert master.tablets id tablet formed.tablets_order)
    (each_insert (IsFormedTablet limits) master.tablets id tablet formed.tablets new)
    (omega (arith, few, waits_inserted master id tablet formed.tablets_order))

-- one of its tablets is so, and waits for no more side segments than before
pub formed_with_tablet : {limits : Limits} {number : ℕ} {master : Master} {id : ℕ} {tablet : Tablet} → IsFormedMaster limits number master
    → IsFormedTablet limits id tablet → side_waits_of tablet ≤ side_waits_of (tablet_at master id)
    → IsFormedMaster limits number (with_tablet master id tablet)
formed_with_tablet formed new few = formed_with_waiting formed new (omega (arith, formed.waited, few))

-- ---- calls

-- the calls that wait are so
pub formed_with_calls : {limits : Limits} {number : ℕ} {master : Master} (calls : NumberMap Call) → IsFormedMaster limits number master
    → IsInOrder calls → EachIn (IsFormedCall limits (length master.log.entries)) calls → IsFormedMaster limits number (record master { calls = calls })
formed_with_calls calls formed order each = assumption

-- ---- the log

-- one more entry makes a log longer
longer_by : (entries : List Entry) (entry : Entry) → length entries + 1 ≡ length (entries ++ entry ∷ [])
longer_by entries entry = omega (arith, length-append entries (entry ∷ []))

-- an entry is put at the end of the log
pub formed_with_appended : {limits : Limits} {number : ℕ} {master : Master} (entry : Entry) → IsFormedMaster limits number master
    → IsFormedEntry limits entry → IsFormedMaster limits number (with_appended master entry)
formed_with_appended {limits} {master} entry formed new =
    let applied : master.applied ≤ length (master.log.entries ++ entry ∷ []) = omega (arith, formed.applied, longer_by master.log.entries entry) in
    let calls : EachIn (IsFormedCall limits (length (master.log.entries ++ entry ∷ []))) master.calls = λ place call found.
    let waits = formed.calls place call found in
    let within : place < length (master.log.entries ++ entry ∷ []) = omega (arith, waits.within, longer_by master.log.entries entry) in
    assumption waits in
    assumption (All-push (IsFormedEntry limits) master.log.entries entry formed.written new)

-- entries are put at the end of the log, one after the other
pub formed_with_all : {limits : Limits} {number : ℕ} (entries : List Entry) {master : Master} → IsFormedMaster limits number master
    → All (IsFormedEntry limits) entries → IsFormedMaster limits number (with_all master entries)
formed_with_all {limits} {number} entries {master} formed each =
    fold_keeps_all (IsFormedMaster limits number) (IsFormedEntry limits) with_appended entries master formed each
    (λ now entry before new. formed_with_appended entry before new)

-- a call waits for the entry that is appended with it
pub formed_with_staged : {limits : Limits} {number : ℕ} {master : Master} {call : Call} (entry : Entry) → IsFormedMaster limits number master
    → IsFormedCall limits (length (master.log.entries ++ entry ∷ [])) (length master.log.entries) call → IsFormedEntry limits entry
    → IsFormedMaster limits number (with_staged master call entry)
formed_with_staged {limits} {master} {call} entry formed waits new =
    let longer = formed_with_appended entry formed new in
    formed_with_calls (insert master.calls (length master.log.entries) call) longer
    (in_order_insert master.calls (length master.log.entries) call formed.calls_order)
    (each_insert (IsFormedCall limits (length (master.log.entries ++ entry ∷ []))) master.calls (length master.log.entries) call longer.calls waits)

-- what a backup is known to hold stays in order
known_order : {limits : Limits} {number : ℕ} {master : Master} (backup segment size : ℕ) → IsFormedMaster limits number master
    → IsInOrder (told (known_of master.log backup) segment size)
known_order {master} backup segment size formed = grind (arith, told_in_order, known_of, nothing, get_or_past, cases_lt)

-- a backup reported that it holds so many bytes of a segment
pub formed_with_known : {limits : Limits} {number : ℕ} {master : Master} (backup segment size : ℕ) → IsFormedMaster limits number master
    → IsFormedMaster limits number (with_known master backup segment size)
formed_with_known {master} backup segment size formed =
    assumption (
      length-set master.log.known (backup - 1) (told (known_of master.log backup) segment size) ∙ formed.known,
      All-set IsInOrder master.log.known (backup - 1) (told (known_of master.log backup) segment size) (known_order backup segment size formed) formed.lengths,
    )

-- a side segment with these items becomes known to the log
pub formed_with_side_segment : {limits : Limits} {number : ℕ} {master : Master} (items : List Held) → IsFormedMaster limits number master
    → IsFormedSide (spelled_all (as_entries items)) → All (IsFormedHeld limits) items → IsFormedMaster limits number (with_side_segment master items)
formed_with_side_segment {limits} {master} items formed side each =
    let bytes = spelled_all (as_entries items) in
    let waited : side_waits master.tablets ≤ length (master.log.sides ++ bytes ∷ []) =
    omega (arith, formed.waited, length-append master.log.sides (bytes ∷ [])) in
    assumption (
      ap (λ (sides : List (List ℕ)). sides ++ bytes ∷ []) formed.spelled
          ∙ sym (map-append (λ (items : List Held). spelled_all (as_entries items)) master.sides (items ∷ [])),
      All-push IsFormedSide master.log.sides bytes formed.sides side,
      subst (All (IsFormedHeld limits)) (sym (flat_map-append (λ (items : List Held). items) master.sides (items ∷ [])))
          (All-append (IsFormedHeld limits) (flat_map (λ items. items) master.sides) (items ++ []) formed.items
          (All-append (IsFormedHeld limits) items [] each (All-nil (IsFormedHeld limits)))),
    )

-- ---- records

-- items with one more that has what each has
pub each_with_newer : (P : Held → Type 0) (item : Held) (items : List Held) → All P items → P item → All P (with_newer item items)
each_with_newer P item items each new = cond_both _ _ _ (All P)
    (λ newer. All-append P (filter (λ other. is_before other item) items) (item ∷ filter (λ other. is_before item other) items)
    (All-filter (λ other. is_before other item) P items each) (All-cons P item (filter (λ other. is_before item other) items) new
    (All-filter (λ other. is_before item other) P items each)))
    (λ older. each)

-- a master with other records
formed_with_records : {limits : Limits} {number : ℕ} {master : Master} (records : List Held) → IsFormedMaster limits number master
    → All (IsFormedHeld limits) records → IsInScanOrder records → IsFormedMaster limits number (record master { records = records })
formed_with_records records formed each order = assumption

-- an item is put into the records
pub formed_with_item : {limits : Limits} {number : ℕ} {master : Master} {item : Held} → IsFormedMaster limits number master → IsFormedHeld limits item
    → IsFormedMaster limits number (with_item master item)
formed_with_item {limits} {master} {item} formed new =
    formed_with_records (with_newer item master.records) formed
    (each_with_newer (IsFormedHeld limits) item master.records formed.records new) (order_after item master.records formed.scanned)

-- the items of a range are dropped from the records
pub formed_without_items : {limits : Limits} {number : ℕ} {master : Master} (range : Range) → IsFormedMaster limits number master
    → IsFormedMaster limits number (without_items master range)
formed_without_items {limits} {master} range formed = formed_with_records (without range master.records) formed
    (All-filter (λ item. not (is_in range item)) (IsFormedHeld limits) master.records formed.records)
    (order_without range master.records formed.scanned)

-- a tablet of a well formed master that plays a part there is well formed
pub tablet_there : {limits : Limits} {number : ℕ} {master : Master} (tablet : ℕ) → is_absent (tablet_at master tablet).handover.role ≡ false
    → IsFormedMaster limits number master → IsFormedTablet limits tablet (tablet_at master tablet)
tablet_there {limits} {master} tablet there formed =
    by_found (λ found. is_absent (unwrap_or found no_tablet).handover.role ≡ false → IsFormedTablet limits tablet (unwrap_or found no_tablet))
    (get master.tablets tablet) (λ found role. absurd (cc role)) (λ it found role. formed.tablets tablet it found) there

-- a tablet with another handover and nothing gathered or merged
pub formed_moved : {limits : Limits} {number : ℕ} {tablet : Tablet} {handover : Handover} → IsNumber w32 1 number
    → IsFormedHandover limits tablet.pulling.source handover → IsFormedRest limits tablet
    → IsFormedTablet limits number (without_merged (with_handover tablet handover))
formed_moved {limits} {tablet} {handover} is new rest = grind (arith, formed_tablet, without_merged, with_handover, none_twice)

-- a tablet that is given up
formed_given_up : {limits : Limits} {number : ℕ} {tablet : Tablet} → IsFormedTablet limits number tablet → IsFormedTablet limits number (given_up tablet)
formed_given_up {limits} {tablet} formed =
    grind (arith, formed_tablet, given_up, formed_in_role, handover_of, formed_pulling_from, none_twice)

-- whether a tablet is another one than this, and its range meets this one
abbrev is_met : ℕ → Range → ℕ → Tablet → Bool
is_met number range other tablet = not (other == number) && meets tablet.handover.range range

-- it waits for no more side segments
given_up_waits : (it : Tablet) (met : Bool) → side_waits_of (cond met (given_up it) it) ≤ side_waits_of it
given_up_waits it true = none_waits Role.Absent [] _ (λ sealed. refl)
given_up_waits it false = omega arith

-- a master at which each other tablet whose range meets this one is given up
pub formed_others_given_up : {limits : Limits} {number : ℕ} {master : Master} (tablet : ℕ) (range : Range) → IsFormedMaster limits number master
    → IsFormedMaster limits number (with_others_given_up master tablet range)
formed_others_given_up {limits} {master} tablet range formed =
    let change : ℕ → Tablet → Tablet = λ other it. if is_met tablet range other it then given_up it else it in
    formed_with_tablets (changed_each change master.tablets) formed (in_order_changed change master.tablets formed.tablets_order)
    (each_changed (IsFormedTablet limits) (IsFormedTablet limits) change
    (λ other it fits. either_way (IsFormedTablet limits other) (is_met tablet range other it) (formed_given_up fits) fits)
    master.tablets formed.tablets)
    (omega (arith, formed.waited, waits_changed change (λ other it. given_up_waits it (is_met tablet range other it)) master.tablets))

-- ---- moves

-- what holds if no move is made, and of each role that it may lead to, holds of a move that is made if a test holds
pub moved_is : (P : Option Handover → Type 0) (test : Bool) (handover : Handover) (role : Option Role) → P None
    → ((r : Role) → role ≡ Some r → P (Some (record handover { role = r }))) → P (cond test (in_role handover role) None)
moved_is P test handover role none some = grind arith

-- a role after a move, and that the role before was not Absent
pub record IsAfter (role r after : Role) : Type 0 where
  pub now : r ≡ after
  pub there : is_absent role ≡ false

-- after a close
pub after_close : (role r : Role) → role_closed role ≡ Some r → IsAfter role r Role.Closing
after_close role r is = grind arith

-- after a grant
pub after_grant : (role r : Role) → role_granted role ≡ Some r → IsAfter role r Role.Receiving
after_grant (Role.Wanting from) r is = record { now = cc is; there = refl }
after_grant _ r is = absurd (cc is)

-- after a join
after_join : (entry : Option ℕ) (role r : Role) → role_joined entry role ≡ Some r → IsAfter role r (Role.Joining entry)
after_join entry role r is = grind arith

pub after_own : (applied : ℕ) (role r : Role) → role_owned applied role ≡ Some r → IsAfter role r Role.Serving
after_own applied role r is = grind (arith, nat_lt)

-- after a release
pub after_release : (role r : Role) → role_released role ≡ Some r → IsAfter role r Role.Absent
after_release Role.Frozen r is = record { now = cc is; there = refl }
after_release _ r is = absurd (cc is)

-- ---- what goes on

-- what has a property if nothing goes on has it whatever goes on, if each change that may be made gives it
module _ (P : Master → Type 0) (master : Master) (id : ℕ) (tablet : Tablet) (stays : P master) where
  -- a tablet that closes may freeze
  pub freezing_is : (handover : Handover) (term : ℕ)
      → ((r : Role) → r ≡ Role.Frozen → P (with_tablet master id (with_handover tablet (record handover { role = r }))))
      → P (freezing master id tablet (frozen handover term))
  freezing_is handover term freezes = grind (arith, moved_is, freezing, role_frozen, either_way, is_settled)

  -- a target may append its closing entry
  pub closing_is : (place : ℕ)
      → ((r : Role) → r ≡ Role.Joining (Some place) → P (closing_appended master id tablet (record tablet.handover { role = r })))
      → P (closing_entry master id tablet (joined tablet.handover tablet.handover.term (Some place)))
  closing_is place closes = grind (arith, moved_is, closing_entry, role_joined, after_join)

  -- or join without it
  pub joining_is : ((r : Role) → r ≡ Role.Joining None → P (with_tablet master id (with_handover tablet (record tablet.handover { role = r }))))
      → P (joining_at master id tablet (joined tablet.handover tablet.handover.term None))
  joining_is joins = moved_is (λ moved. P (joining_at master id tablet moved)) (tablet.handover.term == tablet.handover.term)
      tablet.handover (role_joined None tablet.handover.role) stays (λ r is. joins r (after_join None tablet.handover.role r is).now)

  -- what was waited for goes on, by the role
  pub going_on_in_is : (role : Role)
      → ((r : Role) → r ≡ Role.Frozen → P (with_tablet master id (with_handover tablet (record tablet.handover { role = r }))))
      → (role ≡ Role.Joining None → (r : Role) → r ≡ Role.Joining (Some (length master.log.entries))
      → P (closing_appended master id tablet (record tablet.handover { role = r })))
      → P (going_on_in master id tablet role)
  going_on_in_is role freezes closes = grind (arith, freezing_is, either_way, is_sealed_stored, closing_is)

-- ---- a master stays well formed

-- the entry that closes the role of a target, if it fits a segment
formed_joined_entry : {limits : Limits} {number : ℕ} {tablet : Tablet} → AreLimits limits → IsFormedTablet limits number tablet
    → FitsSegment (joined_entry tablet) → IsFormedEntry limits (joined_entry tablet)
formed_joined_entry {tablet} are formed fits = grind (arith, counted_fits, spelled_count, joined_entry, recursion_from_All, w32)

-- a tablet is frozen
pub formed_frozen : {limits : Limits} {number : ℕ} {master : Master} {id : ℕ} {tablet : Tablet} {handover : Handover} (r : Role) → r ≡ Role.Frozen
    → IsFormedMaster limits number master → IsFormedTablet limits id tablet → IsFormedHandover limits tablet.pulling.source handover
    → IsFormedMaster limits number (with_tablet master id (with_handover tablet (record handover { role = r })))
formed_frozen r is formed there new =
    formed_with_tablet formed (formed_with_handover there (formed_in_role r Role.Frozen is refl refl new))
    (none_waits_in r Role.Frozen _ _ is (λ sealed. refl))

-- a target has its closing entry, if each entry of its log fits then
pub formed_closed : {limits : Limits} {number : ℕ} {master : Master} {id : ℕ} {tablet : Tablet} {place : ℕ} (r : Role) → r ≡ Role.Joining (Some place)
    → AreLimits limits → IsFormedMaster limits number master → IsFormedTablet limits id tablet
    → All FitsSegment (master.log.entries ++ joined_entry tablet ∷ [])
    → IsFormedMaster limits number (closing_appended master id tablet (record tablet.handover { role = r }))
formed_closed {master} {tablet} {place} r is are formed there fits =
    formed_with_appended (joined_entry tablet)
    (formed_with_tablet formed (formed_with_handover there (formed_in_role r (Role.Joining (Some place)) is refl refl (handover_of there)))
    (none_waits_in r (Role.Joining (Some place)) _ _ is (λ sealed. refl)))
    (formed_joined_entry are there (all_last FitsSegment master.log.entries (joined_entry tablet) fits))

-- what was waited for goes on, at each of these tablets
pub formed_going_on : {limits : Limits} {number : ℕ} (tablets : NumberMap Tablet) {master : Master} → AreLimits limits
    → IsFormedMaster limits number master → All (λ entry. IsFormedTablet limits entry.0 entry.1) tablets
    → All FitsSegment (all_going_on master tablets).log.entries → IsFormedMaster limits number (all_going_on master tablets)
formed_going_on {limits} {number} tablets {master} are formed each fits =
    fold_keeps_all Fits (λ entry. IsFormedTablet limits entry.0 entry.1) (λ now entry. going_on_in now entry.0 entry.1 entry.1.handover.role)
    tablets master (λ fit. formed) each
    (λ now entry before held. going_on_in_is Fits now entry.0 entry.1 before entry.1.handover.role
    (λ r is fit. formed_frozen r is (before fit) held (handover_of held))
    (λ joins r is fit.
    formed_closed r is are (before (all_front FitsSegment now.log.entries (joined_entry entry.1 ∷ []) fit)) held fit))
    fits
  where
    Fits : Master → Type 0
    Fits now = All FitsSegment now.log.entries → IsFormedMaster limits number now
