-- What a pull makes of a master, at the place of its tablet.
use Rattle.rk_master.proofs.Words.{◌≡◌, ℕ, zero, suc, ◌+◌, ◌<◌, ◌≤◌, Bool, true, false, eqb, ◌&&◌, T, List, [], ◌∷◌, ◌++◌, length, map}
use Rattle.rk_master.proofs.Words.{fold, get_or, set, slice_get, Option, Some, None, unwrap_or, refl, sym, ap, ◌∙◌, subst, append_assoc}
use Rattle.rk_master.proofs.Words.{arith, w32, w64, option_map, All, range_with_len, nat_cmp, is_lt, below_all, cond-false, cond-true}
use Rattle.rk_master.proofs.Words.{false≢true, append-nil, slice_get-get_or, All-head, All-tail, IsInOrder, get, insert, Held, get_same}
use Rattle.rk_master.proofs.Words.{Range, IsLawfulRange, IsLawfulEntry, IsLawfulHeld, IsNumber, FIRST_SIDE_SEGMENT, Log, with_entry, joined}
use Rattle.rk_master.proofs.Words.{Role, Replayed, side_replayed, bytes_in, spelled_items, is_batch, items_of, Master, tablet_at}
use Rattle.rk_master.proofs.Words.{with_tablet, Tablet, no_tablet, with_handover, joined_entry, changed, TabletLane, AreTablets, can_close}
use Rattle.rk_master.proofs.Words.{IsClosable, tablet_of, tablets_of, IsAt, Row, with_side, with_sides, AreSpelled, IsSpelled}
use Rattle.rk_master.proofs.Words.{items_of_sides}
use Rattle.std.proofs.Common.{◌%◌}
use Rattle.std.specs.Prelude.{nat_eq}
use Rattle.std.specs.List.{AllByRecursion, IsDistinct}
use Rattle.std.specs.FinMap.{is_sorted}
use Rattle.std.proofs.lemmas.Bool.{eqb-true, ne_eqb}
use Rattle.std.proofs.lemmas.List.{length-map, map-append}
use Rattle.std.proofs.lemmas.List.FromFn.{length-range_with_len}
use Rattle.std.proofs.lemmas.List.Elements.{All-append, All-map}
use Rattle.std.proofs.Math.Seq.{map-set_same}
use Rattle.rk_types.specs.declared.held.Token.{Token}
use Rattle.rk_entry.specs.Lawful.{IsLawfulJoined}
use Rattle.rk_segment.specs.Segment.{NumberedBytes}
use Rattle.rk_transfer.specs.declared.role.Role.TheVariants as roles
use Rattle.rk_side_log.proofs.CutItems.{sealed_lawful}
use Rattle.rk_side_log.proofs.Filled.{items_spelled}
use Rattle.rk_side_log.proofs.Masters.{insert_twice, replay_is}
use Rattle.rk_message.specs.declared.pulling.Got.{Got}
use Rattle.rk_message.specs.declared.pulling.Pulled.{Pulled}
use Rattle.rk_table.specs.Scans.{end}
use Rattle.rk_world.specs.Master.{with_side_segment}
use Rattle.rk_world.specs.Pulls.{batch_taken, got_taken, hashes_resolved, is_token, joining_by, pulled_taken, replay, sealing, token_passed}
use Rattle.rk_world.specs.RoleTests.{is_receiving}
use Rattle.rk_world.specs.SideLogs.{sealed_sides}
use Rattle.rk_master.specs.declared.pulled.TheConstants.{MOST_SEALED}
use Rattle.rk_tablet.specs.Pulls.{asked_for, awaits, no_sides, with_resolved, with_sealed, with_token}
use Rattle.rk_master.specs.Pulls.{CanClose, DoesPull}
use Rattle.rk_master.specs.Sides.{side_items}
use Rattle.rk_master.proofs.Closable.{closable_at, closing_joined}
use Rattle.rk_master.proofs.Handovers.{changed_read, set_there, tablet_read, with_rows}
use Rattle.rk_types.proofs.Places.{get_at}
use Rattle.rk_master.proofs.Places.{get_tablet, row_there}
use Rattle.rk_master.proofs.Sides.{spelled_so}

-- ---- the tablets as a map

-- a number is below those of the tablets just if it is below those of the rows
below_tablets : (number : ℕ) (rows : List Row) → below_all nat_cmp number (tablets_of rows) ≡ below_all nat_cmp number rows
below_tablets number [] = refl
below_tablets number (row ∷ rows) = ap (λ (b : Bool). is_lt (nat_cmp number row.0) && b) (below_tablets number rows)

sorted_tablets : (rows : List Row) → is_sorted nat_cmp (tablets_of rows) ≡ is_sorted nat_cmp rows
sorted_tablets [] = refl
sorted_tablets (row ∷ rows) = λ i. below_tablets row.0 rows i && sorted_tablets rows i

-- the tablets are by rising number
pub order_tablets : (rows : List Row) → IsInOrder rows → IsInOrder (tablets_of rows)
order_tablets rows order = subst T (sym (sorted_tablets rows)) order

-- the tablet that is read at its place is found
pub found_read : (rows : List Row) (number i : ℕ) (read : Row) → IsInOrder rows → IsAt number rows i → read ≡ get_or rows i read → get (tablets_of rows) number ≡ Some (tablet_of read.1)
found_read rows number i read order at is =
    get_tablet rows number ∙ ap (option_map tablet_of) (get_at number rows i read order at) ∙ ap (λ (r : Row). Some (tablet_of r.1)) (sym is)

-- a tablet that is put is what the master has
pub put_there : (master : Master) (number : ℕ) (tablet : Tablet) → tablet_at (with_tablet master number tablet) number ≡ tablet
put_there master number tablet = ap (λ (o : Option Tablet). unwrap_or o no_tablet) (get_same master.tablets number tablet number refl)

-- and if it is changed, the changed one is put in its place
pub put_again : (master : Master) (number : ℕ) (tablet : Tablet) (change : Tablet → Tablet) → IsInOrder master.tablets
    → with_tablet (with_tablet master number tablet) number (change (tablet_at (with_tablet master number tablet) number)) ≡ with_tablet master number (change tablet)
put_again master number tablet change order = grind (arith, with_tablet, put_there, insert_twice)

-- a tablet that stays leaves the tablets as they are
pub same_tablets : (rows : List Row) (i : ℕ) (read : Row) (lane : TabletLane) → read ≡ get_or rows i read → tablet_of lane ≡ tablet_of read.1 → tablets_of (set rows i (read.0, lane)) ≡ tablets_of rows
same_tablets rows i read lane is same =
    map-set_same (λ (r : Row). (r.0, tablet_of r.1)) rows i (read.0, lane) read ((λ j. (read.0, same j)) ∙ ap (λ (r : Row). (r.0, tablet_of r.1)) is)

-- ---- what is replayed

-- items are replayed at the tablet that is read at its place
replayed_there : (master : Master) (rows : List Row) (number i worker : ℕ) (read : Row) (items : List Held) → IsInOrder rows → IsAt number rows i → read ≡ get_or rows i read → worker < length read.1.sides
    → replay (with_rows master rows) number worker items
    ≡ with_tablet (record (with_rows master rows) { records = (side_replayed master.records (get_or read.1.sides worker []) items).records }) number
    (with_side (tablet_of read.1) worker (side_replayed master.records (get_or read.1.sides worker []) items).items)
replayed_there master rows number i worker read items order at is within =
    replay_is (with_rows master rows) number worker (tablet_of read.1) items (order_tablets rows order) (found_read rows number i read order at is) within

-- a target that replayed a batch, and whose token moved on
pub batch_made : (master : Master) (records : List Held) (rows : List Row) (number i worker : ℕ) (read : Row) (lane : TabletLane) (items : List Held) (next : Token)
    → IsInOrder rows → IsAt number rows i → read ≡ get_or rows i read → worker < length read.1.sides
    → records ≡ (side_replayed master.records (get_or read.1.sides worker []) items).records
    → tablet_of lane ≡ with_token (with_side (tablet_of read.1) worker (side_replayed master.records (get_or read.1.sides worker []) items).items) next
    → with_rows (record master { records = records }) (set rows i (read.0, lane)) ≡ token_passed (replay (with_rows master rows) number worker items) number next
batch_made master records rows number i worker read lane items next order at is within records_are lane_is =
    let made : Replayed = side_replayed master.records (get_or read.1.sides worker []) items in
    let tablets = changed_read rows number i read lane order at is ∙ ap (insert (tablets_of rows) number) lane_is in
    (λ j. record master { records = records_are j; tablets = tablets j })
    ∙ sym (put_again (record (with_rows master rows) { records = made.records }) number (with_side (tablet_of read.1) worker made.items) (λ t. with_token t next) (order_tablets rows order))
    ∙ ap (λ (m : Master). token_passed m number next) (sym (replayed_there master rows number i worker read items order at is within))

-- a target that replayed the items that it asked for first
pub got_made : (master : Master) (records : List Held) (rows : List Row) (number i : ℕ) (read : Row) (lane : TabletLane) (items : List Held) (hashes : List ℕ)
    → IsInOrder rows → IsAt number rows i → read ≡ get_or rows i read → 0 < length read.1.sides
    → records ≡ (side_replayed master.records (get_or read.1.sides 0 []) items).records
    → tablet_of lane ≡ with_side (with_resolved (tablet_of read.1) hashes) 0 (side_replayed master.records (get_or read.1.sides 0 []) items).items
    → with_rows (record master { records = records }) (set rows i (read.0, lane)) ≡ hashes_resolved (replay (with_rows master rows) number 0 items) number hashes
got_made master records rows number i read lane items hashes order at is within records_are lane_is =
    let made : Replayed = side_replayed master.records (get_or read.1.sides 0 []) items in
    let tablets = changed_read rows number i read lane order at is ∙ ap (insert (tablets_of rows) number) lane_is in
    (λ j. record master { records = records_are j; tablets = tablets j })
    ∙ sym (put_again (record (with_rows master rows) { records = made.records }) number (with_side (tablet_of read.1) 0 made.items) (λ t. with_resolved t hashes) (order_tablets rows order))
    ∙ ap (λ (m : Master). hashes_resolved m number hashes) (sym (replayed_there master rows number i 0 read items order at is within))

-- ---- what is sealed

-- side segments are added one after the other
pub added_all : (master : Master) (lists : List (List Held))
    → fold with_side_segment master lists ≡ record master { log = with_sides master.log (map spelled_items lists); sides = master.sides ++ lists }
added_all master [] = grind (arith, append-nil, with_sides, master.sides, master.log, master.log.sides)
added_all master (items ∷ lists) =
    grind (arith, append_assoc, (added_all (with_side_segment master items) lists))

-- the items that they spell
sides_again : (lists : List (List Held)) → All (All IsLawfulHeld) lists → items_of_sides (map spelled_items lists) ≡ lists
sides_again [] lawful = refl
sides_again (items ∷ lists) lawful =
    λ i. items_spelled items (All-head (All IsLawfulHeld) items lists lawful) i ∷ sides_again lists (All-tail (All IsLawfulHeld) items lists lawful) i

-- the items of all side segments then
pub sides_added : (log : Log) (lists : List (List Held)) → All (All IsLawfulHeld) lists
    → items_of_sides (with_sides log (map spelled_items lists)).sides ≡ items_of_sides log.sides ++ lists
sides_added log lists lawful =
    map-append side_items log.sides (map spelled_items lists) ∙ ap (λ (l : List (List Held)). items_of_sides log.sides ++ l) (sides_again lists lawful)

-- and all of them spell items
pub spelled_added : (log : Log) (lists : List (List Held)) → All (All IsLawfulHeld) lists → AreSpelled log.sides → AreSpelled (with_sides log (map spelled_items lists)).sides
spelled_added log lists lawful before =
    All-append IsSpelled log.sides (map spelled_items lists) before (All-map IsSpelled spelled_items lists (λ k d within. spelled_so (get_or lists k d) (lawful k d within)))

-- the side logs of the tablet at a place became side segments
pub sealing_made : (master : Master) (log : Log) (rows : List Row) (number i : ℕ) (read : Row) (lane : TabletLane) (segments : List NumberedBytes) (numbers : List ℕ)
    → IsInOrder rows → IsAt number rows i → read ≡ get_or rows i read → master.sides ≡ items_of_sides master.log.sides → All (All IsLawfulHeld) read.1.sides
    → bytes_in segments ≡ map spelled_items (sealed_sides read.1.sides) → log ≡ with_sides master.log (bytes_in segments)
    → numbers ≡ range_with_len (FIRST_SIDE_SEGMENT + length master.log.sides) (length segments)
    → tablet_of lane ≡ with_sealed (tablet_of read.1) no_sides numbers
    → with_rows (record master { log = log; sides = items_of_sides log.sides }) (set rows i (read.0, lane)) ≡ sealing (with_rows master rows) number (tablet_at (with_rows master rows) number)
sealing_made master log rows number i read lane segments numbers order at is sides_here lawful bytes log_is numbers_is lane_is =
    grind (arith, sides_added, sealed_lawful, length-map, changed_read, added_all, tablet_read)

-- ---- what closes the role then

apart : (x a n : ℕ) → x < a → AllByRecursion (λ (y : ℕ). eqb x y ≡ false) (range_with_len a n)
apart x a zero less = tt
apart x a (suc n) less = (ne_eqb x a (λ same. absurd (omega (arith, less, same))), apart x (a + 1) n (omega (arith, less)))

-- numbers that follow one another are distinct
pub distinct_numbers : (a n : ℕ) → IsDistinct nat_eq (range_with_len a n)
unfolding IsDistinct
distinct_numbers a zero = tt
distinct_numbers a (suc n) = (apart a (a + 1) n (omega arith), distinct_numbers (a + 1) n)

-- a target that pulls has a range and a term that can be spelled
pub names_itself : (tablet : Tablet) → tablet.handover.role ≡ roles.Receiving → IsClosable tablet → IsLawfulRange tablet.handover.range × IsNumber w64 1 tablet.handover.term
names_itself tablet role closable = subst (λ (r : Role). can_close r (closing_joined tablet)) role closable

-- the entry that names these side segments can be spelled
pub joined_lawful : (range : Range) (term first count : ℕ) (numbers : List ℕ) → IsLawfulRange range × IsNumber w64 1 term → numbers ≡ range_with_len first count → count ≤ MOST_SEALED
    → AllByRecursion (IsNumber w32 FIRST_SIDE_SEGMENT) numbers → IsLawfulJoined (record { range = range; term = term; segments = numbers })
joined_lawful range term first count numbers named is few each = grind (arith, length-range_with_len, distinct_numbers)

-- ---- the tablet at a place

-- the row that is read is there
pub read_there : (rows : List Row) (i : ℕ) (read : Row) → i < length rows → read ≡ get_or rows i read → slice_get rows i ≡ Some read
read_there rows i read within is = slice_get-get_or rows i read within ∙ ap Some (sym is)

-- a tablet that pulls does so still if its handover stays
pub pulls_still : (rows : List Row) (i : ℕ) (read : Row) (lane : TabletLane) → i < length rows → read ≡ get_or rows i read → DoesPull rows i → lane.handover ≡ read.1.handover
    → DoesPull (set rows i (read.0, lane)) i
pulls_still rows i read lane within is pulls same = grind (arith, read_there, set_there, read.0)

-- the role of the tablet that is read can be closed
pub closable_read : (rows : List Row) (i : ℕ) (read : Row) → i < length rows → read ≡ get_or rows i read → AreTablets rows → IsClosable (tablet_of read.1)
closable_read rows i read within is tablets = subst (λ (r : Row). IsClosable (tablet_of r.1)) (sym is) (closable_at rows i read within tablets.closable)

-- the entry that closes the role of the tablet that was put at a place can be spelled
pub closes_set : (rows : List Row) (i : ℕ) (new : Row) → i < length rows → IsLawfulEntry (joined_entry (tablet_of new.1)) → CanClose (set rows i new) i
closes_set rows i new within lawful = grind (arith, joined_entry, tablet_of, set_there)

-- ---- what a target does that has all

-- some numbers are not none
pub some_sealed : (numbers : List ℕ) → eqb (length numbers) 0 ≡ false → numbers ≡ [] → ⊥
some_sealed numbers some none = false≢true (sym some ∙ ap (λ (l : List ℕ). eqb (length l) 0) none)

-- and none are none
pub none_sealed : (numbers : List ℕ) → eqb (length numbers) 0 ≡ true → numbers ≡ []
none_sealed [] none = refl
none_sealed (number ∷ numbers) none = grind (arith, eqb-true)

-- the tablet at a place waits
pub waits_made : (master : Master) (rows : List Row) (number i : ℕ) (read : Row) (lane : TabletLane) → IsInOrder rows → IsAt number rows i → read ≡ get_or rows i read
    → (read.1.sealed ≡ [] → ⊥) → joined read.1.handover read.1.handover.term None ≡ Some lane.handover → tablet_of lane ≡ with_handover (tablet_of read.1) lane.handover
    → with_rows master (set rows i (read.0, lane))
    ≡ joining_by (with_rows master rows) number (tablet_at (with_rows master rows) number) (tablet_at (with_rows master rows) number).pulling.sealed
waits_made master rows number i read lane order at is some moved lane_is =
    grind (arith, changed_read, insert, tablets_of, with_rows, tablet_of, tablet_read)

-- the tablet at a place appends its closing entry
pub closes_made : (master : Master) (log : Log) (rows : List Row) (number i : ℕ) (read : Row) (lane : TabletLane)
    → master.sides ≡ items_of_sides master.log.sides → IsInOrder rows → IsAt number rows i → read ≡ get_or rows i read
    → read.1.sealed ≡ [] → joined read.1.handover read.1.handover.term (Some (length master.log.entries)) ≡ Some lane.handover
    → tablet_of lane ≡ with_handover (tablet_of read.1) lane.handover → log ≡ with_entry master.log (joined_entry (tablet_of read.1))
    → with_rows (record master { log = log; sides = items_of_sides log.sides }) (set rows i (read.0, lane))
    ≡ joining_by (with_rows master rows) number (tablet_at (with_rows master rows) number) (tablet_at (with_rows master rows) number).pulling.sealed
closes_made master log rows number i read lane here order at is none moved lane_is log_is =
    grind (arith, items_of_sides, changed_read, insert, tablets_of, with_rows, tablet_of, tablet_read)

-- ---- a Pulled

-- a role that pulls
receives : (role : Role) (b c : Bool) → ((is_receiving role && b) && c) ≡ true → role ≡ roles.Receiving
receives role b c e = grind (arith, false≢true)

-- a tablet that awaits a batch pulls
pub awaits_pulls : (rows : List Row) (i : ℕ) (read : Row) (pulled : Pulled) → i < length rows → read ≡ get_or rows i read → awaits (tablet_of read.1) pulled ≡ true → DoesPull rows i
awaits_pulls rows i read pulled within is yields = grind (arith, row_there, receives, eqb)

-- a batch that is not awaited changes nothing
pub pulled_failed : (master : Master) (pulled : Pulled) (tablet : Tablet) → tablet_at master pulled.tenure.tablet ≡ tablet → awaits tablet pulled ≡ false → changed master ≡ pulled_taken master pulled
pulled_failed master pulled tablet there failed = grind (arith, cond-false, tablet_at, changed)

-- a batch that is awaited is taken
pub pulled_made : (master now : Master) (pulled : Pulled) (tablet : Tablet) → tablet_at master pulled.tenure.tablet ≡ tablet → awaits tablet pulled ≡ true
    → now ≡ batch_taken master pulled.tenure.tablet pulled → changed now ≡ pulled_taken master pulled
pulled_made master now pulled tablet there yields is = grind (arith, changed, cond-true, tablet_at)

-- what a batch makes before its tablet may have all
abbrev pub passed_by : Master → ℕ → List Held → Token → Master
passed_by master number items next = token_passed (replay master number ((tablet_at master number).pulling.batches % 4) items) number next

-- a batch that is not the last one
pub batch_more : (master now : Master) (number : ℕ) (items : List Held) (pulled : Pulled) → items ≡ items_of pulled.entries → now ≡ passed_by master number items pulled.next
    → is_token pulled.next end ≡ false → now ≡ batch_taken master number pulled
batch_more master now number items pulled items_are is more = grind (arith, items_of, cond-false)

-- the last one
pub batch_last : (master now sealed done : Master) (number : ℕ) (items : List Held) (pulled : Pulled) → items ≡ items_of pulled.entries → now ≡ passed_by master number items pulled.next
    → is_token pulled.next end ≡ true → sealed ≡ sealing now number (tablet_at now number)
    → done ≡ joining_by sealed number (tablet_at sealed number) (tablet_at sealed number).pulling.sealed → done ≡ batch_taken master number pulled
batch_last master now sealed done number items pulled items_are is last sealed_is done_is = grind (arith, items_of, tablet_at, cond-true)

-- ---- a Got

-- a Got that was not asked for changes nothing
pub got_failed : (master : Master) (message : Got) (tablet : Tablet) → tablet_at master message.tenure.tablet ≡ tablet → asked_for tablet message ≡ false → changed master ≡ got_taken master message
got_failed master message tablet there failed = grind (arith, cond-false, tablet_at, changed, items_of)

-- a Got that was asked for
pub got_resolved : (master now : Master) (message : Got) (tablet : Tablet) (items : List Held) → tablet_at master message.tenure.tablet ≡ tablet → asked_for tablet message ≡ true
    → items ≡ items_of message.entries → now ≡ hashes_resolved (replay master message.tenure.tablet 0 items) message.tenure.tablet message.hashes → changed now ≡ got_taken master message
got_resolved master now message tablet items there yields items_are is = grind (arith, changed, cond-true, tablet_at, items_of)

-- other hashes than those that were asked for leave the tablet as it is
pub not_resolved : (tablet : Tablet) (hashes : List ℕ) → is_batch tablet.pulling.hashes.outstanding hashes ≡ false → with_resolved tablet hashes ≡ tablet
not_resolved tablet hashes failed = grind (arith, cond-false, is_batch)
