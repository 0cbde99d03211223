-- What a rebuild does: how it begins, how it goes on, and how it closes.
use Rattle.rk_master.proofs.Words.{◌≡◌, ℕ, suc, ◌<◌, ◌≤◌, Bool, true, false, cond, eqb, ltb, List, [], ◌∷◌, ◌++◌, fold, drop, map, length}
use Rattle.rk_master.proofs.Words.{length-append, Option, Some, None, is_some, unwrap_or, append_assoc, get_or, set, refl, sym, ap, ◌∙◌}
use Rattle.rk_master.proofs.Words.{subst, arith, All, list_all, IsSome, cond-true, eq-eqb, false≢true, append-nil, All-head, All-tail}
use Rattle.rk_master.proofs.Words.{NumberMap, IsInOrder, get, insert, get_same, in_order_insert, Held, Range, IsLawfulEntry, IsLawfulHeld}
use Rattle.rk_master.proofs.Words.{Entry, Log, with_entry, Handover, Role, is_above, Master, tablet_at, as_entries, is_gathering, Tablet}
use Rattle.rk_master.proofs.Words.{no_tablet, pulling_from, with_handover, without_merged, changed, Work, AreClosable, IsClosable}
use Rattle.rk_master.proofs.Words.{can_close, changing, given_up_but, marks_of, tablet_in, tablet_of, tablets_of, worked_of, CanBeSpelled}
use Rattle.rk_master.proofs.Words.{own_counted, with_gather, with_items, items_of_sides, TabletLane, IsAt, Row}
use Rattle.std.specs.Bool.{OnTrue, OnFalse}
use Rattle.std.proofs.lemmas.Bool.{lt-ltb}
use Rattle.std.proofs.lemmas.List.{set-get_or}
use Rattle.std.proofs.lemmas.List.Elements.{All-nil, All-cons}
use Rattle.rk_types.proofs.NumberMaps.{get_insert, same_map}
use Rattle.rk_types.specs.declared.lineage.Member.{Member}
use Rattle.rk_entry.specs.declared.entry.Entry.TheVariants as entries
use Rattle.rk_transfer.specs.Handover.{carried, rebuilt, role_carried}
use Rattle.rk_transfer.specs.declared.role.Role.TheVariants as roles
use Rattle.rk_message.specs.declared.rebuilding.CopySegment.{CopySegment}
use Rattle.rk_message.specs.declared.rebuilding.Rebuild.{Rebuild}
use Rattle.rk_world.specs.declared.work.Merged.{Merged}
use Rattle.rk_world.specs.declared.work.Mark.{Mark}
use Rattle.rk_world.specs.declared.work.Reading.{Reading}
use Rattle.rk_world.specs.Gather.{Gather, gather_begun, next_reading}
use Rattle.rk_world.specs.Handovers.{with_others_given_up}
use Rattle.rk_world.specs.Lineage.{own_member}
use Rattle.rk_world.specs.Master.{with_all, with_appended}
use Rattle.rk_world.specs.Material.{material_of, side_entries}
use Rattle.rk_world.specs.Rebuilds.{begun_from, copy_taken, merged_at, merging, own_material, own_place, rebuild_begun, rebuild_goes_on, rebuild_taken, rebuilding_on, rebuilt_entry, segment_gathered, with_begun, with_gathered, with_merged, without_foreign}
use Rattle.rk_tablet.specs.Rebuilding.{gathered_from, is_awaiting, merged_with}
use Rattle.rk_master.proofs.Closable.{closable_at}
use Rattle.rk_master.proofs.Handovers.{changed_read, kept_itself, stays_itself, tablet_read, with_rows}
use Rattle.rk_master.proofs.Places.{there_too}

-- ---- whether it goes on

pub stays_so : (master : Master) (number : ℕ) (tablet : Tablet) → tablet_at master number ≡ tablet → gathered_from tablet.handover.role (next_reading tablet.gather) ≡ None
    → changed master ≡ rebuild_goes_on master number
stays_so master number tablet there none = grind (arith, tablet_at, as_entries, eqb)

-- what has gathered all from a place on is a rebuild without its closing entry, which has nothing to read
has_gathered : (role : Role) (reading : Option Reading) (from : ℕ) → gathered_from role reading ≡ Some from → (role ≡ roles.Rebuilding from None) × (reading ≡ None)
has_gathered role reading from e = grind arith

-- so it is gathering
pub is_gathering_so : (role : Role) (reading : Option Reading) (from : ℕ) → gathered_from role reading ≡ Some from → is_gathering role ≡ true
is_gathering_so role reading from is = ap is_gathering (has_gathered role reading from is).0

-- and its own log counts from there
pub own_place_so : (role : Role) (reading : Option Reading) (from : ℕ) → gathered_from role reading ≡ Some from → own_place role ≡ from
own_place_so role reading from is = ap own_place (has_gathered role reading from is).0

-- what has gathered all merges
pub merges_so : (master : Master) (number : ℕ) (tablet : Tablet) (from : ℕ) (merged : Merged) → tablet_at master number ≡ tablet
    → gathered_from tablet.handover.role (next_reading tablet.gather) ≡ Some from → merged ≡ merged_with tablet (own_material master tablet)
    → rebuild_goes_on master number ≡ merged_at master number tablet merged
merges_so master number tablet from merged there is merged_is =
    (λ i. rebuilding_on master number (next_reading (there i).gather))
    ∙ ap (rebuilding_on master number) (has_gathered tablet.handover.role (next_reading tablet.gather) from is).1
    ∙ (λ i. merged_at master number (there i) (merged_with (there i) (own_material master (there i))))
    ∙ ap (merged_at master number tablet) (sym merged_is)

-- so it goes on with what was merged of the own log
pub goes_on_so : (master : Master) (number : ℕ) (tablet : Tablet) (from : ℕ) (merged : Merged) → master.sides ≡ items_of_sides master.log.sides → tablet_at master number ≡ tablet
    → gathered_from tablet.handover.role (next_reading tablet.gather) ≡ Some from → merged ≡ merged_with tablet (own_counted master.log tablet.handover.range from)
    → rebuild_goes_on master number ≡ merged_at master number (tablet_at master number) merged
goes_on_so master number tablet from merged here there is merged_is =
    let place : own_place tablet.handover.role ≡ from = own_place_so tablet.handover.role (next_reading tablet.gather) from is in
    merges_so master number tablet from merged there is
    (merged_is ∙ (λ i. merged_with tablet (material_of tablet.handover.range (side_entries (sym here i)) (drop (sym place i) master.log.entries))))
    ∙ ap (λ (t : Tablet). merged_at master number t merged) (sym there)

-- ---- a segment is gathered

-- a target whose handover and whose sealed segments stay can be closed as before
pub closable_same : (rows : List Row) (i : ℕ) (read : Row) (lane : TabletLane) → i < length rows → read ≡ get_or rows i read → AreClosable (tablets_of rows)
    → lane.handover ≡ read.1.handover → lane.sealed ≡ read.1.sealed → IsClosable (tablet_of lane)
closable_same rows i read lane within is closable handover sealed = grind (arith, can_close, tablet_of, closable_at)

-- a tablet that is as it was leaves the tablets as they were
tablets_same : (rows : List Row) (number i : ℕ) (read : Row) (lane : TabletLane) → IsInOrder rows → IsAt number rows i → read ≡ get_or rows i read → tablet_of lane ≡ tablet_of read.1
    → tablets_of (set rows i (read.0, lane)) ≡ tablets_of rows
tablets_same rows number i read lane order at is same =
    changed_read rows number i read lane order at is
    ∙ ap (insert (tablets_of rows) number) same
    ∙ sym (changed_read rows number i read read.1 order at is)
    ∙ ap (λ (row : Row). tablets_of (set rows i row)) is
    ∙ ap tablets_of (set-get_or rows i read)

-- the tablet at a place gathered a segment, if it awaited one
pub gathered_at : (master : Master) (rows : List Row) (i : ℕ) (read : Row) (lane : TabletLane) (copy : CopySegment) (awaited : Bool)
    → IsInOrder rows → IsAt copy.tenure.tablet rows i → read ≡ get_or rows i read
    → OnTrue awaited (tablet_of lane ≡ with_gathered (tablet_of read.1) copy)
    → OnTrue awaited (with_rows master (set rows i (read.0, lane)) ≡ segment_gathered (with_rows master rows) copy)
gathered_at master rows i read lane copy awaited order at is gathered = grind (arith, changed_read, insert, tablets_of, tablet_read)

-- and is as it was, if it did not
pub ignored_at : (master : Master) (rows : List Row) (i : ℕ) (read : Row) (lane : TabletLane) (copy : CopySegment) (awaited : Bool)
    → IsInOrder rows → IsAt copy.tenure.tablet rows i → read ≡ get_or rows i read
    → OnFalse awaited (tablet_of lane ≡ tablet_of read.1)
    → OnFalse awaited (with_rows master (set rows i (read.0, lane)) ≡ with_rows master rows)
ignored_at master rows i read lane copy true order at is ignored = tt
ignored_at master rows i read lane copy false order at is ignored =
    ap (λ (tablets : NumberMap Tablet). record master { tablets = tablets }) (tablets_same rows copy.tenure.tablet i read lane order at is ignored)

-- by a copy that is awaited the rebuild goes on
pub copy_gathered : (master now : Master) (copy : CopySegment) (awaited : Bool) → awaited ≡ is_awaiting (tablet_at master copy.tenure.tablet) copy → awaited ≡ true
    → OnTrue awaited (now ≡ segment_gathered master copy) → rebuild_goes_on now copy.tenure.tablet ≡ copy_taken master copy
copy_gathered master now copy awaited awaits is gathered = grind (arith, cond-true, tablet_at, changed, false≢true)

-- ---- how it closes

-- a gathering role takes a closing entry
carries : (role : Role) (place : ℕ) → is_gathering role ≡ true → is_some (role_carried place role) ≡ true
carries role place is = grind arith

pub carried_stays : (handover after : Handover) (term place floor : ℕ) → carried handover term place floor ≡ Some after → (after.term ≡ handover.term) × (after.range ≡ handover.range)
carried_stays handover after term place floor is = grind (arith, eqb)

-- which is neither that of a target that pulls
pub not_receiving : (handover after : Handover) (term place floor : ℕ) → carried handover term place floor ≡ Some after → after.role ≡ roles.Receiving → ⊥
not_receiving handover after term place floor is receives = grind (arith, eqb)

-- nor that of a target that has all
pub not_joining : (handover after : Handover) (term place floor : ℕ) → carried handover term place floor ≡ Some after → after.role ≡ roles.Joining None → ⊥
not_joining handover after term place floor is joins = grind (arith, eqb)

-- entries that are put at the end of the log of a master
pub all_put : (master : Master) (put : List Entry) → with_all master put ≡ record master { log = fold with_entry master.log put }
all_put master [] = refl
all_put master (entry ∷ put) = all_put (with_appended master entry) put

-- are there behind those before them, and nothing else changes
pub put_log : (log : Log) (put : List Entry) → fold with_entry log put ≡ record log { entries = log.entries ++ put }
put_log log [] = λ i. record log { entries = sym (append-nil log.entries) i }
put_log log (entry ∷ put) = put_log (with_entry log entry) put ∙ (λ i. record log { entries = append_assoc log.entries (entry ∷ []) put i })

-- the log after a merge: the copies, and then the entry that closes the rebuild
closing_log : (master : Master) (number : ℕ) (tablet : Tablet) (merged : Merged) → is_gathering tablet.handover.role ≡ true
    → (merged_at master number tablet merged).master.log.entries ≡ master.log.entries ++ (as_entries merged.copies ++ rebuilt_entry tablet merged ∷ [])
closing_log master number tablet merged is =
    grind (arith, all_put, as_entries, put_log, append_assoc, false≢true, cond-true, eqb, eq-eqb, carries)

-- what holds of all of two lists holds of all of the first
all_left : {X : Type 0} (P : X → Type 0) (xs ys : List X) → All P (xs ++ ys) → All P xs
all_left P [] ys all = All-nil P
all_left P (x ∷ xs) ys all = All-cons P x xs (All-head P x (xs ++ ys) all) (all_left P xs ys (All-tail P x (xs ++ ys) all))

-- and of all of the second
pub all_right : {X : Type 0} (P : X → Type 0) (xs ys : List X) → All P (xs ++ ys) → All P ys
all_right P [] ys all = all
all_right P (x ∷ xs) ys all = all_right P xs ys (All-tail P x (xs ++ ys) all)

-- items whose entries can be spelled
items_spelled : (items : List Held) → All IsLawfulEntry (as_entries items) → All IsLawfulHeld items
items_spelled [] all = All-nil IsLawfulHeld
items_spelled (item ∷ items) all =
    All-cons IsLawfulHeld item items (All-head IsLawfulEntry (entries.Held item) (as_entries items) all)
    (items_spelled items (All-tail IsLawfulEntry (entries.Held item) (as_entries items) all))

-- if the log after a merge can be spelled, what is appended can
appended_lawful : (master : Master) (number : ℕ) (tablet : Tablet) (merged : Merged) → is_gathering tablet.handover.role ≡ true
    → CanBeSpelled (merged_at master number tablet merged).master → All IsLawfulEntry (as_entries merged.copies ++ rebuilt_entry tablet merged ∷ [])
appended_lawful master number tablet merged is lawful =
    all_right IsLawfulEntry master.log.entries (as_entries merged.copies ++ rebuilt_entry tablet merged ∷ [])
    (subst (All IsLawfulEntry) (closing_log master number tablet merged is) lawful)

pub copies_lawful : (master : Master) (number : ℕ) (tablet : Tablet) (merged : Merged) → is_gathering tablet.handover.role ≡ true
    → CanBeSpelled (merged_at master number tablet merged).master → All IsLawfulHeld merged.copies
copies_lawful master number tablet merged is lawful =
    items_spelled merged.copies (all_left IsLawfulEntry (as_entries merged.copies) (rebuilt_entry tablet merged ∷ []) (appended_lawful master number tablet merged is lawful))

pub closing_lawful : (master : Master) (number : ℕ) (tablet : Tablet) (merged : Merged) → is_gathering tablet.handover.role ≡ true
    → CanBeSpelled (merged_at master number tablet merged).master → IsLawfulEntry (rebuilt_entry tablet merged)
closing_lawful master number tablet merged is lawful =
    All-head IsLawfulEntry (rebuilt_entry tablet merged) []
    (all_right IsLawfulEntry (as_entries merged.copies) (rebuilt_entry tablet merged ∷ []) (appended_lawful master number tablet merged is lawful))

-- a rebuild that closes
pub closes_so : (master : Master) (items log : Log) (tablets : NumberMap Tablet) (number : ℕ) (tablet : Tablet) (merged : Merged) (handover : Handover) (work : Work) (mark : Mark)
    → master.sides ≡ items_of_sides master.log.sides
    → items ≡ with_items master.log merged.copies
    → carried tablet.handover tablet.handover.term (length items.entries) merged.floor ≡ Some handover
    → log ≡ with_entry items (rebuilt_entry tablet merged)
    → tablets ≡ insert master.tablets number (with_merged tablet merged handover)
    → work.sends.items ≡ [] → work.served.items ≡ [] → work.marked ≡ Some mark
    → mark ≡ record { master = master.number; first = length master.log.entries; past = suc (length items.entries); tablet = number; term = handover.term }
    → worked_of (record master { log = log; sides = items_of_sides log.sides; tablets = tablets }) work ≡ merged_at master number tablet merged
closes_so master items log tablets number tablet merged handover work mark here items_are moved log_is tablets_are sends served marked piece =
    (λ i. record {
      master = record master { log = log_is i; sides = sides i; tablets = tablets_are i };
      sends = sends i;
      served = served i;
      marked = (ap marks_of marked ∙ ap (λ (m : Mark). m ∷ []) piece) i;
    })
    ∙ (λ i. record {
      master = record (with_appended (put i) (rebuilt_entry tablet merged)) { tablets = insert (put i).tablets number (with_merged tablet merged handover) };
      sends = [];
      served = [];
      marked = (record { master = master.number; first = length master.log.entries; past = suc (length (put i).log.entries); tablet = number; term = handover.term }) ∷ [];
    })
    ∙ ap (merging master number tablet merged)
    (sym (ap (λ (m : Master). carried tablet.handover tablet.handover.term (length m.log.entries) merged.floor) (sym put) ∙ moved))
  where
    put : record master { log = items } ≡ with_all master (as_entries merged.copies)
    put = ap (λ (it : Log). record master { log = it }) items_are ∙ sym (all_put master (as_entries merged.copies))

    sides : items_of_sides log.sides ≡ master.sides
    sides =
        ap (λ (l : Log). items_of_sides l.sides) (log_is ∙ ap (λ (l : Log). with_entry l (rebuilt_entry tablet merged)) items_are)
        ∙ ap (λ (l : Log). items_of_sides l.sides) (put_log master.log (as_entries merged.copies))
        ∙ sym here

-- the log after a rebuild has closed
abbrev pub closed_log : Log → List Entry → Entry → Log
closed_log log put closing = record log { entries = (log.entries ++ put) ++ closing ∷ [] }

-- so it is
pub log_closes : (log items after : Log) (copies : List Held) (closing : Entry) → items ≡ with_items log copies → after ≡ with_entry items closing
    → after ≡ closed_log log (as_entries copies) closing
log_closes log items after copies closing items_are after_is =
    after_is ∙ ap (λ (l : Log). with_entry l closing) (items_are ∙ put_log log (as_entries copies))

-- and what it has before its last entry is as long as it was, or longer
pub items_longer : (log items : Log) (copies : List Held) (applied : ℕ) → items ≡ with_items log copies → applied ≤ length log.entries → applied ≤ length items.entries
items_longer log items copies applied items_are within = grind (arith, as_entries, length-append, put_log)

-- one more entry is one more place
pub one_longer : (log items : Log) (entry : Entry) → log ≡ with_entry items entry → length log.entries ≡ suc (length items.entries)
one_longer log items entry is = ap (λ (l : Log). length l.entries) is ∙ omega (arith, length-append items.entries (entry ∷ []))

-- ---- how it begins

-- what is put under a number once more
pub insert_again : {X : Type 0} (things : NumberMap X) (number : ℕ) (first last : X) → IsInOrder things → insert (insert things number first) number last ≡ insert things number last
insert_again {X} things number first last order = grind (arith, same_map, insert, in_order_insert, get_insert, eqb)

-- a greater term begins a rebuild
pub begins_so : (handover : Handover) (term : ℕ) (range : Range) (from : ℕ) → handover.term < term → is_some (rebuilt handover term range from) ≡ true
begins_so handover term range from greater =
    ap (λ (b : Bool). is_some (cond b (Some (record handover { role = roles.Rebuilding from None; term = term; range = range })) None)) (lt-ltb handover.term term greater)

-- and the role is that of a rebuild then
pub begun_role : (handover after : Handover) (term : ℕ) (range : Range) (from : ℕ) → rebuilt handover term range from ≡ Some after → after.role ≡ roles.Rebuilding from None
begun_role handover after term range from is = grind (arith, ltb)

-- a tablet that was put among others is there
pub handed_there : (rows : List Row) (others : NumberMap Tablet) (number : ℕ) (tablet : Tablet) → tablets_of rows ≡ insert others number tablet → IsSome (get rows number)
handed_there rows others number tablet is =
    there_too rows number (ap is_some (ap (λ (tablets : NumberMap Tablet). get tablets number) is ∙ get_same others number tablet number refl))

-- and what the master has of it
pub handed_tablet : (rows : List Row) (others : NumberMap Tablet) (number : ℕ) (tablet : Tablet) → tablets_of rows ≡ insert others number tablet → tablet_in rows number ≡ tablet
handed_tablet rows others number tablet is = grind (arith, no_tablet, get_same)

-- by a greater term the rebuild that has begun goes on
pub rebuild_made : (master now : Master) (rebuild : Rebuild) → now ≡ rebuild_begun master rebuild
    → (tablet_at master rebuild.tenure.tablet).handover.term < rebuild.tenure.term → list_all (is_above rebuild.range rebuild.tenure.term) master.tablets ≡ true
    → rebuild_goes_on now rebuild.tenure.tablet ≡ rebuild_taken master rebuild
rebuild_made master now rebuild now_is greater above = grind (arith, lt-ltb, tablet_at, cond-true, changed)

-- the number of a master stays
same_number : (master : Master) (range : Range) (own : Option Member) → (without_foreign master range own).number ≡ master.number
same_number master range None = refl
same_number master range (Some member) = refl

-- a rebuild that has begun
pub begun_so : (master first : Master) (others handed after : NumberMap Tablet) (rebuild : Rebuild) (before handover : Handover) (gather : Gather)
    → first ≡ without_foreign master rebuild.range (own_member rebuild.lineage master.number)
    → first.tablets ≡ master.tablets
    → before ≡ (tablet_at master rebuild.tenure.tablet).handover
    → rebuilt before rebuild.tenure.term rebuild.range (begun_from master (own_member rebuild.lineage master.number)) ≡ Some handover
    → others ≡ map (changing (given_up_but rebuild.tenure.tablet rebuild.range)) master.tablets
    → IsInOrder others
    → handed ≡ insert others rebuild.tenure.tablet (without_merged (with_handover (unwrap_or (get others rebuild.tenure.tablet) no_tablet) handover))
    → gather ≡ gather_begun rebuild.range rebuild.lineage master.number
    → after ≡ insert handed rebuild.tenure.tablet (with_gather (unwrap_or (get handed rebuild.tenure.tablet) no_tablet) gather)
    → record first { tablets = after } ≡ rebuild_begun master rebuild
begun_so master first others handed after rebuild before handover gather first_is kept before_is moved others_are order handed_is gather_is after_is =
    (λ i. record first { tablets = whole i })
    ∙ (λ i. record (first_is i) { tablets = insert others number (begun gather (tablet others)) })
    ∙ (λ i. record foreign { tablets = insert (now_has i) number (begun (gathers i) (tablet (now_has i))) })
    ∙ sym (ap (with_begun now rebuild) moved_now)
  where
    number : ℕ
    number = rebuild.tenure.tablet

    own : Option Member
    own = own_member rebuild.lineage master.number

    foreign : Master
    foreign = without_foreign master rebuild.range own

    now : Master
    now = with_others_given_up foreign number rebuild.range

    -- the tablet among others
    tablet : NumberMap Tablet → Tablet
    tablet tablets = unwrap_or (get tablets number) no_tablet

    -- as it begins
    begun : Gather → Tablet → Tablet
    begun it old = record old { handover = handover; pulling = pulling_from old.pulling.source; gather = it; merged_ends = [] }

    -- with the handover alone
    handed_so : Tablet
    handed_so = without_merged (with_handover (tablet others) handover)

    found : tablet handed ≡ handed_so
    found = ap tablet handed_is ∙ ap (λ (o : Option Tablet). unwrap_or o no_tablet) (get_same others number handed_so number refl)

    whole : after ≡ insert others number (begun gather (tablet others))
    whole =
        after_is
        ∙ (λ i. insert (handed_is i) number (with_gather (found i) gather))
        ∙ insert_again others number handed_so (begun gather (tablet others)) order

    gathers : gather ≡ gather_begun rebuild.range rebuild.lineage foreign.number
    gathers = gather_is ∙ ap (gather_begun rebuild.range rebuild.lineage) (sym (same_number master rebuild.range own))

    now_has : others ≡ now.tablets
    now_has = others_are ∙ ap (map (changing (given_up_but number rebuild.range))) (sym kept ∙ ap (λ (m : Master). m.tablets) first_is)

    same_handover : (tablet_at now number).handover ≡ before
    same_handover =
        ap (λ (o : Option Tablet). (unwrap_or o no_tablet).handover) (kept_itself (given_up_but number rebuild.range) number foreign.tablets (stays_itself number rebuild.range))
        ∙ ap (λ (tablets : NumberMap Tablet). (unwrap_or (get tablets number) no_tablet).handover) (sym (ap (λ (m : Master). m.tablets) first_is) ∙ kept)
        ∙ sym before_is

    moved_now : rebuilt (tablet_at now number).handover rebuild.tenure.term rebuild.range (begun_from master own) ≡ Some handover
    moved_now = ap (λ (h : Handover). rebuilt h rebuild.tenure.term rebuild.range (begun_from master own)) same_handover ∙ moved
