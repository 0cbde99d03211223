-- Nothing that the tablets of a master wait for has come, still after each message that it takes and after its turn.
use Rattle.std.proofs.Common.{◌≡◌, ◌<◌, ◌==◌, ◌&&◌, ℕ, Bool, true, false, cond, not, nat_lt, List, [], ◌∷◌, length, All, Option, None, Some}
use Rattle.std.proofs.Common.{refl, sym, ap, subst, ◌∙◌, arith, IfSome, unwrap_or, nat_cmp, eq-eqb}
use Rattle.rk_scripts.proofs.Words.{below_all, eq_by_cmp, All-head, All-tail, cond-true, false≢true, in_order_changed, in_order_insert}
use Rattle.rk_scripts.proofs.Words.{same_number, IsInOrder, NumberMap, get, meets, Call, Ended, Held, Node, Range, Entry, overreach}
use Rattle.rk_scripts.proofs.Words.{Overreach, Grant, Prepare, Body, Message, Stored, found, is_newer, closed, frozen, granted, in_role}
use Rattle.rk_scripts.proofs.Words.{joined, role_closed, role_frozen, role_granted, role_joined, Handover, Role, Reading, apply_entries}
use Rattle.rk_scripts.proofs.Words.{apply_entry, newly_held, noting, stored_taken, with_applied, with_ended, with_entry_item, items_of}
use Rattle.rk_scripts.proofs.Words.{next_reading, close_taken, closing, grant_taken, granting, prepare_taken, preparing, ready, ready_again}
use Rattle.rk_scripts.proofs.Words.{transfer, Master, is_settled, tablet_at, with_all, with_appended, with_known, with_tablet, master_step}
use Rattle.rk_scripts.proofs.Words.{told_master, duties, master_turn, tablet_duty, with_outstanding, as_entries, item_replayed}
use Rattle.rk_scripts.proofs.Words.{pulled_taken, replay, replay_one, with_pulled, with_pulling, is_frozen_at, is_receiving_at, Tablet}
use Rattle.rk_scripts.proofs.Words.{no_tablet, pulling_from, with_handover, without_merged, all_going_on, closing_entry, freezing}
use Rattle.rk_scripts.proofs.Words.{going_on_in, is_sealed_stored, joined_entry, changed, sending, kept_by_fold, All_pairs, above_all}
use Rattle.rk_scripts.proofs.Words.{first, get_first, get_later, order_tail}
use Rattle.std.specs.Cmp.{unsigned_tied}
use Rattle.rk_types.specs.declared.lineage.Member.{Member}
use Rattle.rk_transfer.specs.Handover.{prepared, rebuilt, role_carried, role_owned, role_released}
use Rattle.rk_priority.specs.Hashes.{is_batch}
use Rattle.rk_message.specs.declared.handover.Tenure.{Tenure}
use Rattle.rk_message.specs.declared.pulling.Got.{Got}
use Rattle.rk_message.specs.declared.pulling.Pulled.{Pulled}
use Rattle.rk_message.specs.declared.rebuilding.CopySegment.{CopySegment}
use Rattle.rk_message.specs.declared.rebuilding.Rebuild.{Rebuild}
use Rattle.rk_world.specs.Ends.{told_by}
use Rattle.rk_world.specs.Gather.{is_awaited}
use Rattle.rk_world.specs.Handovers.{given_up, is_greater, own_taken, owning, release_taken, releasing, with_move, with_others_given_up}
use Rattle.rk_world.specs.Lineage.{own_member}
use Rattle.rk_world.specs.Master.{without_items}
use Rattle.rk_world.specs.MasterStep.{backup_message, client_message, order, peer_message}
use Rattle.rk_world.specs.Pulls.{got_taken, hashes_resolved}
use Rattle.rk_world.specs.Rebuilds.{begun_from, beginning, copy_taken, merging, rebuild_begun, rebuild_goes_on, rebuild_taken}
use Rattle.rk_world.specs.Rebuilds.{rebuilding_on, segment_gathered, with_begun, without_foreign}
use Rattle.rk_world.specs.Requests.{chosen, counted_up, item_of, value_written}
use Rattle.rk_world.specs.RoleTests.{is_gathering}
use Rattle.rk_world.specs.Waiting.{tablet_frozen}
use Rattle.rk_world.specs.declared.choice.Choice.{Choice}
use Rattle.rk_world.specs.declared.choice.Choice.TheVariants.{Wants, Writes, Refuses}
use Rattle.rk_world.specs.declared.work.Merged.{Merged}
use Rattle.rk_scripts.proofs.settle.Turning.{duty_is, either_is}
use Rattle.rk_scripts.proofs.settle.Patient.{ArePatient, IsCalmRole, Waits, WaitsIn, WaitsOn, all_patient, appended_on, appended_patient}
use Rattle.rk_scripts.proofs.settle.Patient.{at_other, at_put, calm_waits, changed_patient, patient_beside, put_beside, put_patient}
use Rattle.rk_scripts.proofs.settle.Patient.{put_whole, waits_on}

-- ---- tests

pub either_patient : (test : Bool) (one other : Master) → ArePatient one → ArePatient other → ArePatient (cond test one other)
either_patient true one other first second = first
either_patient false one other first second = second

-- ---- moves of a handover

-- a move leaves a role in which nothing is waited for
abbrev pub MovesCalm : Option Handover → Type 0
MovesCalm moved = IfSome moved (λ handover. IsCalmRole handover.role)

granted_calm : (b : Bool) (handover : Handover) (role : Role) → MovesCalm (cond b (in_role handover (role_granted role)) None)
granted_calm true handover (Role.Wanting from) = tt
granted_calm _ handover role = tt

owned_calm : (b : Bool) (handover : Handover) (applied : ℕ) (role : Role) → MovesCalm (cond b (in_role handover (role_owned applied role)) None)
owned_calm b handover applied role = grind (arith, nat_lt, in_role)

released_calm : (b : Bool) (handover : Handover) (role : Role) → MovesCalm (cond b (in_role handover (role_released role)) None)
released_calm true handover Role.Frozen = tt
released_calm _ handover role = tt

carried_calm : (b : Bool) (handover : Handover) (entry : ℕ) (role : Role) → MovesCalm (cond b (in_role handover (role_carried entry role)) None)
carried_calm true handover entry (Role.Rebuilding from None) = tt
carried_calm _ handover entry role = tt

closed_closes : (b : Bool) (handover : Handover) (role : Role) → IfSome (cond b (in_role handover (role_closed role)) None) (λ now. now.role ≡ Role.Closing)
closed_closes b handover role = grind arith

begun_calm : (b : Bool) (handover : Handover) → IsCalmRole handover.role → MovesCalm (cond b (Some handover) None)
begun_calm true handover calm = calm
begun_calm false handover calm = tt

-- a tablet that closes may freeze
pub frozen_own : (handover : Handover) → handover.role ≡ Role.Closing → frozen handover handover.term ≡ Some (record handover { role = Role.Frozen })
frozen_own handover is = grind (arith, cond-true, in_role, role_frozen, eq-eqb)

-- and a tablet that has all but its closing entry may join with it
pub joined_own : (handover : Handover) (place : ℕ) → handover.role ≡ Role.Joining None
    → joined handover handover.term (Some place) ≡ Some (record handover { role = Role.Joining (Some place) })
joined_own handover place is = grind (arith, cond-true, in_role, role_joined, eq-eqb)

-- ---- what waited goes on

-- one tablet has gone on
record HasGone (number : ℕ) (now next : Master) : Type 0 where
  order : IsInOrder now.tablets → IsInOrder next.tablets
  other : (q : ℕ) → (q ≡ number → ⊥) → tablet_at next q ≡ tablet_at now q
  own : Waits next (tablet_at next number)
  on : WaitsOn now next

same_on : (master : Master) → WaitsOn master master
same_on master = record { staged = λ range is. is; known = refl; stored = λ some number is. is }

module _ (now : Master) (number : ℕ) (tablet : Tablet) (at : tablet_at now number ≡ tablet) where
  gone_still : Waits now tablet → HasGone number now now
  gone_still waits = grind (arith, same_on)

  gone_closing : tablet.handover.role ≡ Role.Closing → HasGone number now (freezing now number tablet (frozen tablet.handover tablet.handover.term))
  gone_closing is =
      grind (arith, freezing, frozen_own, is_settled, with_tablet, with_handover, in_order_insert, at_other, at_put, gone_still)

  gone_joining : tablet.handover.role ≡ Role.Joining None
      → HasGone number now (cond (is_sealed_stored now tablet) (closing_entry now number tablet (joined tablet.handover tablet.handover.term (Some (length now.log.entries)))) now)
  gone_joining is =
      subst (λ (moved : Option Handover). HasGone number now (cond (is_sealed_stored now tablet) (closing_entry now number tablet moved) now))
      (sym (joined_own tablet.handover (length now.log.entries) is)) (go (is_sealed_stored now tablet) refl)
    where
      go : (b : Bool) → is_sealed_stored now tablet ≡ b
          → HasGone number now (cond b (closing_entry now number tablet (Some (record tablet.handover { role = Role.Joining (Some (length now.log.entries)) }))) now)
      go true stored =
          let after : Tablet = with_handover tablet (record tablet.handover { role = Role.Joining (Some (length now.log.entries)) }) in
          let appended = appended_on now (joined_entry tablet) in
          record {
            order = λ order. in_order_insert now.tablets number after order;
            other = λ q apart. at_other now number after q apart;
            own = subst (Waits (with_appended (with_tablet now number after) (joined_entry tablet))) (sym (at_put now number after)) tt;
            on = record { staged = appended.staged; known = refl; stored = appended.stored };
          }
      go false waits = gone_still (subst (WaitsIn now tablet) (sym is) (λ some. waits))

  gone_on : (role : Role) → tablet.handover.role ≡ role → HasGone number now (going_on_in now number tablet role)
  gone_on role is = grind (arith, gone_closing, gone_joining, gone_still, calm_waits)

-- a number below that of another is another one
pub below_apart : (low high : ℕ) → low < high → high ≡ low → ⊥
below_apart low high below same = omega (arith, below, same)

-- all tablets that are left go on, if what those that went on wait for has not come
all_gone_on : (list : NumberMap Tablet) (now : Master) → IsInOrder list → IsInOrder now.tablets
    → ((q : ℕ) (tablet : Tablet) → get list q ≡ Some tablet → tablet_at now q ≡ tablet) → ((q : ℕ) → get list q ≡ None → Waits now (tablet_at now q))
    → ArePatient (all_going_on now list)
all_gone_on [] now sorted order coming gone = record { order = order; each = λ q. gone q refl }
all_gone_on (entry ∷ rest) now sorted order coming gone =
    let next : Master = going_on_in now entry.0 entry.1 entry.1.handover.role in
    let one : HasGone entry.0 now next = gone_on now entry.0 entry.1 (coming entry.0 entry.1 (get_first entry rest)) entry.1.handover.role refl in
    all_gone_on rest next (order_tail entry rest sorted) (one.order order)
    (λ q tablet found.
    one.other q (below_apart entry.0 q (above_all entry.0 rest q tablet (first (below_all nat_cmp entry.0 rest) _ sorted) found))
    ∙ coming q tablet (get_later entry rest q tablet sorted found))
    (λ q none. behind next one q none)
  where
    behind : (next : Master) → HasGone entry.0 now next → (q : ℕ) → get rest q ≡ None → Waits next (tablet_at next q)
    behind next one q none = go (eq_by_cmp nat_cmp q entry.0) refl
      where
        missing : eq_by_cmp nat_cmp q entry.0 ≡ false → get (entry ∷ rest) q ≡ None
        missing is = ap (λ (c : Bool). cond c (Some entry.1) (get rest q)) is ∙ none

        go : (b : Bool) → eq_by_cmp nat_cmp q entry.0 ≡ b → Waits next (tablet_at next q)
        go true is = subst (λ (n : ℕ). Waits next (tablet_at next n)) (sym (same_number q entry.0 is)) one.own
        go false is =
            let apart : q ≡ entry.0 → ⊥ = λ same. false≢true (sym is ∙ (unsigned_tied q entry.0 ∙ eq-eqb q entry.0 same)) in
            subst (Waits next) (sym (one.other q apart))
            (waits_on now next one.on (tablet_at now q) (tablet_at now q).handover.role (gone q (missing is)))

-- whatever was waited for before: once what every backup holds is applied, all that waited goes on
pub going_on_patient : (master : Master) → IsInOrder master.tablets → ArePatient (all_going_on master master.tablets)
going_on_patient master order = grind (arith, all_gone_on, no_tablet)

-- ---- what a backup reports

item_order : (master : Master) (entry : Entry) → IsInOrder master.tablets → IsInOrder (with_entry_item master entry).tablets
item_order master (Entry.Held held) order = order
item_order master _ order = order

ended_order : (master : Master) (place : ℕ) (call : Option Call) (ends : List Ended) → IsInOrder master.tablets → IsInOrder (with_ended master place call ends).master.tablets
ended_order master place (Some call) (end ∷ ends) order = in_order_changed (λ number tablet. noting call end tablet) master.tablets order
ended_order master place (Some call) [] order = order
ended_order master place None ends order = order

pub entries_order : (list : List Entry) (master : Master) → IsInOrder master.tablets → IsInOrder (apply_entries master list).master.tablets
entries_order [] master order = order
entries_order (entry ∷ list) master order = entries_order list (apply_entry master entry).master
    (ended_order (with_applied (with_entry_item master entry)) master.applied (get master.calls master.applied) (told_by entry) (item_order master entry order))

stored_patient : (master : Master) (backup : ℕ) (stored : Stored) (over : Option Overreach) → ArePatient master → ArePatient (stored_taken master backup stored over).master
stored_patient master backup stored (Some over) patient = patient
stored_patient master backup stored None patient =
    search (with_known, apply_entries, newly_held, going_on_patient, entries_order, stored.segment, stored.length, patient.order)

-- ---- requests

module _ (master : Master) (patient : ArePatient master) where
  chosen_patient : (asked : ℕ) (call : Call) (choice : Choice) → ArePatient (chosen master asked call choice).master
  chosen_patient asked call (Wants number) = put_patient master number _ patient (patient.each number)
  chosen_patient asked call (Writes number) =
      let entry : Entry = Entry.Held (item_of call (tablet_at master number).handover.counter (value_written call.op)) in
      let appended : ArePatient (with_appended master entry) = appended_patient master entry patient in
      let put = put_patient (with_appended master entry) number (counted_up (tablet_at master number)) appended (appended.each number) in
      record { order = put.order; each = put.each }
  chosen_patient asked call (Refuses found absent) = search appended_patient
  chosen_patient asked call _ = patient

-- ---- handovers

move_patient : (master : Master) (number : ℕ) (moved : Option Handover) → ArePatient master → MovesCalm moved → ArePatient (with_move master number moved)
move_patient master number None patient calm = patient
move_patient master number (Some handover) patient calm =
    search (without_merged, with_handover, tablet_at, put_patient, calm_waits, handover.role)

others_patient : (master : Master) (number : ℕ) (range : Range) → ArePatient master → ArePatient (with_others_given_up master number range)
others_patient master number range patient =
    changed_patient master (λ q tablet. cond (not (q == number) && meets tablet.handover.range range) (given_up tablet) tablet)
    (λ q tablet waits. go tablet waits (not (q == number) && meets tablet.handover.range range)) patient
  where
    go : (tablet : Tablet) → Waits master tablet → (b : Bool) → Waits master (cond b (given_up tablet) tablet)
    go tablet waits true = tt
    go tablet waits false = waits

dropped_patient : (master : Master) (range : Range) → ArePatient master → ArePatient (without_items master range)
dropped_patient master range patient = record { order = patient.order; each = patient.each }

again_patient : (master : Master) (tenure : Tenure) (role : Role) (term : ℕ) → ArePatient master → ArePatient (ready_again master tenure role term).master
again_patient master tenure role term patient = grind (arith, either_is, sending, ready, changed)

prepare_patient : (master : Master) (prepare : Prepare) → ArePatient master → ArePatient (prepare_taken master prepare).master
prepare_patient master prepare patient =
    let number = prepare.tenure.tablet in
    let handover = (tablet_at master number).handover in
    let now = with_others_given_up (without_items master prepare.range) number prepare.range in
    let old = (tablet_at now number).handover in
    either_is ArePatient (is_greater master number prepare.tenure.term prepare.range) (preparing master prepare)
    (ready_again master prepare.tenure handover.role handover.term)
    (move_patient now number (prepared old prepare.tenure.term prepare.range (length master.log.entries))
    (others_patient (without_items master prepare.range) number prepare.range (dropped_patient master prepare.range patient))
    (begun_calm (nat_lt old.term prepare.tenure.term)
    (record old { role = Role.Wanting (length master.log.entries); term = prepare.tenure.term; range = prepare.range }) tt))
    (again_patient master prepare.tenure handover.role handover.term patient)

closing_patient : (master : Master) (number : ℕ) (moved : Option Handover) → ArePatient master → IfSome moved (λ handover. handover.role ≡ Role.Closing)
    → ArePatient (closing master number moved)
closing_patient master number None patient is = patient
closing_patient master number (Some handover) patient is =
    subst (λ (o : Option Handover). ArePatient (freezing now number (tablet_at now number) o)) (sym (frozen_own handover is))
    (subst (λ (it : Tablet). ArePatient (freezing now number it (Some (record handover { role = Role.Frozen })))) (sym (at_put master number tablet))
    (go (is_settled now handover.range) refl))
  where
    tablet : Tablet
    tablet = without_merged (with_handover (tablet_at master number) handover)

    now : Master
    now = with_tablet master number tablet

    go : (b : Bool) → is_settled now handover.range ≡ b → ArePatient (cond b (tablet_frozen now number tablet (record handover { role = Role.Frozen })) now)
    go true settled = put_whole number now (with_handover tablet (record handover { role = Role.Frozen }))
        (put_beside number master tablet (patient_beside number master patient)) tt
    go false waits =
        put_whole number master tablet (patient_beside number master patient) (subst (WaitsIn master tablet) (sym is) waits)

close_patient : (master : Master) (tenure : Tenure) → ArePatient master → ArePatient (close_taken master tenure).master
close_patient master tenure patient =
    let old = (tablet_at master tenure.tablet).handover in
    let now = closing master tenure.tablet (closed old tenure.term) in
    let done : ArePatient now = closing_patient master tenure.tablet (closed old tenure.term) patient
    (closed_closes (nat_lt old.term tenure.term) (record old { term = tenure.term }) old.role) in
    let tablet = tablet_at now tenure.tablet in
    either_is ArePatient (is_frozen_at tablet tenure.term) (sending now (transfer now tenure tablet)) (changed now) done done

granting_patient : (master : Master) (grant : Grant) (moved : Option Handover) → ArePatient master → MovesCalm moved → ArePatient (granting master grant moved).master
granting_patient master grant None patient calm = patient
granting_patient master grant (Some handover) patient calm =
    search (put_patient, appended_patient, calm_waits)

grant_patient : (master : Master) (grant : Grant) → ArePatient master → ArePatient (grant_taken master grant).master
grant_patient master grant patient =
    search (tablet_at, granting_patient, granted, granted_calm, grant.tenure.tablet, grant.tenure.term, grant.floor)

owning_patient : (master : Master) (number : ℕ) (moved : Option Handover) → ArePatient master → MovesCalm moved → ArePatient (owning master number moved).master
owning_patient master number None patient calm = patient
owning_patient master number (Some handover) patient calm =
    search (without_merged, tablet_at, pulling_from, put_patient, calm_waits, handover.role)

own_patient : (master : Master) (tenure : Tenure) → ArePatient master → ArePatient (own_taken master tenure).master
own_patient master tenure patient = search (tablet_at, owning_patient, owned_calm, tenure.tablet, tenure.term, master.applied)

releasing_patient : (master : Master) (number : ℕ) (moved : Option Handover) → ArePatient master → MovesCalm moved → ArePatient (releasing master number moved).master
releasing_patient master number None patient calm = patient
releasing_patient master number (Some handover) patient calm = search (move_patient, dropped_patient, handover.range)

release_patient : (master : Master) (tenure : Tenure) → ArePatient master → ArePatient (release_taken master tenure).master
release_patient master tenure patient = search (tablet_at, releasing_patient, released_calm, tenure.tablet, tenure.term)

-- ---- rebuilds

merging_patient : (master : Master) (number : ℕ) (tablet : Tablet) (merged : Merged) (moved : Option Handover)
    → ArePatient master → MovesCalm moved → ArePatient (merging master number tablet merged moved).master
merging_patient master number tablet merged None patient calm = patient
merging_patient master number tablet merged (Some handover) patient calm =
    search (with_all, as_entries, with_appended, put_patient, appended_patient, all_patient, calm_waits, merged.copies, handover.role)

rebuilding_patient : (master : Master) (number : ℕ) (reading : Option Reading) → ArePatient master → ArePatient (rebuilding_on master number reading).master
rebuilding_patient master number (Some reading) patient = patient
rebuilding_patient master number None patient = search (tablet_at, with_all, as_entries, merging_patient, carried_calm)

goes_on_patient : (master : Master) (number : ℕ) → ArePatient master → ArePatient (rebuild_goes_on master number).master
goes_on_patient master number patient = rebuilding_patient master number (next_reading (tablet_at master number).gather) patient

foreign_patient : (master : Master) (range : Range) (own : Option Member) → ArePatient master → ArePatient (without_foreign master range own)
foreign_patient master range (Some member) patient = patient
foreign_patient master range None patient = dropped_patient master range patient

with_begun_patient : (master : Master) (rebuild : Rebuild) (moved : Option Handover) → ArePatient master → MovesCalm moved → ArePatient (with_begun master rebuild moved)
with_begun_patient master rebuild None patient calm = patient
with_begun_patient master rebuild (Some handover) patient calm =
    search (put_patient, calm_waits)

rebuild_patient : (master : Master) (rebuild : Rebuild) → ArePatient master → ArePatient (rebuild_taken master rebuild).master
rebuild_patient master rebuild patient =
    let own = own_member rebuild.lineage master.number in
    let number = rebuild.tenure.tablet in
    let now = with_others_given_up (without_foreign master rebuild.range own) number rebuild.range in
    let old = (tablet_at now number).handover in
    either_is ArePatient (is_greater master number rebuild.tenure.term rebuild.range) (beginning master rebuild) (changed master)
    (goes_on_patient (rebuild_begun master rebuild) number
    (with_begun_patient now rebuild (rebuilt old rebuild.tenure.term rebuild.range (begun_from master own))
    (others_patient (without_foreign master rebuild.range own) number rebuild.range (foreign_patient master rebuild.range own patient))
    (begun_calm (nat_lt old.term rebuild.tenure.term)
    (record old { role = Role.Rebuilding (begun_from master own) None; term = rebuild.tenure.term; range = rebuild.range }) tt)))
    patient

copy_patient : (master : Master) (copy : CopySegment) → ArePatient master → ArePatient (copy_taken master copy).master
copy_patient master copy patient =
    let number = copy.tenure.tablet in
    let tablet = tablet_at master number in
    either_is ArePatient
    (is_gathering tablet.handover.role && (tablet.handover.term == copy.tenure.term)
    && is_awaited (next_reading tablet.gather) copy.master copy.segment)
    (rebuild_goes_on (segment_gathered master copy) number) (changed master)
    (goes_on_patient (segment_gathered master copy) number (put_patient master number _ patient (patient.each number))) patient

-- ---- pulls

replayed_patient : (number worker : ℕ) (master : Master) (item : Held) → ArePatient master → ArePatient (item_replayed number worker master item)
replayed_patient number worker master item patient = search (put_patient, with_pulling, tablet_at, with_pulled, patient.each)

pub replay_patient : (master : Master) (number worker : ℕ) (items : List Held) → ArePatient master → ArePatient (replay master number worker items)
replay_patient master number worker items patient = kept_by_fold ArePatient (replay_one number worker)
    (λ now item kept. either_patient (is_newer item (found item.table item.key now.records))
    (item_replayed number worker now item) now (replayed_patient number worker now item kept) kept)
    items master patient

got_patient : (master : Master) (message : Got) → ArePatient master → ArePatient (got_taken master message).master
got_patient master message patient =
    let number = message.tenure.tablet in
    let tablet = tablet_at master number in
    let now = replay master number 0 (items_of message.entries) in
    let replayed : ArePatient now = replay_patient master number 0 (items_of message.entries) patient in
    either_is ArePatient (is_receiving_at tablet message.tenure.term && is_batch tablet.pulling.hashes.outstanding message.hashes)
    (changed (hashes_resolved now number message.hashes)) (changed master)
    (put_patient now number _ replayed (replayed.each number)) patient

-- ---- turns

-- what tablets of a list wait for has not come
abbrev AllWait : Master → NumberMap Tablet → Type 0
AllWait master tablets = All (λ (entry : ℕ × Tablet). Waits master entry.1) tablets

all_wait_on : (before after : Master) → WaitsOn before after → (list : NumberMap Tablet) → AllWait before list → AllWait after list
all_wait_on before after on list all = grind (arith, waits_on)

duties_patient : (list : NumberMap Tablet) (master : Master) → AllWait master list → ArePatient master → ArePatient (duties master list).master
duties_patient [] master all patient = patient
duties_patient (entry ∷ rest) master all patient =
    let now = (tablet_duty master entry.0 entry.1 entry.1.handover.role).master in
    let waits = All-head (λ (it : ℕ × Tablet). Waits master it.1) entry rest all in
    duties_patient rest now
    (all_wait_on master now
    (duty_is (WaitsOn master) master entry.0 entry.1 entry.1.handover.role (same_on master)
    (record { staged = λ range is. is; known = refl; stored = λ some number is. is }))
    rest (All-tail (λ (it : ℕ × Tablet). Waits master it.1) entry rest all))
    (duty_is ArePatient master entry.0 entry.1 entry.1.handover.role patient (put_patient master entry.0 (with_outstanding entry.1) patient waits))

-- at its turn
pub turn_patient : (master : Master) → ArePatient master → ArePatient (master_turn master).master
turn_patient master patient = duties_patient master.tablets master
    (All_pairs (λ (q : ℕ) (tablet : Tablet). Waits master tablet) master.tablets patient.order
    (λ q tablet found. subst (λ (o : Option Tablet). Waits master (unwrap_or o no_tablet)) found (patient.each q)))
    patient

-- ---- messages

module _ (master : Master) (patient : ArePatient master) (pulled_patient : (pulled : Pulled) → ArePatient (pulled_taken master pulled).master) where
  client_patient : (client : ℕ) (body : Body) → ArePatient (client_message master client body).master
  client_patient client body = grind (arith, chosen_patient)

  order_patient : (body : Body) → ArePatient (order master body).master
  order_patient (Body.Prepare prepare) = prepare_patient master prepare patient
  order_patient (Body.Close tenure) = close_patient master tenure patient
  order_patient (Body.Grant grant) = grant_patient master grant patient
  order_patient (Body.Own tenure) = own_patient master tenure patient
  order_patient (Body.Release tenure) = release_patient master tenure patient
  order_patient (Body.Rebuild rebuild) = rebuild_patient master rebuild patient
  order_patient _ = patient

  peer_patient : (sender : Node) (body : Body) → ArePatient (peer_message master sender body).master
  peer_patient sender body = grind (arith, got_patient, either_is, is_frozen_at, tablet_at, changed)

  backup_patient : (backup : ℕ) (body : Body) → ArePatient (backup_message master backup body).master
  backup_patient backup (Body.Stored stored) = search (stored_patient, overreach, stored.segment, stored.length)
  backup_patient backup (Body.Copy copy) = copy_patient master copy patient
  backup_patient backup _ = patient

  told_patient : (sender : Node) (body : Body) → ArePatient (told_master master sender body).master
  told_patient (Node.Client client) body = client_patient client body
  told_patient Node.Coordinator body = order_patient body
  told_patient (Node.Master other) body = peer_patient (Node.Master other) body
  told_patient (Node.Backup backup) body = backup_patient backup body

  -- at a message
  pub step_patient : (message : Message) → ArePatient (master_step master message).master
  step_patient message = told_patient message.from message.body
