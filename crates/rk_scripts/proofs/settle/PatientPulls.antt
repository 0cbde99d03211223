-- Nothing that the tablets of a master wait for has come, still after a target took a batch that it pulled: if it has all by then, it waits
-- for its side segments, which no backup is known to hold.
use Rattle.std.proofs.Common.{◌≡◌, ◌≤◌, ◌+◌, ◌%◌, ◌&&◌, ℕ, zero, suc, Bool, true, false, cond, nat_le, List, [], ◌∷◌, ◌++◌, length, fold}
use Rattle.std.proofs.Common.{map, sum, All, Option, None, Some, refl, sym, ap, subst, arith, length-append, eq-eqb}
use Rattle.rk_scripts.proofs.Words.{list_all, range_with_len, cond-true, All-append, All-cons, All-head, All-nil, All-tail, Held}
use Rattle.rk_scripts.proofs.Words.{SEGMENT_BYTES, FIRST_SIDE_SEGMENT, is_side_stored, found, is_newer, end, in_role, joined, role_joined}
use Rattle.rk_scripts.proofs.Words.{Handover, Role, items_of, Master, tablet_at, with_appended, with_side_segment, with_tablet, as_entries}
use Rattle.rk_scripts.proofs.Words.{batch_taken, is_token, item_replayed, joining_at, joining_by, pulled_all, pulled_taken, replay}
use Rattle.rk_scripts.proofs.Words.{replay_one, token_passed, with_pulling, is_receiving_at, sealed_sides, Tablet, with_handover}
use Rattle.rk_scripts.proofs.Words.{closing_entry, joined_entry, changed, kept_by_fold, Entry}
use Rattle.rk_types.specs.Held.{spelled_of}
use Rattle.rk_entry.specs.Entries.{spelled_all}
use Rattle.rk_entry.specs.Spelling.{spelled}
use Rattle.rk_priority.specs.Hashes.{no_hashes}
use Rattle.rk_log.proofs.Cuts.{spelled_some}
use Rattle.rk_message.specs.declared.pulling.Pulled.{Pulled}
use Rattle.rk_world.specs.SideLogs.{cut_items, with_side_item}
use Rattle.rk_scripts.proofs.settle.Patient.{ArePatient, ArePatientBeside, IsCalmRole, IsFresh, Waits, WaitsIn, WaitsOn, appended_beside}
use Rattle.rk_scripts.proofs.settle.Patient.{at_put, calm_waits, patient_beside, patient_on, patient_whole, put_beside, put_patient}
use Rattle.rk_scripts.proofs.settle.Patient.{put_whole, side_missing, side_on}
use Rattle.rk_scripts.proofs.settle.PatientSteps.{either_patient, replay_patient}
use Rattle.rk_scripts.proofs.settle.Turning.{either_is}

-- ---- the items of side segments

-- there are some
abbrev AreSome : List Held → Type 0
AreSome [] = ⊥
AreSome (item ∷ items) = Unit {0}

pushed_some : (items : List Held) (item : Held) → AreSome (items ++ item ∷ [])
pushed_some [] item = tt
pushed_some (first ∷ items) item = tt

pieces_more : (pieces : List (List Held)) (item : Held) → All AreSome pieces → All AreSome (with_side_item pieces item)
pieces_more [] item all = All-cons AreSome (item ∷ []) [] tt (All-nil _)
pieces_more (items ∷ []) item all = go (nat_le (sum (map spelled_of items) + spelled_of item) SEGMENT_BYTES)
  where
    go : (b : Bool) → All AreSome (cond b ((items ++ item ∷ []) ∷ []) (items ∷ (item ∷ []) ∷ []))
    go true = All-cons AreSome (items ++ item ∷ []) [] (pushed_some items item) (All-nil _)
    go false =
        All-cons AreSome items ((item ∷ []) ∷ []) (All-head AreSome items [] all) (All-cons AreSome (item ∷ []) [] tt (All-nil _))
pieces_more (items ∷ next ∷ more) item all = All-cons AreSome items (with_side_item (next ∷ more) item)
    (All-head AreSome items (next ∷ more) all) (pieces_more (next ∷ more) item (All-tail AreSome items (next ∷ more) all))

pieces_some : (sides : List (List Held)) → All AreSome (sealed_sides sides)
pieces_some [] = All-nil _
pieces_some (side ∷ sides) = All-append AreSome (cut_items side) (sealed_sides sides)
    (kept_by_fold (All AreSome) with_side_item (λ pieces item all. pieces_more pieces item all) side [] (All-nil _)) (pieces_some sides)

-- so they have bytes
some_long : (items : List Held) → AreSome items → 1 ≤ length (spelled_all (as_entries items))
unfolding spelled_all
some_long [] none = absurd none
some_long (item ∷ items) some =
    omega (arith, spelled_some (Entry.Held item), length-append (spelled (Entry.Held item)) (spelled_all (as_entries items)))

-- ---- side segments

on_then : (a b c : Master) → WaitsOn a b → WaitsOn b c → WaitsOn a c
on_then a b c first second = search (second.staged, first.staged, second.known, first.known, second.stored, first.stored)

-- a master with more side segments: its tablets are as they were
record HasSides (before after : Master) : Type 0 where
  on : WaitsOn before after
  tablets : after.tablets ≡ before.tablets

sides_on : (sides : List (List Held)) (master : Master) → All AreSome sides → IsFresh master.log → HasSides master (fold with_side_segment master sides)
sides_on [] master all fresh = grind arith
sides_on (items ∷ sides) master all fresh =
    let now : Master = with_side_segment master items in
    let rest = sides_on sides now (All-tail AreSome items sides all) (λ segment past. fresh segment
    (omega (arith, past, length-append master.log.sides (spelled_all (as_entries items) ∷ [])))) in
    record {
      on = on_then master now (fold with_side_segment now sides) (side_on master items fresh (some_long items (All-head AreSome items sides all))) rest.on;
      tablets = rest.tablets;
    }

-- ---- a target that has all

pub joins : (handover : Handover) (entry : Option ℕ) (role : Role) → handover.role ≡ role → joined handover handover.term entry ≡ in_role handover (role_joined entry role)
joins handover entry role is = grind (arith, cond-true, in_role, role_joined, eq-eqb)

module _ (now : Master) (number : ℕ) (tablet : Tablet) (beside : ArePatientBeside number now) (at : tablet_at now number ≡ tablet) where
  stays : Waits now tablet → ArePatient now
  stays waits = patient_whole number now beside (subst (Waits now) (sym at) waits)

  stays_calm : (role : Role) → tablet.handover.role ≡ role → IsCalmRole role → ArePatient now
  stays_calm role is calm = stays (calm_waits now tablet tablet.handover.role (subst IsCalmRole (sym is) calm))

  -- with its closing entry
  closes : (place : ℕ) → (tablet.handover.role ≡ Role.Closing → WaitsIn now tablet Role.Closing) → (role : Role) → tablet.handover.role ≡ role
      → ArePatient (closing_entry now number tablet (joined tablet.handover tablet.handover.term (Some place)))
  closes place waits role is =
      subst (λ (moved : Option Handover). ArePatient (closing_entry now number tablet moved)) (sym (joins tablet.handover (Some place) role is)) (go role is)
    where
      has_joined : ArePatient (closing_entry now number tablet (Some (record tablet.handover { role = Role.Joining (Some place) })))
      has_joined =
          let after : Tablet = with_handover tablet (record tablet.handover { role = Role.Joining (Some place) }) in
          let put = put_whole number (with_appended now (joined_entry tablet)) after (appended_beside number now (joined_entry tablet) beside) tt in
          record { order = put.order; each = put.each }

      go : (r : Role) → tablet.handover.role ≡ r → ArePatient (closing_entry now number tablet (in_role tablet.handover (role_joined (Some place) r)))
      go Role.Receiving is = has_joined
      go (Role.Joining None) is = has_joined
      go Role.Closing is = stays (subst (WaitsIn now tablet) (sym is) (waits is))
      go r is = stays_calm r is tt

  -- without it
  waits_for : (tablet.handover.role ≡ Role.Closing → WaitsIn now tablet Role.Closing) → WaitsIn now tablet (Role.Joining None) → (role : Role) → tablet.handover.role ≡ role
      → ArePatient (joining_at now number tablet (joined tablet.handover tablet.handover.term None))
  waits_for waits sides role is =
      subst (λ (moved : Option Handover). ArePatient (joining_at now number tablet moved)) (sym (joins tablet.handover None role is)) (go role is)
    where
      go : (r : Role) → tablet.handover.role ≡ r → ArePatient (joining_at now number tablet (in_role tablet.handover (role_joined None r)))
      go Role.Receiving is = put_whole number now (with_handover tablet (record tablet.handover { role = Role.Joining None })) beside sides
      go (Role.Joining None) is = stays (subst (WaitsIn now tablet) (sym is) sides)
      go (Role.Joining (Some entry)) is = stays_calm (Role.Joining (Some entry)) is tt
      go Role.Closing is = stays (subst (WaitsIn now tablet) (sym is) (waits is))
      go Role.Absent is = stays_calm Role.Absent is tt
      go Role.Serving is = stays_calm Role.Serving is tt
      go Role.Frozen is = stays_calm Role.Frozen is tt
      go (Role.Wanting from) is = stays_calm (Role.Wanting from) is tt
      go (Role.Rebuilding from entry) is = stays_calm (Role.Rebuilding from entry) is tt

module _ (master : Master) (number : ℕ) (patient : ArePatient master) (fresh : IsFresh master.log) where
  all_patient : ArePatient (pulled_all master number)
  all_patient =
      subst (λ (it : Tablet). ArePatient (joining_by (with_tablet after number (with_sealed (range_with_len start (length sides)))) number it it.pulling.sealed))
      (sym (at_put after number (with_sealed (range_with_len start (length sides))))) (go (length sides))
    where
      tablet : Tablet
      tablet = tablet_at master number

      sides : List (List Held)
      sides = sealed_sides tablet.pulling.sides

      after : Master
      after = fold with_side_segment master sides

      has : HasSides master after
      has = sides_on sides master (pieces_some tablet.pulling.sides) fresh

      start : ℕ
      start = FIRST_SIDE_SEGMENT + length master.log.sides

      with_sealed : List ℕ → Tablet
      with_sealed sealed = with_pulling tablet (record tablet.pulling { hashes = no_hashes; sides = [] ∷ [] ∷ [] ∷ [] ∷ []; sealed = sealed })

      whole : ArePatient after
      whole = patient_on master after has.on has.tablets patient

      closing_waits : (sealed : List ℕ) → (with_sealed sealed).handover.role ≡ Role.Closing → WaitsIn after (with_sealed sealed) Role.Closing
      closing_waits sealed is = has.on.staged tablet.handover.range (subst (WaitsIn master tablet) is (patient.each number))

      go : (count : ℕ) → ArePatient (joining_by (with_tablet after number (with_sealed (range_with_len start count))) number (with_sealed (range_with_len start count)) (range_with_len start count))
      go zero =
          let it : Tablet = with_sealed [] in
          closes (with_tablet after number it) number it (put_beside number after it (patient_beside number after whole)) (at_put after number it)
          (length after.log.entries) (closing_waits []) it.handover.role refl
      go (suc count) =
          let it : Tablet = with_sealed (range_with_len start (suc count)) in
          waits_for (with_tablet after number it) number it (put_beside number after it (patient_beside number after whole)) (at_put after number it)
          (closing_waits (range_with_len start (suc count)))
          (λ some.
          ap (λ (b : Bool). b && list_all (is_side_stored after.log) (range_with_len (start + 1) count))
          (has.on.stored (omega (arith, some, has.on.known)) start (side_missing master.log.known start FIRST_SIDE_SEGMENT master.log.sides (omega arith))))
          it.handover.role refl

-- ---- batches

pub replayed_log : (master : Master) (number worker : ℕ) (items : List Held) → (replay master number worker items).log ≡ master.log
replayed_log master number worker items =
    kept_by_fold (λ (now : Master). now.log ≡ master.log) (replay_one number worker)
    (λ now item kept. go now item (is_newer item (found item.table item.key now.records)) kept) items master refl
  where
    go : (now : Master) (item : Held) (b : Bool) → now.log ≡ master.log → (cond b (item_replayed number worker now item) now).log ≡ master.log
    go now item true kept = kept
    go now item false kept = kept

pub pulled_patient : (master : Master) → ArePatient master → IsFresh master.log → (pulled : Pulled) → ArePatient (pulled_taken master pulled).master
pulled_patient master patient fresh pulled =
    let number = pulled.tenure.tablet in
    let tablet = tablet_at master number in
    let worker = tablet.pulling.batches % 4 in
    let replayed = replay master number worker (items_of pulled.entries) in
    let now = token_passed replayed number pulled.next in
    let first : ArePatient replayed = replay_patient master number worker (items_of pulled.entries) patient in
    let then_is : ArePatient now = put_patient replayed number _ first (first.each number) in
    let still : IsFresh now.log = subst IsFresh (sym (replayed_log master number worker (items_of pulled.entries))) fresh in
    either_is ArePatient (is_receiving_at tablet pulled.tenure.term && is_token pulled.token tablet.pulling.token)
    (changed (batch_taken master number pulled)) (changed master)
    (either_patient (is_token pulled.next end) (pulled_all now number) now (all_patient now number then_is still) then_is) patient
