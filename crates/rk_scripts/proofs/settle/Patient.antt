-- What tablets of a master wait for has not come yet: if one closes, something of it is staged, and if a target has all but its closing
-- entry, not every side segment of it is stored. Here so it stays at the small changes of a master.
use Rattle.std.proofs.Common.{◌≡◌, ◌≤◌, ◌+◌, ◌==◌, ℕ, zero, suc, Bool, true, false, cond, List, [], ◌∷◌, ◌++◌, length, Option, None, Some}
use Rattle.std.proofs.Common.{refl, sym, ◌∙◌, subst, arith, drop, get_or, unwrap_or, option_map}
use Rattle.std.proofs.lemmas.List.Folds.{list_all_at, list_any-append}
use Rattle.rk_inv_base.proofs.Words.{or_left}
use Rattle.rk_inv_lanes.proofs.applied.Logs.{fails_at}
use Rattle.rk_scripts.proofs.Words.{list_all, list_any, option_map_or, cases_eq, false≢true, in_order_changed, in_order_insert, IsInOrder}
use Rattle.rk_scripts.proofs.Words.{changed_each, get, Held, Entry, FIRST_SIDE_SEGMENT, Known, is_whole, known_length, Log, is_side_stored}
use Rattle.rk_scripts.proofs.Words.{numbered, segment_of, NumberedBytes, Role, Master, is_settled, staged, tablet_at, touches, with_all}
use Rattle.rk_scripts.proofs.Words.{with_appended, with_side_segment, with_tablet, as_entries, Tablet, no_tablet, is_sealed_stored}
use Rattle.rk_scripts.proofs.Words.{kept_by_fold, found_changed, lt-leb}
use Rattle.rk_entry.specs.Entries.{spelled_all}
use Rattle.rk_inv_base.proofs.logs.Segments.{numbered_past}
pub use Rattle.rk_inv_base.proofs.views.Masters.{tablet_apart as at_other, tablet_here as at_put}

-- what a tablet in a role waits for has not come
abbrev pub WaitsIn : Master → Tablet → Role → Type 0
WaitsIn master tablet Role.Closing = is_settled master tablet.handover.range ≡ false
WaitsIn master tablet (Role.Joining None) = 1 ≤ length master.log.known → is_sealed_stored master tablet ≡ false
WaitsIn master tablet role = Unit {0}

-- what a tablet waits for has not come
abbrev pub Waits : Master → Tablet → Type 0
Waits master tablet = WaitsIn master tablet tablet.handover.role

-- a role in which nothing is waited for
abbrev pub IsCalmRole : Role → Type 0
IsCalmRole Role.Closing = ⊥
IsCalmRole (Role.Joining None) = ⊥
IsCalmRole role = Unit {0}

pub calm_waits : (master : Master) (tablet : Tablet) (role : Role) → IsCalmRole role → WaitsIn master tablet role
calm_waits master tablet role calm = grind arith

-- nothing that the tablets of a master wait for has come, but for one of them perhaps
pub record ArePatientBeside (number : ℕ) (master : Master) : Type 0 where
  pub order : IsInOrder master.tablets
  pub each : (q : ℕ) → (q ≡ number → ⊥) → Waits master (tablet_at master q)

-- nothing that the tablets of a master wait for has come
pub record ArePatient (master : Master) : Type 0 where
  pub order : IsInOrder master.tablets
  pub each : (q : ℕ) → Waits master (tablet_at master q)

pub patient_beside : (number : ℕ) (master : Master) → ArePatient master → ArePatientBeside number master
patient_beside number master patient = record { order = patient.order; each = λ q apart. patient.each q }

pub patient_whole : (number : ℕ) (master : Master) → ArePatientBeside number master → Waits master (tablet_at master number) → ArePatient master
patient_whole number master beside own = grind (arith, tablet_at, cases_eq)

-- ---- tablets

pub put_beside : (number : ℕ) (master : Master) (tablet : Tablet) → ArePatientBeside number master → ArePatientBeside number (with_tablet master number tablet)
put_beside number master tablet patient = search (in_order_insert, at_other, master.tablets, patient.order, patient.each)

-- one tablet is so
pub put_whole : (number : ℕ) (master : Master) (tablet : Tablet) → ArePatientBeside number master → Waits master tablet → ArePatient (with_tablet master number tablet)
put_whole number master tablet patient own = patient_whole number (with_tablet master number tablet)
    (put_beside number master tablet patient) (subst (Waits master) (sym (at_put master number tablet)) own)

pub put_patient : (master : Master) (number : ℕ) (tablet : Tablet) → ArePatient master → Waits master tablet → ArePatient (with_tablet master number tablet)
put_patient master number tablet patient own = put_whole number master tablet (patient_beside number master patient) own

-- each tablet is changed
pub changed_patient : (master : Master) (change : ℕ → Tablet → Tablet) → ((q : ℕ) (tablet : Tablet) → Waits master tablet → Waits master (change q tablet))
    → ArePatient master → ArePatient (record master { tablets = changed_each change master.tablets })
changed_patient master change keeps patient = record {
  order = in_order_changed change master.tablets patient.order;
  each = λ q. go q (get master.tablets q) (patient.each q) (found_changed change master.tablets q);
}
  where
    go : (q : ℕ) (found : Option Tablet) → Waits master (unwrap_or found no_tablet) → get (changed_each change master.tablets) q ≡ option_map (change q) found
        → Waits master (unwrap_or (get (changed_each change master.tablets) q) no_tablet)
    go q None waits is = subst (λ (o : Option Tablet). Waits master (unwrap_or o no_tablet)) (sym is) waits
    go q (Some tablet) waits is = subst (λ (o : Option Tablet). Waits master (unwrap_or o no_tablet)) (sym is) (keeps q tablet waits)

-- ---- a later master waits for all that one waits for

pub record WaitsOn (before after : Master) : Type 0 where
  pub staged : (range : _) → is_settled before range ≡ false → is_settled after range ≡ false
  pub known : length after.log.known ≡ length before.log.known
  pub stored : 1 ≤ length before.log.known → (number : ℕ) → is_side_stored before.log number ≡ false → is_side_stored after.log number ≡ false

-- not all pass still
some_fails : (test other : ℕ → Bool) (list : List ℕ) → ((n : ℕ) → test n ≡ false → other n ≡ false) → list_all test list ≡ false → list_all other list ≡ false
some_fails test other list each fails =
    let at = fails_at test list 0 fails in list_all_at other list at.place 0 at.within (each (get_or list at.place 0) at.fails)

pub waits_on : (before after : Master) → WaitsOn before after → (tablet : Tablet) (role : Role) → WaitsIn before tablet role → WaitsIn after tablet role
waits_on before after on tablet Role.Closing waits = on.staged tablet.handover.range waits
waits_on before after on tablet (Role.Joining None) waits =
    grind (arith, some_fails, is_side_stored, before.log.known, on.known, before.log, after.log, tablet.pulling.sealed, on.stored)
waits_on before after on tablet _ waits = waits

pub beside_on : (number : ℕ) (before after : Master) → WaitsOn before after → after.tablets ≡ before.tablets → ArePatientBeside number before → ArePatientBeside number after
beside_on number before after on same patient = grind (arith, no_tablet, waits_on, tablet_at)

pub patient_on : (before after : Master) → WaitsOn before after → after.tablets ≡ before.tablets → ArePatient before → ArePatient after
patient_on before after on same patient = grind (arith, no_tablet, waits_on, tablet_at)

-- ---- entries

any_more : (test : Entry → Bool) (list more : List Entry) → list_any test list ≡ true → list_any test (list ++ more) ≡ true
any_more test list more some = list_any-append test list more ∙ or_left (list_any test list) (list_any test more) some

any_past : (test : Entry → Bool) (count : ℕ) (list more : List Entry) → list_any test (drop count list) ≡ true → list_any test (drop count (list ++ more)) ≡ true
any_past test zero list more some = any_more test list more some
any_past test (suc count) [] more none = absurd (false≢true none)
any_past test (suc count) (entry ∷ list) more some = any_past test count list more some

pub appended_on : (master : Master) (entry : Entry) → WaitsOn master (with_appended master entry)
appended_on master entry = grind (arith, staged, any_past, touches, false≢true)

pub appended_beside : (number : ℕ) (master : Master) (entry : Entry) → ArePatientBeside number master → ArePatientBeside number (with_appended master entry)
appended_beside number master entry patient = beside_on number master (with_appended master entry) (appended_on master entry) refl patient

pub appended_patient : (master : Master) (entry : Entry) → ArePatient master → ArePatient (with_appended master entry)
appended_patient master entry patient = patient_on master (with_appended master entry) (appended_on master entry) refl patient

pub all_patient : (list : List Entry) (master : Master) → ArePatient master → ArePatient (with_all master list)
all_patient list master patient = kept_by_fold ArePatient with_appended (λ now entry kept. appended_patient now entry kept) list master patient

-- ---- side segments

-- the first backup is known to hold nothing of side segments that are not there
abbrev pub IsFresh : Log → Type 0
IsFresh log = (segment : ℕ) → FIRST_SIDE_SEGMENT + length log.sides ≤ segment → known_length (get_or log.known 0 []) segment ≡ 0

-- whether all are known to hold a segment of a list
abbrev stored_in : List Known → ℕ → List NumberedBytes → Bool
stored_in known number list = option_map_or (λ segment. list_all (λ k. is_whole k segment) known) (segment_of number list) false

-- one with bytes of which nothing is known to be held
not_whole : (known : List Known) (number : ℕ) (bytes : List ℕ) → 1 ≤ length known → 1 ≤ length bytes → known_length (get_or known 0 []) number ≡ 0
    → list_all (λ k. is_whole k (record { number = number; bytes = bytes })) known ≡ false
not_whole [] number bytes some long none = absurd (omega (arith, some))
not_whole (first ∷ known) number bytes some long none = grind (arith, is_whole, lt-leb, known_length)

side_still : (known : List Known) (number first : ℕ) (sides : List (List ℕ)) (bytes : List ℕ) → 1 ≤ length known → 1 ≤ length bytes
    → known_length (get_or known 0 []) (first + length sides) ≡ 0 → stored_in known number (numbered first sides) ≡ false
    → stored_in known number (numbered first (sides ++ bytes ∷ [])) ≡ false
side_still known number first [] bytes some long none is = go (first == number) refl
  where
    at : first + 0 ≡ first
    at = omega arith

    go : (b : Bool) → (first == number) ≡ b
        → option_map_or (λ segment. list_all (λ k. is_whole k segment) known) (cond b (Some (record { number = first; bytes = bytes })) None) false ≡ false
    go true here = not_whole known first bytes some long (subst (λ (n : ℕ). known_length (get_or known 0 []) n ≡ 0) at none)
    go false apart = refl
side_still known number first (side ∷ sides) bytes some long none is =
    let further : first + suc (length sides) ≡ suc first + length sides = omega arith in
    go (side_still known number (suc first) sides bytes some long (subst (λ (n : ℕ). known_length (get_or known 0 []) n ≡ 0) further none))
    (first == number) is
  where
    go : (stored_in known number (numbered (suc first) sides) ≡ false → stored_in known number (numbered (suc first) (sides ++ bytes ∷ [])) ≡ false) → (b : Bool)
        → option_map_or (λ segment. list_all (λ k. is_whole k segment) known) (cond b (Some (record { number = first; bytes = side })) (segment_of number (numbered (suc first) sides))) false ≡ false
        → option_map_or (λ segment. list_all (λ k. is_whole k segment) known) (cond b (Some (record { number = first; bytes = side })) (segment_of number (numbered (suc first) (sides ++ bytes ∷ [])))) false ≡ false
    go later true is = is
    go later false is = later is

-- a side segment that is not there is not stored
pub side_missing : (known : List Known) (number first : ℕ) (sides : List (List ℕ)) → first + length sides ≤ number → stored_in known number (numbered first sides) ≡ false
side_missing known number first sides past = grind (arith, is_whole, numbered_past)

-- a side segment with bytes becomes known to the log, if the first backup is known to hold nothing of it
pub side_on : (master : Master) (items : List Held) → IsFresh master.log → 1 ≤ length (spelled_all (as_entries items)) → WaitsOn master (with_side_segment master items)
side_on master items fresh long = record {
  staged = λ range is. is;
  known = refl;
  stored = λ some number is.
      side_still master.log.known number FIRST_SIDE_SEGMENT master.log.sides (spelled_all (as_entries items)) some long
      (fresh (FIRST_SIDE_SEGMENT + length master.log.sides) (omega arith)) is;
}
