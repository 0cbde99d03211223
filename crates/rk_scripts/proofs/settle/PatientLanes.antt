-- Nothing that the tablets of a master wait for has come: in each lane of a cluster to which a run of a new one has led.
use Rattle.std.proofs.Common.{◌≡◌, ◌<◌, ◌≤◌, ◌+◌, ◌==◌, ℕ, zero, suc, Bool, true, false, cond, List, [], ◌∷◌, ◌++◌, length, Option, None}
use Rattle.std.proofs.Common.{Some, refl, sym, ap, subst, ◌∙◌, ⊎_elim, arith, length-append, get_or, unwrap_or, eqb-true}
use Rattle.rk_scripts.proofs.Words.{cases_eq, get, LANES, FIRST_SIDE_SEGMENT, NumberedBytes, cut, Known, known_length, Log, bytes_of}
use Rattle.rk_scripts.proofs.Words.{numbered, segment_of, side_segments, Called, Cluster, lane_at, IsWellFormed, Master, new_master}
use Rattle.rk_scripts.proofs.Words.{refusal, HasRoom, world_stepped, step, stepped_by, World, master_at, new_world, with_master, StepError}
use Rattle.rk_scripts.proofs.Words.{Event, view, IsSound, master_other, master_same}
use Rattle.rk_sound.specs.Logs.{stored_of}
use Rattle.rk_inv_base.proofs.views.Fresh.{each_fresh}
use Rattle.rk_inv_lanes.proofs.Below.{IsKept, Part, accept_keeps, ask_keeps, event_keeps}
use Rattle.rk_inv_lanes.proofs.applied.Lanes.{few_of}
use Rattle.rk_scripts.proofs.play.Reaching.{IsReached}
use Rattle.rk_scripts.proofs.settle.Patient.{ArePatient, IsFresh, put_patient}
use Rattle.rk_scripts.proofs.settle.PatientPulls.{pulled_patient}
use Rattle.rk_scripts.proofs.settle.PatientSteps.{either_patient, step_patient, turn_patient}
use Rattle.rk_scripts.proofs.settle.Reached.{reached_lane}
use Rattle.rk_runs.proofs.duties.Runs.{IsKeptByLanes}
use Rattle.rk_inv_base.proofs.logs.Segments.{numbered_past}

-- ---- what no backup can hold

-- a segment of this number is not among these, nor behind them
missing_behind : (main : List (List ℕ)) (first number : ℕ) (more : List NumberedBytes) → first + length main ≤ number → segment_of number more ≡ None
    → segment_of number (numbered first main ++ more) ≡ None
missing_behind [] first number more past none = none
missing_behind (bytes ∷ main) first number more past none =
    go (λ further. missing_behind main (suc first) number more further none) (first == number) refl
  where
    go : (suc first + length main ≤ number → segment_of number (numbered (suc first) main ++ more) ≡ None) → (b : Bool) → (first == number) ≡ b
        → cond b (Some (record { number = first; bytes = bytes })) (segment_of number (numbered (suc first) main ++ more)) ≡ None
    go later true here = absurd (omega (arith, past, eqb-true first number here))
    go later false apart = later (omega (arith, past))

no_bytes : (log : Log) (segment : ℕ) → length (cut log.entries) < FIRST_SIDE_SEGMENT → FIRST_SIDE_SEGMENT + length log.sides ≤ segment → bytes_of log segment ≡ []
no_bytes log segment few past = grind (arith, missing_behind, cut, side_segments, numbered_past)

few_segments : (w : World) → IsWellFormed w → HasRoom w → (number : ℕ) → length (cut (master_at w number).log.entries) < FIRST_SIDE_SEGMENT
few_segments w formed room number = go (get w.masters number) refl
  where
    go : (found : Option Master) → get w.masters number ≡ found → length (cut (unwrap_or found (new_master number [])).log.entries) < FIRST_SIDE_SEGMENT
    go None is = omega arith
    go (Some there) is = (few_of w number there formed room.bytes is).few

fresh_at : (w : World) → IsSound w → IsWellFormed w → HasRoom w → (number : ℕ) → IsFresh (master_at w number).log
fresh_at w sound formed room number segment past = go (length log.known) refl
  where
    log : Log
    log = (master_at w number).log

    none : (list : List Known) → length list ≡ 0 → known_length (get_or list 0 []) segment ≡ 0
    none [] is = refl
    none (k ∷ list) is = absurd (omega (arith, is))

    go : (count : ℕ) → length log.known ≡ count → known_length (get_or log.known 0 []) segment ≡ 0
    go zero is = none log.known is
    go (suc count) is =
        let copy = (sound.logs.each number).copies 1 (record { first = omega arith; last = omega (arith, is) }) in
        let front = copy.front segment in
        omega (
          arith,
          copy.told segment,
          ap (λ (bytes : List ℕ). length bytes) (sym (no_bytes log segment (few_segments w formed room number) past) ∙ front.parts),
          length-append (stored_of (view w).stored number 1 segment) front.more,
        )

-- ---- a lane

-- each master of a lane is patient
abbrev pub AllPatient : World → Type 0
AllPatient w = (master : ℕ) → ArePatient (master_at w master)

abbrev Patience : Part
Patience masters count backups = (master : ℕ) → ArePatient (unwrap_or (get masters master) (new_master master []))

module _ (w : World) (patient : AllPatient w) where
  put_master : (number : ℕ) (master : Master) → ArePatient master → AllPatient (with_master w number master)
  put_master number master now q = grind (arith, master_same, master_other, cases_eq)

  patient_kept : ((number : ℕ) → IsFresh (master_at w number).log) → IsKept Patience w
  patient_kept fresh =
      search (put_master, step_patient, pulled_patient, turn_patient, put_patient, either_patient)

patient_stepped : (w : World) (event : Event) (called : Called) → ((number : ℕ) → IsFresh (master_at w number).log) → AllPatient w → AllPatient (world_stepped w (step w event called))
patient_stepped w event called fresh patient = go (refusal w event)
  where
    go : (refused : Option StepError) → AllPatient (world_stepped w (stepped_by w event called refused))
    go None = event_keeps Patience w (patient_kept w patient fresh) event called
    go (Some error) = patient

patient_new : (lane masters backups : ℕ) → AllPatient (new_world lane masters backups)
patient_new lane masters backups master =
    subst ArePatient (sym (each_fresh lane masters backups master).is_new) (record { order = tt; each = λ q. tt })

-- lanes keep it
patience_kept : IsKeptByLanes AllPatient
patience_kept = record {
  starts = patient_new;
  steps = λ masters lane w good event called patient. patient_stepped w event called (fresh_at w good.sound good.formed good.room) patient;
  asks = λ w session patient. ask_keeps Patience w patient session;
  accepts = λ w number session patient. accept_keeps Patience w patient number session;
}

-- so it is in a cluster to which a run of a new one has led
pub reached_patient : (masters backups : ℕ) (cluster : Cluster) → IsReached masters backups cluster → (lane : ℕ) → lane < LANES
    → AllPatient (lane_at cluster lane)
reached_patient masters backups cluster reached = reached_lane masters backups cluster reached AllPatient patience_kept
