-- A lane behind its lock stays so at each event.
use Rattle.rk_shared_lanes.proofs.Words.{arith, ◌≡◌, ◌≢◌, ℕ, [], ◌∷◌, List, length, Option, Some, None, Result, Ok, Err, refl, sym, ap}
use Rattle.rk_shared_lanes.proofs.Words.{subst, ◌∙◌, ⊎_elim, IfErr, IfOk, IfSome, Segments, BackupLane, Ledger, is_added, World, StepError}
use Rattle.rk_shared_lanes.proofs.Words.{Event, Seen, AreTold, IsSameLane, LaneState, Running, world_with, Counts, LanesGoOn}
use Rattle.rk_shared_lanes.proofs.Words.{HasSameClients, accepted_count, IsGoodLane, HasCountedCalls, IsKept, IsSoundOrSpent, StandsFor}
use Rattle.std.proofs.Common.{inl, inr}
use Rattle.std.specs.Prelude.{◌⊎◌}
use Rattle.rk_world.specs.Backup.{Called}
use Rattle.rk_world.specs.Premises.{MayHappen}
use Rattle.rk_world.specs.Refusals.{refusal}
use Rattle.rk_world.specs.Replicas.{IsTold}
use Rattle.rk_world.specs.Runs.{IsCalmEvent}
use Rattle.rk_world.specs.Step.{Stepped, happened, step, told_by_replica}
use Rattle.rk_world.specs.declared.error.StepError.TheVariants as errors
use Rattle.rk_lane.specs.Events.{IsAnswerOf, IsRefused, IsStepFrom, IsStepOf}
use Rattle.rk_lane.proofs.Backed.{by_failing}
use Rattle.rk_lane.proofs.Steps.{calm_same, may_happen_same}
use Rattle.rk_cluster.proofs.Failing.{lanes_stepped}
use Rattle.rk_laws_lanes.specs.Counts.{AddsNoClient, HasSameCounts}
use Rattle.rk_laws_lanes.proofs.Events.{good_event}
use Rattle.rk_laws_lanes.proofs.Ledgers.{same_clients, same_counts}
use Rattle.rk_laws_lanes.proofs.gathered.Counting.{event_counted}
use Rattle.rk_shared_lanes.proofs.Standing.{kept_with, sound_on, stands_on}

-- a refusal is want of memory, or something else
pub memory_or : (error : StepError) → (error ≡ errors.NoMemory) ⊎ (error ≢ errors.NoMemory)
memory_or errors.NoMemory = inl refl
memory_or _ = inr (λ e. cc e)

-- replicas that report what they store answered by it
told_so : (w : World) (event : Event) (called : Called) → IsAnswerOf (told_by_replica w event) called → IsTold w event called
told_so w event called answers = grind (arith, by_failing)

-- of no backup is it said what it stores
pub none_told : {R : Type 0} {segments : R → Option Segments} (backups : List (BackupLane R)) → AreTold segments backups []
none_told backups number thing found = absurd (cc found)

-- an event that was taken was not refused, and made just what it makes
pub record IsTaken (w : World) (event : Event) (called : Called) (after : World) : Type 0 where
  pub allowed : refusal w event ≡ None
  pub is : (happened w event called).world ≡ after

taken : (w : World) (event : Event) (called : Called) (stepped : Stepped) → step w event called ≡ Ok stepped → IsTaken w event called stepped.world
taken w event called stepped is = grind arith

-- a ledger has counted its calls if another ledger did that has its journal, its asked calls and its clients
counted_same : (before after : Ledger) → after.journal ≡ before.journal → after.asked ≡ before.asked → after.clients ≡ before.clients
    → HasCountedCalls before → HasCountedCalls after
counted_same before after journal asked clients counted = grind arith

module _ {R : Type 0} (segments : R → Option Segments) (faults : R → ℕ) (old new : LaneState R) (event : Event) (same : IsSameLane old new) where
  -- ---- an event that was taken

  module _ (seen : Seen) (it : IsStepOf segments faults event old new seen) where
    -- the worlds without what backups store
    abbrev before : World
    before = world_with old it.before []

    pub taken_here : IsTaken before event it.called (world_with new it.after ((it.stepped [] (none_told old.backups)).backups))
    taken_here =
        let from : IsStepFrom segments before event it.called new it.after seen = it.stepped [] (none_told old.backups) in
        taken before event it.called (record { world = world_with new it.after from.backups; seen = seen }) from.stepped

    counts_stay : HasSameCounts old.ledger new.ledger
    counts_stay = subst (λ (w : World). HasSameCounts old.ledger w.ledger) taken_here.is (same_counts before event it.called)

    clients_stay : AddsNoClient event → HasSameClients old.ledger new.ledger
    clients_stay none = subst (λ (w : World). HasSameClients old.ledger w.ledger) taken_here.is (same_clients before event it.called none)

    counted_after : HasCountedCalls old.ledger → HasCountedCalls new.ledger
    counted_after counted = subst (λ (w : World). HasCountedCalls w.ledger) taken_here.is (event_counted before event it.called counted)

    stands_after : StandsFor segments old it.before → StandsFor segments new it.after
    stands_after stood =
        let w : World = world_with old it.before stood.stored in
        let from : IsStepFrom segments w event it.called new it.after seen = it.stepped stood.stored stood.told in
        let got = taken w event it.called (record { world = world_with new it.after from.backups; seen = seen }) from.stepped in
        let may : MayHappen w event = may_happen_same (world_with old it.before []) w event refl it.comes.may in
        let calm : IsCalmEvent w event = calm_same w (length old.backups) [] event it.comes.calm in
        let told : IsTold w event it.called = told_so w event it.called (from.given stood.good.steady.tell) in
        let good : IsGoodLane old.masters old.number (happened w event it.called).world =
        good_event old.masters old.number w event it.called stood.good may it.may told calm got.allowed in
        stands_on segments old new same it.before it.after from.backups from.told (subst (IsGoodLane old.masters old.number) got.is good)

  -- ---- any answer

  -- a lane stays sound or spent
  pub sound_stepped : (running : Option Running) → old.running ≡ running → (answer : Result Seen StepError)
      → IfSome running (λ _. IfOk answer (IsStepOf segments faults event old new)) → IfErr answer (IsRefused faults event old new) → (running ≡ None → new ≡ old)
      → IsSoundOrSpent segments old → IsSoundOrSpent segments new
  sound_stepped None is answer ok err spent sound = subst (IsSoundOrSpent segments) (sym (spent refl)) sound
  sound_stepped (Some running) is (Ok seen) ok err spent sound = sound_on segments old new same ok.before ok.after ok.was ok.is (stands_after seen ok) sound
  sound_stepped (Some running) is (Err error) ok err spent sound =
      ⊎_elim
      (λ (memory : error ≡ errors.NoMemory). subst (λ (after : Option Running). IfSome after (StandsFor segments new)) (sym (err.spent memory)) tt)
      (λ (other : error ≢ errors.NoMemory). subst (IsSoundOrSpent segments) (sym (err.same other)) sound) (memory_or error)

  -- no count of faults of its replicas falls
  pub none_falls : (answer : Result Seen StepError) → IfSome old.running (λ _. IfOk answer (IsStepOf segments faults event old new))
      → IfErr answer (IsRefused faults event old new) → (old.running ≡ None → new ≡ old) → LanesGoOn faults [] (old ∷ []) (new ∷ [])
  none_falls answer ok err spent = lanes_stepped faults (old ∷ []) 0 old new refl segments event answer ok err spent

  module _ (tells : Type 0) (masters backups : ℕ) (clients : List ℕ) (counts : Counts) (accepted asked number : ℕ × ℕ) (kept : IsKept segments faults tells masters backups clients counts old accepted asked number)
      (on : LanesGoOn faults [] (old ∷ []) (new ∷ [])) where
    kept_same : new ≡ old → IsKept segments faults tells masters backups clients counts new accepted asked number
    kept_same is = subst (λ (lane : LaneState R). IsKept segments faults tells masters backups clients counts lane accepted asked number) (sym is) kept

    -- what it counts is as it was
    kept_counts : HasSameClients old.ledger new.ledger → HasSameCounts old.ledger new.ledger → (HasCountedCalls old.ledger → HasCountedCalls new.ledger)
        → (tells → IsSoundOrSpent segments new) → IsKept segments faults tells masters backups clients counts new accepted asked number
    kept_counts added alike counted sound =
        kept_with segments faults tells masters backups clients counts old new same accepted asked number accepted asked kept added on
        (kept.asked_is.0, kept.asked_is.1 ∙ sym alike.asked) kept.accepted_part (λ told. kept.accepted_is told ∙ sym alike.accepted) (λ told. counted (kept.counted told)) sound

    kept_taken : AddsNoClient event → (seen : Seen) → IsStepOf segments faults event old new seen → IsKept segments faults tells masters backups clients counts new accepted asked number
    kept_taken none seen it =
        kept_counts (clients_stay seen it none) (counts_stay seen it) (counted_after seen it)
        (λ told. sound_on segments old new same it.before it.after it.was it.is (stands_after seen it) (kept.sound told))

    -- a refusal for want of memory leaves it spent, and what a spent lane keeps is as it was
    kept_refused : (error : StepError) → IsRefused faults event old new error → IsKept segments faults tells masters backups clients counts new accepted asked number
    kept_refused error it =
        ⊎_elim
        (λ (memory : error ≡ errors.NoMemory).
        kept_counts (λ client. ap (λ (map : _). is_added (record old.ledger { clients = map }) client) it.clients)
        (record { accepted = ap (λ (journal : _). accepted_count (record old.ledger { journal = journal })) it.journal; asked = it.asked })
        (counted_same old.ledger new.ledger it.journal it.asked it.clients)
        (λ told. subst (λ (running : Option Running). IfSome running (StandsFor segments new)) (sym (it.spent memory)) tt))
        (λ (other : error ≢ errors.NoMemory). kept_same (it.same other)) (memory_or error)

    pub kept_stepped : AddsNoClient event → (running : Option Running) → old.running ≡ running → (answer : Result Seen StepError)
        → IfSome running (λ _. IfOk answer (IsStepOf segments faults event old new)) → IfErr answer (IsRefused faults event old new) → (running ≡ None → new ≡ old)
        → IsKept segments faults tells masters backups clients counts new accepted asked number
    kept_stepped none None is answer ok err spent = kept_same (spent refl)
    kept_stepped none (Some running) is (Ok seen) ok err spent = kept_taken none seen ok
    kept_stepped none (Some running) is (Err error) ok err spent = kept_refused error err
