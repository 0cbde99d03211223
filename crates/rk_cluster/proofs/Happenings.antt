-- An event that came to a lane came to the cluster.
use Rattle.rk_cluster.proofs.Words.{◌≡◌, ◌≢◌, ◌<◌, ℕ, Bool, false, List, [], ◌∷◌, length, Option, None, Some, Result, Ok, Err, IfErr}
use Rattle.rk_cluster.proofs.Words.{IfOk, IfSome, IsSomeAnd, slice_get, slice_set, refl, sym, ap, subst, ◌∙◌, arith, option_map, cond}
use Rattle.rk_cluster.proofs.Words.{NumberMap, Segments, Called, Session, Cluster, Happens, cluster_stepped, lane_at, ReplicasTell}
use Rattle.rk_cluster.proofs.Words.{MayHappen, comes_anyway, refusal, AllTell, Stepped, step, stepped_by, told_by_replica, World, new_world}
use Rattle.rk_cluster.proofs.Words.{StepError, Event, Seen, IsRefused, IsStepOf, receiver_by, LaneState, Running, world_with}
use Rattle.rk_cluster.proofs.Words.{slice_get_within, acted_by, came_in, lost_in, worn_by, worn_in, IsActedAs, RunsTo, LanesGoOn, counts_in}
use Rattle.rk_cluster.proofs.Words.{Fate, Kept, answer_of, left_by, IsOf, IsWorld, IsLosing, lost_by, state_of}
use Rattle.std.specs.Option.{option_or}
use Rattle.rk_world.specs.Premises.{MayCome}
use Rattle.rk_world.specs.Refusals.{fault_of, worn}
use Rattle.rk_world.specs.Runs.{IsCalmEvent}
use Rattle.rk_world.specs.declared.error.StepError.TheVariants as causes
use Rattle.rk_lane.specs.Events.{IsStepFrom}
use Rattle.rk_lane.proofs.Steps.{calm_same, may_happen_same}
use Rattle.rk_cluster.specs.Effects.{ActsAs}
use Rattle.rk_cluster.specs.Replicas.{happening as happening_of}
use Rattle.rk_cluster.proofs.Failing.{HasFate, has_fate, refused_on, spent_on}
use Rattle.rk_cluster.proofs.Faults.{go_on_kept}
use Rattle.rk_cluster.proofs.Leading.{leads_by, leads_nowhere}
use Rattle.rk_cluster.proofs.Tells.{all_after}
use Rattle.rk_cluster.proofs.Worlds.{same_count, set_there, world_at, world_set}

-- ---- a refusal reads no backup

module _ (w : World) (stored : NumberMap Segments) where
  abbrev with_stored : World
  with_stored = record w { backups = stored }

  fault_same : (event : Event) → fault_of with_stored event ≡ fault_of w event
  fault_same event = grind arith

  refusal_same : (event : Event) → refusal with_stored event ≡ refusal w event
  refusal_same event =
      ap (λ (fault : Option StepError). cond (comes_anyway event) fault (option_or (option_map causes.Worn (worn w)) fault)) (fault_same event)

-- ---- an event might come to a lane

pub record MightCome (w : World) (event : Event) (called : Called) : Type 0 where
  pub may : MayHappen w event
  pub come : MayCome called
  pub calm : IsCalmEvent w event

-- what its replica answers in a world, if it calls one
abbrev pub answer_in : World → ℕ → Event → Fate → Called
answer_in w place event fate = told_by_replica w event (left_by fate place (receiver_by event w.wire))

module _ {R : Type 0} (segments : R → Option Segments) (faults : R → ℕ) where
  -- what comes of an event in a lane: it took it, and it might come there, or it refused it
  abbrev pub HasStepped : LaneState R → LaneState R → Option ℕ → World → Event → Called → Result Stepped StepError → Type 0
  HasStepped old new broken w event called (Ok stepped) = IsWorld segments new stepped.world × (broken ≡ None) × MightCome w event called
  HasStepped old new broken w event called (Err error) = (new ≡ old) × (broken ≡ worn_by error)

  -- so it is in each world that a lane represents
  abbrev pub StepsLane : ℕ → LaneState R → LaneState R → Event → Fate → Option ℕ → Type 0
  StepsLane place old new event fate broken =
      (w : World) → IsWorld segments old w → HasStepped old new broken w event (answer_in w place event fate) (step w event (answer_in w place event fate))

  -- so it shows in each of them whether a message was lost
  abbrev pub ShowsLost : ℕ → LaneState R → Event → Fate → Bool → Type 0
  ShowsLost place old event fate lost = (w : World) → IsWorld segments old w → lost_in (step w event (answer_in w place event fate)) ≡ lost

  module _ (lanes : List (LaneState R)) (place : ℕ) (old new : LaneState R) (there : slice_get lanes place ≡ Some old) (event : Event) where
    -- if a lane took an event
    module _ (seen : Seen) (it : IsStepOf segments faults event old new seen) where
      abbrev its_fate : HasFate faults lanes place old new there (receiver_by event it.before.wire) it.called
      its_fate = has_fate faults lanes place old new there (receiver_by event it.before.wire) it.called it.cause

      module _ (w : World) (is : IsWorld segments old w) where
        from : IsStepFrom segments (world_with old it.before is.stored) event it.called new it.after seen
        from = it.stepped is.stored is.told

        world_is : w ≡ world_with old it.before is.stored
        world_is =
            let same : Some it.before ≡ Some is.running = sym it.was ∙ is.runs in
            let running_is : is.running ≡ it.before = cc same in
            is.is ∙ ap (λ (running : Running). world_with old running is.stored) running_is

        all_tell : AllTell (world_with old it.before is.stored)
        all_tell = subst AllTell world_is is.all

        answer_is : answer_in (world_with old it.before is.stored) place event its_fate.fate ≡ it.called
        answer_is = its_fate.answers (world_with old it.before is.stored) event (from.given all_tell)

        -- the world after it, in which all replicas still report
        after_is : IsWorld segments new (world_with new it.after from.backups)
        after_is = record {
          running = it.after;
          runs = it.is;
          stored = from.backups;
          told = from.told;
          is = refl;
          all = all_after (world_with old it.before is.stored) event it.called (record { world = world_with new it.after from.backups; seen = seen }) all_tell from.stepped;
        }

        might : MightCome (world_with old it.before is.stored) event it.called
        might = record {
          may = may_happen_same (world_with old it.before []) (world_with old it.before is.stored) event refl it.comes.may;
          come = it.may;
          calm = calm_same (world_with old it.before is.stored) (length old.backups) [] event it.comes.calm;
        }

        taken_there : HasStepped old new None w event (answer_in w place event its_fate.fate) (step w event (answer_in w place event its_fate.fate))
        taken_there =
            subst (λ (v : World). HasStepped old new None v event (answer_in v place event its_fate.fate) (step v event (answer_in v place event its_fate.fate))) (sym world_is)
            (subst (λ (called : Called). HasStepped old new None (world_with old it.before is.stored) event called (step (world_with old it.before is.stored) event called)) (sym answer_is)
            (subst (HasStepped old new None (world_with old it.before is.stored) event it.called) (sym from.stepped) (after_is, refl, might)))

        taken_lost : lost_in (step w event (answer_in w place event its_fate.fate)) ≡ seen.lost
        taken_lost =
            ap (λ (v : World). lost_in (step v event (answer_in v place event its_fate.fate))) world_is
            ∙ ap (λ (called : Called). lost_in (step (world_with old it.before is.stored) event called)) answer_is
            ∙ ap lost_in from.stepped

      pub taken : StepsLane place old new event its_fate.fate None
      taken w is = taken_there w is

      pub taken_shows : ShowsLost place old event its_fate.fate seen.lost
      taken_shows w is = taken_lost w is

    -- if it refused one
    module _ (error : StepError) (other : error ≢ causes.NoMemory) (it : IsRefused faults event old new error) where
      refused_in : (w : World) → IsWorld segments old w → refusal w event ≡ Some error
      refused_in w is =
          let cause : IsSomeAnd old.running (λ running. refusal (world_with old running []) event ≡ Some error) = it.cause other in
          let known : refusal (world_with old is.running []) event ≡ Some error =
          subst (λ (running : Option Running). IsSomeAnd running (λ it. refusal (world_with old it []) event ≡ Some error)) is.runs cause in
          ap (λ (v : World). refusal v event) is.is ∙ refusal_same (world_with old is.running []) is.stored event ∙ known

      pub refused : StepsLane place old new event Kept (worn_by error)
      refused w is =
          subst (HasStepped old new (worn_by error) w event (answer_in w place event Kept)) (sym (ap (stepped_by w event (answer_in w place event Kept)) (refused_in w is))) (it.same other, refl)

      pub refused_shows : ShowsLost place old event Kept false
      refused_shows w is =
          ap (λ (found : Option StepError). lost_in (stepped_by w event (answer_in w place event Kept) found)) (refused_in w is)

  -- ---- in a cluster

  module _ (cluster : Cluster) (lanes : List (LaneState R)) (sessions : NumberMap Session) (place : ℕ) (old new : LaneState R) (event : Event) (called : Called) (broken : Option ℕ)
      (there : slice_get lanes place ≡ Some old) (is : IsOf segments (state_of lanes sessions) cluster) where
    abbrev Stood : Result Stepped StepError → Type 0
    Stood stepped = HasStepped old new broken (lane_at cluster place) event called stepped

    within_cluster : place < length cluster.lanes
    within_cluster = omega (arith, slice_get_within lanes place old there, same_count segments lanes cluster.lanes is.lanes)

    step_leads : (stepped : Result Stepped StepError) → step (lane_at cluster place) event called ≡ stepped → Stood stepped
        → ReplicasTell cluster (Happens place event called)
        → RunsTo cluster (came_in (Happens place event called) stepped) (cluster_stepped cluster place stepped)
    step_leads (Ok stepped) stepped_is has tell =
        subst (λ (it : Result Stepped StepError). RunsTo cluster (Happens place event called ∷ []) (cluster_stepped cluster place it)) stepped_is
        (leads_by cluster (Happens place event called) (within_cluster, has.2.may, has.2.come) has.2.calm tell)
    step_leads (Err error) stepped_is has tell = leads_nowhere cluster

    step_acted : (stepped : Result Stepped StepError) → Stood stepped → RunsTo cluster (came_in (Happens place event called) stepped) (cluster_stepped cluster place stepped)
        → IsActedAs segments cluster (state_of (slice_set lanes place new) sessions) [] broken
        (acted_by (Happens place event called) (cluster_stepped cluster place stepped) [] stepped)
    step_acted (Ok stepped) has leads = record {
      cluster = record { lanes = world_set segments lanes cluster.lanes place new stepped.world is.lanes has.0; sessions = is.sessions };
      leads = leads;
      said = refl;
      worn = sym has.1;
    }
    step_acted (Err error) has leads = record {
      cluster =
          subst (λ (now : List (LaneState R)). IsOf segments (state_of now sessions) cluster)
          (sym (ap (slice_set lanes place) has.0 ∙ set_there lanes place old there)) is;
      leads = leads;
      said = refl;
      worn = sym has.1;
    }

  module _ (lanes : List (LaneState R)) (place : ℕ) (old new : LaneState R) (event : Event) (there : slice_get lanes place ≡ Some old) where
    acts_there : (fate : Fate) (broken : Option ℕ) → StepsLane place old new event fate broken → (sessions : NumberMap Session)
        → ActsAs segments (state_of lanes sessions) (state_of (slice_set lanes place new) sessions) (λ cluster. happening_of cluster place event fate) [] broken
    acts_there fate broken steps sessions cluster is =
        let called = answer_of cluster place event fate in
        let stepped = step (lane_at cluster place) event called in
        let has = steps (lane_at cluster place) (world_at segments lanes cluster.lanes place old (new_world place 0 0) is.lanes there) in
        step_acted cluster lanes sessions place old new event called broken there is stepped has
        (step_leads cluster lanes sessions place old new event called broken there is stepped refl has
        (λ all. record { fault = left_by fate place (receiver_by event (lane_at cluster place).wire); told = refl }))

    losing : (fate : Fate) (broken : Option ℕ) (lost : Bool) → LanesGoOn faults (fate ∷ []) lanes (slice_set lanes place new) → StepsLane place old new event fate broken
        → ShowsLost place old event fate lost → IsLosing segments faults lanes (slice_set lanes place new) place event broken lost
    losing fate broken lost counts steps shows = record {
      happens = record { fate = fate; counts = counts; acts = acts_there fate broken steps };
      shows = λ sessions cluster is.
          shows (lane_at cluster place) (world_at segments lanes cluster.lanes place old (new_world place 0 0) is.lanes there);
    }

    -- no replica is called if nothing changes
    none_lost : LanesGoOn faults [] lanes (slice_set lanes place new) → LanesGoOn faults (Kept ∷ []) lanes (slice_set lanes place new)
    none_lost on = go_on_kept (counts_in faults lanes) (counts_in faults (slice_set lanes place new)) on

    -- nothing comes of a lane that is spent
    spent_stands : old.running ≡ None → (w : World) → IsWorld segments old w → ⊥
    spent_stands runs w is = let never : None ≡ Some is.running = sym runs ∙ is.runs in absurd (cc never)

    taken_here : (running : Option Running) → old.running ≡ running → (seen : Seen) → IfSome running (λ _. IsStepOf segments faults event old new seen)
        → (old.running ≡ None → new ≡ old) → IsLosing segments faults lanes (slice_set lanes place new) place event None seen.lost
    taken_here (Some running) runs seen it spent =
        let its = has_fate faults lanes place old new there (receiver_by event it.before.wire) it.called it.cause in
        losing its.fate None seen.lost its.counts (taken lanes place old new there event seen it) (taken_shows lanes place old new there event seen it)
    taken_here None runs seen it spent =
        losing Kept None seen.lost (none_lost (spent_on faults lanes place old new there (spent runs)))
        (λ w is. absurd (spent_stands runs w is)) (λ w is. absurd (spent_stands runs w is))

    pub happened : (answer : Result Seen StepError) → (answer ≡ Err causes.NoMemory → ⊥) → IfSome old.running (λ _. IfOk answer (IsStepOf segments faults event old new))
        → IfErr answer (IsRefused faults event old new) → (old.running ≡ None → new ≡ old)
        → IsLosing segments faults lanes (slice_set lanes place new) place event (worn_in answer) (lost_by answer)
    happened (Ok seen) memory ok err spent = taken_here old.running refl seen ok spent
    happened (Err error) memory ok err spent =
        let other : error ≢ causes.NoMemory = λ e. memory (ap Err e) in
        losing Kept (worn_by error) false (none_lost (refused_on faults lanes place old new there event error err))
        (refused lanes place old new there event error other err) (refused_shows lanes place old new there event error other err)
