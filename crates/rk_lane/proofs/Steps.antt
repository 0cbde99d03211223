-- An event of the parts of a lane and of its backups is one of the lane.
use Rattle.rk_lane.proofs.Words.{arith, ◌≡◌, ℕ, Bool, false, cond, [], length, vec_capacity, Option, None, Some, IfOk, IfSome, Result, Ok}
use Rattle.rk_lane.proofs.Words.{Err, refl, sym, ap, subst, ◌∙◌, Vec, NumberMap, option_map, option_or, Segments, BackupLane, comes_anyway}
use Rattle.rk_lane.proofs.Words.{fault_of, refusal, worn, AllTell, Stepped, happened, stepped_by, told_by_replica, World, new_world}
use Rattle.rk_lane.proofs.Words.{StepError, Event, Seen, IsAnswerOf, IsArrivalIn, IsStepOf, MayComeTo, MayStep, IsHappened, IsUnhappened, get, lane_of}
use Rattle.rk_lane.proofs.Words.{IsSameLane, world_with, IsSameParts, running_of, world_of, Inside, Parts}
use Rattle.std.proofs.Common.{◌≢◌, IfErr}
use Rattle.rk_types.specs.declared.node.Node.TheVariants as nodes
use Rattle.rk_world.specs.Premises.{MayHappen}
use Rattle.rk_world.specs.Runs.{IsCalmEvent}
use Rattle.rk_world.specs.declared.error.StepError.TheVariants as errors
use Rattle.rk_world.specs.declared.event.Event.TheVariants as events
use Rattle.rk_lane.specs.declared.messages.Arrival.{Arrival}
use Rattle.rk_lane.specs.Happened.{IsToldAfter}
use Rattle.rk_lane.specs.Lane.{IsLane}
use Rattle.rk_lane.specs.Spent.{is_out_of_memory}
use Rattle.rk_lane.proofs.Quiet.{masters_counted}

-- ---- causes

module _ (w : World) (count : ℕ) (stored : NumberMap Segments) where
  -- a world with other backups
  abbrev with_backups : World
  with_backups = record w { backup_count = count; backups = stored }

  -- a refusal reads no backup
  fault_same : (event : Event) → fault_of with_backups event ≡ fault_of w event
  fault_same (events.Turn (nodes.Client client)) = refl
  fault_same _ = refl

  refusal_same : (event : Event) → refusal with_backups event ≡ refusal w event
  refusal_same event =
      ap (λ (fault : Option StepError). cond (comes_anyway event) fault (option_or (option_map errors.Worn (worn w)) fault)) (fault_same event)

-- ---- what may come

-- what an event may name depends on how many masters there are
pub may_happen_same : (w other : World) (event : Event) → w.coordinator.masters ≡ other.coordinator.masters → MayHappen w event → MayHappen other event
may_happen_same w other event same may = grind arith

-- whether a crash is calm depends on no backup
pub calm_same : (w : World) (count : ℕ) (stored : NumberMap Segments) (event : Event) → IsCalmEvent (record w { backup_count = count; backups = stored }) event → IsCalmEvent w event
calm_same w count stored (events.Crash master) calm = calm
calm_same w count stored _ calm = tt

-- what may come to a lane that is not spent may come to its parts
pub may_come : {R : Type 0} (lane : Inside R) (event : Event) → lane.spent ≡ false → IsLane lane → MayComeTo (lane_of lane) event → MayStep (world_of lane.parts []) event
may_come lane event live is_lane may = record {
  may =
      may_happen_same (new_world lane.parts.number (length lane.parts.masters.items) (length lane.backups.items)) (world_of lane.parts []) event
      (sym (masters_counted lane.parts (is_lane.kept live))) may.may;
  calm =
      calm_same (world_of lane.parts []) (length lane.backups.items) [] event
      (may.calm (running_of lane.parts) (ap (λ (b : Bool). cond b None (Some (running_of lane.parts))) live));
}

-- what arrives in a lane that is not spent is on the wire of its parts
pub arrived_there : {R : Type 0} (lane : Inside R) (arrival : Arrival) → lane.spent ≡ false → IsArrivalIn (lane_of lane) arrival
    → get lane.parts.wire.messages arrival.number ≡ Some arrival.message
arrived_there lane arrival live is =
    subst (λ (spent : Bool). IfSome (cond spent None (Some (running_of lane.parts))) (λ running. get running.wire.messages arrival.number ≡ Some arrival.message)) live is

-- ---- a lane that is not spent

module _ {R : Type 0} (segments : R → Option Segments) (faults : R → ℕ) (lane : Inside R) (event : Event) (new : Parts) (backups : Vec (BackupLane R))
    (live : lane.spent ≡ false) (is_lane : IsLane lane) where
  -- the lane afterwards
  abbrev lane_then : Bool → Inside R
  lane_then spent = record lane { parts = new; backups = backups; spent = spent }

  runs : (spent : Bool) (parts : Parts) → spent ≡ false → cond spent None (Some (running_of parts)) ≡ Some (running_of parts)
  runs spent parts is = ap (λ (b : Bool). cond b None (Some (running_of parts))) is

  -- it took the event
  pub step_of_lane : (seen : Seen) (spent : Bool) → spent ≡ false → MayStep (world_of lane.parts []) event
      → IsHappened segments faults event lane.parts lane.backups.items new backups.items seen
      → IsStepOf segments faults event (lane_of lane) (lane_of (lane_then spent)) seen
  step_of_lane seen spent lives may happened_so = record {
    before = running_of lane.parts;
    after = running_of new;
    was = runs lane.spent lane.parts live;
    is = runs spent new lives;
    called = happened_so.called;
    comes = grind (arith, world_of, lane.parts, is_lane.count);
    may = happened_so.may;
    room = grind (arith, world_of, happened_so.lane.backups, is_lane.count, happened_so.count, happened_so.kept.formed.room);
    cause = happened_so.cause;
    stepped = λ stored are.
        let told : IsToldAfter segments lane.parts event happened_so.called new backups.items seen stored = happened_so.made stored are in
        let allowed : refusal (world_with (lane_of lane) (running_of lane.parts) stored) event ≡ None =
        refusal_same (world_of lane.parts []) (length lane.backups.items) stored event ∙ happened_so.allowed in
        record {
          backups = told.now;
          stepped =
              ap (stepped_by (world_with (lane_of lane) (running_of lane.parts) stored) event happened_so.called) allowed
              ∙ ap (λ (stepped : Stepped). Ok stepped)
              (ap (λ (count : ℕ). happened (record (world_of lane.parts stored) { backup_count = count }) event happened_so.called) is_lane.count
              ∙ told.made
              ∙ ap (λ (count : ℕ). record { world = record (world_of new told.now) { backup_count = count }; seen = seen })
              (happened_so.lane.backups ∙ sym is_lane.count ∙ sym happened_so.count));
          told = told.told;
          given = λ all.
              subst (λ (count : ℕ). IsAnswerOf (told_by_replica (record (world_of lane.parts stored) { backup_count = count }) event) happened_so.called) (sym is_lane.count)
              (told.given (subst (λ (count : ℕ). AllTell (record (world_of lane.parts stored) { backup_count = count })) is_lane.count all));
        };
  }

  -- it is one lane still
  pub same_lane : (spent : Bool) → IsSameParts lane.parts new → length backups.items ≡ length lane.backups.items → IsSameLane (lane_of lane) (lane_of (lane_then spent))
  same_lane spent same count = record { number = same.number; masters = same.masters; backups = count }

  -- by what came of it: what is kept of the lane, and what it took
  pub lane_after : (answer : Result Seen StepError) (spent : Bool) → spent ≡ is_out_of_memory answer
      → IfOk answer (IsHappened segments faults event lane.parts lane.backups.items new backups.items)
      → IfErr answer (IsUnhappened faults event lane.parts lane.backups.items new backups.items) → IsLane (lane_then spent)
  lane_after answer spent is took refused = grind (arith, vec_capacity)

  pub step_after : (answer : Result Seen StepError) (spent : Bool) → spent ≡ is_out_of_memory answer → MayStep (world_of lane.parts []) event
      → IfOk answer (IsHappened segments faults event lane.parts lane.backups.items new backups.items)
      → IfOk answer (IsStepOf segments faults event (lane_of lane) (lane_of (lane_then spent)))
  step_after (Ok seen) spent is may took = step_of_lane seen spent is may took
  step_after (Err error) spent is may took = tt

-- an answer that memory was not wanting leaves no lane spent
pub not_spent : (answer : Result Seen StepError) → answer ≢ Err errors.NoMemory → is_out_of_memory answer ≡ false
not_spent (Ok seen) free = refl
not_spent (Err error) free = grind (arith, error)

-- what holds in any case holds if a lane is not spent
pub where_some : {X : Type 0} (found : Option X) (P : Type 0) → P → IfSome found (λ _. P)
where_some None P holds = tt
where_some (Some x) P holds = holds
