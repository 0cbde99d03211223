-- Work in a lane, event by event.
use Rattle.std.proofs.Common.{arith, ◌≡◌, ◌≢◌, ℕ, cond, [], Option, Some, None, Result, Ok, refl, sym, ap, subst, ◌∙◌}
use Rattle.std.specs.Prelude.{IsSomeAnd}
use Rattle.std.specs.Option.{option_map, option_or}
use Rattle.rk_types.specs.NumberMap.{NumberMap}
use Rattle.rk_types.specs.declared.node.Node.TheVariants as nodes
use Rattle.rk_outside.specs.Segments.{Segments}
use Rattle.rk_world.specs.Backup.{Called, Gave}
use Rattle.rk_world.specs.Calls.{Visited}
use Rattle.rk_world.specs.Client.{Session}
use Rattle.rk_world.specs.Refusals.{comes_anyway, fault_of, refusal, worn}
use Rattle.rk_world.specs.Step.{happened, stepped_by}
use Rattle.rk_world.specs.World.{World}
use Rattle.rk_world.specs.declared.error.StepError.{StepError}
use Rattle.rk_world.specs.declared.error.StepError.TheVariants as errors
use Rattle.rk_world.specs.declared.event.Event.{Event}
use Rattle.rk_world.specs.declared.event.Event.TheVariants as events
use Rattle.rk_world.specs.declared.event.Seen.{Seen}
use Rattle.rk_lane.specs.Events.{IsRefused, IsStepOf}
use Rattle.rk_lane.specs.LaneState.{LaneState, Running, world_with}
use Rattle.rk_lane.specs.Visits.{IsVisitOf}
use Rattle.rk_attempts.specs.Came.{Comes}
use Rattle.rk_attempts.specs.Ends.{IsEvent}
use Rattle.rk_attempts.specs.Progress.{after_step, came, started, worn_at}

-- ---- a refusal reads no backup

module _ (w : World) (stored : NumberMap Segments) where
  abbrev with_stored : World
  with_stored = record w { backups = stored }

  fault_same : (event : Event) → fault_of with_stored event ≡ fault_of w event
  fault_same event = grind arith

  pub refusal_without : (event : Event) → refusal with_stored event ≡ refusal w event
  refusal_without event =
      ap (λ (fault : Option StepError). cond (comes_anyway event) fault (option_or (option_map errors.Worn (worn w)) fault)) (fault_same event)

-- ---- one thing after the other

-- a lane represents this world, whatever its replicas report
pub record IsOneOf {R : Type 0} (lane : LaneState R) (w : World) : Type 0 where
  pub running : Running
  pub runs : lane.running ≡ Some running
  pub stored : NumberMap Segments
  pub is : w ≡ world_with lane running stored

module _ {R : Type 0} (segments : R → Option Segments) where
  -- what came first and what came then make a whole
  pub comes_then : {T U V : Type 0} (old middle new : LaneState R)
      (first : World → T) (here : World → T) (second : World → U) (there : World → U) (whole : World → V) (at : World → V)
      → Comes segments old middle first here → Comes segments middle new second there
      → ((w v u : World) → IsOneOf old w → IsOneOf middle v → IsOneOf new u → first w ≡ here v → second v ≡ there u → whole w ≡ at u)
      → Comes segments old new whole at
  comes_then old middle new first here second there whole at one two joins =
      let both : Some one.after ≡ Some two.before = sym one.is ∙ two.was in
      let same : one.after ≡ two.before = cc both in
      record {
        before = one.before;
        after = two.after;
        was = one.was;
        is = two.is;
        come = λ stored told.
            let begun = one.come stored told in
            let ended = two.come begun.stored begun.told in
            let ends : second (world_with middle one.after begun.stored) ≡ there (world_with new two.after ended.stored) =
            ap (λ (running : Running). second (world_with middle running begun.stored)) same ∙ ended.is in
            record {
              stored = ended.stored;
              told = ended.told;
              is =
                  joins (world_with old one.before stored) (world_with middle one.after begun.stored) (world_with new two.after ended.stored)
                  (record { running = one.before; runs = one.was; stored = stored; is = refl })
                  (record { running = one.after; runs = one.is; stored = begun.stored; is = refl })
                  (record { running = two.after; runs = two.is; stored = ended.stored; is = refl })
                  begun.is ends;
            };
      }

  -- what came is said in other words
  pub comes_as : {T U : Type 0} (old new : LaneState R) (first : World → T) (here : World → T) (whole : World → U) (at : World → U)
      → Comes segments old new first here
      → ((w v : World) → IsOneOf old w → IsOneOf new v → first w ≡ here v → whole w ≡ at v)
      → Comes segments old new whole at
  comes_as old new first here whole at one says = record {
    before = one.before;
    after = one.after;
    was = one.was;
    is = one.is;
    come = λ stored told.
        let ended = one.come stored told in
        record {
          stored = ended.stored;
          told = ended.told;
          is =
              says (world_with old one.before stored) (world_with new one.after ended.stored)
              (record { running = one.before; runs = one.was; stored = stored; is = refl })
              (record { running = one.after; runs = one.is; stored = ended.stored; is = refl }) ended.is;
        };
  }

  -- nothing has come yet
  pub comes_nowhere : {T : Type 0} (lane : LaneState R) (running : Running) (at : World → T) → lane.running ≡ Some running
      → Comes segments lane lane at at
  comes_nowhere lane running at runs = grind arith

  -- ---- one event

  -- an event was taken
  pub event_taken : (faults : R → ℕ) (old new : LaneState R) (event : Event) (seen : Seen) → IsStepOf segments faults event old new seen
      → IsEvent segments old new event None
  event_taken faults old new event seen it = record {
    called = it.called;
    may = it.may;
    comes = record {
      before = it.before;
      after = it.after;
      was = it.was;
      is = it.is;
      come = λ stored told.
          let from = it.stepped stored told in
          record { stored = from.backups; told = from.told; is = ap (after_step (world_with old it.before stored)) from.stepped };
    };
  }

  -- it was refused, and not for want of memory
  pub event_refused : (faults : R → ℕ) (old new : LaneState R) (running : Running) (event : Event) (error : StepError) → old.running ≡ Some running
      → IsRefused faults event old new error → error ≢ errors.NoMemory → IsEvent segments old new event (worn_at error)
  event_refused faults old new running event error runs it other =
      let cause : refusal (world_with old running []) event ≡ Some error =
      subst (λ (o : Option Running). IsSomeAnd o (λ it_runs. refusal (world_with old it_runs []) event ≡ Some error)) runs (it.cause other) in
      subst (λ (lane : LaneState R). IsEvent segments old lane event (worn_at error)) (sym (it.same other))
      (record {
        called = Gave None;
        may = tt;
        comes = record {
          before = running;
          after = running;
          was = runs;
          is = runs;
          come = λ stored told.
              let w = world_with old running stored in
              record {
                stored = stored;
                told = told;
                is =
                    ap (λ (o : Option StepError). after_step w (stepped_by w event (Gave None) o))
                    (refusal_without (world_with old running []) stored event ∙ cause);
              };
        };
      })

  -- what an event made is the same whatever its replica answered, if it calls none
  pub came_with : (w : World) (event : Event) (called other : Called) → happened w event called ≡ happened w event other
      → came (started w) event called ≡ came (started w) event other
  came_with w event called other same = grind arith

  -- ---- one visit

  pub comes_visit : (visit : World → Result Visited StepError) (old new : LaneState R) (session : Session) (seen : Seen)
      → IsVisitOf visit old new session seen
      → Comes segments old new visit (λ w. Ok (record { world = w; session = session; seen = seen }))
  comes_visit visit old new session seen it = grind arith
