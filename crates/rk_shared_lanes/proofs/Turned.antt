-- Turns and replays of a lane behind its lock, put together from what the smaller functions make.
use Rattle.rk_shared_lanes.proofs.Words.{arith, ◌≡◌, ◌≤◌, ℕ, Bool, true, false, not, Option, Some, None, Result, Ok, Err, refl, ap, subst}
use Rattle.rk_shared_lanes.proofs.Words.{IfErr, IfSome, OnOk, Segments, Event, IsSameLane, LaneState, world_with, Comes, EndsAt, IsEvent}
use Rattle.rk_shared_lanes.proofs.Words.{StopsAt, started, next_message, Short, IsHandingOut, first_turned, one_handed_out}
use Rattle.std.specs.Prelude.{is_some, []}
use Rattle.rk_types.specs.declared.node.Node.TheVariants as nodes
use Rattle.rk_world.specs.World.{has_crashed}
use Rattle.rk_world.specs.declared.event.Event.TheVariants as events
use Rattle.rk_attempts.specs.Came.{IsReplay, IsTurn, has_come}
use Rattle.rk_attempts.specs.Ends.{IsHanded, IsHandedOut}
use Rattle.rk_attempts.specs.Replays.{is_replayed}
use Rattle.rk_attempts.specs.Turns.{master_turned, nodes_turned}
use Rattle.rk_attempts.specs.declared.attempt.Short.TheVariants as shorts
use Rattle.rk_attempts.proofs.Works.{handed_out_short, handed_short, master_crashed, master_lives, replay_done, replay_none, stopped_at, turn_short, turn_taken, turns_ended}

-- ---- lanes

pub same_lane : {R : Type 0} (lane : LaneState R) → IsSameLane lane lane
same_lane lane = record { number = refl; masters = refl; backups = refl }

pub same_then : {R : Type 0} (old middle new : LaneState R) → IsSameLane old middle → IsSameLane middle new → IsSameLane old new
same_then old middle new first second = grind arith

pub running_there : {X : Type 0} (there : Option X) → is_some there ≡ true → (x : X) × (there ≡ Some x)
running_there None runs = absurd (cc runs)
running_there (Some x) runs = (x, refl)

-- a lane that is found not spent runs
pub not_spent : {R : Type 0} (old lane : LaneState R) (spent : Bool) → lane ≡ old → spent ≡ not (is_some lane.running) → spent ≡ false → is_some old.running ≡ true
not_spent {R} old lane spent is tells lives = grind arith

-- its coordinator counts its masters
counted_in : {R : Type 0} (old lane : LaneState R) → lane ≡ old → IfSome lane.running (λ running. running.coordinator.masters ≡ lane.masters)
    → IfSome old.running (λ running. running.coordinator.masters ≡ old.masters)
counted_in {R} old lane is counts = subst (λ (it : LaneState R). IfSome it.running (λ running. running.coordinator.masters ≡ it.masters)) is counts

-- ---- how work ends

-- want of memory stops work at no number
pub never_stops : (short : Short) (worn : Option ℕ) → short ≡ shorts.NoMemory → StopsAt short worn → ⊥
never_stops short worn is stops = subst (λ (it : Short). StopsAt it worn) is stops

-- work that only want of memory can stop came to its end
pub ends_well : {T : Type 0} (result : Result T Short) → IfErr result (λ e. e ≡ shorts.NoMemory) → (worn : Option ℕ) → EndsAt result worn → worn ≡ None
ends_well (Ok x) memory worn ends = ends
ends_well (Err short) memory worn ends = absurd (never_stops short worn memory ends)

-- a lane to which something came is not spent if the work went well
pub runs_after : {R T : Type 0} (new : LaneState R) (result : Result T Short) (Came : Option ℕ → Type 0) → ((worn : Option ℕ) → Came worn → is_some new.running ≡ true)
    → ((worn : Option ℕ) → EndsAt result worn → Came worn) → OnOk result (is_some new.running ≡ true)
runs_after new (Ok x) Came leads came = leads None (came None refl)
runs_after new (Err short) Came leads came = tt

module _ {R : Type 0} (segments : R → Option Segments) where
  -- ---- events

  pub event_runs : {T : Type 0} (old new : LaneState R) (event : Event) (result : Result T Short) → ((worn : Option ℕ) → EndsAt result worn → IsEvent segments old new event worn)
      → OnOk result (is_some new.running ≡ true)
  event_runs old new event result came = runs_after new result (IsEvent segments old new event) (λ worn it. ap is_some it.comes.is) came

  -- a delivery was stopped
  pub hand_stopped : (old new : LaneState R) (number : ℕ) (short : Short) → ((worn : Option ℕ) → StopsAt short worn → IsEvent segments old new (events.Deliver number) worn)
      → (worn : Option ℕ) → StopsAt short worn → IsHanded segments old new number worn
  hand_stopped old new number short came worn stops =
      let at = stopped_at short worn stops in handed_short segments old new number worn at.0 at.1 (came worn stops)

  -- ---- turns of nodes

  -- the turns of nodes were stopped after these masters
  pub turns_stopped : (old new : LaneState R) (count masters : ℕ) (short : Short) → count ≤ masters → ((worn : Option ℕ) → StopsAt short worn → Comes segments old new (first_turned segments count) (has_come worn))
      → (worn : Option ℕ) → StopsAt short worn → Comes segments old new (λ w. nodes_turned w masters) (has_come worn)
  turns_stopped old new count masters short within came worn stops =
      let at = stopped_at short worn stops in turns_ended segments old new count masters worn at.0 at.1 within (came worn stops)

  -- all masters took their turns
  pub all_turned : (old new : LaneState R) (count masters : ℕ) → count ≡ masters → Comes segments old new (first_turned segments count) started
      → (worn : Option ℕ) → worn ≡ None → Comes segments old new (λ w. nodes_turned w masters) (has_come worn)
  all_turned old new count masters all came worn ends = grind (arith, started)

  -- a master that has crashed takes no turn
  pub crashed_passes : (old lane : LaneState R) (master : ℕ) (crashed : Bool) → is_some old.running ≡ true → lane ≡ old
      → IfSome lane.running (λ running. crashed ≡ has_crashed (world_with lane running []) master) → crashed ≡ true
      → (worn : Option ℕ) → worn ≡ None → Comes segments old old (λ w. master_turned (started w) master) (has_come worn)
  crashed_passes old lane master crashed some is tells yes_crashed worn ends =
      grind (arith, running_there, started, master_crashed, world_with)

  -- a master that lives does
  pub living_turns : {T : Type 0} (old lane new : LaneState R) (master : ℕ) (crashed : Bool) (result : Result T Short) → lane ≡ old
      → IfSome lane.running (λ running. crashed ≡ has_crashed (world_with lane running []) master) → crashed ≡ false
      → ((worn : Option ℕ) → EndsAt result worn → IsEvent segments old new (events.Turn (nodes.Master master)) worn)
      → (worn : Option ℕ) → EndsAt result worn → Comes segments old new (λ w. master_turned (started w) master) (has_come worn)
  living_turns old lane new master crashed result is tells lives came worn ends = grind (arith, master_lives, world_with)

  -- ---- messages that are handed out

  -- it was stopped at one of them
  pub handing_stopped : (old middle new : LaneState R) (number : ℕ) (short : Short) → IsHandingOut segments old middle None
      → IfSome middle.running (λ running. Some number ≡ next_message (world_with middle running []))
      → ((worn : Option ℕ) → StopsAt short worn → IsHanded segments middle new number worn)
      → (worn : Option ℕ) → StopsAt short worn → IsHandedOut segments old new worn
  handing_stopped old middle new number short before next came worn stops =
      let at = stopped_at short worn stops in
      handed_out_short segments old new worn at.0 at.1 (one_handed_out segments old middle new number worn before next (came worn stops))

  -- ---- turns

  -- a turn was stopped among the nodes
  pub turn_stopped : (old lane new : LaneState R) (short : Short) → lane ≡ old → IfSome lane.running (λ running. running.coordinator.masters ≡ lane.masters)
      → ((worn : Option ℕ) → StopsAt short worn → Comes segments old new (λ w. nodes_turned w old.masters) (has_come worn))
      → (worn : Option ℕ) → StopsAt short worn → IsTurn segments old new worn
  turn_stopped old lane new short is counts came worn stops = grind (arith, stopped_at, turn_short, counted_in)

  -- it came to the deliveries
  pub turn_handed : (old lane middle new : LaneState R) (worn : Option ℕ) → lane ≡ old → IfSome lane.running (λ running. running.coordinator.masters ≡ lane.masters)
      → ((none : Option ℕ) → none ≡ None → Comes segments old middle (λ w. nodes_turned w old.masters) (has_come none)) → IsHandedOut segments middle new worn
      → IsTurn segments old new worn
  turn_handed old lane middle new worn is counts came it =
      turn_taken segments old middle new worn (counted_in old lane is counts) (came None refl) it

  -- ---- replays

  -- no message is there to be replayed
  pub replay_passes : (old : LaneState R) (number : ℕ) (here : Bool) → is_some old.running ≡ true → IfSome old.running (λ running. here ≡ is_replayed (world_with old running []) number)
      → here ≡ false → (worn : Option ℕ) → worn ≡ None → IsReplay segments old old number worn
  replay_passes old number here runs tells gone worn ends = grind (arith, running_there, replay_none, world_with)

  -- it is there
  pub replay_hands : {T : Type 0} (old new : LaneState R) (number : ℕ) (here : Bool) (result : Result T Short) → IfSome old.running (λ running. here ≡ is_replayed (world_with old running []) number)
      → here ≡ true → ((worn : Option ℕ) → EndsAt result worn → IsHanded segments old new number worn) → (worn : Option ℕ) → EndsAt result worn → IsReplay segments old new number worn
  replay_hands old new number here result tells there came worn ends =
      replay_done segments old new number worn (subst (λ (b : Bool). IfSome old.running (λ running. b ≡ is_replayed (world_with old running []) number)) there tells) (came worn ends)
