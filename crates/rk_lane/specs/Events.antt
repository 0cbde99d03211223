-- What an event makes of a lane in code.
use Rattle.std.specs.Prelude.{◌≡◌, ◌≢◌, ◌⊎◌, ℕ, ◌+◌, List, [], length, map, Option, Some, None, Ok, IfSome, IsSomeAnd, slice_get, slice_set, ⊤}
use Rattle.rk_types.specs.NumberMap.{NumberMap, get}
use Rattle.rk_types.specs.declared.node.Node.{Node}
use Rattle.rk_types.specs.declared.node.Node.TheVariants as nodes
use Rattle.rk_outside.specs.Faults.{Rose}
use Rattle.rk_outside.specs.Segments.{Segments}
use Rattle.rk_backup.specs.Lane.{replica_of}
use Rattle.rk_backup.specs.declared.lane.BackupLane.{BackupLane}
use Rattle.rk_message.specs.Wire.{Traffic, receiver_of}
use Rattle.rk_world.specs.Backup.{Called, Failed}
use Rattle.rk_world.specs.Premises.{MayCome, MayHappen}
use Rattle.rk_world.specs.Refusals.{refusal}
use Rattle.rk_world.specs.Replicas.{AllTell}
use Rattle.rk_world.specs.Room.{HasRoom}
use Rattle.rk_world.specs.Runs.{IsCalmEvent}
use Rattle.rk_world.specs.Step.{step, told_by_replica}
use Rattle.rk_world.specs.World.{World, new_world}
use Rattle.rk_world.specs.declared.error.StepError.{StepError}
use Rattle.rk_world.specs.declared.error.StepError.TheVariants as errors
use Rattle.rk_world.specs.declared.event.Event.{Event}
use Rattle.rk_world.specs.declared.event.Event.TheVariants as events
use Rattle.rk_world.specs.declared.event.Seen.{Seen}
use Rattle.rk_lane.specs.LaneState.{AreTold, LaneState, Running, world_with}
use Rattle.rk_lane.specs.declared.messages.Arrival.{Arrival}

-- an event may come to a lane that is not spent: it names what is there, and a crash leaves another master alive
pub record MayStep (w : World) (event : Event) : Type 0 where
  pub may : MayHappen w event
  pub calm : IsCalmEvent w event

-- an event may come to a lane: it names what is there in a lane with so many masters, and if the lane is not spent, a crash leaves
-- another master alive
pub record MayComeTo {R : Type 0} (lane : LaneState R) (event : Event) : Type 0 where
  pub may : MayHappen (new_world lane.number lane.masters (length lane.backups)) event
  pub calm : (running : Running) → lane.running ≡ Some running → IsCalmEvent (world_with lane running []) event

-- a message that arrives is on the wire of a lane that is not spent, under its number
abbrev pub IsArrivalIn : {R : Type 0} → LaneState R → Arrival → Type 0
IsArrivalIn lane arrival = IfSome lane.running (λ running. get running.wire.messages arrival.number ≡ Some arrival.message)

-- whether the call of a replica failed
abbrev pub IsFailed : Called → Type 0
IsFailed (Failed stored) = ⊤
IsFailed called = ⊥

-- the call of a replica came to what a replica that reports what it stores answers: to its answer without a fault, or, if it failed, to
-- that with one
pub record IsAnswerOf (answer : Option ℕ → Called) (called : Called) : Type 0 where
  pub fine : (IsFailed called → ⊥) → called ≡ answer None
  pub failed : IsFailed called → (kept : ℕ) × (called ≡ answer (Some kept))

-- a lane took an event, if what its backups store is what their replicas report: the world after it is that of the lane after it. If all
-- of them report it, the call of a replica came to what that replica answers
pub record IsStepFrom {R : Type 0} (segments : R → Option Segments) (w : World) (event : Event) (called : Called) (new : LaneState R) (after : Running) (seen : Seen) : Type 0 where
  pub backups : NumberMap Segments
  pub stepped : step w event called ≡ Ok (record { world = world_with new after backups; seen = seen })
  pub told : AreTold segments new.backups backups
  pub given : AllTell w → IsAnswerOf (told_by_replica w event) called

-- how often the replica of each backup failed
abbrev pub fault_counts : {R : Type 0} → (R → ℕ) → List (BackupLane R) → List ℕ
fault_counts faults backups = map (λ backup. faults (replica_of backup)) backups

-- who takes what an event delivers
abbrev pub receiver_by : Event → Traffic → Option Node
receiver_by (events.Deliver number) wire = receiver_of number wire
receiver_by event wire = None

-- the replica of the backup that takes a message failed once more, and no other one did; places count from 0, and backups from 1
pub record OneFailed {R : Type 0} (faults : R → ℕ) (receiver : Option Node) (old new : List (BackupLane R)) : Type 0 where
  pub place : ℕ
  pub whose : receiver ≡ Some (nodes.Backup (place + 1))
  pub before : ℕ
  pub now : ℕ
  pub there : slice_get (fault_counts faults old) place ≡ Some before
  pub counts : fault_counts faults new ≡ slice_set (fault_counts faults old) place now
  pub rose : Rose before now

-- the call of a replica failed only if the replica of the backup that was reached failed once more, and else no count of faults changed
abbrev pub HasCause : {R : Type 0} → (R → ℕ) → Option Node → Called → List (BackupLane R) → List (BackupLane R) → Type 0
HasCause faults receiver called old new =
    (IsFailed called × OneFailed faults receiver old new) ⊎ ((IsFailed called → ⊥) × (fault_counts faults new ≡ fault_counts faults old))

-- a lane took an event that may come to it: by what the call of a replica came to, if one was called, its world became just what the
-- definitions make of it, and so is what it showed; and it has room then, which no backup takes
pub record IsStepOf {R : Type 0} (segments : R → Option Segments) (faults : R → ℕ) (event : Event) (old new : LaneState R) (seen : Seen) : Type 0 where
  pub before : Running
  pub after : Running
  pub was : old.running ≡ Some before
  pub is : new.running ≡ Some after
  pub called : Called
  pub comes : MayStep (world_with old before []) event
  pub may : MayCome called
  pub room : HasRoom (world_with new after [])
  pub cause : HasCause faults (receiver_by event before.wire) called old.backups new.backups
  pub stepped : (backups : NumberMap Segments) → AreTold segments old.backups backups
      → IsStepFrom segments (world_with old before backups) event called new after seen

-- a lane refused an event, and is as it was; for want of memory it is spent, and its journal, the calls that were asked and the clients
-- that were added are as they were
pub record IsRefused {R : Type 0} (faults : R → ℕ) (event : Event) (old new : LaneState R) (error : StepError) : Type 0 where
  pub cause : error ≢ errors.NoMemory → IsSomeAnd old.running (λ running. refusal (world_with old running []) event ≡ Some error)
  pub same : error ≢ errors.NoMemory → new ≡ old
  pub spent : error ≡ errors.NoMemory → new.running ≡ None
  pub journal : new.ledger.journal ≡ old.ledger.journal
  pub asked : new.ledger.asked ≡ old.ledger.asked
  pub clients : new.ledger.clients ≡ old.ledger.clients
  pub counts : fault_counts faults new.backups ≡ fault_counts faults old.backups
