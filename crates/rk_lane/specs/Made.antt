-- What an event makes of the parts of a lane in code, if it calls no replica.
use Rattle.std.specs.Prelude.{◌≡◌, ◌≢◌, ℕ, [], if◌then◌else◌, length, Option, Some, None, IfSome, ⊤}
use Rattle.rk_types.specs.NumberMap.{NumberMap, get}
use Rattle.rk_types.specs.declared.node.Node.{Node}
use Rattle.rk_types.specs.declared.node.Node.TheVariants as nodes
use Rattle.rk_outside.specs.Segments.{Segments}
use Rattle.rk_message.specs.Wire.{Traffic, receiver_of}
use Rattle.rk_world.specs.Backup.{Called}
use Rattle.rk_world.specs.Ledger.{Ledger}
use Rattle.rk_world.specs.Refusals.{comes_anyway, fault_of, worn}
use Rattle.rk_world.specs.Step.{happened}
use Rattle.rk_world.specs.declared.error.StepError.{StepError}
use Rattle.rk_world.specs.declared.error.StepError.TheVariants as errors
use Rattle.rk_world.specs.declared.event.Event.{Event}
use Rattle.rk_world.specs.declared.event.Event.TheVariants as events
use Rattle.rk_world.specs.declared.event.Seen.{Seen}
use Rattle.rk_lane.specs.Events.{MayStep}
use Rattle.rk_lane.specs.Parts.{IsKept, world_of}
use Rattle.rk_lane.specs.declared.parts.Parts.{Parts}

-- an event may come to a lane with these parts, which is not worn
pub record IsReady (parts : Parts) (event : Event) : Type 0 where
  pub kept : IsKept parts
  pub may : MayStep (world_of parts []) event
  pub fresh : worn (world_of parts []) ≡ None

-- the number of a lane that is too great for an event; some events come anyway
abbrev pub worn_for : Parts → Event → Option ℕ
worn_for parts event = if comes_anyway event then None else worn (world_of parts [])

-- an event may come to a lane with these parts, which is not worn for it
pub record IsReadyFor (parts : Parts) (event : Event) : Type 0 where
  pub kept : IsKept parts
  pub may : MayStep (world_of parts []) event
  pub fresh : worn_for parts event ≡ None

-- parts of one lane
pub record IsSameParts (old new : Parts) : Type 0 where
  pub number : new.number ≡ old.number
  pub backups : new.backups ≡ old.backups
  pub masters : length new.masters.items ≡ length old.masters.items

-- the records of a ledger, its calls and its clients are as they were
pub record KeepsLedger (old new : Ledger) : Type 0 where
  pub journal : new.journal ≡ old.journal
  pub asked : new.asked ≡ old.asked
  pub clients : new.clients ≡ old.clients

-- the parts became just what the definitions make of an event, whatever backups store, and all is kept
pub record IsMade (old : Parts) (event : Event) (called : Called) (new : Parts) (seen : Seen) : Type 0 where
  pub allowed : fault_of (world_of old []) event ≡ None
  pub made : (stored : NumberMap Segments) → happened (world_of old stored) event called ≡ record { world = world_of new stored; seen = seen }
  pub kept : IsKept new
  pub lane : IsSameParts old new

-- the parts refused an event, and are as they were; for want of memory only what a spent lane keeps is
pub record IsFault (old : Parts) (event : Event) (new : Parts) (error : StepError) : Type 0 where
  pub cause : error ≢ errors.NoMemory → fault_of (world_of old []) event ≡ Some error
  pub same : error ≢ errors.NoMemory → new ≡ old
  pub ledger : KeepsLedger old.ledger new.ledger
  pub lane : IsSameParts old new

-- whether a node is a backup
abbrev pub IsOfBackup : Node → Type 0
IsOfBackup (nodes.Backup backup) = ⊤
IsOfBackup node = ⊥

-- an event calls no replica, unless a message for a backup is delivered
abbrev pub CallsNoReplica : Parts → Event → Type 0
CallsNoReplica parts (events.Deliver number) = IfSome (receiver_of number parts.wire) (λ to. IsOfBackup to → ⊥)
CallsNoReplica parts event = ⊤

-- an event delivers no message
abbrev pub IsNoDelivery : Event → Type 0
IsNoDelivery (events.Deliver number) = ⊥
IsNoDelivery event = ⊤

-- no message was read: there is none of this number, or memory was wanting
abbrev pub IsUnread : Traffic → ℕ → StepError → Type 0
IsUnread wire number error = error ≢ errors.NoMemory → (get wire.messages number ≡ None) × (error ≡ errors.NoMessage number)
