-- What an event makes of the parts of a lane in code and of its backups.
use Rattle.std.specs.Prelude.{◌≡◌, ◌≢◌, ℕ, [], List, length, Option, None, Some}
use Rattle.rk_types.specs.NumberMap.{NumberMap}
use Rattle.rk_outside.specs.Segments.{Segments}
use Rattle.rk_backup.specs.declared.lane.BackupLane.{BackupLane}
use Rattle.rk_world.specs.Backup.{Called}
use Rattle.rk_world.specs.Premises.{MayCome}
use Rattle.rk_world.specs.Refusals.{refusal}
use Rattle.rk_world.specs.Replicas.{AllTell}
use Rattle.rk_world.specs.Step.{happened, told_by_replica}
use Rattle.rk_world.specs.declared.error.StepError.{StepError}
use Rattle.rk_world.specs.declared.error.StepError.TheVariants as errors
use Rattle.rk_world.specs.declared.event.Event.{Event}
use Rattle.rk_world.specs.declared.event.Seen.{Seen}
use Rattle.rk_lane.specs.Events.{HasCause, IsAnswerOf, fault_counts, receiver_by}
use Rattle.rk_lane.specs.Lane.{AreNumbered}
use Rattle.rk_lane.specs.LaneState.{AreTold}
use Rattle.rk_lane.specs.Made.{IsSameParts, KeepsLedger}
use Rattle.rk_lane.specs.Parts.{IsKept, world_of}
use Rattle.rk_lane.specs.declared.parts.Parts.{Parts}

-- what backups store once an event came that made this of the parts, if what they stored is what their replicas reported. If all of
-- them reported it, the call of a replica came to what that replica answers
pub record IsToldAfter {R : Type 0} (segments : R → Option Segments) (old : Parts) (event : Event) (called : Called) (new : Parts) (backups : List (BackupLane R)) (seen : Seen) (stored : NumberMap Segments) : Type 0 where
  pub now : NumberMap Segments
  pub made : happened (world_of old stored) event called ≡ record { world = world_of new now; seen = seen }
  pub told : AreTold segments backups now
  pub given : AllTell (world_of old stored) → IsAnswerOf (told_by_replica (world_of old stored) event) called

-- parts and backups became just what the definitions make of an event, by what the call of a replica came to, and all is kept
pub record IsHappened {R : Type 0} (segments : R → Option Segments) (faults : R → ℕ) (event : Event) (old : Parts) (before : List (BackupLane R)) (new : Parts) (after : List (BackupLane R)) (seen : Seen) : Type 0 where
  pub called : Called
  pub may : MayCome called
  pub cause : HasCause faults (receiver_by event old.wire) called before after
  pub allowed : refusal (world_of old []) event ≡ None
  pub kept : IsKept new
  pub lane : IsSameParts old new
  pub count : length after ≡ length before
  pub numbered : AreNumbered after
  pub made : (stored : NumberMap Segments) → AreTold segments before stored → IsToldAfter segments old event called new after seen stored

-- an event was refused for this cause, and parts and backups are as they were; for want of memory only what a spent lane keeps is
pub record IsUnhappened {R : Type 0} (faults : R → ℕ) (event : Event) (old : Parts) (before : List (BackupLane R)) (new : Parts) (after : List (BackupLane R)) (error : StepError) : Type 0 where
  pub cause : error ≢ errors.NoMemory → refusal (world_of old []) event ≡ Some error
  pub same : error ≢ errors.NoMemory → new ≡ old
  pub same_backups : error ≢ errors.NoMemory → after ≡ before
  pub ledger : KeepsLedger old.ledger new.ledger
  pub lane : IsSameParts old new
  pub count : length after ≡ length before
  pub numbered : AreNumbered after
  pub counts : fault_counts faults after ≡ fault_counts faults before
