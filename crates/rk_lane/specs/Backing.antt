-- What a backup of a lane in code makes of a message.
use Rattle.std.specs.Prelude.{◌≡◌, ◌≤◌, ◌+◌, ◌-◌, ℕ, false, List, length, slice_set, Option, IfSome, ⊤}
use Rattle.rk_types.specs.declared.held.TheConstants.{SEGMENT_BYTES}
use Rattle.rk_types.specs.declared.node.Node.{Node}
use Rattle.rk_log.specs.Log.{bytes_of}
use Rattle.rk_outside.specs.Faults.{Rose}
use Rattle.rk_outside.specs.Segments.{Segments, WhereTold}
use Rattle.rk_outside.specs.declared.replica.Lost.{Lost}
use Rattle.rk_outside.specs.declared.replica.Lost.TheVariants as losses
use Rattle.rk_backup.specs.Lane.{number_of, replica_of}
use Rattle.rk_backup.specs.declared.lane.BackupLane.{BackupLane}
use Rattle.rk_message.specs.declared.message.Body.{Body}
use Rattle.rk_message.specs.declared.message.Body.TheVariants as bodies
use Rattle.rk_message.specs.declared.message.Message.{Message}
use Rattle.rk_message.specs.declared.rebuilding.ReadSegment.{ReadSegment}
use Rattle.rk_world.specs.Backup.{Backed, Called, backup_step, called_by, failing, stored_after}
use Rattle.rk_world.specs.Master.{Master}
use Rattle.rk_world.specs.Premises.{IsMaster, MayCome}
use Rattle.rk_lane.specs.Events.{IsAnswerOf, IsFailed}
use Rattle.rk_lane.specs.Masters.{IsAt}

-- a backup can answer a body: an Append ends within a segment, and a Read is of a master that is there
abbrev pub CanBeAnswered : ℕ → Body → Type 0
CanBeAnswered masters (bodies.Append append) = append.at + length append.bytes ≤ SEGMENT_BYTES
CanBeAnswered masters (bodies.Read wanted) = IsMaster masters wanted.master
CanBeAnswered masters _ = ⊤

-- these logs have the segment that is read, as its master has it
pub record IsLogAt (masters : List (Option Master)) (log : ℕ → ℕ → List ℕ) (wanted : ReadSegment) : Type 0 where
  pub it : Master
  pub at : IsAt masters wanted.master it
  pub bytes : log wanted.master wanted.segment ≡ bytes_of it.log wanted.segment

-- these logs have what a body asks for
abbrev pub IsLogOf : List (Option Master) → (ℕ → ℕ → List ℕ) → Body → Type 0
IsLogOf masters log (bodies.Read wanted) = IsLogAt masters log wanted
IsLogOf masters log _ = ⊤

-- the length that a Stored reports is at most that of a segment
abbrev pub IsWithinSegment : Body → Type 0
IsWithinSegment (bodies.Stored stored) = stored.length ≤ SEGMENT_BYTES
IsWithinSegment _ = ⊤

-- messages are sent
abbrev pub sending : List Message → Backed
sending sends = record { sends = sends; lost = false }

-- a backup took what a sender says, if masters have these logs: by what the call of its replica came to it answered so, what the
-- replica reports is that of the definitions, and its count of faults rose just if it failed
pub record IsBackedBy {R : Type 0} (segments : R → Option Segments) (faults : R → ℕ) (old new : BackupLane R) (from : Node) (body : Body) (log : ℕ → ℕ → List ℕ) (backed : Backed) : Type 0 where
  pub called : Called
  pub may : MayCome called
  pub answer : backed ≡ backup_step (number_of old) from body log called
  pub told : WhereTold (λ before now. now ≡ stored_after before from body called) (segments (replica_of old)) (segments (replica_of new))
  pub given : IfSome (segments (replica_of old)) (λ stored. IsAnswerOf (called_by stored from body) called)
  pub number : number_of new ≡ number_of old
  pub lost : IsFailed called → backed ≡ failing
  pub failed : IsFailed called → Rose (faults (replica_of old)) (faults (replica_of new))
  pub fine : (IsFailed called → ⊥) → faults (replica_of new) ≡ faults (replica_of old)

-- a backup has its number and its count of faults as it had
pub record IsSpared {R : Type 0} (faults : R → ℕ) (old new : BackupLane R) : Type 0 where
  pub number : number_of new ≡ number_of old
  pub fine : faults (replica_of new) ≡ faults (replica_of old)

-- why a backup sent nothing: its replica failed and the message was lost, or memory was wanting and no replica failed
abbrev pub IsUnanswered : {R : Type 0} → (R → Option Segments) → (R → ℕ) → BackupLane R → BackupLane R → Node → Body → (ℕ → ℕ → List ℕ) → Lost → Type 0
IsUnanswered segments faults old new from body log losses.Failed = IsBackedBy segments faults old new from body log failing
IsUnanswered segments faults old new from body log losses.NoMemory = IsSpared faults old new

-- ---- one of the backups of a lane

-- the backup of a number took a message, and the others are as they were
pub record IsBackedAt {R : Type 0} (segments : R → Option Segments) (faults : R → ℕ) (old new : List (BackupLane R)) (number : ℕ) (before : BackupLane R) (message : Message) (log : ℕ → ℕ → List ℕ) (backed : Backed) : Type 0 where
  pub now : BackupLane R
  pub backups : new ≡ slice_set old (number - 1) now
  pub by : IsBackedBy segments faults before now message.from message.body log backed

-- the backup of a number was spared, and the others are as they were
pub record IsSparedAt {R : Type 0} (faults : R → ℕ) (old new : List (BackupLane R)) (number : ℕ) (before : BackupLane R) : Type 0 where
  pub now : BackupLane R
  pub backups : new ≡ slice_set old (number - 1) now
  pub spared : IsSpared faults before now

-- why the backup of a number sent nothing
abbrev pub IsUnansweredAt : {R : Type 0} → (R → Option Segments) → (R → ℕ) → List (BackupLane R) → List (BackupLane R) → ℕ → BackupLane R → Message → (ℕ → ℕ → List ℕ) → Lost → Type 0
IsUnansweredAt segments faults old new number before message log losses.Failed =
    IsBackedAt segments faults old new number before message log failing
IsUnansweredAt segments faults old new number before message log losses.NoMemory =
    IsSparedAt faults old new number before
