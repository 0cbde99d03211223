-- What contracts see of a lane, and the worlds that it stands for.
use Rattle.std.specs.Prelude.{◌≡◌, ℕ, ◌+◌, List, length, map, Option, Some, slice_get}
use Rattle.rk_types.specs.NumberMap.{EachIn, NumberMap}
use Rattle.rk_outside.specs.Segments.{Segments}
use Rattle.rk_backup.specs.Lane.{replica_of}
use Rattle.rk_backup.specs.declared.lane.BackupLane.{BackupLane}
use Rattle.rk_message.specs.Wire.{Traffic}
use Rattle.rk_world.specs.Base.{no_base}
use Rattle.rk_world.specs.Coordinator.{Coordinator}
use Rattle.rk_world.specs.Ledger.{Ledger}
use Rattle.rk_world.specs.Master.{Master}
use Rattle.rk_world.specs.World.{World}

-- what runs in a lane: its masters, crashed ones too; the coordinator; the wire; the masters that have crashed; and the greatest
-- number that has been in it
pub record Running : Type 0 where
  pub masters : NumberMap Master
  pub coordinator : Coordinator
  pub wire : Traffic
  pub crashed : List ℕ
  pub top : ℕ

-- what contracts see of a lane: its number, how many masters it has, its ledger, what runs in it, none if it is spent, and its
-- backups
pub record LaneState (R : Type 0) : Type 0 where
  pub number : ℕ
  pub masters : ℕ
  pub ledger : Ledger
  pub running : Option Running
  pub backups : List (BackupLane R)

-- the world of a lane in which this runs, and whose backups store this; its history starts from nothing
abbrev pub world_with : {R : Type 0} → LaneState R → Running → NumberMap Segments → World
world_with lane running backups = record {
  lane = lane.number;
  masters = running.masters;
  backup_count = length lane.backups;
  backups = backups;
  coordinator = running.coordinator;
  wire = running.wire;
  ledger = lane.ledger;
  crashed = running.crashed;
  top = running.top;
  base = no_base;
}

-- the backup of a number, counted from 1, has a replica that reports just these segments
pub record IsTold {R : Type 0} (segments : R → Option Segments) (backups : List (BackupLane R)) (number : ℕ) (stored : Segments) : Type 0 where
  pub place : ℕ
  pub number_is : number ≡ place + 1
  pub backup : BackupLane R
  pub there : slice_get backups place ≡ Some backup
  pub tells : segments (replica_of backup) ≡ Some stored

-- each of these segments is what the replica of its backup reports; of a replica that does not report, there may be none
abbrev pub AreTold : {R : Type 0} → (R → Option Segments) → List (BackupLane R) → NumberMap Segments → Type 0
AreTold segments backups stored = EachIn (IsTold segments backups) stored

-- the replicas of backups
abbrev pub replicas_of : {R : Type 0} → List (BackupLane R) → List R
replicas_of backups = map replica_of backups

-- lanes of one number, with as many masters and as many backups
pub record IsSameLane {R : Type 0} (old new : LaneState R) : Type 0 where
  pub number : new.number ≡ old.number
  pub masters : new.masters ≡ old.masters
  pub backups : length new.backups ≡ length old.backups
