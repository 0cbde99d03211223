-- What a lane in code stands for.
use Rattle.std.specs.Prelude.{◌≡◌, ◌≤◌, ℕ, ◌+◌, false, List, [], length, Some, None, slice_get, vec_capacity, if◌then◌else◌}
use Rattle.rk_backup.specs.Lane.{number_of}
use Rattle.rk_backup.specs.declared.lane.BackupLane.{BackupLane}
use Rattle.rk_lane.specs.LaneState.{LaneState}
use Rattle.rk_lane.specs.Parts.{IsKept, running_of}
use Rattle.rk_lane.specs.declared.lane.Lane.TheInside.{Inside}

-- what contracts see of it
abbrev pub lane_of : {R : Type 0} → Inside R → LaneState R
lane_of lane = record {
  number = lane.parts.number;
  masters = length lane.parts.masters.items;
  ledger = lane.parts.ledger;
  running = if lane.spent then None else Some (running_of lane.parts);
  backups = lane.backups.items;
}

-- backups are numbered from 1
abbrev pub AreNumbered : {R : Type 0} → List (BackupLane R) → Type 0
AreNumbered {R} backups = (place : ℕ) (backup : BackupLane R) → slice_get backups place ≡ Some backup → number_of backup ≡ place + 1

-- its backups are counted and numbered, there is a place for each replica to be given back, and unless it is spent its parts are kept
pub record IsLane {R : Type 0} (lane : Inside R) : Type 0 where
  pub count : length lane.backups.items ≡ lane.parts.backups
  pub numbered : AreNumbered lane.backups.items
  pub free : lane.replicas.items ≡ []
  pub room : length lane.backups.items ≤ vec_capacity lane.replicas
  pub kept : lane.spent ≡ false → IsKept lane.parts
