-- What contracts see of a backup's lane.
use Rattle.std.specs.Prelude.{ℕ}
use Rattle.rk_backup.specs.declared.lane.BackupLane.{BackupLane}

-- the number of the backup
abbrev pub number_of : {R : Type 0} → BackupLane R → ℕ
number_of lane = lane.number

-- where it keeps the segments
abbrev pub replica_of : {R : Type 0} → BackupLane R → R
replica_of lane = lane.replica
