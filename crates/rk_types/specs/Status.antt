-- The exit status of the program for each way that a run may end.
use Rattle.std.specs.Prelude.{ℕ}
use Rattle.rk_types.specs.declared.status.Status.{Status}
use Rattle.rk_types.specs.declared.status.Status.TheVariants.{Done, Refused, Usage, ReadFault, WriteFault, NoMemory, ReplicaFault, Audit, Worn}

abbrev pub status_number : Status → ℕ
status_number Done = 0
status_number Refused = 1
status_number Usage = 2
status_number ReadFault = 3
status_number WriteFault = 4
status_number NoMemory = 5
status_number ReplicaFault = 6
status_number Audit = 7
status_number Worn = 10
