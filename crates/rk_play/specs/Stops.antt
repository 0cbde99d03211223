-- Why a run in code stops at a command, by what a cluster or a settling command answers.
use Rattle.rk_cluster.specs.Numbers.{number_of}
use Rattle.rk_cluster.specs.declared.error.ClusterError.{ClusterError}
use Rattle.rk_cluster.specs.declared.error.ClusterError.TheVariants as of_cluster
use Rattle.rk_settle.specs.declared.error.SettleError.{SettleError}
use Rattle.rk_settle.specs.declared.error.SettleError.TheVariants as of_settling
use Rattle.rk_play.specs.Effects.{Fails, Pauses, Refuses, Stop, Wears}
use Rattle.rk_play.specs.declared.error.PlayError.{PlayError}
use Rattle.rk_play.specs.declared.error.PlayError.TheVariants as errors

-- the error that an error of a cluster makes
abbrev pub error_by_cluster : ClusterError → PlayError
error_by_cluster of_cluster.NoMemory = errors.NoMemory
error_by_cluster (of_cluster.Code code) = errors.Refused code
error_by_cluster (of_cluster.Worn number) = errors.Worn number

-- the error that an error of a settling command makes
abbrev pub error_by_settling : SettleError → PlayError
error_by_settling of_settling.NoMemory = errors.NoMemory
error_by_settling of_settling.TooLong = errors.NoMemory
error_by_settling (of_settling.Worn number) = errors.Worn number
error_by_settling (of_settling.Replica rounds) = errors.Replica rounds

-- the stop that an error reports; want of memory reports none
abbrev pub stop_by : PlayError → Stop
stop_by errors.NoMemory = Pauses
stop_by (errors.Refused code) = Refuses (number_of code)
stop_by (errors.Worn number) = Wears number
stop_by (errors.Replica rounds) = Fails rounds
