-- Why a settling command stops when a cluster answers so. No call of a command is refused by a code.
use Rattle.rk_cluster.specs.declared.error.ClusterError.{ClusterError}
use Rattle.rk_cluster.specs.declared.error.ClusterError.TheVariants as causes
use Rattle.rk_settle.specs.declared.error.SettleError.{SettleError}
use Rattle.rk_settle.specs.declared.error.SettleError.TheVariants as errors

abbrev pub failure_by : ClusterError → SettleError
failure_by causes.NoMemory = errors.NoMemory
failure_by (causes.Code code) = errors.NoMemory
failure_by (causes.Worn number) = errors.Worn number
