-- There are never more replicas than there are to be.
use Rattle.std.proofs.Common.{◌≤◌, ◌-◌, vec_len}
use Rattle.rk_tests_play.specs.declared.playing.TheConstants.{REPLICAS}
use Rattle.rk_tests_play.proofs.playing.replicas.Given as goal

abbrev pub invariant-replicas : goal.invariant-replicas
invariant-replicas l = vec_len l.replicas ≤ REPLICAS

abbrev pub decreases-replicas : goal.decreases-replicas
decreases-replicas l = REPLICAS - vec_len l.replicas
