-- There are never more replicas than there are to be, and each is new.
use Rattle.std.proofs.Common.{◌≡◌, ◌≤◌, ◌-◌, vec_len}
use Rattle.std.specs.List.{All}
use Rattle.rk_outside.specs.Replicas.{new_replica}
use Rattle.rocksteady.specs.declared.TheConstants.{REPLICAS}
use Rattle.rocksteady.proofs.replicas.Given as goal

abbrev pub invariant-replicas : goal.invariant-replicas
invariant-replicas l = record {
  few : vec_len l.replicas ≤ REPLICAS;
  new : All (λ replica. replica ≡ new_replica) l.replicas.items;
}

abbrev pub decreases-replicas : goal.decreases-replicas
decreases-replicas l = REPLICAS - vec_len l.replicas
