use Rattle.std.specs.FinMap.{get-empty}
use Rattle.rk_outside.specs.Replicas.{place_cmp}
use Rattle.rk_outside.proofs.memory_replica.MemoryReplica.new.Goals as goal

-- nothing is found in an empty map
pub returns-clause-unwritten : goal.returns-clause-unwritten
returns-clause-unwritten c = λ master segment. rw c.new.ensures (get-empty place_cmp (master, segment))
