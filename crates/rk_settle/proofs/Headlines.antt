-- The law of the settling commands.
use Rattle.std.specs.Prelude.{◌≡◌, [], List, true}
use Rattle.rk_cluster.specs.Replicas.{Fate}
use Rattle.rk_world.specs.Cluster.{Cluster}
use Rattle.rk_settle.specs.Course.{course_of, moved_all}
use Rattle.rk_settle.specs.Rest.{is_at_rest}
use Rattle.rk_settle.specs.Settle.{settle}

-- Where `settle` has come to its end, by whatever became of the calls of replicas, its cluster is at rest: each row is owned by a master
-- that lives, nothing is staged, no call is outstanding, and no message is on a wire.
pub settled_clusters_are_at_rest : (cluster : Cluster) (fates : List Fate)
    → (moved_all (course_of cluster (settle cluster)) fates).tasks ≡ []
    → is_at_rest (moved_all (course_of cluster (settle cluster)) fates).cluster ≡ true
settled_clusters_are_at_rest = Rattle.rk_settle.proofs.AtRest.settled_rests
