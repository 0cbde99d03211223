use Rattle.rk_cluster.proofs.Words.{ℕ, ap, ◌∙◌, range_with_len, has_dead_owner}
use Rattle.rk_cluster.proofs.Worlds.{same_count}
use Rattle.rk_cluster.proofs.looks.has_dead_owner_anywhere.Goals as goal

pub returns : goal.returns
returns g c =
    λ sessions cluster is.
    ap (λ (count : ℕ). has_dead_owner cluster (range_with_len 0 count) c.args.tablet) (same_count g.R.Replica.segments c.args.lanes.now cluster.lanes is.lanes ∙ c.requires)
    ∙ c.has_dead_owner.ensures sessions cluster is
