-- A script played alone: no call of a replica fails.
use Rattle.std.specs.Prelude.{◌≡◌, ◌<◌, ℕ, List, IfSome}
use Rattle.rk_cluster.specs.Faults.{Counts, MOST_COUNT}
use Rattle.rk_cluster.specs.Replicas.{Fate}
use Rattle.rk_play.specs.Played.{faultless}

-- no count of a replica rose, and none is as great as a count can be
pub record NoneRose (before now : Counts) : Type 0 where
  pub same : (lane place : ℕ) → now lane place ≡ before lane place
  pub below : (lane place : ℕ) → IfSome (now lane place) (λ count. count < MOST_COUNT)

-- no call fails, with so many moves for each command
pub record IsFaultless (fates : List (List Fate)) : Type 0 where
  pub moves : List ℕ
  pub are : fates ≡ faultless moves
