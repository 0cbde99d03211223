-- What occurs in one lane of a cluster changes that lane alone.
use Rattle.std.proofs.Common.{arith, ◌≡◌, ◌<◌, ℕ, length, refl, ⊎_elim, Result, get_or-set_other, length-set}
use Rattle.rk_scripts.proofs.Words.{cases_eq, Visited, Cluster, cluster_stepped, cluster_visited, lane_at, world_stepped, world_visited}
use Rattle.rk_scripts.proofs.Words.{Stepped, World, new_world, StepError, lane_here}

-- the lanes of a cluster beside one are as they were
abbrev pub IsSameBeside : ℕ → Cluster → Cluster → Type 0
IsSameBeside lane before after = (q : ℕ) → (q ≡ lane → ⊥) → lane_at after q ≡ lane_at before q

-- one lane of a cluster is this, and the others are as they were
pub record ChangesLane (lane : ℕ) (w : World) (before after : Cluster) : Type 0 where
  pub here : lane_at after lane ≡ w
  pub beside : IsSameBeside lane before after
  pub count : length after.lanes ≡ length before.lanes

-- none has changed
pub changes_none : (lane : ℕ) (cluster : Cluster) → ChangesLane lane (lane_at cluster lane) cluster cluster
changes_none lane cluster = record { here = refl; beside = λ q apart. refl; count = refl }

module _ (cluster : Cluster) (lane : ℕ) (within : lane < length cluster.lanes) where
  -- an event, as it was answered
  pub stepped_changes : (answer : Result Stepped StepError) → ChangesLane lane (world_stepped (lane_at cluster lane) answer) cluster (cluster_stepped cluster lane answer)
  stepped_changes answer = grind (arith, changes_none, lane_here, get_or-set_other, new_world, length-set)

  -- what a client does
  pub visited_changes : (client : ℕ) (answer : Result Visited StepError)
      → ChangesLane lane (world_visited (lane_at cluster lane) answer) cluster (cluster_visited cluster lane client answer)
  visited_changes client answer = grind (arith, changes_none, lane_here, get_or-set_other, new_world, length-set)

-- what holds of each lane, and of the changed one, holds of each still
pub each_still : (P : ℕ → World → Type 0) (lane : ℕ) (w : World) (before after : Cluster) → ChangesLane lane w before after → P lane w
    → ((q : ℕ) → (q ≡ lane → ⊥) → P q (lane_at before q)) → (q : ℕ) → P q (lane_at after q)
each_still P lane w before after changes here each q = grind (arith, lane_at, cases_eq)
