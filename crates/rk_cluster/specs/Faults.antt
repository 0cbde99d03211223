-- How often the replicas of a cluster have failed, by their counts of faults.
use Rattle.std.specs.Prelude.{◌≡◌, ◌⊎◌, ◌≤◌, ◌+◌, ◌-◌, ◌^◌, ℕ, if◌then◌else◌, List, [], ◌∷◌, Option, None, Some, slice_get}
use Rattle.rk_lane.specs.Events.{fault_counts}
use Rattle.rk_lane.specs.LaneState.{LaneState}
use Rattle.rk_cluster.specs.Replicas.{Fate, Lost, is_of}
use Rattle.rk_cluster.specs.State.{ClusterState}

-- as great as a count can be; it stays there
abbrev pub MOST_COUNT : ℕ
MOST_COUNT = 2 ^ 64 - 1

-- the counts of faults of replicas, by lane and by the place of the backup there, counted from 0
abbrev pub Counts : Type 0
Counts = ℕ → ℕ → Option ℕ

-- a count, if there is one, rose by so many at least, or it is as great as a count can be
abbrev pub RoseBy : ℕ → Option ℕ → Option ℕ → Type 0
RoseBy many None None = many ≡ 0
RoseBy many (Some before) (Some now) = (before + many ≤ now) ⊎ (MOST_COUNT ≤ now)
RoseBy many before now = ⊥

-- in how many of these the replica of the backup at a place of a lane fails
abbrev pub times_lost : ℕ → ℕ → List Fate → ℕ
times_lost lane place [] = 0
times_lost lane place (fate ∷ fates) = (if is_of lane place fate then 1 else 0) + times_lost lane place fates

-- counts go on: none falls, and that of each replica rises by at least as many as it fails, unless it is as great as a count can be
abbrev pub GoOn : List Fate → Counts → Counts → Type 0
GoOn fates before now =
    (lane place : ℕ) → RoseBy (times_lost lane place fates) (before lane place) (now lane place)

-- the counts of a lane, if it is there
abbrev pub lane_counts : {R : Type 0} → (R → ℕ) → Option (LaneState R) → ℕ → Option ℕ
lane_counts faults None place = None
lane_counts faults (Some lane) place = slice_get (fault_counts faults lane.backups) place

-- the counts of some lanes
abbrev pub counts_in : {R : Type 0} → (R → ℕ) → List (LaneState R) → Counts
counts_in faults lanes lane place = lane_counts faults (slice_get lanes lane) place

-- by their counts, the replicas of some lanes failed meanwhile at least as often as these fates say
abbrev pub LanesGoOn : {R : Type 0} → (R → ℕ) → List Fate → List (LaneState R) → List (LaneState R) → Type 0
LanesGoOn faults fates old new = GoOn fates (counts_in faults old) (counts_in faults new)

-- so did those of a cluster
abbrev pub CountsGoOn : {R : Type 0} → (R → ℕ) → List Fate → ClusterState R → ClusterState R → Type 0
CountsGoOn faults fates old new = LanesGoOn faults fates old.lanes new.lanes

-- the count of some replica rose, since it failed
pub record RoseOnce (before now : Counts) : Type 0 where
  pub lane : ℕ
  pub place : ℕ
  pub left : ℕ
  pub rose : GoOn (Lost lane place left ∷ []) before now

-- so it did in some lanes
abbrev pub SomeLaneFailed : {R : Type 0} → (R → ℕ) → List (LaneState R) → List (LaneState R) → Type 0
SomeLaneFailed faults old new = RoseOnce (counts_in faults old) (counts_in faults new)

-- this holds by the fate of the call of a replica, if one was called; if that failed, the replica's count of faults rose
pub record BySomeFate {R : Type 0} (faults : R → ℕ) (old new : List (LaneState R)) (Holds : Fate → Type 0) : Type 0 where
  pub fate : Fate
  pub counts : LanesGoOn faults (fate ∷ []) old new
  pub holds : Holds fate
