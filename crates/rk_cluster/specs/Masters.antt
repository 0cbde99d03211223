-- How many masters and backups the lanes of a cluster have, and which events name just what is there.
use Rattle.std.specs.Prelude.{◌≡◌, ℕ, List, [], ◌∷◌, length, map}
use Rattle.rk_world.specs.Premises.{MayHappen}
use Rattle.rk_world.specs.World.{new_world}
use Rattle.rk_world.specs.declared.event.Event.{Event}
use Rattle.rk_lane.specs.LaneState.{LaneState}
use Rattle.rk_cluster.specs.State.{ClusterState}

-- how many masters the first of some lanes has
abbrev pub masters_in : {R : Type 0} → List (LaneState R) → ℕ
masters_in [] = 0
masters_in (lane ∷ lanes) = lane.masters

-- how many masters each lane of a cluster has: all have as many as the first
abbrev pub masters_of : {R : Type 0} → ClusterState R → ℕ
masters_of state = masters_in state.lanes

-- how many backups each of some lanes has
abbrev pub backup_counts : {R : Type 0} → List (LaneState R) → List ℕ
backup_counts lanes = map (λ lane. length lane.backups) lanes

-- how many backups the first of some lanes has
abbrev pub backups_in : {R : Type 0} → List (LaneState R) → ℕ
backups_in [] = 0
backups_in (lane ∷ lanes) = length lane.backups

-- how many backups each lane of a cluster has: all have as many as the first
abbrev pub backups_of : {R : Type 0} → ClusterState R → ℕ
backups_of state = backups_in state.lanes

-- a lane has so many backups
abbrev pub HasBackups : {R : Type 0} → ℕ → LaneState R → Type 0
HasBackups backups lane = length lane.backups ≡ backups

-- an event may come to the lanes of a cluster: the masters that it names are there
abbrev pub MayComeIn : {R : Type 0} → ClusterState R → Event → Type 0
MayComeIn state event = MayHappen (new_world 0 (masters_of state) 0) event
