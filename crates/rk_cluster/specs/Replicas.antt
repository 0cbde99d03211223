-- How the replicas of a cluster answer. What a call of a replica comes to is computed from what its backup stores, but for the calls that
-- fail: a fate is all that is chosen from outside.
use Rattle.std.specs.Prelude.{ℕ, ◌+◌, ◌==◌, ◌&&◌, Bool, false, if◌then◌else◌, Option, None, Some, ⊤}
use Rattle.rk_types.specs.declared.node.Node.{Node}
use Rattle.rk_types.specs.declared.node.Node.TheVariants as nodes
use Rattle.rk_world.specs.Backup.{Called}
use Rattle.rk_world.specs.Cluster.{Cluster, Happens, Occurrence, lane_at}
use Rattle.rk_world.specs.Step.{told_by_replica}
use Rattle.rk_world.specs.declared.event.Event.{Event}
use Rattle.rk_lane.specs.Events.{receiver_by}

-- what becomes of the call of a replica, if one is called
pub data Fate : Type 0 where
  -- it goes well
  Kept : Fate
  -- the replica of a backup fails: its lane, its place there, counted from 0, and how many first bytes of an append it stores all the same
  Lost : (lane place left : ℕ) → Fate

-- the call fails
abbrev pub IsLost : Fate → Type 0
IsLost Kept = ⊥
IsLost (Lost lane place left) = ⊤

-- whether the replica of the backup at a place of a lane fails
abbrev pub is_of : ℕ → ℕ → Fate → Bool
is_of lane place Kept = false
is_of lane place (Lost its_lane its_place left) = its_lane == lane && (its_place == place)

-- what a replica that a message reaches leaves of an append, if it fails; places count from 0, and backups from 1
abbrev pub left_by : Fate → ℕ → Option Node → Option ℕ
left_by Kept lane receiver = None
left_by (Lost its_lane place left) lane (Some (nodes.Backup backup)) =
    if its_lane == lane && (place + 1 == backup) then Some left else None
left_by (Lost its_lane place left) lane receiver = None

-- what the call of a replica comes to that an event makes in a lane, if it makes one
abbrev pub answer_of : Cluster → ℕ → Event → Fate → Called
answer_of cluster lane event fate =
    told_by_replica (lane_at cluster lane) event (left_by fate lane (receiver_by event (lane_at cluster lane).wire))

-- an event of a lane, with the answer of the replica that it calls, if it calls one
abbrev pub happening : Cluster → ℕ → Event → Fate → Occurrence
happening cluster lane event fate = Happens lane event (answer_of cluster lane event fate)
