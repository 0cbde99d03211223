-- What the delivery of a message makes of a cluster in code.
use Rattle.std.specs.Prelude.{◌≡◌, ℕ, Bool, true, false, ◌&&◌, List, Option, Some, None, IfSome, slice_get}
use Rattle.std.specs.Option.{option_to_list}
use Rattle.rk_types.specs.declared.node.Node.{Node}
use Rattle.rk_types.specs.declared.node.Node.TheVariants as nodes
use Rattle.rk_types.specs.declared.node.Said.{Said}
use Rattle.rk_outside.specs.Segments.{Segments}
use Rattle.rk_message.specs.Wire.{receiver_of}
use Rattle.rk_world.specs.Cluster.{Cluster, lane_at}
use Rattle.rk_world.specs.Step.{step}
use Rattle.rk_world.specs.declared.event.Event.{Event}
use Rattle.rk_world.specs.declared.event.Event.TheVariants as events
use Rattle.rk_lane.specs.Events.{IsArrivalIn}
use Rattle.rk_lane.specs.LaneState.{LaneState}
use Rattle.rk_lane.specs.declared.messages.Arrival.{Arrival}
use Rattle.rk_cluster.specs.Acted.{lost_in}
use Rattle.rk_cluster.specs.Effects.{ActsBy, CutShortBy}
use Rattle.rk_cluster.specs.Faults.{BySomeFate}
use Rattle.rk_cluster.specs.Makes.{deliver_in_makes}
use Rattle.rk_cluster.specs.Replicas.{Fate, answer_of}
use Rattle.rk_cluster.specs.State.{ClusterState, IsOf}
use Rattle.rk_cluster.specs.declared.delivering.Delivered.{Delivered}

-- a message that arrives is on the wire of the lane at a place, under its number
abbrev pub IsArrivalAt : {R : Type 0} → List (LaneState R) → ℕ → Arrival → Type 0
IsArrivalAt {R} lanes place arrival = (lane : LaneState R) → slice_get lanes place ≡ Some lane → IsArrivalIn lane arrival

-- whether the receiver of a message, if there is one, is a backup
abbrev pub is_backup : Option Node → Bool
is_backup (Some (nodes.Backup backup)) = true
is_backup receiver = false

-- an event delivers a message to a backup, in the lane at a place
abbrev pub IsForBackup : {R : Type 0} → List (LaneState R) → ℕ → Event → Type 0
IsForBackup {R} lanes place (events.Deliver number) =
    (lane : LaneState R) → slice_get lanes place ≡ Some lane
    → IfSome lane.running (λ running. is_backup (receiver_of number running.wire) ≡ true)
IsForBackup lanes place event = ⊥

-- whether the message of a number is for a backup, and lost when it is delivered, since the backup's replica failed
abbrev pub is_lost_at_backup : Cluster → ℕ → ℕ → Fate → Bool
is_lost_at_backup cluster lane number fate =
    is_backup (receiver_of number (lane_at cluster lane).wire)
    && lost_in (step (lane_at cluster lane) (events.Deliver number) (answer_of cluster lane (events.Deliver number) fate))

-- the message of a number was delivered in a lane, by the fate of the call of a replica, if one was called
abbrev pub Delivers : {R : Type 0} → (R → Option Segments) → (R → ℕ) → ClusterState R → ClusterState R → ℕ → ℕ → List Said → Option ℕ → Type 0
Delivers segments faults old new lane number told broken =
    BySomeFate faults old.lanes new.lanes (λ fate. ActsBy segments old new (λ cluster. deliver_in_makes cluster lane number fate) told broken)

-- or this was cut short by want of memory
abbrev pub DeliversShort : {R : Type 0} → (R → Option Segments) → (R → ℕ) → ClusterState R → ClusterState R → ℕ → ℕ → Type 0
DeliversShort segments faults old new lane number =
    BySomeFate faults old.lanes new.lanes (λ fate. CutShortBy segments old new (λ cluster. deliver_in_makes cluster lane number fate))

-- by this fate of the call of a replica the message of a number was delivered in a lane, and this came of it: what was said, and whether
-- the message was lost at a backup
pub record IsDelivery {R : Type 0} (segments : R → Option Segments) (old new : ClusterState R) (lane number : ℕ) (delivered : Delivered) (fate : Fate) : Type 0 where
  pub acts : ActsBy segments old new (λ cluster. deliver_in_makes cluster lane number fate) (option_to_list delivered.said) None
  pub failed : (cluster : Cluster) → IsOf segments old cluster → is_lost_at_backup cluster lane number fate ≡ delivered.failed
