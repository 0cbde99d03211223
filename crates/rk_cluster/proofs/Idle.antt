-- Lanes in which no turn leaves anything.
use Rattle.rk_cluster.proofs.Words.{arith, ◌≡◌, ◌<◌, ◌&&◌, ℕ, Bool, true, false, not, cond, [], ◌∷◌, filter, length, Option, None, IfSome}
use Rattle.rk_cluster.proofs.Words.{refl, sym, subst, list_all, NumberMap, numbers, Segments, Node, Gave, Session, Cluster, Happens}
use Rattle.rk_cluster.proofs.Words.{cluster_stepped, lane_at, World, new_world, LaneState, Running, world_with, acted_by, ActsOne}
use Rattle.rk_cluster.proofs.Words.{ClusterState, IsOf, IsWorld, clients_in, is_call_in}
use Rattle.std.proofs.lemmas.List.{set-get_or}
use Rattle.rk_world.specs.declared.event.Event.TheVariants as events
use Rattle.rk_lane.specs.Resting.{IsIdle, IsResting}
use Rattle.rk_cluster.proofs.Worlds.{same_count}

-- if no call is outstanding in a lane no client takes its turn there
pub none_asks : (lane : ℕ) (sessions : NumberMap Session) → list_all (λ entry. not (is_call_in lane entry.1.outstanding)) sessions ≡ true → clients_in lane sessions ≡ []
none_asks lane [] none = refl
none_asks lane (entry ∷ others) none = by (is_call_in lane entry.1.outstanding) (none_asks lane others) none
  where
    later : NumberMap Session
    later = filter (λ (it : ℕ × Session). is_call_in lane it.1.outstanding) others

    no_other : Bool
    no_other = list_all (λ (it : ℕ × Session). not (is_call_in lane it.1.outstanding)) others

    by : (asks : Bool) → (no_other ≡ true → numbers later ≡ []) → (not asks && no_other) ≡ true → numbers (cond asks (entry ∷ later) later) ≡ []
    by true rest none = absurd (cc none)
    by false rest none = rest none

-- the world that a lane represents rests if the lane does
pub rests_there : {R : Type 0} (segments : R → Option Segments) (lane : LaneState R) (w : World) → IsWorld segments lane w
    → IfSome lane.running (λ running. (stored : NumberMap Segments) → IsResting (world_with lane running stored)) → IsResting w
rests_there segments lane w world rests =
    subst IsResting (sym world.is)
    (subst (λ (o : Option Running). IfSome o (λ running. (stored : NumberMap Segments) → IsResting (world_with lane running stored))) world.runs rests world.stored)

-- so the turn of an idle node is an occurrence that leaves the cluster as it is
pub idle_acts : {R : Type 0} (segments : R → Option Segments) (state : ClusterState R) (lane : ℕ) (node : Node) → lane < length state.lanes
    → ((cluster : Cluster) → IsOf segments state cluster → IsIdle (lane_at cluster lane) node)
    → ActsOne segments state state (Happens lane (events.Turn node) (Gave None)) [] None
idle_acts {R} segments state lane node there idle cluster is =
    grind (arith, acted_by, cluster_stepped, same_count, lane_at, set-get_or, new_world)
