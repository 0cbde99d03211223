-- What follows on a cluster in the course of a command: no fewer messages were sent in each lane, and if each master that has crashed was
-- noticed in a lane, each one still is.
use Rattle.std.proofs.Common.{◌≡◌, ◌≤◌, ℕ, false, List, [], ◌∷◌, All, length, refl, ◌∙◌, arith}
use Rattle.rk_scripts.proofs.Words.{All-head, All-tail, LANES, accept, ask, Accepts, Asks, Calls, Cluster, Happens, Joins, Occurrence}
use Rattle.rk_scripts.proofs.Words.{cluster_after, cluster_run, joined_by, lane_at, session_at, world_stepped, world_visited, step, World}
use Rattle.rk_scripts.proofs.Words.{Event, IsAllowed, IsNoCrash, lanes_stay, AllNoticed}
use Rattle.rk_runs.proofs.duties.Going.{answer_on, asked_turn_on, stepped_on}
use Rattle.rk_runs.proofs.Headlines.{accepted_noticed, asked_noticed, stepped_noticed}
use Rattle.rk_runs.specs.duties.Owners.{is_crash}
use Rattle.rk_scripts.proofs.settle.Lanes.{ChangesLane, each_still, stepped_changes, visited_changes}

-- a lane that follows on another
pub record FollowsIn (w now : World) : Type 0 where
  pub sent : w.wire.sent ≤ now.wire.sent
  pub noticed : AllNoticed w → AllNoticed now

-- a cluster that follows on another
abbrev pub Follows : Cluster → Cluster → Type 0
Follows before after = (q : ℕ) → FollowsIn (lane_at before q) (lane_at after q)

pub follows_itself : (cluster : Cluster) → Follows cluster cluster
follows_itself cluster q = grind (arith, lane_at)

pub follows_on : (a b c : Cluster) → Follows a b → Follows b c → Follows a c
follows_on a b c first second q =
    record { sent = omega (arith, (first q).sent, (second q).sent); noticed = λ all. (second q).noticed ((first q).noticed all) }

-- one lane has changed
changed_follows : (lane : ℕ) (w : World) (before after : Cluster) → ChangesLane lane w before after → FollowsIn (lane_at before lane) w → Follows before after
changed_follows lane w before after changes follows = grind (arith, each_still, lane_at)

-- what is no crash is tested to be none
calm : (event : Event) → IsNoCrash event → is_crash event ≡ false
calm (Event.Crash master) none = absurd none
calm event none = refl

module _ (masters : ℕ) where
  occurred_follows : (cluster : Cluster) (occurrence : Occurrence) → length cluster.lanes ≡ LANES → IsAllowed masters occurrence → Follows cluster (cluster_after cluster occurrence)
  occurred_follows cluster (Happens lane event called) eight allowed =
      let w : World = lane_at cluster lane in
      changed_follows lane (world_stepped w (step w event called)) cluster (cluster_after cluster (Happens lane event called))
      (stepped_changes cluster lane (omega (arith, allowed.0, eight)) (step w event called))
      (record { sent = (stepped_on w event called).wire.sent; noticed = λ all. stepped_noticed w all event called (calm event allowed.1) })
  occurred_follows cluster (Joins client) eight allowed = grind (arith, joined_by, follows_itself, cluster.sessions)
  occurred_follows cluster (Calls client table key op) eight allowed = absurd allowed
  occurred_follows cluster (Asks lane client) eight allowed =
      let w : World = lane_at cluster lane in
      let session = session_at cluster client in
      changed_follows lane (world_visited w (ask w session)) cluster (cluster_after cluster (Asks lane client))
      (visited_changes cluster lane (omega (arith, allowed, eight)) client (ask w session))
      (record { sent = (asked_turn_on w session).wire.sent; noticed = λ all. asked_noticed w all session })
  occurred_follows cluster (Accepts lane number client) eight allowed =
      let w : World = lane_at cluster lane in
      let session = session_at cluster client in
      changed_follows lane (world_visited w (accept w number session)) cluster (cluster_after cluster (Accepts lane number client))
      (visited_changes cluster lane (omega (arith, allowed, eight)) client (accept w number session))
      (record { sent = (answer_on w number session).wire.sent; noticed = λ all. accepted_noticed w all number session })

  -- whatever may occur at any time
  pub run_follows : (cluster : Cluster) (list : List Occurrence) → length cluster.lanes ≡ LANES → All (IsAllowed masters) list → Follows cluster (cluster_run cluster list)
  run_follows cluster [] eight allowed = follows_itself cluster
  run_follows cluster (occurrence ∷ later) eight allowed =
      let next : Cluster = cluster_after cluster occurrence in
      follows_on cluster next (cluster_run next later)
      (occurred_follows cluster occurrence eight (All-head (IsAllowed masters) occurrence later allowed))
      (run_follows next later (lanes_stay cluster (occurrence ∷ []) ∙ eight) (All-tail (IsAllowed masters) occurrence later allowed))
