-- A client's last request is sent again and delivered: this calls no replica, since no backup stores what a client sends.
use Rattle.std.proofs.Common.{◌≡◌, ℕ, ◌+◌, ◌<◌, List, [], ◌∷◌, length, Option, None, Some, Result, Ok, Err, refl, sym, subst, arith, IfSome}
use Rattle.std.proofs.Common.{get_or-set_same}
use Rattle.rk_scripts.proofs.Words.{get, get_same, LANES, Placed, Node, HasSentNumbers, Body, Message, Gave, Cluster, cluster_stepped}
use Rattle.rk_scripts.proofs.Words.{lane_at, session_at, refusal, world_stepped, Stepped, sent_again, step, stepped_by, told_for, World}
use Rattle.rk_scripts.proofs.Words.{backup_at, new_world, StepError, LastCall, view, IsSound, acted, all_acted, in_lane}
use Rattle.rk_scripts.proofs.Words.{Event}
use Rattle.rk_sound.specs.Asked.{IsRequest}
use Rattle.rk_cluster.specs.Makes.{again_by, again_in, again_makes}
use Rattle.rk_scripts.proofs.play.Allowed.{allowed_may, came_first}
use Rattle.rk_scripts.proofs.play.Reaching.{GoesOn, lane_good, lane_there, none_on, reached_good}

-- ---- what a client sends calls no replica

-- a node is a client
abbrev IsOfClient : Node → Type 0
IsOfClient (Node.Client client) = Unit {0}
IsOfClient node = ⊥

-- a message, if there is one, is of a client
abbrev ByClient : Option Message → Type 0
ByClient found = IfSome found (λ it. IsOfClient it.from)

none_for : (w : World) (found : Option Message) (fault : Option ℕ) → ByClient found → told_for w found fault ≡ Gave None
none_for w found fault of = grind (arith, backup_at)

-- ---- what is sent again is of a client

by_client : (asked : ℕ → Option LastCall) (journal : List Placed) (client : ℕ) (from : Node) (body : Body) → IsRequest asked journal client from body → IsOfClient from
by_client asked journal client from body is = grind arith

module _ (w : World) (sound : IsSound w) (numbered : HasSentNumbers w.wire) (client : ℕ) where
  -- nothing has the next number
  unsent : (found : Option Message) → get w.wire.messages (w.wire.sent + 1) ≡ found → ByClient found
  unsent None is = tt
  unsent (Some message) is = absurd (omega (arith, (numbered (w.wire.sent + 1) message is).1))

  sent_by : (request : Option Message) → get w.ledger.requests client ≡ request → ByClient (get (sent_again w request).world.wire.messages (w.wire.sent + 1))
  sent_by None is = unsent (get w.wire.messages (w.wire.sent + 1)) refl
  sent_by (Some message) is =
      subst ByClient (sym (get_same w.wire.messages (w.wire.sent + 1) message (w.wire.sent + 1) refl))
      (by_client (view w).asked (view w).journal client message.from message.body (sound.asked.again client message is))

  sent_after : (refused : Option StepError)
      → ByClient (get (world_stepped w (stepped_by w (Event.Again client) (Gave None) refused)).wire.messages (w.wire.sent + 1))
  sent_after None = sent_by (get w.ledger.requests client) refl
  sent_after (Some error) = unsent (get w.wire.messages (w.wire.sent + 1)) refl

-- ---- in a cluster

lane_after : (cluster : Cluster) (lane : ℕ) (stepped : Result Stepped StepError) → lane < length cluster.lanes
    → lane_at (cluster_stepped cluster lane stepped) lane ≡ world_stepped (lane_at cluster lane) stepped
lane_after cluster lane (Ok stepped) within = get_or-set_same cluster.lanes lane stepped.world (new_world lane 0 0) within
lane_after cluster lane (Err error) within = refl

module _ (masters backups : ℕ) (cluster : Cluster) (client : ℕ) where
  again_in_on : (lane : ℕ) → lane < LANES → GoesOn masters backups cluster (all_acted cluster (again_in cluster client lane)).came
  again_in_on lane inside reached =
      let w = lane_at cluster lane in
      let good = lane_good masters backups cluster reached lane inside in
      let number : ℕ = w.wire.sent + 1 in
      let stepped = step w (Event.Again client) (Gave None) in
      let next : Cluster = (acted cluster (in_lane lane (Event.Again client))).cluster in
      let later : Cluster = (acted next (in_lane lane (Event.Deliver number))).cluster in
      let last : Cluster = (acted later (in_lane lane (Event.Forget number))).cluster in
      let sent : ByClient (get (lane_at next lane).wire.messages number) =
      subst (λ (after : World). ByClient (get after.wire.messages number))
      (sym (lane_after cluster lane stepped (lane_there masters backups cluster reached lane inside)))
      (sent_after w good.sound good.formed.wire.numbered client (refusal w (Event.Again client))) in
      came_first masters backups cluster (in_lane lane (Event.Again client)) (in_lane lane (Event.Deliver number) ∷ in_lane lane (Event.Forget number) ∷ [])
      (allowed_may masters backups cluster (in_lane lane (Event.Again client)) (inside, tt, tt) (record { fault = None; told = refl }))
      (came_first masters backups next (in_lane lane (Event.Deliver number)) (in_lane lane (Event.Forget number) ∷ [])
      (allowed_may masters backups next (in_lane lane (Event.Deliver number)) (inside, tt, tt)
      (record { fault = None; told = sym (none_for (lane_at next lane) (get (lane_at next lane).wire.messages number) None sent) }))
      (came_first masters backups later (in_lane lane (Event.Forget number)) []
      (allowed_may masters backups later (in_lane lane (Event.Forget number)) (inside, tt, tt) (record { fault = None; told = refl }))
      (none_on masters backups last)))
      reached

  again_by_on : (lane : Option ℕ) → IfSome lane (λ lane. lane < LANES) → GoesOn masters backups cluster (all_acted cluster (again_by cluster client lane)).came
  again_by_on None inside = none_on masters backups cluster
  again_by_on (Some lane) inside = again_in_on lane inside

  pub again_on : GoesOn masters backups cluster (all_acted cluster (again_makes cluster client)).came
  again_on reached =
      let sent_in = (session_at cluster client).sent_in in
      again_by_on sent_in ((reached_good masters backups cluster reached).sessions client).sent_in reached
