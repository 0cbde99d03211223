-- An exchange in which the coordinator orders something: what has come of it at its end.
use Rattle.std.proofs.Common.{◌≡◌, ◌<◌, ◌≤◌, ℕ, true, false, List, [], ◌∷◌, map, Option, None, sym, ap, subst, ◌∙◌, inl, ⊎_elim, arith, ◌⊎◌}
use Rattle.std.proofs.Common.{option_map}
use Rattle.rk_scripts.proofs.Words.{option_or, Placed, LANES, Message, Gave, Cluster, lane_at, coordinator_step, coordinator_turn, refusal}
use Rattle.rk_scripts.proofs.Words.{worn, filled, world_stepped, step, stepped_by, World, has_crashed, master_at, StepError}
use Rattle.rk_scripts.proofs.Words.{coordinator_exchange, Course, is_on, Node, Event}
use Rattle.rk_scripts.proofs.settle.ExchangeTasks.{Topic, sorts}
use Rattle.rk_scripts.proofs.settle.Exchanged.{turning}
use Rattle.rk_scripts.proofs.settle.Going.{Comes, Goes, goes_here, goes_on}
use Rattle.rk_scripts.proofs.settle.Lanes.{IsSameBeside}
use Rattle.rk_scripts.proofs.settle.NoticesFirst.{formed_at}
use Rattle.rk_scripts.proofs.settle.Orders.{HasAnswered, HasChanged, IsAnswering, IsOrdered, IsOver, IsTaken, answering_tracked, made}
use Rattle.rk_scripts.proofs.settle.Orders.{off_sent, ordered_tracked, over_tracked, pending_sent}
use Rattle.rk_scripts.proofs.settle.Pending.{AreOff, HasOne, OnlyOff, nothing_after, sent_pending}
use Rattle.rk_scripts.proofs.settle.Setting.{Setting}
use Rattle.rk_scripts.proofs.settle.Tasks.{Task}
use Rattle.rk_scripts.proofs.settle.Tracking.{HasNone, IsTracked, IsTrackedTo, tracking}
use Rattle.rk_scripts.proofs.settle.Walking.{HasTurned}

-- these tasks are left, the other lanes are as they were, and this holds of the lane
pub record IsLaneNow (lane : ℕ) (origin : Cluster) (rest : List Task) (P : World → Type 0) (course : Course) : Type 0 where
  pub left : course.tasks ≡ rest
  pub beside : IsSameBeside lane origin course.cluster
  pub now : P (lane_at course.cluster lane)

module _ (s : Setting) (lane : ℕ) (inside : lane < LANES) (origin : Cluster) (topic : Topic) (rest : List Task) (w : World) (m : ℕ) (ours : Message) (to_is : ours.to ≡ Node.Master m)
    (on : is_on topic ours.body ≡ true) (living : has_crashed w m ≡ false) (has : HasOne topic ours (coordinator_turn w.coordinator)) where
  module _ (Next : ℕ → World → Type 0) (next : IsTracked topic s.masters lane Next)
      (enter : (n : ℕ) (v u : World) → OnlyOff topic n v.wire → n ≤ v.wire.sent → IsTaken topic w m ours to_is on living n v u → Next n u) where
    abbrev Holds : ℕ → World → Type 0
    Holds from v = IsOrdered topic w m ours to_is on living from v ⊎ Next from v

    abbrev tracked : IsTracked topic s.masters lane Holds
    tracked = ordered_tracked topic w m ours to_is on living s.masters lane Next next enter

    -- what `Next` says holds at the end, when nothing lies beyond some number
    record HasEnded (v : World) : Type 0 where
      from : ℕ
      holds : Next from v
      none : HasNone topic from v

    ordering : (before : Cluster) (course : Course) → Comes s before course → course.tasks ≡ coordinator_exchange lane topic ∷ rest → IsSameBeside lane origin course.cluster
        → lane_at course.cluster lane ≡ w → Goes s before course (IsLaneNow lane origin rest HasEnded)
    ordering before course comes are beside here =
        goes_on s before course (HasTurned lane Node.Coordinator (sorts lane topic sent sent ∷ rest) course.cluster) (IsLaneNow lane origin rest HasEnded)
        (turning s lane inside topic Node.Coordinator rest before course comes are)
        (λ later comes_later turned.
        goes_on s before later (IsTrackedTo s lane inside origin topic Holds tracked rest) (IsLaneNow lane origin rest HasEnded)
        (tracking s lane inside origin topic Holds tracked sent rest before later comes_later turned.left
        (λ q apart. turned.changes.beside q apart ∙ beside q apart)
        (inl (subst (IsOrdered topic w m ours to_is on living sent) (sym turned.changes.here) (at_turn turned.fresh))))
        (λ end comes_end done.
        goes_here s before end (IsLaneNow lane origin rest HasEnded) comes_end
        (record {
          left = done.left;
          beside = done.beside;
          now = ⊎_elim
              (λ (ordered : IsOrdered topic w m ours to_is on living done.from (lane_at end.cluster lane)).
              absurd (done.none ordered.pending.number ours ordered.pending.after ordered.pending.found))
              (λ (holds : Next done.from (lane_at end.cluster lane)). record { from = done.from; holds = holds; none = done.none })
              done.holds;
        })))
      where
        v : World
        v = lane_at course.cluster lane

        sent : ℕ
        sent = v.wire.sent

        at_turn : worn v ≡ None → IsOrdered topic w m ours to_is on living sent (world_stepped v (step v (Event.Turn Node.Coordinator) (Gave None)))
        at_turn fresh =
            let none : refusal v (Event.Turn Node.Coordinator) ≡ None = ap (λ (number : Option ℕ). option_or (option_map StepError.Worn number) None) fresh in
            subst (λ (refused : Option StepError). IsOrdered topic w m ours to_is on living sent (world_stepped v (stepped_by v (Event.Turn Node.Coordinator) (Gave None) refused))) (sym none)
            (record {
              same = record { coordinator = ap (λ (it : World). it.coordinator) here; each = λ q. ap (λ (it : World). master_at it q) here; crashed = ap (λ (it : World). it.crashed) here };
              pending = sent_pending topic sent ours (coordinator_turn v.coordinator) v.wire
                  (subst (λ (it : World). HasOne topic ours (coordinator_turn it.coordinator)) (sym here) has) (omega arith)
                  (nothing_after topic v.wire (formed_at s course comes.sane lane inside).wire.numbered);
            })

  -- an order that is answered by nothing on the topic has been taken
  pub one_order : ((journal : List Placed) → AreOff topic (map (filled journal (made topic w m ours to_is on living).served) (made topic w m ours to_is on living).sends))
      → (before : Cluster) (course : Course) → Comes s before course → course.tasks ≡ coordinator_exchange lane topic ∷ rest → IsSameBeside lane origin course.cluster
      → lane_at course.cluster lane ≡ w → Goes s before course (IsLaneNow lane origin rest (HasChanged w m (made topic w m ours to_is on living).master))
  one_order off before course comes are beside here =
      let Changed : World → Type 0 = HasChanged w m (made topic w m ours to_is on living).master in
      let Over : ℕ → World → Type 0 = IsOver topic w m ours to_is on living Changed in
      let over : IsTracked topic s.masters lane Over =
      over_tracked topic w m ours to_is on living s.masters lane Changed (λ v n it. record { coordinator = it.coordinator; here = it.here; others = it.others; crashed = it.crashed }) in
      let enter : (n : ℕ) (v u : World) → OnlyOff topic n v.wire → n ≤ v.wire.sent → IsTaken topic w m ours to_is on living n v u → Over n u =
      λ n v u only within taken.
      record {
        nodes_are = taken.changed;
        off =
            off_sent topic n v.wire u.wire (map (filled taken.journal (made topic w m ours to_is on living).served) (made topic w m ours to_is on living).sends)
            (off taken.journal) only taken.wire;
      } in
      goes_on s before course (IsLaneNow lane origin rest (HasEnded Over over enter)) (IsLaneNow lane origin rest Changed)
      (ordering Over over enter before course comes are beside here)
      (λ end comes_end done.
      goes_here s before end (IsLaneNow lane origin rest Changed) comes_end (record { left = done.left; beside = done.beside; now = done.now.holds.nodes_are }))

  -- an order that is answered to the coordinator has been taken, and its answer too
  pub two_orders : (reply : Message) (answers : reply.to ≡ Node.Coordinator) (on_it : is_on topic reply.body ≡ true) (silent : (coordinator_step w.coordinator reply).sends ≡ [])
      → ((journal : List Placed) → HasOne topic reply (map (filled journal (made topic w m ours to_is on living).served) (made topic w m ours to_is on living).sends))
      → (before : Cluster) (course : Course) → Comes s before course → course.tasks ≡ coordinator_exchange lane topic ∷ rest → IsSameBeside lane origin course.cluster
      → lane_at course.cluster lane ≡ w
      → Goes s before course (IsLaneNow lane origin rest (HasAnswered w m (made topic w m ours to_is on living).master (coordinator_step w.coordinator reply).coordinator))
  two_orders reply answers on_it silent one before course comes are beside here =
      let It : World → Type 0 = HasAnswered w m (made topic w m ours to_is on living).master (coordinator_step w.coordinator reply).coordinator in
      let Answering : ℕ → World → Type 0 = IsAnswering topic w m ours to_is on living reply answers on_it silent in
      let Over : ℕ → World → Type 0 = IsOver topic w m ours to_is on living It in
      let Next : ℕ → World → Type 0 = λ from v. Answering from v ⊎ Over from v in
      let next : IsTracked topic s.masters lane Next = answering_tracked topic w m ours to_is on living reply answers on_it silent s.masters lane in
      let enter : (n : ℕ) (v u : World) → OnlyOff topic n v.wire → n ≤ v.wire.sent → IsTaken topic w m ours to_is on living n v u → Next n u =
      λ n v u only within taken. inl
      (record {
        changed = taken.changed;
        pending = grind (arith, pending_sent, filled, made, v.wire, u.wire, taken.journal, taken.wire);
      }) in
      goes_on s before course (IsLaneNow lane origin rest (HasEnded Next next enter)) (IsLaneNow lane origin rest It)
      (ordering Next next enter before course comes are beside here)
      (λ end comes_end done.
      goes_here s before end (IsLaneNow lane origin rest It) comes_end
      (record {
        left = done.left;
        beside = done.beside;
        now = grind (arith, lane_at, end.cluster);
      }))
