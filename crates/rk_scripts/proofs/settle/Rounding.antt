-- A round in which a master takes its turn, and a log exchange or a batch of a pull follows: what each master has of a tablet goes on.
use Rattle.std.proofs.Common.{◌≡◌, ◌<◌, ℕ, Bool, true, false, cond, List, [], ◌∷◌, ◌++◌, Option, None, Some, refl, sym, subst, ◌∙◌, ⊎_elim}
use Rattle.std.proofs.Common.{arith, unwrap_or}
use Rattle.rk_scripts.proofs.Words.{cases_eq, false≢true, IsInOrder, get, LANES, Node, overreach, Segments, Body, Message, Backed, Called}
use Rattle.rk_scripts.proofs.Words.{Gave, backup_step, stored_after, accept, Session, Cluster, lane_at, Coordinator, IsWellFormed, Master}
use Rattle.rk_scripts.proofs.Words.{new_master, tablet_at, master_step, told_master, master_turn, refusal, is_frozen_at, world_stepped}
use Rattle.rk_scripts.proofs.Words.{world_visited, backed_at, delivered, delivered_to, log_bytes_of, losing, quietly, seen_in, step}
use Rattle.rk_scripts.proofs.Words.{stepped_by, with_sends, worked_at, Worked, changed, World, has_crashed, is_backup, master_at, tablet_in}
use Rattle.rk_scripts.proofs.Words.{with_stored_by, StepError, Course, round_of, turn_exchange, is_on, master_other, master_same, Arrival}
use Rattle.rk_scripts.proofs.Words.{arrived, forgotten, Event}
use Rattle.rk_world.specs.CoordinatorStep.{told_coordinator}
use Rattle.rk_scripts.proofs.settle.Delivering.{ArrivesAt}
use Rattle.rk_scripts.proofs.settle.ExchangeTasks.{Topic, log_topic, pull_topic, sorts}
use Rattle.rk_scripts.proofs.settle.Exchanged.{Sends, turning}
use Rattle.rk_scripts.proofs.settle.Following.{follows_itself}
use Rattle.rk_scripts.proofs.settle.Going.{Comes, Goes, IsAt, goes_here, goes_on, goes_then, still_move}
use Rattle.rk_scripts.proofs.settle.Turning.{either_is}
use Rattle.rk_scripts.proofs.settle.Keeping.{GoesOnAt, Onward, onward_itself, onward_then, pulled_on, stored_on, turn_on}
use Rattle.rk_scripts.proofs.settle.Lanes.{IsSameBeside}
use Rattle.rk_scripts.proofs.settle.NoticesFirst.{formed_at}
use Rattle.rk_scripts.proofs.settle.Numbers.{left_fewer, left_no_more, sends_left}
use Rattle.rk_scripts.proofs.settle.Ordering.{IsLaneNow}
use Rattle.rk_scripts.proofs.settle.Orders.{IsSameAs}
use Rattle.rk_scripts.proofs.settle.Pending.{forgotten_cases}
use Rattle.rk_scripts.proofs.settle.Rounds.{begin}
use Rattle.rk_scripts.proofs.settle.Setting.{Setting}
use Rattle.rk_scripts.proofs.settle.Tasks.{Task, ends}
use Rattle.rk_scripts.proofs.settle.Tracking.{IsTracked, IsTrackedTo, tracking}
use Rattle.rk_scripts.proofs.settle.Walking.{HasTurned}
use Rattle.rk_scripts.proofs.settle.Worn.{sent_below}
use Rattle.rk_inv_lanes.proofs.lanes.Visits.{accept_covered}

-- ---- arrivals that change no node

same_itself : (v : World) → IsSameAs v v
same_itself v = record { coordinator = refl; each = λ q. refl; crashed = refl }

module _ (v : World) where
  accepted_same : (number : ℕ) (session : Session) → IsSameAs v (world_visited v (accept v number session))
  accepted_same number session =
      accept_covered (IsSameAs v) v session (same_itself v) number (λ body. record { coordinator = refl; each = λ q. refl; crashed = refl })

  stored_nodes : (number : ℕ) (store : Segments → Segments) (found : Option Segments) → IsSameAs v (with_stored_by v number store found)
  stored_nodes number store None = same_itself v
  stored_nodes number store (Some segments) = record { coordinator = refl; each = λ q. refl; crashed = refl }

  backup_same : (message : Message) (backup : ℕ) (called : Called) → IsSameAs v (delivered_to v message (Node.Backup backup) called).world
  backup_same message backup called = go (is_backup v backup)
    where
      u : World
      u = with_stored_by v backup (λ segments. stored_after segments message.from message.body called) (get v.backups backup)

      same : IsSameAs v u
      same = stored_nodes backup (λ segments. stored_after segments message.from message.body called) (get v.backups backup)

      by : (answer : Backed) (b : Bool) → IsSameAs v (cond b (losing u) (with_sends u answer.sends)).world
      by answer true = record { coordinator = same.coordinator; each = same.each; crashed = same.crashed }
      by answer false = record { coordinator = same.coordinator; each = same.each; crashed = same.crashed }

      go : (b : Bool) → IsSameAs v (cond b (backed_at u (backup_step backup message.from message.body (log_bytes_of v) called)) (quietly v)).world
      go true = by (backup_step backup message.from message.body (log_bytes_of v) called) (backup_step backup message.from message.body (log_bytes_of v) called).lost
      go false = record { coordinator = refl; each = λ q. refl; crashed = refl }

  client_same : (n client : ℕ) (message : Message) (arrival : Arrival) → get v.wire.messages n ≡ Some message → message.to ≡ Node.Client client → IsSameAs v (arrived v n arrival)
  client_same n client message arrival found to_is =
      grind (arith, refusal, world_stepped, stepped_by, delivered, delivered_to, same_itself, accepted_same)

-- ---- what goes on at masters

module _ (number : ℕ) (w : World) where
  -- the coordinator is as it was, the same masters have crashed, and what each has of the tablet has gone on
  pub record IsOn (v : World) : Type 0 where
    pub coordinator : v.coordinator ≡ w.coordinator
    pub crashed : v.crashed ≡ w.crashed
    pub each : (q : ℕ) → Onward (tablet_in w q number).handover (tablet_in v q number).handover

  on_same : (v u : World) → IsSameAs v u → IsOn v → IsOn u
  on_same v u same on = grind (arith, tablet_in, tablet_at)

  on_forgotten : (v : World) (n : ℕ) → IsOn v → IsOn (forgotten v n)
  on_forgotten v n on = forgotten_cases IsOn v n on (record { coordinator = on.coordinator; crashed = on.crashed; each = on.each })

  on_worked : (v : World) (m seen : ℕ) (worked : Worked) → GoesOnAt number (master_at v m) worked.master → IsOn v → IsOn (worked_at v m seen worked).world
  on_worked v m seen worked goes on = record {
    coordinator = on.coordinator;
    crashed = on.crashed;
    each = λ q.
        ⊎_elim
        (λ (is : q ≡ m).
        subst (λ (it : Master). Onward (tablet_in w q number).handover (tablet_at it number).handover) (sym (master_same v m worked.master q is))
        (subst (λ (k : ℕ). Onward (tablet_in w k number).handover (tablet_at worked.master number).handover) (sym is)
        (onward_then (tablet_in w m number).handover (tablet_in v m number).handover (tablet_at worked.master number).handover (on.each m) goes)))
        (λ (apart : q ≡ m → ⊥).
        subst (λ (it : Master). Onward (tablet_in w q number).handover (tablet_at it number).handover) (sym (master_other v m worked.master q apart)) (on.each q))
        (cases_eq q m);
  }

  module _ (topic : Topic) (masters lane : ℕ)
      (quiet : (c : Coordinator) (sender : Node) (body : Body) → is_on topic body ≡ true → (told_coordinator c sender body).coordinator ≡ c)
      (steps : (master : Master) (sender : Node) (body : Body) → IsInOrder master.tablets → is_on topic body ≡ true → GoesOnAt number master (told_master master sender body).master) where
    order_at : (v : World) → IsWellFormed v → (m : ℕ) → IsInOrder (master_at v m).tablets
    order_at v formed m = go (get v.masters m) refl
      where
        go : (it : Option Master) → get v.masters m ≡ it → IsInOrder (unwrap_or it (new_master m [])).tablets
        go None is = tt
        go (Some there) is = (formed.masters m there is).tablets_order

    taken_on : (v : World) (n : ℕ) (message : Message) (arrival : Arrival) → IsWellFormed v → get v.wire.messages n ≡ Some message → is_on topic message.body ≡ true
        → (to : Node) → message.to ≡ to → ArrivesAt v n to arrival → IsOn v → IsOn (arrived v n arrival)
    taken_on v n message arrival formed found on_topic (Node.Client client) to_is fits on = on_same v (arrived v n arrival) (client_same v n client message arrival found to_is) on
    taken_on v n message arrival formed found on_topic Node.Coordinator to_is fits on =
        subst (λ (a : Arrival). IsOn (arrived v n a)) (sym fits.is)
        (subst (λ (refused : Option StepError). IsOn (world_stepped v (stepped_by v (Event.Deliver n) fits.called refused))) (sym fits.fresh)
        (subst (λ (o : Option Message). IsOn (delivered v o fits.called).world) (sym found)
        (subst (λ (to : Node). IsOn (delivered_to v message to fits.called).world) (sym to_is)
        (record { coordinator = quiet v.coordinator message.from message.body on_topic ∙ on.coordinator; crashed = on.crashed; each = on.each }))))
    taken_on v n message arrival formed found on_topic (Node.Master m) to_is fits on =
        subst (λ (a : Arrival). IsOn (arrived v n a)) (sym fits.is)
        (subst (λ (refused : Option StepError). IsOn (world_stepped v (stepped_by v (Event.Deliver n) fits.called refused))) (sym fits.fresh)
        (subst (λ (o : Option Message). IsOn (delivered v o fits.called).world) (sym found)
        (subst (λ (to : Node). IsOn (delivered_to v message to fits.called).world) (sym to_is) (go (has_crashed v m)))))
      where
        go : (b : Bool) → IsOn (cond b (losing v) (worked_at v m (seen_in message.body) (master_step (master_at v m) message))).world
        go true = record { coordinator = on.coordinator; crashed = on.crashed; each = on.each }
        go false = on_worked v m (seen_in message.body) (master_step (master_at v m) message)
            (steps (master_at v m) message.from message.body (order_at v formed m) on_topic) on
    taken_on v n message arrival formed found on_topic (Node.Backup backup) to_is fits on =
        subst (λ (a : Arrival). IsOn (arrived v n a)) (sym fits.is)
        (subst (λ (refused : Option StepError). IsOn (world_stepped v (stepped_by v (Event.Deliver n) fits.called refused))) (sym fits.fresh)
        (subst (λ (o : Option Message). IsOn (delivered v o fits.called).world) (sym found)
        (subst (λ (to : Node). IsOn (delivered_to v message to fits.called).world) (sym to_is)
        (on_same v (delivered_to v message (Node.Backup backup) fits.called).world (backup_same v message backup fits.called) on))))

    on_tracked : IsTracked topic masters lane (λ from v. IsOn v)
    on_tracked = record {
      forgets = λ from n v off on. on_forgotten v n on;
      takes = λ from n v message arrival good after found on_topic fits on.
          on_forgotten (arrived v n arrival) n (taken_on v n message arrival good.formed found on_topic message.to refl fits on);
    }

    -- a master's turn
    on_turn : (m : ℕ) → IsWellFormed w → IsOn (world_stepped w (step w (Event.Turn (Node.Master m)) (Gave None)))
    on_turn m formed = go (refusal w (Event.Turn (Node.Master m)))
      where
        still : IsOn w
        still = record { coordinator = refl; crashed = refl; each = λ q. onward_itself (tablet_in w q number).handover }

        go : (refused : Option StepError) → IsOn (world_stepped w (stepped_by w (Event.Turn (Node.Master m)) (Gave None) refused))
        go None = on_worked w m 0 (master_turn (master_at w m)) (turn_on number (master_at w m) (order_at w formed m)) still
        go (Some error) = still

-- ---- a round

-- what each master has of the tablet has gone on, and fewer messages may be sent
pub record HasRounded (lane : ℕ) (origin : Cluster) (number : ℕ) (w : World) (most : ℕ) (rest : List Task) (course : Course) : Type 0 where
  pub lane_now : IsLaneNow lane origin rest (IsOn number w) course
  pub fewer : sends_left course.cluster < most

module _ (s : Setting) (lane : ℕ) (inside : lane < LANES) (origin : Cluster) (number : ℕ) (topic : Topic) (m : ℕ) (rest : List Task)
    (quiet : (c : Coordinator) (sender : Node) (body : Body) → is_on topic body ≡ true → (told_coordinator c sender body).coordinator ≡ c)
    (steps : (master : Master) (sender : Node) (body : Body) → IsInOrder master.tablets → is_on topic body ≡ true → GoesOnAt number master (told_master master sender body).master) where
  rounded : (behind : List Task) (before : Cluster) (course : Course) → Comes s before course → course.tasks ≡ turn_exchange lane topic (Node.Master m) ∷ behind
      → IsSameBeside lane origin course.cluster → Sends (lane_at course.cluster lane) (Node.Master m)
      → Goes s before course (HasRounded lane origin number (lane_at course.cluster lane) (sends_left course.cluster) behind)
  rounded behind before course comes are beside sends =
      let w : World = lane_at course.cluster lane in
      let sent : ℕ = w.wire.sent in
      let Q : Course → Type 0 = HasRounded lane origin number w (sends_left course.cluster) behind in
      let tracked : IsTracked topic s.masters lane (λ from v. IsOn number w v) = on_tracked number w topic s.masters lane quiet steps in
      goes_then s before course (HasTurned lane (Node.Master m) (sorts lane topic sent sent ∷ behind) course.cluster) Q comes
      (turning s lane inside topic (Node.Master m) behind course.cluster course (record { sane = comes.sane; follows = follows_itself course.cluster }) are)
      (λ later comes_later follows turned.
      let fewer =
      left_fewer course.cluster later.cluster lane (λ q. (follows q).sent) inside (sent_below w (formed_at s course comes.sane lane inside) turned.fresh)
      (subst (λ (now : World). w.wire.sent < now.wire.sent) (sym turned.changes.here) (sends turned.fresh)) in
      goes_then s before later (IsTrackedTo s lane inside origin topic (λ from v. IsOn number w v) tracked behind) Q comes_later
      (tracking s lane inside origin topic (λ from v. IsOn number w v) tracked sent behind later.cluster later (record { sane = comes_later.sane; follows = follows_itself later.cluster }) turned.left
      (λ q apart. turned.changes.beside q apart ∙ beside q apart)
      (subst (IsOn number w) (sym turned.changes.here) (on_turn number w topic s.masters lane quiet steps m (formed_at s course comes.sane lane inside))))
      (λ end comes_end on done.
      let no_more = left_no_more later.cluster end.cluster (λ q. (on q).sent) in
      goes_here s before end Q comes_end
      (record { lane_now = record { left = done.left; beside = done.beside; now = done.holds }; fewer = omega (arith, fewer, no_more) })))

  pub rounding : (before : Cluster) (course : Course) → Comes s before course → course.tasks ≡ round_of (turn_exchange lane topic (Node.Master m) ∷ []) ++ rest
      → IsSameBeside lane origin course.cluster → Sends (lane_at course.cluster lane) (Node.Master m)
      → Goes s before course (HasRounded lane origin number (lane_at course.cluster lane) (sends_left course.cluster) rest)
  rounding before course comes are beside sends =
      let w : World = lane_at course.cluster lane in
      let Q : Course → Type 0 = HasRounded lane origin number w (sends_left course.cluster) rest in
      goes_on s before course (IsAt course.cluster (turn_exchange lane topic (Node.Master m) ∷ ends ∷ rest)) Q
      (begin s (turn_exchange lane topic (Node.Master m) ∷ ends ∷ rest) before course comes are)
      (λ later comes_later at.
      goes_on s before later (HasRounded lane origin number w (sends_left course.cluster) (ends ∷ rest)) Q
      (subst (λ (cluster : Cluster). Goes s before later (HasRounded lane origin number (lane_at cluster lane) (sends_left cluster) (ends ∷ rest))) at.cluster_is
      (rounded (ends ∷ rest) before later comes_later at.tasks_are (subst (IsSameBeside lane origin) (sym at.cluster_is) beside)
      (subst (λ (cluster : Cluster). Sends (lane_at cluster lane) (Node.Master m)) (sym at.cluster_is) sends)))
      (λ last comes_last done.
      still_move s before last ends rest rest Q comes_last done.lane_now.left (record { cluster_is = refl; tasks_are = refl })
      (λ next at_end. record {
        lane_now = record {
          left = at_end.tasks_are;
          beside = subst (IsSameBeside lane origin) (sym at_end.cluster_is) done.lane_now.beside;
          now = subst (λ (cluster : Cluster). IsOn number w (lane_at cluster lane)) (sym at_end.cluster_is) done.lane_now.now;
        };
        fewer = subst (λ (cluster : Cluster). sends_left cluster < sends_left course.cluster) (sym at_end.cluster_is) done.fewer;
      })))

-- ---- log exchanges

pub log_quiet : (c : Coordinator) (sender : Node) (body : Body) → is_on log_topic body ≡ true → (told_coordinator c sender body).coordinator ≡ c
log_quiet c sender body on = grind (arith, false≢true)

pub log_steps : (number : ℕ) (master : Master) (sender : Node) (body : Body) → IsInOrder master.tablets → is_on log_topic body ≡ true → GoesOnAt number master (told_master master sender body).master
log_steps number master sender body order on = grind (arith, stored_on, overreach, onward_itself, tablet_at, false≢true)

-- ---- pulls

pub pull_quiet : (tablet : ℕ) (c : Coordinator) (sender : Node) (body : Body) → is_on (pull_topic tablet) body ≡ true → (told_coordinator c sender body).coordinator ≡ c
pull_quiet tablet c sender body on = grind (arith, false≢true)

pub pull_steps : (tablet number : ℕ) (master : Master) (sender : Node) (body : Body) → IsInOrder master.tablets → is_on (pull_topic tablet) body ≡ true
    → GoesOnAt number master (told_master master sender body).master
pull_steps tablet number master sender body order on =
    grind (arith, either_is, is_frozen_at, tablet_at, changed, onward_itself, pulled_on, false≢true)
