-- An exchange ends: a node takes its turn, and what is sent then is delivered or forgotten. Each delivery leaves fewer to be made.
use Rattle.std.proofs.Common.{◌≡◌, ◌<◌, ◌≤◌, ◌+◌, ℕ, zero, suc, true, false, List, [], ◌∷◌, ◌++◌, filter, map, Option, None, Some, is_some}
use Rattle.std.proofs.Common.{refl, sym, ap, subst, append_assoc, arith}
use Rattle.rk_scripts.proofs.Words.{false≢true, NumberMap, get, LANES, Message, Gave, Cluster, Happens, lane_at, step, World, Course}
use Rattle.rk_scripts.proofs.Words.{hand_by, is_number_off, is_there, oldest_after, sent_after, forgets, find_passes, deliveries_left}
use Rattle.rk_scripts.proofs.Words.{forgotten, masters_in_order, taken_off_fewer, added_after, Event}
use Rattle.rk_inv_lanes.proofs.wires.Steps.{forgotten_leaves}
use Rattle.rk_inv_lanes.proofs.wires.Sums.{removed_most}
use Rattle.rk_inv_lanes.specs.wires.Emptied.{deliveries_of}
use Rattle.rk_scripts.proofs.settle.Delivering.{IsOff, taking_off}
use Rattle.rk_scripts.proofs.settle.ExchangeTasks.{Topic, hands, sorts}
use Rattle.rk_scripts.proofs.settle.Going.{Comes, Goes, IsAt, alone_fresh, goes_here, goes_on, occurs_move, still_move}
use Rattle.rk_scripts.proofs.settle.Lanes.{stepped_changes}
use Rattle.rk_scripts.proofs.settle.NoticesFirst.{formed_at}
use Rattle.rk_scripts.proofs.settle.Setting.{Setting, eight}
use Rattle.rk_scripts.proofs.settle.Tasks.{Task, delivers}

-- once a message is forgotten no more deliveries are left
pub forgotten_no_more : (w : World) (number : ℕ) → deliveries_left (forgotten w number) ≤ deliveries_left w
forgotten_no_more w number =
    omega (arith, forgotten_leaves w number, removed_most (λ (message : Message). deliveries_of message.body) w.wire.messages number)

-- a message that is tested to be there is
pub record IsThere (messages : NumberMap Message) (number : ℕ) : Type 0 where
  pub message : Message
  pub found : get messages number ≡ Some message

pub tested_there : (messages : NumberMap Message) (number : ℕ) → is_some (get messages number) ≡ true → IsThere messages number
tested_there messages number there = grind (arith, false≢true)

-- these tasks are left
abbrev pub HasLeft : List Task → Course → Type 0
HasLeft rest course = course.tasks ≡ rest

module _ (s : Setting) (lane : ℕ) (inside : lane < LANES) where
  -- these tasks are left, and no more deliveries than so many
  record HasFew (most : ℕ) (rest : List Task) (course : Course) : Type 0 where
    left : course.tasks ≡ rest
    few : deliveries_left (lane_at course.cluster lane) ≤ most

  -- messages are forgotten
  forgets_walk : (most : ℕ) (list : List ℕ) (rest : List Task) (before : Cluster) (course : Course) → Comes s before course
      → HasFew most (map (forgets lane) list ++ rest) course → Goes s before course (HasFew most rest)
  forgets_walk most [] rest before course comes has = goes_here s before course (HasFew most rest) comes has
  forgets_walk most (number ∷ list) rest before course comes has =
      let w : World = lane_at course.cluster lane in
      let behind : List Task = map (forgets lane) list ++ rest in
      goes_on s before course (HasFew most behind) (HasFew most rest)
      (occurs_move s before course (forgets lane number) behind (Happens lane (Event.Forget number) (Gave None)) false (HasFew most behind) comes has.left refl
      (alone_fresh course.cluster (Happens lane (Event.Forget number) (Gave None)))
      (added_after course.cluster (Happens lane (Event.Forget number) (Gave None)) tt comes.sane.added)
      (λ next at fresh. record {
        left = at.tasks_are;
        few =
            let changes = stepped_changes course.cluster lane (omega (arith, inside, eight s course comes.sane)) (step w (Event.Forget number) (Gave None)) in
            subst (λ (cluster : Cluster). deliveries_left (lane_at cluster lane) ≤ most) (sym at.cluster_is)
            (subst (λ (now : World). deliveries_left now ≤ most) (sym changes.here) (omega (arith, forgotten_no_more w number, has.few)));
      }))
      (λ later comes_later on. forgets_walk most list rest before later comes_later on)

  module _ (topic : Topic) (rest : List Task) where
    -- messages are sorted: what is off the topic is forgotten
    sorting : (from last : ℕ) (before : Cluster) (course : Course) → Comes s before course → course.tasks ≡ sorts lane topic from last ∷ rest
        → Goes s before course (HasFew (deliveries_left (lane_at course.cluster lane)) (hands lane topic from ∷ rest))
    sorting from last before course comes are =
        let w : World = lane_at course.cluster lane in
        let off : List ℕ = filter (is_number_off w.wire topic) (sent_after w.wire last) in
        let left : List Task = map (forgets lane) off ++ hands lane topic from ∷ rest in
        goes_on s before course (IsAt course.cluster left) (HasFew (deliveries_left w) (hands lane topic from ∷ rest))
        (still_move s before course (sorts lane topic from last) rest left (IsAt course.cluster left) comes are
        (record { cluster_is = refl; tasks_are = append_assoc (map (forgets lane) off) (hands lane topic from ∷ []) rest }) (λ next at. at))
        (λ later comes_later at.
        forgets_walk (deliveries_left w) off (hands lane topic from ∷ rest) before later comes_later
        (record { left = at.tasks_are; few = omega (arith, ap (λ (cluster : Cluster). deliveries_left (lane_at cluster lane)) at.cluster_is) }))

    -- messages are handed out
    handing : (fuel from : ℕ) (before : Cluster) (course : Course) → Comes s before course → course.tasks ≡ hands lane topic from ∷ rest
        → deliveries_left (lane_at course.cluster lane) < fuel → Goes s before course (HasLeft rest)
    handing zero from before course comes are few = absurd (omega (arith, few))
    handing (suc fuel) from before course comes are few = go (handing fuel) (oldest_after (lane_at course.cluster lane).wire from) refl
      where
        go : ((from : ℕ) (before : Cluster) (course : Course) → Comes s before course → course.tasks ≡ hands lane topic from ∷ rest
            → deliveries_left (lane_at course.cluster lane) < fuel → Goes s before course (HasLeft rest))
            → (oldest : Option ℕ) → oldest_after (lane_at course.cluster lane).wire from ≡ oldest → Goes s before course (HasLeft rest)
        go again None is = still_move s before course (hands lane topic from) rest rest (HasLeft rest) comes are
            (record { cluster_is = refl; tasks_are = ap (λ (o : Option ℕ). hand_by (lane_at course.cluster lane).wire lane topic o ++ rest) is })
            (λ next at. at.tasks_are)
        go again (Some number) is =
            let w : World = lane_at course.cluster lane in
            let there = tested_there w.wire.messages number (find_passes (is_there w.wire) (sent_after w.wire from) number is) in
            let behind : List Task = sorts lane topic number w.wire.sent ∷ rest in
            let left : List Task = delivers lane number ∷ forgets lane number ∷ behind in
            goes_on s before course (IsAt course.cluster left) (HasLeft rest)
            (still_move s before course (hands lane topic from) rest left (IsAt course.cluster left) comes are
            (record { cluster_is = refl; tasks_are = ap (λ (o : Option ℕ). hand_by w.wire lane topic o ++ rest) is }) (λ next at. at))
            (λ later comes_later at.
            goes_on s before later (IsOff s lane inside number behind w there.message.to course.cluster) (HasLeft rest)
            (subst (λ (cluster : Cluster). Goes s before later (IsOff s lane inside number behind (lane_at cluster lane) there.message.to cluster)) at.cluster_is
            (taking_off s lane inside number behind before later there.message comes_later at.tasks_are
            (subst (λ (cluster : Cluster). get (lane_at cluster lane).wire.messages number ≡ Some there.message) (sym at.cluster_is) there.found)))
            (λ last comes_last off.
            let fewer = taken_off_fewer w number there.message off.arrival (masters_in_order w (formed_at s course comes.sane lane inside)) there.found in
            goes_on s before last (HasFew (deliveries_left (lane_at last.cluster lane)) (hands lane topic number ∷ rest)) (HasLeft rest)
            (sorting number w.wire.sent before last comes_last off.left)
            (λ end comes_end has.
            again number before end comes_end has.left
            (omega (arith, few, fewer, has.few, ap deliveries_left off.changes.here)))))

    -- what was sent is delivered or forgotten
    pub exchanging : (from last : ℕ) (before : Cluster) (course : Course) → Comes s before course → course.tasks ≡ sorts lane topic from last ∷ rest
        → Goes s before course (HasLeft rest)
    exchanging from last before course comes are = goes_on s before course
        (HasFew (deliveries_left (lane_at course.cluster lane)) (hands lane topic from ∷ rest)) (HasLeft rest)
        (sorting from last before course comes are) (λ later comes_later has. handing
        (deliveries_left (lane_at later.cluster lane) + 1) from before later comes_later has.left (omega arith))
