-- The last reaches of a migration: its target is granted the tablet, pulls it all, and waits until its closing entry is applied.
use Rattle.std.proofs.Common.{◌≡◌, ◌<◌, ◌≤◌, ◌==◌, ◌&&◌, ℕ, zero, suc, Bool, true, false, List, [], ◌∷◌, ◌++◌, length, All, Option, None}
use Rattle.std.proofs.Common.{Some, refl, sym, ap, subst, ◌∙◌, inl, inr, arith, ◌⊎◌, unwrap_or, eq-eqb, eqb-true, ltb-false, w32}
use Rattle.rk_scripts.proofs.Words.{and_from, and_parts, false≢true, or_right, All-contains, All-nil, All-weaker, get, LANES, IsNumber}
use Rattle.rk_scripts.proofs.Words.{Entry, FIRST_SIDE_SEGMENT, Message, row_of, Phase, Opening, Moving, Row, Role, Cluster, lane_at}
use Rattle.rk_scripts.proofs.Words.{Coordinator, coordinator_step, Master, new_master, tablet_at, IsMaster, Tablet, no_tablet, Range, World}
use Rattle.rk_scripts.proofs.Words.{master_at, tablet_in, view, Holds, bond_of, coordinator_exchange, grant_task, log_round, reach_phase}
use Rattle.rk_scripts.proofs.Words.{Course, is_joining, is_target, turn_exchange, is_on, Granted, Pulled, Joined, IsGoodLane, Lasts}
use Rattle.rk_scripts.proofs.Words.{found_stands, Node}
use Rattle.rk_tablet_map.specs.Phase.{lineage_of}
use Rattle.rk_world.specs.Notices.{names}
use Rattle.rk_sound.specs.Posts.{ReadyTarget}
use Rattle.rk_sound.specs.Receives.{HasClosing, IsClosedAt, MembersFit, is_granted as has_grant, joined_place}
use Rattle.rk_settle.specs.Reaches.{has_joined, is_at_term}
use Rattle.rk_scripts.proofs.settle.Effects.{at_target, closes, fitted, hand_on, hand_sent, hands_over, invited_post, transfer_on}
use Rattle.rk_scripts.proofs.settle.Effects.{transfer_row, transfer_sent, transfer_silent}
use Rattle.rk_scripts.proofs.settle.ExchangeTasks.{Topic, hand_topic, log_topic, pull_topic, reaches, sorts}
use Rattle.rk_scripts.proofs.settle.Exchanged.{Sends, turning}
use Rattle.rk_scripts.proofs.settle.Going.{Comes, Goes, IsAt, goes_here, goes_on}
use Rattle.rk_scripts.proofs.settle.Lanes.{IsSameBeside}
use Rattle.rk_scripts.proofs.settle.Migrated.{grants_it, in_still, lives_on}
use Rattle.rk_scripts.proofs.settle.Migrating.{AfterGranted, AfterPulled, IsIn, skips, tasks_where, unfolds}
use Rattle.rk_scripts.proofs.settle.Numbers.{sends_left}
use Rattle.rk_scripts.proofs.settle.Ordering.{IsLaneNow, two_orders}
use Rattle.rk_scripts.proofs.settle.Orders.{HasAnswered, made}
use Rattle.rk_scripts.proofs.settle.Patient.{WaitsIn}
use Rattle.rk_scripts.proofs.settle.PatientLanes.{reached_patient}
use Rattle.rk_scripts.proofs.settle.Rounding.{HasRounded, log_quiet, log_steps, pull_quiet, pull_steps, rounding}
use Rattle.rk_scripts.proofs.settle.Sending.{receiving_sends, waiting_sends}
use Rattle.rk_scripts.proofs.settle.Setting.{IsSane, Setting, here}
use Rattle.rk_scripts.proofs.settle.Staging.{good_at, master_sends, past_some}
use Rattle.rk_scripts.proofs.settle.Tasks.{Task}
use Rattle.rk_scripts.proofs.settle.Tracking.{IsTracked, IsTrackedTo, tracking}
use Rattle.rk_scripts.proofs.settle.Walking.{HasTurned}

-- a test of two parts fails if the second does
second_fails : (a b : Bool) → b ≡ false → (a && b) ≡ false
second_fails true b is = is
second_fails false b is = refl

-- if a role has its closing entry, that is closed
closed_at : (role : Role) (entry : ℕ) (closing : Entry) (range : Range) (from : ℕ) (list : List Entry) → role ≡ Role.Joining (Some entry)
    → HasClosing (joined_place role) closing range from list → IsClosedAt closing range from list entry
closed_at role entry closing range from list is has = subst (λ (r : Role). HasClosing (joined_place r) closing range from list) is has

module _ (s : Setting) (lane : ℕ) (inside : lane < LANES) (origin : Cluster) (rest : List Task) where
  module _ (row : Row) (source sfrom target dfrom : ℕ) where
    abbrev pub tablet : ℕ
    tablet = row.tablet

    -- what a target that made ready has is no grant
    not_granted : (w : World) → IsGoodLane Lasts s.masters lane w → IsIn tablet row (Opening source sfrom target (Some dfrom)) source target w
        → is_at_term (tablet_in w target tablet) row.term is_target ≡ false
    not_granted w good there = by (tablet_in w target tablet).handover.role refl
        (fitted s.masters lane w good row there.found target (ReadyTarget dfrom) there.target_lives
        (invited_post s.masters lane w good row there.found source sfrom target (Some dfrom) there.phase_is))
      where
        by : (role : Role) → (tablet_in w target tablet).handover.role ≡ role → Holds (bond_of (ReadyTarget dfrom) role) row.term (tablet_in w target tablet).handover.term (master_at w target).applied
            → is_at_term (tablet_in w target tablet) row.term is_target ≡ false
        by (Role.Wanting from) at both = second_fails ((tablet_in w target tablet).handover.term == row.term) (is_target (tablet_in w target tablet).handover.role) (ap is_target at)
        by _ at never = absurd never

    -- the source reports what it hands over, and the target is granted the tablet
    pub hands_it : (before : Cluster) (course : Course) → Comes s before course → course.tasks ≡ reaches lane tablet Granted ∷ rest → IsSameBeside lane origin course.cluster
        → IsIn tablet row (Opening source sfrom target (Some dfrom)) source target (lane_at course.cluster lane)
        → (tablet_in (lane_at course.cluster lane) source tablet).handover.term ≡ row.term → (tablet_in (lane_at course.cluster lane) source tablet).handover.role ≡ Role.Frozen
        → Goes s before course (IsLaneNow lane origin rest (AfterGranted tablet))
    hands_it before course comes are beside there term role =
        goes_on s before course (IsAt course.cluster (coordinator_exchange lane topic ∷ behind)) (IsLaneNow lane origin rest (AfterGranted tablet))
        (unfolds s lane inside origin rest tablet Granted (coordinator_exchange lane topic ∷ grant_task lane tablet ∷ []) before course comes are
        (tasks_where w lane tablet Granted row (Opening source sfrom target (Some dfrom)) there.found there.phase_is false (not_granted w good there)))
        (λ later comes_later at.
        goes_on s before later (IsLaneNow lane origin behind (HasAnswered w source (made topic w source ours refl on there.source_lives).master (coordinator_step w.coordinator reply).coordinator)) (IsLaneNow lane origin rest (AfterGranted tablet))
        (two_orders s lane inside origin topic behind w source ours refl on there.source_lives
        (hand_sent s.masters lane w good row there.found source sfrom target dfrom there.phase_is there.source_lives) reply refl
        (transfer_on s.masters lane w good row there.found source sfrom target dfrom there.phase_is there.source_lives term role)
        (transfer_silent s.masters lane w good row there.found source sfrom target dfrom there.phase_is there.source_lives term role)
        (transfer_sent s.masters lane w good row there.found source sfrom target dfrom there.phase_is there.source_lives term role)
        before later comes_later at.tasks_are (subst (IsSameBeside lane origin) (sym at.cluster_is) beside) (ap (λ (cluster : Cluster). lane_at cluster lane) at.cluster_is))
        (λ end comes_end done.
        grants_it s lane inside origin rest (record row { phase = Moving source sfrom target dfrom }) source sfrom target dfrom before end comes_end done.left done.beside
        (record {
          found = ap (λ (it : Coordinator). row_of it.rows tablet) done.now.coordinator
              ∙ transfer_row s.masters lane w good row there.found source sfrom target dfrom there.phase_is there.source_lives term role;
          phase_is = refl;
          source_lives = lives_on w (lane_at end.cluster lane) source done.now.crashed there.source_lives;
          target_lives = lives_on w (lane_at end.cluster lane) target done.now.crashed there.target_lives;
        })))
      where
        w : World
        w = lane_at course.cluster lane

        good : IsGoodLane Lasts s.masters lane w
        good = good_at s course comes.sane lane inside

        topic : Topic
        topic = hand_topic tablet

        behind : List Task
        behind = grant_task lane tablet ∷ rest

        ours : Message
        ours = closes s.masters lane w good row there.found source sfrom target dfrom there.phase_is there.source_lives

        on : is_on topic ours.body ≡ true
        on = hand_on s.masters lane w good row there.found source sfrom target dfrom there.phase_is there.source_lives

        reply : Message
        reply = hands_over s.masters lane w good row there.found source sfrom target dfrom there.phase_is there.source_lives term role

    -- if the tablet moves
    pub moving_granted : (before : Cluster) (course : Course) → Comes s before course → course.tasks ≡ reaches lane tablet Granted ∷ rest → IsSameBeside lane origin course.cluster
        → IsIn tablet row (Moving source sfrom target dfrom) source target (lane_at course.cluster lane) → Goes s before course (IsLaneNow lane origin rest (AfterGranted tablet))
    moving_granted before course comes are beside there = go (is_at_term (tablet_in w target tablet) row.term is_target) refl
      where
        w : World
        w = lane_at course.cluster lane

        go : (b : Bool) → is_at_term (tablet_in w target tablet) row.term is_target ≡ b → Goes s before course (IsLaneNow lane origin rest (AfterGranted tablet))
        go true is =
            let parts = and_parts ((tablet_in w target tablet).handover.term == row.term) (is_target (tablet_in w target tablet).handover.role) is in
            skips s lane inside origin rest (AfterGranted tablet) tablet Granted before course comes are beside
            (tasks_where w lane tablet Granted row (Moving source sfrom target dfrom) there.found there.phase_is true is)
            (inr
            (record {
              moving = record { row = row; source = source; sfrom = sfrom; target = target; dfrom = dfrom; there = there };
              term = eqb-true (tablet_in w target tablet).handover.term row.term parts.0;
              role = parts.1;
            }))
        go false is =
            goes_on s before course (IsAt course.cluster (grant_task lane tablet ∷ rest)) (IsLaneNow lane origin rest (AfterGranted tablet))
            (unfolds s lane inside origin rest tablet Granted (grant_task lane tablet ∷ []) before course comes are
            (tasks_where w lane tablet Granted row (Moving source sfrom target dfrom) there.found there.phase_is false is))
            (λ later comes_later at.
            grants_it s lane inside origin rest row source sfrom target dfrom before later comes_later at.tasks_are
            (subst (IsSameBeside lane origin) (sym at.cluster_is) beside)
            (subst (λ (cluster : Cluster). IsIn tablet row (Moving source sfrom target dfrom) source target (lane_at cluster lane)) (sym at.cluster_is) there))

    -- ---- pulled

    pub pulls_within : (fuel : ℕ) (before : Cluster) (course : Course) → Comes s before course → course.tasks ≡ reaches lane tablet Pulled ∷ rest → IsSameBeside lane origin course.cluster
        → IsIn tablet row (Moving source sfrom target dfrom) source target (lane_at course.cluster lane)
        → (tablet_in (lane_at course.cluster lane) target tablet).handover.term ≡ row.term → is_target (tablet_in (lane_at course.cluster lane) target tablet).handover.role ≡ true
        → sends_left course.cluster < fuel → Goes s before course (IsLaneNow lane origin rest (AfterPulled tablet))
    pulls_within zero before course comes are beside there term role few = absurd (omega (arith, few))
    pulls_within (suc fuel) before course comes are beside there term role few =
        go (pulls_within fuel) (at_target s.masters lane w (good_at s course comes.sane lane inside) row there.found source sfrom target dfrom there.phase_is there.target_lives role)
      where
        w : World
        w = lane_at course.cluster lane

        go : ((before : Cluster) (course : Course) → Comes s before course → course.tasks ≡ reaches lane tablet Pulled ∷ rest → IsSameBeside lane origin course.cluster
            → IsIn tablet row (Moving source sfrom target dfrom) source target (lane_at course.cluster lane)
            → (tablet_in (lane_at course.cluster lane) target tablet).handover.term ≡ row.term → is_target (tablet_in (lane_at course.cluster lane) target tablet).handover.role ≡ true
            → sends_left course.cluster < fuel → Goes s before course (IsLaneNow lane origin rest (AfterPulled tablet)))
            → ((tablet_in w target tablet).handover.role ≡ Role.Receiving) ⊎ (is_joining (tablet_in w target tablet).handover.role ≡ true)
            → Goes s before course (IsLaneNow lane origin rest (AfterPulled tablet))
        go again (inr joining) =
            skips s lane inside origin rest (AfterPulled tablet) tablet Pulled before course comes are beside
            (tasks_where w lane tablet Pulled row (Moving source sfrom target dfrom) there.found there.phase_is true
            (and_from ((tablet_in w target tablet).handover.term == row.term) (is_joining (tablet_in w target tablet).handover.role)
            (eq-eqb (tablet_in w target tablet).handover.term row.term term) joining))
            (inr
            (record {
              moving = record { row = row; source = source; sfrom = sfrom; target = target; dfrom = dfrom; there = there };
              term = term;
              role = joining;
            }))
        go again (inl receiving) =
            let behind : List Task = reaches lane tablet Pulled ∷ rest in
            let list : List Task = reach_phase lane tablet (Moving source sfrom target dfrom) Pulled in
            goes_on s before course (IsAt course.cluster (list ++ rest)) (IsLaneNow lane origin rest (AfterPulled tablet))
            (unfolds s lane inside origin rest tablet Pulled list before course comes are
            (tasks_where w lane tablet Pulled row (Moving source sfrom target dfrom) there.found there.phase_is false
            (second_fails ((tablet_in w target tablet).handover.term == row.term) (is_joining (tablet_in w target tablet).handover.role) (ap is_joining receiving))))
            (λ later comes_later at.
            goes_on s before later (HasRounded lane origin tablet w (sends_left course.cluster) behind) (IsLaneNow lane origin rest (AfterPulled tablet))
            (subst (λ (cluster : Cluster). Goes s before later (HasRounded lane origin tablet (lane_at cluster lane) (sends_left cluster) behind)) at.cluster_is
            (rounding s lane inside origin tablet (pull_topic tablet) target behind (pull_quiet tablet) (pull_steps tablet tablet) before later comes_later at.tasks_are
            (subst (IsSameBeside lane origin) (sym at.cluster_is) beside)
            (subst (λ (cluster : Cluster). Sends (lane_at cluster lane) (Node.Master target)) (sym at.cluster_is) (receiving_sends w target tablet there.target_lives receiving))))
            (λ last comes_last done.
            let on = done.lane_now.now in
            again before last comes_last done.lane_now.left done.lane_now.beside
            (in_still tablet row (Moving source sfrom target dfrom) source target w (lane_at last.cluster lane) on.coordinator on.crashed there)
            ((on.each target).term ∙ term) ((on.each target).target role) (omega (arith, few, done.fewer))))

    -- ---- joined

    -- a target that has all, but whose closing entry is not applied, sends on its turn
    joining_sends : (course : Course) (sane : IsSane s course) → IsIn tablet row (Moving source sfrom target dfrom) source target (lane_at course.cluster lane)
        → (tablet_in (lane_at course.cluster lane) target tablet).handover.term ≡ row.term → is_joining (tablet_in (lane_at course.cluster lane) target tablet).handover.role ≡ true
        → is_at_term (tablet_in (lane_at course.cluster lane) target tablet) row.term (has_joined (master_at (lane_at course.cluster lane) target).applied) ≡ false
        → Sends (lane_at course.cluster lane) (Node.Master target)
    joining_sends course sane there term joining short = by (tablet_in w target tablet).handover.role refl joining
      where
        w : World
        w = lane_at course.cluster lane

        good : IsGoodLane Lasts s.masters lane w
        good = good_at s course sane lane inside

        not_joined : has_joined (master_at w target).applied (tablet_in w target tablet).handover.role ≡ false
        not_joined =
            ap (λ (b : Bool). b && has_joined (master_at w target).applied (tablet_in w target tablet).handover.role) (sym (eq-eqb (tablet_in w target tablet).handover.term row.term term))
            ∙ short

        -- what it knows of its backups, and what it has sealed
        there_formed : (P : Master → Type 0) → P (new_master target []) → ((it : Master) → get w.masters target ≡ Some it → P it) → P (master_at w target)
        there_formed P none some = go (get w.masters target) refl
          where
            go : (it : Option Master) → get w.masters target ≡ it → P (unwrap_or it (new_master target []))
            go None is = none
            go (Some master) is = some master is

        by : (role : Role) → (tablet_in w target tablet).handover.role ≡ role → is_joining role ≡ true → Sends w (Node.Master target)
        by (Role.Joining None) at is =
            let patient = reached_patient s.masters s.backups course.cluster (here s course sane) lane inside target in
            let backed : 1 ≤ length (master_at w target).log.known = omega (arith, good.sound.nodes.backed, good.sound.nodes.known target is_master) in
            waiting_sends w target tablet there.target_lives backed low (good.steady.0.sealed target tablet)
            (subst (WaitsIn (master_at w target) (tablet_in w target tablet)) at (patient.each tablet) backed)
          where
            low : All (λ n. FIRST_SIDE_SEGMENT ≤ n) (tablet_in w target tablet).pulling.sealed
            low =
                there_formed (λ (it : Master). All (λ n. FIRST_SIDE_SEGMENT ≤ n) (tablet_at it tablet).pulling.sealed) (All-nil _)
                (λ it found. in_tablet it found (get it.tablets tablet) refl)
              where
                in_tablet : (it : Master) → get w.masters target ≡ Some it → (o : Option Tablet) → get it.tablets tablet ≡ o → All (λ n. FIRST_SIDE_SEGMENT ≤ n) (unwrap_or o no_tablet).pulling.sealed
                in_tablet it found None none = All-nil _
                in_tablet it found (Some tab) some =
                    All-weaker (IsNumber w32 FIRST_SIDE_SEGMENT) (λ n. FIRST_SIDE_SEGMENT ≤ n) (λ n is. is.least_is) tab.pulling.sealed
                    ((good.formed.masters target it found).tablets tablet tab some).pulled.sealed.each

            is_master : IsMaster w.coordinator.masters target
            is_master =
                All-contains (λ (r : Row). names r.phase target ≡ true → IsMaster w.coordinator.masters target) w.coordinator.rows row (good.sound.nodes.named target)
                (found_stands w.coordinator.rows tablet row there.found)
                (ap (λ (p : Phase). names p target) there.phase_is ∙ or_right (source == target) (target == target) (eq-eqb target target refl))
        by (Role.Joining (Some entry)) at is =
            let v = view w in
            let fits =
            All-contains (λ (r : Row). MembersFit r v.written v.handovers v.pullings v.records v.handed (lineage_of r.phase)) w.coordinator.rows row good.sound.receives.targets
            (found_stands w.coordinator.rows tablet row there.found) in
            let moving : MembersFit row v.written v.handovers v.pullings v.records v.handed (lineage_of (Moving source sfrom target dfrom)) =
            subst (λ (p : Phase). MembersFit row v.written v.handovers v.pullings v.records v.handed (lineage_of p)) there.phase_is fits in
            let closed = closed_at (tablet_in w target tablet).handover.role entry _ _ _ _ at (moving (ap has_grant at)).closing in
            let behind : (master_at w target).applied ≤ entry =
            ltb-false entry (master_at w target).applied (ap (has_joined (master_at w target).applied) (sym at) ∙ not_joined) in
            master_sends s course sane lane inside target there.target_lives
            (past_some (master_at w target).log.entries (master_at w target).applied entry _ behind closed.stands)
        by _ at never = absurd (false≢true never)

    pub joins_within : (fuel : ℕ) (before : Cluster) (course : Course) → Comes s before course → course.tasks ≡ reaches lane tablet Joined ∷ rest → IsSameBeside lane origin course.cluster
        → IsIn tablet row (Moving source sfrom target dfrom) source target (lane_at course.cluster lane)
        → (tablet_in (lane_at course.cluster lane) target tablet).handover.term ≡ row.term → is_joining (tablet_in (lane_at course.cluster lane) target tablet).handover.role ≡ true
        → sends_left course.cluster < fuel → Goes s before course (IsLaneNow lane origin rest (AfterPulled tablet))
    joins_within zero before course comes are beside there term role few = absurd (omega (arith, few))
    joins_within (suc fuel) before course comes are beside there term role few =
        go (joins_within fuel) (is_at_term (tablet_in w target tablet) row.term (has_joined (master_at w target).applied)) refl
      where
        w : World
        w = lane_at course.cluster lane

        go : ((before : Cluster) (course : Course) → Comes s before course → course.tasks ≡ reaches lane tablet Joined ∷ rest → IsSameBeside lane origin course.cluster
            → IsIn tablet row (Moving source sfrom target dfrom) source target (lane_at course.cluster lane)
            → (tablet_in (lane_at course.cluster lane) target tablet).handover.term ≡ row.term → is_joining (tablet_in (lane_at course.cluster lane) target tablet).handover.role ≡ true
            → sends_left course.cluster < fuel → Goes s before course (IsLaneNow lane origin rest (AfterPulled tablet)))
            → (b : Bool) → is_at_term (tablet_in w target tablet) row.term (has_joined (master_at w target).applied) ≡ b
            → Goes s before course (IsLaneNow lane origin rest (AfterPulled tablet))
        go again true is =
            skips s lane inside origin rest (AfterPulled tablet) tablet Joined before course comes are beside
            (tasks_where w lane tablet Joined row (Moving source sfrom target dfrom) there.found there.phase_is true is)
            (inr
            (record {
              moving = record { row = row; source = source; sfrom = sfrom; target = target; dfrom = dfrom; there = there };
              term = term;
              role = role;
            }))
        go again false is =
            let behind : List Task = reaches lane tablet Joined ∷ rest in
            goes_on s before course (IsAt course.cluster (log_round lane target ++ behind)) (IsLaneNow lane origin rest (AfterPulled tablet))
            (unfolds s lane inside origin rest tablet Joined (log_round lane target ++ reaches lane tablet Joined ∷ []) before course comes are
            (tasks_where w lane tablet Joined row (Moving source sfrom target dfrom) there.found there.phase_is false is))
            (λ later comes_later at.
            goes_on s before later (HasRounded lane origin tablet w (sends_left course.cluster) behind) (IsLaneNow lane origin rest (AfterPulled tablet))
            (subst (λ (cluster : Cluster). Goes s before later (HasRounded lane origin tablet (lane_at cluster lane) (sends_left cluster) behind)) at.cluster_is
            (rounding s lane inside origin tablet log_topic target behind log_quiet (log_steps tablet) before later comes_later at.tasks_are
            (subst (IsSameBeside lane origin) (sym at.cluster_is) beside)
            (subst (λ (cluster : Cluster). Sends (lane_at cluster lane) (Node.Master target)) (sym at.cluster_is) (joining_sends course comes.sane there term role is))))
            (λ last comes_last done.
            let on = done.lane_now.now in
            again before last comes_last done.lane_now.left done.lane_now.beside
            (in_still tablet row (Moving source sfrom target dfrom) source target w (lane_at last.cluster lane) on.coordinator on.crashed there)
            ((on.each target).term ∙ term) ((on.each target).joining role) (omega (arith, few, done.fewer))))

  -- ---- an exchange of which nothing is said

  pub plain_exchanging : (topic : Topic) (m : ℕ) (before : Cluster) (course : Course) → Comes s before course → course.tasks ≡ turn_exchange lane topic (Node.Master m) ∷ rest
      → IsSameBeside lane origin course.cluster → Goes s before course (IsLaneNow lane origin rest (λ w. Unit {0}))
  plain_exchanging topic m before course comes are beside =
      let sent : ℕ = (lane_at course.cluster lane).wire.sent in
      let Holds : ℕ → World → Type 0 = λ from w. Unit {0} in
      let tracked : IsTracked topic s.masters lane Holds = record { forgets = λ from n w off it. tt; takes = λ from n w message arrival good after found on fits it. tt } in
      goes_on s before course (HasTurned lane (Node.Master m) (sorts lane topic sent sent ∷ rest) course.cluster) (IsLaneNow lane origin rest (λ w. Unit {0}))
      (turning s lane inside topic (Node.Master m) rest before course comes are)
      (λ later comes_later turned.
      goes_on s before later (IsTrackedTo s lane inside origin topic Holds tracked rest) (IsLaneNow lane origin rest (λ w. Unit {0}))
      (tracking s lane inside origin topic Holds tracked sent rest before later comes_later turned.left (λ q apart. turned.changes.beside q apart ∙ beside q apart) tt)
      (λ end comes_end done.
      goes_here s before end (IsLaneNow lane origin rest (λ w. Unit {0})) comes_end (record { left = done.left; beside = done.beside; now = tt })))
