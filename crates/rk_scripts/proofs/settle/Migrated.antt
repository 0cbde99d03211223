-- The reaches of a migration after its beginning: its source freezes the tablet, its target is granted it, pulls it all, and has joined.
use Rattle.std.proofs.Common.{◌≡◌, ◌≢◌, ◌<◌, ◌+◌, ◌==◌, ℕ, zero, suc, Bool, true, false, not, List, [], ◌∷◌, ◌++◌, Some, refl, sym, ap}
use Rattle.std.proofs.Common.{subst, ◌∙◌, inl, inr, arith, ◌⊎◌, eq-eqb, eqb-true, true≢false}
use Rattle.rk_scripts.proofs.Words.{list_any, and_from, and_parts, cond-true, false≢true, LANES, Entry, Message, row_of, Phase, Opening}
use Rattle.rk_scripts.proofs.Words.{Moving, Row, Role, Cluster, lane_at, Master, is_settled, staged, tablet_at, touches, is_frozen, World}
use Rattle.rk_scripts.proofs.Words.{has_crashed, master_at, tablet_in, Holds, MovingSource, bond_of, post_of, coordinator_exchange}
use Rattle.rk_scripts.proofs.Words.{freeze_by, grant_task, log_round, Course, is_source_frozen, is_target, is_on, Frozen, IsGoodLane, Lasts}
use Rattle.rk_scripts.proofs.Words.{Node}
use Rattle.rk_scripts.proofs.settle.Effects.{at_term_closes, close_off, close_on, close_sent, close_term, closes, fitted, grant_off}
use Rattle.rk_scripts.proofs.settle.Effects.{grant_on, grant_sent, grants, is_granted}
use Rattle.rk_scripts.proofs.settle.ExchangeTasks.{close_topic, freezes, grant_topic, log_topic, reaches}
use Rattle.rk_scripts.proofs.settle.Exchanged.{Sends}
use Rattle.rk_scripts.proofs.settle.Going.{Comes, Goes, IsAt, goes_here, goes_on, still_move}
use Rattle.rk_scripts.proofs.settle.Lanes.{IsSameBeside}
use Rattle.rk_scripts.proofs.settle.Migrating.{AfterFrozen, AfterGranted, IsBegun, IsClosed, IsIn, skips, tasks_where, unfolds}
use Rattle.rk_scripts.proofs.settle.Numbers.{sends_left}
use Rattle.rk_scripts.proofs.settle.Ordering.{IsLaneNow, one_order}
use Rattle.rk_scripts.proofs.settle.Orders.{HasChanged, made}
use Rattle.rk_scripts.proofs.settle.Patient.{WaitsIn}
use Rattle.rk_scripts.proofs.settle.PatientLanes.{reached_patient}
use Rattle.rk_scripts.proofs.settle.Rounding.{HasRounded, log_quiet, log_steps, rounding}
use Rattle.rk_scripts.proofs.settle.Setting.{Setting, here}
use Rattle.rk_scripts.proofs.settle.Staging.{good_at, master_sends}
use Rattle.rk_scripts.proofs.settle.Tasks.{Task}

-- who lives lives on
pub lives_on : (w v : World) (m : ℕ) → v.crashed ≡ w.crashed → has_crashed w m ≡ false → has_crashed v m ≡ false
lives_on w v m same living = ap (λ (crashed : List ℕ). list_any (λ (c : ℕ). c == m) crashed) same ∙ living

-- if the coordinator is as it was, so is the row
pub in_still : (tablet : ℕ) (row : Row) (phase : Phase) (source target : ℕ) (w v : World) → v.coordinator ≡ w.coordinator → v.crashed ≡ w.crashed → IsIn tablet row phase source target w
    → IsIn tablet row phase source target v
in_still tablet row phase source target w v same crashed there = grind (arith, row_of, lives_on)

-- and so is a migration that has begun
abbrev begun_still : (tablet : ℕ) (w v : World) → v.coordinator ≡ w.coordinator → v.crashed ≡ w.crashed → IsBegun tablet w → IsBegun tablet v
begun_still tablet w v same crashed it =
    let there = in_still tablet it.row (Opening it.source it.sfrom it.target (Some it.dfrom)) it.source it.target w v same crashed it.there in
    record { row = it.row; source = it.source; sfrom = it.sfrom; target = it.target; dfrom = it.dfrom; there = there }

is_frozen_role : (role : Role) → is_frozen role ≡ true → role ≡ Role.Frozen
is_frozen_role Role.Frozen is = refl
is_frozen_role _ never = absurd (false≢true never)

module _ (s : Setting) (lane : ℕ) (inside : lane < LANES) (origin : Cluster) (rest : List Task) where
  -- ---- log exchanges while the source closes

  module _ (tablet : ℕ) where
    freezes_within : (fuel source : ℕ) (before : Cluster) (course : Course) → Comes s before course → course.tasks ≡ freezes lane tablet source ∷ rest
        → IsSameBeside lane origin course.cluster → (closed : IsClosed tablet (lane_at course.cluster lane)) → closed.begun.source ≡ source → closed.begun.row.tablet ≡ tablet
        → sends_left course.cluster < fuel → Goes s before course (IsLaneNow lane origin rest (AfterFrozen tablet))
    freezes_within zero source before course comes are beside closed source_is named few = absurd (omega (arith, few))
    freezes_within (suc fuel) source before course comes are beside closed source_is named few =
        go (freezes_within fuel source) (closing_or_frozen closed named)
      where
        w : World
        w = lane_at course.cluster lane

        good : IsGoodLane Lasts s.masters lane w
        good = good_at s course comes.sane lane inside

        closing_or_frozen : (it : IsClosed tablet w) → it.begun.row.tablet ≡ tablet
            → ((tablet_in w it.begun.source tablet).handover.role ≡ Role.Closing) ⊎ ((tablet_in w it.begun.source tablet).handover.role ≡ Role.Frozen)
        closing_or_frozen it same = subst
            (λ (t : ℕ). row_of w.coordinator.rows t ≡ Some it.begun.row → (tablet_in w it.begun.source t).handover.term ≡ it.begun.row.term
            → ((tablet_in w it.begun.source t).handover.role ≡ Role.Closing) ⊎ ((tablet_in w it.begun.source t).handover.role ≡ Role.Frozen)) same
            (λ found term.
            at_term_closes s.masters lane w good it.begun.row found it.begun.source it.begun.sfrom it.begun.target it.begun.dfrom it.begun.there.phase_is it.begun.there.source_lives term)
            it.begun.there.found it.term

        opens : (list : List Task) → freeze_by lane tablet source (tablet_in w source tablet).handover.role ≡ list → Goes s before course (IsAt course.cluster (list ++ rest))
        opens list is =
            still_move s before course (freezes lane tablet source) rest (list ++ rest) (IsAt course.cluster (list ++ rest)) comes are
            (record { cluster_is = refl; tasks_are = ap (λ (l : List Task). l ++ rest) is }) (λ next at. at)

        go : ((before : Cluster) (course : Course) → Comes s before course → course.tasks ≡ freezes lane tablet source ∷ rest
            → IsSameBeside lane origin course.cluster → (closed : IsClosed tablet (lane_at course.cluster lane)) → closed.begun.source ≡ source → closed.begun.row.tablet ≡ tablet
            → sends_left course.cluster < fuel → Goes s before course (IsLaneNow lane origin rest (AfterFrozen tablet)))
            → ((tablet_in w closed.begun.source tablet).handover.role ≡ Role.Closing) ⊎ ((tablet_in w closed.begun.source tablet).handover.role ≡ Role.Frozen)
            → Goes s before course (IsLaneNow lane origin rest (AfterFrozen tablet))
        go again (inr frozen) =
            let role_is : (tablet_in w source tablet).handover.role ≡ Role.Frozen = ap (λ (m : ℕ). (tablet_in w m tablet).handover.role) (sym source_is) ∙ frozen in
            goes_on s before course (IsAt course.cluster rest) (IsLaneNow lane origin rest (AfterFrozen tablet)) (opens [] (ap (freeze_by lane tablet source) role_is))
            (λ later comes_later at.
            goes_here s before later (IsLaneNow lane origin rest (AfterFrozen tablet)) comes_later
            (record {
              left = at.tasks_are;
              beside = subst (IsSameBeside lane origin) (sym at.cluster_is) beside;
              now = subst (λ (cluster : Cluster). AfterFrozen tablet (lane_at cluster lane)) (sym at.cluster_is) (inr (inl (record { closed = closed; role = frozen })));
            }))
        go again (inl closing) =
            let role_is : (tablet_in w source tablet).handover.role ≡ Role.Closing = ap (λ (m : ℕ). (tablet_in w m tablet).handover.role) (sym source_is) ∙ closing in
            let living : has_crashed w source ≡ false = ap (has_crashed w) (sym source_is) ∙ closed.begun.there.source_lives in
            let behind : List Task = freezes lane tablet source ∷ rest in
            let patient = reached_patient s.masters s.backups course.cluster (here s course comes.sane) lane inside source in
            let unsettled : is_settled (master_at w source) (tablet_in w source tablet).handover.range ≡ false =
            subst (WaitsIn (master_at w source) (tablet_in w source tablet)) role_is (patient.each tablet) in
            let some : staged (master_at w source) ≢ [] =
            λ none. true≢false (ap (λ (list : List Entry). not (list_any (touches (tablet_in w source tablet).handover.range) list)) (sym none) ∙ unsettled) in
            goes_on s before course (IsAt course.cluster (log_round lane source ++ behind)) (IsLaneNow lane origin rest (AfterFrozen tablet))
            (opens (log_round lane source ++ freezes lane tablet source ∷ []) (ap (freeze_by lane tablet source) role_is))
            (λ later comes_later at.
            goes_on s before later (HasRounded lane origin tablet w (sends_left course.cluster) behind) (IsLaneNow lane origin rest (AfterFrozen tablet))
            (subst (λ (cluster : Cluster). Goes s before later (HasRounded lane origin tablet (lane_at cluster lane) (sends_left cluster) behind)) at.cluster_is
            (rounding s lane inside origin tablet log_topic source behind log_quiet (log_steps tablet) before later comes_later at.tasks_are
            (subst (IsSameBeside lane origin) (sym at.cluster_is) beside)
            (subst (λ (cluster : Cluster). Sends (lane_at cluster lane) (Node.Master source)) (sym at.cluster_is) (master_sends s course comes.sane lane inside source living some))))
            (λ last comes_last done.
            let on = done.lane_now.now in
            again before last comes_last done.lane_now.left done.lane_now.beside
            (record {
              begun = begun_still tablet w (lane_at last.cluster lane) on.coordinator on.crashed closed.begun;
              term = (on.each closed.begun.source).term ∙ closed.term;
            })
            source_is named (omega (arith, few, done.fewer))))

  -- ---- frozen

  module _ (row : Row) (source sfrom target dfrom : ℕ) where
    abbrev pub tablet : ℕ
    tablet = row.tablet

    pub closes_it : (before : Cluster) (course : Course) → Comes s before course → course.tasks ≡ reaches lane tablet Frozen ∷ rest → IsSameBeside lane origin course.cluster
        → IsIn tablet row (Opening source sfrom target (Some dfrom)) source target (lane_at course.cluster lane) → Goes s before course (IsLaneNow lane origin rest (AfterFrozen tablet))
    closes_it before course comes are beside there = go (is_source_frozen w row source) refl
      where
        w : World
        w = lane_at course.cluster lane

        good : IsGoodLane Lasts s.masters lane w
        good = good_at s course comes.sane lane inside

        ours : Message
        ours = closes s.masters lane w good row there.found source sfrom target dfrom there.phase_is there.source_lives

        on : is_on (close_topic tablet) ours.body ≡ true
        on = close_on s.masters lane w good row there.found source sfrom target dfrom there.phase_is there.source_lives

        go : (b : Bool) → is_source_frozen w row source ≡ b → Goes s before course (IsLaneNow lane origin rest (AfterFrozen tablet))
        go true is =
            let parts = and_parts (is_frozen (tablet_in w source tablet).handover.role) ((tablet_in w source tablet).handover.term == row.term) is in
            skips s lane inside origin rest (AfterFrozen tablet) tablet Frozen before course comes are beside
            (tasks_where w lane tablet Frozen row (Opening source sfrom target (Some dfrom)) there.found there.phase_is true is)
            (inr
            (inl
            (record {
              closed = record {
                begun = record { row = row; source = source; sfrom = sfrom; target = target; dfrom = dfrom; there = there };
                term = eqb-true (tablet_in w source tablet).handover.term row.term parts.1;
              };
              role = is_frozen_role (tablet_in w source tablet).handover.role parts.0;
            })))
        go false is =
            let behind : List Task = freezes lane tablet source ∷ rest in
            goes_on s before course (IsAt course.cluster (coordinator_exchange lane (close_topic tablet) ∷ behind)) (IsLaneNow lane origin rest (AfterFrozen tablet))
            (unfolds s lane inside origin rest tablet Frozen (coordinator_exchange lane (close_topic tablet) ∷ freezes lane tablet source ∷ []) before course comes are
            (tasks_where w lane tablet Frozen row (Opening source sfrom target (Some dfrom)) there.found there.phase_is false is))
            (λ later comes_later at.
            goes_on s before later (IsLaneNow lane origin behind (HasChanged w source (made (close_topic tablet) w source ours refl on there.source_lives).master)) (IsLaneNow lane origin rest (AfterFrozen tablet))
            (one_order s lane inside origin (close_topic tablet) behind w source ours refl on there.source_lives
            (close_sent s.masters lane w good row there.found source sfrom target dfrom there.phase_is there.source_lives)
            (close_off s.masters lane w good row there.found source sfrom target dfrom there.phase_is there.source_lives)
            before later comes_later at.tasks_are (subst (IsSameBeside lane origin) (sym at.cluster_is) beside) (ap (λ (cluster : Cluster). lane_at cluster lane) at.cluster_is))
            (λ end comes_end done.
            freezes_within tablet (sends_left end.cluster + 1) source before end comes_end done.left done.beside
            (record {
              begun = begun_still tablet w (lane_at end.cluster lane) done.now.coordinator done.now.crashed
                  (record { row = row; source = source; sfrom = sfrom; target = target; dfrom = dfrom; there = there });
              term = ap (λ (it : Master). (tablet_at it tablet).handover.term) done.now.here
                  ∙ close_term s.masters lane w good row there.found source sfrom target dfrom there.phase_is there.source_lives;
            })
            refl refl (omega arith)))

    -- a source whose tablet moves is frozen
    pub moving_frozen : (w : World) → IsGoodLane Lasts s.masters lane w → IsIn tablet row (Moving source sfrom target dfrom) source target w → is_source_frozen w row source ≡ true
    moving_frozen w good there = by (tablet_in w source tablet).handover.role refl
        (fitted s.masters lane w good row there.found source MovingSource there.source_lives
        (ap (λ (p : Phase). post_of p source) there.phase_is ∙ cond-true (source == source) MovingSource _ (eq-eqb source source refl)))
      where
        by : (role : Role) → (tablet_in w source tablet).handover.role ≡ role → Holds (bond_of MovingSource role) row.term (tablet_in w source tablet).handover.term (master_at w source).applied
            → is_source_frozen w row source ≡ true
        by Role.Frozen at same =
            and_from (is_frozen (tablet_in w source tablet).handover.role) ((tablet_in w source tablet).handover.term == row.term) (ap is_frozen at)
            (eq-eqb (tablet_in w source tablet).handover.term row.term same)
        by _ at never = absurd never

    -- ---- granted

    pub grants_it : (before : Cluster) (course : Course) → Comes s before course → course.tasks ≡ grant_task lane tablet ∷ rest → IsSameBeside lane origin course.cluster
        → IsIn tablet row (Moving source sfrom target dfrom) source target (lane_at course.cluster lane) → Goes s before course (IsLaneNow lane origin rest (AfterGranted tablet))
    grants_it before course comes are beside there =
        goes_on s before course (IsLaneNow lane origin rest (HasChanged w target (made (grant_topic tablet) w target ours refl on there.target_lives).master)) (IsLaneNow lane origin rest (AfterGranted tablet))
        (one_order s lane inside origin (grant_topic tablet) rest w target ours refl on there.target_lives
        (grant_sent s.masters lane w good row there.found source sfrom target dfrom there.phase_is there.target_lives)
        (grant_off s.masters lane w good row there.found source sfrom target dfrom there.phase_is there.target_lives)
        before course comes are beside refl)
        (λ end comes_end done.
        let has = is_granted s.masters lane w good row there.found source sfrom target dfrom there.phase_is there.target_lives in
        let there_now =
        in_still tablet row (Moving source sfrom target dfrom) source target w (lane_at end.cluster lane) done.now.coordinator done.now.crashed there in
        goes_here s before end (IsLaneNow lane origin rest (AfterGranted tablet)) comes_end
        (record {
          left = done.left;
          beside = done.beside;
          now = inr
              (record {
                moving = record { row = row; source = source; sfrom = sfrom; target = target; dfrom = dfrom; there = there_now };
                term = ap (λ (it : Master). (tablet_at it tablet).handover.term) done.now.here ∙ has.term;
                role = ap (λ (it : Master). is_target (tablet_at it tablet).handover.role) done.now.here ∙ has.role;
              });
        }))
      where
        w : World
        w = lane_at course.cluster lane

        good : IsGoodLane Lasts s.masters lane w
        good = good_at s course comes.sane lane inside

        ours : Message
        ours = grants s.masters lane w good row there.found source sfrom target dfrom there.phase_is there.target_lives

        on : is_on (grant_topic tablet) ours.body ≡ true
        on = grant_on s.masters lane w good row there.found source sfrom target dfrom there.phase_is there.target_lives
