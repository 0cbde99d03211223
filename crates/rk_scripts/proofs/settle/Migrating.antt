-- A migration whose source and target live is brought from reach to reach.
use Rattle.std.proofs.Common.{arith, ◌≡◌, ◌<◌, ◌==◌, ℕ, Bool, true, false, cond, not, List, [], ◌∷◌, ◌++◌, Option, None, Some, refl, sym}
use Rattle.std.proofs.Common.{ap, subst, ◌∙◌, inl, inr, ◌⊎◌}
use Rattle.rk_scripts.proofs.Words.{list_any, false≢true, LANES, Message, row_of, Phase, Opening, Moving, Row, Cluster, lane_at}
use Rattle.rk_scripts.proofs.Words.{Coordinator, coordinator_step, World, has_crashed, tablet_in, coordinator_exchange, reach_phase}
use Rattle.rk_scripts.proofs.Words.{reach_row, reach_tasks, Course, is_joining, is_target, is_on, Begun, IsGoodLane, Lasts, Role}
use Rattle.rk_settle.specs.Reaches.{is_at_reach}
use Rattle.rk_scripts.proofs.settle.Effects.{is_ready, prepare_on, prepare_sent, prepares, readies, ready_on, ready_row, ready_sent}
use Rattle.rk_scripts.proofs.settle.Effects.{ready_silent}
use Rattle.rk_scripts.proofs.settle.ExchangeTasks.{Reach, Topic, readiness, reaches}
use Rattle.rk_scripts.proofs.settle.Going.{Comes, Goes, IsAt, goes_here, goes_on, still_move}
use Rattle.rk_scripts.proofs.settle.Lanes.{IsSameBeside}
use Rattle.rk_scripts.proofs.settle.Ordering.{IsLaneNow, two_orders}
use Rattle.rk_scripts.proofs.settle.Orders.{HasAnswered, made}
use Rattle.rk_scripts.proofs.settle.Setting.{Setting}
use Rattle.rk_scripts.proofs.settle.Staging.{good_at}
use Rattle.rk_scripts.proofs.settle.Tasks.{Task}

-- ---- how far a migration has come in a lane

-- whether a phase is that of a migration
abbrev pub migrates : Phase → Bool
migrates (Opening source sfrom target dfrom) = true
migrates (Moving source sfrom target dfrom) = true
migrates phase = false

abbrev pub migrates_by : Option Row → Bool
migrates_by None = false
migrates_by (Some row) = migrates row.phase

module _ (tablet : ℕ) where
  -- there is no migration any more
  abbrev pub HasNoMigration : World → Type 0
  HasNoMigration w = migrates_by (row_of w.coordinator.rows tablet) ≡ false

  -- the tablet is in this phase, and these two live
  pub record IsIn (row : Row) (phase : Phase) (source target : ℕ) (w : World) : Type 0 where
    pub found : row_of w.coordinator.rows tablet ≡ Some row
    pub phase_is : row.phase ≡ phase
    pub source_lives : has_crashed w source ≡ false
    pub target_lives : has_crashed w target ≡ false

  pub record IsOpening (w : World) : Type 0 where
    pub row : Row
    pub source : ℕ
    pub sfrom : ℕ
    pub target : ℕ
    pub dfrom : Option ℕ
    pub there : IsIn row (Opening source sfrom target dfrom) source target w

  pub record IsBegun (w : World) : Type 0 where
    pub row : Row
    pub source : ℕ
    pub sfrom : ℕ
    pub target : ℕ
    pub dfrom : ℕ
    pub there : IsIn row (Opening source sfrom target (Some dfrom)) source target w

  pub record IsMoving (w : World) : Type 0 where
    pub row : Row
    pub source : ℕ
    pub sfrom : ℕ
    pub target : ℕ
    pub dfrom : ℕ
    pub there : IsIn row (Moving source sfrom target dfrom) source target w

  -- the source has closed the tablet, at the row's term
  pub record IsClosed (w : World) : Type 0 where
    pub begun : IsBegun w
    pub term : (tablet_in w begun.source tablet).handover.term ≡ begun.row.term

  pub record IsFrozen (w : World) : Type 0 where
    pub closed : IsClosed w
    pub role : (tablet_in w closed.begun.source tablet).handover.role ≡ Role.Frozen

  -- the target was granted the tablet, at the row's term
  pub record HasGrant (w : World) : Type 0 where
    pub moving : IsMoving w
    pub term : (tablet_in w moving.target tablet).handover.term ≡ moving.row.term
    pub role : is_target (tablet_in w moving.target tablet).handover.role ≡ true

  -- it has all
  pub record HasPulled (w : World) : Type 0 where
    pub moving : IsMoving w
    pub term : (tablet_in w moving.target tablet).handover.term ≡ moving.row.term
    pub role : is_joining (tablet_in w moving.target tablet).handover.role ≡ true

  abbrev pub First : World → Type 0
  First w = HasNoMigration w ⊎ (IsOpening w ⊎ IsMoving w)

  abbrev pub AfterBegun : World → Type 0
  AfterBegun w = HasNoMigration w ⊎ (IsBegun w ⊎ IsMoving w)

  abbrev pub AfterFrozen : World → Type 0
  AfterFrozen w = HasNoMigration w ⊎ (IsFrozen w ⊎ IsMoving w)

  abbrev pub AfterGranted : World → Type 0
  AfterGranted w = HasNoMigration w ⊎ HasGrant w

  abbrev pub AfterPulled : World → Type 0
  AfterPulled w = HasNoMigration w ⊎ HasPulled w

-- ---- what a reach unfolds into

pub no_tasks : (w : World) (lane tablet : ℕ) (reach : Reach) → HasNoMigration tablet w → reach_tasks w lane tablet reach ≡ []
no_tasks w lane tablet reach none = grind (arith, row_of, reach_phase, false≢true, reach_row)

pub tasks_in : (w : World) (lane tablet : ℕ) (reach : Reach) (row : Row) (phase : Phase) → row_of w.coordinator.rows tablet ≡ Some row → row.phase ≡ phase
    → reach_tasks w lane tablet reach ≡ cond (not (is_at_reach w row phase reach)) (reach_phase lane tablet phase reach) []
tasks_in w lane tablet reach row phase found is = grind (arith, reach_row, reach_phase)

pub tasks_where : (w : World) (lane tablet : ℕ) (reach : Reach) (row : Row) (phase : Phase) → row_of w.coordinator.rows tablet ≡ Some row → row.phase ≡ phase
    → (b : Bool) → is_at_reach w row phase reach ≡ b → reach_tasks w lane tablet reach ≡ cond (not b) (reach_phase lane tablet phase reach) []
tasks_where w lane tablet reach row phase found is b at =
    tasks_in w lane tablet reach row phase found is ∙ ap (λ (c : Bool). cond (not c) (reach_phase lane tablet phase reach) []) at

module _ (s : Setting) (lane : ℕ) (inside : lane < LANES) (origin : Cluster) (rest : List Task) where
  pub unfolds : (tablet : ℕ) (reach : Reach) (list : List Task) (before : Cluster) (course : Course) → Comes s before course → course.tasks ≡ reaches lane tablet reach ∷ rest
      → reach_tasks (lane_at course.cluster lane) lane tablet reach ≡ list → Goes s before course (IsAt course.cluster (list ++ rest))
  unfolds tablet reach list before course comes are is =
      still_move s before course (reaches lane tablet reach) rest (list ++ rest) (IsAt course.cluster (list ++ rest)) comes are
      (record { cluster_is = refl; tasks_are = ap (λ (l : List Task). l ++ rest) is }) (λ next at. at)

  -- nothing is to be done
  pub skips : (P : World → Type 0) (tablet : ℕ) (reach : Reach) (before : Cluster) (course : Course) → Comes s before course → course.tasks ≡ reaches lane tablet reach ∷ rest
      → IsSameBeside lane origin course.cluster → reach_tasks (lane_at course.cluster lane) lane tablet reach ≡ [] → P (lane_at course.cluster lane)
      → Goes s before course (IsLaneNow lane origin rest P)
  skips P tablet reach before course comes are beside is holds =
      goes_on s before course (IsAt course.cluster rest) (IsLaneNow lane origin rest P) (unfolds tablet reach [] before course comes are is)
      (λ later comes_later at.
      goes_here s before later (IsLaneNow lane origin rest P) comes_later
      (record {
        left = at.tasks_are;
        beside = subst (IsSameBeside lane origin) (sym at.cluster_is) beside;
        now = subst (λ (cluster : Cluster). P (lane_at cluster lane)) (sym at.cluster_is) holds;
      }))

  -- ---- begun

  module _ (row : Row) (source sfrom target : ℕ) where
    pub makes_ready : (before : Cluster) (course : Course) → Comes s before course → course.tasks ≡ reaches lane row.tablet Begun ∷ rest → IsSameBeside lane origin course.cluster
        → IsIn row.tablet row (Opening source sfrom target None) source target (lane_at course.cluster lane) → Goes s before course (IsLaneNow lane origin rest (AfterBegun row.tablet))
    makes_ready before course comes are beside there =
        goes_on s before course (IsAt course.cluster (coordinator_exchange lane topic ∷ rest)) (IsLaneNow lane origin rest (AfterBegun row.tablet))
        (unfolds row.tablet Begun (coordinator_exchange lane topic ∷ []) before course comes are
        (tasks_in w lane row.tablet Begun row (Opening source sfrom target None) there.found there.phase_is))
        (λ later comes_later at.
        goes_on s before later (IsLaneNow lane origin rest (HasAnswered w target (made topic w target ours refl on there.target_lives).master (coordinator_step w.coordinator reply).coordinator)) (IsLaneNow lane origin rest (AfterBegun row.tablet))
        (two_orders s lane inside origin topic rest w target ours refl on there.target_lives
        (prepare_sent s.masters lane w good row there.found source sfrom target there.phase_is there.target_lives) reply refl
        (ready_on s.masters lane w good row there.found source sfrom target there.phase_is there.target_lives)
        (ready_silent s.masters lane w good row there.found source sfrom target there.phase_is there.target_lives)
        (ready_sent s.masters lane w good row there.found source sfrom target there.phase_is there.target_lives)
        before later comes_later at.tasks_are (subst (IsSameBeside lane origin) (sym at.cluster_is) beside) (ap (λ (cluster : Cluster). lane_at cluster lane) at.cluster_is))
        (λ end comes_end done.
        goes_here s before end (IsLaneNow lane origin rest (AfterBegun row.tablet)) comes_end
        (record {
          left = done.left;
          beside = done.beside;
          now = inr
              (inl
              (record {
                row = record row { phase = Opening source sfrom target (Some place) };
                source = source;
                sfrom = sfrom;
                target = target;
                dfrom = place;
                there = record {
                  found = ap (λ (it : Coordinator). row_of it.rows row.tablet) done.now.coordinator
                      ∙ ready_row s.masters lane w good row there.found source sfrom target there.phase_is there.target_lives;
                  phase_is = refl;
                  source_lives = ap (λ (crashed : List ℕ). list_any (λ (c : ℕ). c == source) crashed) done.now.crashed ∙ there.source_lives;
                  target_lives = ap (λ (crashed : List ℕ). list_any (λ (c : ℕ). c == target) crashed) done.now.crashed ∙ there.target_lives;
                };
              }));
        })))
      where
        w : World
        w = lane_at course.cluster lane

        good : IsGoodLane Lasts s.masters lane w
        good = good_at s course comes.sane lane inside

        topic : Topic
        topic = readiness row.tablet

        ours : Message
        ours = prepares s.masters lane w good row there.found source sfrom target there.phase_is there.target_lives

        on : is_on topic ours.body ≡ true
        on = prepare_on s.masters lane w good row there.found source sfrom target there.phase_is there.target_lives

        reply : Message
        reply = readies s.masters lane w good row there.found source sfrom target there.phase_is there.target_lives

        place : ℕ
        place = (is_ready s.masters lane w good row there.found source sfrom target there.phase_is there.target_lives).place
