-- `advance` ends if it is not refused: in each lane in which the migration is short of the reach its source and its target live, and it is
-- brought from reach to reach.
use Rattle.std.proofs.Common.{◌≡◌, ◌<◌, ◌+◌, ℕ, Bool, true, false, cond, List, [], ◌∷◌, ◌++◌, map, Option, None, Some, refl, sym, ap, subst}
use Rattle.std.proofs.Common.{inl, inr, ⊎_elim, arith, ◌⊎◌}
use Rattle.rk_scripts.proofs.Words.{LANES, Phase, Opening, Moving, Row, Cluster, lane_at, World, tablet_in, reach_phase, Course, is_joining}
use Rattle.rk_scripts.proofs.Words.{is_short_of, is_source_frozen, is_target, Begun, Frozen, Granted, Pulled, Joined, Finished}
use Rattle.rk_scripts.proofs.Words.{advance_tasks, reaches_to, Role}
use Rattle.rk_tablet_map.proofs.Lawful.{number_of}
use Rattle.rk_scripts.proofs.settle.ExchangeTasks.{Reach, reaches, advances}
use Rattle.rk_scripts.proofs.settle.Going.{Comes, Goes, IsAt, goes_here, goes_on, still_move}
use Rattle.rk_scripts.proofs.settle.Joined.{hands_it, joins_within, moving_granted, plain_exchanging, pulls_within}
use Rattle.rk_scripts.proofs.settle.Lanes.{IsSameBeside}
use Rattle.rk_scripts.proofs.settle.Migrated.{closes_it, moving_frozen}
use Rattle.rk_scripts.proofs.settle.Migrating.{AfterBegun, AfterFrozen, AfterGranted, AfterPulled, First, HasGrant, HasNoMigration}
use Rattle.rk_scripts.proofs.settle.Migrating.{HasPulled, IsBegun, IsFrozen, IsIn, IsMoving, IsOpening, makes_ready, no_tasks, skips}
use Rattle.rk_scripts.proofs.settle.Migrating.{tasks_in, tasks_where, unfolds}
use Rattle.rk_scripts.proofs.settle.Numbers.{sends_left}
use Rattle.rk_scripts.proofs.settle.Ordering.{IsLaneNow}
use Rattle.rk_scripts.proofs.settle.Setting.{Setting}
use Rattle.rk_scripts.proofs.settle.Staging.{good_at}
use Rattle.rk_scripts.proofs.settle.Tasks.{Task}

module _ (s : Setting) (lane : ℕ) (inside : lane < LANES) (origin : Cluster) (tablet : ℕ) (rest : List Task) where
  -- the lane of a course
  abbrev its : Course → World
  its course = lane_at course.cluster lane

  -- a step of a migration: if this holds of its lane, it comes to where that does
  abbrev Step : Reach → (World → Type 0) → (World → Type 0) → Type 0
  Step reach P Q =
      (before : Cluster) (course : Course) → Comes s before course → course.tasks ≡ reaches lane tablet reach ∷ rest → IsSameBeside lane origin course.cluster
      → P (lane_at course.cluster lane) → Goes s before course (IsLaneNow lane origin rest Q)

  named_so : (row : Row) (phase : Phase) (source target : ℕ) (w : World) → IsIn tablet row phase source target w → row.tablet ≡ tablet
  named_so row phase source target w there = number_of w.coordinator.rows tablet row there.found

  -- for the tablet of the row, and so for this one
  by_row : (reach : Reach) (Q : ℕ → World → Type 0) (row : Row) (phase : Phase) (source target : ℕ) (before : Cluster) (course : Course)
      → (course.tasks ≡ reaches lane row.tablet reach ∷ rest → IsIn row.tablet row phase source target (lane_at course.cluster lane) → Goes s before course (IsLaneNow lane origin rest (Q row.tablet)))
      → course.tasks ≡ reaches lane tablet reach ∷ rest → IsIn tablet row phase source target (lane_at course.cluster lane) → Goes s before course (IsLaneNow lane origin rest (Q tablet))
  by_row reach Q row phase source target before course goes are there = subst
      (λ (t : ℕ).
      course.tasks ≡ reaches lane t reach ∷ rest → IsIn t row phase source target (lane_at course.cluster lane) → Goes s before course (IsLaneNow lane origin rest (Q t)))
      (named_so row phase source target (lane_at course.cluster lane) there) goes are there

  skips_none : (reach : Reach) (Q : World → Type 0) (before : Cluster) (course : Course) → Comes s before course → course.tasks ≡ reaches lane tablet reach ∷ rest
      → IsSameBeside lane origin course.cluster → HasNoMigration tablet (lane_at course.cluster lane) → Q (lane_at course.cluster lane) → Goes s before course (IsLaneNow lane origin rest Q)
  skips_none reach Q before course comes are beside none holds =
      skips s lane inside origin rest Q tablet reach before course comes are beside (no_tasks (lane_at course.cluster lane) lane tablet reach none) holds

  step_begun : Step Begun (First tablet) (AfterBegun tablet)
  step_begun before course comes are beside first = ⊎_elim
      (λ (none : HasNoMigration tablet (its course)). skips_none Begun (AfterBegun tablet) before course comes are beside none (inl none))
      (λ (some : IsOpening tablet (its course) ⊎ IsMoving tablet (its course)).
      ⊎_elim (λ (o : IsOpening tablet (its course)). opening o.row o.source o.sfrom o.target o.dfrom o.there)
      (λ (m : IsMoving tablet (its course)).
      skips s lane inside origin rest (AfterBegun tablet) tablet Begun before course comes are beside
      (tasks_in (its course) lane tablet Begun m.row (Moving m.source m.sfrom m.target m.dfrom) m.there.found m.there.phase_is) (inr (inr m)))
      some)
      first
    where
      opening : (row : Row) (source sfrom target : ℕ) (dfrom : Option ℕ) → IsIn tablet row (Opening source sfrom target dfrom) source target (its course)
          → Goes s before course (IsLaneNow lane origin rest (AfterBegun tablet))
      opening row source sfrom target None there =
          by_row Begun AfterBegun row (Opening source sfrom target None) source target before course
          (λ a t. makes_ready s lane inside origin rest row source sfrom target before course comes a beside t) are there
      opening row source sfrom target (Some dfrom) there =
          skips s lane inside origin rest (AfterBegun tablet) tablet Begun before course comes are beside
          (tasks_in (its course) lane tablet Begun row (Opening source sfrom target (Some dfrom)) there.found there.phase_is)
          (inr (inl (record { row = row; source = source; sfrom = sfrom; target = target; dfrom = dfrom; there = there })))

  step_frozen : Step Frozen (AfterBegun tablet) (AfterFrozen tablet)
  step_frozen before course comes are beside begun = ⊎_elim
      (λ (none : HasNoMigration tablet (its course)). skips_none Frozen (AfterFrozen tablet) before course comes are beside none (inl none))
      (λ (some : IsBegun tablet (its course) ⊎ IsMoving tablet (its course)).
      ⊎_elim
      (λ (o : IsBegun tablet (its course)).
      by_row Frozen AfterFrozen o.row (Opening o.source o.sfrom o.target (Some o.dfrom)) o.source o.target before course
      (λ a t. closes_it s lane inside origin rest o.row o.source o.sfrom o.target o.dfrom before course comes a beside t) are o.there)
      (λ (m : IsMoving tablet (its course)).
      let frozen : is_source_frozen (its course) m.row m.source ≡ true =
      moving_frozen s lane inside origin rest m.row m.source m.sfrom m.target m.dfrom (its course) (good_at s course comes.sane lane inside)
      (subst (λ (t : ℕ). IsIn t m.row (Moving m.source m.sfrom m.target m.dfrom) m.source m.target (its course))
      (sym (named_so m.row (Moving m.source m.sfrom m.target m.dfrom) m.source m.target (its course) m.there)) m.there) in
      skips s lane inside origin rest (AfterFrozen tablet) tablet Frozen before course comes are beside
      (tasks_where (its course) lane tablet Frozen m.row (Moving m.source m.sfrom m.target m.dfrom) m.there.found m.there.phase_is true frozen)
      (inr (inr m)))
      some)
      begun

  step_granted : Step Granted (AfterFrozen tablet) (AfterGranted tablet)
  step_granted before course comes are beside frozen = ⊎_elim
      (λ (none : HasNoMigration tablet (its course)). skips_none Granted (AfterGranted tablet) before course comes are beside none (inl none))
      (λ (some : IsFrozen tablet (its course) ⊎ IsMoving tablet (its course)).
      ⊎_elim
      (λ (f : IsFrozen tablet (its course)).
      let o = f.closed.begun in
      subst
      (λ (t : ℕ).
      course.tasks ≡ reaches lane t Granted ∷ rest → IsIn t o.row (Opening o.source o.sfrom o.target (Some o.dfrom)) o.source o.target (its course)
      → (tablet_in (its course) o.source t).handover.term ≡ o.row.term → (tablet_in (its course) o.source t).handover.role ≡ Role.Frozen → Goes s before course (IsLaneNow lane origin rest (AfterGranted t)))
      (named_so o.row (Opening o.source o.sfrom o.target (Some o.dfrom)) o.source o.target (its course) o.there)
      (λ a t term role. hands_it s lane inside origin rest o.row o.source o.sfrom o.target o.dfrom before course comes a beside t term role)
      are o.there f.closed.term f.role)
      (λ (m : IsMoving tablet (its course)).
      by_row Granted AfterGranted m.row (Moving m.source m.sfrom m.target m.dfrom) m.source m.target before course
      (λ a t. moving_granted s lane inside origin rest m.row m.source m.sfrom m.target m.dfrom before course comes a beside t) are m.there)
      some)
      frozen

  -- and if the tablet moves, and its target has it in a role that passes this test
  by_target : (reach : Reach) (test : Role → Bool) (before : Cluster) (course : Course) (m : IsMoving tablet (its course))
      → (course.tasks ≡ reaches lane m.row.tablet reach ∷ rest → IsIn m.row.tablet m.row (Moving m.source m.sfrom m.target m.dfrom) m.source m.target (its course) → (tablet_in (its course) m.target m.row.tablet).handover.term ≡ m.row.term → test (tablet_in (its course) m.target m.row.tablet).handover.role ≡ true → Goes s before course (IsLaneNow lane origin rest (AfterPulled m.row.tablet)))
      → course.tasks ≡ reaches lane tablet reach ∷ rest → (tablet_in (its course) m.target tablet).handover.term ≡ m.row.term → test (tablet_in (its course) m.target tablet).handover.role ≡ true → Goes s before course (IsLaneNow lane origin rest (AfterPulled tablet))
  by_target reach test before course m goes are term role = subst
      (λ (t : ℕ).
      course.tasks ≡ reaches lane t reach ∷ rest → IsIn t m.row (Moving m.source m.sfrom m.target m.dfrom) m.source m.target (its course) → (tablet_in (its course) m.target t).handover.term ≡ m.row.term
      → test (tablet_in (its course) m.target t).handover.role ≡ true → Goes s before course (IsLaneNow lane origin rest (AfterPulled t)))
      (named_so m.row (Moving m.source m.sfrom m.target m.dfrom) m.source m.target (its course) m.there) goes are m.there term role

  step_pulled : Step Pulled (AfterGranted tablet) (AfterPulled tablet)
  step_pulled before course comes are beside granted = ⊎_elim
      (λ (none : HasNoMigration tablet (its course)). skips_none Pulled (AfterPulled tablet) before course comes are beside none (inl none))
      (λ (g : HasGrant tablet (its course)).
      let m = g.moving in
      by_target Pulled is_target before course m
      (λ a t term role.
      pulls_within s lane inside origin rest m.row m.source m.sfrom m.target m.dfrom (sends_left course.cluster + 1) before course comes a beside t term role (omega arith))
      are g.term g.role)
      granted

  step_joined : Step Joined (AfterPulled tablet) (AfterPulled tablet)
  step_joined before course comes are beside pulled = ⊎_elim
      (λ (none : HasNoMigration tablet (its course)). skips_none Joined (AfterPulled tablet) before course comes are beside none (inl none))
      (λ (g : HasPulled tablet (its course)).
      let m = g.moving in
      by_target Joined is_joining before course m
      (λ a t term role.
      joins_within s lane inside origin rest m.row m.source m.sfrom m.target m.dfrom (sends_left course.cluster + 1) before course comes a beside t term role (omega arith))
      are g.term g.role)
      pulled

  -- nothing is said of the lane
  abbrev pub Anything : World → Type 0
  Anything w = Unit {0}

  step_finished : Step Finished (AfterPulled tablet) Anything
  step_finished before course comes are beside pulled =
      ⊎_elim (λ (none : HasNoMigration tablet (its course)). skips_none Finished Anything before course comes are beside none tt)
      (λ (g : HasPulled tablet (its course)).
      let m = g.moving in
      let list : List Task = reach_phase lane tablet (Moving m.source m.sfrom m.target m.dfrom) Finished in
      goes_on s before course (IsAt course.cluster (list ++ rest)) (IsLaneNow lane origin rest Anything)
      (unfolds s lane inside origin rest tablet Finished list before course comes are
      (tasks_in (its course) lane tablet Finished m.row (Moving m.source m.sfrom m.target m.dfrom) m.there.found m.there.phase_is))
      (λ later comes_later at.
      plain_exchanging s lane inside origin rest _ m.target before later comes_later at.tasks_are (subst (IsSameBeside lane origin) (sym at.cluster_is) beside)))
      pulled

module _ (s : Setting) (lane : ℕ) (inside : lane < LANES) (origin : Cluster) (tablet : ℕ) where
  -- a migration comes to these reaches, and then to what is said of the lane
  Chain : List Reach → (World → Type 0) → (World → Type 0) → Type 0
  Chain list P Q =
      (rest : List Task) (before : Cluster) (course : Course) → Comes s before course → course.tasks ≡ map (reaches lane tablet) list ++ rest → IsSameBeside lane origin course.cluster
      → P (lane_at course.cluster lane) → Goes s before course (IsLaneNow lane origin rest Q)

  ends_so : (P : World → Type 0) → Chain [] P (λ w. Unit {0})
  unfolding Chain
  ends_so P rest before course comes are beside holds =
      goes_here s before course (IsLaneNow lane origin rest (λ w. Unit {0})) comes (record { left = are; beside = beside; now = tt })

  linked : (reach : Reach) (list : List Reach) (P Q R : World → Type 0) → ((rest : List Task) → Step s lane inside origin tablet rest reach P Q) → Chain list Q R → Chain (reach ∷ list) P R
  unfolding Chain
  linked reach list P Q R step chain rest before course comes are beside holds =
      let behind : List Task = map (reaches lane tablet) list ++ rest in
      goes_on s before course (IsLaneNow lane origin behind Q) (IsLaneNow lane origin rest R) (step behind before course comes are beside holds)
      (λ later comes_later now. chain rest before later comes_later now.left now.beside now.now)

  chained : (reach : Reach) → Chain (reaches_to reach) (First tablet) (λ w. Unit {0})
  chained Begun = linked Begun [] (First tablet) (AfterBegun tablet) (λ w. Unit {0}) (step_begun s lane inside origin tablet) (ends_so (AfterBegun tablet))
  chained Frozen =
      linked Begun (Frozen ∷ []) (First tablet) (AfterBegun tablet) (λ w. Unit {0}) (step_begun s lane inside origin tablet)
      (linked Frozen [] (AfterBegun tablet) (AfterFrozen tablet) (λ w. Unit {0}) (step_frozen s lane inside origin tablet) (ends_so (AfterFrozen tablet)))
  chained Granted =
      linked Begun (Frozen ∷ Granted ∷ []) (First tablet) (AfterBegun tablet) (λ w. Unit {0}) (step_begun s lane inside origin tablet)
      (linked Frozen (Granted ∷ []) (AfterBegun tablet) (AfterFrozen tablet) (λ w. Unit {0}) (step_frozen s lane inside origin tablet)
      (linked Granted [] (AfterFrozen tablet) (AfterGranted tablet) (λ w. Unit {0}) (step_granted s lane inside origin tablet) (ends_so (AfterGranted tablet))))
  chained Pulled =
      linked Begun (Frozen ∷ Granted ∷ Pulled ∷ []) (First tablet) (AfterBegun tablet) (λ w. Unit {0}) (step_begun s lane inside origin tablet)
      (linked Frozen (Granted ∷ Pulled ∷ []) (AfterBegun tablet) (AfterFrozen tablet) (λ w. Unit {0}) (step_frozen s lane inside origin tablet)
      (linked Granted (Pulled ∷ []) (AfterFrozen tablet) (AfterGranted tablet) (λ w. Unit {0}) (step_granted s lane inside origin tablet)
      (linked Pulled [] (AfterGranted tablet) (AfterPulled tablet) (λ w. Unit {0}) (step_pulled s lane inside origin tablet) (ends_so (AfterPulled tablet)))))
  chained Joined =
      linked Begun (Frozen ∷ Granted ∷ Pulled ∷ Joined ∷ []) (First tablet) (AfterBegun tablet) (λ w. Unit {0}) (step_begun s lane inside origin tablet)
      (linked Frozen (Granted ∷ Pulled ∷ Joined ∷ []) (AfterBegun tablet) (AfterFrozen tablet) (λ w. Unit {0}) (step_frozen s lane inside origin tablet)
      (linked Granted (Pulled ∷ Joined ∷ []) (AfterFrozen tablet) (AfterGranted tablet) (λ w. Unit {0}) (step_granted s lane inside origin tablet)
      (linked Pulled (Joined ∷ []) (AfterGranted tablet) (AfterPulled tablet) (λ w. Unit {0}) (step_pulled s lane inside origin tablet)
      (linked Joined [] (AfterPulled tablet) (AfterPulled tablet) (λ w. Unit {0}) (step_joined s lane inside origin tablet) (ends_so (AfterPulled tablet))))))
  chained Finished =
      linked Begun (Frozen ∷ Granted ∷ Pulled ∷ Joined ∷ Finished ∷ []) (First tablet) (AfterBegun tablet) (λ w. Unit {0}) (step_begun s lane inside origin tablet)
      (linked Frozen (Granted ∷ Pulled ∷ Joined ∷ Finished ∷ []) (AfterBegun tablet) (AfterFrozen tablet) (λ w. Unit {0}) (step_frozen s lane inside origin tablet)
      (linked Granted (Pulled ∷ Joined ∷ Finished ∷ []) (AfterFrozen tablet) (AfterGranted tablet) (λ w. Unit {0}) (step_granted s lane inside origin tablet)
      (linked Pulled (Joined ∷ Finished ∷ []) (AfterGranted tablet) (AfterPulled tablet) (λ w. Unit {0}) (step_pulled s lane inside origin tablet)
      (linked Joined (Finished ∷ []) (AfterPulled tablet) (AfterPulled tablet) (λ w. Unit {0}) (step_joined s lane inside origin tablet)
      (linked Finished [] (AfterPulled tablet) (λ w. Unit {0}) (λ w. Unit {0}) (step_finished s lane inside origin tablet) (ends_so (λ w. Unit {0})))))))

  -- in a lane in which the migration, if it is short of the reach, has parties that live
  pub advancing : (reach : Reach) (rest : List Task) (before : Cluster) (course : Course) → Comes s before course → course.tasks ≡ advances lane tablet reach ∷ rest
      → IsSameBeside lane origin course.cluster → (is_short_of (lane_at course.cluster lane) tablet reach ≡ true → First tablet (lane_at course.cluster lane))
      → Goes s before course (IsLaneNow lane origin rest (λ w. Unit {0}))
  unfolding Chain
  advancing reach rest before course comes are beside first = go (is_short_of w tablet reach) refl
    where
      w : World
      w = lane_at course.cluster lane

      opens : (list : List Task) → advance_tasks w lane tablet reach ≡ list → Goes s before course (IsAt course.cluster (list ++ rest))
      opens list is =
          still_move s before course (advances lane tablet reach) rest (list ++ rest) (IsAt course.cluster (list ++ rest)) comes are
          (record { cluster_is = refl; tasks_are = ap (λ (l : List Task). l ++ rest) is }) (λ next at. at)

      go : (b : Bool) → is_short_of w tablet reach ≡ b → Goes s before course (IsLaneNow lane origin rest (λ w. Unit {0}))
      go false is =
          goes_on s before course (IsAt course.cluster rest) (IsLaneNow lane origin rest (λ w. Unit {0}))
          (opens [] (ap (λ (b : Bool). cond b (map (reaches lane tablet) (reaches_to reach)) []) is))
          (λ later comes_later at.
          goes_here s before later (IsLaneNow lane origin rest (λ w. Unit {0})) comes_later
          (record { left = at.tasks_are; beside = subst (IsSameBeside lane origin) (sym at.cluster_is) beside; now = tt }))
      go true is =
          goes_on s before course (IsAt course.cluster (map (reaches lane tablet) (reaches_to reach) ++ rest)) (IsLaneNow lane origin rest (λ w. Unit {0}))
          (opens (map (reaches lane tablet) (reaches_to reach)) (ap (λ (b : Bool). cond b (map (reaches lane tablet) (reaches_to reach)) []) is))
          (λ later comes_later at.
          chained reach rest before later comes_later at.tasks_are (subst (IsSameBeside lane origin) (sym at.cluster_is) beside)
          (subst (λ (cluster : Cluster). First tablet (lane_at cluster lane)) (sym at.cluster_is) (first is)))
