-- `advance` ends if it is not refused.
use Rattle.std.proofs.Common.{◌≡◌, ◌<◌, ◌≤◌, ◌+◌, ◌||◌, ℕ, zero, suc, Bool, true, false, not, nat_le, List, [], ◌∷◌, length, map, Option}
use Rattle.std.proofs.Common.{None, refl, sym, ap, subst, ◌∙◌, inl, arith, true≢false}
use Rattle.rk_scripts.proofs.Words.{list_any, range_with_len, false≢true, none-some, LANES, row_of, Row, Cluster}
use Rattle.rk_scripts.proofs.Words.{lane_at, World, has_crashed, code_where, first_code, all_lanes, is_tablet, Code, Crashed, Unknown}
use Rattle.rk_scripts.proofs.Words.{advance, advance_code, Course, course_of, is_short_of}
use Rattle.rk_cluster.specs.declared.code.Code.TheVariants.{NotMigrating}
use Rattle.rk_settle.specs.Codes.{has_dead_migration, is_dead_migration, short_lanes}
use Rattle.rk_scripts.proofs.play.Reaching.{reached_eight}
use Rattle.rk_scripts.proofs.settle.Advancing.{advancing}
use Rattle.rk_scripts.proofs.settle.ExchangeTasks.{Reach, advances}
use Rattle.rk_scripts.proofs.settle.Going.{Comes, Goes, comes_here, goes_done, goes_on}
use Rattle.rk_scripts.proofs.settle.Migrating.{First, migrates, migrates_by}
use Rattle.rk_inv_base.proofs.views.Lists.{none_pass}
use Rattle.rk_scripts.proofs.settle.Noticing.{is_in, in_range, stands_in}
use Rattle.rk_scripts.proofs.settle.Ordering.{IsLaneNow}
use Rattle.rk_scripts.proofs.settle.Rounds.{Never}
use Rattle.rk_scripts.proofs.settle.Setting.{IsSane, Setting}
use Rattle.rk_scripts.proofs.settle.Tasks.{Task}
use Rattle.rk_scripts.proofs.settle.Tracking.{is_in_filtered}

-- ---- a migration that is not refused

-- of two, neither is so
neither : (a b : Bool) → (a || b) ≡ false → (a ≡ false) × (b ≡ false)
neither false b is = (refl, is)
neither true b is = absurd (true≢false is)

-- if no party of a row's migration is dead
party_lives : (tablet : ℕ) (w : World) (found : Option Row) → row_of w.coordinator.rows tablet ≡ found → is_dead_migration w found ≡ false → First tablet w
party_lives tablet w found is alive = grind (arith, migrates_by, migrates, neither, has_crashed)

-- if no code applies, the last one does not
last_none : (a b c : Option Code) → first_code (a ∷ b ∷ c ∷ []) ≡ None → c ≡ None
last_none a b c none = grind (arith, none-some)

where_none : (b : Bool) (code : Code) → code_where b code ≡ None → b ≡ false
where_none true code some = absurd (none-some code (sym some))
where_none false code none = refl

-- what none of a list passes, one of them does not
any_none : (test : ℕ → Bool) (list : List ℕ) (n : ℕ) → list_any test list ≡ false → is_in n list ≡ true → test n ≡ false
any_none test list n none there = none_pass test list none n (stands_in list n there)

module _ (cluster : Cluster) (tablet : ℕ) (reach : Reach) (eight : length cluster.lanes ≡ LANES) (allowed : advance_code cluster tablet reach ≡ None) where
  -- in each lane in which the migration is short of the reach, its parties live
  pub first_at : (lane : ℕ) → lane < LANES → is_short_of (lane_at cluster lane) tablet reach ≡ true → First tablet (lane_at cluster lane)
  first_at lane inside short =
      let lanes : List ℕ = short_lanes cluster tablet reach in
      let alive : has_dead_migration cluster lanes tablet ≡ false =
      where_none (has_dead_migration cluster lanes tablet) Crashed
      (last_none (code_where (not (is_tablet cluster tablet)) Unknown) (code_where (nat_le (length lanes) 0) NotMigrating)
      (code_where (has_dead_migration cluster lanes tablet) Crashed) allowed) in
      let there : is_in lane lanes ≡ true = is_in_filtered (λ (q : ℕ). is_short_of (lane_at cluster q) tablet reach)
      (all_lanes cluster) lane (in_range 0 (length cluster.lanes) lane (omega arith) (omega (arith, inside, eight))) short in
      party_lives tablet (lane_at cluster lane) (row_of (lane_at cluster lane).coordinator.rows tablet) refl
      (any_none (λ (q : ℕ). is_dead_migration (lane_at cluster q) (row_of (lane_at cluster q).coordinator.rows tablet)) lanes lane alive there)

-- ---- lane after lane

module _ (s : Setting) (tablet : ℕ) (reach : Reach) (first : (lane : ℕ) → lane < LANES → is_short_of (lane_at s.start lane) tablet reach ≡ true → First tablet (lane_at s.start lane)) where
  -- the lanes that are left are as they were
  lanes_advance : (count from : ℕ) → from + count ≡ LANES → (before : Cluster) (course : Course) → Comes s before course
      → course.tasks ≡ map (λ lane. advances lane tablet reach) (range_with_len from count) → ((q : ℕ) → from ≤ q → lane_at course.cluster q ≡ lane_at s.start q)
      → Goes s before course Never
  lanes_advance zero from all before course comes are same = goes_done s before course Never (inl are)
  lanes_advance (suc count) from all before course comes are same =
      let rest : List Task = map (λ lane. advances lane tablet reach) (range_with_len (from + 1) count) in
      let inside : from < LANES = omega (arith, all) in
      let here : lane_at course.cluster from ≡ lane_at s.start from = same from (omega arith) in
      goes_on s before course (IsLaneNow from course.cluster rest (λ w. Unit {0})) Never
      (advancing s from inside course.cluster tablet reach rest before course comes are (λ q apart. refl)
      (subst (λ (w : World). is_short_of w tablet reach ≡ true → First tablet w) (sym here) (first from inside)))
      (λ later comes_later now. lanes_advance count (from + 1) (omega (arith, all)) before later comes_later now.left
      (λ q above. now.beside q (λ is. omega (arith, above, is)) ∙ same q (omega (arith, above))))

  pub advanced : IsSane s (course_of s.start (advance s.start tablet reach)) → Goes s s.start (course_of s.start (advance s.start tablet reach)) Never
  advanced sane =
      lanes_advance LANES 0 refl s.start (course_of s.start (advance s.start tablet reach)) (comes_here s (course_of s.start (advance s.start tablet reach)) sane)
      (ap (λ (count : ℕ). map (λ lane. advances lane tablet reach) (range_with_len 0 count)) (reached_eight s.masters s.backups s.start s.reached)) (λ q above. refl)
