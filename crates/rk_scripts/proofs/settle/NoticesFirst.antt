-- The first tasks of `settle`: in each lane all crashed masters are noticed.
use Rattle.std.proofs.Common.{◌≡◌, ◌<◌, ◌≤◌, ◌+◌, ℕ, true, false, zero, suc, List, [], ◌∷◌, ◌++◌, length, map, Option, None, Some, refl}
use Rattle.std.proofs.Common.{sym, ap, subst, ⊎_elim, arith}
use Rattle.rk_scripts.proofs.Words.{range_with_len, cases_lt, LANES, Gave, Cluster, Happens, lane_at, IsWellFormed, step, World}
use Rattle.rk_scripts.proofs.Words.{has_crashed, Course, notice_by, unnoticed, AllNoticed, added_after, Event}
use Rattle.rk_scripts.proofs.play.Reaching.{lane_good}
use Rattle.rk_scripts.proofs.settle.Following.{follows_itself}
use Rattle.rk_scripts.proofs.settle.Going.{Comes, Goes, IsAt, alone_fresh, goes_here, goes_on, goes_then, occurs_move, still_move}
use Rattle.rk_scripts.proofs.settle.Lanes.{stepped_changes}
use Rattle.rk_scripts.proofs.settle.Noticing.{all_noticed_none, none_unnoticed, notice_notices, unnoticed_crashed}
use Rattle.rk_scripts.proofs.settle.Setting.{IsSane, Setting, eight, here}
use Rattle.rk_scripts.proofs.settle.Tasks.{Task, notice, notices, settles}
use Rattle.rk_scripts.proofs.settle.Worn.{fresh_event}

-- in the lanes below a number all crashed masters are noticed
abbrev pub AreNoticed : ℕ → Cluster → Type 0
AreNoticed count cluster = (q : ℕ) → q < count → AllNoticed (lane_at cluster q)

module _ (s : Setting) where
  -- a lane of a sane course is well formed
  pub formed_at : (course : Course) → IsSane s course → (lane : ℕ) → lane < LANES → IsWellFormed (lane_at course.cluster lane)
  formed_at course sane lane inside = (lane_good s.masters s.backups course.cluster (here s course sane) lane inside).formed

  module _ (lane : ℕ) (inside : lane < LANES) (rest : List Task) where
    -- these tasks are left, and all are noticed in the lane
    abbrev HasNoticed : List Task → Course → Type 0
    HasNoticed left course = (course.tasks ≡ left) × AllNoticed (lane_at course.cluster lane)

    -- if all are noticed nothing is done
    noticed_again : (before : Cluster) (course : Course) → Comes s before course → HasNoticed (notices lane ∷ rest) course → Goes s before course (HasNoticed rest)
    noticed_again before course comes has = go (unnoticed (lane_at course.cluster lane)) refl
      where
        go : (found : Option ℕ) → unnoticed (lane_at course.cluster lane) ≡ found → Goes s before course (HasNoticed rest)
        go None is = still_move s before course (notices lane) rest rest (HasNoticed rest) comes has.0
            (record { cluster_is = refl; tasks_are = ap (λ (o : Option ℕ). notice_by lane o ++ rest) is })
            (λ next at. (at.tasks_are, subst (λ (cluster : Cluster). AllNoticed (lane_at cluster lane)) (sym at.cluster_is) has.1))
        go (Some dead) is =
            absurd (all_noticed_none (lane_at course.cluster lane) (formed_at course comes.sane lane inside) dead has.1 is)

    -- one is noticed, and with it all
    one_noticed : (before : Cluster) (course : Course) (dead : ℕ) → Comes s before course → course.tasks ≡ notice lane dead ∷ notices lane ∷ rest
        → has_crashed (lane_at course.cluster lane) dead ≡ true → Goes s before course (HasNoticed (notices lane ∷ rest))
    one_noticed before course dead comes are gone =
        let w : World = lane_at course.cluster lane in
        let formed = formed_at course comes.sane lane inside in
        let changes = stepped_changes course.cluster lane (omega (arith, inside, eight s course comes.sane)) (step w (Event.Notice dead) (Gave None)) in
        occurs_move s before course (notice lane dead) (notices lane ∷ rest) (Happens lane (Event.Notice dead) (Gave None)) false (HasNoticed (notices lane ∷ rest)) comes are refl
        (alone_fresh course.cluster (Happens lane (Event.Notice dead) (Gave None)))
        (added_after course.cluster (Happens lane (Event.Notice dead) (Gave None)) tt comes.sane.added)
        (λ next at fresh. (
          at.tasks_are,
          subst (λ (cluster : Cluster). AllNoticed (lane_at cluster lane)) (sym at.cluster_is)
              (subst AllNoticed (sym changes.here)
              (notice_notices w formed dead (Gave None) (fresh_event w (Event.Notice dead) (Gave None) refl fresh) gone)),
        ))

    -- the crashed masters of the lane are noticed
    noticing : (before : Cluster) (course : Course) → Comes s before course → course.tasks ≡ notices lane ∷ rest → Goes s before course (HasNoticed rest)
    noticing before course comes are = go (unnoticed (lane_at course.cluster lane)) refl
      where
        formed : IsWellFormed (lane_at course.cluster lane)
        formed = formed_at course comes.sane lane inside

        go : (found : Option ℕ) → unnoticed (lane_at course.cluster lane) ≡ found → Goes s before course (HasNoticed rest)
        go None is = still_move s before course (notices lane) rest rest (HasNoticed rest) comes are
            (record { cluster_is = refl; tasks_are = ap (λ (o : Option ℕ). notice_by lane o ++ rest) is })
            (λ next at. (
              at.tasks_are,
              subst (λ (cluster : Cluster). AllNoticed (lane_at cluster lane)) (sym at.cluster_is) (none_unnoticed (lane_at course.cluster lane) formed is),
            ))
        go (Some dead) is =
            let P : Course → Type 0 = IsAt course.cluster (notice lane dead ∷ notices lane ∷ rest) in
            goes_on s before course P (HasNoticed rest)
            (still_move s before course (notices lane) rest (notice lane dead ∷ notices lane ∷ rest) P comes are
            (record { cluster_is = refl; tasks_are = ap (λ (o : Option ℕ). notice_by lane o ++ rest) is }) (λ next at. at))
            (λ later comes_later at.
            goes_on s before later (HasNoticed (notices lane ∷ rest)) (HasNoticed rest)
            (one_noticed before later dead comes_later at.tasks_are
            (subst (λ (cluster : Cluster). has_crashed (lane_at cluster lane) dead ≡ true) (sym at.cluster_is)
            (unnoticed_crashed (lane_at course.cluster lane) formed dead is)))
            (λ last comes_last has. noticed_again before last comes_last has))

  -- so in all lanes, one after the other
  all_noticing : (count from : ℕ) → from + count ≡ LANES → (before : Cluster) (course : Course) → Comes s before course
      → course.tasks ≡ map notices (range_with_len from count) ++ settles ∷ [] → AreNoticed from course.cluster
      → Goes s before course (λ next. (next.tasks ≡ settles ∷ []) × AreNoticed LANES next.cluster)
  all_noticing zero from all before course comes are noticed = grind (arith, goes_here, settles)
  all_noticing (suc count) from all before course comes are noticed =
      let rest : List Task = map notices (range_with_len (from + 1) count) ++ settles ∷ [] in
      let inside : from < LANES = omega (arith, all) in
      goes_then s before course (HasNoticed from inside rest rest)
      (λ next. (next.tasks ≡ settles ∷ []) × AreNoticed LANES next.cluster) comes
      (noticing from inside rest course.cluster course (record { sane = comes.sane; follows = follows_itself course.cluster }) are)
      (λ later comes_later follows has. all_noticing count (from + 1) (omega (arith, all)) before later comes_later has.0
      (λ q below. ⊎_elim (λ (lower : q < from). (follows q).noticed (noticed q lower))
      (λ (last : from ≤ q). subst (λ (l : ℕ). AllNoticed (lane_at later.cluster l)) (omega (arith, last, below)) has.1)
      (cases_lt q from)))

  -- all crashed masters are noticed first
  pub notices_first : (course : Course) → IsSane s course → course.tasks ≡ map notices (range_with_len 0 (length course.cluster.lanes)) ++ settles ∷ []
      → Goes s course.cluster course (λ next. (next.tasks ≡ settles ∷ []) × AreNoticed LANES next.cluster)
  notices_first course sane are = grind (arith, all_noticing, follows_itself, notices, settles, eight)
