-- The wire of a lane is emptied.
use Rattle.std.proofs.Common.{◌≡◌, ◌<◌, ◌+◌, ℕ, zero, suc, List, [], ◌∷◌, ◌++◌, Option, None, Some, refl, sym, ap, subst, ◌∙◌, arith}
use Rattle.rk_scripts.proofs.Words.{get, LANES, number_at, Cluster, lane_at, World, Course, empty_by, forgets, deliveries_left}
use Rattle.rk_scripts.proofs.Words.{masters_in_order, taken_off_fewer}
use Rattle.rk_inv_lanes.proofs.wires.Emptied.{oldest_there}
use Rattle.rk_scripts.proofs.settle.Delivering.{IsOff, taking_off}
use Rattle.rk_scripts.proofs.settle.Going.{Comes, Goes, IsAt, goes_on, still_move}
use Rattle.rk_scripts.proofs.settle.Lanes.{IsSameBeside}
use Rattle.rk_scripts.proofs.settle.NoticesFirst.{formed_at}
use Rattle.rk_scripts.proofs.settle.Setting.{Setting}
use Rattle.rk_scripts.proofs.settle.Tasks.{Task, delivers, empties}

-- nothing is on the wire of a lane
abbrev pub IsSilent : World → Type 0
IsSilent w = number_at 1 w.wire ≡ None

module _ (s : Setting) (lane : ℕ) (inside : lane < LANES) (rest : List Task) (origin : Cluster) where
  -- nothing is on the wire of the lane, the other lanes are as they were, and these tasks are left
  pub record IsEmptied (course : Course) : Type 0 where
    pub left : course.tasks ≡ rest
    pub silent : IsSilent (lane_at course.cluster lane)
    pub beside : IsSameBeside lane origin course.cluster

  emptying_within : (fuel : ℕ) (before : Cluster) (course : Course) → Comes s before course → course.tasks ≡ empties lane ∷ rest
      → deliveries_left (lane_at course.cluster lane) < fuel → IsSameBeside lane origin course.cluster → Goes s before course IsEmptied
  emptying_within zero before course comes are few beside = absurd (omega (arith, few))
  emptying_within (suc fuel) before course comes are few beside = go (emptying_within fuel) (number_at 1 (lane_at course.cluster lane).wire) refl
    where
      go : ((before : Cluster) (course : Course) → Comes s before course → course.tasks ≡ empties lane ∷ rest
          → deliveries_left (lane_at course.cluster lane) < fuel → IsSameBeside lane origin course.cluster → Goes s before course IsEmptied)
          → (oldest : Option ℕ) → number_at 1 (lane_at course.cluster lane).wire ≡ oldest → Goes s before course IsEmptied
      go again None is = still_move s before course (empties lane) rest rest IsEmptied comes are
          (record { cluster_is = refl; tasks_are = ap (λ (o : Option ℕ). empty_by lane o ++ rest) is })
          (λ next at. record {
            left = at.tasks_are;
            silent = subst (λ (cluster : Cluster). IsSilent (lane_at cluster lane)) (sym at.cluster_is) is;
            beside = subst (IsSameBeside lane origin) (sym at.cluster_is) beside;
          })
      go again (Some number) is =
          let w : World = lane_at course.cluster lane in
          let there = oldest_there w.wire.messages w.wire.sent number is in
          let left : List Task = delivers lane number ∷ forgets lane number ∷ empties lane ∷ rest in
          goes_on s before course (IsAt course.cluster left) IsEmptied
          (still_move s before course (empties lane) rest left (IsAt course.cluster left) comes are
          (record { cluster_is = refl; tasks_are = ap (λ (o : Option ℕ). empty_by lane o ++ rest) is }) (λ next at. at))
          (λ later comes_later at.
          goes_on s before later (IsOff s lane inside number (empties lane ∷ rest) w there.message.to course.cluster) IsEmptied
          (subst (λ (cluster : Cluster). Goes s before later (IsOff s lane inside number (empties lane ∷ rest) (lane_at cluster lane) there.message.to cluster)) at.cluster_is
          (taking_off s lane inside number (empties lane ∷ rest) before later there.message comes_later at.tasks_are
          (subst (λ (cluster : Cluster). get (lane_at cluster lane).wire.messages number ≡ Some there.message) (sym at.cluster_is) there.found)))
          (λ last comes_last off.
          let fewer = taken_off_fewer w number there.message off.arrival (masters_in_order w (formed_at s course comes.sane lane inside)) there.found in
          again before last comes_last off.left (omega (arith, few, fewer, ap deliveries_left off.changes.here))
          (λ q apart. off.changes.beside q apart ∙ beside q apart)))

-- the messages of a lane are delivered and forgotten, until none is left
pub emptying : (s : Setting) (lane : ℕ) (inside : lane < LANES) (rest : List Task) (before : Cluster) (course : Course) → Comes s before course
    → course.tasks ≡ empties lane ∷ rest → Goes s before course (IsEmptied s lane inside rest course.cluster)
emptying s lane inside rest before course comes are = emptying_within s lane inside rest course.cluster
    (deliveries_left (lane_at course.cluster lane) + 1) before course comes are (omega arith) (λ q apart. refl)
