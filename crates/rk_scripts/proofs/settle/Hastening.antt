-- `priority` ends: in each lane at most one exchange is made.
use Rattle.std.proofs.Common.{◌≡◌, ◌<◌, ℕ, Bool, true, false, cond, List, [], ◌∷◌, ◌++◌, Option, None, Some, refl}
use Rattle.rk_scripts.proofs.Words.{row_of, Phase, Moving, Row, LANES, Node, Cluster, lane_at, World, tablet_in, Course, hasten_phase}
use Rattle.rk_scripts.proofs.Words.{hasten_row, wants_first, turn_exchange}
use Rattle.rk_settle.specs.Priority.{hasten_tasks}
use Rattle.rk_scripts.proofs.settle.ExchangeTasks.{Topic, hastens}
use Rattle.rk_scripts.proofs.settle.Exchanged.{turn_exchanging}
use Rattle.rk_scripts.proofs.settle.Exchanging.{HasLeft}
use Rattle.rk_scripts.proofs.settle.Going.{Comes, Goes, IsAt, goes_here, goes_on, still_move}
use Rattle.rk_scripts.proofs.settle.Setting.{Setting}
use Rattle.rk_scripts.proofs.settle.Tasks.{Task}

module _ (s : Setting) (lane : ℕ) (inside : lane < LANES) (rest : List Task) where
  -- an exchange, or none
  pub maybe_exchanging : (b : Bool) (topic : Topic) (node : Node) (before : Cluster) (course : Course) → Comes s before course
      → course.tasks ≡ cond b (turn_exchange lane topic node ∷ []) [] ++ rest → Goes s before course (HasLeft rest)
  maybe_exchanging true topic node before course comes are = turn_exchanging s lane inside topic node rest before course comes are
  maybe_exchanging false topic node before course comes are = goes_here s before course (HasLeft rest) comes are

  hastened_phase : (w : World) (tablet : ℕ) (phase : Phase) (before : Cluster) (course : Course) → Comes s before course
      → course.tasks ≡ hasten_phase w lane tablet phase ++ rest → Goes s before course (HasLeft rest)
  hastened_phase w tablet (Moving source sfrom target dfrom) before course comes are = search (maybe_exchanging, wants_first, tablet_in)
  hastened_phase w tablet phase before course comes are = goes_here s before course (HasLeft rest) comes are

  hastened_row : (w : World) (tablet : ℕ) (found : Option Row) (before : Cluster) (course : Course) → Comes s before course
      → course.tasks ≡ hasten_row w lane tablet found ++ rest → Goes s before course (HasLeft rest)
  hastened_row w tablet None before course comes are = goes_here s before course (HasLeft rest) comes are
  hastened_row w tablet (Some row) before course comes are = hastened_phase w tablet row.phase before course comes are

  -- a target has asked for what it wants first
  pub hastening_ends : (tablet : ℕ) (before : Cluster) (course : Course) → Comes s before course → course.tasks ≡ hastens lane tablet ∷ rest → Goes s before course (HasLeft rest)
  hastening_ends tablet before course comes are =
      let w : World = lane_at course.cluster lane in
      let left : List Task = hasten_tasks w lane tablet ++ rest in
      goes_on s before course (IsAt course.cluster left) (HasLeft rest)
      (still_move s before course (hastens lane tablet) rest left (IsAt course.cluster left) comes are
      (record { cluster_is = refl; tasks_are = refl }) (λ next at. at))
      (λ later comes_later at. hastened_row w tablet (row_of w.coordinator.rows tablet) before later comes_later at.tasks_are)
