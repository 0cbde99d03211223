-- A command ends if its course goes on until it is done. Commands do the same in each lane, one after the other.
use Rattle.std.proofs.Common.{◌≡◌, ◌<◌, ◌+◌, ℕ, zero, suc, List, [], ◌∷◌, map, Option, None, refl, ap, ◌∙◌, inl, ⊎_elim, arith}
use Rattle.rk_scripts.proofs.Words.{range_with_len, LANES, Cluster, cluster_run, new_cluster, Code, SettlingCommand, Course, course_of}
use Rattle.rk_scripts.proofs.Words.{AreTasks, lane_numbers, NamesMasters, AlwaysEnds, EndsUnlessRefused}
use Rattle.rk_scripts.proofs.play.Masters.{names_masters}
use Rattle.rk_scripts.proofs.play.Reaching.{reached_eight}
use Rattle.rk_scripts.proofs.settle.Exchanging.{HasLeft}
use Rattle.rk_scripts.proofs.settle.Going.{Comes, Goes, comes_here, goes_done, goes_on}
use Rattle.rk_scripts.proofs.settle.Rounds.{Never}
use Rattle.rk_scripts.proofs.settle.Setting.{IsSane, Setting}
use Rattle.rk_scripts.proofs.settle.Tasks.{Task}

-- the course of a command at its beginning
abbrev beginning : Setting → SettlingCommand → Course
beginning s command = course_of s.start (command s.start)

-- a command ends if its course, which is sane at its beginning, is done some day unless the command is refused
pub ends_unless : (code : Cluster → Option Code) (command : SettlingCommand) → ((masters : ℕ) (cluster : Cluster) → NamesMasters masters cluster → AreTasks masters (command cluster))
    → ((s : Setting) → code s.start ≡ None → IsSane s (beginning s command) → Goes s s.start (beginning s command) Never) → EndsUnlessRefused code command
ends_unless code command lawful goes masters backups before adversary few backed few_backups run added allowed =
    record {
      moves = there.moves;
      over = grind arith;
    }
  where
    s : Setting
    s = record {
      adversary = adversary;
      masters = masters;
      backups = backups;
      start = cluster_run (new_cluster masters backups) before;
      reached = record { few_masters = few; backed = backed; few_backups = few_backups; before = before; run = run; is = refl };
    }

    there : Goes s s.start (beginning s command) Never
    there = goes s allowed
        (record {
          coursing = record { from = refl; run = tt; are = lawful masters s.start (names_masters masters backups s.start s.reached) };
          added = added;
        })

-- so does one whose course is done some day, whether it is refused or not
pub always_ends : (command : SettlingCommand) → ((masters : ℕ) (cluster : Cluster) → NamesMasters masters cluster → AreTasks masters (command cluster))
    → ((s : Setting) → IsSane s (beginning s command) → Goes s s.start (beginning s command) Never) → AlwaysEnds command
always_ends command lawful goes = ends_unless (λ cluster. None) command lawful (λ s free. goes s)

module _ (s : Setting) where
  -- if no task is left the course is done
  pub left_none : (before : Cluster) (course : Course) → Goes s before course (HasLeft []) → Goes s before course Never
  left_none before course goes = goes_on s before course (HasLeft []) Never goes (λ later comes none. goes_done s before later Never (inl none))

  module _ (task : ℕ → Task)
      (ends : (lane : ℕ) → lane < LANES → (rest : List Task) (before : Cluster) (course : Course) → Comes s before course → course.tasks ≡ task lane ∷ rest
      → Goes s before course (HasLeft rest)) where
    -- a task of each lane that is left ends, and with the last one the command
    lanes_from : (count from : ℕ) → from + count ≡ LANES → (before : Cluster) (course : Course) → Comes s before course
        → course.tasks ≡ map task (range_with_len from count) → Goes s before course Never
    lanes_from zero from all before course comes are = goes_done s before course Never (inl are)
    lanes_from (suc count) from all before course comes are =
        let rest : List Task = map task (range_with_len (from + 1) count) in
        goes_on s before course (HasLeft rest) Never (ends from (omega (arith, all)) rest before course comes are)
        (λ later comes_later left. lanes_from count (from + 1) (omega (arith, all)) before later comes_later left)

    -- a command that has a task in each lane is done
    pub lanes_end : (course : Course) → IsSane s course → course.cluster ≡ s.start → course.tasks ≡ map task (lane_numbers s.start) → Goes s course.cluster course Never
    lanes_end course sane same are = lanes_from LANES 0 refl course.cluster course (comes_here s course sane)
        (are ∙ ap (λ (count : ℕ). map task (range_with_len 0 count)) (reached_eight s.masters s.backups s.start s.reached))
