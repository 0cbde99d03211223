-- A course in which no call of a replica fails: when its command stops, nothing is left to do, and that is never because replicas failed.
use Rattle.rk_settle.proofs.Words.{arith, ◌≡◌, ℕ, nat_le, false, Bool, List, [], Option, None, Some, if◌then◌else◌, refl, get, Node}
use Rattle.rk_settle.proofs.Words.{Segments, Message, lane_at, World, StepError, all_acted, is_lost_at_backup, deliver_in_makes, Kept}
use Rattle.rk_settle.proofs.Words.{Course, act_makes, error_by, is_at_limit, moved, moved_by, with_tasks, SettleError, Task}
use Rattle.std.proofs.Common.{◌&&◌}
use Rattle.std.specs.Option.{option_map}
use Rattle.std.proofs.lemmas.Bool.{and_right, or_from}
use Rattle.std.proofs.lemmas.Option.{none-some}
use Rattle.rk_types.specs.declared.node.Node.TheVariants as nodes
use Rattle.rk_message.specs.declared.message.Body.{Body}
use Rattle.rk_message.specs.declared.message.Body.TheVariants as bodies
use Rattle.rk_world.specs.Backup.{backup_step, called_by}
use Rattle.rk_world.specs.Step.{delivered, stepped_by, to_backup, told_for}
use Rattle.rk_world.specs.World.{backup_at}
use Rattle.rk_world.specs.declared.event.Event.TheVariants as events
use Rattle.rk_cluster.specs.Acted.{lost_in}
use Rattle.rk_cluster.specs.Delivering.{is_backup}
use Rattle.rk_settle.specs.Course.{error_of}
use Rattle.rk_settle.specs.declared.error.SettleError.TheVariants as errors
use Rattle.rk_settle.specs.declared.task.Task.TheVariants as tasks

-- ---- a command that stops

-- a course whose command stops stays as it is
pub stands_still : (course : Course) (error : SettleError) → error_of course ≡ Some error → moved course Kept ≡ course
stands_still course error is =
    grind (arith, all_acted, act_makes, deliver_in_makes, is_lost_at_backup, is_at_limit, none-some, course.tasks)

-- ---- deliveries

-- a backup whose replica does not fail loses nothing
step_keeps : (backup : ℕ) (segments : Segments) (from : Node) (body : Body) (log : ℕ → ℕ → List ℕ) → (backup_step backup from body log (called_by segments from body None)).lost ≡ false
step_keeps backup segments from body log = grind arith

at_backup : (w : World) (backup : ℕ) (from : Node) (body : Body) → (to_backup w backup from body (called_by (backup_at w backup) from body None)).seen.lost ≡ false
at_backup w backup from body = grind (arith, step_keeps)

module _ (w : World) where
  -- a message that is delivered to this one is for a backup, and lost
  abbrev LostAt : Option Message → Bool
  LostAt found = is_backup (option_map (λ (message : Message). message.to) found) && (delivered w found (told_for w found None)).seen.lost

  to_node : (from to : Node) (body : Body) → LostAt (Some (record { from = from; to = to; body = body })) ≡ false
  to_node from (nodes.Backup backup) body = at_backup w backup from body
  to_node from (nodes.Client client) body = refl
  to_node from nodes.Coordinator body = refl
  to_node from (nodes.Master master) body = refl

  found_keeps : (found : Option Message) → LostAt found ≡ false
  found_keeps None = refl
  found_keeps (Some message) = to_node message.from message.to message.body

-- no message is lost at a backup whose replica does not fail
lost_by : (w : World) (number : ℕ) (refused : Option StepError)
    → (is_backup (option_map (λ (message : Message). message.to) (get w.wire.messages number))
    && lost_in (stepped_by w (events.Deliver number) (told_for w (get w.wire.messages number) None) refused)) ≡ false
lost_by w number None = found_keeps w (get w.wire.messages number)
lost_by w number (Some error) = and_right (is_backup (option_map (λ (message : Message). message.to) (get w.wire.messages number))) false refl

-- ---- courses

-- no replica has failed so far
pub record IsWell (course : Course) : Type 0 where
  pub none : course.faults ≡ 0
  pub well : course.failing ≡ false

by_well : (course : Course) (left : List Task) → IsWell course → IsWell (moved_by course Kept left)
by_well course left is =
    grind (arith, all_acted, act_makes, deliver_in_makes, is_lost_at_backup, is_at_limit, with_tasks, or_from, lane_at, lost_by)

-- it stays so at a move at which no call fails
pub moved_well : (course : Course) → IsWell course → IsWell (moved course Kept)
moved_well course is = by_well course course.tasks is

error_other : (course : Course) (left : List Task) (rounds : ℕ) → IsWell course → error_by course left ≡ Some (errors.Replica rounds) → ⊥
error_other course left rounds well is = grind (arith, none-some, all_acted, act_makes, deliver_in_makes, is_at_limit, nat_le)

-- no command stops there because replicas failed
pub well_other : (course : Course) (rounds : ℕ) → IsWell course → error_of course ≡ Some (errors.Replica rounds) → ⊥
well_other course rounds well is = error_other course course.tasks rounds well is
