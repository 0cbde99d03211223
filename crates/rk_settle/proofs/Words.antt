-- The definitions and lemmas of crates below that several files cite here, passed on from one place. Declares nothing.
pub use Rattle.rk_cluster.proofs.Faults.{counts_same}
pub use Rattle.rk_cluster.proofs.Worlds.{same_count, there_read}
pub use Rattle.rk_cluster.specs.Acted.{Acted, all_acted}
pub use Rattle.rk_cluster.specs.Delivering.{is_lost_at_backup}
pub use Rattle.rk_cluster.specs.Faults.{CountsGoOn, counts_in}
pub use Rattle.rk_cluster.specs.Makes.{deliver_in_makes, delivery, delivery_of, has_receiver}
pub use Rattle.rk_cluster.specs.Masters.{masters_of}
pub use Rattle.rk_cluster.specs.Replicas.{Fate, Kept}
pub use Rattle.rk_cluster.specs.State.{ClusterState, IsOf}
pub use Rattle.rk_cluster.specs.Steps.{state_of}
pub use Rattle.rk_lane.specs.LaneState.{LaneState}
pub use Rattle.rk_message.specs.Wire.{number_at}
pub use Rattle.rk_message.specs.declared.message.Message.{Message}
pub use Rattle.rk_outside.specs.Segments.{Segments}
pub use Rattle.rk_settle.specs.Advance.{advance}
pub use Rattle.rk_settle.specs.Course.{Course, MOST_FAULTS, act_makes, course_of, error_by, has_actor, is_at_limit, moved, moved_all}
pub use Rattle.rk_settle.specs.Course.{moved_by, occurring, occurring_by, round_over, with_tasks}
pub use Rattle.rk_settle.specs.Exchange.{is_number_off, sent_after}
pub use Rattle.rk_settle.specs.Faults.{FailsInRounds, failed_rounds}
pub use Rattle.rk_settle.specs.Lawful.{AreNamed, AreTasks, IsTask}
pub use Rattle.rk_settle.specs.Outcomes.{Fails, Keeps}
pub use Rattle.rk_settle.specs.Reaches.{is_short_of}
pub use Rattle.rk_settle.specs.Rest.{is_at_rest}
pub use Rattle.rk_settle.specs.Serve.{serve}
pub use Rattle.rk_settle.specs.Settle.{lane_numbers, lane_tasks, settle, turns_of}
pub use Rattle.rk_settle.specs.States.{IsCourse, Moves, MovesAll, Stops}
pub use Rattle.rk_settle.specs.Tasks.{forgets, occurrence_of, round_of}
pub use Rattle.rk_settle.specs.Unfolding.{unfolded}
pub use Rattle.rk_settle.specs.declared.course.Progress.{Progress}
pub use Rattle.rk_settle.specs.declared.error.SettleError.{SettleError}
pub use Rattle.rk_types.specs.declared.reach.Reach.TheVariants.{Granted}
pub use Rattle.rk_settle.specs.declared.task.Act.{Act}
pub use Rattle.rk_settle.specs.declared.task.Task.{Task}
pub use Rattle.rk_tablet_map.specs.Rows.{row_of}
pub use Rattle.rk_tablet_map.specs.declared.phase.Phase.{Phase}
pub use Rattle.rk_tablet_map.specs.declared.phase.Phase.TheVariants.{Moving, Opening}
pub use Rattle.rk_tablet_map.specs.declared.row.Row.{Row}
pub use Rattle.rk_types.specs.NumberMap.{get}
pub use Rattle.rk_types.specs.declared.hashing.TheConstants.{LANES}
pub use Rattle.rk_types.specs.declared.node.Node.{Node}
pub use Rattle.rk_types.specs.declared.node.Said.{Said}
pub use Rattle.rk_world.specs.Backup.{Gave}
pub use Rattle.rk_world.specs.Client.{Session}
pub use Rattle.rk_world.specs.Cluster.{Calls, Cluster, Happens, Occurrence, lane_at, session_at}
pub use Rattle.rk_world.specs.Premises.{IsMaster}
pub use Rattle.rk_world.specs.World.{World, new_world}
pub use Rattle.rk_world.specs.declared.error.StepError.{StepError}
pub use Rattle.std.proofs.Common.{All, Bool, IfSome, List, None, Ok, Option, Some, [], ap, append-nil, append_assoc, arith, cond, false}
pub use Rattle.std.proofs.Common.{filter, find, if◌then◌else◌, is_some, length, map, nat_le, not, refl, rules, slice_index_or, subst, suc}
pub use Rattle.std.proofs.Common.{sym, take, true, ℕ, ◌++◌, ◌+◌, ◌-◌, ◌<◌, ◌||◌, ◌∙◌, ◌∷◌, ◌≡◌, ◌≤◌}
pub use Rattle.std.proofs.lemmas.List.Elements.{All-append, All-cons, All-head, All-nil, All-tail}
pub use Rattle.std.proofs.lemmas.Result.{err_from_is_err_and, on_ok_weaker}
pub use Rattle.std.specs.List.{flat_map, range_with_len}
