-- The definitions and lemmas of crates below that several files cite here, passed on from one place. Declares nothing.
pub use Rattle.rk_cluster.proofs.Faults.{counts_same, counts_then, go_on_same}
pub use Rattle.rk_cluster.proofs.Worlds.{there_read, there_within}
pub use Rattle.rk_cluster.specs.Codes.{code_where}
pub use Rattle.rk_cluster.specs.Faults.{CountsGoOn, GoOn}
pub use Rattle.rk_cluster.specs.Looks.{owner_in}
pub use Rattle.rk_cluster.specs.Masters.{backups_of}
pub use Rattle.rk_cluster.specs.Numbers.{number_of}
pub use Rattle.rk_cluster.specs.Replicas.{Fate}
pub use Rattle.rk_cluster.specs.State.{ClusterState, IsOf}
pub use Rattle.rk_cluster.specs.Steps.{state_of}
pub use Rattle.rk_cluster.specs.Told.{LanesTell, Tells}
pub use Rattle.rk_cluster.specs.declared.code.Code.{Code}
pub use Rattle.rk_cluster.specs.declared.code.Code.TheVariants.{Unknown}
pub use Rattle.rk_cluster.specs.declared.error.ClusterError.{ClusterError}
pub use Rattle.rk_history.specs.Journals.{journals_of}
pub use Rattle.rk_lane.specs.LaneState.{LaneState, replicas_of}
pub use Rattle.rk_ledger.specs.Values.{value_bytes}
pub use Rattle.rk_lending.specs.Lent.{AreGivenBack}
pub use Rattle.rk_lines.specs.Lines.{said_lines}
pub use Rattle.rk_message.specs.Wire.{bytes_on}
pub use Rattle.rk_model.specs.Merged.{IsRisingAbove}
pub use Rattle.rk_outside.specs.Parts.{AppendsPart}
pub use Rattle.rk_outside.specs.Segments.{Segments}
pub use Rattle.rk_outside.specs.declared.reading.TheConstants.{PIECE}
pub use Rattle.rk_play.specs.Came.{Came, IsCome, Ran, Stopped, WhereRefused}
pub use Rattle.rk_play.specs.Concluded.{Concludes, ConcludesBy, IsWritten, MayComeTo, PlaysBy, part_in}
pub use Rattle.rk_play.specs.Effects.{Effect, MOST_BYTES, Pauses, Refuses, Stop, effect, is_full, refused_by, settled}
pub use Rattle.rk_play.specs.Ended.{EndsBy, HasFailed, HasStopped, IsHalted, end_by}
pub use Rattle.rk_play.specs.Played.{Played, Setting, all_fates, behind, cluster_by, ending, part_of, played_from, played_in, refused_at}
pub use Rattle.rk_play.specs.Played.{stopped_at, text_of, unset}
pub use Rattle.rk_play.specs.Reached.{IsOn, IsSent, Spills}
pub use Rattle.rk_play.specs.Reading.{Says, script_error_by}
pub use Rattle.rk_play.specs.Runs.{MayBePart, Runs, TellStored, backup_count, count_of, replica_counts}
pub use Rattle.rk_play.specs.Settings.{IsOpened, IsRefusedEarly, IsSetting, setting_of}
pub use Rattle.rk_play.specs.Shows.{dump_code, is_held, items_of, lives_owner, phase_of}
pub use Rattle.rk_play.specs.Stops.{error_by_cluster, error_by_settling, stop_by}
pub use Rattle.rk_play.specs.declared.end.End.{End}
pub use Rattle.rk_play.specs.declared.error.PlayError.{PlayError}
pub use Rattle.rk_script.specs.Feeding.{WasFed}
pub use Rattle.rk_script.specs.Lawful.{IsLawful}
pub use Rattle.rk_script.specs.Script.{script_of}
pub use Rattle.rk_script.specs.declared.code.Code.TheVariants.{ScriptLength}
pub use Rattle.rk_script.specs.declared.command.Command.{Command}
pub use Rattle.rk_script.specs.declared.command.Command.TheVariants.{Backups, Masters, Serve}
pub use Rattle.rk_script.specs.declared.command.Numbered.{Numbered}
pub use Rattle.rk_script.specs.declared.script.ParseError.{ParseError}
pub use Rattle.rk_script.specs.declared.script.TheConstants.{LONGEST_SCRIPT}
pub use Rattle.rk_settle.specs.Course.{MOST_FAULTS, course_of, moved_all}
pub use Rattle.rk_settle.specs.declared.error.SettleError.{SettleError}
pub use Rattle.rk_tablet_map.specs.Rows.{row_of}
pub use Rattle.rk_tablet_map.specs.declared.phase.Phase.{Phase}
pub use Rattle.rk_types.specs.NumberMap.{NumberMap}
pub use Rattle.rk_types.specs.declared.hashing.TheConstants.{LANES}
pub use Rattle.rk_types.specs.declared.history.Placed.{Placed}
pub use Rattle.rk_types.specs.declared.node.Said.{Said}
pub use Rattle.rk_types.specs.declared.status.Status.{Status}
pub use Rattle.rk_types.specs.declared.status.Status.TheVariants.{Done, NoMemory, Refused, ReplicaFault, Worn, WriteFault}
pub use Rattle.rk_world.specs.Cluster.{Cluster, Occurrence, lane_at}
pub use Rattle.rk_world.specs.World.{World, new_world}
pub use Rattle.std.proofs.Common.{All, Bool, Bor, IfErr, List, None, Option, Some, [], ap, append-nil, append_assoc, arith, drop, false}
pub use Rattle.std.proofs.Common.{flat_map, length, length-append, map, min, nat_le, not, refl, slice_get, slice_index_or, subst, suc, sum}
pub use Rattle.std.proofs.Common.{sym, take, true, zero, ℕ, ⊎_elim, ◌*◌, ◌++◌, ◌+◌, ◌-◌, ◌<◌, ◌^◌, ◌||◌, ◌∙◌, ◌∷◌, ◌≡◌, ◌≢◌, ◌≤◌}
pub use Rattle.std.proofs.KnownBytes.{Appends-kept, Appends-nil, Consumes-trans, Keeps-refl}
pub use Rattle.std.proofs.Math.Seq.{take-length}
pub use Rattle.std.proofs.lemmas.List.{length-drop, map_push, take-append-drop, take-append-le, take_all}
pub use Rattle.std.proofs.lemmas.List.Folds.{concat-append}
pub use Rattle.std.proofs.lemmas.Result.{err_from_is_err_and}
pub use Rattle.std.specs.Io.KnownBytes.{Appends, Keeps}
pub use Rattle.std.specs.List.{concat, list_all, range_with_len}
pub use Rattle.std.specs.Prelude.{Err, IsErrAnd, Ok, Result, if◌then◌else◌, is_some}
