-- What several files of these proofs cite, passed on from one place. Declares nothing.
pub use borrow.Author.Tests.{not-false}
pub use Rattle.std.proofs.Math.Nat.{mod-lt}
pub use Rattle.std.proofs.lemmas.Bool.{not-false}
pub use Rattle.std.proofs.lemmas.List.FromFn.{get_or-map-range_with_len, get_or-range_with_len, length-range_with_len}
pub use Rattle.std.specs.FinMap.Entries.{below_all}
pub use Rattle.rk_types.proofs.NumberMaps.{in_order_changed, in_order_insert}
pub use Rattle.rk_types.specs.NumberMap.{changed_each, numbers}
pub use Rattle.rk_types.specs.declared.held.TheConstants.{SEGMENT_BYTES}
pub use Rattle.rk_types.specs.declared.node.Said.{Said}
pub use Rattle.rk_types.specs.declared.status.Status.TheVariants.{NoMemory, Refused, ReplicaFault}
pub use Rattle.rk_entry.specs.Numbers.{IsNumber}
pub use Rattle.rk_transfer.specs.Handover.{role_frozen, role_granted, role_joined}
pub use Rattle.rk_script.specs.Lawful.{IsLawfulCommand}
pub use Rattle.rk_script.specs.Script.{script_of}
pub use Rattle.rk_script.specs.declared.command.Command.{Command}
pub use Rattle.rk_script.specs.declared.command.Numbered.{Numbered}
pub use Rattle.rk_script.specs.declared.script.ParseError.{ParseError}
pub use Rattle.rk_log.specs.Log.{segments}
pub use Rattle.rk_message.specs.Wire.{HasSentNumbers, number_at, without_message}
pub use Rattle.rk_world.specs.Backup.{called_by}
pub use Rattle.rk_world.specs.Client.{busy, session_calling}
pub use Rattle.rk_world.specs.Cluster.{IsQuietCluster}
pub use Rattle.rk_world.specs.Master.{is_staged}
pub use Rattle.rk_world.specs.Quiet.{IsOwnedLive}
pub use Rattle.rk_world.specs.Refusals.{WORN_NUMBER}
pub use Rattle.rk_world.specs.Replicas.{IsTold}
pub use Rattle.rk_world.specs.Step.{told_for}
pub use Rattle.rk_world.specs.World.{live_masters, with_top, with_wire}
pub use Rattle.rk_world.specs.declared.event.Taken.{Taken}
pub use Rattle.rk_session.specs.Owners.{known_owner, looks_up}
pub use Rattle.rk_inv_wellformed.proofs.lanes.Ledgers.{kept_by_fold}
pub use Rattle.rk_inv_wellformed.proofs.maps.Lists.{find_passes}
pub use Rattle.rk_inv_wellformed.proofs.maps.Maps.{All_pairs, above_all, first, found_changed, get_first, get_later, order_tail}
pub use Rattle.rk_inv_wellformed.proofs.room.Rises.{sent_all}
pub use Rattle.rk_inv_base.proofs.Words.{Accepts, All-append, All-cons, All-contains, All-filter, All-head, All-map, All-nil, All-tail}
pub use Rattle.rk_inv_base.proofs.Words.{All-weaker, Asks, Backed, Body, Call, Called, Calls, Cluster, Coordinator, Ended, Entry, Event}
pub use Rattle.rk_inv_base.proofs.Words.{FIRST_SIDE_SEGMENT, Gave, Grant, Handover, Happens, HasRoom, Held, Holds, IsInOrder, IsMaster}
pub use Rattle.rk_inv_base.proofs.Words.{IsRun, IsSound, IsWellFormed, Joins, Known, LANES, LastCall, Log, MOST_BACKUPS, MOST_MASTERS}
pub use Rattle.rk_inv_base.proofs.Words.{Master, MayHappen, Message, Moving, MovingSource, Node, NumberMap, NumberedBytes, Occurrence, Op}
pub use Rattle.rk_inv_base.proofs.Words.{Opening, Overreach, Owned, Phase, Placed, Prepare, Range, Reading, Rebuilding, Role, Row, Segments}
pub use Rattle.rk_inv_base.proofs.Words.{Session, StepError, Stepped, Stored, Tablet, Traffic, Visited, Worked, World, accept, accept_by}
pub use Rattle.rk_inv_base.proofs.Words.{accept_refusal, accepting, all_going_on, and_from, and_parts, apply_entries, apply_entry}
pub use Rattle.rk_inv_base.proofs.Words.{as_entries, ask, ask_by, ask_refusal, asking, asking_by, backed_at, backup_at, backup_step}
pub use Rattle.rk_inv_base.proofs.Words.{batch_taken, bond_of, bytes_of, call_lane, called_by_client, carried_entry, cases_eq, cases_lt}
pub use Rattle.rk_inv_base.proofs.Words.{changed, close_taken, closed, closing, closing_entry, cluster_after, cluster_run, cluster_stepped}
pub use Rattle.rk_inv_base.proofs.Words.{cluster_visited, completions_from, cond-false, cond-true, coordinator_step, coordinator_turn, cut}
pub use Rattle.rk_inv_base.proofs.Words.{delivered, delivered_to, duties, end, eq_by_cmp, false≢true, filled, filter-append, filter_passes}
pub use Rattle.rk_inv_base.proofs.Words.{fits_with, found, freezing, frozen, get, get_or, get_other, get_same, going_on_in, grant_taken}
pub use Rattle.rk_inv_base.proofs.Words.{granted, granting, happened, has_crashed, hash_of, in_role, insert, is_added, is_asked_here}
pub use Rattle.rk_inv_base.proofs.Words.{is_backup, is_frozen, is_frozen_at, is_newer, is_noticed, is_receiving_at, is_sealed_stored}
pub use Rattle.rk_inv_base.proofs.Words.{is_settled, is_side_stored, is_token, is_whole, item_replayed, items_of, joined, joined_by}
pub use Rattle.rk_inv_base.proofs.Words.{joined_entry, joining_at, joining_by, known_length, known_of, lane_at, ledger_after, length-map}
pub use Rattle.rk_inv_base.proofs.Words.{length-map-range_with_len, limits_of, list_all, list_any, lives, log_bytes_of, losing, master_at}
pub use Rattle.rk_inv_base.proofs.Words.{master_step, master_turn, meets, new_cluster, new_master, new_session, new_world, newly_held}
pub use Rattle.rk_inv_base.proofs.Words.{next_reading, no_tablet, none-some, noting, numbered, option_map_or, option_or, or_left, or_right}
pub use Rattle.rk_inv_base.proofs.Words.{overreach, post_of, prepare_taken, preparing, pulled_all, pulled_taken, pulling_from, quietly}
pub use Rattle.rk_inv_base.proofs.Words.{range_with_len, reading_duty, ready, ready_again, refusal, replay, replay_one, role_closed, row_of}
pub use Rattle.rk_inv_base.proofs.Words.{same_number, sealed_sides, seen_in, segment_of, sending, sent_again, session_at, side_segments}
pub use Rattle.rk_inv_base.proofs.Words.{staged, step, stepped_by, stored_after, stored_taken, tablet_at, tablet_duty, tablet_in, taking}
pub use Rattle.rk_inv_base.proofs.Words.{token_passed, told_master, touches, transfer, turned, untouched, view, where_true, with_all}
pub use Rattle.rk_inv_base.proofs.Words.{with_appended, with_applied, with_ended, with_entry_item, with_handover, with_known, with_lane}
pub use Rattle.rk_inv_base.proofs.Words.{with_ledger, with_master, with_message, with_outstanding, with_pulled, with_pulling, with_sends}
pub use Rattle.rk_inv_base.proofs.Words.{with_session, with_side_segment, with_split, with_stored_by, with_tablet, without_merged}
pub use Rattle.rk_inv_base.proofs.Words.{worked_at, world_stepped, world_visited, worn}
pub use Rattle.rk_inv_base.proofs.rows.Serving.{found_stands}
pub use Rattle.rk_inv_base.proofs.views.Masters.{master_other, master_same}
pub use Rattle.rk_cluster.proofs.Leading.{run_on, runs_join}
pub use Rattle.rk_cluster.specs.Acted.{Acted, acted, all_acted, came_in, going_on, said_in, worn_in}
pub use Rattle.rk_cluster.specs.Codes.{code_where, first_code}
pub use Rattle.rk_cluster.specs.Delivering.{is_lost_at_backup}
pub use Rattle.rk_cluster.specs.Looks.{all_lanes, calls_asked, has_table, is_client, is_dead, is_master, is_tablet, lanes_without, rows_of}
pub use Rattle.rk_cluster.specs.Makes.{client_makes, deliver_in_makes, delivery, delivery_of, has_receiver, in_lane, in_lanes}
pub use Rattle.rk_cluster.specs.Numbers.{number_of}
pub use Rattle.rk_cluster.specs.Quiet.{has_applied_all, has_owners, is_owned_live, is_quiet, is_quiet_lane}
pub use Rattle.rk_cluster.specs.Replicas.{Fate, Kept}
pub use Rattle.rk_cluster.specs.Turns.{clients_in, is_call_in}
pub use Rattle.rk_cluster.specs.declared.code.Code.{Code}
pub use Rattle.rk_cluster.specs.declared.code.Code.TheVariants.{Crashed, Limit, TooLate, Unknown}
pub use Rattle.rk_settle.proofs.AtRest.{settled_rests}
pub use Rattle.rk_settle.proofs.Lossless.{IsWell, moved_well, well_other}
pub use Rattle.rk_settle.proofs.Occurred.{IsAllowed, IsNoCrash, came_is, move_is}
pub use Rattle.rk_settle.proofs.Unfolded.{NamesMasters, advance_are, priority_are, serve_are, settle_are}
pub use Rattle.rk_settle.specs.Advance.{advance, advance_tasks, coordinator_exchange, freeze_by, grant_task, log_round, reach_between}
pub use Rattle.rk_settle.specs.Advance.{reach_phase, reach_row, reach_tasks, reaches_to}
pub use Rattle.rk_settle.specs.Codes.{advance_code, priority_code, serve_code}
pub use Rattle.rk_settle.specs.Commanded.{SettlingCommand}
pub use Rattle.rk_settle.specs.Course.{Course, course_of, error_of, is_at_limit, moved, moved_all, moved_by, occurrence_error, occurring}
pub use Rattle.rk_settle.specs.Course.{occurring_by, with_tasks}
pub use Rattle.rk_settle.specs.Exchange.{hand_by, is_number_off, is_there, oldest_after, sent_after, sort_tasks}
pub use Rattle.rk_settle.specs.Lawful.{AreTasks}
pub use Rattle.rk_settle.specs.Priority.{hasten_phase, hasten_row, priority, wants_first}
pub use Rattle.rk_settle.specs.Reaches.{is_joining, is_short_of, is_source_frozen, is_target}
pub use Rattle.rk_settle.specs.Rest.{is_at_rest, is_silent}
pub use Rattle.rk_settle.specs.Serve.{ask_exchange, commit_tasks, hear_tasks, is_staged_by, request_by, serve, serve_by, try_tasks}
pub use Rattle.rk_settle.specs.Serve.{was_moved}
pub use Rattle.rk_settle.specs.Settle.{empty_by, lane_numbers, lane_tasks, notice_by, settle, turns_of, unnoticed}
pub use Rattle.rk_settle.specs.Tasks.{asks, forgets, round_of, takes_turn, turn_exchange}
pub use Rattle.rk_settle.specs.Topics.{is_on}
pub use Rattle.rk_settle.specs.Unfolding.{unfolded}
pub use Rattle.rk_settle.specs.declared.error.SettleError.{SettleError}
pub use Rattle.rk_types.specs.declared.reach.Reach.{Reach}
pub use Rattle.rk_types.specs.declared.reach.Reach.TheVariants.{Begun, Finished, Frozen, Granted, Joined, Pulled}
pub use Rattle.rk_play.specs.Effects.{Effect, Fails, Pauses, Refuses, Stop, Wears, carried, carried_by, effect, effect_within, is_full}
pub use Rattle.rk_play.specs.Effects.{only_fate, refused_by, settled, settled_by, shown, stop_of}
pub use Rattle.rk_play.specs.Played.{Played, Setting, behind, cluster_by, continued, faultless, first_commands, first_fates, how_many}
pub use Rattle.rk_play.specs.Played.{opened_by, other_fates, part_of, played_from, played_in, played_of, played_part, refused_at, set_once}
pub use Rattle.rk_play.specs.Played.{stopped_at, unset}
pub use Rattle.rk_play.specs.Shows.{dump_code, dump_text, where_code, where_text}
pub use Rattle.rk_inv_lanes.proofs.Headlines.{wire_counts, masters_in_order}
pub use Rattle.rk_inv_lanes.proofs.wires.Emptied.{taken_off_fewer}
pub use Rattle.rk_inv_lanes.specs.applied.CaughtUp.{AllCaughtUp}
pub use Rattle.rk_inv_lanes.specs.wires.Emptied.{Arrival, Delivers, Loses, arrived, deliveries_left, forgotten, taken_off}
pub use Rattle.rk_runs.proofs.duties.Adding.{added_after}
pub use Rattle.rk_runs.proofs.duties.Lanes.{EachLane, each_lane}
pub use Rattle.rk_runs.proofs.history.Clusters.{IsGood, IsGoodLane, lane_here}
pub use Rattle.rk_runs.proofs.history.Runs.{Lasts}
pub use Rattle.rk_runs.proofs.history.Staying.{lanes_stay}
pub use Rattle.rk_runs.specs.duties.Added.{AreAdded}
pub use Rattle.rk_runs.specs.duties.Owners.{AllNoticed, NoDeadOwner}
pub use Rattle.rk_scripts.specs.answers.Pieces.{Piece, piece_said, piece_text}
pub use Rattle.rk_scripts.specs.answers.Said.{is_reply_to, replies_to, said_along, told_by, told_to}
pub use Rattle.rk_scripts.specs.play.Historical.{IsHistorical}
pub use Rattle.rk_scripts.specs.settle.Moves.{Adversary, AlwaysEnds, Ends, EndsUnlessRefused, Rests, Stops, after_moves, settling}
pub use Rattle.rk_cluster.specs.Codes.{MOST_CALLS, call_code, client_code, crash_code}
pub use Rattle.rk_inv_wellformed.proofs.maps.Lists.{all_before, all_find}
pub use Rattle.rk_play.specs.Played.{all_fates, ending}
pub use Rattle.rk_world.specs.Refusals.{MOST_CLIENTS, address_fault, fault_of}
pub use Rattle.std.proofs.lemmas.Bool.{cond_both, eqb-false, lt-leb, or_parts}
pub use Rattle.std.proofs.lemmas.List.{get_or_past, map-append, replicate-append-replicate}
