-- The definitions that most laws of the invariant cite, passed on from one place. Declares nothing.
pub use Rattle.std.proofs.Common.{All, AllPairs, Bool, Contains, IfSome, List, None, Option, Some, [], ap, append-nil, append_assoc, arith}
pub use Rattle.std.proofs.Common.{bytes_eq, cond, drop, eq-eqb, eqb, eqb-true, false, filter, find, flat_map, fold, get_or-set_other}
pub use Rattle.std.proofs.Common.{get_or-set_same, if◌then◌else◌, inl, inr, is_lt, is_some, le-leb, le-ltb, leb, leb-true, length}
pub use Rattle.std.proofs.Common.{length-append, length-drop, length-set, lt-ltb, ltb, ltb-true, map, max, nat_le, nat_lt, ne_eqb, not}
pub use Rattle.std.proofs.Common.{option_map, refl, replicate, set, slice_get, slice_index_or, slice_set, subst, suc, sym, take, true}
pub use Rattle.std.proofs.Common.{unwrap_or, zero, ℕ, ⊎_elim, ◌&&◌, ◌++◌, ◌+◌, ◌-◌, ◌<◌, ◌==◌, ◌^◌, ◌||◌, ◌∙◌, ◌∷◌, ◌≡◌, ◌≢◌, ◌≤◌, ◌⊎◌}
pub use Rattle.std.proofs.lemmas.Bool.{and_from, and_left, and_parts, and_right, both_ways, cases_Bool, cases_eq, cases_lt, cond-false}
pub use Rattle.std.proofs.lemmas.Bool.{cond-true, cond_both, false_from_ne_true, false≢true, or_cases, or_from, or_left, or_parts, or_right}
pub use Rattle.std.proofs.lemmas.Bool.{true_from_ne_false}
pub use Rattle.std.proofs.lemmas.Bool.Decides.{nat_tests}
pub use Rattle.std.proofs.lemmas.List.{drop-append-le, drop-take, drop_all, get_or_append_left, get_or_past, get_or_push, length-map}
pub use Rattle.std.proofs.lemmas.List.{map-append, take-append-le, length-replicate, take_all}
pub use Rattle.std.proofs.lemmas.List.Concat.{flat_map-append}
pub use Rattle.std.proofs.lemmas.List.Elements.{All-append, All-cons, All-contains, All-contains_itself, All-drop, All-filter}
pub use Rattle.std.proofs.lemmas.List.Elements.{All-from_recursion, All-head, All-map, All-nil, All-push, All-tail, All-take, All-weaker}
pub use Rattle.std.proofs.lemmas.List.Elements.{Contains-append_cases, Contains-append_left, Contains-append_right, Contains-get_or}
pub use Rattle.std.proofs.lemmas.List.Elements.{Contains-push, Contains-push_cases, filter-append, filter_passes, recursion_from_All}
pub use Rattle.std.proofs.lemmas.List.Folds.{Any-from_list_any, find-append, list_any-append, list_any_at, list_any_none}
pub use Rattle.std.proofs.lemmas.List.FromFn.{length-map-range_with_len}
pub use Rattle.std.proofs.lemmas.List.Sums.{fold-append, prefix_len-le-length, sum-map, sum_by-append, sum_by-cons, prefix_len_passes}
pub use Rattle.std.proofs.lemmas.Option.{IfSome_then, get_or_from_slice_get, none-some, slice_get-get_or, slice_get_within}
pub use Rattle.std.proofs.lemmas.Slice.Eq.{bytes_eq-Decides}
pub use Rattle.std.specs.Cmp.{ranked, unsigned_tied}
pub use Rattle.std.specs.FinMap.Entries.{by_order}
pub use Rattle.std.specs.List.{list_all, list_any, prefix_len, range_with_len}
pub use Rattle.std.specs.List.Sorted.{IsStrictlySortedBy}
pub use Rattle.std.specs.Option.{option_map_or, option_or}
pub use Rattle.std.specs.Ordering.{eq_by_cmp, ordering_reverse}
pub use Rattle.std.specs.Prelude.{⊤}
pub use Rattle.std.specs.declared.cmp.Ordering.{Ordering}
pub use Rattle.std.specs.declared.cmp.Ordering.TheVariants.{Equal, Greater, Less}
pub use Rattle.rk_types.proofs.NumberMaps.{each_insert, each_weaker, get_other, get_same, remove_less, same_number}
pub use Rattle.rk_types.specs.Hashing.{hash_of}
pub use Rattle.rk_types.specs.Held.{spelled_of}
pub use Rattle.rk_types.specs.NumberMap.{EachIn, IsInOrder, NumberMap, get, get_or, insert, remove}
pub use Rattle.rk_types.specs.Range.{has, meets}
pub use Rattle.rk_types.specs.declared.call.Answer.{Answer}
pub use Rattle.rk_types.specs.declared.call.Call.{Call}
pub use Rattle.rk_types.specs.declared.call.End.{End}
pub use Rattle.rk_types.specs.declared.call.Ended.{Ended}
pub use Rattle.rk_types.specs.declared.call.Op.{Op}
pub use Rattle.rk_types.specs.declared.call.Outcome.{Outcome}
pub use Rattle.rk_types.specs.declared.hashing.TheConstants.{LANES}
pub use Rattle.rk_types.specs.declared.held.Held.{Held}
pub use Rattle.rk_types.specs.declared.held.Token.{Token}
pub use Rattle.rk_types.specs.declared.history.Placed.{Placed}
pub use Rattle.rk_types.specs.declared.history.Receipt.{Receipt}
pub use Rattle.rk_types.specs.declared.lineage.Member.{Member}
pub use Rattle.rk_types.specs.declared.node.Node.{Node}
pub use Rattle.rk_types.specs.declared.range.Range.{Range}
pub use Rattle.rk_outside.specs.Segments.{Segments, with_part}
pub use Rattle.rk_model.proofs.Histories.{IsLegal-append, legal_back, legal_push, map_after-append}
pub use Rattle.rk_model.proofs.Keys.{is_at_parts, name-swap}
pub use Rattle.rk_model.proofs.Places.{slice_get_front, slice_get_push_cases, slice_get_end}
pub use Rattle.rk_model.specs.History.{IsLegal, Map, is_at, live_after, map_after, map_with, with_change, empty_map}
pub use Rattle.rk_model.specs.Machine.{Allowed, change_of, last_version, never}
pub use Rattle.rk_model.specs.Merged.{HasOwnKeys, IsRisingAbove, is_mutation, journal_of, lane_of_key}
pub use Rattle.rk_model.specs.Ordered.{Answered, AreOneMutation}
pub use Rattle.rk_model.specs.declared.line.Line.{Line}
pub use Rattle.rk_segment.specs.Segment.{NumberedBytes}
pub use Rattle.rk_entry.proofs.StandLaws.{all_again}
pub use Rattle.rk_entry.specs.Entries.{entries_of, spelled_all}
pub use Rattle.rk_entry.specs.Lawful.{IsLawfulEntry, IsLawfulHeld}
pub use Rattle.rk_entry.specs.Lists.{is_among}
pub use Rattle.rk_entry.specs.Spelling.{spelled}
pub use Rattle.rk_entry.specs.declared.entry.Carried.{Carried}
pub use Rattle.rk_entry.specs.declared.entry.Entry.{Entry}
pub use Rattle.rk_entry.specs.declared.entry.Joined.{Joined}
pub use Rattle.rk_entry.specs.declared.lists.TheConstants.{FIRST_SIDE_SEGMENT}
pub use Rattle.rk_table.proofs.Changes.{order_after, order_without, same_older}
pub use Rattle.rk_table.proofs.Ordered.{filter_kept, filter_left_out}
pub use Rattle.rk_table.specs.Items.{at_hash, found, is_in, is_newer, with_item, with_newer, without}
pub use Rattle.rk_table.specs.Order.{IsInScanOrder, is_before, item_cmp, item_hash, item_place}
pub use Rattle.rk_table.specs.Scans.{batch_at, end, next_token, passed}
pub use Rattle.rk_done.specs.Completions.{Completions, completions_from, ended_of, ends_of, is_later, look, noted}
pub use Rattle.rk_done.specs.declared.completion.Completion.{Completion}
pub use Rattle.rk_transfer.specs.Handover.{carried, closed, frozen, granted, in_role, is_serving, joined, owned, prepared, rebuilt}
pub use Rattle.rk_transfer.specs.Handover.{released, role_closed}
pub use Rattle.rk_transfer.specs.declared.handover.Handover.{Handover}
pub use Rattle.rk_transfer.specs.declared.role.Role.{Role}
pub use Rattle.rk_tablet_map.proofs.Lawful.{lawful_turned, number_of, lawful_placed}
pub use Rattle.rk_tablet_map.specs.Phase.{lineage_of, member}
pub use Rattle.rk_tablet_map.specs.Rows.{IsTabletMap, Precedes, add_fault, changed_rows, divided, is_covered, is_split, lower_part, placed}
pub use Rattle.rk_tablet_map.specs.Rows.{replaced, row_of, row_with, upper_part, meets_any}
pub use Rattle.rk_tablet_map.specs.declared.phase.Phase.{Phase}
pub use Rattle.rk_tablet_map.specs.declared.phase.Phase.TheVariants.{Moving, Opening, Owned, Rebuilding}
pub use Rattle.rk_tablet_map.specs.declared.row.Row.{Row}
pub use Rattle.rk_priority.specs.Hashes.{Hashes, contains, got, is_batch, batched, batched_by, wanting}
pub use Rattle.rk_overlay.proofs.Bridges.{newest_found, newest_is, newest_none}
pub use Rattle.rk_overlay.proofs.Folds.{newer_item, newest_from-append, with_newer_here, with_newer_other}
pub use Rattle.rk_overlay.proofs.Members.{behind_stands, first_stands, none_stands, stands_cases}
pub use Rattle.rk_overlay.proofs.Names.{is_of_from, is_of_parts}
pub use Rattle.rk_overlay.proofs.Overlays.{newest_items_are, newest_own}
pub use Rattle.rk_overlay.specs.Live.{live, record_of}
pub use Rattle.rk_overlay.specs.Newest.{is_of, newest, none_found}
pub use Rattle.rk_overlay.specs.Overlay.{newest_items}
pub use Rattle.rk_overlay.specs.Plain.{IsPlain}
pub use Rattle.rk_log.proofs.Cuts.{cut_filled, cut_push, length-ends, room_some, AreFilled, ends_push, filled_with, length-le-bytes}
pub use Rattle.rk_log.proofs.Cuts.{some_segments, spelled_some}
pub use Rattle.rk_log.proofs.KnownLaws.{told_other, told_more}
pub use Rattle.rk_log.proofs.Prefixes.{list_all_each, list_all-set, prefix_len_push_le, prefix_len_weaker}
pub use Rattle.rk_log.specs.Cut.{cut, end_of, ends, ends_after, has_room, in_last, with_bytes}
pub use Rattle.rk_log.specs.Known.{Known, is_whole, known_length, nothing}
pub use Rattle.rk_log.specs.Log.{IsBackup, Log, bytes_of, committed, is_held, is_side_stored, known_of, numbered, overreach, pending}
pub use Rattle.rk_log.specs.Log.{segment_of, side_segments, with_entry, new_log, segment_bytes, with_told}
pub use Rattle.rk_log.specs.Piece.{PlacedBytes}
pub use Rattle.rk_log.specs.declared.copied.TheConstants.{MOST_BACKUPS}
pub use Rattle.rk_log.specs.declared.ends.EntryEnd.{EntryEnd}
pub use Rattle.rk_log.specs.declared.overreach.Overreach.{Overreach}
pub use Rattle.rk_pull.specs.declared.batches.TheConstants.{BATCH_BYTES}
pub use Rattle.rk_message.specs.Wire.{Traffic, with_message}
pub use Rattle.rk_message.specs.declared.calls.Located.{Located}
pub use Rattle.rk_message.specs.declared.calls.Reply.{Reply}
pub use Rattle.rk_message.specs.declared.calls.Request.{Request}
pub use Rattle.rk_message.specs.declared.handover.Grant.{Grant}
pub use Rattle.rk_message.specs.declared.handover.Prepare.{Prepare}
pub use Rattle.rk_message.specs.declared.handover.Ready.{Ready}
pub use Rattle.rk_message.specs.declared.handover.Tenure.{Tenure}
pub use Rattle.rk_message.specs.declared.handover.Transfer.{Transfer}
pub use Rattle.rk_message.specs.declared.message.Body.{Body}
pub use Rattle.rk_message.specs.declared.message.Message.{Message}
pub use Rattle.rk_message.specs.declared.pulling.Got.{Got}
pub use Rattle.rk_message.specs.declared.pulling.Pull.{Pull}
pub use Rattle.rk_message.specs.declared.pulling.Pulled.{Pulled}
pub use Rattle.rk_message.specs.declared.pulling.Want.{Want}
pub use Rattle.rk_message.specs.declared.rebuilding.CopySegment.{CopySegment}
pub use Rattle.rk_message.specs.declared.rebuilding.ReadSegment.{ReadSegment}
pub use Rattle.rk_message.specs.declared.rebuilding.Rebuild.{Rebuild}
pub use Rattle.rk_message.specs.declared.rebuilding.Rebuilt.{Rebuilt}
pub use Rattle.rk_message.specs.declared.replication.Append.{Append}
pub use Rattle.rk_message.specs.declared.replication.Stored.{Stored}
pub use Rattle.rk_world.specs.Backup.{Appended, Backed, Called, Failed, Gave, backup_step, no_segments, stored_after, with_more}
pub use Rattle.rk_world.specs.Backup.{with_stored}
pub use Rattle.rk_world.specs.Base.{Base, base_map, ends_told, map_entry_of, no_base, base_entries, newest_entry}
pub use Rattle.rk_world.specs.Calls.{Visited, accept, accept_by, accepting, ask, ask_by, asking, asking_by, fits_with, is_asked}
pub use Rattle.rk_world.specs.Calls.{is_asked_here, is_call, is_last, ledger_asked, ledger_requested, ledger_taken, taking, untouched}
pub use Rattle.rk_world.specs.Client.{ClientTurn, Session, call_lane, new_session, session_turn, turn_of}
pub use Rattle.rk_world.specs.Cluster.{Accepts, Asks, Calls, Cluster, Happens, Joins, Occurrence, called_by_client, cluster_after}
pub use Rattle.rk_world.specs.Cluster.{cluster_run, cluster_stepped, cluster_visited, joined_by, lane_at, new_cluster, session_at}
pub use Rattle.rk_world.specs.Cluster.{with_lane, with_session}
pub use Rattle.rk_world.specs.ClusterRuns.{IsRun}
pub use Rattle.rk_world.specs.Commits.{apply_entries, apply_entry, newly_held, noting, stored_taken, told_length, with_applied, with_ended}
pub use Rattle.rk_world.specs.Commits.{with_entry_item}
pub use Rattle.rk_world.specs.Coordinator.{Coordinator, Handed, is_noticed, new_row, row_tenure, lowest_left}
pub use Rattle.rk_world.specs.CoordinatorStep.{Coordinated, about, answered, at_term, coordinator_step, coordinator_turn, joined_in}
pub use Rattle.rk_world.specs.CoordinatorStep.{located, own_to, place_noted, question, ready_in, rebuilt_in, release_to, report, row_duty}
pub use Rattle.rk_world.specs.CoordinatorStep.{row_for, row_moved, row_owned, told_again, told_coordinator, transfer_in, unanswered}
pub use Rattle.rk_world.specs.Ends.{end_of_item, item_end, items_in, items_of, outcome_of, refusal_end, told, told_by}
pub use Rattle.rk_world.specs.Formed.{IsFormedGathered, IsFormedMaster, IsFormedRow, IsWellFormed}
pub use Rattle.rk_world.specs.Gather.{Gather, Gathered, LAST_MAIN_SEGMENT, by_member, counted_of, is_awaited, is_of_lineage, material_by}
pub use Rattle.rk_world.specs.Gather.{next_of, next_reading, next_segment, no_gather, reading_of, side_read, next_side, with_main}
pub use Rattle.rk_world.specs.Gather.{with_read, with_segment}
pub use Rattle.rk_world.specs.Handovers.{carried_entry, close_taken, closing, given_up, grant_taken, granting, is_greater, own_taken}
pub use Rattle.rk_world.specs.Handovers.{owning, prepare_taken, preparing, ready, ready_again, release_taken, releasing, tablet_closed}
pub use Rattle.rk_world.specs.Handovers.{tablet_prepared, transfer, transferring, with_move, with_others_given_up, tablet_released}
pub use Rattle.rk_world.specs.Journal.{accepted_at, as_accepted, has_record, is_accepted, is_of_call, is_of_mutation, next_record}
pub use Rattle.rk_world.specs.Journal.{last_stamp_from}
pub use Rattle.rk_world.specs.Justified.{MayAnswerMoved}
pub use Rattle.rk_world.specs.Ledger.{Ledger, asked_by, is_added, marks_of, seen_of, with_all_served, with_asked, with_client, with_ends}
pub use Rattle.rk_world.specs.Ledger.{with_marks, with_mutation, with_rebuilt, with_record}
pub use Rattle.rk_world.specs.Limits.{IsFormedEntry, IsFormedHeld, Limits, limits_of}
pub use Rattle.rk_world.specs.Lineage.{first_of, is_member, last_of, own_member, second_of}
pub use Rattle.rk_world.specs.Marks.{is_mark_of, is_marked, unmarked, unmarked_from}
pub use Rattle.rk_world.specs.Master.{Master, is_settled, log_bytes, new_master, serving, staged, tablet_at, touches, with_all}
pub use Rattle.rk_world.specs.Master.{with_appended, with_known, with_side_segment, with_tablet, without_items}
pub use Rattle.rk_world.specs.MasterStep.{backup_message, client_message, master_step, order, peer_message, told_master}
pub use Rattle.rk_world.specs.MasterTurn.{append_of, appends, duties, master_turn, reading_duty, tablet_duty, with_outstanding}
pub use Rattle.rk_world.specs.Material.{as_entries, counting, counts, is_joined_in, joined_from, log_material, material_of, named, named_by}
pub use Rattle.rk_world.specs.Material.{of_key, side_entries, tells_of, with_number}
pub use Rattle.rk_world.specs.Merge.{copies_of, ends_by_place, first_told, floor_by, floor_of, has_version, is_outrun_by, is_placed, merge}
pub use Rattle.rk_world.specs.Merge.{merged_ends, placed_ends}
pub use Rattle.rk_world.specs.Migrations.{migrating, row_migrated, tablet_migrated}
pub use Rattle.rk_world.specs.Notices.{coordinator_notice, names, notice_one, notice_order, phase_noticed, row_noticed, next_rebuilder}
pub use Rattle.rk_world.specs.Premises.{IsAfterStart, IsMaster, MOST_MASTERS, MayAct, MayHappen}
pub use Rattle.rk_world.specs.Pulls.{batch_taken, got_taken, hashes_resolved, is_token, item_replayed, joining_at, joining_by, next_sides}
pub use Rattle.rk_world.specs.Pulls.{pull_taken, pulled_all, pulled_taken, replay, replay_one, sealing, token_passed, want_taken}
pub use Rattle.rk_world.specs.Pulls.{with_pulled, with_pulling}
pub use Rattle.rk_world.specs.Ranges.{AgreeIn, has_all, has_key, range_below, range_from}
pub use Rattle.rk_world.specs.Rebuilds.{beginning, begun_from, copy_taken, merging, own_material, own_place, rebuild_begun, rebuild_goes_on}
pub use Rattle.rk_world.specs.Rebuilds.{rebuild_merged, rebuild_taken, rebuilding_on, rebuilt_entry, segment_gathered, with_begun}
pub use Rattle.rk_world.specs.Rebuilds.{with_gathered, with_merged, without_foreign}
pub use Rattle.rk_world.specs.Refusals.{accept_refusal, ask_refusal, fault_of, refusal, where_true, worn}
pub use Rattle.rk_world.specs.Replicas.{AllTell}
pub use Rattle.rk_world.specs.Replies.{filled, place_of, reply_at, reply_with}
pub use Rattle.rk_world.specs.Requests.{answering, call_of, choice_of, chosen, counted_up, fresh_choice, is_known, item_of, needs_state}
pub use Rattle.rk_world.specs.Requests.{operation, refusal_of, request_taken, state_of, version_of, with_staged, refusal_staged}
pub use Rattle.rk_world.specs.Requests.{value_written, write_staged}
pub use Rattle.rk_world.specs.RoleTests.{is_absent, is_frozen, is_frozen_at, is_gathering, is_idle, is_rebuilding, is_receiving}
pub use Rattle.rk_world.specs.RoleTests.{is_receiving_at, may_have_staged}
pub use Rattle.rk_world.specs.Room.{HasRoom, MOST_BYTES}
pub use Rattle.rk_world.specs.Runs.{world_stepped, world_visited}
pub use Rattle.rk_world.specs.SideLogs.{sealed_sides}
pub use Rattle.rk_world.specs.Splits.{has_parts, owner_split, row_split, rows_split, rows_split_of, with_half, with_halves, with_split}
pub use Rattle.rk_world.specs.Step.{Stepped, backed_at, client_added, delivered, delivered_to, happened, ledger_after, log_bytes_of, losing}
pub use Rattle.rk_world.specs.Step.{quietly, seen_in, sent_again, step, stepped_by, to_backup, to_coordinator, to_master, turned}
pub use Rattle.rk_world.specs.Step.{with_added, with_sends, worked_at, tablet_added}
pub use Rattle.rk_world.specs.Tablet.{Pulling, Tablet, no_tablet, pulling_from, with_handover, without_merged}
pub use Rattle.rk_world.specs.Waiting.{all_going_on, closing_appended, closing_entry, freezing, going_on_in, is_sealed_stored, joined_entry}
pub use Rattle.rk_world.specs.Waiting.{tablet_frozen}
pub use Rattle.rk_world.specs.Worked.{Worked, changed, from_master, sending}
pub use Rattle.rk_world.specs.World.{World, backup_at, bytes_of_logs, crashed_masters, has_crashed, is_backup, lives, log_in, master_at}
pub use Rattle.rk_world.specs.World.{new_world, tablet_in, with_all_sent, with_coordinator, with_ledger, with_master, with_stored_by}
pub use Rattle.rk_world.specs.World.{written_in, new_masters, records_in, standing}
pub use Rattle.rk_world.specs.Written.{Written, applied_entries, lineage_rest, lineage_truth, member_material, member_rest, member_truth}
pub use Rattle.rk_world.specs.Written.{rest_of, written_by, truth_of}
pub use Rattle.rk_world.specs.declared.choice.Choice.{Choice}
pub use Rattle.rk_world.specs.declared.choice.Choice.TheVariants.{Ignores, Reads, Redirects, Refuses, Repeats, Wants, Writes}
pub use Rattle.rk_world.specs.declared.error.StepError.{StepError}
pub use Rattle.rk_world.specs.declared.event.Event.{Event}
pub use Rattle.rk_world.specs.declared.ledger.LastCall.{LastCall}
pub use Rattle.rk_world.specs.declared.work.Mark.{Mark}
pub use Rattle.rk_world.specs.declared.work.Merged.{Merged}
pub use Rattle.rk_world.specs.declared.work.Reading.{Reading}
pub use Rattle.rk_world.specs.declared.work.Served.{Served}
pub use Rattle.rk_sound.specs.Asked.{AreOneAccepted, HasSeen, IsAccepted, IsLastCall, IsRequest, RequestFits, RequestSays, WasAsked, Asked}
pub use Rattle.rk_sound.specs.Calls.{AreHandedOver, IsKnown, IsReached, IsRecorded, IsStagedEnd, ReachAll, Reaches, TellAll, is_record_in}
pub use Rattle.rk_sound.specs.Calls.{IsRecordOf}
pub use Rattle.rk_sound.specs.Changes.{HasSegmentLeft, IsServedIn, MayAccept, MayAppend, MayApply, MaySend, refused_as, IsServed, MayAsk}
pub use Rattle.rk_sound.specs.Changes.{MayCome, MayEnd, MayRead, MayRefuse, MaySave, MayStage, MayStore, MayTell}
pub use Rattle.rk_sound.specs.Counters.{AreAboveMap, IsNext}
pub use Rattle.rk_sound.specs.Cover.{HasWholeRows, IsEntryWithin, IsItemWithin, IsOfWholeRows, IsWithinRows, Cover}
pub use Rattle.rk_sound.specs.Handing.{beginning_in, handed_by, handed_for_grant, is_opening, is_waiting, is_waiting_at, is_wanting}
pub use Rattle.rk_sound.specs.Handing.{second_has, target_truth}
pub use Rattle.rk_sound.specs.Logs.{IsCopy, IsFirstPart, IsFromLog, IsKnownBefore, IsLog, LogSays, Logs, is_main, segments_in, stored_of}
pub use Rattle.rk_sound.specs.Messages.{AfterMove, AnswerFits, AskAgrees, AsksFor, ByMaster, CloseFits, CopyIn, GotAgrees, GrantAgrees}
pub use Rattle.rk_sound.specs.Messages.{GrantIn, HasJoined, HasLineage, HasRebuilt, HasSource, IfMaster, IsClosing, IsFromSource}
pub use Rattle.rk_sound.specs.Messages.{IsMovingOrOwned, IsOf, IsOfTarget, IsOnlyRebuilder, IsOwnedBy, IsOwnedByOther, IsOwner, IsRebuiltBy}
pub use Rattle.rk_sound.specs.Messages.{IsRecordAt, JoinedIn, OwnFits, PrepareFits, PulledAgrees, ReadIn, ReadyIn, RebuildFits, RebuiltIn}
pub use Rattle.rk_sound.specs.Messages.{ReleaseFits, Says, SaysOf, TransferIn, IsFrozenSource, MayFollowClose, ReplyFits}
pub use Rattle.rk_sound.specs.Moves.{GoesOn, HasSome, IsAboveKept, IsPulling, IsSettledIn, MayRelease, MayTakeJoined, MayTakePost}
pub use Rattle.rk_sound.specs.Moves.{MayTakeRebuilt, MayTakeRole, MayTurn, row_at, source_items, GathersOn, HasSomeIn, IsClosed, MayAdd}
pub use Rattle.rk_sound.specs.Moves.{MayClose, MayFreeze, MayGather, MayGatherOn, MayGoOn, MayJoin, MayMigrate, MayNote, MayNotice, MayOwn}
pub use Rattle.rk_sound.specs.Moves.{MayPass, MayReplay, MayResolve, MayRise, OpensOn, is_steady}
pub use Rattle.rk_sound.specs.Order.{AreAbove, IsAboveAll}
pub use Rattle.rk_sound.specs.Posts.{Bystander, FirstRebuilder, FormerMember, Holds, InvitedTarget, LastRebuilder, MovingSource}
pub use Rattle.rk_sound.specs.Posts.{MovingTarget, OnlyRebuilder, OpeningSource, OutsideRebuilder, Owner, Post, ReadyTarget, StillCounts}
pub use Rattle.rk_sound.specs.Posts.{bond_of, post_of, rebuilder_post, speaks, target_post}
pub use Rattle.rk_sound.specs.Rebuilds.{AreRead, HasOwnRange, IsGathered, IsMergedOf, IsOfRange, IsPieceOf, IsReadPart, IsRebuildTable}
pub use Rattle.rk_sound.specs.Rebuilds.{IsRebuilder, MarkFits, MarkedFit, NeededOf, NeedsEnd, READ_BACKUP, RowIsRebuilt, StandsLast}
pub use Rattle.rk_sound.specs.Rebuilds.{TellNoMore, TellsMore, applied_from, closing_carried, given_up_marks, has_merged, marked_entries}
pub use Rattle.rk_sound.specs.Rebuilds.{member_given_up, member_marked, member_stored, merged_place, stored_count, AreGathered, HasItemMore}
pub use Rattle.rk_sound.specs.Rebuilds.{IsGatherOf, IsNeeded, TellsEndMore}
pub use Rattle.rk_sound.specs.Receives.{HandedFits, HasArrived, HasClosing, IsBare, IsFound, IsHandedBy, IsOutdone, IsReceived, IsTarget}
pub use Rattle.rk_sound.specs.Receives.{MembersFit, NamedFit, before_closing, beginning_of, closing_joined, copied_items, entries_from}
pub use Rattle.rk_sound.specs.Receives.{is_granted, is_joining, joined_place, named_items, scan_items, wanted_place, HasCome}
pub use Rattle.rk_sound.specs.Rest.{EachHasCall, FirstIsDone, IsDone, IsEntryOf, IsLast, IsLastAsked, IsRest, IsStaged, OnlyIsUnnamed}
pub use Rattle.rk_sound.specs.Rest.{Waits, call_end, call_ends, is_call_entry, record_of_last, records_of}
pub use Rattle.rk_sound.specs.Roles.{KeepTerm, RoleFits, Roles}
pub use Rattle.rk_sound.specs.Rows.{AreApart, IsFormed, IsPlaced, Rows}
pub use Rattle.rk_sound.specs.Small.{as_closed, as_frozen, put, put2, role_taken, segment_gathered_in, with_counter, with_one_more}
pub use Rattle.rk_sound.specs.Small.{accepted, added, appended, as_added, as_closing, as_released, as_serving, asking_batch, batch_asked_in}
pub use Rattle.rk_sound.specs.Small.{bytes_stored_in, call_asked, call_asked_in, client_come, closed_off, closing_appended_in}
pub use Rattle.rk_sound.specs.Small.{crash_noticed_in, gathered, gone_on, hash_wanted_in, hashes_resolved_in, item_replayed_in}
pub use Rattle.rk_sound.specs.Small.{items_dropped, length_told, length_told_in, message_forgotten, message_sent, migration_begun_in}
pub use Rattle.rk_sound.specs.Small.{passing, place_noted_in, pulled, reading, record_accepted_in, recorded, recorded_in, refusal_staged_in}
pub use Rattle.rk_sound.specs.Small.{refused, replayed, request_saved, resolving, stored_more, tablet_closed_in, tablet_frozen_in}
pub use Rattle.rk_sound.specs.Small.{tablet_owned_in, tablet_released_in, token_passed_in, wanting_hash, write_staged_in}
pub use Rattle.rk_sound.specs.Tables.{HasItems, IsTableOf, has_all_items}
pub use Rattle.rk_sound.specs.Things.{CountsFor, IsNextOf, SaysIn, SoundRow, SoundTablet, SoundThings, SpeaksFor}
pub use Rattle.rk_sound.specs.Terms.{HandoverFits, IsBelowOthers, IsWithinTerm, SentFits, range_in, tenure_in, Terms}
pub use Rattle.rk_sound.specs.Truth.{IsAfterSeen, IsTruth}
pub use Rattle.rk_sound.specs.View.{View, rests, tablet_seen, truths, view}
pub use Rattle.rk_sound.specs.Whole.{AskedOf, CallsOf, CountersOf, CoverOf, IsSound, LogsOf, MessagesOf, NodesOf, OrderOf, RebuildsOf}
pub use Rattle.rk_sound.specs.Whole.{ReceivesOf, RestOf, RolesOf, RowsOf, SoundParts, SoundView, TablesOf, TermsOf, TruthOf}
pub use Rattle.rk_sound.specs.Nodes.{SomeLives}
pub use Rattle.std.proofs.lemmas.List.Quantifiers.{all_pairs_push}
pub use Rattle.rk_table.proofs.Found.{at_from_tie, not_at_before}
pub use Rattle.rk_table.proofs.InOrder.{place_total}
pub use Rattle.rk_model.proofs.Between.{unkept_changes_nothing}
pub use Rattle.rk_entry.specs.declared.entry.Refused.{Refused}
pub use Rattle.rk_log.proofs.LogLaws.{committed_entry, committed_held, committed_told}
pub use Rattle.rk_sound.specs.Room.{AreAtMost, numbers_of, numbers_told}
pub use Rattle.rk_world.proofs.Scene.{Delivers, Does, Scene, played}
