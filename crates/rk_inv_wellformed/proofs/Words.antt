-- The definitions that most laws of well formed lanes cite, passed on from one place. Declares nothing.
pub use Rattle.std.proofs.lemmas.Bool.{and_parts, cases_eq, cases_lt, cond-false, cond-true, cond_both, eqb-false, or_right, cases_Bool}
pub use Rattle.std.proofs.lemmas.Bool.{or_left, not-false, not-true, or_from, or_parts, lt-ltb}
pub use Rattle.std.proofs.lemmas.Bool.Decides.{nat_tests}
pub use Rattle.std.proofs.lemmas.Grind.{flat_map-append}
pub use Rattle.std.proofs.lemmas.List.{get_or_past, length-map, length_push, map-append, set_past}
pub use Rattle.std.proofs.lemmas.List.Elements.{All-append, All-cons, All-contains, All-contains_itself, All-drop, All-filter}
pub use Rattle.std.proofs.lemmas.List.Elements.{All-from_recursion, All-get_or, All-head, All-map, All-nil, All-push, All-set, All-tail}
pub use Rattle.std.proofs.lemmas.List.Elements.{All-take, All-weaker, recursion_from_All, filter_passes, All-replicate}
pub use Rattle.std.proofs.lemmas.List.Elements.{Contains-append_cases, Contains-append_left, Contains-append_right, filter-append}
pub use Rattle.std.proofs.lemmas.List.Folds.{list_any-append, list_any_none, list_any_at}
pub use Rattle.std.proofs.lemmas.List.FromFn.{length-range_with_len}
pub use Rattle.std.proofs.lemmas.List.Sums.{sum-map, sum_by-append, sum_by-cons, sum_by-set}
pub use Rattle.std.proofs.lemmas.Map.Keys.{IsDistinct-cons}
pub use Rattle.std.specs.Cmp.{nat_eq_equiv, ranked, unsigned_tied, nat_cmp_total, nat_cmp_is}
pub use Rattle.std.specs.FinMap.Entries.{below_all, by_order, length-put}
pub use Rattle.std.specs.Int.{byte_len, Width, byte_at, bytes_high_first}
pub use Rattle.std.specs.List.{AllByRecursion, list_any, range_with_len, last_or, concat, position_or_len, list_all}
pub use Rattle.std.specs.Option.{option_or, option_map_or}
pub use Rattle.std.specs.Ordering.{eq_by_cmp, ordering_reverse}
pub use Rattle.std.specs.Prelude.{⊤}
pub use Rattle.rk_types.proofs.NumberMaps.{each_insert, each_less, each_weaker, get_other, get_same, in_order_changed, in_order_insert}
pub use Rattle.rk_types.proofs.NumberMaps.{in_order_remove, remove_less, same_number}
pub use Rattle.rk_types.specs.Hashing.{hash_of}
pub use Rattle.rk_types.specs.Held.{spelled_of}
pub use Rattle.rk_types.specs.NumberMap.{EachIn, IsInOrder, NumberMap, changed_each, get, get_or, insert, numbers, remove}
pub use Rattle.rk_types.specs.Range.{has, meets}
pub use Rattle.rk_types.specs.Text.{key_fault, value_fault, bad_byte, text_fault}
pub use Rattle.rk_types.specs.declared.call.Answer.{Answer}
pub use Rattle.rk_types.specs.declared.call.Call.{Call}
pub use Rattle.rk_types.specs.declared.call.End.{End}
pub use Rattle.rk_types.specs.declared.call.Ended.{Ended}
pub use Rattle.rk_types.specs.declared.call.Op.{Op}
pub use Rattle.rk_types.specs.declared.call.Outcome.{Outcome}
pub use Rattle.rk_types.specs.declared.hashing.TheConstants.{HASH_PRIME, HASH_START, LANES}
pub use Rattle.rk_types.specs.declared.held.Held.{Held}
pub use Rattle.rk_types.specs.declared.held.TheConstants.{SEGMENT_BYTES}
pub use Rattle.rk_types.specs.declared.held.Token.{Token}
pub use Rattle.rk_types.specs.declared.history.Placed.{Placed}
pub use Rattle.rk_types.specs.declared.lineage.Member.{Member}
pub use Rattle.rk_types.specs.declared.node.Node.{Node}
pub use Rattle.rk_types.specs.declared.range.Range.{Range}
pub use Rattle.rk_types.specs.declared.text.TheConstants.{LONGEST_KEY, LONGEST_VALUE, FIRST_TEXT_BYTE, LAST_TEXT_BYTE}
pub use Rattle.rk_outside.specs.Segments.{Segments, bytes_of}
pub use Rattle.rk_model.specs.Merged.{is_mutation}
pub use Rattle.rk_segment.specs.Segment.{NumberedBytes}
pub use Rattle.rk_entry.proofs.Sizes.{held_spelled, spelled_count}
pub use Rattle.rk_entry.proofs.TextLaws.{text_within}
pub use Rattle.rk_entry.specs.Ends.{IsLawfulEnd, IsLawfulOutcome, IsLawfulRange, RiseAbove}
pub use Rattle.rk_entry.specs.Entries.{entries_of, spelled_all}
pub use Rattle.rk_entry.specs.Kinds.{is_marked, kind_of}
pub use Rattle.rk_entry.specs.Lawful.{IsLawfulEntry, IsLawfulHeld}
pub use Rattle.rk_entry.specs.Lists.{is_among}
pub use Rattle.rk_entry.specs.Numbers.{IsNumber}
pub use Rattle.rk_entry.specs.Spelling.{spelled, mark_count, mark_bytes, fields_bytes, item_value_bytes}
pub use Rattle.rk_entry.specs.declared.entry.Entry.{Entry}
pub use Rattle.rk_entry.specs.declared.entry.Refused.{Refused}
pub use Rattle.rk_entry.specs.declared.lists.TheConstants.{FIRST_SIDE_SEGMENT}
pub use Rattle.rk_table.specs.Items.{found, is_newer, is_at, at_hash, is_live_in, is_in, with_newer, without}
pub use Rattle.rk_table.specs.Order.{IsInScanOrder, item_bucket, is_before}
pub use Rattle.rk_table.specs.Scans.{end, batch_at, batch_of, left, next_token, passed, rest_at, token_before, token_of}
pub use Rattle.rk_done.specs.Completions.{Completions, completions_from, ended_of, ends_of, noted, look, look_of, is_later}
pub use Rattle.rk_done.specs.declared.completion.Completion.{Completion}
pub use Rattle.rk_transfer.specs.Handover.{begun, closed, frozen, granted, in_role, joined, owned, prepared, released, role_carried}
pub use Rattle.rk_transfer.specs.Handover.{role_closed, role_frozen, role_granted, role_joined, role_owned, role_released}
pub use Rattle.rk_transfer.specs.declared.handover.Handover.{Handover}
pub use Rattle.rk_transfer.specs.declared.role.Role.{Role}
pub use Rattle.rk_tablet_map.proofs.Lawful.{number_of, IsNew, covered_split, lawful_placed, lawful_split, lawful_turned}
pub use Rattle.rk_tablet_map.specs.Phase.{member, lineage_of}
pub use Rattle.rk_tablet_map.specs.Rows.{IsTabletMap, Precedes, add_fault, changed_rows, is_covered, row_of, row_with, split_fault}
pub use Rattle.rk_tablet_map.specs.Rows.{split_rows, cut_fault, divided, is_split, lower_part, meets_any, placed, replaced, upper_part}
pub use Rattle.rk_tablet_map.specs.declared.phase.Phase.{Phase}
pub use Rattle.rk_tablet_map.specs.declared.phase.Phase.TheVariants.{Moving, Opening, Owned, Rebuilding}
pub use Rattle.rk_tablet_map.specs.declared.row.Row.{Row}
pub use Rattle.rk_priority.specs.Hashes.{Hashes, got, is_batch, no_hashes, batched, batched_by, is_known, wanting}
pub use Rattle.rk_overlay.proofs.Bridges.{newest_is}
pub use Rattle.rk_overlay.proofs.Overlays.{newest_items_are}
pub use Rattle.rk_overlay.specs.Overlay.{newest_items, item_cmp}
pub use Rattle.rk_log.specs.Cut.{cut, cut_after, has_room, in_last, last_of, with_bytes}
pub use Rattle.rk_log.specs.Known.{Known, nothing, is_whole, known_length}
pub use Rattle.rk_log.specs.Log.{Log, committed, known_of, numbered, overreach, pending, segment_bytes, segments, segment_of, missing}
pub use Rattle.rk_log.specs.Piece.{PlacedBytes}
pub use Rattle.rk_log.specs.declared.copied.TheConstants.{MOST_BACKUPS}
pub use Rattle.rk_log.specs.declared.overreach.Overreach.{Overreach}
pub use Rattle.rk_message.specs.Calls.{IsLawfulAnswer, IsLawfulOwner, IsLawfulReply, IsLawfulOp}
pub use Rattle.rk_message.specs.Fields.{IsLawfulTenure, IsLawfulToken, IsAnyRange}
pub use Rattle.rk_message.specs.Frames.{IsLawfulBody}
pub use Rattle.rk_message.specs.Wire.{Traffic, with_message, without_message}
pub use Rattle.rk_message.specs.declared.calls.Reply.{Reply}
pub use Rattle.rk_message.specs.declared.calls.Request.{Request}
pub use Rattle.rk_message.specs.declared.handover.Grant.{Grant}
pub use Rattle.rk_message.specs.declared.handover.Prepare.{Prepare}
pub use Rattle.rk_message.specs.declared.handover.Ready.{Ready}
pub use Rattle.rk_message.specs.declared.handover.Tenure.{Tenure}
pub use Rattle.rk_message.specs.declared.handover.Transfer.{Transfer}
pub use Rattle.rk_message.specs.declared.message.Body.{Body}
pub use Rattle.rk_message.specs.declared.message.Message.{Message}
pub use Rattle.rk_message.specs.declared.pulling.Got.{Got}
pub use Rattle.rk_message.specs.declared.pulling.Pull.{Pull}
pub use Rattle.rk_message.specs.declared.pulling.Pulled.{Pulled}
pub use Rattle.rk_message.specs.declared.pulling.Want.{Want}
pub use Rattle.rk_message.specs.declared.rebuilding.CopySegment.{CopySegment}
pub use Rattle.rk_message.specs.declared.rebuilding.ReadSegment.{ReadSegment}
pub use Rattle.rk_message.specs.declared.rebuilding.Rebuild.{Rebuild}
pub use Rattle.rk_message.specs.declared.rebuilding.Rebuilt.{Rebuilt}
pub use Rattle.rk_message.specs.declared.replication.Append.{Append}
pub use Rattle.rk_message.specs.declared.replication.Stored.{Stored}
pub use Rattle.rk_world.specs.Backup.{Appended, Backed, Called, append_step, backup_step, master_message, read_step, stored_after, Gave}
pub use Rattle.rk_world.specs.Backup.{common_front, copied}
pub use Rattle.rk_world.specs.Base.{Base}
pub use Rattle.rk_world.specs.Calls.{Visited, accept, accept_by, accepting, ask, ask_by, asking, asking_by, fits_with, is_asked_here}
pub use Rattle.rk_world.specs.Calls.{ledger_asked, ledger_requested, ledger_taken, untouched, is_asked, is_call, is_last, is_next}
pub use Rattle.rk_world.specs.Client.{ClientTurn, Session, call_lane, range_of, session_accept, session_turn, turn_by, busy, new_session}
pub use Rattle.rk_world.specs.Client.{next_call, session_calling, Accepted, turn_of, MOST_REQUESTS, accepted_by, accepted_of}
pub use Rattle.rk_world.specs.Client.{answer_accepted, done, has_call, located_accepted, looking_up, owned_range, ranges_in, receipt_of}
pub use Rattle.rk_world.specs.Client.{requesting, turn_to, with_range, without_range}
pub use Rattle.rk_world.specs.Commits.{apply_entries, apply_entry, newly_held, noting, stored_taken, with_applied, with_ended}
pub use Rattle.rk_world.specs.Commits.{with_entry_item, with_noted, ended_call, without_call}
pub use Rattle.rk_world.specs.Coordinator.{Coordinator, Handed, is_noticed, new_row, with_row, lowest_left, from_coordinator, owner_of}
pub use Rattle.rk_world.specs.Coordinator.{row_tenure, with_handed, with_phase}
pub use Rattle.rk_world.specs.CoordinatorStep.{Coordinated, about, coordinator_step, coordinator_turn, joined_in, located, question}
pub use Rattle.rk_world.specs.CoordinatorStep.{ready_in, rebuilt_in, report, row_duty, row_for, told_again, told_coordinator, transfer_in}
pub use Rattle.rk_world.specs.CoordinatorStep.{answered, at_term, own_to, release_to, unanswered}
pub use Rattle.rk_world.specs.Ends.{items_of, outcome_of, told, told_by, end_of_item, item_end, refusal_end, items_in}
pub use Rattle.rk_world.specs.Formed.{AreSideSegments, IsFormedCall, IsFormedCoordinator, IsFormedGathered, IsFormedHanded, IsFormedLast}
pub use Rattle.rk_world.specs.Formed.{IsFormedLedger, IsFormedMaster, IsFormedPulling, IsFormedRow, IsFormedSide, IsFormedTablet}
pub use Rattle.rk_world.specs.Formed.{IsFormedWire, IsWellFormed, MOST_BASE_CLIENTS, SomeLives, named_in, place_in, side_waits}
pub use Rattle.rk_world.specs.Formed.{side_waits_in, side_waits_of}
pub use Rattle.rk_world.specs.Gather.{Gather, Gathered, by_member, counted_of, gather_begun, is_awaited, is_of_lineage, main_entries}
pub use Rattle.rk_world.specs.Gather.{material_by, next_reading, side_read, unread, LAST_MAIN_SEGMENT, with_main, with_read, with_segment}
pub use Rattle.rk_world.specs.Gather.{next_of, next_segment, next_side, reading_of, counted}
pub use Rattle.rk_world.specs.Handovers.{given_up, is_greater, with_others_given_up, is_above}
pub use Rattle.rk_world.specs.Journal.{last_stamp, next_record, accepted_at, as_accepted, has_record, last_stamp_from, is_accepted}
pub use Rattle.rk_world.specs.Ledger.{Ledger, asked_by, is_added, seen_of, with_accepted, with_all_served, with_asked, with_client}
pub use Rattle.rk_world.specs.Ledger.{with_end, with_ends, with_rebuilt, with_record, with_served, with_end_of, with_marks, with_request}
pub use Rattle.rk_world.specs.Ledger.{without_marks}
pub use Rattle.rk_world.specs.Limits.{AreOfDistinctClients, IsClient, IsFormedBody, IsFormedCopy, IsFormedEnd, IsFormedEnds}
pub use Rattle.rk_world.specs.Limits.{IsFormedEntry, IsFormedGrant, IsFormedHeld, IsFormedMember, IsFormedMessage, IsFormedNumber}
pub use Rattle.rk_world.specs.Limits.{IsFormedRebuild, IsFormedTenure, IsThere, Limits, limits_of, IsFormedTransfer, base_clients}
pub use Rattle.rk_world.specs.Limits.{limits_at, IsFormedRequestOf, IsFormedRefused, IsFormedRequest}
pub use Rattle.rk_world.specs.Lineage.{own_member}
pub use Rattle.rk_world.specs.Master.{Master, is_settled, log_bytes, new_master, tablet_at, unsealed_bytes, with_all, with_appended}
pub use Rattle.rk_world.specs.Master.{with_item, with_known, with_side_segment, with_tablet, without_items, is_staged, serves_key}
pub use Rattle.rk_world.specs.Master.{serving, staged, with_call}
pub use Rattle.rk_world.specs.MasterStep.{backup_message, client_message, master_step, order, peer_message, told_master}
pub use Rattle.rk_world.specs.MasterTurn.{append_of, appends, duties, master_turn, pull_of, reading_duty, tablet_duty, want_of}
pub use Rattle.rk_world.specs.MasterTurn.{with_outstanding, append_to, rebuilt_duty, receiving_duty, tenure_at}
pub use Rattle.rk_world.specs.Material.{as_entries, material_of, named, side_entries, named_by, with_number}
pub use Rattle.rk_world.specs.Merge.{copies_of, ends_by_place, first_told, floor_by, floor_of, has_version, is_placed, merge, merged_ends}
pub use Rattle.rk_world.specs.Merge.{placed_ends, is_outrun_by, is_same_call}
pub use Rattle.rk_world.specs.Migrations.{tablet_migrated, migrating, row_migrated}
pub use Rattle.rk_world.specs.Notices.{coordinator_notice, is_named, next_rebuilder, notice_one, notice_order, phase_noticed, row_noticed}
pub use Rattle.rk_world.specs.Premises.{IsCached, IsLawfulCall, IsMaster, MOST_MASTERS, MayAct, MayCome, MayHappen, MayTurn, IsAfterStart}
pub use Rattle.rk_world.specs.Pulls.{batch_taken, got_taken, hashes_resolved, is_token, item_replayed, joining_at, joining_by, next_sides}
pub use Rattle.rk_world.specs.Pulls.{pulled_all, pulled_taken, replay, replay_one, sealing, token_passed, with_pulled, with_pulling}
pub use Rattle.rk_world.specs.Pulls.{pull_taken, want_taken}
pub use Rattle.rk_world.specs.Ranges.{has_key, range_below, range_from}
pub use Rattle.rk_world.specs.Refusals.{MOST_CLIENTS, WORN_NUMBER, accept_refusal, ask_refusal, comes_anyway, refusal, too_great}
pub use Rattle.rk_world.specs.Refusals.{where_true, worn, worn_session, WORN_BYTES, fault_of}
pub use Rattle.rk_world.specs.Replies.{filled, filled_body, filled_reply, place_of, reply_at, reply_with}
pub use Rattle.rk_world.specs.Requests.{call_of, choice_of, chosen, counted_up, item_of, refusal_of, request_taken, with_staged}
pub use Rattle.rk_world.specs.Requests.{with_wanted, state_of, version_of, write_staged, answering, choice_at, fresh_choice}
pub use Rattle.rk_world.specs.Requests.{mutation_choice, needs_state, operation, read_of, value_written}
pub use Rattle.rk_world.specs.RoleTests.{is_absent, is_frozen_at, is_gathering, is_receiving, is_receiving_at, is_frozen}
pub use Rattle.rk_world.specs.Room.{HasRoom, HasRoomIn, MOST_BYTES, MOST_NUMBER}
pub use Rattle.rk_world.specs.Runs.{Accepts, AllHaveRoom, Asks, Happening, Happens, IsCalm, IsCalmEvent, IsCalmHappening, MayAllOccur}
pub use Rattle.rk_world.specs.Runs.{MayOccur, after, run, world_stepped, IsFormedWithRoom, world_visited, lives_another}
pub use Rattle.rk_world.specs.SideLogs.{cut_items, sealed_sides, with_side_item}
pub use Rattle.rk_world.specs.Splits.{has_parts, owner_split, row_split, rows_split, tablet_split, with_half, with_halves, with_split}
pub use Rattle.rk_world.specs.Splits.{rows_split_of, tablet_split_fault, tablet_split_fault_by, tablet_split_fault_of, with_rows_split}
pub use Rattle.rk_world.specs.Step.{Stepped, backed_at, delivered, delivered_to, happened, ledger_after, log_bytes_of, losing, quietly}
pub use Rattle.rk_world.specs.Step.{seen_in, sent_again, stepped_by, tablet_added, turned, with_added, with_sends, worked_at}
pub use Rattle.rk_world.specs.Step.{to_coordinator, client_added}
pub use Rattle.rk_world.specs.Tablet.{Pulling, Tablet, no_tablet, pulling_from, with_handover, without_merged}
pub use Rattle.rk_world.specs.Waiting.{all_going_on, closing_entry, freezing, going_on_in, is_sealed_stored, joined_entry}
pub use Rattle.rk_world.specs.Waiting.{closing_appended}
pub use Rattle.rk_world.specs.Worked.{Worked, changed, from_master, sending, then_works}
pub use Rattle.rk_world.specs.World.{World, bytes_of_logs, counters_of, crashed_masters, greatest, has_crashed, is_backup, master_at}
pub use Rattle.rk_world.specs.World.{standing, with_all_sent, with_coordinator, with_crash, with_ledger, with_master, with_stored_by}
pub use Rattle.rk_world.specs.World.{with_top, with_wire, new_masters, new_world, lives}
pub use Rattle.rk_world.specs.declared.choice.Choice.{Choice}
pub use Rattle.rk_world.specs.declared.choice.Choice.TheVariants.{Redirects, Refuses, Wants, Writes, Repeats, Ignores, Reads}
pub use Rattle.rk_world.specs.declared.error.StepError.{StepError}
pub use Rattle.rk_world.specs.declared.event.Event.{Event}
pub use Rattle.rk_world.specs.declared.event.Taken.{Taken}
pub use Rattle.rk_world.specs.declared.ledger.LastCall.{LastCall}
pub use Rattle.rk_world.specs.declared.work.Merged.{Merged}
pub use Rattle.rk_world.specs.declared.work.Reading.{Reading}
pub use Rattle.rk_world.specs.declared.work.Served.{Served}
pub use Rattle.rk_inv_wellformed.specs.Brought.{LONGEST_LEFT, MOST_BROUGHT, brought, brought_by, copied_bytes}
pub use Rattle.rk_log.proofs.Cuts.{length-le-bytes, spelled_some, cut_filled}
pub use Rattle.rk_table.proofs.Changes.{order_live, order_after, order_without}
pub use Rattle.rk_log.proofs.CutLaws.{spelled_none, spelled_push}
