-- What several files of this crate cite of the crates below it, beside the words of `rk_inv_base`, passed on. Declares nothing.
pub use Rattle.std.proofs.lemmas.Bool.{not-false, not-true}
pub use Rattle.std.proofs.lemmas.List.{length_push}
pub use Rattle.std.specs.List.{position_or_len}
pub use Rattle.rk_table.proofs.Tokens.{law_passed, law_whole, left_in_two}
pub use Rattle.rk_table.specs.Items.{is_live_in, live_in}
pub use Rattle.rk_table.specs.Order.{item_bucket, item_cmp}
pub use Rattle.rk_table.specs.Scans.{before_bucket, left, of_bucket, rest_at}
pub use Rattle.rk_transfer.specs.Handover.{role_carried, role_frozen, role_granted, role_joined, role_owned, role_released}
pub use Rattle.rk_log.specs.Log.{missing, segment_bytes}
pub use Rattle.rk_world.specs.Formed.{IsFormedSide, side_waits, side_waits_in, side_waits_of}
pub use Rattle.rk_world.specs.Handovers.{is_above, tablet_granted, tablet_owned, tablet_released}
pub use Rattle.rk_world.specs.Ledger.{with_served, without_marks}
pub use Rattle.rk_world.specs.Master.{is_staged, serves_key}
pub use Rattle.rk_world.specs.Replies.{was_read}
pub use Rattle.rk_world.specs.Step.{tablet_added, told_for, told_to}
pub use Rattle.rk_sound.specs.Changes.{IsServed, MayAsk, MayEndIn, MayRead, MayStore, next_version}
pub use Rattle.rk_sound.specs.Moves.{HasSomeIn, IsClosed, IsThere, IsWaitingFor, MayAdd, MayBegin, MayClose, MayCrash, MayFreeze, MayGather}
pub use Rattle.rk_sound.specs.Moves.{MayNotice, MayPrepare}
pub use Rattle.rk_sound.specs.Rest.{HasCall, IsOfCall}
pub use Rattle.rk_sound.specs.Small.{as_closing, as_released, as_serving, asking_batch, batch_asked_in, client_come, crash_noticed_in}
pub use Rattle.rk_sound.specs.Small.{message_sent, refusal_staged_in, request_saved, sent, write_staged_in}
pub use Rattle.rk_inv_wellformed.proofs.lanes.Worlds.{master_of, room_of_master}
pub use Rattle.rk_inv_wellformed.proofs.maps.Bounds.{all_in_map, within_sum_of}
pub use Rattle.rk_inv_wellformed.proofs.maps.Completed.{ends_from_pairs, pairs_from_ends}
pub use Rattle.rk_inv_wellformed.proofs.maps.Lists.{all_find, all_flat, by_found, either_way, find_passes}
pub use Rattle.rk_inv_wellformed.proofs.maps.Maps.{All_pairs, above_all, each_from_pairs, find_is_got, first, order_tail}
pub use Rattle.rk_inv_base.proofs.calls.Rebuilders.{last_member}
pub use Rattle.rk_inv_base.proofs.calls.Receives.{IsTargetIn}
pub use Rattle.rk_inv_base.proofs.calls.Records.{filter_from, filter_stands, found_still, put_all_from, stands_is_found}
pub use Rattle.rk_inv_base.proofs.Headlines.{sound_closing, sound_gathered, sound_frozen, sound_sent}
pub use Rattle.rk_inv_base.proofs.logs.InRange.{AreIn, IsIn, in_by_key, material_in, scan_in, truth_in}
pub use Rattle.rk_inv_base.proofs.logs.InRest.{behind_at, lineage_last, of_waiting}
pub use Rattle.rk_inv_base.proofs.logs.Segments.{bytes_in, bytes_main, bytes_side, bytes_zero, first_part_itself, numbered_at, segments_few}
pub use Rattle.rk_inv_base.proofs.logs.Segments.{with_bytes_few}
pub use Rattle.rk_inv_base.proofs.rebuilds.SegmentGathered.{needed_stored}
pub use Rattle.rk_inv_base.proofs.rows.Apart.{contains_cases, in_one_row, one_precedes}
pub use Rattle.rk_inv_base.proofs.rows.Serving.{found_stands, present}
pub use Rattle.rk_inv_base.proofs.rows.Speakers.{speaks_serving}
pub use Rattle.rk_inv_base.proofs.views.ByRows.{row_in}
pub use Rattle.rk_sound.specs.Things.{SaysIn, SoundRow}
pub use Rattle.rk_inv_base.proofs.views.Lists.{all_by, all_in}
pub use Rattle.rk_inv_base.proofs.views.Masters.{master_same, tablet_apart, tablet_here}
pub use Rattle.rk_inv_base.proofs.views.Put.{put2_same, put_here, put_same}
pub use Rattle.rk_inv_base.proofs.views.Views.{view_gathered, view_master, view_pulled}
pub use Rattle.rk_inv_tablets.proofs.ready.OwnItems.{at_place, flat_from, flat_stands, front_at, sides_into, unmarked_at, unmarked_stands}
pub use Rattle.rk_inv_tablets.specs.crash.Moves.{AreReadable}
pub use Rattle.rk_inv_tablets.specs.merge.Moves.{MayMergeFormed}
pub use Rattle.rk_inv_tablets.specs.merge.Small.{as_merged, merge_in, piece_entries, rebuild_merged_in, with_entries}
pub use Rattle.rk_inv_tablets.specs.seal.Moves.{AreSealedThere, MaySealThere}
pub use Rattle.rk_inv_rows.proofs.lineage.Among.{first_stand, flat_among, kept_among, kept_passes, later_stands}
pub use Rattle.rk_inv_base.proofs.views.Among.{from_flat, place_in, taken_from, to_flat, IsCovered, covered_by, unmarked_place}
pub use Rattle.rk_inv_base.proofs.views.Among.{unmarked_stood}
pub use Rattle.rk_inv_rows.proofs.lineage.Pieces.{covered_of}
pub use Rattle.rk_inv_rows.proofs.lineage.RebuiltMaterial.{at, now_done, own_done, rebuilt_at, truth_from, truth_has_own, truth_has_piece}
pub use Rattle.rk_inv_rows.proofs.lineage.Scanned.{newest_scanned, scan_newest}
pub use Rattle.rk_inv_rows.proofs.lineage.TakenOver.{HasBoth, plain_fewer, table_over}
pub use Rattle.rk_inv_rows.proofs.lineage.TargetMaterial.{meets_itself}
pub use Rattle.rk_inv_rows.specs.lineage.Lineages.{TellHistory}
pub use Rattle.rk_inv_rows.specs.lineage.Rebuilt.{MakeRecords, MayOwnRebuilt, journal_with, made_by, made_of, rebuilt_taken_in}
pub use Rattle.rk_inv_rows.specs.lineage.Small.{marks_taken, row_owned_in}
pub use Rattle.rk_inv_logs.proofs.apply.Applying.{Applying, IsCallEnd, applying, call_ended, change_by, its_last, leaves_so, mutation}
pub use Rattle.rk_inv_logs.proofs.apply.OfRow.{role_fits, row_done, row_formed, row_goes_on, row_ranged, row_rebuilt, row_said, row_true}
pub use Rattle.rk_inv_logs.specs.apply.Small.{entry_applied_in, with_item_of, worked_in}
pub use Rattle.rk_inv_logs.proofs.read.ReadLog.{named_in, none_of, whole_part}
pub use Rattle.rk_inv_logs.proofs.read.ReadMember.{flat_same}
