-- The definitions and lemmas of crates below that several files cite here, passed on from one place. Declares nothing.
pub use Rattle.rk_entry.proofs.Tools.{IsBytes}
pub use Rattle.rk_inv_base.proofs.calls.Appending.{formed_apart, truth_by, truth_is}
pub use Rattle.rk_inv_base.proofs.calls.Calls.{calls_alike, calls_more}
pub use Rattle.rk_inv_base.proofs.calls.Rebuilders.{last_member, named_stays, piece_push}
pub use Rattle.rk_inv_base.proofs.calls.Rebuilds.{IsRebuilderIn, former_gone, former_never, mark_same}
pub use Rattle.rk_inv_base.proofs.calls.Receives.{IsBareOf, IsTargetIn, waits_then}
pub use Rattle.rk_inv_base.proofs.calls.Targets.{AreBelow, own_push, target_pushed}
pub use Rattle.rk_inv_base.proofs.logs.Applied.{applied_within}
pub use Rattle.rk_inv_base.proofs.logs.Grows.{Extends, counting_extends, drop_extends, extends_behind, still_contains, stored_push}
pub use Rattle.rk_inv_base.proofs.logs.Grows.{take_extends, tells_extended, unmarked_extends}
pub use Rattle.rk_inv_base.proofs.logs.InRange.{AreIn, IsIn, applied_in, in_by_key, neither, scan_in, stays, stood, target_in, truth_in}
pub use Rattle.rk_inv_base.proofs.logs.InRest.{behind_at}
pub use Rattle.rk_inv_base.proofs.logs.LengthTold.{each_member, members_by}
pub use Rattle.rk_inv_base.proofs.logs.Logs.{copy_grown, first_part_more, logs_grown, none_stored, piece_grown}
pub use Rattle.rk_inv_base.proofs.logs.MarkedApart.{entry_apart, in_piece, not_all, place_of}
pub use Rattle.rk_inv_base.proofs.logs.Segments.{Grows, bytes_in, bytes_main, bytes_side, bytes_zero, first_part_same, found_in}
pub use Rattle.rk_inv_base.proofs.logs.Segments.{numbered_at, numbered_before, numbered_past, with_bytes_front, with_bytes_full}
pub use Rattle.rk_inv_base.proofs.logs.Shares.{drop_all, joined_same, rest_inside, unless_marked, unmarked_from_last, unmarked_from_none}
pub use Rattle.rk_inv_base.proofs.logs.Shares.{marked_none}
pub use Rattle.rk_inv_base.proofs.pulls.Joining.{IsSecond, joining_second, kept_stands, scanned, stands_kept}
pub use Rattle.rk_inv_base.proofs.roles.Released.{IsOutside, heir_outside, outside_post}
pub use Rattle.rk_inv_base.proofs.roles.RoleTaken.{rows_apart}
pub use Rattle.rk_inv_base.proofs.roles.Roles.{role_looks, roles_looks, terms_look}
pub use Rattle.rk_inv_base.proofs.roles.Steady.{IsHeir, heir_post}
pub use Rattle.rk_inv_base.proofs.rows.Apart.{apart_either, contains_cases, has_itself, in_one_row, key_outside, one_precedes, same_number}
pub use Rattle.rk_inv_base.proofs.rows.Serving.{found_stands, meets_either}
pub use Rattle.rk_inv_base.proofs.rows.Speakers.{speaker_is, speaker_of, waiting_at}
pub use Rattle.rk_inv_base.proofs.rows.TurnedRows.{behind_first, stands_found}
pub use Rattle.rk_inv_base.proofs.views.Alike.{AreAlike, handed_by_alike, handed_for_grant_alike, speaks_alike, still_counts}
pub use Rattle.rk_inv_base.proofs.views.Alike.{target_truth_same}
pub use Rattle.rk_inv_base.proofs.views.ByRows.{SoundBeside, row_in, view_by_rows}
pub use Rattle.rk_sound.specs.Things.{CountsFor, IsNextOf, SaysIn, SoundRow, SpeaksFor}
pub use Rattle.rk_inv_base.proofs.views.ByRows.{waits_for}
pub use Rattle.rk_inv_base.proofs.views.Cover.{cover_looks, covered_by}
pub use Rattle.rk_inv_base.proofs.views.Lists.{all_by}
pub use Rattle.rk_inv_base.proofs.views.Masters.{master_other, master_same, same_of_all, same_of_each, tablet_apart, tablet_here}
pub use Rattle.rk_inv_base.proofs.views.Needed.{AreAmong, among_front, among_then, extended_among, kept_within, needed_grown, needed_member}
pub use Rattle.rk_inv_base.proofs.views.Needed.{part_weaker, rebuilder_weaker, sides_extend}
pub use Rattle.rk_inv_base.proofs.views.OwnTablet.{alone, row_kept}
pub use Rattle.rk_inv_base.proofs.views.Put.{put2_by, put2_here, put2_other, put2_same, put_by, put_here, put_is, put_other, put_same}
pub use Rattle.rk_inv_base.proofs.views.Seen.{AllLook, GoesOn, LooksAs, looks_same}
pub use Rattle.rk_inv_base.proofs.views.Tables.{all_items_same}
pub use Rattle.rk_inv_base.proofs.views.Terms.{terms_looks}
pub use Rattle.rk_inv_base.proofs.views.Views.{view_master}
pub use Rattle.rk_inv_base.proofs.wire.Messages.{NeedNoMore, by_master, if_master, messages_looks}
pub use Rattle.rk_inv_tablets.specs.crash.Moves.{AreReadable, MayCrashFormed}
pub use Rattle.rk_inv_tablets.specs.grant.Moves.{MayGrantFormed}
pub use Rattle.rk_inv_tablets.specs.grant.Small.{as_granted, granted, tablet_granted_in}
pub use Rattle.rk_inv_tablets.specs.merge.Moves.{IsToldIn, MayMergeFormed}
pub use Rattle.rk_inv_tablets.specs.merge.Small.{as_merged, merge_in, merged_view, own_entries, piece_entries, piece_mark}
pub use Rattle.rk_inv_tablets.specs.merge.Small.{rebuild_merged_in, with_entries, with_piece}
pub use Rattle.rk_inv_tablets.specs.ready.Small.{as_begun, as_rebuilding, as_wanting, begins_from, begun, begun_tablets, items_left}
pub use Rattle.rk_inv_tablets.specs.ready.Small.{others_given_up, prepared, prepared_tablets, rebuild_begun_in, tablet_prepared_in}
pub use Rattle.rk_inv_tablets.specs.ready.Small.{tablets_taken}
pub use Rattle.rk_sound.specs.View.{tablet_seen}
pub use Rattle.rk_inv_tablets.specs.seal.Moves.{AreSealedThere, MaySealThere}
pub use Rattle.rk_inv_tablets.specs.seal.Small.{as_joining, as_sealed, sealed, side_lists_sealed_in, sides_cut, sides_joined}
pub use Rattle.rk_inv_tablets.specs.seal.Small.{with_side_items, with_sides}
pub use Rattle.rk_inv_wellformed.proofs.lanes.Ledgers.{kept_by_fold}
pub use Rattle.rk_inv_wellformed.proofs.maps.Lists.{all_flat, fold_keeps_all}
pub use Rattle.rk_log.specs.Cut.{cut_after, last_of}
pub use Rattle.rk_sound.specs.Moves.{IsSettledIn, MayBegin, MayPrepare}
pub use Rattle.rk_tablet_map.specs.Phase.{member}
pub use Rattle.rk_transfer.specs.Handover.{rebuilt}
pub use Rattle.rk_world.specs.Gather.{gather_begun, main_entries, unread}
pub use Rattle.rk_inv_base.proofs.logs.OneMore.{joins_beside}
pub use Rattle.rk_inv_wellformed.proofs.masters.Pulls.{items_again}
pub use Rattle.rk_inv_wellformed.proofs.masters.Rebuilding.{floor_first}
pub use Rattle.rk_inv_wellformed.proofs.maps.Maps.{All_insert, each_from_pairs, found_changed}
pub use Rattle.std.proofs.lemmas.Bool.{lt-leb}
pub use Rattle.rk_inv_base.proofs.views.ByRows.{IsRebuiltIn, staged_as}
pub use Rattle.std.proofs.Math.Seq.{drop-append-add, drop-append_seam, set-append_seam, take-append-add}
