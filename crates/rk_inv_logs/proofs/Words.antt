-- What several files of this crate cite of the crates below it, beside the words of `rk_inv_base`, passed on. Declares nothing.
pub use Rattle.std.proofs.lemmas.Bool.{not-true}
pub use Rattle.std.proofs.lemmas.List.{drop_more, nil_from_length, take_more}
pub use Rattle.std.proofs.lemmas.List.Kept.{AllPairs-cons}
pub use Rattle.std.specs.List.{AllZip}
pub use Rattle.rk_done.proofs.Noted.{noted_later, noted_older}
pub use Rattle.rk_inv_base.proofs.calls.Appending.{first_not_last, formed_apart, last_stands}
pub use Rattle.rk_inv_base.proofs.calls.Histories.{record_for, record_put}
pub use Rattle.rk_inv_base.proofs.calls.MoreRecords.{asked_still, got_cases, is_request_still, known_still, request_says_still, rising_push}
pub use Rattle.rk_inv_base.proofs.calls.MoreRecords.{says_still}
pub use Rattle.rk_inv_base.proofs.calls.Rebuilders.{last_member}
pub use Rattle.rk_inv_base.proofs.calls.Rebuilds.{IsRebuilderIn, former_gone}
pub use Rattle.rk_inv_base.proofs.calls.Records.{filter_from, filter_stands, found_still, in_by_key, newer_cases, newer_stands, other_stays}
pub use Rattle.rk_inv_base.proofs.calls.Records.{stands_is_found}
pub use Rattle.rk_inv_base.proofs.logs.Grows.{Extends, counting_extends, drop_extends, still_contains, unmarked_extends}
pub use Rattle.rk_inv_base.proofs.logs.InRest.{behind_at, lineage_last}
pub use Rattle.rk_inv_base.proofs.logs.LengthTold.{each_member, members_by}
pub use Rattle.rk_inv_base.proofs.logs.MarkedApart.{in_piece, place_of}
pub use Rattle.rk_inv_base.proofs.logs.Segments.{bytes_in, bytes_main, bytes_side, numbered_at, numbered_past}
pub use Rattle.rk_inv_base.proofs.logs.Shares.{append_nil, counts_call, drop_none, named_same, names_call, unless_marked}
pub use Rattle.rk_inv_base.proofs.logs.Shares.{unmarked_from_last}
pub use Rattle.rk_inv_base.proofs.pulls.Joining.{differ, kept_stands, stands_kept}
pub use Rattle.rk_inv_base.proofs.rows.Apart.{contains_cases, in_one_row}
pub use Rattle.rk_inv_base.proofs.rows.Heirs.{heir_post}
pub use Rattle.rk_inv_base.proofs.rows.Serving.{found_stands}
pub use Rattle.rk_inv_base.proofs.rows.Speakers.{IsQuiet, quiet_others, speaker_is, speaker_of, waiting_at}
pub use Rattle.rk_inv_base.proofs.views.ByRows.{SoundBeside, row_in, view_by_rows}
pub use Rattle.rk_sound.specs.Things.{CountsFor, SoundRow, SpeaksFor}
pub use Rattle.rk_inv_base.proofs.views.Cover.{covered_by}
pub use Rattle.rk_inv_base.proofs.views.Lists.{all_by}
pub use Rattle.rk_inv_base.proofs.views.Needed.{AreAmong, among_then, end_some, first_counted, part_weaker, rebuilder_weaker, sides_extend}
pub use Rattle.rk_inv_base.proofs.views.Needed.{tells_among}
pub use Rattle.rk_inv_base.proofs.views.Places.{behind_any}
pub use Rattle.rk_inv_base.proofs.views.Put.{put2_by, put2_same, put_by, put_here, put_is, put_other, put_same}
pub use Rattle.rk_inv_base.proofs.views.Views.{view_master}
pub use Rattle.rk_inv_base.proofs.wire.Messages.{by_master, if_master}
pub use Rattle.rk_inv_base.proofs.logs.FloorsOf.{floor_among}
pub use Rattle.rk_inv_rows.proofs.lineage.Histories.{history_of}
pub use Rattle.rk_inv_rows.proofs.lineage.RebuiltMaterial.{RebuiltAt, rebuilt_at}
pub use Rattle.rk_inv_rows.specs.lineage.Lineages.{TellHistory}
pub use Rattle.rk_inv_rows.specs.lineage.Rebuilt.{MakeRecords, journal_with, made_by, made_of}
pub use Rattle.rk_inv_tablets.proofs.crash.Among.{flat_from, flat_of, named_from, named_of, place_there, stands_front}
pub use Rattle.rk_inv_tablets.proofs.crash.FirstRead.{AreFirstStored, ArePartsRead, IsPartRead, read_none}
pub use Rattle.rk_inv_tablets.proofs.crash.Groups.{cut_groups, ends_in, group_ends, spelled_both, spelled_first, spelled_none}
pub use Rattle.rk_inv_tablets.proofs.crash.LogRead.{all_at, all_groups, main_read, side_number}
pub use Rattle.rk_inv_tablets.proofs.crash.MarkedPieces.{HasMark, mark_of}
pub use Rattle.rk_inv_tablets.proofs.crash.MarksTold.{sides_named}
pub use Rattle.rk_inv_tablets.proofs.crash.PieceRows.{mark_says, marked_names_none, marked_of_row}
pub use Rattle.rk_inv_tablets.proofs.crash.ReadTold.{side_material}
pub use Rattle.rk_inv_tablets.proofs.crash.Unmarked.{IsUnmarked, first_among, free_place, free_stands, marked_stands, taken_at}
pub use Rattle.rk_inv_tablets.proofs.ready.OwnItems.{one_stands, two_stand}
pub use Rattle.rk_inv_tablets.proofs.ready.Outside.{begun_lacks}
pub use Rattle.rk_inv_tablets.specs.crash.Moves.{AreReadable}
pub use Rattle.rk_log.proofs.Cuts.{ends_within}
pub use Rattle.rk_log.proofs.LogLaws.{committed_held}
pub use Rattle.rk_model.proofs.Keys.{allowed_same, is_at_own, map_after-same, map_with-same}
pub use Rattle.rk_overlay.proofs.Alike.{newest_alike, plain_alike}
pub use Rattle.rk_overlay.proofs.Folds.{newest_from-same, newest_from-stays}
pub use Rattle.rk_overlay.specs.Plain.{HaveSame}
pub use Rattle.rk_sound.specs.Posts.{Bond, Both, Closed, Either}
pub use Rattle.rk_sound.specs.Rebuilds.{IsGatherOf}
pub use Rattle.rk_types.proofs.NumberMaps.{get_remove, get_removed}
pub use Rattle.rk_world.specs.Commits.{ended_call}
pub use Rattle.rk_world.specs.Gather.{main_entries, next_side}
pub use Rattle.rk_world.specs.Merge.{is_same_call}
pub use Rattle.rk_inv_base.proofs.rows.Apart.{key_outside, key_outside as key_beside, same_number}
pub use Rattle.rk_inv_base.proofs.views.Among.{mapped, mapped_from}
pub use Rattle.rk_inv_rows.proofs.lineage.TakenOver.{above_fewer, plain_above}
pub use Rattle.rk_inv_tablets.proofs.crash.MarksTold.{before_piece, side_held, unmarked_grow}
pub use Rattle.rk_model.specs.History.{record_of as map_record_of, with_entry}
pub use Rattle.rk_tablet_map.specs.Phase.{member as member_at}
