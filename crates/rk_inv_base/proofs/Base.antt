-- The laws that most laws of small changes cite, passed on from one place. Declares nothing.
pub use Rattle.rk_inv_base.proofs.calls.Appending.{first_not_last, formed_apart, last_stands, truth_by, truth_is}
pub use Rattle.rk_inv_base.proofs.calls.Counters.{counter_low}
pub use Rattle.rk_inv_base.proofs.calls.Rebuilders.{IsRebuilderWith, last_member, named_stays, piece_push, rebuilder_beside}
pub use Rattle.rk_inv_base.proofs.calls.Rebuilders.{serving_unmerged, unmarked_push}
pub use Rattle.rk_inv_base.proofs.calls.Rebuilds.{IsRebuilderBy, IsRebuilderIn, former_alone, former_gone, mark_same}
pub use Rattle.rk_inv_base.proofs.calls.Receives.{IsBareOf, IsTargetIn, above_source, serving_waits, waits_then}
pub use Rattle.rk_inv_base.proofs.calls.Targets.{AreBelow, bare_pushed, own_push, target_counted, target_pushed}
pub use Rattle.rk_inv_base.proofs.logs.Applied.{applied_within}
pub use Rattle.rk_inv_base.proofs.logs.Floors.{floor_above, floor_rises, next_push, next_stays}
pub use Rattle.rk_inv_base.proofs.logs.Grows.{Extends, counting_extends, extends_behind, stored_push, take_extends, tells_extended}
pub use Rattle.rk_inv_base.proofs.logs.InRest.{behind_at, of_waiting}
pub use Rattle.rk_inv_base.proofs.logs.Logs.{AreStored, first_part_more, logs_grown, none_stored}
pub use Rattle.rk_inv_base.proofs.logs.Segments.{bytes_before}
pub use Rattle.rk_inv_base.proofs.logs.Shares.{counts_call, joined_same, joins_call, marked_none, material_outside, names_call, rest_inside}
pub use Rattle.rk_inv_base.proofs.logs.Shares.{rest_outside, segments_call, touches_call, unless_marked, unmarked_from_last}
pub use Rattle.rk_inv_base.proofs.rebuilds.Gathered.{NeedsFew, NoneBehind, members_read, read_apart, same_member, same_members}
pub use Rattle.rk_inv_base.proofs.rebuilds.Gathered.{segment_read}
pub use Rattle.rk_inv_base.proofs.roles.RoleTaken.{rows_apart, view_role_taken}
pub use Rattle.rk_inv_base.proofs.roles.Steady.{rebuilding_behind}
pub use Rattle.rk_inv_base.proofs.rows.Apart.{contains_cases, has_itself, in_one_row, key_outside, no_meeting, one_met, one_precedes}
pub use Rattle.rk_inv_base.proofs.rows.Apart.{same_number}
pub use Rattle.rk_inv_base.proofs.rows.BeforeTurn.{IsEarly, at_most, counted_before, none_closes, none_marked, none_rebuilds}
pub use Rattle.rk_inv_base.proofs.rows.Heirs.{not_begun}
pub use Rattle.rk_inv_base.proofs.rows.Members.{inside_heir, inside_member, is_inside}
pub use Rattle.rk_inv_base.proofs.rows.Speakers.{none_hands, none_waits, quiet_role, speaker_is, speaker_of, speaks_serving}
pub use Rattle.rk_inv_base.proofs.rows.TurnedRows.{all_turned, behind_first, covered_turned, found_any, known_turned, new_stands}
pub use Rattle.rk_inv_base.proofs.rows.TurnedRows.{none_known, stands_found, stands_still, stood}
pub use Rattle.rk_inv_base.proofs.views.Alike.{AreAlike, IsAlike, alike_frozen, handed_by_alike, handed_for_grant_alike, speaks_alike}
pub use Rattle.rk_inv_base.proofs.views.Alike.{still_counts, target_truth_same}
pub use Rattle.rk_inv_base.proofs.views.ByRows.{IsRebuiltIn, SoundBeside, each_row}
pub use Rattle.rk_sound.specs.Things.{CountsFor, IsNextOf, SaysIn, SoundRow, SpeaksFor}
pub use Rattle.rk_inv_base.proofs.views.ByRows.{none_for_owned, row_in, staged_as, view_by_rows, waits_for}
pub use Rattle.rk_inv_base.proofs.views.Cover.{cover_looks, cover_written, covered_by}
pub use Rattle.rk_inv_base.proofs.views.Lists.{all_by, all_in, none_kept, none_pass}
pub use Rattle.rk_inv_base.proofs.views.Masters.{tablet_apart, tablet_here}
pub use Rattle.rk_inv_base.proofs.views.Needed.{AreAmong, IsStoredEnd, among_then, end_stored, gathered_by, given_up_among, living_among}
pub use Rattle.rk_inv_base.proofs.views.Needed.{needed_grown, needed_member, needed_within, numbers_append, rebuilder_weaker, tells_among}
pub use Rattle.rk_inv_base.proofs.views.OwnTablet.{row_kept}
pub use Rattle.rk_inv_base.proofs.views.Places.{behind_none}
pub use Rattle.rk_inv_base.proofs.views.Put.{put2_by, put2_here, put2_other, put2_same, put_by, put_is, put_other, put_same}
pub use Rattle.rk_inv_base.proofs.views.Seen.{AllLook, GoesOn, LooksAs, counted_looks, looks_same}
pub use Rattle.rk_inv_base.proofs.views.Views.{view_gathered, view_kept, view_master, view_pulled, view_taken}
pub use Rattle.rk_inv_base.proofs.wire.Messages.{NeedNoMore, by_master, if_master, says_of_looks}
