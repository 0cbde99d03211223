-- The definitions and lemmas of crates below that several files cite here, passed on from one place. Declares nothing.
pub use Rattle.rk_inv_base.proofs.calls.MoreRecords.{asked_still, got_cases, is_request_still, known_still, request_says_still, rising_push}
pub use Rattle.rk_inv_base.proofs.calls.MoreRecords.{says_still}
pub use Rattle.rk_inv_base.proofs.calls.Records.{filter_from, filter_stands, in_by_key, material_in, other_put, put_all_from, put_stands}
pub use Rattle.rk_inv_base.proofs.calls.Records.{stands_is_found}
pub use Rattle.rk_inv_base.proofs.logs.Floors.{floor_above, floor_rises, floor_step}
pub use Rattle.rk_inv_base.proofs.logs.InRest.{behind_at, of_waiting}
pub use Rattle.rk_inv_base.proofs.logs.MarkedApart.{entry_apart, in_piece, marks_none, place_of, taken}
pub use Rattle.rk_inv_base.proofs.logs.Missed.{Misses, all_names_none, counting_none, drop_missed, joined_none, map_elsewhere}
pub use Rattle.rk_inv_base.proofs.logs.Missed.{material_none, none_touches, unmarked_missed}
pub use Rattle.rk_inv_base.proofs.pulls.Joining.{differ, kept_stands}
pub use Rattle.rk_inv_base.proofs.rows.AddedRows.{all_with, known_placed, new_placed, stands_placed, stood_placed}
pub use Rattle.rk_inv_base.proofs.rows.Apart.{apart_either, contains_cases, has_itself, in_one_row, key_outside, one_precedes, same_number}
pub use Rattle.rk_inv_base.proofs.rows.RowReplaced.{cover_replaced, covered_replaced, known_replaced, view_replaced}
pub use Rattle.rk_inv_base.proofs.rows.Serving.{found_stands, meets_either}
pub use Rattle.rk_inv_base.proofs.rows.TurnedRows.{all_turned, covered_turned, known_turned, new_stands, stands_found, stands_still, stood}
pub use Rattle.rk_inv_base.proofs.views.ByRows.{SoundBeside, each_row, none_for_owned, row_in, view_by_rows}
pub use Rattle.rk_sound.specs.Things.{IsNextOf, SaysIn, SoundRow}
pub use Rattle.rk_inv_base.proofs.views.ByRows.{waits_for}
pub use Rattle.rk_inv_base.proofs.views.Cover.{covered_by}
pub use Rattle.rk_inv_base.proofs.views.Lists.{all_by, all_in}
pub use Rattle.rk_inv_base.proofs.views.Needed.{any_kept, one_weaker, part_weaker}
pub use Rattle.rk_inv_base.proofs.wire.Messages.{by_master, if_master}
pub use Rattle.rk_inv_rows.specs.lineage.Lineages.{MayBeLeft, MayTakeLineage, MembersAgree, TellHistory}
pub use Rattle.rk_inv_rows.specs.lineage.Rebuilt.{MayOwnRebuilt, made_by, made_of, rebuilt_taken_in}
pub use Rattle.rk_inv_rows.specs.lineage.Small.{lineage_taken, marks_taken, rebuilt_taken, row_moved_in, row_owned_in}
pub use Rattle.rk_inv_rows.specs.split.Halves.{IsHalf, IsOfWhole}
pub use Rattle.rk_inv_rows.specs.split.Small.{as_half, lower_row, row_split_in, rows_halved, upper_row}
pub use Rattle.rk_overlay.specs.Live.{live, record_of}
pub use Rattle.rk_sound.specs.Moves.{MayMove, MaySplit}
pub use Rattle.rk_tablet_map.specs.Phase.{member}
pub use Rattle.rk_tablet_map.specs.Rows.{cut_fault, split_fault, split_rows, turned}
pub use Rattle.rk_tablet_map.specs.declared.error.MapError.TheVariants.{BadSplit, Taken}
pub use Rattle.rk_world.specs.Finished.{Finishes, IsFinished, own_entries}
pub use Rattle.rk_world.specs.Splits.{tablet_split, tablet_split_fault_by, tablet_split_fault_of, with_rows_split}
pub use Rattle.rk_inv_base.proofs.rows.MigrationBegun.{bystander_stays}
pub use Rattle.rk_inv_base.proofs.logs.FloorsOf.{floor_among, floor_within, one_within}
