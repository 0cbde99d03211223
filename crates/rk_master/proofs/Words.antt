-- The definitions and lemmas of crates below that several files cite here, passed on from one place. Declares nothing.
pub use Rattle.rk_bucket_table.specs.Tables.{items_of as records_of}
pub use Rattle.rk_done.specs.Completions.{completions_from}
pub use Rattle.rk_entry.specs.Ends.{IsLawfulRange}
unfoldable pub use Rattle.rk_entry.specs.Entries.{entries_of}
pub use Rattle.rk_entry.specs.Lawful.{IsLawfulEntry, IsLawfulHeld}
pub use Rattle.rk_entry.specs.Numbers.{IsNumber}
pub use Rattle.rk_entry.specs.declared.entry.Entry.{Entry}
pub use Rattle.rk_entry.specs.declared.lists.TheConstants.{FIRST_SIDE_SEGMENT}
pub use Rattle.rk_log.specs.Log.{Log, with_entry}
pub use Rattle.rk_master.specs.Choices.{IsFit}
pub use Rattle.rk_staged.specs.Kept.{AreStagedFrom}
pub use Rattle.rk_master.specs.Parts.{AreClosable, AreTablets, IsClosable, behind, can_close, changing, given_up_but, marks_of, tablet_in}
pub use Rattle.rk_master.specs.Parts.{tablets_of, worked_of}
pub use Rattle.rk_master.specs.Places.{Row}
pub use Rattle.rk_master.specs.Pulls.{with_sides}
pub use Rattle.rk_master.specs.Rebuilding.{CanBeSpelled, own_counted, with_items, with_side_read}
pub use Rattle.rk_master.specs.Sides.{AreSpelled, IsSpelled, items_of_sides}
pub use Rattle.rk_master.specs.State.{IsState, master_of}
pub use Rattle.rk_master.specs.declared.work.Worked.{Worked as Work}
pub use Rattle.rk_message.specs.declared.message.Message.{Message}
pub use Rattle.rk_overlay.specs.Newest.{newest}
pub use Rattle.rk_priority.specs.Hashes.{is_batch}
pub use Rattle.rk_side_log.specs.Replayed.{Replayed, side_replayed}
pub use Rattle.rk_side_log.specs.Spelled.{bytes_in, spelled_items}
pub use Rattle.rk_tablet.specs.Tablets.{tablet_of}
pub use Rattle.rk_tablet.specs.Pulls.{with_side}
pub use Rattle.rk_tablet.specs.Rebuilding.{with_gather}
pub use Rattle.rk_tablet.specs.declared.tablet_lane.TabletLane.{TabletLane}
pub use Rattle.rk_transfer.specs.Handover.{joined}
pub use Rattle.rk_transfer.specs.declared.handover.Handover.{Handover}
pub use Rattle.rk_transfer.specs.declared.role.Role.{Role}
pub use Rattle.rk_types.proofs.NumberMaps.{get_same, in_order_insert}
pub use Rattle.rk_types.specs.NumberMap.{IsInOrder, NumberMap, get, insert}
pub use Rattle.rk_types.specs.Places.{IsAt, IsBetween}
pub use Rattle.rk_types.specs.declared.call.Call.{Call}
pub use Rattle.rk_types.specs.declared.held.Held.{Held}
pub use Rattle.rk_types.specs.declared.range.Range.{Range}
pub use Rattle.rk_world.specs.Commits.{apply_entries, noting}
pub use Rattle.rk_world.specs.Ends.{items_of, told_by}
pub use Rattle.rk_world.specs.Handovers.{is_above}
pub use Rattle.rk_world.specs.Master.{Master, serves_key, tablet_at, with_tablet}
pub use Rattle.rk_world.specs.MasterTurn.{append_of, duties}
pub use Rattle.rk_world.specs.Material.{as_entries}
pub use Rattle.rk_world.specs.Requests.{choice_of, fresh_choice}
pub use Rattle.rk_world.specs.RoleTests.{is_gathering}
pub use Rattle.rk_world.specs.Tablet.{Tablet, no_tablet, pulling_from, with_handover, without_merged}
pub use Rattle.rk_world.specs.Waiting.{all_going_on, joined_entry}
pub use Rattle.rk_world.specs.Worked.{Worked, changed}
pub use Rattle.std.proofs.Common.{Bool, List, None, Option, Some, T, [], ap, append_assoc, arith, cond, drop, eqb, false, fold, get_or, inl}
pub use Rattle.std.proofs.Common.{inr, is_some, length, length-append, ltb, map, min, not, refl, set, slice_get, subst, suc, sym, take}
pub use Rattle.std.proofs.Common.{true, unwrap_or, zero, ℕ, ⊎_elim, ◌&&◌, ◌++◌, ◌+◌, ◌-◌, ◌<◌, ◌^◌, ◌∙◌, ◌∷◌, ◌≡◌, ◌≤◌}
pub use Rattle.std.proofs.lemmas.Bool.{cond-false, cond-true, eq-eqb, false≢true}
pub use Rattle.std.proofs.lemmas.List.{append-nil, with_items_is}
pub use Rattle.std.proofs.lemmas.List.Elements.{All-head, All-tail}
pub use Rattle.std.proofs.lemmas.Option.{slice_get-get_or}
pub use Rattle.std.proofs.lemmas.Result.{IfOk-weaker}
pub use Rattle.std.specs.Cmp.{unsigned_tied}
pub use Rattle.std.specs.FinMap.Entries.{below_all, by_order}
pub use Rattle.std.specs.Int.{w32, w64}
pub use Rattle.std.specs.List.{All, find, flat_map, insert as insert_at, list_all, range_with_len}
pub use Rattle.std.specs.Option.{option_copied, option_map}
pub use Rattle.std.specs.Ordering.{is_eq, is_lt, nat_cmp}
pub use Rattle.std.specs.Prelude.{IfOk, IsSome}
pub use Rattle.std.specs.Vec.Iter.{into_iter_items}
pub use Rattle.std.specs.declared.cmp.Ordering.{Ordering}
pub use Rattle.std.specs.declared.cmp.Ordering.TheVariants.{Equal, Greater, Less}
