-- The definitions and lemmas of crates below that several files cite here, passed on from one place. Declares nothing.
pub use Rattle.rk_backup.specs.Lane.{number_of, replica_of}
pub use Rattle.rk_backup.specs.declared.lane.BackupLane.{BackupLane}
pub use Rattle.rk_coordinator.specs.Lane.{MayRise}
pub use Rattle.rk_inv_wellformed.proofs.maps.Bounds.{all_in_map, below_greatest, greatest_within}
pub use Rattle.rk_inv_wellformed.proofs.maps.Lists.{all_before}
pub use Rattle.rk_inv_wellformed.proofs.maps.MapSums.{size_found, sum_inserted}
pub use Rattle.rk_inv_wellformed.proofs.maps.Numbered.{numbered_order}
pub use Rattle.rk_inv_wellformed.proofs.room.Rises.{KeepsTo, all_inserted, keeps_to_more, keeps_to_top}
pub use Rattle.rk_lane.specs.Backing.{CanBeAnswered, IsBackedAt, IsBackedBy, IsLogOf, IsSpared, IsUnanswered, IsUnansweredAt, sending}
pub use Rattle.rk_lane.specs.Coordinating.{IsCoordinated, terms_of}
pub use Rattle.rk_lane.specs.Events.{IsAnswerOf, IsArrivalIn, IsFailed, IsStepOf, MayComeTo, MayStep}
pub use Rattle.rk_lane.specs.Finished.{IsCutBack, IsFinished}
pub use Rattle.rk_lane.specs.Happened.{IsHappened, IsUnhappened}
pub use Rattle.rk_lane.specs.Lane.{AreNumbered, lane_of}
pub use Rattle.rk_lane.specs.LaneState.{AreTold, IsSameLane, IsTold, LaneState, world_with}
pub use Rattle.rk_lane.specs.Made.{CallsNoReplica, IsFault, IsMade, IsOfBackup, IsReady, IsSameParts}
pub use Rattle.rk_lane.specs.Masters.{IsAt}
pub use Rattle.rk_lane.specs.Noticing.{MayRiseBy, is_of, is_unnoticed, unnoticed}
pub use Rattle.rk_lane.specs.Owners.{owner_in}
pub use Rattle.rk_lane.specs.Parts.{IsKept, masters_from, running_of, world_of}
pub use Rattle.rk_lane.specs.Requests.{AreForMasters}
pub use Rattle.rk_lane.specs.Resending.{IsLastRequest}
pub use Rattle.rk_lane.specs.Resting.{IsResting, SendsNothing}
pub use Rattle.rk_lane.specs.Sends.{IsFitToSend, IsSendable}
pub use Rattle.rk_lane.specs.Visiting.{noted, saved}
pub use Rattle.rk_lane.specs.Visits.{IsVisitOf, IsVisited}
pub use Rattle.rk_lane.specs.Working.{IsRaised, IsSettled, IsUnsettled, IsWeighed, ledger_noted, ledger_worked, sends_worked}
pub use Rattle.rk_lane.specs.declared.lane.Lane.TheInside.{Inside}
pub use Rattle.rk_lane.specs.declared.parts.Parts.{Parts}
pub use Rattle.rk_lane.specs.declared.sends.Sent.{Sent}
pub use Rattle.rk_lane.specs.declared.splits.Owner.{Owner}
pub use Rattle.rk_ledger.specs.Growing.{with_journal}
pub use Rattle.rk_log.specs.declared.copied.TheConstants.{MOST_BACKUPS}
pub use Rattle.rk_master.specs.Parts.{marks_of}
pub use Rattle.rk_master.specs.declared.work.Worked.{Worked as Work}
pub use Rattle.rk_message.specs.Wire.{Traffic, receiver_of, with_message}
pub use Rattle.rk_message.specs.declared.calls.Located.{Located}
pub use Rattle.rk_message.specs.declared.message.Body.{Body}
pub use Rattle.rk_message.specs.declared.message.Message.{Message}
pub use Rattle.rk_message.specs.declared.rebuilding.Rebuilt.{Rebuilt}
pub use Rattle.rk_outside.specs.Segments.{Segments, WhereTold}
pub use Rattle.rk_outside.specs.declared.replica.Lost.{Lost}
pub use Rattle.rk_tablet_map.specs.Rows.{row_of}
pub use Rattle.rk_tablet_map.specs.declared.phase.Phase.{Phase}
pub use Rattle.rk_tablet_map.specs.declared.phase.Phase.TheVariants.{Moving, Opening, Owned, Rebuilding}
pub use Rattle.rk_tablet_map.specs.declared.row.Row.{Row}
pub use Rattle.rk_types.proofs.NumberMaps.{each_insert, get_other, get_same}
pub use Rattle.rk_types.specs.NumberMap.{EachIn, NumberMap, get, insert, numbers}
pub use Rattle.rk_types.specs.declared.call.Call.{Call}
pub use Rattle.rk_types.specs.declared.call.Ended.{Ended}
pub use Rattle.rk_types.specs.declared.history.Placed.{Placed}
pub use Rattle.rk_types.specs.declared.node.Node.{Node}
pub use Rattle.rk_world.specs.Backup.{Appended, Backed, Called, Failed, Gave, backup_step, called_by, failing, no_segments, stored_after}
pub use Rattle.rk_world.specs.Calls.{Visited, accept, ask, is_asked, is_asked_here, ledger_asked, ledger_requested, ledger_taken}
pub use Rattle.rk_world.specs.Client.{ClientTurn, MOST_REQUESTS, Session, looking_up, range_of, session_accept, session_turn, turn_by}
pub use Rattle.rk_world.specs.Client.{turn_of, turn_to}
pub use Rattle.rk_world.specs.Coordinator.{Coordinator}
pub use Rattle.rk_world.specs.CoordinatorStep.{coordinator_step}
pub use Rattle.rk_world.specs.Ends.{outcome_of}
pub use Rattle.rk_world.specs.Journal.{last_stamp}
pub use Rattle.rk_world.specs.Ledger.{Ledger, asked_by, is_added, seen_of, with_all_served, with_asked, with_client, with_end, with_ends}
pub use Rattle.rk_world.specs.Ledger.{with_rebuilt, with_record, with_served}
pub use Rattle.rk_world.specs.Limits.{IsFormedBody, IsThere, Limits, limits_of}
pub use Rattle.rk_world.specs.Master.{Master, log_bytes, new_master}
pub use Rattle.rk_world.specs.MasterStep.{master_step}
pub use Rattle.rk_world.specs.MasterTurn.{master_turn}
pub use Rattle.rk_world.specs.Notices.{notice_one}
pub use Rattle.rk_world.specs.Premises.{IsMaster, MOST_MASTERS, MayAct, MayCome}
pub use Rattle.rk_world.specs.Refusals.{accept_refusal, comes_anyway, fault_of, refusal, where_true, worn}
pub use Rattle.rk_world.specs.Replicas.{AllTell}
pub use Rattle.rk_world.specs.Replies.{filled}
pub use Rattle.rk_world.specs.Room.{HasRoom, HasRoomIn, MOST_BYTES}
pub use Rattle.rk_world.specs.Runs.{IsFormedWithRoom}
pub use Rattle.rk_world.specs.Splits.{owner_split, row_split, rows_split, with_split}
pub use Rattle.rk_world.specs.Step.{Stepped, backed_at, delivered, delivered_to, happened, log_bytes_of, losing, quietly, seen_in}
pub use Rattle.rk_world.specs.Step.{sent_again, stepped_by, told_by_replica, told_for, told_to, with_sends, worked_at}
pub use Rattle.rk_world.specs.Worked.{Worked}
pub use Rattle.rk_world.specs.World.{World, bytes_of_logs, counters_of, greatest, has_crashed, is_backup, master_at, new_world}
pub use Rattle.rk_world.specs.World.{with_all_sent, with_coordinator, with_ledger, with_master, with_stored_by, with_top}
pub use Rattle.rk_world.specs.declared.error.StepError.{StepError}
pub use Rattle.rk_world.specs.declared.event.Event.{Event}
pub use Rattle.rk_world.specs.declared.event.Seen.{Seen}
pub use Rattle.rk_world.specs.declared.event.Taken.{Taken}
pub use Rattle.rk_world.specs.declared.ledger.LastCall.{LastCall}
pub use Rattle.rk_world.specs.declared.work.Served.{Served}
pub use Rattle.std.proofs.Common.{All, Bool, Err, IfOk, IfSome, IsSome, List, None, Ok, Option, Result, Some, [], ap, append-nil}
pub use Rattle.std.proofs.Common.{append_assoc, arith, cond, eqb, false, filter, fold, if◌then◌else◌, inr, is_some, length, map, max, min}
pub use Rattle.std.proofs.Common.{not, refl, set, slice_get, subst, suc, sym, take, true, vec_capacity, zero, ℕ, ⊎_elim, ◌&&◌, ◌++◌, ◌+◌}
pub use Rattle.std.proofs.Common.{◌-◌, ◌<◌, ◌==◌, ◌^◌, ◌||◌, ◌∙◌, ◌∷◌, ◌≡◌, ◌≤◌}
pub use Rattle.std.proofs.lemmas.Bool.{cases_eq, eq-eqb, eqb-true, ne_eqb}
pub use Rattle.std.proofs.lemmas.List.{length-append, length-map, length-set, nil_from_length}
pub use Rattle.std.proofs.lemmas.List.Elements.{All-cons, All-head, All-map, All-nil, All-set, All-tail, All-weaker}
pub use Rattle.std.proofs.lemmas.List.FromFn.{length-range_with_len}
pub use Rattle.std.proofs.lemmas.List.Sums.{sum-map}
pub use Rattle.std.proofs.lemmas.Option.{get_or_from_slice_get}
pub use Rattle.std.proofs.lemmas.Result.{IfErr-weaker, IfOk-weaker}
pub use Rattle.std.specs.Cmp.{unsigned_tied}
pub use Rattle.std.specs.Global.{Vec}
unfoldable pub use Rattle.std.specs.List.{IsDistinct}
pub use Rattle.std.specs.List.{list_any, range_with_len, sum_by}
pub use Rattle.std.specs.Option.{option_map, option_or}
pub use Rattle.std.specs.Prelude.{nat_le, unwrap_or, ⊤}
pub use Rattle.std.specs.Vec.Iter.{into_iter_items}
