-- The definitions and lemmas of crates below that several files cite here, passed on from one place. Declares nothing.
pub use Rattle.rk_cluster.specs.Acted.{acted, acted_by, acted_well, all_acted, came_in, lost_in, worn_by, worn_in}
pub use Rattle.rk_cluster.specs.Again.{IsNextIn, IsSentAgain}
pub use Rattle.rk_cluster.specs.Codes.{MOST_CALLS, again_code, call_code, client_code, code_where, crash_code, first_code, migrate_code}
pub use Rattle.rk_cluster.specs.Codes.{notice_code, place_code, table_code}
pub use Rattle.rk_cluster.specs.Dealt.{AreDealt, IsEighth}
pub use Rattle.rk_cluster.specs.Delivering.{Delivers, DeliversShort, IsDelivery, is_backup}
pub use Rattle.rk_cluster.specs.Effects.{Acts, ActsBy, ActsOne, AreCutShort, Carries, CutShortBy, EndsIn, HasCode, IsActedAs, IsCarriedOut}
pub use Rattle.rk_cluster.specs.Effects.{RunsTo}
pub use Rattle.rk_cluster.specs.Faults.{BySomeFate, CountsGoOn, LanesGoOn, RoseBy, counts_in, lane_counts, times_lost}
pub use Rattle.rk_cluster.specs.Inside.{cluster_of}
pub use Rattle.rk_cluster.specs.Looks.{all_lanes, calls_asked, calls_of, has_dead_owner, has_table, is_client, is_dead, is_master, is_owner}
pub use Rattle.rk_cluster.specs.Looks.{lanes_without, owner_in, rows_of, tables_of}
pub use Rattle.rk_cluster.specs.Makes.{again_makes, asks_in, call_makes, client_makes, deliver_makes, forget_makes, in_lane, in_lanes}
pub use Rattle.rk_cluster.specs.Makes.{next_tablet, turn_makes}
pub use Rattle.rk_cluster.specs.Masters.{HasBackups, backup_counts, backups_of, masters_of}
pub use Rattle.rk_cluster.specs.Quiet.{is_quiet_lane}
pub use Rattle.rk_cluster.specs.Replicas.{Fate, Kept, Lost, answer_of, left_by}
pub use Rattle.rk_cluster.specs.Saying.{said_then}
pub use Rattle.rk_cluster.specs.Spending.{AreButOne, HasTurnedOne, IsShortOf}
pub use Rattle.rk_cluster.specs.State.{AreWorlds, ClusterState, IsOf, IsWorld}
pub use Rattle.rk_cluster.specs.Steps.{AreLanes, AreStepsCutShort, CarriesSteps, EndsWorn, IsDeed, IsHappening, IsLosing, IsPlain}
pub use Rattle.rk_cluster.specs.Steps.{MayAllAct, MayComeAt, StepsEndWorn, WhereWorn, failure_of, lost_by, occurrences, state_of}
pub use Rattle.rk_cluster.specs.Tests.{HoldsIn, TellsOf}
pub use Rattle.rk_cluster.specs.Told.{LaneTells, LanesTell}
pub use Rattle.rk_cluster.specs.Turns.{clients_in, is_call_in, live_in, turns_of}
pub use Rattle.rk_cluster.specs.Visits.{AcceptsShort, HasSession, all_ask}
pub use Rattle.rk_cluster.specs.declared.code.Code.{Code}
pub use Rattle.rk_cluster.specs.declared.code.Code.TheVariants.{Busy, Crashed, Limit, NoPlace, NothingSent, Taken, Unknown}
pub use Rattle.rk_cluster.specs.declared.delivering.Delivered.{Delivered}
pub use Rattle.rk_cluster.specs.declared.error.ClusterError.{ClusterError}
pub use Rattle.rk_cluster.specs.declared.steps.Deed.{Deed}
pub use Rattle.rk_lane.specs.Events.{IsRefused, IsStepOf, OneFailed, fault_counts, receiver_by}
pub use Rattle.rk_lane.specs.LaneState.{AreTold, IsSameLane, LaneState, Running, replicas_of, world_with}
pub use Rattle.rk_lane.specs.Visits.{IsVisitOf}
pub use Rattle.rk_message.specs.Wire.{Traffic, number_at, receiver_of}
pub use Rattle.rk_message.specs.declared.message.Message.{Message}
pub use Rattle.rk_outside.specs.Segments.{Segments}
pub use Rattle.rk_tablet_map.specs.declared.row.Row.{Row}
pub use Rattle.rk_types.proofs.NumberMaps.{each_insert, get_same}
pub use Rattle.rk_types.proofs.Trees.{get_tree, in_order_tree, insert_tree}
pub use Rattle.rk_types.specs.NumberMap.{NumberMap, get, insert, numbers}
pub use Rattle.rk_types.specs.declared.call.Call.{Call}
pub use Rattle.rk_types.specs.declared.hashing.TheConstants.{LANES}
pub use Rattle.rk_types.specs.declared.node.Node.{Node}
pub use Rattle.rk_types.specs.declared.node.Said.{Said}
pub use Rattle.rk_world.specs.Backup.{Called, Gave}
pub use Rattle.rk_world.specs.Calls.{Visited, accept, ask}
pub use Rattle.rk_world.specs.Client.{Session, new_session}
pub use Rattle.rk_world.specs.Cluster.{Accepts, Asks, Cluster, ClusterMay, Happens, Joins, KeepsCalm, Occurrence, cluster_after}
pub use Rattle.rk_world.specs.Cluster.{cluster_stepped, lane_at, new_cluster, session_at}
pub use Rattle.rk_world.specs.ClusterRuns.{ReplicasTell}
pub use Rattle.rk_world.specs.Master.{Master}
pub use Rattle.rk_world.specs.Premises.{IsMaster, MayAct, MayHappen}
pub use Rattle.rk_world.specs.Refusals.{comes_anyway, refusal, where_true}
pub use Rattle.rk_world.specs.Replicas.{AllTell}
pub use Rattle.rk_world.specs.Runs.{IsFormedWithRoom, lives_another, world_visited}
pub use Rattle.rk_world.specs.Step.{Stepped, step, stepped_by, told_by_replica, told_for, told_to}
pub use Rattle.rk_world.specs.World.{World, has_crashed, live_masters, new_world}
pub use Rattle.rk_world.specs.declared.error.StepError.{StepError}
pub use Rattle.rk_world.specs.declared.event.Event.{Event}
pub use Rattle.rk_world.specs.declared.event.Seen.{Seen}
pub use Rattle.std.proofs.Common.{All, Bool, Bor, Err, IfErr, IfOk, IfSome, IsSome, IsSomeAnd, List, None, Ok, OnErr, Option, Result, Some}
pub use Rattle.std.proofs.Common.{[], ap, append-nil, append_assoc, arith, cond, drop, false, filter, inl, inr, is_none, is_some, length}
pub use Rattle.std.proofs.Common.{length-append, map, min, nat_le, not, refl, replicate, rules, slice_get, slice_index_or, slice_set, subst}
pub use Rattle.std.proofs.Common.{suc, sum, sym, take, tests, true, unwrap_or, zero, ℕ, ⊎_elim, ◌%◌, ◌&&◌, ◌*◌, ◌++◌, ◌+◌, ◌-◌, ◌<◌, ◌==◌}
pub use Rattle.std.proofs.Common.{◌^◌, ◌||◌, ◌∙◌, ◌∷◌, ◌≡◌, ◌≢◌, ◌≤◌, ◌⊎◌}
pub use Rattle.std.proofs.Math.ListN.{length-set}
pub use Rattle.std.proofs.lemmas.Bool.{cases_eq, eq-eqb}
pub use Rattle.std.proofs.lemmas.Bool.Decides.{nat_tests}
pub use Rattle.std.proofs.lemmas.Iterator.Consumers.{YieldsList-from_rest}
pub use Rattle.std.proofs.lemmas.Iterator.Search.{all_from_yields_List}
pub use Rattle.std.proofs.lemmas.List.{get_or-set_same, length-map, map-append, nil_from_length, set-get_or, take_all}
pub use Rattle.std.proofs.lemmas.List.Elements.{All-cons, All-head, All-map, All-more, All-nil, All-push, All-tail, All-weaker}
pub use Rattle.std.proofs.lemmas.List.Folds.{list_all-map, list_all_at, list_all_more}
pub use Rattle.std.proofs.lemmas.List.FromFn.{get_or-map-range_with_len, length-range_with_len}
pub use Rattle.std.proofs.lemmas.Option.{slice_get_past, slice_get_within}
pub use Rattle.std.proofs.lemmas.Result.{IfErr-weaker, IfOk-weaker, err_from_is_err_and, on_err_weaker, on_ok_weaker}
pub use Rattle.std.specs.BTreeMap.{values}
pub use Rattle.std.specs.Cmp.{unsigned_tied}
pub use Rattle.std.specs.Global.{Vec}
pub use Rattle.std.specs.List.{flat_map, list_all, range_with_len}
pub use Rattle.std.specs.Option.{option_copied, option_map, option_to_list}
pub use Rattle.std.specs.Ordering.{eq_by_cmp, nat_cmp}
pub use Rattle.std.specs.Vec.Iter.{into_iter_items}
