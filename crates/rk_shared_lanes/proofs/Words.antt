-- The definitions and lemmas of crates below that several files cite here, passed on from one place. Declares nothing.
pub use Rattle.rk_attempts.proofs.Works.{IsHandingOut, first_turned, one_handed_out}
pub use Rattle.rk_attempts.specs.Came.{Comes}
pub use Rattle.rk_attempts.specs.Ends.{EndsAt, IsEvent, IsSending, StopsAt}
pub use Rattle.rk_attempts.specs.Progress.{started}
pub use Rattle.rk_attempts.specs.Turns.{next_message}
pub use Rattle.rk_attempts.specs.declared.attempt.Short.{Short}
pub use Rattle.rk_backup.specs.declared.lane.BackupLane.{BackupLane}
pub use Rattle.rk_cluster.proofs.Failing.{lanes_visited}
pub use Rattle.rk_cluster.specs.Faults.{Counts, LanesGoOn, RoseBy, lane_counts}
pub use Rattle.rk_lane.specs.LaneState.{AreTold, IsSameLane, LaneState, Running, world_with}
pub use Rattle.rk_lane.specs.Visits.{IsVisitOf}
pub use Rattle.rk_laws_lanes.specs.gathered.Gathered.{IsOrderly}
pub use Rattle.rk_laws_lanes.specs.gathered.OpenCalls.{HasCountedCalls}
pub use Rattle.rk_laws_lanes.specs.Counts.{HasSameClients, accepted_count}
pub use Rattle.rk_laws_lanes.specs.GoodLane.{IsGoodLane}
pub use Rattle.rk_message.specs.declared.calls.Located.{Located}
pub use Rattle.rk_message.specs.declared.calls.Reply.{Reply}
pub use Rattle.rk_message.specs.declared.message.Body.{Body}
pub use Rattle.rk_message.specs.declared.message.Message.{Message}
pub use Rattle.rk_outside.specs.Segments.{Segments}
pub use Rattle.rk_laws_lanes.specs.Below.{waiting}
pub use Rattle.rk_shared_lanes.specs.Counting.{is_answer}
pub use Rattle.rk_shared_lanes.specs.Kept.{IsKept, IsNoneBelow, IsPart, IsSoundOrSpent, StandsFor}
pub use Rattle.rk_shared_lanes.specs.Passes.{IsPass, MakesOnly, PassState, one_if}
pub use Rattle.rk_shared_lanes.specs.Together.{AllSoundOrSpent, IsIdle, IsOfRoster, IsUnasked, numbers_of, powers_of, sessions_of}
pub use Rattle.rk_types.specs.NumberMap.{NumberMap, get}
pub use Rattle.rk_types.specs.declared.call.Answer.{Answer}
pub use Rattle.rk_types.specs.declared.call.Call.{Call}
pub use Rattle.rk_types.specs.declared.call.Op.{Op}
pub use Rattle.rk_types.specs.declared.hashing.TheConstants.{LANES}
pub use Rattle.rk_types.specs.declared.history.Placed.{Placed}
pub use Rattle.rk_types.specs.declared.history.Receipt.{Receipt}
pub use Rattle.rk_world.specs.Calls.{Visited, accept, accepting, ask, is_asked_here, taking, untouched}
pub use Rattle.rk_world.specs.Client.{Session, accepted_by, accepted_of, answer_accepted, call_lane, has_call, ignoring, next_call}
pub use Rattle.rk_world.specs.Client.{with_next_call, with_range}
pub use Rattle.rk_world.specs.Ledger.{Ledger, is_added}
pub use Rattle.rk_world.specs.Premises.{IsLawfulCall, MayAct}
pub use Rattle.rk_world.specs.Refusals.{accept_refusal, ask_refusal}
pub use Rattle.rk_world.specs.Runs.{world_visited}
pub use Rattle.rk_world.specs.World.{World}
pub use Rattle.rk_world.specs.declared.error.StepError.{StepError}
pub use Rattle.rk_world.specs.declared.event.Event.{Event}
pub use Rattle.rk_world.specs.declared.event.Seen.{Seen}
pub use Rattle.rk_world.specs.declared.event.Taken.{Taken}
pub use Rattle.std.proofs.Common.{Bool, Err, List, None, Ok, Option, Result, Some, [], ap, arith, cond, false, is_some, length, not, refl}
pub use Rattle.std.proofs.Common.{reverse, subst, sym, true, vec_capacity, vec_len, ℕ, ⊎_elim, ◌++◌, ◌+◌, ◌<◌, ◌^◌, ◌∙◌, ◌∷◌, ◌≡◌, ◌≢◌, ◌≤◌}
pub use Rattle.std.proofs.lemmas.Bool.{false≢true}
pub use Rattle.std.proofs.lemmas.Grind.{common_steps}
pub use Rattle.std.proofs.lemmas.List.Elements.{All-nil, All-push}
pub use Rattle.std.proofs.lemmas.List.Sums.{sum_by_push}
pub use Rattle.std.proofs.lemmas.Result.{err_from_is_err_and}
pub use Rattle.std.specs.List.{All}
pub use Rattle.std.specs.Prelude.{IfErr, IfOk, IfSome, OnOk, ◌==◌}
