-- The definitions and lemmas of crates below that several files cite here, passed on from one place. Declares nothing.
pub use Rattle.rk_cluster.specs.State.{AreWorlds, ClusterState, IsOf}
pub use Rattle.rk_cluster.specs.Steps.{MayAllAct, state_of}
pub use Rattle.rk_cluster.specs.Told.{LanesTell}
pub use Rattle.rk_conclude.specs.Concluded.{EndsSo, WritesReport}
pub use Rattle.rk_conclude.specs.Reports.{Audits, audit_line, audit_status, history_part}
pub use Rattle.rk_conclude.specs.Results.{by_client, is_owner, owner_at, with_session}
pub use Rattle.rk_history.specs.Journals.{journals_of}
pub use Rattle.rk_lane.specs.LaneState.{LaneState}
pub use Rattle.rk_laws_lanes.specs.gathered.Sessions.{receipts_in}
pub use Rattle.rk_model.specs.Ordered.{IsRecorded}
pub use Rattle.rk_outside.specs.Parts.{AppendsPart}
pub use Rattle.rk_outside.specs.Segments.{Segments}
pub use Rattle.rk_types.specs.NumberMap.{NumberMap}
pub use Rattle.rk_types.specs.declared.history.Placed.{Placed}
pub use Rattle.rk_types.specs.declared.history.Receipt.{Receipt}
pub use Rattle.rk_types.specs.declared.status.Status.{Status}
pub use Rattle.rk_workload.specs.Summary.{result_lines}
pub use Rattle.rk_world.specs.Client.{Session}
pub use Rattle.rk_world.specs.Cluster.{Cluster}
pub use Rattle.rk_world.specs.Ledger.{Ledger}
pub use Rattle.rk_world.specs.World.{World}
pub use Rattle.std.proofs.Common.{All, Bool, Bor, List, None, Option, Some, [], ap, append-nil, append_assoc, arith, fold, length, map, min}
pub use Rattle.std.proofs.Common.{refl, slice_get, subst, sym, take, true, ℕ, ◌++◌, ◌-◌, ◌^◌, ◌∙◌, ◌∷◌, ◌≡◌, ◌≤◌}
pub use Rattle.std.proofs.lemmas.List.{length-map}
pub use Rattle.std.specs.Io.KnownBytes.{Appends}
pub use Rattle.std.specs.List.{list_all, sum_by}
pub use Rattle.std.specs.Option.{option_copied}
pub use Rattle.std.specs.Slice.{IsItemAt}
pub use Rattle.std.specs.Vec.Iter.{into_iter_items}
