-- The definitions and lemmas of crates below that several files cite here, passed on from one place. Declares nothing.
pub use Rattle.rk_done.specs.Completions.{completions_from}
pub use Rattle.rk_entry.specs.declared.entry.Entry.{Entry}
pub use Rattle.rk_rebuild.specs.Lent.{lent}
pub use Rattle.rk_rebuild.specs.Logs.{KnowsNamed, advanced, gathered_at, gathered_of, is_by, is_unread, log_of, members_of, passed}
pub use Rattle.rk_rebuild.specs.Versions.{HasVersions}
pub use Rattle.rk_rebuild.specs.declared.member.ReadLog.{ReadLog}
pub use Rattle.rk_rebuild.specs.declared.member.Reader.{Reader}
pub use Rattle.rk_types.specs.NumberMap.{get, insert}
pub use Rattle.rk_types.specs.declared.call.Ended.{Ended}
pub use Rattle.rk_types.specs.declared.held.Held.{Held}
pub use Rattle.rk_types.specs.declared.lineage.Member.{Member}
pub use Rattle.rk_types.specs.declared.range.Range.{Range}
pub use Rattle.rk_world.specs.Ends.{items_in, items_of}
pub use Rattle.rk_world.specs.Gather.{Gathered, counted_of}
pub use Rattle.rk_world.specs.Material.{counting, named}
pub use Rattle.rk_world.specs.Merge.{ends_by_place}
pub use Rattle.std.proofs.Common.{Bool, List, None, Option, Some, [], ap, arith, cond, drop, eqb, false, get_or, length, map, not, refl}
pub use Rattle.std.proofs.Common.{set, subst, sym, take, true, ℕ, ◌++◌, ◌+◌, ◌<◌, ◌||◌, ◌∙◌, ◌∷◌, ◌≡◌, ◌≤◌}
pub use Rattle.std.proofs.lemmas.Bool.{eq-eqb}
pub use Rattle.std.specs.List.{AllByRecursion, find, flat_map, list_any, position_or_len}
pub use Rattle.std.specs.Prelude.{filter}
pub use denote.Ref.{Bor}
