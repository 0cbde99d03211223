-- The definitions and lemmas of crates below that several files cite here, passed on from one place. Declares nothing.
pub use Rattle.rk_entry.proofs.Sizes.{held_spelled}
pub use Rattle.rk_entry.specs.Lawful.{IsLawfulHeld}
pub use Rattle.rk_entry.specs.Spelling.{spelled}
pub use Rattle.rk_log.specs.Cut.{cut, with_bytes}
pub use Rattle.rk_segment.specs.Segment.{NumberedBytes}
pub use Rattle.rk_side_log.specs.Replayed.{side_replayed}
pub use Rattle.rk_side_log.specs.Side.{IsFilled, Side, begun, no_side, room_in, segments_of}
pub use Rattle.rk_side_log.specs.Sides.{items_of_each, made_in}
pub use Rattle.rk_side_log.specs.Spelled.{bytes_in, items_read, spelled_items, unsealed_in}
pub use Rattle.rk_table.specs.Items.{found, is_newer}
pub use Rattle.rk_types.specs.Held.{spelled_of}
pub use Rattle.rk_types.specs.declared.held.Held.{Held}
pub use Rattle.rk_types.specs.declared.held.TheConstants.{LONGEST_SPELLED, SEGMENT_BYTES}
pub use Rattle.rk_world.specs.Material.{as_entries}
pub use Rattle.rk_world.specs.SideLogs.{cut_items, sealed_sides}
pub use Rattle.std.proofs.Common.{Bool, List, None, Option, Some, [], ap, append_assoc, arith, cond, drop, false, get_or, leb, length}
pub use Rattle.std.proofs.Common.{length-append, length-set, ltb, map, refl, replicate, set, subst, suc, sym, take, true, vec_capacity}
pub use Rattle.std.proofs.Common.{vec_len, zero, ℕ, ◌&&◌, ◌++◌, ◌+◌, ◌-◌, ◌<◌, ◌∙◌, ◌∷◌, ◌≡◌, ◌≤◌}
pub use Rattle.std.proofs.lemmas.Bool.{cond-false, cond-true, lt-ltb}
pub use Rattle.std.proofs.lemmas.List.{append-nil, length-map, map-append}
pub use Rattle.std.proofs.lemmas.List.Elements.{All-head, All-tail}
pub use Rattle.std.specs.List.{All}
pub use Rattle.std.specs.Prelude.{is_ok}
