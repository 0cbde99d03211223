-- The definitions and lemmas of crates below that several files cite here, passed on from one place. Declares nothing.
pub use Rattle.rk_entry.specs.declared.entry.Entry.{Entry}
pub use Rattle.rk_overlay.specs.Newest.{newest}
pub use Rattle.rk_staged.specs.Counts.{IsCounted}
pub use Rattle.rk_types.specs.NumberMap.{NumberMap}
pub use Rattle.rk_types.specs.declared.call.Call.{Call}
pub use Rattle.rk_types.specs.declared.held.Held.{Held}
pub use Rattle.rk_world.specs.Ends.{items_of}
pub use Rattle.std.proofs.Common.{Bool, List, None, Option, Some, [], ap, append_assoc, arith, cond, drop, eqb, false, ltb, refl, slice_get}
pub use Rattle.std.proofs.Common.{subst, suc, sym, take, true, zero, ℕ, ⊎_elim, ◌&&◌, ◌++◌, ◌+◌, ◌-◌, ◌<◌, ◌∙◌, ◌∷◌, ◌≡◌, ◌≤◌}
pub use Rattle.std.proofs.lemmas.Bool.{cond-false, cond-true, false≢true}
pub use Rattle.std.proofs.lemmas.List.{append-nil}
pub use Rattle.std.specs.Cmp.{unsigned_tied}
pub use Rattle.std.specs.Option.{option_copied}
pub use Rattle.std.specs.Ordering.{is_eq, nat_cmp}
