-- The definitions and lemmas of crates below that several files cite here, passed on from one place. Declares nothing.
pub use Rattle.rk_bucket_table.specs.Cells.{AreChains, AreLinked, ArePlaced, Cells, IsChain, IsSegment, IsTable, cell_at, cell_of, chain}
pub use Rattle.rk_bucket_table.specs.Cells.{chain_of, items_in, joined, place_seen, taken}
pub use Rattle.rk_bucket_table.specs.Scanning.{IsFrom, counted_by}
pub use Rattle.rk_bucket_table.specs.Shown.{Shown}
pub use Rattle.rk_bucket_table.specs.Spots.{HasLast, IsPassed, IsSought, IsSpot, StopsAt}
pub use Rattle.rk_bucket_table.specs.declared.cell.Cell.{Cell}
pub use Rattle.rk_bucket_table.specs.declared.cell.TheConstants.{END}
pub use Rattle.rk_table.proofs.Found.{order_of_back}
pub use Rattle.rk_table.proofs.Ordered.{Rises, filter_kept, filter_left_out}
pub use Rattle.rk_table.specs.Items.{at_hash, found, is_at, is_live_in, live_in, without}
pub use Rattle.rk_table.specs.Order.{IsInScanOrder, Place, item_bucket, item_cmp, item_hash, place_of}
pub use Rattle.rk_table.specs.Places.{comes_before}
pub use Rattle.rk_table.specs.Scans.{batch_at, left, next_token, passed, rest_at, token_behind}
unfoldable pub use Rattle.rk_types.specs.Hashing.{hash_of}
pub use Rattle.rk_types.specs.declared.held.Held.{Held}
pub use Rattle.rk_types.specs.declared.held.Token.{Token}
pub use Rattle.rk_types.specs.declared.range.Range.{Range}
pub use Rattle.slab.specs.Slab.{ContainsKey, Slab}
pub use Rattle.std.proofs.Common.{Bool, List, None, Option, Some, [], ap, append_assoc, arith, cond, drop, eqb, false, get_or, inl, inr}
pub use Rattle.std.proofs.Common.{is_some, length, length-append, map, refl, set, subst, suc, sym, take, true, vec_len, zero, ℕ, ⊎_elim}
pub use Rattle.std.proofs.Common.{◌*◌, ◌++◌, ◌+◌, ◌<◌, ◌^◌, ◌∙◌, ◌∷◌, ◌≡◌, ◌≢◌, ◌≤◌, ◌⊎◌}
pub use Rattle.std.proofs.lemmas.Bool.{cases_lt, cond-false, cond-true, eq-eqb, false≢true, ne_eqb}
pub use Rattle.std.proofs.lemmas.List.{append-nil, drop_more, get_or_at, length-take}
pub use Rattle.std.proofs.lemmas.List.Elements.{filter-append}
pub use Rattle.std.proofs.lemmas.List.Sums.{count_by-le-length}
pub use Rattle.std.specs.List.{AllByRecursion, list_any}
unfoldable pub use Rattle.std.specs.List.Sorted.{IsStrictlySortedBy}
pub use Rattle.std.specs.declared.cmp.Ordering.TheVariants.{Less}
