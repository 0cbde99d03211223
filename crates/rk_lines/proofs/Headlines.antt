-- The law of records by key.
use Rattle.std.specs.Prelude.{◌≡◌, List}
use Rattle.std.proofs.Common.{arith}
use Rattle.rk_types.specs.declared.held.Held.{Held}
use Rattle.rk_lines.specs.Records.{AreByKey, by_key}
use Rattle.rk_lines.proofs.ByKey.{rises_by_key, kept_by_key, sorted_from_rises, same_by_key}

-- Items by key are the same items in the order of their keys, with those of one key in their order, and no other list is.
pub items_by_key_are_sorted : (items : List Held) → AreByKey items (by_key items)
items_by_key_are_sorted items = grind (arith, sorted_from_rises, rises_by_key, same_by_key, kept_by_key)

pub items_by_key_are_pinned : (items sorted : List Held) → AreByKey items sorted → sorted ≡ by_key items
items_by_key_are_pinned items sorted are = Rattle.rk_lines.proofs.ByKey.by_key_alone items sorted are.rises are.stable
