-- What contracts see of a table.
use Rattle.std.specs.Prelude.{ℕ, List}
use Rattle.rk_types.specs.declared.held.Held.{Held}
use Rattle.rk_bucket_table.specs.declared.table.BucketTable.{BucketTable}

-- its items, in scan order
abbrev pub items_of : BucketTable → List Held
items_of table = table.chains.items

-- how many more items it has room for
abbrev pub spare_of : BucketTable → ℕ
spare_of table = table.chains.spare
