-- How a scan counts.
use Rattle.std.specs.Prelude.{ℕ, ◌+◌, ◌≤◌, ◌==◌, if◌then◌else◌, List}
use Rattle.std.specs.List.{AllByRecursion}
use Rattle.rk_types.specs.declared.held.Held.{Held}
use Rattle.rk_types.specs.declared.held.Token.{Token}
use Rattle.rk_table.specs.Order.{item_bucket}

-- no item is in a bucket before this one
abbrev pub IsFrom : ℕ → List Held → Type 0
IsFrom bucket items = AllByRecursion (λ item. bucket ≤ item_bucket item) items

-- the token behind one more item of a bucket: one more of its own bucket, or the first one of another
abbrev pub counted_by : Token → ℕ → Token
counted_by token bucket = record { bucket = bucket; skip = if bucket == token.bucket then token.skip + 1 else 1 }
