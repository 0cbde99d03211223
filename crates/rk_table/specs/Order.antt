-- Scan order: the items of a table are sorted by bucket, then by hash, then by table, then by key.
use Rattle.std.specs.Prelude.{ℕ, Bool, List}
use Rattle.std.specs.declared.cmp.Ordering.{Ordering}
use Rattle.std.specs.Ordering.{nat_cmp, on, then_cmp, is_lt}
use Rattle.std.specs.Cmp.Lexicographic.{slice_cmp}
use Rattle.std.specs.List.Sorted.{IsStrictlySortedBy}
use Rattle.rk_types.specs.declared.held.Held.{Held}
use Rattle.rk_types.specs.Hashing.{hash_of, bucket_of}

-- the place of an item: the bucket and the hash of its key, its table, and its key
abbrev pub Place : Type 0
Place = ℕ × ℕ × ℕ × List ℕ

-- the place of a key of a table
abbrev pub place_of : ℕ → List ℕ → Place
place_of table key = (bucket_of (hash_of key), hash_of key, table, key)

-- the hash of an item's key
abbrev pub item_hash : Held → ℕ
item_hash item = hash_of item.key

-- the bucket of an item's key
abbrev pub item_bucket : Held → ℕ
item_bucket item = bucket_of (hash_of item.key)

-- the place of an item
abbrev pub item_place : Held → Place
item_place item = place_of item.table item.key

-- which of two places comes first
abbrev pub place_cmp : Place → Place → Ordering
place_cmp =
    then_cmp (on (λ p. p.0) nat_cmp)
    (then_cmp (on (λ p. p.1) nat_cmp)
    (then_cmp (on (λ p. p.2) nat_cmp) (on (λ p. p.3) (slice_cmp nat_cmp))))

-- which of two items comes first
abbrev pub item_cmp : Held → Held → Ordering
item_cmp = on item_place place_cmp

-- whether an item comes before another
abbrev pub is_before : Held → Held → Bool
is_before a b = is_lt (item_cmp a b)

-- each item comes before all those behind it, so no key of a table is there twice
abbrev pub IsInScanOrder : List Held → Type 0
IsInScanOrder items = IsStrictlySortedBy item_cmp items
