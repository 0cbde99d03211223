-- The set of the items that there are, by table, key and version.
use Rattle.std.specs.Prelude.{◌≡◌, ℕ, ◌==◌, ◌&&◌, List, bytes_eq}
use Rattle.std.specs.declared.cmp.Ordering.{Ordering}
use Rattle.std.specs.Ordering.{nat_cmp, ordering_then}
use Rattle.std.specs.Cmp.Lexicographic.{slice_cmp}
use Rattle.std.specs.List.{list_any}
use Rattle.std.specs.BTreeSet.{BTreeSet, contains}
use denote.Ref.{Bor}
use Rattle.rk_types.specs.declared.held.Held.{Held}

-- a table, a key of it and a version
abbrev pub Version : Type 0
Version = ℕ × Bor (List ℕ) × ℕ

-- the order of versions: by table, then by key, and then by number
abbrev pub version_cmp : Version → Version → Ordering
version_cmp a b = ordering_then (ordering_then (nat_cmp a.0 b.0) (slice_cmp nat_cmp a.1.now b.1.now)) (nat_cmp a.2 b.2)

-- the set has just the versions of these items
abbrev pub HasVersions : BTreeSet Version → List Held → Type 0
HasVersions set items =
    (version : Version) → contains version_cmp set version
    ≡ list_any (λ item. item.table == version.0 && bytes_eq item.key version.1.now && (item.version == version.2)) items
