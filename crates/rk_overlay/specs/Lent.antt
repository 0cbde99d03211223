-- The tree of the newest items so far, lent, which the code builds while it walks the lists.
use Rattle.std.specs.Prelude.{◌≡◌, ℕ, List}
use Rattle.std.specs.declared.cmp.Ordering.{Ordering}
use Rattle.std.specs.Ordering.{nat_cmp, ordering_then}
use Rattle.std.specs.Cmp.Lexicographic.{slice_cmp}
use Rattle.std.specs.Option.{option_copied}
use Rattle.std.specs.BTreeMap.{BTreeMap, get}
use denote.Ref.{Bor}
use Rattle.rk_types.specs.declared.held.Held.{Held}
use Rattle.rk_overlay.specs.Newest.{Found}

-- a table and a key of it
abbrev pub Name : Type 0
Name = ℕ × Bor (List ℕ)

-- the order of names: by table, and then by key
abbrev pub name_cmp : Name → Name → Ordering
name_cmp a b = ordering_then (nat_cmp a.0 b.0) (slice_cmp nat_cmp a.1.now b.1.now)

-- under each name the tree has what is found there
abbrev pub IsTreeOf : BTreeMap Name (Bor Held) → Found → Type 0
IsTreeOf tree found = (name : Name) → option_copied (get name_cmp tree name) ≡ found name.0 name.1.now
