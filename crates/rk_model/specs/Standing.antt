-- What the code keeps of a map while it walks a history: what is at each key that a record changed.
use Rattle.std.specs.Prelude.{◌≡◌, ℕ, List, Option, Some, None}
use Rattle.std.specs.declared.cmp.Ordering.{Ordering}
use Rattle.std.specs.Ordering.{nat_cmp, ordering_then}
use Rattle.std.specs.Cmp.Lexicographic.{slice_cmp}
use Rattle.std.specs.BTreeMap.{BTreeMap, get}
use denote.Ref.{Bor}
use Rattle.rk_model.specs.declared.replay.Standing.{Standing}
use Rattle.rk_model.specs.declared.replay.Standing.TheVariants.{Never, Live, Gone}
use Rattle.rk_model.specs.Machine.{Entry, never, live, gone}
use Rattle.rk_model.specs.History.{Map}

-- the entry that is there
abbrev pub entry_of : Standing → Entry
entry_of Never = never
entry_of (Live version value) = live version value.now
entry_of (Gone version) = gone version

-- what was found at a key, or nothing so far
abbrev pub entry_found : Option Standing → Entry
entry_found None = never
entry_found (Some standing) = entry_of standing

-- a table and a key of it
abbrev pub Name : Type 0
Name = ℕ × Bor (List ℕ)

-- the order of names: by table, and then by key
abbrev pub name_cmp : Name → Name → Ordering
name_cmp a b = ordering_then (nat_cmp a.0 b.0) (slice_cmp nat_cmp a.1.now b.1.now)

-- at each key is what the map has there
abbrev pub StandsFor : BTreeMap Name Standing → Map → Type 0
StandsFor standings map = (name : Name) → entry_found (get name_cmp standings name) ≡ map name.0 name.1.now
