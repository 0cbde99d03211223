-- The entries that are staged, and what is kept of the staged items of each record: of the newest one its version and whether
-- it has a value, and how many there are.
use Rattle.std.specs.Prelude.{◌≡◌, ℕ, ◌+◌, nat_lt, if◌then◌else◌, List, [], ◌∷◌, drop, Option, Some, None, is_some}
use Rattle.std.specs.declared.cmp.Ordering.{Ordering}
use Rattle.std.specs.Ordering.{nat_cmp, ordering_then}
use Rattle.std.specs.Cmp.Lexicographic.{slice_cmp}
use Rattle.std.specs.BTreeMap.{BTreeMap, get}
use Rattle.rk_types.specs.declared.held.Held.{Held}
use Rattle.rk_entry.specs.declared.entry.Entry.{Entry}
use Rattle.rk_entry.specs.declared.entry.Entry.TheVariants as entries
use Rattle.rk_overlay.specs.Newest.{is_of, newer_of, newest}
use Rattle.rk_world.specs.Ends.{items_of}
use Rattle.rk_staged.specs.declared.staged_entries.Kept.{Kept}
use Rattle.rk_staged.specs.declared.staged_entries.StagedEntries.{StagedEntries}

-- a table and a key of it
abbrev pub Name : Type 0
Name = ℕ × List ℕ

-- the order of names: by table, and then by key
abbrev pub name_cmp : Name → Name → Ordering
name_cmp a b = ordering_then (nat_cmp a.0 b.0) (slice_cmp nat_cmp a.1 b.1)

-- how many items of a record there are
abbrev pub many_of : List Held → ℕ → List ℕ → ℕ
many_of [] table key = 0
many_of (item ∷ items) table key = (if is_of table key item then 1 else 0) + many_of items table key

-- what is kept of the newest item, if there are so many
abbrev pub kept_of : Option Held → ℕ → Option Kept
kept_of None count = None
kept_of (Some item) count = Some (record { version = item.version; is_live = is_some item.value; count = count })

-- what is kept of the items of a record
abbrev pub kept : List Held → ℕ → List ℕ → Option Kept
kept items table key = kept_of (newest items table key) (many_of items table key)

-- what is kept once one more item of the record came, by what was kept
abbrev pub kept_with : Option Kept → Held → Kept
kept_with None item = record { version = item.version; is_live = is_some item.value; count = 1 }
kept_with (Some old) item =
    if nat_lt old.version item.version
    then record { version = item.version; is_live = is_some item.value; count = old.count + 1 }
    else record { version = old.version; is_live = old.is_live; count = old.count + 1 }

-- a tree keeps just what is kept of items
abbrev pub IsKept : BTreeMap Name Kept → List Held → Type 0
IsKept tree items = (table : ℕ) (key : List ℕ) → get name_cmp tree (table, key) ≡ kept items table key

-- the newer of what was found of a record and of an entry, if that is an item of the record
abbrev pub newer_in : Option Held → Entry → ℕ → List ℕ → Option Held
newer_in found (entries.Held item) table key = if is_of table key item then Some (newer_of found item) else found
newer_in found _ table key = found

-- just these entries are staged, and what is kept is what is to be kept of their items
pub record AreStaged (staged : StagedEntries) (entries : List Entry) : Type 0 where
  pub entries_are : staged.entries.items ≡ entries
  pub kept : IsKept staged.newest (items_of entries)

-- just the entries from a place on are staged
abbrev pub AreStagedFrom : ℕ → StagedEntries → List Entry → Type 0
AreStagedFrom place staged entries = AreStaged staged (drop place entries)
