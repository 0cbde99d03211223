-- Entries that follow one another at the front of bytes.
use Rattle.std.specs.Prelude.{◌≡◌, ℕ, zero, suc, List, [], ◌∷◌, ◌++◌, length, drop, Result, Ok, Err}
use Rattle.std.specs.List.{AllByRecursion, flat_map}
use Rattle.rk_entry.specs.declared.error.DecodeError.{DecodeError}
use Rattle.rk_entry.specs.declared.entry.Entry.{Entry}
use Rattle.rk_entry.specs.Spelling.{spelled}
use Rattle.rk_entry.specs.Lawful.{IsLawfulEntry}
use Rattle.rk_entry.specs.Reading.{read_entry}

-- a lawful entry is spelled by the first `count` bytes
pub record StandsFirst (bytes : List ℕ) (entry : Entry) (count : ℕ) : Type 0 where
  pub lawful : IsLawfulEntry entry
  pub count_is : count ≡ length (spelled entry)
  pub bytes_are : bytes ≡ spelled entry ++ drop count bytes

-- the spellings of entries, one after the other
unfoldable pub spelled_all : List Entry → List ℕ
spelled_all entries = flat_map spelled entries

-- no lawful entry is spelled at the front of the bytes
abbrev pub StandsNone : List ℕ → Type 0
StandsNone bytes = (entry : Entry) (after : List ℕ) → IsLawfulEntry entry → bytes ≡ spelled entry ++ after → ⊥

-- these entries follow one another at the front of the bytes, and none is at the front of the rest
pub record Stand (bytes : List ℕ) (entries : List Entry) (rest : List ℕ) : Type 0 where
  pub each : AllByRecursion IsLawfulEntry entries
  pub bytes_are : bytes ≡ spelled_all entries ++ rest
  pub none_after : StandsNone rest

-- the entry that was read before those of the bytes after it, if one was
abbrev pub before_others : Result (Entry × List ℕ) DecodeError → (List ℕ → List Entry) → List Entry
before_others (Ok x) others = x.0 ∷ others x.1
before_others (Err fault) others = []

-- the entries that are read one after the other, up to the first place where none is, and at most so many
unfoldable pub entries_within : ℕ → List ℕ → List Entry
entries_within zero bytes = []
entries_within (suc most) bytes = before_others (read_entry bytes) (entries_within most)

-- the entries that are read one after the other, which are no more than the bytes
unfoldable pub entries_of : List ℕ → List Entry
entries_of bytes = entries_within (length bytes) bytes
