-- The entries that segments spell, and those that are read back from where segments are stored.
use Rattle.std.specs.Prelude.{ℕ, zero, suc, List, [], ◌∷◌, ◌++◌, drop, Option, Some, None}
use Rattle.std.specs.List.{flat_map}
use Rattle.rk_entry.specs.declared.entry.Entry.{Entry}
use Rattle.rk_entry.specs.Entries.{entries_of}
use Rattle.rk_log.specs.declared.copied.TheConstants.{FIRST_SEGMENT}

-- the entries that these segments spell, each up to the first place where there is no whole entry
abbrev pub spelled_in : List (List ℕ) → List Entry
spelled_in segments = flat_map entries_of segments

-- the entries that these segments spell, those of the first one from this byte on
abbrev pub spelled_behind : ℕ → List (List ℕ) → List Entry
spelled_behind offset [] = []
spelled_behind offset (bytes ∷ more) = entries_of (drop offset bytes) ++ spelled_in more

-- a segment and those behind it, if it was written
abbrev pub written_then : Option (List ℕ) → List (List ℕ) → List (List ℕ)
written_then None more = []
written_then (Some bytes) more = bytes ∷ more

-- the segments from this number on, at most so many, until one was never written
unfoldable pub written_from : (ℕ → Option (List ℕ)) → ℕ → ℕ → List (List ℕ)
written_from segments number zero = []
written_from segments number (suc most) = written_then (segments number) (written_from segments (suc number) most)

-- the entries of a log, read from its main segments where they are stored, of which there are at most so many
abbrev pub stored_entries : ℕ → (ℕ → Option (List ℕ)) → List Entry
stored_entries most segments = spelled_in (written_from segments FIRST_SEGMENT most)
