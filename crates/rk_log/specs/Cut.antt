-- How the spellings of entries fill the main segments of a log, and where each entry ends.
use Rattle.std.specs.Prelude.{ℕ, zero, suc, ◌+◌, ◌-◌, ◌≤◌, Bool, ◌&&◌, nat_lt, nat_le, if◌then◌else◌, List, [], ◌∷◌, ◌++◌, length, slice_index_or, slice_set}
use Rattle.std.specs.List.{All}
use Rattle.rk_types.specs.declared.held.TheConstants.{SEGMENT_BYTES}
use Rattle.rk_entry.specs.declared.entry.Entry.{Entry}
use Rattle.rk_entry.specs.Spelling.{spelled}
use Rattle.rk_log.specs.declared.ends.EntryEnd.{EntryEnd}

-- each entry fits a segment
abbrev pub EachFits : List Entry → Type 0
EachFits entries = All (λ entry. length (spelled entry) ≤ SEGMENT_BYTES) entries

-- the bytes of the last segment, none if there is no segment
abbrev pub last_of : List (List ℕ) → List ℕ
last_of segments = slice_index_or segments (length segments - 1) []

-- whether there is a segment, and the last one has room for these bytes
abbrev pub has_room : List (List ℕ) → List ℕ → Bool
has_room segments bytes = nat_lt 0 (length segments) && nat_le (length (last_of segments) + length bytes) SEGMENT_BYTES

-- the segments with these bytes at the end of the last one
abbrev pub in_last : List (List ℕ) → List ℕ → List (List ℕ)
in_last segments bytes = slice_set segments (length segments - 1) (last_of segments ++ bytes)

-- the segments with these bytes in the last one if they fit, and otherwise in one more
abbrev pub with_bytes : List (List ℕ) → List ℕ → List (List ℕ)
with_bytes segments bytes = if has_room segments bytes then in_last segments bytes else segments ++ bytes ∷ []

-- the segments after entries that were put behind these
abbrev pub cut_after : List (List ℕ) → List Entry → List (List ℕ)
cut_after segments [] = segments
cut_after segments (entry ∷ entries) = cut_after (with_bytes segments (spelled entry)) entries

-- the main segments of a log: each entry goes into the last segment if it fits, and otherwise begins the next one
abbrev pub cut : List Entry → List (List ℕ)
cut entries = cut_after [] entries

-- where the last entry of these segments ends
abbrev pub end_of : List (List ℕ) → EntryEnd
end_of segments = record { segment = length segments; offset = length (last_of segments) }

-- where each of the entries ends that were put behind these segments
abbrev pub ends_after : List (List ℕ) → List Entry → List EntryEnd
ends_after segments [] = []
ends_after segments (entry ∷ entries) =
    end_of (with_bytes segments (spelled entry)) ∷ ends_after (with_bytes segments (spelled entry)) entries

-- where each entry of a log ends
abbrev pub ends : List Entry → List EntryEnd
ends entries = ends_after [] entries

-- where the entry before a place ends, and else the front of the first segment
abbrev pub start_of : List Entry → ℕ → EntryEnd
start_of entries zero = record { segment = 1; offset = 0 }
start_of entries (suc place) = slice_index_or (ends entries) place (record { segment = 1; offset = 0 })
