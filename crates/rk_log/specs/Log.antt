-- A log as contracts see it, and what becomes of it.
use Rattle.std.specs.Prelude.{ℕ, suc, ◌+◌, ◌-◌, ◌≤◌, ◌==◌, Bool, false, not, nat_lt, if◌then◌else◌, List, [], ◌∷◌, ◌++◌, length, drop, slice_get, slice_index_or, slice_set, Option, Some, None, IfSome, refl}
use Rattle.std.specs.List.{find, list_all, prefix_len, sum_by}
use Rattle.std.specs.Option.{option_map, option_map_or}
use Rattle.std.specs.Coded.{Coded, code_by, coded×, coded_list, coded_ℕ}
use Rattle.rk_types.specs.NumberMap.{number_map_code}
use Rattle.rk_entry.specs.declared.entry.Entry.{Entry}
use Rattle.rk_entry.specs.contracts.entry.Entry as entry_type
use Rattle.rk_entry.specs.declared.lists.TheConstants.{FIRST_SIDE_SEGMENT}
use Rattle.rk_segment.specs.Segment.{NumberedBytes}
use Rattle.rk_log.specs.declared.overreach.Overreach.{Overreach}
use Rattle.rk_log.specs.declared.ends.EntryEnd.{EntryEnd}
use Rattle.rk_log.specs.Cut.{cut, ends}
use Rattle.rk_log.specs.Known.{Known, known_length, nothing, told, is_whole, reaches}
use Rattle.rk_log.specs.Piece.{PlacedBytes}

-- the entries, the bytes of the side segments, and what each backup is known to hold
pub record Log : Type 0 where
  pub entries : List Entry
  pub sides : List (List ℕ)
  pub known : List Known

-- it is stored as the tuple of its fields
abbrev pub log_code : Coded Log
log_code =
    code_by (List Entry × (List (List ℕ) × List Known))
    (coded× (coded_list entry_type.the_row.coded) (coded× (coded_list (coded_list coded_ℕ)) (coded_list (number_map_code coded_ℕ))))
    (λ log. (log.entries, (log.sides, log.known))) (λ p. record { entries = p.0; sides = p.1.0; known = p.1.1 }) (λ _. refl)

-- segments with their numbers, which count from this one
abbrev pub numbered : ℕ → List (List ℕ) → List NumberedBytes
numbered first [] = []
numbered first (bytes ∷ more) = record { number = first; bytes = bytes } ∷ numbered (suc first) more

-- the side segments
abbrev pub side_segments : Log → List NumberedBytes
side_segments log = numbered FIRST_SIDE_SEGMENT log.sides

-- all segments, the main ones first
abbrev pub segments : Log → List NumberedBytes
segments log = numbered 1 (cut log.entries) ++ side_segments log

-- the segment of this number, if there is one
abbrev pub segment_of : ℕ → List NumberedBytes → Option NumberedBytes
segment_of number segments = find (λ segment. segment.number == number) segments

-- the bytes of the segment of this number, none if there is no such segment
abbrev pub bytes_of : Log → ℕ → List ℕ
bytes_of log number = option_map_or (λ segment. segment.bytes) (segment_of number (segments log)) []

-- how many bytes all segments have together
abbrev pub segment_bytes : Log → ℕ
segment_bytes log = sum_by (λ bytes. length bytes) (cut log.entries) + sum_by (λ bytes. length bytes) log.sides

-- the log of no entries, of which these backups hold nothing
abbrev pub new_log : List Known → Log
new_log known = record { entries = []; sides = []; known = known }

-- the log with one more entry at its end
abbrev pub with_entry : Log → Entry → Log
with_entry log entry = record log { entries = log.entries ++ entry ∷ [] }

-- the log with one more side segment
abbrev pub with_side : Log → List ℕ → Log
with_side log bytes = record log { sides = log.sides ++ bytes ∷ [] }

-- the backups are numbered from 1
pub record IsBackup (log : Log) (backup : ℕ) : Type 0 where
  pub first : 1 ≤ backup
  pub last : backup ≤ length log.known

-- what a backup is known to hold
abbrev pub known_of : Log → ℕ → Known
known_of log backup = slice_index_or log.known (backup - 1) nothing

-- the log once a backup reported that it holds so many bytes of a segment
abbrev pub with_told : Log → ℕ → ℕ → ℕ → Log
with_told log backup segment size =
    record log { known = slice_set log.known (backup - 1) (told (known_of log backup) segment size) }

-- why a backup cannot hold so many bytes of a segment, if the segment has fewer
abbrev pub overreach : Log → ℕ → ℕ → Option Overreach
overreach log segment size =
    if nat_lt (length (bytes_of log segment)) size
    then Some (record { length = size; limit = length (bytes_of log segment) })
    else None

-- whether every backup is known to hold all bytes of an entry that ends there
abbrev pub is_held : List Known → EntryEnd → Bool
is_held known end = list_all (λ backup. reaches backup end) known

-- how many entries, counted from the first, every backup is known to hold
abbrev pub committed : Log → ℕ
committed log = prefix_len (is_held log.known) (ends log.entries)

-- a backup is known to hold the entry at a place: the segment that it is in, up to the end of the entry
abbrev pub HoldsEntry : Log → ℕ → ℕ → Type 0
HoldsEntry log backup place = IfSome (slice_get (ends log.entries) place) (λ end. end.offset ≤ known_length (known_of log backup) end.segment)

-- the bytes of a segment that are not known to be held
abbrev pub missing : Known → NumberedBytes → PlacedBytes
missing known segment =
    let at = known_length known segment.number in
    record { segment = segment.number; at = at; bytes = drop at segment.bytes }

-- what a backup is to be sent next: the missing bytes of the first segment that it is not known to hold whole
abbrev pub pending : Log → ℕ → Option PlacedBytes
pending log backup =
    option_map (missing (known_of log backup)) (find (λ segment. not (is_whole (known_of log backup) segment)) (segments log))

-- whether there is a side segment of this number, and every backup is known to hold all of it
abbrev pub is_side_stored : Log → ℕ → Bool
is_side_stored log number =
    option_map_or (λ segment. list_all (λ known. is_whole known segment) log.known) (segment_of number (side_segments log)) false
