-- How the parts of a log's struct represent it.
use Rattle.std.specs.Prelude.{◌≡◌, ℕ, suc, ◌+◌, ◌-◌, ◌<◌, ◌≤◌, ◌^◌, Bool, true, nat_lt, nat_le, max, min, if◌then◌else◌, List, [], ◌∷◌, length, map, take, drop, replicate, slice_get, slice_index, slice_index_or, slice_set, Option, None}
use Rattle.std.specs.List.{AllByRecursion, list_all, prefix_len, range_with_len}
use Rattle.std.specs.Option.{option_map, option_map_or, option_or}
use Rattle.rk_entry.specs.declared.entry.Entry.{Entry}
use Rattle.rk_entry.specs.declared.lists.TheConstants.{FIRST_SIDE_SEGMENT}
use Rattle.rk_log.specs.declared.copied.Copied.{Copied}
use Rattle.rk_log.specs.declared.copied.TheConstants.{FIRST_SEGMENT, MOST_BACKUPS}
use Rattle.rk_log.specs.declared.cursor.Cursor.{Cursor}
use Rattle.rk_log.specs.declared.ends.EntryEnd.{EntryEnd}
use Rattle.rk_log.specs.declared.log.MasterLog.TheInside.{Inside}
use Rattle.rk_log.specs.Piece.{PlacedBytes}
use Rattle.rk_entry.specs.Lawful.{IsLawfulEntry}
use Rattle.rk_log.specs.Cut.{EachFits, cut, ends}
use Rattle.rk_log.specs.Stored.{spelled_in}
use Rattle.rk_log.specs.Log.{Log, segment_bytes}
use Rattle.rk_log.specs.Known.{Known, nothing, told}

-- the bytes of each segment
abbrev pub bytes_in : List Copied → List (List ℕ)
bytes_in segments = map (λ copied. copied.segment.bytes) segments

-- the known lengths of each segment, one for each backup
abbrev pub lengths_in : List Copied → List (List ℕ)
lengths_in segments = map (λ copied. copied.known) segments

-- the known lengths of a segment of which nothing is known
abbrev pub none_known : List ℕ
none_known = replicate MOST_BACKUPS 0

-- the segment of this number, among those that are numbered from `first` on
abbrev pub copied_of : ℕ → ℕ → List Copied → Option Copied
copied_of first number segments = if nat_lt number first then None else slice_get segments (number - first)

-- the bytes of the segment of this number, none if it is among neither
abbrev pub bytes_among : ℕ → List Copied → List Copied → List ℕ
bytes_among number main sides =
    option_map_or (λ copied. copied.segment.bytes) (option_or (copied_of FIRST_SEGMENT number main) (copied_of FIRST_SIDE_SEGMENT number sides)) []

-- the known lengths of a segment once a backup reported that it holds so much of it; backups count from 0 here
abbrev pub with_told_length : ℕ → ℕ → List ℕ → List ℕ
with_told_length backup size lengths = slice_set lengths backup (max (slice_index lengths backup) size)

-- the known lengths once a backup reported that it holds so much of the segment of this number, if it is among them
abbrev pub with_length : ℕ → ℕ → ℕ → ℕ → List (List ℕ) → List (List ℕ)
with_length first number backup size lengths =
    if nat_lt number first
    then lengths
    else slice_set lengths (number - first) (with_told_length backup size (slice_index_or lengths (number - first) []))

-- what a backup is known to hold of segments that are numbered from `first` on, beside what it holds of others
abbrev pub known_from : ℕ → ℕ → List (List ℕ) → Known → Known
known_from backup first [] others = others
known_from backup first (lengths ∷ more) others = told (known_from backup (suc first) more others) first (slice_index lengths backup)

-- what a backup is known to hold
abbrev pub known_at : List (List ℕ) → List (List ℕ) → ℕ → Known
known_at main sides backup = known_from backup FIRST_SEGMENT main (known_from backup FIRST_SIDE_SEGMENT sides nothing)

-- what each of so many backups is known to hold
abbrev pub known_by : ℕ → List (List ℕ) → List (List ℕ) → List Known
known_by backups main sides = map (known_at main sides) (range_with_len 0 backups)

-- the parts of a log
pub record Parts : Type 0 where
  pub entries : List Entry
  pub ends : List EntryEnd
  pub committed : ℕ
  pub main : List Copied
  pub sides : List Copied
  pub cursors : List Cursor

-- the parts of a log's struct, whose entries are those that its main segments spell
abbrev pub parts_of : Inside → Parts
parts_of log =
    record {
      entries = spelled_in (bytes_in log.main.items);
      ends = log.ends.items;
      committed = log.committed;
      main = log.main.items;
      sides = log.sides.items;
      cursors = log.cursors.items;
    }

-- the log that these parts represent
abbrev pub log_of : Parts → Log
log_of parts =
    record {
      entries = parts.entries;
      sides = bytes_in parts.sides;
      known = known_by (length parts.cursors) (lengths_in parts.main) (lengths_in parts.sides);
    }

-- whether a backup is known to hold a segment whole
abbrev pub is_whole_at : ℕ → Copied → Bool
is_whole_at backup copied = nat_le (length copied.segment.bytes) (slice_index copied.known backup)

-- whether each of the first backups is known to hold an entry that ends there
abbrev pub is_held_at : ℕ → List (List ℕ) → EntryEnd → Bool
is_held_at backups main end = list_all (nat_le end.offset) (take backups (slice_index_or main (end.segment - 1) []))

-- entries end in the first segments, as many as these
abbrev pub AreWithin : ℕ → List EntryEnd → Type 0
AreWithin segments ends =
    (k : ℕ) (d : EntryEnd) → k < length ends → (1 ≤ (slice_index_or ends k d).segment) × ((slice_index_or ends k d).segment ≤ segments)

-- a segment has a known length for each backup, none above its own length
pub record IsKnown (bytes lengths : List ℕ) : Type 0 where
  pub each : length lengths ≡ MOST_BACKUPS
  pub within : (backup : ℕ) → slice_index lengths backup ≤ length bytes

-- so it is with each of these segments
abbrev pub AreKnown : List (List ℕ) → List (List ℕ) → Type 0
AreKnown bytes lengths = (k : ℕ) → k < length lengths → IsKnown (slice_index_or bytes k []) (slice_index_or lengths k [])

-- the missing bytes of a segment of this number
abbrev pub piece_at : ℕ → ℕ → Copied → PlacedBytes
piece_at backup number copied =
    let at = slice_index copied.known backup in
    record { segment = number; at = at; bytes = drop at copied.segment.bytes }

-- the missing bytes of the segment at this place, if there is one
abbrev pub lacking_at : ℕ → ℕ → List Copied → ℕ → Option PlacedBytes
lacking_at backup first segments at = option_map (piece_at backup (first + at)) (slice_get segments at)

-- a backup is known to hold whole the segments that its cursor counts
pub record IsCursor (backup : ℕ) (main sides : List Copied) (cursor : Cursor) : Type 0 where
  pub main_whole : (k : ℕ) (d : Copied) → k < cursor.main → is_whole_at backup (slice_index_or main k d) ≡ true
  pub main_last : cursor.main ≤ length main - 1
  pub sides_whole : (k : ℕ) (d : Copied) → k < cursor.sides → is_whole_at backup (slice_index_or sides k d) ≡ true
  pub sides_within : cursor.sides ≤ length sides

-- the furthest cursor of a backup
abbrev pub cursor_at : ℕ → List Copied → List Copied → Cursor
cursor_at backup main sides =
    record {
      main = min (prefix_len (is_whole_at backup) main) (length main - 1);
      sides = prefix_len (is_whole_at backup) sides;
    }

-- the parts of a log agree with one another, and each entry fits a segment
pub record IsConsistent (parts : Parts) : Type 0 where
  pub cut_is : bytes_in parts.main ≡ cut parts.entries
  pub places_are : parts.ends ≡ ends parts.entries
  pub fits : EachFits parts.entries
  pub lawful : AllByRecursion IsLawfulEntry parts.entries
  pub count_is : parts.committed ≡ prefix_len (is_held_at (length parts.cursors) (lengths_in parts.main)) parts.ends
  pub first_backup : 1 ≤ length parts.cursors
  pub last_backup : length parts.cursors ≤ MOST_BACKUPS
  pub few_main : length parts.main < FIRST_SIDE_SEGMENT
  pub few_sides : FIRST_SIDE_SEGMENT + length parts.sides ≤ 2 ^ 32
  pub main_known : AreKnown (bytes_in parts.main) (lengths_in parts.main)
  pub sides_known : AreKnown (bytes_in parts.sides) (lengths_in parts.sides)
  pub cursors_are : (backup : ℕ) (d : Cursor) → backup < length parts.cursors → IsCursor backup parts.main parts.sides (slice_index_or parts.cursors backup d)

-- and the count is that of the bytes of all segments
pub record IsCounted (parts : Parts) (size : ℕ) : Type 0 where
  pub consistent : IsConsistent parts
  pub size_is : size ≡ segment_bytes (log_of parts)
