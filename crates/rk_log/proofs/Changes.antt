-- What contracts see of each change, and the bounds that it needs.
use Rattle.std.proofs.Common.{◌≡◌, ℕ, ◌+◌, ◌-◌, ◌<◌, ◌≤◌, ◌^◌, Bool, cond, List, [], ◌∷◌, ◌++◌, length, sym, ap, ◌∙◌, ⊎_elim, arith, length-set, length-append}
use Rattle.std.specs.List.{sum_by}
use Rattle.std.proofs.lemmas.Bool.{cond_both}
use Rattle.std.proofs.lemmas.List.{length-map, map_push}
use Rattle.std.proofs.lemmas.List.Sums.{sum_by-set, sum_by_push}
use Rattle.rk_entry.specs.Spelling.{spelled}
use Rattle.rk_entry.specs.declared.entry.Entry.{Entry}
use Rattle.rk_entry.specs.declared.lists.TheConstants.{FIRST_SIDE_SEGMENT}
use Rattle.rk_log.specs.declared.copied.Copied.{Copied}
use Rattle.rk_log.specs.declared.copied.TheConstants.{FIRST_SEGMENT}
use Rattle.rk_log.specs.declared.cursor.Cursor.{Cursor}
use Rattle.rk_log.specs.Cut.{cut}
use Rattle.rk_log.specs.Log.{Log, bytes_of, segment_bytes, with_entry, with_side, with_told}
use Rattle.rk_log.specs.Parts.{Parts, bytes_in, lengths_in, none_known, bytes_among, log_of, IsConsistent}
use Rattle.rk_log.proofs.Cuts.{cut_filled, length-le-bytes, cut_push, room_some}
use Rattle.rk_log.proofs.KnownLaws.{known_from_push}
use Rattle.rk_log.proofs.Lookups.{copied_before, copied_past, known_told}
use Rattle.rk_log.proofs.Grown.{zeros_at, Raised}
use Rattle.rk_log.proofs.Consistency.{with_entry_in, with_side_in, told_in}
use Rattle.rk_log.proofs.Views.{bytes_of_is}

-- ---- bounds

-- a log with room has numbers left for main segments
pub main_few : (parts : Parts) (log : Log) → IsConsistent parts
    → log_of parts ≡ log → segment_bytes log < 2 ^ 31 → length parts.main + 1 < FIRST_SIDE_SEGMENT
main_few parts log consistent is room = grind (arith, length-le-bytes, cut_filled, length-map)

-- bytes begin one segment at most
pub put_few : (main main' : List Copied) (room : Bool) → lengths_in main' ≡ cond room (lengths_in main) (lengths_in main ++ none_known ∷ []) → length main' ≤ length main + 1
put_few main main' room put = grind (arith, cond_both, length-map, length-append)

-- ---- the log after a change

-- one more entry
pub entry_shown : (parts : Parts) (main' : List Copied) (room : Bool) (entry : Entry) (log : Log) → log_of parts ≡ log
    → lengths_in main' ≡ cond room (lengths_in parts.main) (lengths_in parts.main ++ none_known ∷ []) → log_of (with_entry_in parts main' entry) ≡ with_entry log entry
entry_shown parts main' room entry log is put = grind (arith, known_from_push, zeros_at)

-- one more side segment
pub side_shown : (parts : Parts) (side : Copied) (bytes : List ℕ) (log : Log) → log_of parts ≡ log
    → side.segment.bytes ≡ bytes → side.known ≡ none_known → log_of (with_side_in parts side) ≡ with_side log bytes
side_shown parts side bytes log is same unknown = grind (arith, map_push, known_from_push, zeros_at)

-- a length that a backup reported
pub told_shown : (parts : Parts) (main' sides' : List Copied) (log : Log) (number backup size : ℕ) (cursor : Cursor)
    → IsConsistent parts → log_of parts ≡ log → backup - 1 < length parts.cursors
    → Raised FIRST_SEGMENT number (backup - 1) size parts.main main' → Raised FIRST_SIDE_SEGMENT number (backup - 1) size parts.sides sides'
    → size ≤ length (bytes_among number parts.main parts.sides)
    → log_of (told_in parts main' sides' (backup - 1) cursor) ≡ with_told log backup number size
told_shown parts main' sides' log number backup size cursor consistent is within raised raised_sides enough =
    grind (arith, length-set, known_told, length-map, copied_before, copied_past)

-- a backup reports no more than there is
pub told_enough : (parts : Parts) (log : Log) (number size : ℕ) → IsConsistent parts
    → log_of parts ≡ log → size ≤ length (bytes_of log number) → size ≤ length (bytes_among number parts.main parts.sides)
told_enough parts log number size consistent is le =
    omega (arith, ap (λ (l : Log). length (bytes_of l number)) is, ap length (bytes_of_is parts number consistent))

-- ---- the count of bytes

-- of an entry
pub size_entry : (parts : Parts) (main' : List Copied) (entry : Entry) (size count : ℕ)
    → size ≡ segment_bytes (log_of parts) → count ≡ length (spelled entry) → size + count ≡ segment_bytes (log_of (with_entry_in parts main' entry))
size_entry parts main' entry size count is counted = grind (arith, cut_push, cond_both, room_some, sum_by-set, length-append, sum_by_push)

-- of a side segment
pub size_side : (parts : Parts) (side : Copied) (bytes : List ℕ) (size count : ℕ)
    → size ≡ segment_bytes (log_of parts) → side.segment.bytes ≡ bytes → count ≡ length bytes → size + count ≡ segment_bytes (log_of (with_side_in parts side))
size_side parts side bytes size count is same counted = grind (arith, map_push, sum_by_push)

-- a reported length changes none
pub size_told : (parts : Parts) (main' sides' : List Copied) (backup : ℕ) (cursor : Cursor) (size : ℕ)
    → size ≡ segment_bytes (log_of parts) → bytes_in sides' ≡ bytes_in parts.sides → size ≡ segment_bytes (log_of (told_in parts main' sides' backup cursor))
size_told parts main' sides' backup cursor size is same =
    is ∙ ap (λ (s : List (List ℕ)). sum_by (λ (b : List ℕ). length b) (cut parts.entries) + sum_by (λ (b : List ℕ). length b) s) (sym same)
