-- The segments of a log whose entries fit a segment: each has at most the bytes that a segment may have, its number fits four bytes,
-- and so does what a backup is to be sent of it.
use Rattle.std.proofs.Common.{◌≡◌, ◌≤◌, ◌<◌, ◌+◌, ◌-◌, ◌^◌, ℕ, suc, true, not, All, List, [], ◌∷◌, ◌++◌, length, arith, length-append}
use Rattle.std.proofs.Common.{length-drop, leb, find, sum_by, IfSome, w32, option_map, leb-false, leb-true}
use Rattle.rk_inv_wellformed.proofs.Words.{cond_both, and_parts, All-append, All-cons, All-head, All-nil, All-push, All-set, All-tail}
use Rattle.rk_inv_wellformed.proofs.Words.{SEGMENT_BYTES, IsNumber, spelled, Entry, FIRST_SIDE_SEGMENT, cut, Log, pending}
use Rattle.rk_inv_wellformed.proofs.Words.{segments, PlacedBytes, IsFormedSide, MOST_BYTES, NumberedBytes, cut_after, last_of, with_bytes}
use Rattle.rk_inv_wellformed.proofs.Words.{Known, known_of, numbered, segment_bytes, not-true, cut_filled, length-le-bytes, is_whole}
use Rattle.rk_inv_wellformed.proofs.Words.{known_length, missing}
use Rattle.rk_inv_wellformed.proofs.maps.{all_find, find_passes, by_found}
use Rattle.rk_inv_wellformed.proofs.bytes.EntryBytes.{FitsSegment}

-- bytes that a segment may have
abbrev pub FitsBytes : List ℕ → Type 0
FitsBytes bytes = length bytes ≤ SEGMENT_BYTES

-- ---- the cut

-- bytes go into the last segment only if they fit
fits_with_bytes : (segments : List (List ℕ)) (bytes : List ℕ) → All FitsBytes segments → FitsBytes bytes → All FitsBytes (with_bytes segments bytes)
fits_with_bytes segments bytes each new = cond_both _ _ _ (All FitsBytes)
    (λ room.
    let below = leb-true (length (last_of segments) + length bytes) SEGMENT_BYTES (and_parts _ (leb (length (last_of segments) + length bytes) SEGMENT_BYTES) room).1 in
    All-set FitsBytes segments (length segments - 1) (last_of segments ++ bytes)
    (omega (arith, below, length-append (last_of segments) bytes)) each)
    (λ full. All-push FitsBytes segments bytes each new)

fits_cut_after : (segments : List (List ℕ)) (entries : List Entry) → All FitsBytes segments → All FitsSegment entries
    → All FitsBytes (cut_after segments entries)
fits_cut_after segments [] each fits = each
fits_cut_after segments (entry ∷ entries) each fits =
    fits_cut_after (with_bytes segments (spelled entry)) entries
    (fits_with_bytes segments (spelled entry) each (All-head FitsSegment entry entries fits)) (All-tail FitsSegment entry entries fits)

-- each main segment of entries that fit has no more bytes than a segment may have
pub fits_cut : (entries : List Entry) → All FitsSegment entries → All FitsBytes (cut entries)
fits_cut entries fits = fits_cut_after [] entries (All-nil FitsBytes) fits

-- ---- numbers

-- a segment that a message can carry
pub record IsTold (segment : NumberedBytes) : Type 0 where
  pub number : IsNumber w32 0 segment.number
  pub few : FitsBytes segment.bytes

-- segments whose numbers count from one on fit if the last one does
numbered_told : (first : ℕ) (lists : List (List ℕ)) → All FitsBytes lists → first + length lists < 256 ^ 4 → All IsTold (numbered first lists)
numbered_told first [] each below = All-nil IsTold
numbered_told first (bytes ∷ more) each below =
    All-cons IsTold (record { number = first; bytes = bytes }) (numbered (suc first) more)
    (record { number = record { least_is = omega arith; fits = omega arith }; few = All-head FitsBytes bytes more each })
    (numbered_told (suc first) more (All-tail FitsBytes bytes more each) (omega arith))

-- segments that have bytes are no more than their bytes
main_few : (entries : List Entry) → length (cut entries) ≤ sum_by (λ bytes. length bytes) (cut entries)
main_few entries = length-le-bytes (cut entries) (cut_filled [] entries (λ k within. absurd (omega arith)))

sides_few : (sides : List (List ℕ)) → All IsFormedSide sides → length sides ≤ sum_by (λ bytes. length bytes) sides
sides_few sides each = length-le-bytes sides (λ k within. (each k [] within).some)

-- a message can carry each segment of a log
pub segments_told : (log : Log) → All FitsSegment log.entries → All IsFormedSide log.sides → segment_bytes log < MOST_BYTES
    → All IsTold (segments log)
segments_told log fits sides room =
    All-append IsTold (numbered 1 (cut log.entries)) (numbered FIRST_SIDE_SEGMENT log.sides)
    (numbered_told 1 (cut log.entries) (fits_cut log.entries fits) (omega (arith, main_few log.entries)))
    (numbered_told FIRST_SIDE_SEGMENT log.sides (λ place other within. (sides place other within).few) (omega (arith, sides_few log.sides sides)))

-- ---- pieces

-- a piece of a segment that a message can carry
pub record IsToldPiece (piece : PlacedBytes) : Type 0 where
  pub segment : IsNumber w32 0 piece.segment
  pub at : IsNumber w32 0 piece.at
  pub ends : piece.at + length piece.bytes ≤ SEGMENT_BYTES

missing_told : (known : Known) (segment : NumberedBytes) → IsTold segment → not (is_whole known segment) ≡ true → IsToldPiece (missing known segment)
missing_told known segment told lacks = grind (arith, known_length, leb-false, not-true, is_whole, length-drop)

-- a message can carry what a backup is to be sent
pub pending_told : (log : Log) (backup : ℕ) → All IsTold (segments log) → IfSome (pending log backup) IsToldPiece
pending_told log backup each =
    let lacks = λ (segment : NumberedBytes). not (is_whole (known_of log backup) segment) in
    by_found (λ found. IfSome (option_map (missing (known_of log backup)) found) IsToldPiece) (find lacks (segments log)) (λ none. tt)
    (λ segment is. missing_told (known_of log backup) segment (all_find IsTold lacks (segments log) segment each is)
    (find_passes lacks (segments log) segment is))
