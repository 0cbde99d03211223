-- What a write to a segment is to the bytes of all of them.
use Rattle.rk_side_log.proofs.Words.{◌≡◌, ℕ, ◌+◌, ◌-◌, ◌<◌, ◌≤◌, true, ltb, List, [], ◌∷◌, ◌++◌, length, take, get_or, set, Some, None, sym}
use Rattle.rk_side_log.proofs.Words.{ap, ◌∙◌, arith, is_ok, cond-false, length-map, Held, SEGMENT_BYTES, IsLawfulHeld, spelled}
use Rattle.rk_side_log.proofs.Words.{NumberedBytes, Side, IsFilled, room_in, segments_of, bytes_in, items_read}
use Rattle.std.proofs.Common.{Result}
use Rattle.std.specs.Prelude.{OnOk, MatchResult}
use Rattle.std.proofs.lemmas.Bool.{le-ltb, false≢true}
use Rattle.std.proofs.lemmas.List.{map-set, get_or-map, get_or-take, length-take-le}
use Rattle.rk_entry.specs.declared.entry.Entry.TheVariants as entries
use Rattle.rk_segment.specs.Segment.{appended, overflow}
use Rattle.rk_segment.specs.declared.segment.Full.{Full}
use Rattle.rk_side_log.specs.Side.{place_for}
use Rattle.rk_side_log.proofs.Begun.{room_is}
use Rattle.rk_side_log.proofs.Filled.{GoesInto, goes}

-- the bytes of as many segments
pub length-bytes_in : (segments : List NumberedBytes) → length (bytes_in segments) ≡ length segments
length-bytes_in segments = length-map segments (λ (s : NumberedBytes). s.bytes)

-- the bytes of a segment
bytes_at : (segments : List NumberedBytes) (place : ℕ) (old : NumberedBytes) → place < length segments → old ≡ get_or segments place old → old.bytes ≡ get_or (bytes_in segments) place []
bytes_at segments place old within there =
    ap (λ (s : NumberedBytes). s.bytes) there ∙ sym (get_or-map (λ (s : NumberedBytes). s.bytes) segments place old [] within)

-- bytes that have room are taken
pub taken_at : {T : Type 0} (segments : List NumberedBytes) (place : ℕ) (old : NumberedBytes) (bytes : List ℕ) (r : Result T Full) → place < length segments → old ≡ get_or segments place old
    → length (get_or (bytes_in segments) place []) + length bytes ≤ SEGMENT_BYTES
    → MatchResult r (λ _. overflow old bytes ≡ None) (λ full. overflow old bytes ≡ Some full) → is_ok r ≡ true
taken_at segments place old bytes r within there fits told = grind (arith, cond-false, ltb, le-ltb, bytes_at)

-- then they are at the end of the segment
pub put_seen : {T E : Type 0} (segments : List NumberedBytes) (place : ℕ) (old now : NumberedBytes) (bytes : List ℕ) (r : Result T E) → place < length segments → old ≡ get_or segments place old
    → is_ok r ≡ true → OnOk r (now ≡ appended old bytes) → bytes_in (set segments place now) ≡ set (bytes_in segments) place (get_or (bytes_in segments) place [] ++ bytes)
put_seen segments place old now bytes r within there is on_ok = grind (arith, false≢true, map-set, bytes_in, bytes_at)

-- the room in the last of the first segments
pub room_seen : (segments : List NumberedBytes) (used size : ℕ) (last : NumberedBytes) → (used ≡ 0 → ⊥) → used ≤ length segments → last ≡ get_or segments (used - 1) last → size ≡ length last.bytes
    → SEGMENT_BYTES - size ≡ room_in (take used (bytes_in segments))
room_seen segments used size last some within is count =
    grind (arith, bytes_in, length-take-le, length-map, get_or-take, get_or-map, room_is)

-- where the entry of an item goes
pub goes_seen : (segments slice : List NumberedBytes) (used : ℕ) (side : Side) (item : Held) (bytes : List ℕ) (place : ℕ)
    → IsFilled (bytes_in segments) used (items_read (bytes_in segments)) → record { items = items_read (bytes_in segments); made = length segments } ≡ side
    → IsLawfulHeld item × ((bytes ≡ spelled (entries.Held item)) × (segments_of (side.items ++ item ∷ []) ≤ side.made)) → slice ≡ segments → place ≡ place_for (bytes_in slice) used bytes
    → GoesInto (bytes_in segments) (items_read (bytes_in segments)) item bytes place
goes_seen segments slice used side item bytes place filled seen needs same at =
    let items : segments_of (items_read (bytes_in segments) ++ item ∷ []) ≡ segments_of (side.items ++ item ∷ []) = ap (λ (s : Side). segments_of (s.items ++ item ∷ [])) seen in
    let made : length segments ≡ side.made = ap (λ (s : Side). s.made) seen in
    goes (bytes_in segments) used (items_read (bytes_in segments)) item bytes place filled needs.0 needs.1.0 (omega (arith, items, made, length-bytes_in segments, needs.1.1))
    (at ∙ ap (λ (l : List NumberedBytes). place_for (bytes_in l) used bytes) same)
