-- How many bytes spellings take.
use Rattle.std.proofs.Common.{◌≡◌, ℕ, zero, suc, ◌+◌, ◌*◌, List, [], ◌∷◌, ◌++◌, length, Option, Some, None, refl, ap, ◌∙◌, arith, length-append}
use Rattle.std.specs.Int.{Width, w8, w16, w32, w64, byte_len, bytes_high_first}
use Rattle.std.specs.List.{flat_map}
use Rattle.std.proofs.lemmas.List.Concat.{flat_map-cons}
use Rattle.rk_types.specs.declared.call.Ended.{Ended}
use Rattle.rk_types.specs.declared.call.End.{End}
use Rattle.rk_types.specs.declared.call.End.TheVariants.{Written, Deleted, Absent, Mismatch}
use Rattle.rk_types.specs.declared.range.Range.{Range}
use Rattle.rk_entry.specs.declared.kind.TheConstants.{END_BYTES, SEGMENT_NUMBER_BYTES}
use Rattle.rk_entry.specs.declared.entry.Entry.{Entry}
use Rattle.rk_entry.specs.declared.entry.Entry.TheVariants as entries
use Rattle.rk_entry.specs.declared.head.Head.{Head}
use Rattle.rk_entry.specs.Numbers.{number_bytes}
use Rattle.rk_entry.specs.Texts.{key_bytes, value_bytes}
use Rattle.rk_entry.specs.Ends.{range_bytes, outcome_bytes, end_bytes}
use Rattle.rk_entry.specs.Lists.{ends_bytes, segments_bytes}
use Rattle.rk_entry.specs.Spelling.{head_bytes, item_value_bytes, held_head, refused_head, why_number, held_bytes, refused_bytes, carried_bytes, joined_bytes, fields_bytes}
use Rattle.rk_entry.specs.Lengths.{value_count, fields_count}

-- so many bytes of a number are so many
length-bytes_high_first : (k n : ℕ) → length (bytes_high_first k n) ≡ k
length-bytes_high_first zero n = refl
length-bytes_high_first (suc k) n = omega (arith, length-bytes_high_first k n)

-- a number takes as many bytes as its width says
pub length-number_bytes : (w : Width) (n : ℕ) → length (number_bytes w n) ≡ byte_len w
unfolding number_bytes
length-number_bytes w n = length-bytes_high_first (byte_len w) n

-- two parts take as many bytes as both
pub length_both : (xs ys : List ℕ) (m n : ℕ) → length xs ≡ m → length ys ≡ n → length (xs ++ ys) ≡ m + n
length_both xs ys m n p q = omega (arith, length-append xs ys)

-- a key takes a byte more than it has
pub length-key_bytes : (key : List ℕ) → length (key_bytes key) ≡ 1 + length key
unfolding key_bytes
length-key_bytes key = length_both (number_bytes w8 (length key)) key 1 (length key) (length-number_bytes w8 (length key)) refl

-- a value takes four bytes more than it has
pub length-value_bytes : (value : List ℕ) → length (value_bytes value) ≡ 4 + length value
unfolding value_bytes
length-value_bytes value = length_both (number_bytes w32 (length value)) value 4 (length value) (length-number_bytes w32 (length value)) refl

-- a range takes three numbers of eight bytes
pub length-range_bytes : (range : Range) → length (range_bytes range) ≡ 24
unfolding range_bytes
length-range_bytes range =
    length_both (number_bytes w64 range.table) (number_bytes w64 range.first ++ number_bytes w64 range.last) 8 16 (length-number_bytes w64 range.table)
    (length_both (number_bytes w64 range.first) (number_bytes w64 range.last) 8 8 (length-number_bytes w64 range.first) (length-number_bytes w64 range.last))

-- an outcome takes a tag and a number of eight bytes
pub length-outcome_bytes : (outcome : End) → length (outcome_bytes outcome) ≡ 9
unfolding outcome_bytes number_bytes
length-outcome_bytes (Written version) = refl
length-outcome_bytes (Deleted version) = refl
length-outcome_bytes Absent = refl
length-outcome_bytes (Mismatch version) = refl

-- an end takes as many bytes as are counted
pub length-end_bytes : (e : Ended) → length (end_bytes e) ≡ END_BYTES
unfolding end_bytes
length-end_bytes e =
    length_both (number_bytes w32 e.client) (number_bytes w64 e.seq ++ outcome_bytes e.end) 4 17 (length-number_bytes w32 e.client)
    (length_both (number_bytes w64 e.seq) (outcome_bytes e.end) 8 9 (length-number_bytes w64 e.seq) (length-outcome_bytes e.end))

-- ends take as many bytes as so many ends
pub length-ends_bytes : (ends : List Ended) → length (ends_bytes ends) ≡ END_BYTES * length ends
unfolding ends_bytes
length-ends_bytes [] = refl
length-ends_bytes (e ∷ ends) =
    ap length (flat_map-cons end_bytes e ends)
    ∙ omega (arith, length-append (end_bytes e) (flat_map end_bytes ends), length-end_bytes e, length-ends_bytes ends)

-- numbers of segments take four bytes each
pub length-segments_bytes : (segments : List ℕ) → length (segments_bytes segments) ≡ SEGMENT_NUMBER_BYTES * length segments
unfolding segments_bytes
length-segments_bytes [] = refl
length-segments_bytes (n ∷ segments) =
    ap length (flat_map-cons (number_bytes w32) n segments)
    ∙ omega (arith, length-append (number_bytes w32 n) (flat_map (number_bytes w32) segments), length-number_bytes w32 n, length-segments_bytes segments)

-- a head takes three numbers of eight bytes and one of four
pub length-head_bytes : (head : Head) → length (head_bytes head) ≡ 28
unfolding head_bytes
length-head_bytes head =
    length_both (number_bytes w64 head.table) (number_bytes w64 head.version ++ (number_bytes w32 head.client ++ number_bytes w64 head.seq)) 8 20 (length-number_bytes w64 head.table)
    (length_both (number_bytes w64 head.version) (number_bytes w32 head.client ++ number_bytes w64 head.seq) 8 12 (length-number_bytes w64 head.version)
    (length_both (number_bytes w32 head.client) (number_bytes w64 head.seq) 4 8 (length-number_bytes w32 head.client) (length-number_bytes w64 head.seq)))

-- the value of an item takes as many bytes as are counted
pub length-item_value_bytes : (value : Option (List ℕ)) → length (item_value_bytes value) ≡ value_count value
length-item_value_bytes None = refl
length-item_value_bytes (Some value) = length-value_bytes value

-- the fields of an entry take as many bytes as are counted
pub length-fields_bytes : (entry : Entry) → length (fields_bytes entry) ≡ fields_count entry
unfolding held_bytes refused_bytes carried_bytes joined_bytes
length-fields_bytes (entries.Held held) =
    omega (
      arith,
      length-append (head_bytes (held_head held)) (key_bytes held.key ++ item_value_bytes held.value),
      length-append (key_bytes held.key) (item_value_bytes held.value),
      length-head_bytes (held_head held),
      length-key_bytes held.key,
      length-item_value_bytes held.value,
    )
length-fields_bytes (entries.Refused refused) =
    omega (
      arith,
      length-append (head_bytes (refused_head refused)) (number_bytes w8 (why_number refused.absent) ++ key_bytes refused.key),
      length-append (number_bytes w8 (why_number refused.absent)) (key_bytes refused.key),
      length-head_bytes (refused_head refused),
      length-number_bytes w8 (why_number refused.absent),
      length-key_bytes refused.key,
    )
length-fields_bytes (entries.Carried carried) =
    let count = number_bytes w16 (length carried.ends) in
    let ends = ends_bytes carried.ends in
    omega (
      arith,
      length-append (range_bytes carried.range) (number_bytes w64 carried.term ++ (number_bytes w64 carried.floor ++ (count ++ ends))),
      length-append (number_bytes w64 carried.term) (number_bytes w64 carried.floor ++ (count ++ ends)),
      length-append (number_bytes w64 carried.floor) (count ++ ends),
      length-append count ends,
      length-range_bytes carried.range,
      length-number_bytes w64 carried.term,
      length-number_bytes w64 carried.floor,
      length-number_bytes w16 (length carried.ends),
      length-ends_bytes carried.ends,
    )
length-fields_bytes (entries.Joined joined) =
    let count = number_bytes w32 (length joined.segments) in
    let segments = segments_bytes joined.segments in
    omega (
      arith,
      length-append (range_bytes joined.range) (number_bytes w64 joined.term ++ (count ++ segments)),
      length-append (number_bytes w64 joined.term) (count ++ segments),
      length-append count segments,
      length-range_bytes joined.range,
      length-number_bytes w64 joined.term,
      length-number_bytes w32 (length joined.segments),
      length-segments_bytes joined.segments,
    )
