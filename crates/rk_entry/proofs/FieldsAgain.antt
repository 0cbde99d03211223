-- The fields of an entry that are spelled so are read.
use Rattle.std.proofs.Common.{◌≡◌, ℕ, ◌+◌, ◌*◌, ◌^◌, ◌<◌, ◌≤◌, Bool, true, false, cond, List, [], ◌++◌, length, Option, Some, None, Ok, refl, sym, ap, ◌∙◌, append_assoc, arith, eq-eqb}
use Rattle.std.specs.Prelude.{IsTrue}
use Rattle.std.specs.Int.{w8, w16, w32, w64}
use Rattle.std.proofs.lemmas.List.{append-nil}
use Rattle.rk_types.specs.Text.{value_fault}
use Rattle.rk_types.specs.declared.held.Held.{Held}
use Rattle.rk_entry.specs.declared.head.Head.{Head}
use Rattle.rk_entry.specs.declared.entry.Entry.TheVariants as entries
use Rattle.rk_entry.specs.declared.entry.Refused.{Refused}
use Rattle.rk_entry.specs.declared.entry.Carried.{Carried}
use Rattle.rk_entry.specs.declared.entry.Joined.{Joined}
use Rattle.rk_entry.specs.declared.kind.TheConstants.{TOMBSTONE_BYTES, OBJECT_BYTES, MARK_BYTES, REFUSED_BYTES, CARRIED_BYTES, END_BYTES, JOINED_BYTES, SEGMENT_NUMBER_BYTES}
use Rattle.rk_entry.specs.Numbers.{number_bytes}
use Rattle.rk_entry.specs.Texts.{key_bytes, value_bytes}
use Rattle.rk_entry.specs.Ends.{range_bytes}
use Rattle.rk_entry.specs.Lists.{ends_bytes, segments_bytes}
use Rattle.rk_entry.specs.Spelling.{head_bytes, held_head, refused_head, why_number, held_bytes, refused_bytes, carried_bytes, joined_bytes}
use Rattle.rk_entry.specs.Lawful.{IsLawfulHeld, IsLawfulRefused, IsLawfulCarried, IsLawfulJoined}
use Rattle.rk_entry.specs.Reading.{read_head, read_tombstone, shortest_value, longest_value, read_object, why_numbered, read_why, read_refused, read_carried, read_joined}
use Rattle.rk_entry.proofs.NumberLaws.{wide8, wide16, wide32, wide64, number_again, from_again}
use Rattle.rk_entry.proofs.TextLaws.{key_length_again, key_again, value_length_again, value_again}
use Rattle.rk_entry.proofs.EndLaws.{range_again}
use Rattle.rk_entry.proofs.ListLaws.{ends_again, segments_again}
use Rattle.rk_entry.proofs.FieldLaws.{IsLawfulHead}

-- a lawful head that is spelled is read
head_again : (least : ℕ) (head : Head) (rest : List ℕ) → IsLawfulHead least head → read_head least (head_bytes head ++ rest) ≡ Ok (head, rest)
unfolding read_head head_bytes
head_again least head rest h =
    let table = number_bytes w64 head.table in
    let version = number_bytes w64 head.version in
    let client = number_bytes w32 head.client in
    let seq = number_bytes w64 head.seq in
    rw (
      append_assoc table (version ++ (client ++ seq)) rest,
      append_assoc version (client ++ seq) rest,
      append_assoc client seq rest,
      from_again w64 wide64 1 head.table (version ++ (client ++ (seq ++ rest))) h.table,
      from_again w64 wide64 least head.version (client ++ (seq ++ rest)) h.version,
      from_again w32 wide32 1 head.client (seq ++ rest) h.client,
      from_again w64 wide64 1 head.seq rest h.seq,
    ) refl

-- the number of a reason is read as the reason
why_numbered_of : (found : ℕ) (absent : Bool) → (IsTrue absent → found ≡ 0) → why_numbered found (why_number absent) ≡ Some absent
why_numbered_of found true none = rw (eq-eqb found 0 (none refl)) refl
why_numbered_of found false none = refl

-- the number of a reason is a byte
why_small : (absent : Bool) → why_number absent < 256
why_small true = omega arith
why_small false = omega arith

-- a reason that is spelled is read
why_again : (found : ℕ) (absent : Bool) (rest : List ℕ) → (IsTrue absent → found ≡ 0) → read_why found (number_bytes w8 (why_number absent) ++ rest) ≡ Ok (absent, rest)
unfolding read_why
why_again found absent rest none = rw (number_again w8 wide8 (why_number absent) rest (why_small absent), why_numbered_of found absent none) refl

-- the fields of an item without a value that are spelled are read
pub tombstone_again : (body : ℕ) (held : Held) (rest : List ℕ) → held.value ≡ None → IsLawfulHeld held → body ≡ TOMBSTONE_BYTES + length held.key
    → read_tombstone body (held_bytes held ++ rest) ≡ Ok (entries.Held held, rest)
unfolding read_tombstone held_bytes key_bytes
tombstone_again body held rest none h body_is =
    let head = held_head held in
    let count = number_bytes w8 (length held.key) in
    let lawful : IsLawfulHead 1 head = record { table = h.table; version = h.version; client = h.client; seq = h.seq } in
    let bytes_are : held_bytes held ++ rest ≡ head_bytes head ++ (count ++ (held.key ++ rest)) =
    rw (none, append-nil (count ++ held.key), append_assoc (head_bytes head) (count ++ held.key) rest, append_assoc count held.key rest) refl in
    let whole : body ≡ TOMBSTONE_BYTES + length held.key = body_is in
    ap (read_tombstone body) bytes_are
    ∙ rw (
      head_again 1 head (count ++ (held.key ++ rest)) lawful,
      key_length_again held.key (held.key ++ rest) h.key,
      eq-eqb body (TOMBSTONE_BYTES + length held.key) whole,
      key_again held.key rest h.key,
    )
    (ap (λ (value : Option (List ℕ)). Ok (entries.Held (record held { value = value }), rest)) (sym none))

-- the fields of an item with a value that are spelled are read
pub object_again : (marked : Bool) (body : ℕ) (held : Held) (value rest : List ℕ) → held.value ≡ Some value → IsLawfulHeld held → value_fault value ≡ None
    → shortest_value marked ≤ length value → length value ≤ longest_value marked → length value < 256 ^ 4
    → body ≡ OBJECT_BYTES + length held.key + length value + cond marked MARK_BYTES 0
    → read_object marked body (held_bytes held ++ rest) ≡ Ok (entries.Held held, rest)
unfolding read_object held_bytes key_bytes value_bytes
object_again marked body held value rest some h text below above small body_is =
    let head = held_head held in
    let key_count = number_bytes w8 (length held.key) in
    let value_count = number_bytes w32 (length value) in
    let lawful : IsLawfulHead 1 head = record { table = h.table; version = h.version; client = h.client; seq = h.seq } in
    let bytes_are : held_bytes held ++ rest ≡ head_bytes head ++ (key_count ++ (held.key ++ (value_count ++ (value ++ rest)))) =
    rw (
      some,
      append_assoc (head_bytes head) ((key_count ++ held.key) ++ (value_count ++ value)) rest,
      append_assoc (key_count ++ held.key) (value_count ++ value) rest,
      append_assoc value_count value rest,
      append_assoc key_count held.key (value_count ++ (value ++ rest)),
    ) refl in
    ap (read_object marked body) bytes_are
    ∙ rw (
      head_again 1 head (key_count ++ (held.key ++ (value_count ++ (value ++ rest)))) lawful,
      key_length_again held.key (held.key ++ (value_count ++ (value ++ rest))) h.key,
      key_again held.key (value_count ++ (value ++ rest)) h.key,
      value_length_again (shortest_value marked) (longest_value marked) (length value) (value ++ rest) below above small,
      eq-eqb body (OBJECT_BYTES + length held.key + length value + cond marked MARK_BYTES 0) body_is,
      value_again value rest text,
    )
    (ap (λ (o : Option (List ℕ)). Ok (entries.Held (record held { value = o }), rest)) (sym some))

-- the fields of a refusal that are spelled are read
pub refused_again : (body : ℕ) (refused : Refused) (rest : List ℕ) → IsLawfulRefused refused → body ≡ REFUSED_BYTES + length refused.key
    → read_refused body (refused_bytes refused ++ rest) ≡ Ok (entries.Refused refused, rest)
unfolding read_refused refused_bytes key_bytes
refused_again body refused rest h body_is =
    let head = refused_head refused in
    let why = number_bytes w8 (why_number refused.absent) in
    let count = number_bytes w8 (length refused.key) in
    let lawful : IsLawfulHead 0 head = record { table = h.table; version = h.found; client = h.client; seq = h.seq } in
    let bytes_are : refused_bytes refused ++ rest ≡ head_bytes head ++ (why ++ (count ++ (refused.key ++ rest))) =
    rw (append_assoc (head_bytes head) (why ++ (count ++ refused.key)) rest, append_assoc why (count ++ refused.key) rest, append_assoc count refused.key rest) refl in
    ap (read_refused body) bytes_are
    ∙ rw (
      head_again 0 head (why ++ (count ++ (refused.key ++ rest))) lawful,
      why_again refused.found refused.absent (count ++ (refused.key ++ rest)) h.none_found,
      key_length_again refused.key (refused.key ++ rest) h.key,
      eq-eqb body (REFUSED_BYTES + length refused.key) body_is,
      key_again refused.key rest h.key,
    ) refl

-- the fields of ends that came with a tablet and are spelled are read
pub carried_again : (body : ℕ) (carried : Carried) (rest : List ℕ) → IsLawfulCarried carried → body ≡ CARRIED_BYTES + END_BYTES * length carried.ends
    → read_carried body (carried_bytes carried ++ rest) ≡ Ok (entries.Carried carried, rest)
unfolding read_carried carried_bytes
carried_again body carried rest h body_is =
    let range = range_bytes carried.range in
    let term = number_bytes w64 carried.term in
    let floor = number_bytes w64 carried.floor in
    let count = number_bytes w16 (length carried.ends) in
    let ends = ends_bytes carried.ends in
    let small : length carried.ends < 256 ^ 2 = omega (arith, h.few) in
    let bytes_are : carried_bytes carried ++ rest ≡ range ++ (term ++ (floor ++ (count ++ (ends ++ rest)))) =
    rw (
      append_assoc range (term ++ (floor ++ (count ++ ends))) rest,
      append_assoc term (floor ++ (count ++ ends)) rest,
      append_assoc floor (count ++ ends) rest,
      append_assoc count ends rest,
    ) refl in
    ap (read_carried body) bytes_are
    ∙ rw (
      range_again carried.range (term ++ (floor ++ (count ++ (ends ++ rest)))) h.range,
      from_again w64 wide64 1 carried.term (floor ++ (count ++ (ends ++ rest))) h.term,
      from_again w64 wide64 1 carried.floor (count ++ (ends ++ rest)) h.floor,
      number_again w16 wide16 (length carried.ends) (ends ++ rest) small,
      eq-eqb body (CARRIED_BYTES + END_BYTES * length carried.ends) body_is,
      ends_again 0 [] carried.ends rest h.each h.rising,
    ) refl

-- the fields of side segments that became part of the log and are spelled are read
pub joined_again : (body : ℕ) (joined : Joined) (rest : List ℕ) → IsLawfulJoined joined → body ≡ JOINED_BYTES + SEGMENT_NUMBER_BYTES * length joined.segments
    → read_joined body (joined_bytes joined ++ rest) ≡ Ok (entries.Joined joined, rest)
unfolding read_joined joined_bytes
joined_again body joined rest h body_is =
    let range = range_bytes joined.range in
    let term = number_bytes w64 joined.term in
    let count = number_bytes w32 (length joined.segments) in
    let segments = segments_bytes joined.segments in
    let small : length joined.segments < 256 ^ 4 = omega (arith, h.few) in
    let bytes_are : joined_bytes joined ++ rest ≡ range ++ (term ++ (count ++ (segments ++ rest))) =
    rw (append_assoc range (term ++ (count ++ segments)) rest, append_assoc term (count ++ segments) rest, append_assoc count segments rest) refl in
    ap (read_joined body) bytes_are
    ∙ rw (
      range_again joined.range (term ++ (count ++ (segments ++ rest))) h.range,
      from_again w64 wide64 1 joined.term (count ++ (segments ++ rest)) h.term,
      number_again w32 wide32 (length joined.segments) (segments ++ rest) small,
      eq-eqb body (JOINED_BYTES + SEGMENT_NUMBER_BYTES * length joined.segments) body_is,
      segments_again [] joined.segments rest h.each h.distinct,
    ) refl
