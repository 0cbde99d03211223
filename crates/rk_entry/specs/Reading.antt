-- Reading an entry from the front of bytes, field by field, up to the first fault.
use Rattle.std.specs.Prelude.{ℕ, ◌+◌, ◌-◌, ◌*◌, List, [], length, take, Bool, true, false, not, ◌==◌, ◌&&◌, if◌then◌else◌, Option, Some, None, Result, Ok}
use Rattle.std.specs.Option.{ok_or}
use Rattle.std.specs.Int.{w8, w16, w32, w64}
use Rattle.rk_types.specs.declared.held.TheConstants.{LONGEST_SHORT_VALUE}
use Rattle.rk_types.specs.declared.text.TheConstants.{LONGEST_VALUE}
use Rattle.rk_entry.specs.declared.error.DecodeError.{DecodeError}
use Rattle.rk_entry.specs.declared.error.DecodeError.TheVariants.{Bad}
use Rattle.rk_entry.specs.declared.error.TheConstants.{BAD_KIND, BAD_BODY_LENGTH, BAD_CHOICE, BAD_MARK}
use Rattle.rk_entry.specs.declared.head.Head.{Head}
use Rattle.rk_entry.specs.declared.head.TheConstants.{MET_ANOTHER, MET_NONE}
use Rattle.rk_entry.specs.declared.entry.Entry.{Entry}
use Rattle.rk_entry.specs.declared.entry.Entry.TheVariants.{Held, Refused, Carried, Joined}
use Rattle.rk_entry.specs.declared.kind.Kind.{Kind}
use Rattle.rk_entry.specs.declared.kind.Kind.TheVariants as kinds
use Rattle.rk_entry.specs.declared.kind.TheConstants.{TOMBSTONE_BYTES, OBJECT_BYTES, MARK_BYTES, REFUSED_BYTES, CARRIED_BYTES, END_BYTES, JOINED_BYTES, SEGMENT_NUMBER_BYTES}
use Rattle.rk_entry.specs.Steps.{◌>>=◌, unless}
use Rattle.rk_entry.specs.Numbers.{read_number, read_from}
use Rattle.rk_entry.specs.Texts.{read_key_length, read_key, read_value_length, read_value}
use Rattle.rk_entry.specs.Ends.{read_range}
use Rattle.rk_entry.specs.Lists.{read_ends, read_segments}
use Rattle.rk_entry.specs.Kinds.{kind_numbered, is_body_length, is_marked}
use Rattle.rk_entry.specs.Spelling.{mark_of}

-- a kind, and the bytes after it
unfoldable pub read_kind : List ℕ → Result (Kind × List ℕ) DecodeError
read_kind bytes = do
  number ← read_number w8 bytes
  kind ← ok_or (kind_numbered number.0) (Bad BAD_KIND)
  Ok (kind, number.1)

-- the length of a body of this kind, and the bytes after it
unfoldable pub read_body_length : Kind → List ℕ → Result (ℕ × List ℕ) DecodeError
read_body_length kind bytes = do
  count ← read_number w32 bytes
  unless (not (is_body_length kind count.0)) BAD_BODY_LENGTH count

-- what was read, if the body has this many bytes, as the last length or count within it says
abbrev pub where_body_is : {A : Type 0} → ℕ → ℕ → A → Result A DecodeError
where_body_is count body read = unless (not (body == count)) BAD_BODY_LENGTH read

-- the table, the version, at least `least`, the client and the seq, and the bytes after them
unfoldable pub read_head : ℕ → List ℕ → Result (Head × List ℕ) DecodeError
read_head least bytes = do
  table ← read_from w64 1 bytes
  version ← read_from w64 least table.1
  client ← read_from w32 1 version.1
  seq ← read_from w64 1 client.1
  Ok (record { table = table.0; version = version.0; client = client.0; seq = seq.0 }, seq.1)

-- the fields of an item without a value
unfoldable pub read_tombstone : ℕ → List ℕ → Result (Entry × List ℕ) DecodeError
read_tombstone body bytes = do
  head ← read_head 1 bytes
  any ← read_key_length head.1
  count ← where_body_is (TOMBSTONE_BYTES + any.0) body any
  key ← read_key count.0 count.1
  Ok (
    Held (record {
      table = head.0.table;
      version = head.0.version;
      client = head.0.client;
      seq = head.0.seq;
      key = key.0;
      value = None;
    }),
    key.1,
  )

-- the fewest bytes of the value of an object, with a mark or without
abbrev pub shortest_value : Bool → ℕ
shortest_value marked = if marked then LONGEST_SHORT_VALUE + 1 else 0

-- the most bytes of the value of an object, with a mark or without
abbrev pub longest_value : Bool → ℕ
longest_value marked = if marked then LONGEST_VALUE else LONGEST_SHORT_VALUE

-- the fields of an item with a value, all but its mark
unfoldable pub read_object : Bool → ℕ → List ℕ → Result (Entry × List ℕ) DecodeError
read_object marked body bytes = do
  head ← read_head 1 bytes
  key_count ← read_key_length head.1
  key ← read_key key_count.0 key_count.1
  any ← read_value_length (shortest_value marked) (longest_value marked) key.1
  count ← where_body_is (OBJECT_BYTES + key_count.0 + any.0 + (if marked then MARK_BYTES else 0)) body any
  value ← read_value count.0 count.1
  Ok (
    Held (record {
      table = head.0.table;
      version = head.0.version;
      client = head.0.client;
      seq = head.0.seq;
      key = key.0;
      value = Some value.0;
    }),
    value.1,
  )

-- whether the reason with this number says that the call was a removal, of which no version was found
abbrev pub why_numbered : ℕ → ℕ → Option Bool
why_numbered found number =
    if number == MET_ANOTHER then Some false
    else if number == MET_NONE && (found == 0) then Some true
    else None

-- whether the call was a removal, and the bytes after the reason
unfoldable pub read_why : ℕ → List ℕ → Result (Bool × List ℕ) DecodeError
read_why found bytes = do
  number ← read_number w8 bytes
  absent ← ok_or (why_numbered found number.0) (Bad BAD_CHOICE)
  Ok (absent, number.1)

-- the fields of a refusal
unfoldable pub read_refused : ℕ → List ℕ → Result (Entry × List ℕ) DecodeError
read_refused body bytes = do
  head ← read_head 0 bytes
  why ← read_why head.0.version head.1
  any ← read_key_length why.1
  count ← where_body_is (REFUSED_BYTES + any.0) body any
  key ← read_key count.0 count.1
  Ok (
    Refused (record {
      table = head.0.table;
      found = head.0.version;
      client = head.0.client;
      seq = head.0.seq;
      absent = why.0;
      key = key.0;
    }),
    key.1,
  )

-- the fields of the ends that came with a tablet
unfoldable pub read_carried : ℕ → List ℕ → Result (Entry × List ℕ) DecodeError
read_carried body bytes = do
  range ← read_range bytes
  term ← read_from w64 1 range.1
  floor ← read_from w64 1 term.1
  any ← read_number w16 floor.1
  count ← where_body_is (CARRIED_BYTES + END_BYTES * any.0) body any
  ends ← read_ends count.0 0 [] count.1
  Ok (Carried (record { range = range.0; term = term.0; floor = floor.0; ends = ends.0 }), ends.1)

-- the fields of the side segments that became part of the log
unfoldable pub read_joined : ℕ → List ℕ → Result (Entry × List ℕ) DecodeError
read_joined body bytes = do
  range ← read_range bytes
  term ← read_from w64 1 range.1
  any ← read_number w32 term.1
  count ← where_body_is (JOINED_BYTES + SEGMENT_NUMBER_BYTES * any.0) body any
  segments ← read_segments count.0 [] count.1
  Ok (Joined (record { range = range.0; term = term.0; segments = segments.0 }), segments.1)

-- the fields of an entry of this kind with a body of so many bytes, and the bytes after them
abbrev pub read_fields : Kind → ℕ → List ℕ → Result (Entry × List ℕ) DecodeError
read_fields kinds.Object body bytes = read_object false body bytes
read_fields kinds.Tombstone body bytes = read_tombstone body bytes
read_fields kinds.Refused body bytes = read_refused body bytes
read_fields kinds.Carried body bytes = read_carried body bytes
read_fields kinds.Joined body bytes = read_joined body bytes
read_fields kinds.LongObject body bytes = read_object true body bytes

-- the mark of an entry of this kind that begins with these bytes, if it has one, and the bytes after it
unfoldable pub read_mark : Kind → List ℕ → List ℕ → Result (List ℕ) DecodeError
read_mark kind front bytes =
    if is_marked kind
    then (read_number w8 bytes >>= λ mark. unless (not (mark.0 == mark_of front)) BAD_MARK mark.1)
    else Ok bytes

-- the bytes before the rest
abbrev pub before : List ℕ → List ℕ → List ℕ
before rest bytes = take (length bytes - length rest) bytes

-- the entry at the front of the bytes, and the bytes after it
unfoldable pub read_entry : List ℕ → Result (Entry × List ℕ) DecodeError
read_entry bytes = do
  kind ← read_kind bytes
  body ← read_body_length kind.0 kind.1
  entry ← read_fields kind.0 body.0 body.1
  rest ← read_mark kind.0 (before entry.1 bytes) entry.1
  Ok (entry.0, rest)
