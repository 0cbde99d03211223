-- The frames between clients and the nodes that serve them: Request, Reply, Lookup and Located.
use Rattle.std.specs.Prelude.{◌≡◌, ℕ, ◌+◌, ◌++◌, List, [], length, ◌==◌, not, if◌then◌else◌, Option, Some, None, Result, Ok, Err, ⊤}
use Rattle.std.specs.Int.{w8, w32, w64, is_in_range}
use Rattle.rk_types.specs.declared.call.Op.{Op}
use Rattle.rk_types.specs.declared.call.Op.TheVariants.{Get, Put, CondPut, Delete}
use Rattle.rk_types.specs.declared.call.Outcome.TheVariants.{Found, Absent, Written, Deleted, Mismatch}
use Rattle.rk_types.specs.declared.call.Answer.{Answer}
use Rattle.rk_types.specs.declared.call.Answer.TheVariants.{Done, Moved, NotYet}
use Rattle.rk_types.specs.Text.{key_fault, value_fault}
use Rattle.rk_entry.specs.declared.error.DecodeError.{DecodeError}
use Rattle.rk_entry.specs.declared.error.DecodeError.TheVariants.{Bad}
use Rattle.rk_entry.specs.declared.error.TheConstants.{BAD_CHOICE}
use Rattle.rk_entry.specs.Steps.{◌>>=◌, unless}
use Rattle.rk_entry.specs.Numbers.{number_bytes, IsNumber, read_number}
use Rattle.rk_entry.specs.Texts.{key_bytes, value_bytes}
use Rattle.rk_entry.specs.Ends.{range_bytes}
use Rattle.rk_entry.specs.Reading.{where_body_is}
use Rattle.rk_message.specs.declared.calls.Request.{Request}
use Rattle.rk_message.specs.declared.calls.Reply.{Reply}
use Rattle.rk_message.specs.declared.calls.Lookup.{Lookup}
use Rattle.rk_message.specs.declared.calls.Located.{Located}
use Rattle.rk_message.specs.declared.calls.Asked.{Asked}
use Rattle.rk_message.specs.declared.calls.TheConstants.{GET, PUT, COND_PUT, DELETE, FOUND, ABSENT, WRITTEN, DELETED, MISMATCH, MOVED, NOT_YET, REQUEST_BYTES, REPLY_BYTES}
use Rattle.rk_message.specs.Fields.{IsAnyRange, read_any_range}
use Rattle.rk_message.specs.Texts.{read_any_key, read_last_key, read_last_value, read_last_number}

-- ---- requests

-- the number of an operation
abbrev pub op_number : Op → ℕ
op_number Get = GET
op_number (Put value) = PUT
op_number (CondPut expected value) = COND_PUT
op_number Delete = DELETE

-- what follows the key
abbrev pub op_bytes : Op → List ℕ
op_bytes Get = []
op_bytes (Put value) = value_bytes value
op_bytes (CondPut expected value) = number_bytes w64 expected ++ value_bytes value
op_bytes Delete = []

-- how many bytes follow the key
abbrev pub op_count : Op → ℕ
op_count Get = 0
op_count (Put value) = 4 + length value
op_count (CondPut expected value) = 8 + (4 + length value)
op_count Delete = 0

-- the value is one, and any version may be expected
abbrev pub IsLawfulOp : Op → Type 0
IsLawfulOp Get = ⊤
IsLawfulOp (Put value) = value_fault value ≡ None
IsLawfulOp (CondPut expected value) = IsNumber w64 0 expected × (value_fault value ≡ None)
IsLawfulOp Delete = ⊤

-- the number of the operation, the table, the key, and what follows it
unfoldable pub asked_bytes : Asked → List ℕ
asked_bytes asked = number_bytes w8 (op_number asked.op) ++ (number_bytes w64 asked.table ++ (key_bytes asked.key ++ op_bytes asked.op))

-- a key of any table, and a lawful operation
abbrev pub IsLawfulAsked : Asked → Type 0
IsLawfulAsked asked = IsNumber w64 0 asked.table × (key_fault asked.key ≡ None) × IsLawfulOp asked.op

-- the number of an operation, and the bytes after it
unfoldable pub read_op_number : List ℕ → Result (ℕ × List ℕ) DecodeError
read_op_number bytes = do
  number ← read_number w8 bytes
  unless (not (is_in_range GET DELETE number.0)) BAD_CHOICE number

-- a key alone, with which the fields end, and the bytes after it
unfoldable pub read_bare : Op → ℕ → ℕ → List ℕ → Result (Asked × List ℕ) DecodeError
read_bare op table size bytes = do
  key ← read_last_key REQUEST_BYTES size bytes
  Ok (record { table = table; key = key.0; op = op }, key.1)

-- a key and the value to write, and the bytes after them
unfoldable pub read_put : ℕ → ℕ → List ℕ → Result (Asked × List ℕ) DecodeError
read_put table size bytes = do
  key ← read_any_key bytes
  value ← read_last_value (REQUEST_BYTES + length key.0 + 4) size key.1
  Ok (record { table = table; key = key.0; op = Put value.0 }, value.1)

-- a key, the version that is expected and the value to write, and the bytes after them
unfoldable pub read_cond_put : ℕ → ℕ → List ℕ → Result (Asked × List ℕ) DecodeError
read_cond_put table size bytes = do
  key ← read_any_key bytes
  expected ← read_number w64 key.1
  value ← read_last_value (REQUEST_BYTES + length key.0 + 12) size expected.1
  Ok (record { table = table; key = key.0; op = CondPut expected.0 value.0 }, value.1)

-- what the operation of this number asks of a record of the table, and the bytes after it
unfoldable pub read_op : ℕ → ℕ → ℕ → List ℕ → Result (Asked × List ℕ) DecodeError
read_op number table size bytes =
    if number == GET then read_bare Get table size bytes
    else if number == PUT then read_put table size bytes
    else if number == COND_PUT then read_cond_put table size bytes
    else if number == DELETE then read_bare Delete table size bytes
    else Err (Bad BAD_CHOICE)

-- what is asked of which record, and the bytes after it
unfoldable pub read_asked : ℕ → List ℕ → Result (Asked × List ℕ) DecodeError
read_asked size bytes = do
  number ← read_op_number bytes
  table ← read_number w64 number.1
  read_op number.0 table.0 size table.1

-- what is asked by a request
abbrev pub asked_of : Request → Asked
asked_of request = record { table = request.table; key = request.key; op = request.op }

-- the tablet, the seq, the highest stamp seen, and what is asked
unfoldable pub request_bytes : Request → List ℕ
request_bytes request =
    number_bytes w32 request.tablet ++ (number_bytes w64 request.seq ++ (number_bytes w64 request.seen ++ asked_bytes (asked_of request)))

-- how many bytes a request takes
abbrev pub request_count : Request → ℕ
request_count request = REQUEST_BYTES + length request.key + op_count request.op

-- any tablet, seq and stamp, and what may be asked
abbrev pub IsLawfulRequest : Request → Type 0
IsLawfulRequest request = IsNumber w32 0 request.tablet × IsNumber w64 0 request.seq × IsNumber w64 0 request.seen × IsLawfulAsked (asked_of request)

-- a Request of `size` bytes, and the bytes after it
unfoldable pub read_request : ℕ → List ℕ → Result (Request × List ℕ) DecodeError
read_request size bytes = do
  tablet ← read_number w32 bytes
  seq ← read_number w64 tablet.1
  seen ← read_number w64 seq.1
  asked ← read_asked size seen.1
  Ok (record { tablet = tablet.0; seq = seq.0; seen = seen.0; table = asked.0.table; key = asked.0.key; op = asked.0.op }, asked.1)

-- ---- replies

-- the number of an answer
abbrev pub answer_number : Answer → ℕ
answer_number (Done (Found version value)) = FOUND
answer_number (Done Absent) = ABSENT
answer_number (Done (Written version)) = WRITTEN
answer_number (Done (Deleted version)) = DELETED
answer_number (Done (Mismatch version)) = MISMATCH
answer_number (Moved tablet) = MOVED
answer_number (NotYet key) = NOT_YET

-- what follows the number
abbrev pub told_bytes : Answer → List ℕ
told_bytes (Done (Found version value)) = number_bytes w64 version ++ value_bytes value
told_bytes (Done Absent) = []
told_bytes (Done (Written version)) = number_bytes w64 version
told_bytes (Done (Deleted version)) = number_bytes w64 version
told_bytes (Done (Mismatch version)) = number_bytes w64 version
told_bytes (Moved tablet) = number_bytes w32 tablet
told_bytes (NotYet key) = key_bytes key

-- how many bytes follow the number
abbrev pub told_count : Answer → ℕ
told_count (Done (Found version value)) = 8 + (4 + length value)
told_count (Done Absent) = 0
told_count (Done (Written version)) = 8
told_count (Done (Deleted version)) = 8
told_count (Done (Mismatch version)) = 8
told_count (Moved tablet) = 4
told_count (NotYet key) = 1 + length key

-- any version, tablet, value and key
abbrev pub IsLawfulAnswer : Answer → Type 0
IsLawfulAnswer (Done (Found version value)) = IsNumber w64 0 version × (value_fault value ≡ None)
IsLawfulAnswer (Done Absent) = ⊤
IsLawfulAnswer (Done (Written version)) = IsNumber w64 0 version
IsLawfulAnswer (Done (Deleted version)) = IsNumber w64 0 version
IsLawfulAnswer (Done (Mismatch version)) = IsNumber w64 0 version
IsLawfulAnswer (Moved tablet) = IsNumber w32 0 tablet
IsLawfulAnswer (NotYet key) = key_fault key ≡ None

-- the number of the answer, and what follows it
unfoldable pub answer_bytes : Answer → List ℕ
answer_bytes answer = number_bytes w8 (answer_number answer) ++ told_bytes answer

-- the version and the value of a record, and the bytes after them
unfoldable pub read_found : ℕ → List ℕ → Result (Answer × List ℕ) DecodeError
read_found size bytes = do
  version ← read_number w64 bytes
  value ← read_last_value (REPLY_BYTES + 12) size version.1
  Ok (Done (Found version.0 value.0), value.1)

-- nothing more, and the bytes after it
unfoldable pub read_absent : ℕ → List ℕ → Result (Answer × List ℕ) DecodeError
read_absent size bytes = where_body_is REPLY_BYTES size (Done Absent, bytes)

-- an answer that a version makes, and the bytes after it
unfoldable pub read_version : (ℕ → Answer) → ℕ → List ℕ → Result (Answer × List ℕ) DecodeError
read_version answer size bytes = do
  version ← read_last_number w64 (REPLY_BYTES + 8) size bytes
  Ok (answer version.0, version.1)

-- the tablet that has moved, and the bytes after it
unfoldable pub read_moved : ℕ → List ℕ → Result (Answer × List ℕ) DecodeError
read_moved size bytes = do
  tablet ← read_last_number w32 (REPLY_BYTES + 4) size bytes
  Ok (Moved tablet.0, tablet.1)

-- the key that has not arrived, and the bytes after it
unfoldable pub read_not_yet : ℕ → List ℕ → Result (Answer × List ℕ) DecodeError
read_not_yet size bytes = do
  key ← read_last_key (REPLY_BYTES + 1) size bytes
  Ok (NotYet key.0, key.1)

-- the answer of this number, and the bytes after it
unfoldable pub read_told : ℕ → ℕ → List ℕ → Result (Answer × List ℕ) DecodeError
read_told number size bytes =
    if number == FOUND then read_found size bytes
    else if number == ABSENT then read_absent size bytes
    else if number == WRITTEN then read_version (λ version. Done (Written version)) size bytes
    else if number == DELETED then read_version (λ version. Done (Deleted version)) size bytes
    else if number == MISMATCH then read_version (λ version. Done (Mismatch version)) size bytes
    else if number == MOVED then read_moved size bytes
    else if number == NOT_YET then read_not_yet size bytes
    else Err (Bad BAD_CHOICE)

-- an answer, with which the fields end, and the bytes after it
unfoldable pub read_answer : ℕ → List ℕ → Result (Answer × List ℕ) DecodeError
read_answer size bytes = do
  number ← read_number w8 bytes
  read_told number.0 size number.1

-- the seq, the stamp, the place and the answer
unfoldable pub reply_bytes : Reply → List ℕ
reply_bytes reply =
    number_bytes w64 reply.seq ++ (number_bytes w64 reply.stamp ++ (number_bytes w64 reply.place ++ answer_bytes reply.answer))

-- how many bytes a reply takes
abbrev pub reply_count : Reply → ℕ
reply_count reply = REPLY_BYTES + told_count reply.answer

-- any seq, stamp and place, and a lawful answer
abbrev pub IsLawfulReply : Reply → Type 0
IsLawfulReply reply = IsNumber w64 0 reply.seq × IsNumber w64 0 reply.stamp × IsNumber w64 0 reply.place × IsLawfulAnswer reply.answer

-- a Reply of `size` bytes, and the bytes after it
unfoldable pub read_reply : ℕ → List ℕ → Result (Reply × List ℕ) DecodeError
read_reply size bytes = do
  seq ← read_number w64 bytes
  stamp ← read_number w64 seq.1
  place ← read_number w64 stamp.1
  answer ← read_answer size place.1
  Ok (record { seq = seq.0; stamp = stamp.0; place = place.0; answer = answer.0 }, answer.1)

-- ---- where a tablet is

-- the table and the hash
unfoldable pub lookup_bytes : Lookup → List ℕ
lookup_bytes lookup = number_bytes w64 lookup.table ++ number_bytes w64 lookup.hash

-- any hash of any table
abbrev pub IsLawfulLookup : Lookup → Type 0
IsLawfulLookup lookup = IsNumber w64 0 lookup.table × IsNumber w64 0 lookup.hash

-- a Lookup, and the bytes after it
unfoldable pub read_lookup : List ℕ → Result (Lookup × List ℕ) DecodeError
read_lookup bytes = do
  table ← read_number w64 bytes
  hash ← read_number w64 table.1
  Ok (record { table = table.0; hash = hash.0 }, hash.1)

-- the number of an owner, 0 for none
abbrev pub owner_number : Option ℕ → ℕ
owner_number None = 0
owner_number (Some owner) = owner

-- the owner of this number, none for 0
abbrev pub owner_of : ℕ → Option ℕ
owner_of number = if number == 0 then None else Some number

-- no owner, or one with a number of one byte from 1
abbrev pub IsLawfulOwner : Option ℕ → Type 0
IsLawfulOwner None = ⊤
IsLawfulOwner (Some owner) = IsNumber w8 1 owner

-- the number of an owner as a byte
unfoldable pub owner_bytes : Option ℕ → List ℕ
owner_bytes owner = number_bytes w8 (owner_number owner)

-- an owner, and the bytes after it
unfoldable pub read_owner : List ℕ → Result (Option ℕ × List ℕ) DecodeError
read_owner bytes = do
  number ← read_number w8 bytes
  Ok (owner_of number.0, number.1)

-- the tablet, its range and its owner
unfoldable pub located_bytes : Located → List ℕ
located_bytes located = number_bytes w32 located.tablet ++ (range_bytes located.range ++ owner_bytes located.owner)

-- any tablet and any range, with a lawful owner
abbrev pub IsLawfulLocated : Located → Type 0
IsLawfulLocated located = IsNumber w32 0 located.tablet × IsAnyRange located.range × IsLawfulOwner located.owner

-- a Located, and the bytes after it
unfoldable pub read_located : List ℕ → Result (Located × List ℕ) DecodeError
read_located bytes = do
  tablet ← read_number w32 bytes
  range ← read_any_range tablet.1
  owner ← read_owner range.1
  Ok (record { tablet = tablet.0; range = range.0; owner = owner.0 }, owner.1)
