-- Whole frames: the number of a kind, the length of the body, the sender, the receiver and the fields.
use Rattle.std.specs.Prelude.{◌≡◌, ◌≤◌, ℕ, ◌+◌, ◌-◌, ◌++◌, ◌||◌, ◌&&◌, List, length, drop, ◌==◌, nat_le, not, Bool, Result, Ok}
use Rattle.std.specs.Int.{w8, w32, is_in_range}
use Rattle.std.specs.Option.{ok_or}
use Rattle.rk_types.specs.declared.text.TheConstants.{LONGEST_KEY, LONGEST_VALUE}
use Rattle.rk_entry.specs.declared.error.DecodeError.{DecodeError}
use Rattle.rk_entry.specs.declared.error.DecodeError.TheVariants.{Bad}
use Rattle.rk_entry.specs.declared.error.TheConstants.{BAD_KIND, BAD_BODY_LENGTH}
use Rattle.rk_entry.specs.declared.kind.TheConstants.{HEAD_BYTES, END_BYTES, LONGEST_BODY}
use Rattle.rk_entry.specs.Kinds.{is_list_length}
use Rattle.rk_entry.specs.Steps.{◌>>=◌, unless}
use Rattle.rk_entry.specs.Numbers.{number_bytes, read_number}
use Rattle.rk_message.specs.declared.message.Message.{Message}
use Rattle.rk_message.specs.declared.message.Body.{Body}
use Rattle.rk_message.specs.declared.message.Body.TheVariants as bodies
use Rattle.rk_message.specs.declared.kind.Kind.{Kind}
use Rattle.rk_message.specs.declared.kind.Kind.TheVariants.{Request, Reply, Lookup, Located, Append, Stored, Prepare, Ready, Close, Transfer, Grant, Pull, Pulled, Want, Got, Joined, Own, Release, Rebuild, Read, Copy, Rebuilt}
use Rattle.rk_message.specs.declared.fields.TheConstants.{NODES_BYTES, TENURE_BYTES}
use Rattle.rk_message.specs.declared.calls.TheConstants.{REQUEST_BYTES, REPLY_BYTES, LOOKUP_BYTES, LOCATED_BYTES}
use Rattle.rk_message.specs.declared.replication.TheConstants.{APPEND_BYTES, STORED_BYTES}
use Rattle.rk_message.specs.declared.handover.TheConstants.{PREPARE_BYTES, READY_BYTES, TRANSFER_BYTES, GRANT_BYTES}
use Rattle.rk_message.specs.declared.pulling.TheConstants.{PULL_BYTES, PULLED_BYTES, HASH_BYTES, WANT_BYTES, GOT_BYTES, SHORTEST_ENTRY}
use Rattle.rk_message.specs.declared.rebuilding.TheConstants.{MEMBER_BYTES, REBUILD_BYTES, READ_SEGMENT_BYTES, COPY_BYTES, REBUILT_BYTES}
use Rattle.rk_message.specs.Kinds.{kind_of, kind_number, kind_numbered}
use Rattle.rk_message.specs.Fields.{node_bytes, IsLawfulNode, read_node, tenure_bytes, IsLawfulTenure, read_tenure}
use Rattle.rk_message.specs.Calls.{request_bytes, request_count, IsLawfulRequest, read_request, reply_bytes, reply_count, IsLawfulReply, read_reply, lookup_bytes, IsLawfulLookup, read_lookup, located_bytes, IsLawfulLocated, read_located}
use Rattle.rk_message.specs.Replication.{append_bytes, append_count, IsLawfulAppend, read_append, stored_bytes, IsLawfulStored, read_stored}
use Rattle.rk_message.specs.Handover.{prepare_bytes, IsLawfulPrepare, read_prepare, ready_bytes, IsLawfulReady, read_ready, transfer_bytes, transfer_count, IsLawfulTransfer, read_transfer, grant_bytes, grant_count, IsLawfulGrant, read_grant}
use Rattle.rk_message.specs.Pulling.{pull_bytes, IsLawfulPull, read_pull, pulled_bytes, pulled_count, IsLawfulPulled, read_pulled, want_bytes, want_count, IsLawfulWant, read_want, got_bytes, got_count, IsLawfulGot, read_got}
use Rattle.rk_message.specs.Rebuilding.{rebuild_bytes, rebuild_count, IsLawfulRebuild, read_rebuild, read_segment_bytes, IsLawfulReadSegment, read_read_segment, copy_bytes, copy_count, IsLawfulCopy, read_copy, rebuilt_bytes, rebuilt_count, IsLawfulRebuilt, read_rebuilt}

-- the bytes of the fields
abbrev pub fields_bytes : Body → List ℕ
fields_bytes (bodies.Request body) = request_bytes body
fields_bytes (bodies.Reply body) = reply_bytes body
fields_bytes (bodies.Lookup body) = lookup_bytes body
fields_bytes (bodies.Located body) = located_bytes body
fields_bytes (bodies.Append body) = append_bytes body
fields_bytes (bodies.Stored body) = stored_bytes body
fields_bytes (bodies.Prepare body) = prepare_bytes body
fields_bytes (bodies.Ready body) = ready_bytes body
fields_bytes (bodies.Close body) = tenure_bytes body
fields_bytes (bodies.Transfer body) = transfer_bytes body
fields_bytes (bodies.Grant body) = grant_bytes body
fields_bytes (bodies.Pull body) = pull_bytes body
fields_bytes (bodies.Pulled body) = pulled_bytes body
fields_bytes (bodies.Want body) = want_bytes body
fields_bytes (bodies.Got body) = got_bytes body
fields_bytes (bodies.Joined body) = tenure_bytes body
fields_bytes (bodies.Own body) = tenure_bytes body
fields_bytes (bodies.Release body) = tenure_bytes body
fields_bytes (bodies.Rebuild body) = rebuild_bytes body
fields_bytes (bodies.Read body) = read_segment_bytes body
fields_bytes (bodies.Copy body) = copy_bytes body
fields_bytes (bodies.Rebuilt body) = rebuilt_bytes body

-- how many bytes the fields take
abbrev pub fields_count : Body → ℕ
fields_count (bodies.Request body) = request_count body
fields_count (bodies.Reply body) = reply_count body
fields_count (bodies.Lookup body) = LOOKUP_BYTES
fields_count (bodies.Located body) = LOCATED_BYTES
fields_count (bodies.Append body) = append_count body
fields_count (bodies.Stored body) = STORED_BYTES
fields_count (bodies.Prepare body) = PREPARE_BYTES
fields_count (bodies.Ready body) = READY_BYTES
fields_count (bodies.Close body) = TENURE_BYTES
fields_count (bodies.Transfer body) = transfer_count body
fields_count (bodies.Grant body) = grant_count body
fields_count (bodies.Pull body) = PULL_BYTES
fields_count (bodies.Pulled body) = pulled_count body
fields_count (bodies.Want body) = want_count body
fields_count (bodies.Got body) = got_count body
fields_count (bodies.Joined body) = TENURE_BYTES
fields_count (bodies.Own body) = TENURE_BYTES
fields_count (bodies.Release body) = TENURE_BYTES
fields_count (bodies.Rebuild body) = rebuild_count body
fields_count (bodies.Read body) = READ_SEGMENT_BYTES
fields_count (bodies.Copy body) = copy_count body
fields_count (bodies.Rebuilt body) = rebuilt_count body

-- whether the fields are within their limits
abbrev pub IsLawfulBody : Body → Type 0
IsLawfulBody (bodies.Request body) = IsLawfulRequest body
IsLawfulBody (bodies.Reply body) = IsLawfulReply body
IsLawfulBody (bodies.Lookup body) = IsLawfulLookup body
IsLawfulBody (bodies.Located body) = IsLawfulLocated body
IsLawfulBody (bodies.Append body) = IsLawfulAppend body
IsLawfulBody (bodies.Stored body) = IsLawfulStored body
IsLawfulBody (bodies.Prepare body) = IsLawfulPrepare body
IsLawfulBody (bodies.Ready body) = IsLawfulReady body
IsLawfulBody (bodies.Close body) = IsLawfulTenure body
IsLawfulBody (bodies.Transfer body) = IsLawfulTransfer body
IsLawfulBody (bodies.Grant body) = IsLawfulGrant body
IsLawfulBody (bodies.Pull body) = IsLawfulPull body
IsLawfulBody (bodies.Pulled body) = IsLawfulPulled body
IsLawfulBody (bodies.Want body) = IsLawfulWant body
IsLawfulBody (bodies.Got body) = IsLawfulGot body
IsLawfulBody (bodies.Joined body) = IsLawfulTenure body
IsLawfulBody (bodies.Own body) = IsLawfulTenure body
IsLawfulBody (bodies.Release body) = IsLawfulTenure body
IsLawfulBody (bodies.Rebuild body) = IsLawfulRebuild body
IsLawfulBody (bodies.Read body) = IsLawfulReadSegment body
IsLawfulBody (bodies.Copy body) = IsLawfulCopy body
IsLawfulBody (bodies.Rebuilt body) = IsLawfulRebuilt body

-- whether the fields of some lawful message of this kind take so many bytes, as far as their number alone shows
unfoldable pub is_size : Kind → ℕ → Bool
is_size Request size = is_in_range (REQUEST_BYTES + 1) (REQUEST_BYTES + LONGEST_KEY + 12 + LONGEST_VALUE) size
is_size Reply size = (size == REPLY_BYTES) || is_in_range (REPLY_BYTES + 2) (REPLY_BYTES + 12 + LONGEST_VALUE) size
is_size Lookup size = size == LOOKUP_BYTES
is_size Located size = size == LOCATED_BYTES
is_size Append size = nat_le APPEND_BYTES size
is_size Stored size = size == STORED_BYTES
is_size Prepare size = size == PREPARE_BYTES
is_size Ready size = size == READY_BYTES
is_size Close size = size == TENURE_BYTES
is_size Transfer size = is_list_length TRANSFER_BYTES END_BYTES LONGEST_BODY size
is_size Grant size = is_list_length GRANT_BYTES END_BYTES LONGEST_BODY size
is_size Pull size = size == PULL_BYTES
is_size Pulled size = (size == PULLED_BYTES) || nat_le (PULLED_BYTES + SHORTEST_ENTRY) size
is_size Want size = is_list_length WANT_BYTES HASH_BYTES LONGEST_BODY size
is_size Got size = is_list_length GOT_BYTES HASH_BYTES LONGEST_BODY size || nat_le (GOT_BYTES + SHORTEST_ENTRY) size
is_size Joined size = size == TENURE_BYTES
is_size Own size = size == TENURE_BYTES
is_size Release size = size == TENURE_BYTES
is_size Rebuild size = is_list_length REBUILD_BYTES MEMBER_BYTES LONGEST_BODY size
is_size Read size = size == READ_SEGMENT_BYTES
is_size Copy size = nat_le COPY_BYTES size
is_size Rebuilt size = is_list_length REBUILT_BYTES END_BYTES LONGEST_BODY size

-- a body made of what was read
abbrev pub read_as : {A : Type 0} → (A → Body) → Result (A × List ℕ) DecodeError → Result (Body × List ℕ) DecodeError
read_as make read = do
  fields ← read
  Ok (make fields.0, fields.1)

-- the fields, which take `size` bytes, of a message of this kind, and the bytes after them
unfoldable pub read_fields : Kind → ℕ → List ℕ → Result (Body × List ℕ) DecodeError
read_fields Request size bytes = read_as bodies.Request (read_request size bytes)
read_fields Reply size bytes = read_as bodies.Reply (read_reply size bytes)
read_fields Lookup size bytes = read_as bodies.Lookup (read_lookup bytes)
read_fields Located size bytes = read_as bodies.Located (read_located bytes)
read_fields Append size bytes = read_as bodies.Append (read_append size bytes)
read_fields Stored size bytes = read_as bodies.Stored (read_stored bytes)
read_fields Prepare size bytes = read_as bodies.Prepare (read_prepare bytes)
read_fields Ready size bytes = read_as bodies.Ready (read_ready bytes)
read_fields Close size bytes = read_as bodies.Close (read_tenure bytes)
read_fields Transfer size bytes = read_as bodies.Transfer (read_transfer size bytes)
read_fields Grant size bytes = read_as bodies.Grant (read_grant size bytes)
read_fields Pull size bytes = read_as bodies.Pull (read_pull bytes)
read_fields Pulled size bytes = read_as bodies.Pulled (read_pulled size bytes)
read_fields Want size bytes = read_as bodies.Want (read_want size bytes)
read_fields Got size bytes = read_as bodies.Got (read_got size bytes)
read_fields Joined size bytes = read_as bodies.Joined (read_tenure bytes)
read_fields Own size bytes = read_as bodies.Own (read_tenure bytes)
read_fields Release size bytes = read_as bodies.Release (read_tenure bytes)
read_fields Rebuild size bytes = read_as bodies.Rebuild (read_rebuild size bytes)
read_fields Read size bytes = read_as bodies.Read (read_read_segment bytes)
read_fields Copy size bytes = read_as bodies.Copy (read_copy size bytes)
read_fields Rebuilt size bytes = read_as bodies.Rebuilt (read_rebuilt size bytes)

-- the sender, the receiver and the fields
unfoldable pub body_bytes : Message → List ℕ
body_bytes message = node_bytes message.from ++ (node_bytes message.to ++ fields_bytes message.body)

-- how many bytes a body takes
abbrev pub body_count : Message → ℕ
body_count message = NODES_BYTES + fields_count message.body

-- the one spelling of a message
unfoldable pub frame_bytes : Message → List ℕ
frame_bytes message = number_bytes w8 (kind_number (kind_of message.body)) ++ (number_bytes w32 (body_count message) ++ body_bytes message)

-- how many bytes the spelling of a message takes
abbrev pub frame_len : Message → ℕ
frame_len message = HEAD_BYTES + body_count message

-- a message between nodes that there may be, with lawful fields, whose body is no longer than the longest
pub record IsLawfulMessage (message : Message) : Type 0 where
  pub from : IsLawfulNode message.from
  pub to : IsLawfulNode message.to
  pub body : IsLawfulBody message.body
  pub within : body_count message ≤ LONGEST_BODY

-- a kind, and the bytes after it
unfoldable pub read_kind : List ℕ → Result (Kind × List ℕ) DecodeError
read_kind bytes = do
  number ← read_number w8 bytes
  kind ← ok_or (kind_numbered number.0) (Bad BAD_KIND)
  Ok (kind, number.1)

-- whether some lawful message of this kind has a body of so many bytes, as far as their number alone shows
abbrev pub is_body_length : Kind → ℕ → Bool
is_body_length kind body = is_in_range NODES_BYTES LONGEST_BODY body && is_size kind (body - NODES_BYTES)

-- how many bytes of a body of this kind are fields, and the bytes after its length
unfoldable pub read_size : Kind → List ℕ → Result (ℕ × List ℕ) DecodeError
read_size kind bytes = do
  body ← read_number w32 bytes
  unless (not (is_body_length kind body.0)) BAD_BODY_LENGTH (body.0 - NODES_BYTES, body.1)

-- the message at the front of the bytes, and the bytes after it
unfoldable pub read_frame : List ℕ → Result (Message × List ℕ) DecodeError
read_frame bytes = do
  kind ← read_kind bytes
  size ← read_size kind.0 kind.1
  from ← read_node size.1
  to ← read_node from.1
  body ← read_fields kind.0 size.0 to.1
  Ok (record { from = from.0; to = to.0; body = body.0 }, body.1)

-- a lawful message is spelled by the first `count` bytes
pub record StandsFirst (bytes : List ℕ) (message : Message) (count : ℕ) : Type 0 where
  pub lawful : IsLawfulMessage message
  pub count_is : count ≡ length (frame_bytes message)
  pub bytes_are : bytes ≡ frame_bytes message ++ drop count bytes
