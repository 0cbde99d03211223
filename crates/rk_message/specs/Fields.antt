-- The fields of frames that entries have not: nodes, tenures, tokens, and bytes and lists after their counts.
use Rattle.std.specs.Prelude.{ℕ, zero, suc, ◌+◌, ◌*◌, ◌++◌, ◌&&◌, List, [], ◌∷◌, length, take, drop, ◌==◌, nat_lt, not, if◌then◌else◌, Option, Some, None, Result, Ok, Err, ⊤}
use Rattle.std.specs.Int.{w8, w16, w32, w64, is_in_range}
use Rattle.std.specs.List.{flat_map}
use Rattle.std.specs.Option.{ok_or}
use Rattle.rk_types.specs.declared.node.Node.{Node}
use Rattle.rk_types.specs.declared.node.Node.TheVariants.{Client, Coordinator, Master, Backup}
use Rattle.rk_types.specs.declared.held.Token.{Token}
use Rattle.rk_types.specs.declared.range.Range.{Range}
use Rattle.rk_entry.specs.declared.error.DecodeError.{DecodeError}
use Rattle.rk_entry.specs.declared.error.DecodeError.TheVariants.{Cut, Bad}
use Rattle.rk_entry.specs.declared.error.TheConstants.{BAD_NUMBER}
use Rattle.rk_entry.specs.Steps.{◌>>=◌, unless}
use Rattle.rk_entry.specs.Numbers.{number_bytes, IsNumber, read_number}
use Rattle.rk_entry.specs.Reading.{where_body_is}
use Rattle.rk_message.specs.declared.handover.Tenure.{Tenure}
use Rattle.rk_message.specs.declared.fields.TheConstants.{CLIENT, COORDINATOR, MASTER, BACKUP}

-- the number of a node's kind
abbrev pub node_kind : Node → ℕ
node_kind (Client number) = CLIENT
node_kind Coordinator = COORDINATOR
node_kind (Master number) = MASTER
node_kind (Backup number) = BACKUP

-- a node's number among those of its kind
abbrev pub node_number : Node → ℕ
node_number (Client number) = number
node_number Coordinator = 0
node_number (Master number) = number
node_number (Backup number) = number

-- the kind of a node and its number
unfoldable pub node_bytes : Node → List ℕ
node_bytes node = number_bytes w8 (node_kind node) ++ number_bytes w32 (node_number node)

-- masters and backups have numbers of one byte
abbrev pub IsLawfulNode : Node → Type 0
IsLawfulNode (Client number) = IsNumber w32 0 number
IsLawfulNode Coordinator = ⊤
IsLawfulNode (Master number) = IsNumber w8 0 number
IsLawfulNode (Backup number) = IsNumber w8 0 number

-- the node of this kind with this number, if there is one
abbrev pub node_of : ℕ → ℕ → Option Node
node_of kind number =
    if kind == CLIENT then Some (Client number)
    else if (kind == COORDINATOR) && (number == 0) then Some Coordinator
    else if (kind == MASTER) && nat_lt number 256 then Some (Master number)
    else if (kind == BACKUP) && nat_lt number 256 then Some (Backup number)
    else None

-- a node, and the bytes after it
unfoldable pub read_node : List ℕ → Result (Node × List ℕ) DecodeError
read_node bytes = do
  any ← read_number w8 bytes
  kind ← unless (not (is_in_range CLIENT BACKUP any.0)) BAD_NUMBER any
  number ← read_number w32 kind.1
  node ← ok_or (node_of kind.0 number.0) (Bad BAD_NUMBER)
  Ok (node, number.1)

-- the tablet and the term
unfoldable pub tenure_bytes : Tenure → List ℕ
tenure_bytes tenure = number_bytes w32 tenure.tablet ++ number_bytes w64 tenure.term

-- any tablet at any term
abbrev pub IsLawfulTenure : Tenure → Type 0
IsLawfulTenure tenure = IsNumber w32 0 tenure.tablet × IsNumber w64 0 tenure.term

-- a tenure, and the bytes after it
unfoldable pub read_tenure : List ℕ → Result (Tenure × List ℕ) DecodeError
read_tenure bytes = do
  tablet ← read_number w32 bytes
  term ← read_number w64 tablet.1
  Ok (record { tablet = tablet.0; term = term.0 }, term.1)

-- the bucket, and how many of its items are passed over
unfoldable pub token_bytes : Token → List ℕ
token_bytes token = number_bytes w16 token.bucket ++ number_bytes w32 token.skip

-- any place in the order of a scan
abbrev pub IsLawfulToken : Token → Type 0
IsLawfulToken token = IsNumber w16 0 token.bucket × IsNumber w32 0 token.skip

-- a token, and the bytes after it
unfoldable pub read_token : List ℕ → Result (Token × List ℕ) DecodeError
read_token bytes = do
  bucket ← read_number w16 bytes
  skip ← read_number w32 bucket.1
  Ok (record { bucket = bucket.0; skip = skip.0 }, skip.1)

-- any table and any two hashes, which may be those of no range of a log
pub record IsAnyRange (range : Range) : Type 0 where
  pub table : IsNumber w64 0 range.table
  pub first : IsNumber w64 0 range.first
  pub last : IsNumber w64 0 range.last

-- any range, and the bytes after it
unfoldable pub read_any_range : List ℕ → Result (Range × List ℕ) DecodeError
read_any_range bytes = do
  table ← read_number w64 bytes
  first ← read_number w64 table.1
  last ← read_number w64 first.1
  Ok (record { table = table.0; first = first.0; last = last.0 }, last.1)

-- so many bytes as they are, and the bytes after them
unfoldable pub read_bytes : ℕ → List ℕ → Result (List ℕ × List ℕ) DecodeError
read_bytes count bytes = if nat_lt (length bytes) count then Err Cut else Ok (take count bytes, drop count bytes)

-- bytes after their count
unfoldable pub counted_bytes : List ℕ → List ℕ
counted_bytes bytes = number_bytes w32 (length bytes) ++ bytes

-- the count of bytes that end a body of `body` bytes, of which `first` are not these, and the bytes after it
unfoldable pub read_last_count : ℕ → ℕ → List ℕ → Result (ℕ × List ℕ) DecodeError
read_last_count first body bytes = do
  any ← read_number w32 bytes
  where_body_is (first + any.0) body any

-- the bytes that end such a body, after their count, and the bytes after them
unfoldable pub read_last_bytes : ℕ → ℕ → List ℕ → Result (List ℕ × List ℕ) DecodeError
read_last_bytes first body bytes = do
  count ← read_last_count first body bytes
  read_bytes count.0 count.1

-- elements, one after the other
unfoldable pub elements_bytes : {A : Type 0} → (A → List ℕ) → List A → List ℕ
elements_bytes bytes elements = flat_map bytes elements

-- a list after its count
unfoldable pub list_bytes : {A : Type 0} → (A → List ℕ) → List A → List ℕ
list_bytes bytes elements = number_bytes w32 (length elements) ++ elements_bytes bytes elements

-- so many elements that are read one after the other, and the bytes after them
unfoldable pub read_list : {A : Type 0} → (List ℕ → Result (A × List ℕ) DecodeError) → ℕ → List ℕ → Result (List A × List ℕ) DecodeError
read_list read zero bytes = Ok ([], bytes)
read_list read (suc count) bytes = do
  element ← read bytes
  others ← read_list read count element.1
  Ok (element.0 ∷ others.0, others.1)

-- a list after its count that ends a body of `body` bytes: `first` that are not its elements', and `each` of each element
unfoldable pub read_last_list : {A : Type 0} → (List ℕ → Result (A × List ℕ) DecodeError) → ℕ → ℕ → ℕ → List ℕ → Result (List A × List ℕ) DecodeError
read_last_list read first each body bytes = do
  any ← read_number w32 bytes
  count ← where_body_is (first + each * any.0) body any
  read_list read count.0 count.1
