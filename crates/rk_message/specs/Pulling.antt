-- The frames that fetch the records of a tablet: Pull, Pulled, Want and Got.
use Rattle.std.specs.Prelude.{ℕ, zero, suc, ◌+◌, ◌*◌, ◌-◌, ◌++◌, List, [], ◌∷◌, length, take, slice_get, nat_lt, if◌then◌else◌, unwrap_or, Result, Ok, Err}
use Rattle.std.specs.Int.{w8, w32, w64}
use Rattle.std.specs.List.{AllByRecursion, sum_by}
use Rattle.std.specs.Option.{ok_or}
use Rattle.rk_entry.specs.declared.entry.Entry.{Entry}
use Rattle.rk_entry.specs.declared.error.DecodeError.{DecodeError}
use Rattle.rk_entry.specs.declared.error.DecodeError.TheVariants.{Cut, Bad, NoMemory}
use Rattle.rk_entry.specs.declared.error.TheConstants.{BAD_KIND, BAD_BODY_LENGTH, BAD_CHOICE}
use Rattle.rk_entry.specs.declared.kind.Kind.{Kind}
use Rattle.rk_entry.specs.declared.kind.Kind.TheVariants as kinds
use Rattle.rk_entry.specs.declared.kind.TheConstants.{HEAD_BYTES, OBJECT_BYTES, TOMBSTONE_BYTES, REFUSED_BYTES, CARRIED_BYTES, JOINED_BYTES}
use Rattle.rk_entry.specs.Kinds.{kind_numbered}
use Rattle.rk_entry.specs.Steps.{◌>>=◌, unless}
use Rattle.rk_entry.specs.Numbers.{number_bytes, IsNumber, read_number}
use Rattle.rk_entry.specs.Spelling.{spelled}
use Rattle.rk_entry.specs.Lawful.{IsLawfulEntry}
use Rattle.rk_entry.specs.Reading.{where_body_is, read_entry}
use Rattle.rk_message.specs.declared.pulling.Pull.{Pull}
use Rattle.rk_message.specs.declared.pulling.Pulled.{Pulled}
use Rattle.rk_message.specs.declared.pulling.Want.{Want}
use Rattle.rk_message.specs.declared.pulling.Got.{Got}
use Rattle.rk_message.specs.declared.pulling.TheConstants.{PULLED_BYTES, HASH_BYTES, WANT_BYTES, GOT_BYTES}
use Rattle.rk_message.specs.declared.pulling.entries.TheConstants.{KEY_LENGTH_PLACE}
use Rattle.rk_message.specs.Fields.{tenure_bytes, IsLawfulTenure, read_tenure, token_bytes, IsLawfulToken, read_token, list_bytes, read_list, read_last_list}

-- ---- Pull

-- the tenure and the token
unfoldable pub pull_bytes : Pull → List ℕ
pull_bytes pull = tenure_bytes pull.tenure ++ token_bytes pull.token

-- any tenure and any token
abbrev pub IsLawfulPull : Pull → Type 0
IsLawfulPull pull = IsLawfulTenure pull.tenure × IsLawfulToken pull.token

-- a Pull, and the bytes after it
unfoldable pub read_pull : List ℕ → Result (Pull × List ℕ) DecodeError
read_pull bytes = do
  tenure ← read_tenure bytes
  token ← read_token tenure.1
  Ok (record { tenure = tenure.0; token = token.0 }, token.1)

-- ---- entries within a frame

-- what was read of an entry within a frame, to which each unlawful entry is a bad choice
abbrev pub within_frame : Result (Entry × List ℕ) DecodeError → Result (Entry × List ℕ) DecodeError
within_frame (Ok read) = Ok read
within_frame (Err Cut) = Err Cut
within_frame (Err (Bad code)) = Err (Bad BAD_CHOICE)
within_frame (Err NoMemory) = Err NoMemory

-- an entry within a frame, and the bytes after it
unfoldable pub read_entry_within : List ℕ → Result (Entry × List ℕ) DecodeError
read_entry_within bytes = within_frame (read_entry bytes)

-- how many bytes an entry takes
abbrev pub entry_count : Entry → ℕ
entry_count entry = length (spelled entry)

-- ---- entries that end a body

-- how many bytes an entry of this kind has up to its last length or count, if its key has so many bytes
abbrev pub front_length : Kind → ℕ → ℕ
front_length kinds.Object key = HEAD_BYTES + OBJECT_BYTES + key
front_length kinds.Tombstone key = HEAD_BYTES + TOMBSTONE_BYTES
front_length kinds.Refused key = HEAD_BYTES + REFUSED_BYTES
front_length kinds.Carried key = HEAD_BYTES + CARRIED_BYTES
front_length kinds.Joined key = HEAD_BYTES + JOINED_BYTES
front_length kinds.LongObject key = HEAD_BYTES + OBJECT_BYTES + key

-- the number, if what was read of the front of an entry shows no other fault than that more is to come
abbrev pub where_lawful : ℕ → Result (Entry × List ℕ) DecodeError → Result ℕ DecodeError
where_lawful n (Ok read) = Ok n
where_lawful n (Err Cut) = Ok n
where_lawful n (Err (Bad code)) = Err (Bad code)
where_lawful n (Err NoMemory) = Err NoMemory

-- the number, if the first `count` bytes of an entry are there and lawful
unfoldable pub where_front_is : ℕ → ℕ → List ℕ → Result ℕ DecodeError
where_front_is count n bytes = if nat_lt (length bytes) count then Err Cut else where_lawful n (read_entry (take count bytes))

-- how many bytes the entry at the front takes, once all up to its last length or count is there and lawful
unfoldable pub told_length : List ℕ → Result ℕ DecodeError
told_length bytes = do
  number ← read_number w8 bytes
  kind ← ok_or (kind_numbered number.0) (Bad BAD_KIND)
  body ← read_number w32 number.1
  where_front_is (front_length kind (unwrap_or (slice_get bytes KEY_LENGTH_PLACE) 0)) (HEAD_BYTES + body.0) bytes

-- nothing, unless an entry shows another length than `size` for the body that it ends, of which `before` bytes come before it
abbrev pub where_none_other : ℕ → ℕ → Result ℕ DecodeError → Result (Unit {0}) DecodeError
where_none_other before size (Ok told) = where_body_is (before + told) size tt
where_none_other before size (Err fault) = Ok tt

-- what was read at these bytes of the entry that ends such a body: another length comes before a fault of its own, once it is known
abbrev pub where_last : ℕ → ℕ → List ℕ → Result (Entry × List ℕ) DecodeError → Result (Entry × List ℕ) DecodeError
where_last before size bytes (Ok read) = where_body_is (before + (length bytes - length read.1)) size read
where_last before size bytes (Err fault) = where_none_other before size (told_length bytes) >>= λ none. Err fault

-- the entry that ends such a body, and the bytes after it
unfoldable pub read_last_entry : ℕ → ℕ → List ℕ → Result (Entry × List ℕ) DecodeError
read_last_entry before size bytes = where_last before size bytes (read_entry_within bytes)

-- so many entries that end a body of `size` bytes, of which `first` are not theirs, and the bytes after them
unfoldable pub read_ending : ℕ → ℕ → ℕ → List ℕ → Result (List Entry × List ℕ) DecodeError
read_ending first size zero bytes = where_body_is first size ([], bytes)
read_ending first size (suc others) bytes = do
  front ← read_list read_entry_within others bytes
  last ← read_last_entry (first + (length bytes - length front.1)) size front.1
  Ok (front.0 ++ last.0 ∷ [], last.1)

-- such entries after their count, and the bytes after them
unfoldable pub read_last_entries : ℕ → ℕ → List ℕ → Result (List Entry × List ℕ) DecodeError
read_last_entries first size bytes = do
  count ← read_number w32 bytes
  read_ending first size count.0 count.1

-- ---- Pulled

-- the tenure, the token, that of the next batch, and the entries
unfoldable pub pulled_bytes : Pulled → List ℕ
pulled_bytes pulled = tenure_bytes pulled.tenure ++ (token_bytes pulled.token ++ (token_bytes pulled.next ++ list_bytes spelled pulled.entries))

-- how many bytes that is
abbrev pub pulled_count : Pulled → ℕ
pulled_count pulled = PULLED_BYTES + sum_by entry_count pulled.entries

-- any tokens and lawful entries
pub record IsLawfulPulled (pulled : Pulled) : Type 0 where
  pub tenure : IsLawfulTenure pulled.tenure
  pub token : IsLawfulToken pulled.token
  pub next : IsLawfulToken pulled.next
  pub entries : AllByRecursion IsLawfulEntry pulled.entries

-- a Pulled of `size` bytes, and the bytes after it
unfoldable pub read_pulled : ℕ → List ℕ → Result (Pulled × List ℕ) DecodeError
read_pulled size bytes = do
  tenure ← read_tenure bytes
  token ← read_token tenure.1
  next ← read_token token.1
  entries ← read_last_entries PULLED_BYTES size next.1
  Ok (record { tenure = tenure.0; token = token.0; next = next.0; entries = entries.0 }, entries.1)

-- ---- Want

-- the tenure and the hashes
unfoldable pub want_bytes : Want → List ℕ
want_bytes want = tenure_bytes want.tenure ++ list_bytes (number_bytes w64) want.hashes

-- how many bytes that is
abbrev pub want_count : Want → ℕ
want_count want = WANT_BYTES + HASH_BYTES * length want.hashes

-- any hashes
abbrev pub IsLawfulWant : Want → Type 0
IsLawfulWant want = IsLawfulTenure want.tenure × AllByRecursion (IsNumber w64 0) want.hashes

-- a Want of `size` bytes, and the bytes after it
unfoldable pub read_want : ℕ → List ℕ → Result (Want × List ℕ) DecodeError
read_want size bytes = do
  tenure ← read_tenure bytes
  hashes ← read_last_list (read_number w64) WANT_BYTES HASH_BYTES size tenure.1
  Ok (record { tenure = tenure.0; hashes = hashes.0 }, hashes.1)

-- ---- Got

-- the tenure, the hashes and the entries
unfoldable pub got_bytes : Got → List ℕ
got_bytes got = tenure_bytes got.tenure ++ (list_bytes (number_bytes w64) got.hashes ++ list_bytes spelled got.entries)

-- how many bytes that is
abbrev pub got_count : Got → ℕ
got_count got = GOT_BYTES + HASH_BYTES * length got.hashes + sum_by entry_count got.entries

-- any hashes and lawful entries
pub record IsLawfulGot (got : Got) : Type 0 where
  pub tenure : IsLawfulTenure got.tenure
  pub hashes : AllByRecursion (IsNumber w64 0) got.hashes
  pub entries : AllByRecursion IsLawfulEntry got.entries

-- the count of the hashes of a Got of `size` bytes, within which they and the count of its entries are, and the bytes after it
unfoldable pub read_hash_count : ℕ → List ℕ → Result (ℕ × List ℕ) DecodeError
read_hash_count size bytes = do
  any ← read_number w32 bytes
  unless (nat_lt size (GOT_BYTES + HASH_BYTES * any.0)) BAD_BODY_LENGTH any

-- a Got of `size` bytes, and the bytes after it
unfoldable pub read_got : ℕ → List ℕ → Result (Got × List ℕ) DecodeError
read_got size bytes = do
  tenure ← read_tenure bytes
  count ← read_hash_count size tenure.1
  hashes ← read_list (read_number w64) count.0 count.1
  entries ← read_last_entries (GOT_BYTES + HASH_BYTES * count.0) size hashes.1
  Ok (record { tenure = tenure.0; hashes = hashes.0; entries = entries.0 }, entries.1)
