-- What is on a wire: the messages that were sent and are not forgotten, by number.
use Rattle.std.specs.Prelude.{◌≡◌, ℕ, zero, suc, ◌+◌, ◌*◌, ◌^◌, ◌≤◌, refl, [], Option, Some, None, option_map, slice_get, sum_by}
use Rattle.std.specs.Coded.{Coded, code_by, coded×, coded_ℕ}
use Rattle.rk_types.specs.NumberMap.{NumberMap, EachIn, IsInOrder, get, insert, remove, numbers, number_map_code}
use Rattle.rk_types.specs.declared.node.Node.{Node}
use Rattle.rk_message.specs.declared.message.Message.{Message}
use Rattle.rk_message.specs.contracts.message.Message as message
use Rattle.rk_message.specs.declared.missing.NoMessage.{NoMessage}
use Rattle.rk_message.specs.declared.missing.WireError.{WireError}
use Rattle.rk_message.specs.declared.missing.WireError.TheVariants as errors
use Rattle.rk_message.specs.Kinds.{kind_of, kind_number}
use Rattle.rk_message.specs.Frames.{frame_len, IsLawfulMessage}

-- what contracts see of a wire: the messages that are there, by number, and how many were sent
pub record Traffic : Type 0 where
  pub messages : NumberMap Message
  pub sent : ℕ

abbrev pub traffic_code : Coded Traffic
traffic_code =
    code_by (NumberMap Message × ℕ) (coded× (number_map_code message.the_row.coded) coded_ℕ) (λ wire. (wire.messages, wire.sent))
    (λ parts. record { messages = parts.0; sent = parts.1 }) (λ _. refl)

-- a wire to which nothing was sent
abbrev pub silent : Traffic
silent = record { messages = []; sent = 0 }

-- each number was given to a message that was sent; so the next number is free
abbrev pub HasSentNumbers : Traffic → Type 0
HasSentNumbers wire = EachIn (λ n _. (1 ≤ n) × (n ≤ wire.sent)) wire.messages

-- each message has a frame
abbrev pub HasLawfulMessages : Traffic → Type 0
HasLawfulMessages wire = EachIn (λ _ message. IsLawfulMessage message) wire.messages

-- the lengths of the frames of the messages that are there, added, in bytes
abbrev pub bytes_on : Traffic → ℕ
bytes_on wire = sum_by (λ entry. frame_len entry.1) wire.messages

-- a wire that counts so many bytes: the sum of the frames, of which each message that was sent brought fewer than 2^32
pub record IsConsistent (wire : Traffic) (bytes : ℕ) : Type 0 where
  pub order : IsInOrder wire.messages
  pub numbers : HasSentNumbers wire
  pub lawful : HasLawfulMessages wire
  pub counted : bytes ≡ bytes_on wire
  pub within : bytes ≤ wire.sent * 2 ^ 32

-- the wire after a message was sent: the message is there under the next number
abbrev pub with_message : Message → Traffic → Traffic
with_message message wire =
    record { messages = insert wire.messages (wire.sent + 1) message; sent = wire.sent + 1 }

-- the wire after the message of this number was forgotten
abbrev pub without_message : ℕ → Traffic → Traffic
without_message n wire = record wire { messages = remove wire.messages n }

-- what is said if a number has no message
abbrev pub missing_in : ℕ → Option Message → Option NoMessage
missing_in n None = Some (record { 0 = n })
missing_in n (Some _) = None

-- what is said of a number whose message was never sent or is forgotten
abbrev pub missing : ℕ → Traffic → Option NoMessage
missing n wire = missing_in n (get wire.messages n)

-- the receiver of the message of this number
abbrev pub receiver_of : ℕ → Traffic → Option Node
receiver_of n wire = option_map (λ message. message.to) (get wire.messages n)

-- the number of the kind of the message of this number
abbrev pub kind_number_of : ℕ → Traffic → Option ℕ
kind_number_of n wire = option_map (λ message. kind_number (kind_of message.body)) (get wire.messages n)

-- the number of the message at a place, the oldest at place 1
abbrev pub number_at : ℕ → Traffic → Option ℕ
number_at zero wire = None
number_at (suc place) wire = slice_get (numbers wire.messages) place

-- what is said if a message that was to be read is not there
abbrev pub wire_error_by : NoMessage → WireError
wire_error_by none = errors.NoMessage none.0
