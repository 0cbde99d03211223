-- What clients asked in a lane, by their numbers: what contracts see of the clients in code.
use Rattle.std.specs.Prelude.{◌≡◌, ℕ, List, [], ◌∷◌, Option, Some, None}
use Rattle.rk_types.specs.NumberMap.{NumberMap, IsInOrder, changed_each, get, get_or, insert}
use Rattle.rk_message.specs.declared.message.Message.{Message}
use Rattle.rk_world.specs.declared.ledger.LastCall.{LastCall}
use Rattle.rk_ledger.specs.declared.asked.Asked.{Asked}

-- of each client that was added its last call, if any, and of each that has one its last request
pub record AskedHere : Type 0 where
  pub last_calls : NumberMap (Option LastCall)
  pub requests : NumberMap Message

-- the last calls
abbrev pub last_calls_of : NumberMap Asked → NumberMap (Option LastCall)
last_calls_of entries = changed_each (λ client asked. asked.last) entries

-- requests with that of one more client before them, if it has one
abbrev pub with_request_of : ℕ → Option Message → NumberMap Message → NumberMap Message
with_request_of client None later = later
with_request_of client (Some request) later = (client, request) ∷ later

-- the last requests
abbrev pub requests_of : NumberMap Asked → NumberMap Message
requests_of [] = []
requests_of (entry ∷ entries) = with_request_of entry.0 entry.1.request (requests_of entries)

-- what entries by rising number hold
abbrev pub asked_here : NumberMap Asked → AskedHere
asked_here entries = record { last_calls = last_calls_of entries; requests = requests_of entries }

-- nobody was added
abbrev pub nobody : AskedHere
nobody = record { last_calls = []; requests = [] }

-- a client is added that asked nothing
abbrev pub with_added : AskedHere → ℕ → AskedHere
with_added asked client = record asked { last_calls = insert asked.last_calls client None }

-- a client has another last call
abbrev pub with_last : AskedHere → ℕ → LastCall → AskedHere
with_last asked client last = record asked { last_calls = insert asked.last_calls client (Some last) }

-- a client has another last request
abbrev pub with_request : AskedHere → ℕ → Message → AskedHere
with_request asked client request = record asked { requests = insert asked.requests client request }
