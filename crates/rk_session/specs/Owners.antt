-- What a client knows of the owner of the key that its outstanding call is about.
use Rattle.std.specs.Prelude.{ℕ, Bool, true, false, Option, Some, None}
use Rattle.rk_types.specs.declared.call.Call.{Call}
use Rattle.rk_message.specs.declared.calls.Located.{Located}
use Rattle.rk_message.specs.declared.message.Body.{Body}
use Rattle.rk_message.specs.declared.message.Body.TheVariants as bodies
use Rattle.rk_world.specs.Client.{ClientTurn, Session, range_of, session_turn}

-- whether a message asks where a key is
abbrev pub is_lookup : Body → Bool
is_lookup (bodies.Lookup lookup) = true
is_lookup body = false

-- whether a client's turn, if it takes one, asks where its key is
abbrev pub looks_up_by : Option ClientTurn → Bool
looks_up_by None = false
looks_up_by (Some turned) = is_lookup turned.message.body

-- whether a client asks on its turn where its key is
abbrev pub looks_up : Session → Bool
looks_up session = looks_up_by (session_turn session)

-- the owner of a range, if one is cached
abbrev pub cached_owner : Option Located → Option ℕ
cached_owner None = None
cached_owner (Some located) = located.owner

-- who owns the key of a call, as far as its client knows
abbrev pub owner_by_call : Session → Option Call → Option ℕ
owner_by_call session None = None
owner_by_call session (Some call) = cached_owner (range_of session call)

-- who owns the key of the outstanding call, as far as the client knows
abbrev pub known_owner : Session → Option ℕ
known_owner session = owner_by_call session session.outstanding
