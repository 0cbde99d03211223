-- What a turn leaves and sends, also if nothing is done.
use Rattle.std.specs.Prelude.{ℕ, ◌==◌, if◌then◌else◌, Option, Some, None}
use Rattle.std.specs.Option.{option_map}
use Rattle.rk_message.specs.declared.calls.Located.{Located}
use Rattle.rk_message.specs.declared.message.Message.{Message}
use Rattle.rk_world.specs.Client.{Session, ClientTurn, MOST_REQUESTS as most_requests}

-- the session after a turn; as it was if nothing is done
abbrev pub session_after : Session → Option ClientTurn → Session
session_after session None = session
session_after session (Some turned) = turned.session

-- what is sent on a turn
abbrev pub message_of : Option ClientTurn → Option Message
message_of turn = option_map (λ turned. turned.message) turn

-- the tablet of a cached range and its owner
abbrev pub tablet_and_owner : ℕ → Option ℕ → Option (ℕ × ℕ)
tablet_and_owner tablet owner = option_map (λ master. (tablet, master)) owner

-- the tablet and the owner that a request goes to, by the range that is cached and by how many were sent
abbrev pub address_of : ℕ → Option Located → Option (ℕ × ℕ)
address_of requests None = None
address_of requests (Some located) = if requests == most_requests then None else tablet_and_owner located.tablet located.owner
