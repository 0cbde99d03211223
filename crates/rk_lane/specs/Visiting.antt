-- What a client's turn or answer makes of the parts of a lane in code, piece by piece.
use Rattle.std.specs.Prelude.{◌≡◌, ℕ, true, if◌then◌else◌, [], Option, Some, None}
use Rattle.rk_types.specs.declared.call.Call.{Call}
use Rattle.rk_message.specs.declared.message.Body.{Body}
use Rattle.rk_message.specs.declared.message.Body.TheVariants as bodies
use Rattle.rk_message.specs.declared.message.Message.{Message}
use Rattle.rk_world.specs.Calls.{fits_by, is_asked}
use Rattle.rk_world.specs.Client.{Session}
use Rattle.rk_world.specs.Ledger.{Ledger, with_accepted, with_asked, with_request}
use Rattle.rk_world.specs.Premises.{MayAct}
use Rattle.rk_world.specs.Refusals.{ask_refusal}
use Rattle.rk_world.specs.declared.event.Taken.{Taken}
use Rattle.rk_world.specs.declared.event.Taken.TheVariants as takes
use Rattle.rk_world.specs.declared.ledger.LastCall.{LastCall}
use Rattle.rk_lane.specs.Parts.{IsKept, world_of}
use Rattle.rk_lane.specs.declared.parts.Parts.{Parts}

-- a session may take its turn in a lane with these parts, which it fits
pub record MayTurn (parts : Parts) (session : Session) : Type 0 where
  pub kept : IsKept parts
  pub may : MayAct parts.coordinator.masters session
  pub allowed : ask_refusal (world_of parts []) session ≡ None
  pub fits : fits_by (world_of parts []) session session.outstanding ≡ true

-- what this outstanding call of a session is noted by, if it was not asked yet
abbrev pub last_to_note : Ledger → Session → Option Call → Option LastCall
last_to_note ledger session None = None
last_to_note ledger session (Some call) =
    if is_asked ledger session call then None else Some (record { call = call; seen = session.seen })

-- a call is noted as its client's last, if there is one to note
abbrev pub noted : Ledger → ℕ → Option LastCall → Ledger
noted ledger client None = ledger
noted ledger client (Some last) = with_asked ledger client last

-- the message, if what it says is a request
abbrev pub request_told : Message → Body → Option Message
request_told message (bodies.Request request) = Some message
request_told message _ = None

-- a request is saved as its client's last, if there is one
abbrev pub saved : Ledger → ℕ → Option Message → Ledger
saved ledger client None = ledger
saved ledger client (Some message) = with_request ledger client message

-- the place of the record, as a reply gives it
abbrev pub place_told : Body → Option ℕ
place_told (bodies.Reply reply) = Some reply.place
place_told _ = None

-- the record at the place that a reply gave is accepted, if the client took the reply for the answer to its call
abbrev pub accepted_by : Ledger → Option ℕ → Taken → Ledger
accepted_by ledger (Some place) takes.Done = with_accepted ledger place
accepted_by ledger place taken = ledger
