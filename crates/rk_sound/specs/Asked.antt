-- Asked: every call in a record or a Request was asked here, and a client asks its next one only once the last is accepted. So an
-- old request is harmless, since a record of that very call is there; the steps that take a Request, and that accept, need it.
use Rattle.std.specs.Prelude.{◌≡◌, ◌<◌, ℕ, true, List, Option, Some, None, All, Contains, IfSome, slice_get, ⊤, ◌⊎◌}
use Rattle.rk_types.specs.NumberMap.{NumberMap, EachIn}
use Rattle.rk_types.specs.declared.call.Call.{Call}
use Rattle.rk_types.specs.declared.history.Placed.{Placed}
use Rattle.rk_types.specs.declared.node.Node.{Node}
use Rattle.rk_types.specs.declared.node.Node.TheVariants as nodes
use Rattle.rk_model.specs.Merged.{HasOwnKeys}
use Rattle.rk_message.specs.declared.calls.Request.{Request}
use Rattle.rk_message.specs.declared.message.Body.{Body}
use Rattle.rk_message.specs.declared.message.Body.TheVariants as bodies
use Rattle.rk_message.specs.declared.message.Message.{Message}
use Rattle.rk_world.specs.Requests.{call_of}
use Rattle.rk_world.specs.Client.{call_lane}
use Rattle.rk_world.specs.Base.{Base}
use Rattle.rk_world.specs.Premises.{IsAfterStart}
use Rattle.rk_world.specs.declared.ledger.LastCall.{LastCall}

-- a client's last call, in a lane: it is the client's own, its key lies there, and it comes after all that the start records of the client
pub record IsLastCall (base : Base) (lane client : ℕ) (last : LastCall) : Type 0 where
  pub own : last.call.client ≡ client
  pub here : call_lane last.call ≡ lane
  pub after : IsAfterStart base last.call

-- the journal has an accepted record of this very call
pub record IsAccepted (journal : List Placed) (call : Call) : Type 0 where
  pub placed : Placed
  pub stands : Contains journal placed
  pub call_is : placed.call ≡ call
  pub accepted : placed.accepted ≡ true

-- a call was asked: it is the last of its client, or an earlier call, which is accepted
abbrev pub WasAsked : Option LastCall → List Placed → Call → Type 0
WasAsked None journal call = ⊥
WasAsked (Some last) journal call = (last.call ≡ call) ⊎ ((call.seq < last.call.seq) × IsAccepted journal call)

-- a request of the last call has what its client had seen when it asked
abbrev pub HasSeen : Option LastCall → Call → ℕ → Type 0
HasSeen None call seen = ⊥
HasSeen (Some last) call seen = last.call ≡ call → seen ≡ last.seen

-- a Request of a client is of a call that was asked
pub record RequestFits (asked : ℕ → Option LastCall) (journal : List Placed) (client : ℕ) (request : Request) : Type 0 where
  pub was_asked : WasAsked (asked client) journal (call_of client request)
  pub seen : HasSeen (asked client) (call_of client request) request.seen

-- what a Request says
abbrev pub RequestSays : (ℕ → Option LastCall) → List Placed → Node → Body → Type 0
RequestSays asked journal (nodes.Client client) (bodies.Request request) = RequestFits asked journal client request
RequestSays asked journal from body = ⊤

-- a message that may be sent again is a Request of its client
abbrev pub IsRequest : (ℕ → Option LastCall) → List Placed → ℕ → Node → Body → Type 0
IsRequest asked journal client (nodes.Client sender) (bodies.Request request) =
    (sender ≡ client) × RequestFits asked journal client request
IsRequest asked journal client from body = ⊥

-- two records are accepted, of one call
pub record AreOneAccepted (a b : Placed) : Type 0 where
  pub first : a.accepted ≡ true
  pub second : b.accepted ≡ true
  pub client : a.call.client ≡ b.call.client
  pub seq : a.call.seq ≡ b.call.seq

pub record Asked (base : Base) (lane : ℕ) (asked : ℕ → Option LastCall) (requests : NumberMap Message) (journal : List Placed) (wire : NumberMap Message) : Type 0 where
  pub last : (client : ℕ) → IfSome (asked client) (IsLastCall base lane client)
  pub own_keys : HasOwnKeys lane journal
  -- each record is of a call that was asked
  pub recorded : All (λ placed. WasAsked (asked placed.call.client) journal placed.call) journal
  -- and comes after all that the start records of its client
  pub after_start : All (λ placed. IsAfterStart base placed.call) journal
  -- no call has two accepted records
  pub once :
      (i j : ℕ) (a b : Placed) → slice_get journal i ≡ Some a → slice_get journal j ≡ Some b → AreOneAccepted a b → i ≡ j
  -- requests on the wire, and those that may be sent again
  pub sent : EachIn (λ number message. RequestSays asked journal message.from message.body) wire
  pub again : EachIn (λ client message. IsRequest asked journal client message.from message.body) requests
