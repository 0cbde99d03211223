-- Calls that are refused, and messages that refuse no call.
use Rattle.std.specs.Prelude.{◌≡◌, ⊤, ℕ, Some}
use Rattle.rk_types.specs.NumberMap.{EachIn, get}
use Rattle.rk_types.specs.declared.call.Answer.{Answer}
use Rattle.rk_types.specs.declared.call.Answer.TheVariants as answers
use Rattle.rk_types.specs.declared.call.Call.{Call}
use Rattle.rk_message.specs.declared.calls.Request.{Request}
use Rattle.rk_message.specs.declared.message.Body.{Body}
use Rattle.rk_message.specs.declared.message.Body.TheVariants as bodies
use Rattle.rk_world.specs.Justified.{MayAnswerNotYet}
use Rattle.rk_world.specs.Master.{Master}
use Rattle.rk_world.specs.Requests.{call_of}
use Rattle.rk_world.specs.World.{World, master_at}
use Rattle.rk_world.specs.declared.event.Event.{Event}
use Rattle.rk_world.specs.declared.event.Event.TheVariants as events
use Rattle.rk_inv_events.specs.request.Small.{request_message}

-- a call may be put off, for one of the tablets
pub record IsPutOff (master : Master) (call : Call) : Type 0 where
  pub tablet : ℕ
  pub may : MayAnswerNotYet master call tablet

-- an answer gives an outcome, and refuses nothing
abbrev pub IsOutcome : Answer → Type 0
IsOutcome (answers.Done outcome) = ⊤
IsOutcome _ = ⊥

-- what a message says refuses no call
abbrev pub IsNoRefusal : Body → Type 0
IsNoRefusal (bodies.Reply reply) = IsOutcome reply.answer
IsNoRefusal _ = ⊤

-- no request that a client may send again is a refusal
abbrev pub HasPlainRequests : World → Type 0
HasPlainRequests w = EachIn (λ client request. IsNoRefusal request.body) w.ledger.requests

-- an event was the delivery of a client's Request to a master that may answer its call so
pub record WasRefused (w : World) (event : Event) (May : Master → Call → Type 0) : Type 0 where
  pub number : ℕ
  pub master : ℕ
  pub client : ℕ
  pub request : Request
  pub event_is : event ≡ events.Deliver number
  pub asked : get w.wire.messages number ≡ Some (request_message client master request)
  pub may : May (master_at w master) (call_of client request)
