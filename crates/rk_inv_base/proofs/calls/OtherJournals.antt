-- What a journal says of calls is said by another journal that has an accepted record of each accepted call, and each record at its place.
use Rattle.rk_inv_base.proofs.Words.{arith, ℕ, List, Option, Call, Outcome, Placed, Node, Reply, Request, Body, call_of, LastCall}
use Rattle.rk_inv_base.proofs.Words.{IsAccepted, IsRequest, RequestFits, RequestSays, WasAsked, IsRecordAt, Says}
use Rattle.rk_types.specs.declared.node.Node.TheVariants as nodes
use Rattle.rk_message.specs.declared.message.Body.TheVariants as bodies

-- what Requests say, if each that fitted fits
module _ (asked asked' : ℕ → Option LastCall) (journal after : List Placed) (fits : (client : ℕ) (request : Request) → RequestFits asked journal client request → RequestFits asked' after client request) where
  pub request_says_by : (from : Node) (body : Body) → RequestSays asked journal from body → RequestSays asked' after from body
  request_says_by (nodes.Client client) (bodies.Request request) says = fits client request says
  request_says_by _ body says = says

  pub is_request_by : (client : ℕ) (from : Node) (body : Body) → IsRequest asked journal client from body → IsRequest asked' after client from body
  is_request_by client (nodes.Client sender) (bodies.Request request) says = (says.0, fits client request says.1)
  is_request_by client _ body says = says

module _ (journal after : List Placed) (accepted : (call : Call) → IsAccepted journal call → IsAccepted after call) where
  pub asked_by_other : (last : Option LastCall) (call : Call) → WasAsked last journal call → WasAsked last after call
  asked_by_other last call was = grind arith

  pub request_by_other : (asked : ℕ → Option LastCall) (client : ℕ) (request : Request) → RequestFits asked journal client request → RequestFits asked after client request
  request_by_other asked client request fits = grind (arith, asked_by_other, call_of)

-- what Replies say
module _ (journal after : List Placed) (told : (client : ℕ) (reply : Reply) (outcome : Outcome) → IsRecordAt journal client reply outcome → IsRecordAt after client reply outcome) where
  pub says_by : (to : Node) (body : Body) → Says journal to body → Says after to body
  says_by to body says = grind arith
