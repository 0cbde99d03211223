-- A client's last request is sent once more.
use Rattle.rk_lane.proofs.Words.{arith, ◌≡◌, ℕ, true, List, [], ◌∷◌, Some, None, is_some, sym, ap, ◌∙◌, option_or, Vec, NumberMap, get}
use Rattle.rk_lane.proofs.Words.{Segments, Message, Gave, is_added, fault_of, where_true, happened, sent_again, with_sends, world_of}
use Rattle.rk_lane.proofs.Words.{IsLastRequest, Parts}
use Rattle.std.specs.Prelude.{not}
use Rattle.rk_world.specs.declared.error.StepError.TheVariants as errors
use Rattle.rk_world.specs.declared.event.Event.TheVariants as events

-- the client has a request, and just this one is sent
pub record IsRequestOf (parts : Parts) (client : ℕ) (sends : List Message) : Type 0 where
  pub request : Message
  pub there : get parts.ledger.requests client ≡ Some request
  pub is : sends ≡ request ∷ []

pub request_of : (parts : Parts) (client : ℕ) (sends : Vec Message) → IsLastRequest (get parts.ledger.requests client) (Some sends) → IsRequestOf parts client sends.items
request_of parts client sends last = grind arith

-- the event sends just this
pub again_is : (parts : Parts) (client : ℕ) (sends : List Message) → IsRequestOf parts client sends → (stored : NumberMap Segments)
    → happened (world_of parts stored) (events.Again client) (Gave None) ≡ with_sends (world_of parts stored) sends
again_is parts client sends it stored =
    ap (sent_again (world_of parts stored)) it.there ∙ ap (λ (list : List Message). with_sends (world_of parts stored) list) (sym it.is)

-- and is not refused
pub again_allowed : (parts : Parts) (client : ℕ) (sends : List Message) → IsRequestOf parts client sends → is_added parts.ledger client ≡ true
    → fault_of (world_of parts []) (events.Again client) ≡ None
again_allowed parts client sends it added =
    λ i. option_or (where_true (not (added i)) (errors.Stranger client)) (where_true (not (is_some (it.there i))) (errors.NoMessage 0))
