-- The lane in which a client sent its last request is there, still when it asks a call, takes its turn, or takes an answer.
use Rattle.std.proofs.Common.{arith, ◌≡◌, ◌<◌, Option, None, Some, IfSome}
use Rattle.std.proofs.lemmas.Nat.{mod_below}
use Rattle.rk_inv_base.proofs.Words.{Body, Call, ClientTurn, LANES, Located, Session, World, asking, asking_by, call_lane, fits_with, hash_of}
use Rattle.rk_inv_base.proofs.Words.{session_turn, taking, turn_of}
use Rattle.rk_world.specs.Client.{accepted_of, turn_by}
use Rattle.rk_inv_wellformed.proofs.maps.Lists.{either_way}

-- the lane in which a client sent its last request, if it sent one, is there
abbrev pub WasSentThere : Session → Type 0
WasSentThere session = IfSome session.sent_in (λ lane. lane < LANES)

call_there : (call : Call) → call_lane call < LANES
call_there call = mod_below (hash_of call.key) LANES (omega arith)

module _ (session : Session) (there : WasSentThere session) where
  turn_there : (call : Call) (found : Option Located) → WasSentThere (turn_by session call found).session
  turn_there call found = grind (arith, call_there)

  turned_there : (out : Option Call) (turned : ClientTurn) → turn_of session out ≡ Some turned → WasSentThere turned.session
  turned_there out turned is = grind (arith, turn_there)

  pub asking_there : (w : World) (out : Option Call) → WasSentThere (asking w session out).session
  asking_there w None = there
  asking_there w (Some call) = grind (arith, either_way, fits_with, session_turn, asking_by, turned_there)

  accepted_there : (out : Option Call) (body : Body) → WasSentThere (accepted_of session out body).session
  accepted_there out body = grind (arith, either_way)

  pub taking_there : (w : World) (body : Body) → WasSentThere (taking w session body).session
  taking_there w body = accepted_there session.outstanding body
