-- What is known of a lane that is not worn.
use Rattle.std.proofs.Common.{◌≡◌, ◌<◌, ℕ, Option, None, Some, refl, sym, arith, option_map}
use Rattle.rk_scripts.proofs.Words.{option_or, none-some, StepError, Event, Called, ask, ask_by, Session, IsWellFormed, is_added}
use Rattle.rk_scripts.proofs.Words.{WORN_NUMBER, ask_refusal, refusal, where_true, worn, step, stepped_by, World, worn_in, fault_of}
use Rattle.rk_inv_wellformed.proofs.room.Rises.{keeps_to_top}
use Rattle.rk_inv_wellformed.proofs.lanes.Events.{not_too_great}

-- an event that finds its lane not worn, unless it may come anyway
pub fresh_event : (w : World) (event : Event) (called : Called) → refusal w event ≡ option_or (option_map StepError.Worn (worn w)) (fault_of w event)
    → worn_in (step w event called) ≡ None → worn w ≡ None
fresh_event w event called is none = grind (arith, worn, refusal, none-some, worn_in, stepped_by)

-- so does a client's turn
pub fresh_turn : (w : World) (session : Session) → worn_in (ask w session) ≡ None → worn w ≡ None
fresh_turn w session none = grind (arith, worn, ask_refusal, where_true, is_added, none-some, worn_in, ask_by)

-- a number that is not too great
no_first : (first second : Option ℕ) → option_or first second ≡ None → first ≡ None
no_first None second none = refl
no_first (Some number) second none = absurd (none-some number (sym none))

-- in a lane that is not worn fewer messages were sent than make it so
pub sent_below : (w : World) → IsWellFormed w → worn w ≡ None → w.wire.sent < WORN_NUMBER
sent_below w formed fresh = grind (arith, not_too_great, no_first, keeps_to_top)
