-- Which events a lane refuses that is not worn.
use Rattle.rk_lane.proofs.Words.{arith, ◌≡◌, None, comes_anyway, fault_of, refusal, worn, World, Event}

-- if a lane is not worn, it refuses just by the rules of the event's kind
pub refused_fresh : (w : World) (event : Event) → worn w ≡ None → refusal w event ≡ fault_of w event
refused_fresh w event fresh = grind (arith, comes_anyway, fault_of, worn)
