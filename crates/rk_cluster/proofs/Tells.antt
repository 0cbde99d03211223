-- If all replicas of a lane report what they store, they still do after whatever comes to it.
use Rattle.rk_cluster.proofs.Words.{arith, ◌≡◌, Result, Ok, subst, Called, Visited, refusal, AllTell, world_visited, Stepped, step, World}
use Rattle.rk_cluster.proofs.Words.{StepError, Event}
use Rattle.rk_inv_tablets.proofs.steady.Lanes.{tell_event}

pub all_after : (w : World) (event : Event) (called : Called) (stepped : Stepped) → AllTell w → step w event called ≡ Ok stepped → AllTell stepped.world
all_after w event called stepped all is = grind (arith, refusal, tell_event)

-- a client's turn or answer
pub all_visited : (w : World) (visited : Visited) (came : Result Visited StepError) → AllTell (world_visited w came) → came ≡ Ok visited → AllTell visited.world
all_visited w visited came all is = subst (λ (it : Result Visited StepError). AllTell (world_visited w it)) is all
