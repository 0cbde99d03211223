-- A lane stays well formed in whatever happens, if what its nodes make of it is well formed.
use Rattle.std.proofs.Common.{◌≡◌, ℕ, None, refl, Result, Ok, Err}
use Rattle.rk_inv_wellformed.proofs.Words.{Called, Visited, accept, ask, Session, IsWellFormed, refusal, HasRoom, Accepts, Asks, Happens}
use Rattle.rk_inv_wellformed.proofs.Words.{MayOccur, after, happened, World, StepError, Event, world_stepped, stepped_by}
use Rattle.rk_inv_wellformed.proofs.Words.{IsFormedWithRoom, world_visited}
use Rattle.rk_inv_wellformed.proofs.lanes.Asks.{formed_accept, formed_ask}
use Rattle.rk_inv_wellformed.proofs.maps.{by_found}
use Rattle.rk_inv_wellformed.proofs.room.Rooms.{room_accept, room_ask}

-- a lane is well formed after an event if what it makes of the lane is, unless it is refused
pub formed_after_event : (w : World) (event : Event) (called : Called) → (refusal w event ≡ None → HasRoom (happened w event called).world → IsWellFormed (happened w event called).world) → HasRoom (after w (Happens event called)) → IsWellFormed w → IsWellFormed (after w (Happens event called))
formed_after_event w event called makes room formed =
    by_found (λ refused. HasRoom (world_stepped w (stepped_by w event called refused)) → IsWellFormed (world_stepped w (stepped_by w event called refused)))
    (refusal w event) makes (λ error some room_left. formed) room

-- it stays so when a client asks there
pub formed_asks : (w : World) (session : Session) → MayOccur w (Asks session) → IsFormedWithRoom w → IsFormedWithRoom (after w (Asks session))
formed_asks w session may before = go (ask w session) refl
  where
    go : (asked : Result Visited StepError) → ask w session ≡ asked → IsFormedWithRoom (world_visited w asked)
    go (Ok visited) is =
        let room = room_ask session visited is before.formed before.room in
        record { formed = (formed_ask w session visited is may.0 may.1 room before.formed).world; room = room }
    go (Err error) is = before

-- and when a client takes an answer
pub formed_accepts : (w : World) (number : ℕ) (session : Session) → MayOccur w (Accepts number session) → IsFormedWithRoom w → IsFormedWithRoom (after w (Accepts number session))
formed_accepts w number session may before = go (accept w number session) refl
  where
    go : (taken : Result Visited StepError) → accept w number session ≡ taken → IsFormedWithRoom (world_visited w taken)
    go (Ok visited) is = record {
      formed = (formed_accept w number session visited is may before.formed).world;
      room = room_accept w number session visited is before.room;
    }
    go (Err error) is = before
