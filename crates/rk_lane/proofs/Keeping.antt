-- What is kept of a lane after an event.
use Rattle.rk_lane.proofs.Words.{arith, ◌≡◌, ◌<◌, [], None, IsSome, All, sym, ap, subst, ◌∙◌, IsDistinct, EachIn, Called, MayCome, refusal}
use Rattle.rk_lane.proofs.Words.{HasRoom, HasRoomIn, MOST_BYTES, IsFormedWithRoom, happened, World, bytes_of_logs, Event, Stepped, Seen}
use Rattle.rk_lane.proofs.Words.{MayStep, IsKept, masters_from, world_of, Parts}
use Rattle.std.specs.Prelude.{eqb}
use Rattle.rk_world.specs.Formed.{IsWellFormed}
use Rattle.rk_world.specs.Room.{MOST_NUMBER}
use Rattle.rk_inv_wellformed.proofs.room.RoomEvents.{room_event}
use Rattle.rk_inv_wellformed.proofs.lanes.Whole.{formed_event}
use Rattle.rk_lane.proofs.Requests.{still_for_masters}

-- what the bytes and the masters of a lane fit
pub record Fits (w : World) : Type 0 where
  pub bytes : bytes_of_logs w < MOST_BYTES
  pub masters : EachIn (λ number master. HasRoomIn master) w.masters

-- a lane with room stays well formed with room at an event that is not refused, if its logs fit after it
pub formed_after : (w after : World) (event : Event) (called : Called) → MayStep w event → MayCome called → refusal w event ≡ None
    → IsFormedWithRoom w → (happened w event called).world ≡ after → Fits after → IsFormedWithRoom after
formed_after w after event called may come none before is fits =
    let top = room_event w event called may.may come may.calm none before.formed before.room in
    let room : HasRoom after = record {
      number = subst (λ (now : World). now.top < MOST_NUMBER) is top;
      bytes = fits.bytes;
      masters = fits.masters;
    } in
    record {
      formed =
          subst IsWellFormed is
          (formed_event w event called may.may come may.calm none before.room (subst HasRoom (sym is) room) before.formed);
      room = room;
    }

-- the world after an event
abbrev pub IsWorldAfter : Parts → Event → Called → Parts → Seen → Type 0
IsWorldAfter old event called new seen = happened (world_of old []) event called ≡ record { world = world_of new []; seen = seen }

module _ (old new : Parts) (event : Event) (called : Called) (seen : Seen) (kept : IsKept old) (may : MayStep (world_of old []) event)
    (come : MayCome called) (none : refusal (world_of old []) event ≡ None) (is : IsWorldAfter old event called new seen) where
  -- the world is well formed then, if its logs fit
  pub formed_then : Fits (world_of new []) → IsFormedWithRoom (world_of new [])
  formed_then fits =
      formed_after (world_of old []) (world_of new []) event called may come none kept.formed (ap (λ (stepped : Stepped). stepped.world) is) fits

  -- all is kept at an event that leaves masters and crashes as they were
  pub kept_still : new.masters ≡ old.masters → new.crashed ≡ old.crashed → new.log_bytes ≡ old.log_bytes → IsKept new
  kept_still same stays counted =
      let fits : Fits (world_of new []) = record {
        bytes = subst (λ masters. bytes_of_logs (world_of (record new { masters = masters }) []) < MOST_BYTES) (sym same) kept.formed.room.bytes;
        masters = subst (λ masters. EachIn (λ number master. HasRoomIn master) (masters_from 1 masters.items)) (sym same) kept.formed.room.masters;
      } in
      record {
        present = subst (λ masters. All IsSome masters.items) (sym same) kept.present;
        formed = formed_then fits;
        counted = counted ∙ kept.counted ∙ ap (λ masters. bytes_of_logs (world_of (record old { masters = masters }) [])) (sym same);
        distinct = subst (λ crashed. IsDistinct eqb crashed.items) (sym stays) kept.distinct;
        reserved = grind (arith, new.crashed, old.masters.items, kept.reserved);
        requests = still_for_masters old new event called seen is kept.requests;
      }
