-- The event that can finish the migration of a row.
use Rattle.std.specs.Prelude.{◌≡◌, ℕ, false}
use Rattle.rk_tablet_map.specs.declared.row.Row.{Row}
use Rattle.rk_world.specs.declared.event.Event.{Event}
use Rattle.rk_world.specs.declared.event.Event.TheVariants as events
use Rattle.rk_world.specs.Coordinator.{is_noticed}
use Rattle.rk_world.specs.Finished.{TellsJoined}
use Rattle.rk_world.specs.World.{World}

-- an event delivers to the coordinator that the target of a row has all, and that target was not noticed dead
pub record DeliversJoined (w : World) (event : Event) (row : Row) (target : ℕ) : Type 0 where
  pub number : ℕ
  pub event_is : event ≡ events.Deliver number
  pub told : TellsJoined w number row target
  pub heard : is_noticed w.coordinator target ≡ false
