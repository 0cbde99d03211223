-- What came of a message, as the definitions say it.
use Rattle.std.specs.Prelude.{◌≡◌, Bool, true, Option, Some, None, is_some}
use Rattle.rk_message.specs.declared.message.Body.{Body}
use Rattle.rk_message.specs.declared.message.Body.TheVariants as bodies
use Rattle.rk_message.specs.declared.rebuilding.Rebuilt.{Rebuilt}
use Rattle.rk_world.specs.Coordinator.{Coordinator}
use Rattle.rk_world.specs.CoordinatorStep.{Coordinated}
use Rattle.rk_coordinator.specs.declared.handled.Handled.{Handled}

-- the Rebuilt that a message is, if it was taken
abbrev pub rebuilt_by : Bool → Body → Option Rebuilt
rebuilt_by true (bodies.Rebuilt message) = Some message
rebuilt_by _ _ = None

-- the coordinator after a message, and what came of that, are what the definitions make of it; the flag says whether a Rebuilt
-- was taken, and that is the message itself
pub record IsHandled (made : Coordinated) (body : Body) (coordinator : Coordinator) (handled : Handled) : Type 0 where
  pub coordinator_is : coordinator ≡ made.coordinator
  pub sends_are : handled.sends.items ≡ made.sends
  pub took : handled.took_rebuilt ≡ is_some made.rebuilt
  pub rebuilt_is : made.rebuilt ≡ rebuilt_by handled.took_rebuilt body
