-- Worn: what is refused since a number is too great.
use Rattle.std.specs.Prelude.{◌≡◌, ℕ, Some}
use Rattle.std.specs.Option.{option_or}
use Rattle.rk_world.specs.Client.{Session}
use Rattle.rk_world.specs.Refusals.{worn, worn_session}
use Rattle.rk_world.specs.World.{World}
use Rattle.rk_world.specs.declared.error.StepError.{StepError}
use Rattle.rk_world.specs.declared.error.StepError.TheVariants as errors

-- a lane refuses with this error since this number of it is too great
pub record IsWorn (w : World) (error : StepError) : Type 0 where
  pub number : ℕ
  pub worn_is : worn w ≡ Some number
  pub error_is : error ≡ errors.Worn number

-- a lane refuses the turn of a session with this error since this number of the lane or of the session is too great
pub record IsWornFor (w : World) (session : Session) (error : StepError) : Type 0 where
  pub number : ℕ
  pub worn_is : option_or (worn w) (worn_session session session.outstanding) ≡ Some number
  pub error_is : error ≡ errors.Worn number
