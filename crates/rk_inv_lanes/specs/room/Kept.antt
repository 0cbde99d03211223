-- What is so of a lane from its start on, beside the invariant, and leaves it room.
use Rattle.rk_world.specs.World.{World}
use Rattle.rk_inv_lanes.specs.room.Fits.{AllFit}
use Rattle.rk_inv_lanes.specs.room.Logged.{AreLogged}

-- records are logged, and entries fit segments
pub record IsKept (w : World) : Type 0 where
  pub logged : AreLogged w
  pub fits : AllFit w
