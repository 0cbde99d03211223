-- What is left to ask of a lane whose numbers fit, so that it has room.
use Rattle.std.specs.Prelude.{◌<◌, List, [], ◌∷◌}
use Rattle.rk_types.specs.NumberMap.{EachIn}
use Rattle.rk_world.specs.Room.{HasRoomIn, MOST_BYTES}
use Rattle.rk_world.specs.Runs.{Happening, after}
use Rattle.rk_world.specs.World.{World, bytes_of_logs}

-- the logs of a lane fit, and so does what each master has
pub record LogsFit (w : World) : Type 0 where
  pub bytes : bytes_of_logs w < MOST_BYTES
  pub masters : EachIn (λ number master. HasRoomIn master) w.masters

-- they do so in each world of a run
abbrev pub AllLogsFit : World → List Happening → Type 0
AllLogsFit w [] = LogsFit w
AllLogsFit w (happening ∷ later) = LogsFit w × AllLogsFit (after w happening) later
