-- Good lanes: what is so of a lane between two events, whatever becomes of other lanes meanwhile.
use Rattle.std.specs.Prelude.{◌≡◌, ℕ}
use Rattle.rk_world.specs.Base.{no_base}
use Rattle.rk_world.specs.Formed.{IsWellFormed}
use Rattle.rk_world.specs.Room.{HasRoom}
use Rattle.rk_world.specs.World.{World}
use Rattle.rk_sound.specs.Whole.{IsSound}
use Rattle.rk_runs.specs.Below.{IsKept}
use Rattle.rk_runs.specs.Below.{AllBackupsTell}
use Rattle.rk_runs.specs.Below.{IsSteady}

-- a lane of this number, with so many masters, is good: it is sound and well formed and has room, also for what comes next (`kept`); it is
-- steady, each of its backups reports what it stores, and its history starts from nothing
pub record IsGoodLane (masters number : ℕ) (w : World) : Type 0 where
  pub sound : IsSound w
  pub formed : IsWellFormed w
  pub room : HasRoom w
  pub kept : IsKept w
  pub steady : IsSteady w
  pub told : AllBackupsTell w
  pub number_is : w.lane ≡ number
  pub masters_are : w.coordinator.masters ≡ masters
  pub base_is : w.base ≡ no_base
