-- What the replicas of a lane answer that report their segments.
use Rattle.std.specs.Prelude.{◌≡◌, ℕ, true, Option, is_some}
use Rattle.rk_types.specs.NumberMap.{get}
use Rattle.rk_world.specs.Backup.{Called}
use Rattle.rk_world.specs.Step.{told_by_replica}
use Rattle.rk_world.specs.World.{World, is_backup}
use Rattle.rk_world.specs.declared.event.Event.{Event}

-- each backup of a lane reports what it stores
abbrev pub AllTell : World → Type 0
AllTell w = (backup : ℕ) → is_backup w backup ≡ true → is_some (get w.backups backup) ≡ true

-- an event comes with what replicas that report their segments answer, one of which may fail
pub record IsTold (w : World) (event : Event) (called : Called) : Type 0 where
  pub fault : Option ℕ
  pub told : called ≡ told_by_replica w event fault
