-- The backups of a lane that report what they store.
use Rattle.std.specs.Prelude.{◌≡◌, ◌≤◌, ℕ}
use Rattle.std.specs.List.{range_with_len}
use Rattle.rk_types.specs.NumberMap.{EachIn, IsInOrder, NumberMap, numbers}
use Rattle.rk_outside.specs.Segments.{Segments}
use Rattle.rk_world.specs.World.{World}

-- the number of a backup is one of so many
pub record IsNumbered (count backup : ℕ) : Type 0 where
  pub first : 1 ≤ backup
  pub last : backup ≤ count

-- those that report what they store are some of so many backups, each once
pub record AreBackups (count : ℕ) (backups : NumberMap Segments) : Type 0 where
  pub order : IsInOrder backups
  pub numbered : EachIn (λ backup segments. IsNumbered count backup) backups

-- those that report in a lane are its backups. A replica that does not report its segments is not among them
abbrev pub HasOwnBackups : World → Type 0
HasOwnBackups w = AreBackups w.backup_count w.backups

-- all backups of a lane report what they store
abbrev pub AllBackupsTell : World → Type 0
AllBackupsTell w = numbers w.backups ≡ range_with_len 1 w.backup_count
