-- What the commands come to that set numbers before all others.
use Rattle.std.specs.Prelude.{◌≡◌, ◌≤◌, ◌+◌, ℕ, List, drop, length, take}
use Rattle.rk_log.specs.declared.copied.TheConstants.{MOST_BACKUPS}
use Rattle.rk_world.specs.Premises.{IsMaster, MOST_MASTERS}
use Rattle.rk_cluster.specs.Numbers.{number_of}
use Rattle.rk_cluster.specs.Replicas.{Fate}
use Rattle.rk_cluster.specs.declared.code.Code.TheVariants.{TooLate}
use Rattle.rk_script.specs.declared.command.Numbered.{Numbered}
use Rattle.rk_play.specs.Played.{Setting, cluster_by, how_many, played_from, played_in, refused_at, unset}
use Rattle.rk_play.specs.declared.setting.Opening.{Opening}

-- the setting that an opening gives
abbrev pub setting_of : Opening → Setting
setting_of opening = record { masters = opening.masters; backups = opening.backups }

-- a cluster may have so many masters and backups
pub record IsSetting (setting : Setting) : Type 0 where
  pub masters : IsMaster MOST_MASTERS (how_many setting.masters)
  pub backed : 1 ≤ how_many setting.backups
  pub backups : how_many setting.backups ≤ MOST_BACKUPS

-- some first commands set numbers, and the others, or so many of them, are played in the cluster that these ask for
pub record IsOpened (commands : List Numbered) (opening : Opening) : Type 0 where
  pub few : opening.count ≤ length commands
  pub played : (count : ℕ) (fates : List (List Fate))
      → played_from (take (opening.count + count) commands) fates unset
      ≡ played_in (take count (drop opening.count commands)) fates (cluster_by (setting_of opening))
  pub setting : IsSetting (setting_of opening)

-- a command that sets a number is refused at this line, since it was set before
pub record IsRefusedEarly (commands : List Numbered) (line : ℕ) : Type 0 where
  pub setting : Setting
  pub may : IsSetting setting
  pub played : (fates : List (List Fate))
      → played_from commands fates unset ≡ refused_at line (number_of TooLate) (cluster_by setting)
