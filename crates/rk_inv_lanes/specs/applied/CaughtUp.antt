-- Masters that are caught up: what every backup is known to hold is applied.
use Rattle.std.specs.Prelude.{◌≡◌, ◌≤◌, ◌<◌, ℕ, length}
use Rattle.rk_entry.specs.declared.lists.TheConstants.{FIRST_SIDE_SEGMENT}
use Rattle.rk_log.specs.Cut.{cut}
use Rattle.rk_log.specs.Known.{known_length}
use Rattle.rk_log.specs.Log.{Log, bytes_of, committed, known_of}
use Rattle.rk_world.specs.Master.{Master}
use Rattle.rk_world.specs.World.{World, master_at}

-- no backup is known to hold more of a main segment than is there
abbrev pub IsKnownThere : Log → Type 0
IsKnownThere log =
    (backup segment : ℕ) → segment < FIRST_SIDE_SEGMENT
    → known_length (known_of log backup) segment ≤ length (bytes_of log segment)

-- so many first entries of a log are applied, as many as every backup is known to hold: if there is a backup, and if the main
-- segments are so few that their numbers are below those of side segments. An entry that is appended is not held then, since no backup is
-- known to hold more than is there
pub record AreApplied (log : Log) (count : ℕ) : Type 0 where
  pub known : IsKnownThere log
  pub count_is : 1 ≤ length log.known → length (cut log.entries) < FIRST_SIDE_SEGMENT → count ≡ committed log

-- a master is caught up
abbrev pub IsCaughtUp : Master → Type 0
IsCaughtUp master = AreApplied master.log master.applied

-- each master of a lane is, crashed ones too
abbrev pub AllCaughtUp : World → Type 0
AllCaughtUp w = (master : ℕ) → IsCaughtUp (master_at w master)
