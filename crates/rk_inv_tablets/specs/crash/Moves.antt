-- The condition of a crash, with what it needs of a lane that is well formed.
use Rattle.std.specs.Prelude.{◌≤◌, ℕ, All, length}
use Rattle.std.specs.List.{flat_map}
use Rattle.rk_entry.specs.Lawful.{IsLawfulEntry, IsLawfulHeld}
use Rattle.rk_log.specs.Log.{Log}
use Rattle.rk_world.specs.Gather.{LAST_MAIN_SEGMENT}
use Rattle.rk_world.specs.Written.{Written}
use Rattle.rk_sound.specs.View.{View}
use Rattle.rk_sound.specs.Changes.{HasSegmentLeft}
use Rattle.rk_sound.specs.Moves.{MayCrash}

-- what each log has can be read again: entries and the items of side segments are lawful, and the numbers of main segments are below those
-- of side segments
pub record AreReadable (logs : ℕ → Log) (written : ℕ → Written) : Type 0 where
  pub entries : (master : ℕ) → All IsLawfulEntry (written master).entries
  pub items : (master : ℕ) → All IsLawfulHeld (flat_map (λ items. items) (written master).sides)
  pub room : (master : ℕ) → HasSegmentLeft (logs master)

-- a master may crash while another one lives. That ranges of rows are not empty, that logs can be read again, and that the master has
-- gathered no more main segments than there can be, is so in each lane that is well formed
pub record MayCrashFormed (v : View) (master : ℕ) : Type 0 where
  pub may : MayCrash v master
  pub ranges : All (λ row. row.range.first ≤ row.range.last) v.rows
  pub readable : AreReadable v.logs v.written
  pub gathered :
      (tablet : ℕ) → All (λ gathered. length gathered.main ≤ LAST_MAIN_SEGMENT) (v.gathers master tablet).members
