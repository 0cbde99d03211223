-- The condition of a merge.
use Rattle.std.specs.Prelude.{length, ◌≤◌, ℕ, All, ◌⊎◌, Contains}
use Rattle.rk_types.specs.declared.call.Ended.{Ended}
use Rattle.rk_tablet_map.specs.declared.row.Row.{Row}
use Rattle.rk_world.specs.Ends.{told}
use Rattle.rk_world.specs.Gather.{LAST_MAIN_SEGMENT}
use Rattle.rk_sound.specs.View.{View, truths, rests}
use Rattle.rk_sound.specs.Moves.{MayMerge}
use Rattle.rk_sound.specs.Rebuilds.{closing_carried}
use Rattle.rk_inv_tablets.specs.crash.Moves.{AreReadable}
use Rattle.rk_inv_tablets.specs.merge.Small.{merge_in}

-- an end is recorded by the truth of a row, or by its rest
abbrev pub IsToldIn : View → Row → Ended → Type 0
IsToldIn v row end = Contains (told (truths v row)) end ⊎ Contains (told (rests v row)) end

-- what was gathered for a tablet may be merged at a master, if that is so. That no range of a row is empty, that logs can be read
-- again, and that the master has gathered no more main segments than there can be, is so in each lane that is well formed
pub record MayMergeFormed (v : View) (master tablet : ℕ) : Type 0 where
  pub may :
      MayMerge v master tablet (merge_in v master tablet).copies
      (closing_carried (v.handovers master tablet) (merge_in v master tablet))
  pub ranges : All (λ row. row.range.first ≤ row.range.last) v.rows
  pub readable : AreReadable v.logs v.written
  pub gathered : All (λ gathered. length gathered.main ≤ LAST_MAIN_SEGMENT) (v.gathers master tablet).members
