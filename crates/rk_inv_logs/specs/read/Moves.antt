-- When a Rebuilt may be taken in a lane that is well formed, and what its master has read of the lineage by then, member by member.
use Rattle.std.specs.Prelude.{length, ◌≤◌, ℕ, List, All}
use Rattle.rk_types.specs.declared.call.Ended.{Ended}
use Rattle.rk_types.specs.declared.lineage.Member.{Member}
use Rattle.rk_entry.specs.declared.entry.Entry.{Entry}
use Rattle.rk_tablet_map.specs.Phase.{member as member_at}
use Rattle.rk_tablet_map.specs.declared.row.Row.{Row}
use Rattle.rk_world.specs.Gather.{LAST_MAIN_SEGMENT, by_member}
use Rattle.rk_world.specs.Rebuilds.{own_place}
use Rattle.rk_world.specs.Written.{member_material}
use Rattle.rk_sound.specs.View.{View}
use Rattle.rk_sound.specs.Moves.{MayTakeRebuilt}
use Rattle.rk_inv_tablets.specs.crash.Moves.{AreReadable}

-- what counts of the own entries of a master that rebuilds a row
abbrev pub own_read : View → Row → ℕ → List Entry
own_read v row to = member_material v.written row.range (member_at to (own_place (v.handovers to row.tablet).role))

-- what it has read of the lineage, member by member
abbrev pub read_by_member : View → Row → ℕ → List (List Entry)
read_by_member v row to = by_member (v.gathers to row.tablet) (own_read v row to)

-- the coordinator may take a Rebuilt. That no range of a row is empty, that logs can be read again, and that the master has gathered no
-- more main segments than there can be, is so in each lane that is well formed
pub record MayTakeRebuiltFormed (v : View) (row : Row) (lineage : List Member) (to place : ℕ) (ends : List Ended) : Type 0 where
  pub may : MayTakeRebuilt v row lineage to place ends
  pub ranges : All (λ row. row.range.first ≤ row.range.last) v.rows
  pub readable : AreReadable v.logs v.written
  pub gathered : All (λ gathered. length gathered.main ≤ LAST_MAIN_SEGMENT) (v.gathers to row.tablet).members
