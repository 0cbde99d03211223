-- The condition of a grant.
use Rattle.std.specs.Prelude.{◌≡◌, ◌≤◌, All}
use Rattle.rk_types.specs.declared.lineage.Member.{Member}
use Rattle.rk_entry.specs.Ends.{RiseAbove}
use Rattle.rk_tablet_map.specs.declared.row.Row.{Row}
use Rattle.rk_message.specs.declared.handover.Grant.{Grant}
use Rattle.rk_sound.specs.View.{View}
use Rattle.rk_sound.specs.Moves.{MayGrant}

-- a target of a row may take a grant of the row's tablet, if it may be granted that. That the ends of a grant rise by client, and
-- that no range of a row is empty, is so in each lane that is well formed
pub record MayGrantFormed (v : View) (row : Row) (source target : Member) (grant : Grant) : Type 0 where
  pub may : MayGrant v row source target grant
  pub tablet_is : grant.tenure.tablet ≡ row.tablet
  pub rising : RiseAbove 0 grant.ends
  pub ranges : All (λ row. row.range.first ≤ row.range.last) v.rows
