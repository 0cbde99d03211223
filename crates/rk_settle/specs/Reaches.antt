-- How far the migration of a tablet has come in a lane.
use Rattle.std.specs.Prelude.{ℕ, ◌==◌, ◌&&◌, Bool, true, false, not, is_some, nat_lt, Option, Some, None}
use Rattle.rk_tablet_map.specs.Rows.{row_of}
use Rattle.rk_tablet_map.specs.declared.phase.Phase.{Phase}
use Rattle.rk_tablet_map.specs.declared.phase.Phase.TheVariants.{Moving, Opening}
use Rattle.rk_tablet_map.specs.declared.row.Row.{Row}
use Rattle.rk_transfer.specs.declared.role.Role.{Role}
use Rattle.rk_transfer.specs.declared.role.Role.TheVariants as roles
use Rattle.rk_world.specs.RoleTests.{is_frozen_at}
use Rattle.rk_world.specs.Tablet.{Tablet}
use Rattle.rk_world.specs.World.{World, master_at, tablet_in}
use Rattle.rk_types.specs.declared.reach.Reach.{Reach}
use Rattle.rk_types.specs.declared.reach.Reach.TheVariants.{Begun, Frozen, Granted, Pulled, Joined}

-- whether a role is that of a target that has all
abbrev pub is_joining : Role → Bool
is_joining (roles.Joining entry) = true
is_joining role = false

-- whether a role is that of a target that answers calls
abbrev pub is_target : Role → Bool
is_target roles.Receiving = true
is_target (roles.Joining entry) = true
is_target role = false

-- whether a role is that of a target whose closing entry is among so many applied ones
abbrev pub has_joined : ℕ → Role → Bool
has_joined applied (roles.Joining (Some entry)) = nat_lt entry applied
has_joined applied role = false

-- whether a tablet is at a term, in such a role
abbrev pub is_at_term : Tablet → ℕ → (Role → Bool) → Bool
is_at_term tablet term test = tablet.handover.term == term && test tablet.handover.role

-- whether a migration that moves has come to a reach
abbrev pub is_moved_to : World → Row → ℕ → Reach → Bool
is_moved_to w row target Begun = true
is_moved_to w row target Granted = is_at_term (tablet_in w target row.tablet) row.term is_target
is_moved_to w row target Pulled = is_at_term (tablet_in w target row.tablet) row.term is_joining
is_moved_to w row target Joined = is_at_term (tablet_in w target row.tablet) row.term (has_joined (master_at w target).applied)
is_moved_to w row target reach = false

-- whether the source of a migration is frozen
abbrev pub is_source_frozen : World → Row → ℕ → Bool
is_source_frozen w row source = is_frozen_at (tablet_in w source row.tablet) row.term

-- whether a migration has come to a reach: it has begun once the target's place is known, the source is frozen or not, the target is
-- granted the tablet, has pulled all or has joined, and it is finished once the row does not move any more
abbrev pub is_at_reach : World → Row → Phase → Reach → Bool
is_at_reach w row (Opening source sfrom target dfrom) Begun = is_some dfrom
is_at_reach w row (Opening source sfrom target dfrom) Frozen = is_source_frozen w row source
is_at_reach w row (Moving source sfrom target dfrom) Frozen = is_source_frozen w row source
is_at_reach w row (Opening source sfrom target dfrom) reach = is_moved_to w row target reach
is_at_reach w row (Moving source sfrom target dfrom) reach = is_moved_to w row target reach
is_at_reach w row phase reach = true

-- whether a row, if there is one, is short of a reach
abbrev pub is_short_by : World → Option Row → Reach → Bool
is_short_by w None reach = false
is_short_by w (Some row) reach = not (is_at_reach w row row.phase reach)

-- whether the migration of a tablet in a lane, if there is one, is short of a reach
abbrev pub is_short_of : World → ℕ → Reach → Bool
is_short_of w tablet reach = is_short_by w (row_of w.coordinator.rows tablet) reach
