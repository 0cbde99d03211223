-- Who owns a tablet, as the code of a lane finds it.
use Rattle.std.specs.Prelude.{ℕ, Option, Some, None}
use Rattle.rk_tablet_map.specs.declared.phase.Phase.{Phase}
use Rattle.rk_tablet_map.specs.declared.phase.Phase.TheVariants.{Owned}
use Rattle.rk_tablet_map.specs.declared.row.Row.{Row}
use Rattle.rk_lane.specs.declared.splits.Owner.{Owner}

-- by the phase of a row: the owner, with the row's term
abbrev pub owner_by : ℕ → Phase → Option Owner
owner_by term (Owned master from) = Some (record { master = master; term = term })
owner_by term _ = None

-- the owner of a row, if there is a row and it is owned
abbrev pub owner_in : Option Row → Option Owner
owner_in None = None
owner_in (Some row) = owner_by row.term row.phase
