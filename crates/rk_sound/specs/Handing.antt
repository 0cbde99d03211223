-- Handing: what is handed over with a tablet, as long as it may still be taken, and what it makes of the target of a row that moves.
use Rattle.std.specs.Prelude.{ℕ, ◌==◌, ◌&&◌, Bool, true, false, if◌then◌else◌, List, ◌∷◌, Option, Some, None}
use Rattle.std.specs.Option.{option_map}
use Rattle.rk_types.specs.NumberMap.{NumberMap, get}
use Rattle.rk_types.specs.declared.lineage.Member.{Member}
use Rattle.rk_entry.specs.declared.entry.Entry.{Entry}
use Rattle.rk_entry.specs.declared.entry.Entry.TheVariants as entries
use Rattle.rk_transfer.specs.declared.handover.Handover.{Handover}
use Rattle.rk_transfer.specs.declared.role.Role.{Role}
use Rattle.rk_transfer.specs.declared.role.Role.TheVariants as roles
use Rattle.rk_tablet_map.specs.Phase.{lineage_of}
use Rattle.rk_tablet_map.specs.declared.phase.Phase.{Phase}
use Rattle.rk_tablet_map.specs.declared.phase.Phase.TheVariants.{Opening, Moving}
use Rattle.rk_tablet_map.specs.declared.row.Row.{Row}
use Rattle.rk_message.specs.declared.message.Body.{Body}
use Rattle.rk_message.specs.declared.message.Body.TheVariants as bodies
use Rattle.rk_world.specs.Lineage.{second_of}
use Rattle.rk_world.specs.Coordinator.{Handed}
use Rattle.rk_world.specs.Written.{Written, member_truth}

-- whether a row opens
abbrev pub is_opening : Phase → Bool
is_opening (Opening source sfrom target dfrom) = true
is_opening _ = false

-- whether a role waits for a grant
abbrev pub is_wanting : Role → Bool
is_wanting (roles.Wanting from) = true
is_wanting _ = false

-- what the second member of a row's lineage, if there is one, has of the tablet
abbrev pub second_has : (ℕ → ℕ → Handover) → Row → Option Member → Option Handover
second_has handovers row None = None
second_has handovers row (Some member) = Some (handovers member.master row.tablet)

-- whether the second member waits for its grant
abbrev pub is_waiting : Option Handover → Bool
is_waiting None = false
is_waiting (Some handover) = is_wanting handover.role

-- whether it waits for its grant at this term
abbrev pub is_waiting_at : Option Handover → ℕ → Bool
is_waiting_at None term = false
is_waiting_at (Some handover) term = is_wanting handover.role && (handover.term == term)

-- what the coordinator has noted for the grant, while the target waits for it
abbrev pub handed_for_grant : Row → (ℕ → ℕ → Handover) → NumberMap Handed → Option Handed
handed_for_grant row handovers handed =
    if is_waiting (second_has handovers row (second_of (lineage_of row.phase))) then get handed row.tablet else None

-- what a message hands over for a row: a Transfer of its term while it opens, and a Grant of the target's term while the
-- target waits for it
abbrev pub handed_by : Row → (ℕ → ℕ → Handover) → Body → Option Handed
handed_by row handovers (bodies.Transfer transfer) =
    if is_opening row.phase && (transfer.tenure.tablet == row.tablet) && (transfer.tenure.term == row.term)
    then Some (record { floor = transfer.floor; ends = transfer.ends })
    else None
handed_by row handovers (bodies.Grant grant) =
    if (grant.tenure.tablet == row.tablet)
    && is_waiting_at (second_has handovers row (second_of (lineage_of row.phase))) grant.tenure.term
    then Some (record { floor = grant.floor; ends = grant.ends })
    else None
handed_by row handovers _ = None

-- the entry that begins what the target of a row has, by what the source handed over
abbrev pub beginning_in : Row → Handed → Entry
beginning_in row handed =
    entries.Carried (record { range = row.range; term = row.term; floor = handed.floor; ends = handed.ends })

-- what the target of a row that moves has applied, behind what its source handed over; none if nothing is noted
abbrev pub target_truth : (ℕ → Written) → NumberMap Handed → Row → Phase → Option (List Entry)
target_truth written handed row (Moving source sfrom target dfrom) =
    option_map
    (λ h. beginning_in row h ∷ member_truth written row.range (record { master = target; from = dfrom }))
    (get handed row.tablet)
target_truth written handed row _ = None
