-- What a coordinator in code represents.
use Rattle.std.specs.Prelude.{ℕ, ◌<◌, ◌^◌, ◌++◌, ◌∷◌, [], All}
use Rattle.rk_types.specs.NumberMap.{get_or}
use Rattle.rk_message.specs.declared.handover.Grant.{Grant}
use Rattle.rk_message.specs.declared.handover.Tenure.{Tenure}
use Rattle.rk_world.specs.Coordinator.{Coordinator, Handed}
use Rattle.rk_coordinator.specs.declared.coordinator_lane.CoordinatorLane.TheInside.{Inside}

-- the coordinator that the fields are
abbrev pub coordinator_of : Inside → Coordinator
coordinator_of lane = record { masters = lane.masters; rows = lane.map; noticed = lane.noticed.items; handed = lane.handed }

-- each term may rise: none is anywhere near the greatest of all
abbrev pub MayRise : Coordinator → Type 0
MayRise coordinator = All (λ row. row.term < 2 ^ 63) coordinator.rows

-- the coordinator with one more master marked as dead
abbrev pub marked : Coordinator → ℕ → Coordinator
marked coordinator dead = record coordinator { noticed = coordinator.noticed ++ dead ∷ [] }

-- what the source of a tablet reported, and what is used for it if that is not known
abbrev pub told_of : Coordinator → ℕ → Handed
told_of coordinator tablet = get_or (record { floor = 1; ends = [] }) coordinator.handed tablet

-- the Grant of a tenure that hands on what the source reported
abbrev pub grant_of : Tenure → ℕ → Handed → Grant
grant_of tenure source handed = record { tenure = tenure; source = source; floor = handed.floor; ends = handed.ends }
