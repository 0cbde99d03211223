-- What is so of a lane behind its lock.
use Rattle.std.specs.Prelude.{◌≡◌, ◌^◌, ◌<◌, ◌==◌, ℕ, List, Option, Some, IfSome, length}
use Rattle.std.specs.List.{list_any}
use Rattle.rk_types.specs.NumberMap.{NumberMap}
use Rattle.rk_types.specs.declared.hashing.TheConstants.{LANES}
use Rattle.rk_outside.specs.Segments.{Segments}
use Rattle.rk_world.specs.Ledger.{Ledger, is_added}
use Rattle.rk_lane.specs.LaneState.{AreTold, LaneState, Running, world_with}
use Rattle.rk_cluster.specs.Faults.{Counts, RoseBy, lane_counts}
use Rattle.rk_laws_lanes.specs.Counts.{accepted_count}
use Rattle.rk_laws_lanes.specs.GoodLane.{IsGoodLane}
use Rattle.rk_laws_lanes.specs.gathered.OpenCalls.{HasCountedCalls}

-- a lane in which this runs represents a good world: what its backups store is what their replicas report
pub record StandsFor {R : Type 0} (segments : R → Option Segments) (lane : LaneState R) (running : Running) : Type 0 where
  pub stored : NumberMap Segments
  pub told : AreTold segments lane.backups stored
  pub good : IsGoodLane lane.masters lane.number (world_with lane running stored)

-- a lane is sound or spent
abbrev pub IsSoundOrSpent : {R : Type 0} → (R → Option Segments) → LaneState R → Type 0
IsSoundOrSpent segments lane = IfSome lane.running (StandsFor segments lane)

-- a lane's clients are just these
abbrev pub HasClients : List ℕ → Ledger → Type 0
HasClients clients ledger = (client : ℕ) → is_added ledger client ≡ list_any (λ other. other == client) clients

-- no count of faults of a lane's replicas is below these, those of the lane's number
abbrev pub IsNoneBelow : {R : Type 0} → (R → ℕ) → Counts → LaneState R → Type 0
IsNoneBelow faults counts lane = (place : ℕ) → RoseBy 0 (counts lane.number place) (lane_counts faults (Some lane) place)

-- a share of one part with this amount
abbrev pub IsPart : ℕ × ℕ → ℕ → Type 0
IsPart share amount = (share.0 ≡ 1) × (share.1 ≡ amount)

-- a lane has so many masters and backups, these clients, and a number below 8, of which its share has the power of nine; another share has
-- how many calls it was asked; and no count of faults of its replicas is below these. If what is taken for granted of replicas holds, the
-- lane is sound or spent, a share has how many of its records are accepted, and the lane has counted its calls
pub record IsKept {R : Type 0} (segments : R → Option Segments) (faults : R → ℕ) (tells : Type 0) (masters backups : ℕ) (clients : List ℕ) (counts : Counts) (lane : LaneState R) (accepted asked number : ℕ × ℕ) : Type 0 where
  pub masters_are : lane.masters ≡ masters
  pub backups_are : length lane.backups ≡ backups
  pub clients_are : HasClients clients lane.ledger
  pub few : lane.number < LANES
  pub number_is : IsPart number (9 ^ lane.number)
  pub asked_is : IsPart asked lane.ledger.asked
  pub none_below : IsNoneBelow faults counts lane
  pub accepted_part : accepted.0 ≡ 1
  pub accepted_is : tells → accepted.1 ≡ accepted_count lane.ledger
  pub counted : tells → HasCountedCalls lane.ledger
  pub sound : tells → IsSoundOrSpent segments lane
