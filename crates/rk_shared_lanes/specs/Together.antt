-- What lanes and sessions have together.
use Rattle.std.specs.Prelude.{◌≡◌, ◌+◌, ◌^◌, ℕ, [], None, Option, All, List, length, map}
use Rattle.std.specs.List.{sum_by}
use Rattle.rk_outside.specs.Segments.{Segments}
use Rattle.rk_world.specs.Client.{Session}
use Rattle.rk_world.specs.Ledger.{asked_by}
use Rattle.rk_lane.specs.LaneState.{LaneState}
use Rattle.rk_laws_lanes.specs.Below.{waiting}
use Rattle.rk_laws_lanes.specs.Counts.{accepted_count}
use Rattle.rk_laws_lanes.specs.gathered.Gathered.{IsOrderly}
use Rattle.rk_laws_lanes.specs.gathered.OpenCalls.{HasCountedCalls}
use Rattle.rk_shared_lanes.specs.Kept.{HasClients, IsSoundOrSpent}
use Rattle.rk_shared_lanes.specs.Passes.{PassState}

-- the numbers of lanes
abbrev pub numbers_of : {R : Type 0} → List (LaneState R) → List ℕ
numbers_of lanes = map (λ lane. lane.number) lanes

-- these as powers of nine, added up
abbrev pub powers_of : {R : Type 0} → List (LaneState R) → ℕ
powers_of lanes = sum_by (λ lane. 9 ^ lane.number) lanes

-- how many records of lanes are accepted
abbrev pub accepted_of : {R : Type 0} → List (LaneState R) → ℕ
accepted_of lanes = sum_by (λ lane. accepted_count lane.ledger) lanes

-- how many calls were asked of lanes
abbrev pub asked_of : {R : Type 0} → List (LaneState R) → ℕ
asked_of lanes = sum_by (λ lane. lane.ledger.asked) lanes

-- how many receipts sessions got
abbrev pub receipts_of : List Session → ℕ
receipts_of sessions = sum_by (λ session. length session.receipts) sessions

-- how many calls sessions made: one for each receipt, and the outstanding one
abbrev pub calls_of : List Session → ℕ
calls_of sessions = sum_by (λ session. length session.receipts + waiting session.outstanding) sessions

-- the clients of sessions
abbrev pub clients_of : List Session → List ℕ
clients_of sessions = map (λ session. session.client) sessions

-- the sessions of passes
abbrev pub sessions_of : List PassState → List Session
sessions_of passes = map (λ pass. pass.session) passes

-- a lane of which nobody asked a call
pub record IsUnasked {R : Type 0} (lane : LaneState R) : Type 0 where
  pub asked : lane.ledger.asked ≡ 0
  pub journal : lane.ledger.journal ≡ []
  pub clients : (client : ℕ) → asked_by lane.ledger client ≡ None

-- a session that asked nothing yet
pub record IsIdle (session : Session) : Type 0 where
  pub receipts : session.receipts ≡ []
  pub last : session.last ≡ 0
  pub outstanding : session.outstanding ≡ None

-- a lane has just these clients, and so many masters and backups
pub record IsOfRoster {R : Type 0} (masters backups : ℕ) (clients : List ℕ) (lane : LaneState R) : Type 0 where
  pub masters_are : lane.masters ≡ masters
  pub backups_are : length lane.backups ≡ backups
  pub clients_are : HasClients clients lane.ledger

-- each lane is sound or spent
abbrev pub AllSoundOrSpent : {R : Type 0} → (R → Option Segments) → List (LaneState R) → Type 0
AllSoundOrSpent segments lanes = All (IsSoundOrSpent segments) lanes

-- each lane has counted its calls
abbrev pub AllCounted : {R : Type 0} → List (LaneState R) → Type 0
AllCounted lanes = All (λ lane. HasCountedCalls lane.ledger) lanes

-- each session is orderly
abbrev pub AllOrderly : List Session → Type 0
AllOrderly sessions = All (λ session. IsOrderly session.client session) sessions
