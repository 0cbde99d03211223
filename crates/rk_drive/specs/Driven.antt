-- What a drive leaves once the calls of all clients are answered.
use Rattle.std.specs.Prelude.{◌≡◌, ◌≤◌, ℕ, All, List, None, Option, is_some, length, map, true}
use Rattle.std.specs.List.{range_with_len}
use Rattle.rk_types.specs.declared.call.Call.{Call}
use Rattle.rk_types.specs.declared.hashing.TheConstants.{LANES}
use Rattle.rk_outside.specs.Segments.{Segments}
use Rattle.rk_world.specs.Client.{Session}
use Rattle.rk_world.specs.Cluster.{Cluster}
use Rattle.rk_world.specs.Premises.{MayAct}
use Rattle.rk_lane.specs.LaneState.{LaneState}
use Rattle.rk_laws_drives.specs.Below.{receipts_in}
use Rattle.rk_laws_drives.specs.Ready.{AreReady}
use Rattle.rk_shared_lanes.specs.Passes.{MakesOnly}
use Rattle.rk_shared_lanes.specs.Together.{AllCounted, AllOrderly, AllSoundOrSpent, IsOfRoster, asked_of, calls_of, clients_of, numbers_of}
use Rattle.rk_workload.specs.Workload.{call_of, workload}
use Rattle.rk_drive.specs.declared.plan.Plan.{Plan}
use Rattle.rk_drive.specs.declared.start.TheConstants.{BACKUPS, MASTERS}

-- a call is that of a workload over so many keys which its client makes under its seq
abbrev pub IsOfWorkload : ℕ → Call → Type 0
IsOfWorkload keys call = call ≡ call_of keys call.client call.seq

-- so many calls of a session are answered, and no other was made
pub record HasAnswers (calls : ℕ) (session : Session) : Type 0 where
  pub answered : session.outstanding ≡ None
  pub count : length session.receipts ≡ calls

-- the lanes and the sessions of so many clients, when each of their calls is answered; what is said of calls and worlds holds if this is
-- taken for granted of the replicas
pub record AreDriven {R : Type 0} (segments : R → Option Segments) (tells : Type 0) (plan : Plan) (lanes : List (LaneState R)) (sessions : List Session) : Type 0 where
  pub numbers : numbers_of lanes ≡ range_with_len 0 LANES
  pub roster : All (IsOfRoster MASTERS BACKUPS (range_with_len 1 plan.clients)) lanes
  pub runs : All (λ lane. is_some lane.running ≡ true) lanes
  pub acts : All (MayAct MASTERS) sessions
  pub clients : clients_of sessions ≡ range_with_len 1 plan.clients
  pub answered : All (HasAnswers plan.calls) sessions
  pub asked : asked_of lanes ≤ calls_of sessions
  pub orderly : tells → AllOrderly sessions
  pub made : tells → All (MakesOnly (IsOfWorkload plan.keys)) sessions
  pub counted : tells → AllCounted lanes
  pub sound : tells → AllSoundOrSpent segments lanes

-- the cluster of these: it is ready, and the receipts are those of the workload
pub record IsDriven (plan : Plan) (cluster : Cluster) : Type 0 where
  pub ready : AreReady MASTERS cluster
  pub calls : map (λ receipt. receipt.call) (receipts_in cluster.sessions) ≡ workload plan.clients plan.calls plan.keys
