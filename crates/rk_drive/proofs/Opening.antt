-- The sessions with which a drive begins, and how what is taken for granted of lanes is taken for granted of replicas.
use Rattle.std.proofs.Common.{◌≡◌, ◌≤◌, ℕ, ◌+◌, ◌^◌, zero, suc, List, ◌∷◌, map, Option, refl, ap, arith}
use Rattle.std.specs.Prelude.{IfOk, Result, Ok, Err}
use Rattle.std.specs.List.{All, range_with_len}
use Rattle.std.proofs.lemmas.List.Elements.{All-cons, All-nil}
use Rattle.rk_types.specs.declared.call.Call.{Call}
use Rattle.rk_outside.specs.Segments.{Segments}
use Rattle.rk_world.specs.Client.{Session, new_session}
use Rattle.rk_world.specs.Premises.{MayAct}
use Rattle.rk_lane.specs.LaneState.{LaneState}
use Rattle.rk_cluster.proofs.Joining.{new_acts}
use Rattle.rk_shared_lanes.specs.declared.shared.Gathered.{Gathered}
use Rattle.rk_shared_lanes.specs.Passes.{MakesOnly}
use Rattle.rk_shared_lanes.specs.Together.{IsIdle, clients_of}
use Rattle.rk_drive.specs.Driven.{AreDriven}
use Rattle.rk_drive.specs.declared.plan.Plan.{Plan}

pub clients_from : (from count : ℕ) → clients_of (map new_session (range_with_len from count)) ≡ range_with_len from count
clients_from from zero = refl
clients_from from (suc count) = ap (λ (rest : List ℕ). from ∷ rest) (clients_from (from + 1) count)

pub idle_from : (from count : ℕ) → All IsIdle (map new_session (range_with_len from count))
idle_from from zero = All-nil IsIdle
idle_from from (suc count) = grind (arith, (idle_from (from + 1) count))

pub act_from : (masters from count : ℕ) → 1 ≤ from → from + count ≤ 2 ^ 32 → All (MayAct masters) (map new_session (range_with_len from count))
act_from masters from zero least most = All-nil (MayAct masters)
act_from masters from (suc count) least most =
    All-cons (MayAct masters) (new_session from) (map new_session (range_with_len (from + 1) count)) (new_acts masters from least (omega (arith, most)))
    (act_from masters (from + 1) count (omega arith) (omega (arith, most)))

-- calls that are such as clients make are such as they make more freely
pub makes_weaker : (makes freer : Call → Type 0) → ((call : Call) → makes call → freer call) → (session : Session) → MakesOnly makes session → MakesOnly freer session
makes_weaker makes freer gives session it = grind arith

-- what is said with `before` taken for granted is said with `later` taken for granted, from which it follows
module _ {R : Type 0} (segments : R → Option Segments) (before later : Type 0) (plan : Plan) (gives : later → before) where
  pub granted : (lanes : List (LaneState R)) (sessions : List Session) → AreDriven segments before plan lanes sessions → AreDriven segments later plan lanes sessions
  granted lanes sessions it = grind arith

  pub granted_ok : {E : Type 0} (result : Result (Gathered R) E) → IfOk result (λ gathered. AreDriven segments before plan gathered.lanes.items gathered.sessions.items)
      → IfOk result (λ gathered. AreDriven segments later plan gathered.lanes.items gathered.sessions.items)
  granted_ok (Ok gathered) it = granted gathered.lanes.items gathered.sessions.items it
  granted_ok (Err e) it = tt
