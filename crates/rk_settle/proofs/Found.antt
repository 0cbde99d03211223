-- What is found in lists of a lane and of a session names masters that are there.
use Rattle.rk_settle.proofs.Words.{◌≡◌, ℕ, Bool, true, false, cond, not, is_some, List, [], ◌∷◌, slice_index_or, All, find, Option, None}
use Rattle.rk_settle.proofs.Words.{Some, IfSome, sym, subst, arith, All-head, All-tail, Segments, row_of, Phase, Moving, Opening, Row}
use Rattle.rk_settle.proofs.Words.{Session, IsMaster, World, LaneState, AreNamed}
use Rattle.std.proofs.Common.{⊎_elim}
use Rattle.std.proofs.lemmas.Bool.{cases_lt}
use Rattle.std.proofs.lemmas.List.{get_or_past}
use Rattle.rk_message.specs.declared.calls.Located.{Located}
use Rattle.rk_tablet_map.specs.Phase.{member}
use Rattle.rk_tablet_map.specs.declared.phase.Phase.TheVariants.{Owned, Rebuilding}
use Rattle.rk_session.specs.Owners.{cached_owner, known_owner}
use Rattle.rk_world.specs.Formed.{IsFormedRow, named_in}
use Rattle.rk_world.specs.Limits.{IsFormedMember, Limits, limits_of}
use Rattle.rk_world.specs.Premises.{IsCached, MayAct}
use Rattle.rk_world.specs.Runs.{IsFormedWithRoom}
use Rattle.rk_lane.specs.LaneState.{Running, world_with}
use Rattle.rk_cluster.specs.State.{IsWorld}

-- what holds of each holds of the first that passes a test
passing : {X : Type 0} (Holds : X → Type 0) (b : Bool) (x : X) (found : Option X) → Holds x → IfSome found Holds → IfSome (cond b (Some x) found) Holds
passing Holds true x found here later = here
passing Holds false x found here later = later

pub first_holds : {X : Type 0} (Holds : X → Type 0) (test : X → Bool) (list : List X) → All Holds list → IfSome (find test list) Holds
first_holds Holds test [] all = tt
first_holds Holds test (x ∷ rest) all =
    passing Holds (test x) x (find test rest) (All-head Holds x rest all) (first_holds Holds test rest (All-tail Holds x rest all))

-- ---- rows

-- the owner, and the source and the target of a migration, are among those that a phase names
sides_are : (limits : Limits) (phase : Phase) → All (IsFormedMember limits) (named_in phase) → AreNamed limits.masters phase
sides_are limits (Owned master from) are = (are 0 (member master from) (omega arith)).master
sides_are limits (Opening source sfrom target dfrom) are = ((are 0 (member source sfrom) (omega arith)).master, (are 1 (member source sfrom) (omega arith)).master)
sides_are limits (Moving source sfrom target dfrom) are = ((are 0 (member source sfrom) (omega arith)).master, (are 1 (member source sfrom) (omega arith)).master)
sides_are limits (Rebuilding lineage to) are = tt

pub row_names : (limits : Limits) (rows : List Row) (tablet : ℕ) → All (IsFormedRow limits) rows → IfSome (row_of rows tablet) (λ row. AreNamed limits.masters row.phase)
row_names limits rows tablet formed = grind (arith, first_holds, sides_are, slice_index_or)

-- in a lane that is not spent, of masters that its coordinator counts
pub row_there : {R : Type 0} (at : LaneState R) (o : Option Running) (rows : List Row) (tablet : ℕ) → not (is_some o) ≡ false
    → IfSome o (λ running. IsFormedWithRoom (world_with at running [])) → IfSome o (λ running. running.coordinator.masters ≡ at.masters)
    → IfSome o (λ running. rows ≡ running.coordinator.rows) → IfSome (row_of rows tablet) (λ row. AreNamed at.masters row.phase)
row_there at None rows tablet lives formed counted same = absurd (cc)
row_there at (Some running) rows tablet lives formed counted same =
    subst (λ (masters : ℕ). IfSome (row_of rows tablet) (λ row. AreNamed masters row.phase)) counted
    (subst (λ (rows : List Row). IfSome (row_of rows tablet) (λ row. AreNamed running.coordinator.masters row.phase)) (sym same)
    (row_names (limits_of (world_with at running [])) running.coordinator.rows tablet formed.formed.coordinator.rows))

-- a world of such a lane has as many masters
pub masters_in : {R : Type 0} (segments : R → Option Segments) (at : LaneState R) (w : World) → IsWorld segments at w
    → IfSome at.running (λ running. running.coordinator.masters ≡ at.masters) → w.coordinator.masters ≡ at.masters
masters_in segments at w is counted = grind arith

-- ---- what a client has cached

located_there : (masters : ℕ) (found : Option Located) → IfSome found (IsCached masters) → IfSome (cached_owner found) (IsMaster masters)
located_there masters None cached = tt
located_there masters (Some located) cached = cached.owner

-- the owner that a client knows is there
pub owner_there : (masters : ℕ) (session : Session) → MayAct masters session → IfSome (known_owner session) (IsMaster masters)
owner_there masters session may = grind (arith, located_there, first_holds, get_or_past, cases_lt, session.outstanding)
