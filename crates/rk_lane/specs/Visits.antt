-- What a client's turn or answer makes of a lane in code.
use Rattle.std.specs.Prelude.{◌≡◌, ◌⊎◌, [], Option, Some, Result, Ok, IsSomeAnd}
use Rattle.rk_types.specs.NumberMap.{NumberMap}
use Rattle.rk_outside.specs.Segments.{Segments}
use Rattle.rk_session.specs.Turns.{session_after}
use Rattle.rk_world.specs.Calls.{Visited}
use Rattle.rk_world.specs.Client.{Session, session_turn}
use Rattle.rk_world.specs.Premises.{MayAct}
use Rattle.rk_world.specs.World.{World}
use Rattle.rk_world.specs.declared.error.StepError.{StepError}
use Rattle.rk_world.specs.declared.event.Seen.{Seen}
use Rattle.rk_lane.specs.LaneState.{LaneState, Running, world_with}
use Rattle.rk_lane.specs.Made.{IsSameParts}
use Rattle.rk_lane.specs.Parts.{IsKept, world_of}
use Rattle.rk_lane.specs.declared.parts.Parts.{Parts}

-- a session may act in a lane
abbrev pub MayActIn : {R : Type 0} → LaneState R → Session → Type 0
MayActIn lane session = MayAct lane.masters session

-- a client came to a lane: its world and the session became just what the definitions make of them, whatever backups store, and
-- so is what was seen
pub record IsVisitOf {R : Type 0} (visit : World → Result Visited StepError) (old new : LaneState R) (session : Session) (seen : Seen) : Type 0 where
  pub before : Running
  pub after : Running
  pub was : old.running ≡ Some before
  pub is : new.running ≡ Some after
  pub backups : new.backups ≡ old.backups
  pub visited : (backups : NumberMap Segments) → visit (world_with old before backups)
      ≡ Ok (record { world = world_with new after backups; session = session; seen = seen })

-- a lane refused a client for this cause
abbrev pub IsRefusedFor : {R : Type 0} → (World → Option StepError) → LaneState R → StepError → Type 0
IsRefusedFor refusal lane error = IsSomeAnd lane.running (λ running. refusal (world_with lane running []) ≡ Some error)

-- the session has taken its turn, or is as it was
abbrev pub MayHaveTurned : Session → Session → Type 0
MayHaveTurned old new = (new ≡ old) ⊎ (new ≡ session_after old (session_turn old))

-- a client came to the parts of a lane: their world and the session became just what the definitions make of them, whatever backups
-- store, so is what was seen, and all is kept
pub record IsVisited (visit : World → Result Visited StepError) (old new : Parts) (session : Session) (seen : Seen) : Type 0 where
  pub visited : (stored : NumberMap Segments) → visit (world_of old stored) ≡ Ok (record { world = world_of new stored; session = session; seen = seen })
  pub kept : IsKept new
  pub lane : IsSameParts old new
