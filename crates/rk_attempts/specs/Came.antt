-- What work makes of a lane in code: from each world that the lane stood for, it came to a world that it stands for now.
use Rattle.std.specs.Prelude.{◌≡◌, ℕ, [], List, All, None, Option, Some, Result}
use Rattle.rk_types.specs.NumberMap.{NumberMap}
use Rattle.rk_outside.specs.Segments.{Segments}
use Rattle.rk_world.specs.Backup.{Called}
use Rattle.rk_world.specs.Client.{Session}
use Rattle.rk_world.specs.Premises.{MayCome}
use Rattle.rk_world.specs.World.{World}
use Rattle.rk_lane.specs.LaneState.{AreTold, LaneState, Running, world_with}
use Rattle.rk_attempts.specs.Attempts.{attempt_on}
use Rattle.rk_attempts.specs.Progress.{Progress}
use Rattle.rk_attempts.specs.Replays.{replay_on}
use Rattle.rk_attempts.specs.Turns.{next_message, turn_on}
use Rattle.rk_attempts.specs.declared.attempt.Attempt.{Attempt}
use Rattle.rk_attempts.specs.declared.attempt.Short.{Short}

-- what was made of a world is what this says of a world that the lane stands for, if its replicas report what its backups store
pub record IsCome {R T : Type 0} (segments : R → Option Segments) (made : T) (new : LaneState R) (after : Running) (at : World → T) : Type 0 where
  pub stored : NumberMap Segments
  pub told : AreTold segments new.backups stored
  pub is : made ≡ at (world_with new after stored)

-- a lane that was not spent is not spent now, and what the definitions make of each world that it stood for is what this says of a world
-- that it stands for now
pub record Comes {R T : Type 0} (segments : R → Option Segments) (old new : LaneState R) (makes : World → T) (at : World → T) : Type 0 where
  pub before : Running
  pub after : Running
  pub was : old.running ≡ Some before
  pub is : new.running ≡ Some after
  pub come : (stored : NumberMap Segments) → AreTold segments old.backups stored
      → IsCome segments (makes (world_with old before stored)) new after at

-- work came so far, and was ended there if a number was too great
abbrev pub has_come : Option ℕ → World → Progress
has_come worn w = record { world = w; worn = worn }

-- a turn was taken in a lane; if it was not found worn, nothing that a turn delivers is left
pub record IsTurn {R : Type 0} (segments : R → Option Segments) (old new : LaneState R) (worn : Option ℕ) : Type 0 where
  pub calls : List Called
  pub may : All MayCome calls
  pub comes : Comes segments old new (λ w. turn_on w calls) (has_come worn)
  pub rest : worn ≡ None → (running : Running) → new.running ≡ Some running → next_message (world_with new running []) ≡ None

-- a message was replayed in a lane
pub record IsReplay {R : Type 0} (segments : R → Option Segments) (old new : LaneState R) (number : ℕ) (worn : Option ℕ) : Type 0 where
  pub called : Called
  pub may : MayCome called
  pub comes : Comes segments old new (λ w. replay_on w number called) (has_come worn)

-- a client made an attempt in a lane
pub record IsAttempt {R : Type 0} (segments : R → Option Segments) (old new : LaneState R) (session now : Session) (answer : Result Attempt Short) : Type 0 where
  pub called : Called
  pub may : MayCome called
  pub comes : Comes segments old new (λ w. attempt_on w session called) (λ w. record { world = w; session = now; answer = answer })
