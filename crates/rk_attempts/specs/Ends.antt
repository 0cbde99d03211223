-- How work in a lane ended.
use Rattle.std.specs.Prelude.{◌≡◌, ℕ, [], List, All, fold, Option, None, Some, Result, Ok, Err}
use Rattle.rk_world.specs.Backup.{Called}
use Rattle.rk_world.specs.Client.{Session}
use Rattle.rk_world.specs.Premises.{MayCome}
use Rattle.rk_world.specs.declared.event.Event.{Event}
use Rattle.rk_world.specs.declared.event.Seen.{Seen}
use Rattle.rk_outside.specs.Segments.{Segments}
use Rattle.rk_lane.specs.LaneState.{LaneState, Running, world_with}
use Rattle.rk_attempts.specs.Attempts.{heard, sent_on, taking_all, took}
use Rattle.rk_attempts.specs.Came.{Comes, has_come}
use Rattle.rk_attempts.specs.Progress.{came, handed, started}
use Rattle.rk_attempts.specs.Turns.{handed_oldest, next_message}
use Rattle.rk_attempts.specs.declared.attempt.Attempt.{Attempt}
use Rattle.rk_attempts.specs.declared.attempt.Short.{Short}
use Rattle.rk_attempts.specs.declared.attempt.Short.TheVariants as shorts

-- by what stopped it: a number that was too great, or want of memory, of which nothing more is said
abbrev pub StopsAt : Short → Option ℕ → Type 0
StopsAt shorts.NoMemory worn = ⊥
StopsAt (shorts.Worn number) worn = worn ≡ Some number

-- work came to its end, or stopped because a number was too great
abbrev pub EndsAt : {T : Type 0} → Result T Short → Option ℕ → Type 0
EndsAt (Ok result) worn = worn ≡ None
EndsAt (Err short) worn = StopsAt short worn

-- an event came to a lane
pub record IsEvent {R : Type 0} (segments : R → Option Segments) (old new : LaneState R) (event : Event) (worn : Option ℕ) : Type 0 where
  pub called : Called
  pub may : MayCome called
  pub comes : Comes segments old new (λ w. came (started w) event called) (has_come worn)

-- a message was delivered in a lane, and then forgotten
pub record IsHanded {R : Type 0} (segments : R → Option Segments) (old new : LaneState R) (number : ℕ) (worn : Option ℕ) : Type 0 where
  pub called : Called
  pub may : MayCome called
  pub comes : Comes segments old new (λ w. handed (started w) number called) (has_come worn)

-- messages were delivered and forgotten, oldest first; if the lane was not found worn, none is left that a turn delivers
pub record IsHandedOut {R : Type 0} (segments : R → Option Segments) (old new : LaneState R) (worn : Option ℕ) : Type 0 where
  pub calls : List Called
  pub may : All MayCome calls
  pub comes : Comes segments old new (λ w. fold handed_oldest (started w) calls) (has_come worn)
  pub rest : worn ≡ None → (running : Running) → new.running ≡ Some running → next_message (world_with new running []) ≡ None

-- a client took a message, which was then forgotten, and heard this of its call
pub record IsTake {R : Type 0} (segments : R → Option Segments) (old new : LaneState R) (session now : Session) (number : ℕ) (attempt : Option Attempt) : Type 0 where
  pub seen : Seen
  pub comes : Comes segments old new (λ w. took w session number) (λ w. record { world = w; session = now; seen = seen })
  pub says : heard seen.taken ≡ attempt

-- a client took messages, up to the first that says what became of its call
abbrev pub IsTakenUpTo : {R : Type 0} → (R → Option Segments) → LaneState R → LaneState R → Session → Session → List ℕ → Attempt → Type 0
IsTakenUpTo segments old new session now numbers attempt =
    Comes segments old new (λ w. taking_all w session numbers) (λ w. record { world = w; session = now; answer = Ok attempt })

-- what a client sent was delivered and forgotten, if it sent a message
pub record IsSending {R : Type 0} (segments : R → Option Segments) (old new : LaneState R) (seen : Seen) (worn : Option ℕ) : Type 0 where
  pub called : Called
  pub may : MayCome called
  pub comes : Comes segments old new (λ w. sent_on w seen called) (has_come worn)
