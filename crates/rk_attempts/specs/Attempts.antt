-- What a client's attempt does in a lane: it asks, what it sent is delivered, and it takes the answers that are there.
use Rattle.std.specs.Prelude.{ℕ, ◌==◌, if◌then◌else◌, List, [], ◌∷◌, Option, None, Some, Result, Ok, Err}
use Rattle.rk_world.specs.Backup.{Called, Gave}
use Rattle.rk_world.specs.Calls.{Visited, accept, ask, untouched}
use Rattle.rk_world.specs.Client.{Session}
use Rattle.rk_world.specs.World.{World}
use Rattle.rk_world.specs.declared.error.StepError.{StepError}
use Rattle.rk_world.specs.declared.error.StepError.TheVariants as errors
use Rattle.rk_world.specs.declared.event.Event.TheVariants as events
use Rattle.rk_world.specs.declared.event.Seen.{Seen}
use Rattle.rk_world.specs.declared.event.Taken.{Taken}
use Rattle.rk_world.specs.declared.event.Taken.TheVariants as takes
use Rattle.rk_attempts.specs.Progress.{Progress, came, handed, started}
use Rattle.rk_attempts.specs.Wires.{is_to_client, numbers_with}
use Rattle.rk_attempts.specs.declared.attempt.Attempt.{Attempt}
use Rattle.rk_attempts.specs.declared.attempt.Attempt.TheVariants as attempts
use Rattle.rk_attempts.specs.declared.attempt.Short.{Short}
use Rattle.rk_attempts.specs.declared.attempt.Short.TheVariants as shorts

-- what an attempt makes: the lane and the session after it, and what it answers
pub record Attempted : Type 0 where
  pub world : World
  pub session : Session
  pub answer : Result Attempt Short

-- what became of a call, if what the client took says so
abbrev pub heard : Option Taken → Option Attempt
heard (Some takes.Done) = Some attempts.Answered
heard (Some (takes.Moved tablet)) = Some (attempts.Moved tablet)
heard (Some (takes.NotYet key)) = Some (attempts.NotYet key)
heard taken = None

-- a client took a message; a refusal changes nothing
abbrev pub visited_or : World → Session → Result Visited StepError → Visited
visited_or w session (Ok visited) = visited
visited_or w session (Err error) = untouched w session None

-- a client takes a message, which is then forgotten
abbrev pub took : World → Session → ℕ → Visited
took w session number =
    let visited = visited_or w session (accept w number session) in
    record visited { world = (came (started visited.world) (events.Forget number) (Gave None)).world }

-- an attempt ends if what became of the call is known, and else goes on
abbrev pub ends_or : Visited → Attempted → Option Attempt → Attempted
ends_or visited later (Some attempt) = record { world = visited.world; session = visited.session; answer = Ok attempt }
ends_or visited later None = later

-- a client takes these messages, one after the other, up to the first that says what became of its call
abbrev pub taking_all : World → Session → List ℕ → Attempted
taking_all w session [] = record { world = w; session = session; answer = Ok attempts.Waiting }
taking_all w session (number ∷ later) =
    let visited = took w session number in
    ends_or visited (taking_all visited.world visited.session later) (heard visited.seen.taken)

-- the client takes the messages for it, oldest first, unless the lane was found worn
abbrev pub taking_by : World → Session → Option ℕ → Attempted
taking_by w session None = taking_all w session (numbers_with (is_to_client session.client) w.wire.messages)
taking_by w session (Some number) = record { world = w; session = session; answer = Err (shorts.Worn number) }

-- what the client sent is delivered and forgotten, if it sent a message
abbrev pub sent_on : World → Seen → Called → Progress
sent_on w seen called = if seen.sent == 0 then started w else handed (started w) seen.first called

-- an attempt once the message that was sent has been handed over
abbrev pub going_on : Session → Progress → Attempted
going_on session progress = taking_by progress.world session progress.worn

-- what an attempt answers that could not ask: it goes on waiting, unless the lane is worn
abbrev pub refused_by : StepError → Result Attempt Short
refused_by (errors.Worn number) = Err (shorts.Worn number)
refused_by error = Ok attempts.Waiting

-- an attempt once the client has asked
abbrev pub attempt_by : World → Session → Called → Result Visited StepError → Attempted
attempt_by w session called (Ok visited) = going_on visited.session (sent_on visited.world visited.seen called)
attempt_by w session called (Err error) = record { world = w; session = session; answer = refused_by error }

-- a client's attempt for its outstanding call: it asks, the message that this sent is delivered and forgotten, and it takes the messages
-- for it, oldest first, up to the first that says what became of the call
abbrev pub attempt_on : World → Session → Called → Attempted
attempt_on w session called = attempt_by w session called (ask w session)
