-- How the message of a parcel is delivered: by whoever takes the parcel, and once.
use Rattle.std.specs.Prelude.{ℕ, Option, Some, None, Result, Ok, Err}
use Rattle.rk_types.specs.NumberMap.{get}
use Rattle.rk_world.specs.Backup.{Called, Gave}
use Rattle.rk_world.specs.Refusals.{delivery_fault}
use Rattle.rk_world.specs.Runs.{world_stepped}
use Rattle.rk_world.specs.Step.{Stepped, step}
use Rattle.rk_world.specs.World.{World}
use Rattle.rk_world.specs.declared.error.StepError.{StepError}
use Rattle.rk_world.specs.declared.event.Event.TheVariants as events

-- why the message of a number is passed over: it is not on the wire, or is for a client, which takes it itself
abbrev pub passed_over : World → ℕ → Option StepError
passed_over w number = delivery_fault number (get w.wire.messages number)

-- the lane once the message of a number is forgotten, if it is there
abbrev pub forgotten : World → ℕ → World
forgotten w number = world_stepped w (step w (events.Forget number) (Gave None))

-- a message that was delivered is forgotten; if its delivery was refused, nothing has changed
abbrev pub forgotten_after : ℕ → Result Stepped StepError → Result World StepError
forgotten_after number (Err error) = Err error
forgotten_after number (Ok stepped) = Ok (forgotten stepped.world number)

-- the message of a number is delivered and then forgotten, unless it is passed over; `called` gives what the call of a replica comes
-- to, if one is called
abbrev pub replayed_by : World → ℕ → Called → Option StepError → Result World StepError
replayed_by w number called (Some passed) = Ok w
replayed_by w number called None = forgotten_after number (step w (events.Deliver number) called)

-- the lane once the parcel of a message was replayed, or why its delivery was refused
abbrev pub replayed : World → ℕ → Called → Result World StepError
replayed w number called = replayed_by w number called (passed_over w number)
