-- Work in one lane: events one after the other, up to an event that finds the lane worn.
use Rattle.std.specs.Prelude.{ℕ, Option, None, Some, Result, Ok, Err}
use Rattle.rk_world.specs.Backup.{Called, Gave}
use Rattle.rk_world.specs.Step.{Stepped, step}
use Rattle.rk_world.specs.World.{World}
use Rattle.rk_world.specs.declared.error.StepError.{StepError}
use Rattle.rk_world.specs.declared.error.StepError.TheVariants as errors
use Rattle.rk_world.specs.declared.event.Event.{Event}
use Rattle.rk_world.specs.declared.event.Event.TheVariants as events

-- how far work has come: the lane, and the number that has grown too great for more of it, if one has
pub record Progress : Type 0 where
  pub world : World
  pub worn : Option ℕ

-- a lane in which work may go on
abbrev pub started : World → Progress
started w = record { world = w; worn = None }

-- the number that is too great, if a refusal says so
abbrev pub worn_at : StepError → Option ℕ
worn_at (errors.Worn number) = Some number
worn_at error = None

-- work after an event: a refusal changes nothing, and ends it only if the lane is worn
abbrev pub after_step : World → Result Stepped StepError → Progress
after_step w (Ok stepped) = started stepped.world
after_step w (Err error) = record { world = w; worn = worn_at error }

-- an event comes to a lane, unless work there has ended
abbrev pub came_by : World → Event → Called → Option ℕ → Progress
came_by w event called None = after_step w (step w event called)
came_by w event called (Some number) = record { world = w; worn = Some number }

-- an event comes to a lane, with what the call of a replica came to
abbrev pub came : Progress → Event → Called → Progress
came progress event called = came_by progress.world event called progress.worn

-- a message is delivered, and then forgotten
abbrev pub handed : Progress → ℕ → Called → Progress
handed progress number called = came (came progress (events.Deliver number) called) (events.Forget number) (Gave None)
