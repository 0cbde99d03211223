-- When a lane in code is spent by an event.
use Rattle.std.specs.Prelude.{Bool, false, true, Ok, Err, Result}
use Rattle.rk_world.specs.declared.error.StepError.{StepError}
use Rattle.rk_world.specs.declared.error.StepError.TheVariants as errors
use Rattle.rk_world.specs.declared.event.Seen.{Seen}

-- whether a cause is want of memory
abbrev pub is_no_memory : StepError → Bool
is_no_memory errors.NoMemory = true
is_no_memory _ = false

-- whether memory was wanting in an event
abbrev pub is_out_of_memory : Result Seen StepError → Bool
is_out_of_memory (Ok seen) = false
is_out_of_memory (Err error) = is_no_memory error
