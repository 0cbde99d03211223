-- Which refusals of a lane end work there.
use Rattle.std.specs.Prelude.{Option, None, Some, Result, Ok, Err}
use Rattle.rk_world.specs.declared.error.StepError.{StepError}
use Rattle.rk_world.specs.declared.error.StepError.TheVariants as errors
use Rattle.rk_world.specs.declared.event.Seen.{Seen}
use Rattle.rk_attempts.specs.declared.attempt.Short.{Short}
use Rattle.rk_attempts.specs.declared.attempt.Short.TheVariants as shorts

-- want of memory and a worn lane do; every other refusal is passed over
abbrev pub short_by : StepError → Option Short
short_by errors.NoMemory = Some shorts.NoMemory
short_by (errors.Worn number) = Some (shorts.Worn number)
short_by error = None

-- whether, and why, an answer of a lane ends work there
abbrev pub short_of : Result Seen StepError → Option Short
short_of (Ok seen) = None
short_of (Err error) = short_by error
