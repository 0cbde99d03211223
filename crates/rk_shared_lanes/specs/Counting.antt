-- What is counted as asked and as answered.
use Rattle.std.specs.Prelude.{Bool, true, false, Option, Some}
use Rattle.rk_world.specs.declared.event.Taken.{Taken}
use Rattle.rk_world.specs.declared.event.Taken.TheVariants as takes

-- whether what a client took answers its call
abbrev pub is_answer : Option Taken → Bool
is_answer (Some takes.Done) = true
is_answer taken = false
