-- Choices of a master with which it stages nothing.
use Rattle.std.specs.Prelude.{⊤}
use Rattle.rk_world.specs.declared.choice.Choice.{Choice}
use Rattle.rk_world.specs.declared.choice.Choice.TheVariants.{Writes, Refuses}

-- nothing is staged: all choices but to write and to refuse
abbrev pub StagesNothing : Choice → Type 0
StagesNothing (Writes tablet) = ⊥
StagesNothing (Refuses found absent) = ⊥
StagesNothing choice = ⊤
