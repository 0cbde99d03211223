-- What holds of a choice that a master made of a call.
use Rattle.std.specs.Prelude.{◌≡◌, true, IsSome, ⊤}
use Rattle.rk_types.specs.NumberMap.{NumberMap, get}
use Rattle.rk_world.specs.declared.choice.Choice.{Choice}
use Rattle.rk_world.specs.declared.choice.Choice.TheVariants.{Wants, Writes, Refuses}
use Rattle.rk_world.specs.Tablet.{Tablet}

-- the tablet that a choice names is there, and a removal that is refused found no version
abbrev pub IsFit : NumberMap Tablet → Choice → Type 0
IsFit tablets (Wants number) = IsSome (get tablets number)
IsFit tablets (Writes number) = IsSome (get tablets number)
IsFit tablets (Refuses found absent) = absent ≡ true → found ≡ 0
IsFit tablets choice = ⊤
