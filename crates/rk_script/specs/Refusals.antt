-- What an error says of a line, or of a part of one.
use Rattle.std.specs.Prelude.{◌≡◌, ⊤, Result, Err}
use Rattle.rk_script.specs.declared.code.Code.{Code}
use Rattle.rk_script.specs.declared.refusal.LineError.{LineError}
use Rattle.rk_script.specs.declared.refusal.LineError.TheVariants.{Refused, NoMemory}

-- an error gives the code that refuses what is read; want of memory is free
abbrev pub IsRefusalOf : {A : Type 0} → LineError → Result A Code → Type 0
IsRefusalOf (Refused code) said = said ≡ Err code
IsRefusalOf NoMemory said = ⊤
