-- The number that is written for each code.
use Rattle.std.specs.Prelude.{ℕ}
use Rattle.rk_script.specs.declared.code.Code.{Code}
use Rattle.rk_script.specs.declared.code.Code.TheVariants.{UnknownName, WordCount, BadNumber, KeyLength, ValueLength, BadByte, ScriptLength}

abbrev pub code_number : Code → ℕ
code_number UnknownName = 1
code_number WordCount = 2
code_number BadNumber = 3
code_number KeyLength = 4
code_number ValueLength = 5
code_number BadByte = 6
code_number ScriptLength = 20
