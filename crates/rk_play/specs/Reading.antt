-- What is said of a script that is read from its source.
use Rattle.std.specs.Prelude.{◌≡◌, ℕ, List, Option, IfSome, Result}
use Rattle.rk_script.specs.Script.{script_of}
use Rattle.rk_script.specs.declared.command.Numbered.{Numbered}
use Rattle.rk_script.specs.declared.script.ParseError.{ParseError}
use Rattle.rk_script.specs.declared.script.ParseError.TheVariants as of_script
use Rattle.rk_play.specs.Runs.{IsRead}
use Rattle.rk_play.specs.declared.reading.ScriptError.{ScriptError}
use Rattle.rk_play.specs.declared.reading.ScriptError.TheVariants as errors

-- the error that a refusal of a script makes
abbrev pub script_error_by : ParseError → ScriptError
script_error_by (of_script.Refused line code) = errors.Refused line code
script_error_by of_script.NoMemory = errors.NoMemory

-- the script that a source reported says this, and is read
abbrev pub Says : Option (List ℕ) → Option (List ℕ) → Result (List Numbered) ParseError → Type 0
Says old new said = IfSome old (λ script. (script_of script ≡ said) × IsRead script new)
