-- The language of scripts: the commands of a script, each with the number of its line, or the first refusal.
use Rattle.std.specs.Prelude.{ℕ, ◌+◌, nat_lt, List, [], ◌∷◌, length, Option, Some, None, Result, Ok, Err, if◌then◌else◌}
use Rattle.std.specs.Str.Lines.{lines}
use Rattle.rk_script.specs.declared.code.Code.{Code}
use Rattle.rk_script.specs.declared.code.Code.TheVariants.{ScriptLength}
use Rattle.rk_script.specs.declared.command.Command.{Command}
use Rattle.rk_script.specs.declared.command.Numbered.{Numbered}
use Rattle.rk_script.specs.declared.script.ParseError.{ParseError}
use Rattle.rk_script.specs.declared.script.ParseError.TheVariants.{Refused}
use Rattle.rk_script.specs.declared.script.TheConstants.{LONGEST_SCRIPT}
use Rattle.rk_script.specs.Lines.{said_by}

-- what a line says, before the commands of the lines that follow it
abbrev pub before_others : ℕ → Result (Option Command) Code → Result (List Numbered) ParseError → Result (List Numbered) ParseError
before_others line (Err code) others = Err (Refused line code)
before_others line (Ok None) others = others
before_others line (Ok (Some command)) (Ok others) = Ok (record { line = line; command = command } ∷ others)
before_others line (Ok (Some command)) (Err error) = Err error

-- the commands of lines of which the first has this number
abbrev pub commands_from : ℕ → List (List ℕ) → Result (List Numbered) ParseError
commands_from line [] = Ok []
commands_from line (text ∷ texts) = before_others line (said_by text) (commands_from (line + 1) texts)

-- the commands of a script, or its first refusal; a line ends at a line feed, before which one carriage return is dropped, and the last
-- line may have no end
abbrev pub script_of : List ℕ → Result (List Numbered) ParseError
script_of script =
    if nat_lt LONGEST_SCRIPT (length script) then Err (Refused 0 ScriptLength) else commands_from 1 (lines script)
