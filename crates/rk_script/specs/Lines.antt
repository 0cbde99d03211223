-- What a line of a script says.
use Rattle.std.specs.Prelude.{ℕ, ◌==◌, ◌&&◌, ◌||◌, Bool, not, nat_lt, List, [], ◌∷◌, length, filter, slice_index, Option, Some, None, Result, Ok, Err, if◌then◌else◌}
use Rattle.std.specs.List.{list_any, slice_split}
use Rattle.rk_script.specs.declared.code.Code.{Code}
use Rattle.rk_script.specs.declared.code.Code.TheVariants.{BadByte}
use Rattle.rk_script.specs.declared.command.Command.{Command}
use Rattle.rk_script.specs.declared.line.TheConstants.{BLANK, TAB, COMMENT, FIRST_PRINTED, LAST_PRINTED}
use Rattle.rk_script.specs.Commands.{command_of, made_of}

-- whether a byte parts words
abbrev pub is_blank : ℕ → Bool
is_blank byte = byte == BLANK || byte == TAB

-- the words of a line
abbrev pub words_of : List ℕ → List (List ℕ)
words_of line = filter (λ word. nat_lt 0 (length word)) (slice_split is_blank line)

-- whether a byte neither parts words nor is a printed character
abbrev pub is_bad : ℕ → Bool
is_bad byte = not (is_blank byte) && (nat_lt byte FIRST_PRINTED || nat_lt LAST_PRINTED byte)

-- the command that a line with these words says, none if it is empty or a comment, or the code that refuses it
abbrev pub said_in : List ℕ → List (List ℕ) → Result (Option Command) Code
said_in line [] = Ok None
said_in line (name ∷ words) =
    if slice_index name 0 == COMMENT then Ok None
    else if list_any is_bad line then Err BadByte
    else made_of Some (command_of name words)

-- the same of the line alone
abbrev pub said_by : List ℕ → Result (Option Command) Code
said_by line = said_in line (words_of line)
