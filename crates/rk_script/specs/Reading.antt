-- What reading a script line by line answers, against what its lines say.
use Rattle.std.specs.Prelude.{◌≡◌, ◌+◌, ◌≤◌, ◌==◌, false, ⊤, ℕ, All, List, [], ◌∷◌, ◌++◌, length, Option, Some, None, Result, Ok, Err}
use Rattle.std.specs.Str.Lines.{lines}
use Rattle.rk_script.specs.declared.code.Code.{Code}
use Rattle.rk_script.specs.declared.command.Command.{Command}
use Rattle.rk_script.specs.declared.command.Numbered.{Numbered}
use Rattle.rk_script.specs.declared.progress.Progress.{Progress}
use Rattle.rk_script.specs.declared.script.ParseError.{ParseError}
use Rattle.rk_script.specs.declared.script.ParseError.TheVariants.{Refused, NoMemory}
use Rattle.rk_script.specs.declared.script.TheConstants.{LINE_FEED}
use Rattle.rk_script.specs.Lines.{said_by}
use Rattle.rk_script.specs.Script.{commands_from}

-- bytes without a line feed
abbrev pub IsWithinLine : List ℕ → Type 0
IsWithinLine bytes = All (λ byte. (byte == LINE_FEED) ≡ false) bytes

-- the commands with the command that a line says, if it says one
abbrev pub with_line : List Numbered → ℕ → Option Command → List Numbered
with_line commands line None = commands
with_line commands line (Some command) = commands ++ record { line = line; command = command } ∷ []

-- a line is no refusal, and the command that it says, if any, comes behind the others
abbrev pub AddsLine : List Numbered → List Numbered → ℕ → List ℕ → Type 0
AddsLine old new line text = (said : Option Command) × (said_by text ≡ Ok said) × (new ≡ with_line old line said)

-- an error gives this line and the code that refuses it; want of memory is free
abbrev pub IsLineRefusal : ParseError → ℕ → Result (Option Command) Code → Type 0
IsLineRefusal (Refused wrong code) line said = (wrong ≡ line) × (said ≡ Err code)
IsLineRefusal NoMemory line said = ⊤

-- an error is the first refusal of the lines; want of memory is free
abbrev pub IsScriptRefusal : ParseError → Result (List Numbered) ParseError → Type 0
IsScriptRefusal (Refused line code) said = said ≡ Err (Refused line code)
IsScriptRefusal NoMemory said = ⊤

-- commands that were read before those of the rest
abbrev pub after_commands : List Numbered → Result (List Numbered) ParseError → Result (List Numbered) ParseError
after_commands done (Ok more) = Ok (done ++ more)
after_commands done (Err error) = Err error

-- what a script that is read so far comes to, if these bytes follow
abbrev pub answer_of : Progress → List ℕ → Result (List Numbered) ParseError
answer_of progress more = after_commands progress.commands.items (commands_from progress.line (lines (progress.last.items ++ more)))

-- what is read so far, or why no more is read, settles what the lines come to if these bytes follow; want of memory is free
abbrev pub Settles : Result Progress ParseError → List ℕ → Result (List Numbered) ParseError → Type 0
Settles (Ok progress) more said = said ≡ answer_of progress more
Settles (Err error) more said = IsScriptRefusal error said

-- all that is settled before a piece is settled after it
abbrev pub GoesOn : Result Progress ParseError → Result Progress ParseError → List ℕ → Type 0
GoesOn old new piece = (more : List ℕ) (said : Result (List Numbered) ParseError) → Settles old (piece ++ more) said → Settles new more said

-- the line that is not complete has no line feed, and of so many bytes there are at most so many lines and commands
pub record IsProgress (progress : Progress) (count : ℕ) : Type 0 where
  pub within : IsWithinLine progress.last.items
  pub lines : progress.line + length progress.last.items ≤ 1 + count
  pub commands : length progress.commands.items + length progress.last.items ≤ count
