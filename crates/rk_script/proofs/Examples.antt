-- The language at worked examples: what scripts say, and which refusal comes first.
use Rattle.std.proofs.Common.{◌≡◌, ℕ, [], ◌∷◌, ◌++◌, refl}
use Rattle.std.specs.Prelude.{Ok, Err, codes}
use Rattle.rk_types.specs.declared.call.Op.TheVariants.{Get, Put, CondPut, Delete}
use Rattle.rk_script.specs.declared.code.Code.TheVariants.{UnknownName, WordCount, BadNumber, BadByte}
use Rattle.rk_script.specs.declared.command.Command.{Command}
use Rattle.rk_script.specs.declared.command.Command.TheVariants as command
use Rattle.rk_script.specs.declared.command.Numbered.{Numbered}
use Rattle.rk_types.specs.declared.reach.Reach.TheVariants.{Granted}
use Rattle.rk_script.specs.declared.script.ParseError.TheVariants.{Refused}
use Rattle.rk_script.specs.Script.{script_of}

-- a command at a line
abbrev at : ℕ → Command → Numbered
at line command = record { line = line; command = command }

-- a script of no bytes says nothing
pub script_of-empty : script_of [] ≡ Ok []
script_of-empty = refl

-- the ends of lines are line feeds, with or without a carriage return, and the last line may have none
pub script_of-ends : script_of (codes "masters 2\r\nbackups 4\nsettle") ≡ Ok (at 1 (command.Masters 2) ∷ at 2 (command.Backups 4) ∷ at 3 command.Settle ∷ [])
script_of-ends = refl

-- a carriage return before no line feed is a byte of its line
pub script_of-lone_return : script_of (codes "settle\r") ≡ Err (Refused 1 BadByte)
script_of-lone_return = refl

-- empty lines and comments are passed over, whatever bytes they have, and count as lines
pub script_of-passed : script_of (codes " \t\n# one" ++ 233 ∷ codes "\n\twhere  1 \n") ≡ Ok (at 3 (command.Where 1) ∷ [])
script_of-passed = refl

-- the operations of a call
pub script_of-reads : script_of (codes "call 1 get 7 a\ncall 1 del 7 a\n") ≡ Ok (at 1 (command.Call 1 7 (codes "a") Get) ∷ at 2 (command.Call 1 7 (codes "a") Delete) ∷ [])
script_of-reads = refl

-- a value that is left out is empty
pub script_of-puts : script_of (codes "call 1 put 7 a\ncall 1 cput 7 a 0 x\n") ≡ Ok (at 1 (command.Call 1 7 (codes "a") (Put [])) ∷ at 2 (command.Call 1 7 (codes "a") (CondPut 0 (codes "x"))) ∷ [])
script_of-puts = refl

-- a migration that is advanced, and a split
pub script_of-moves : script_of (codes "migrate 1 2\nadvance 1 granted\nsplit 1 af63df0000000000\n") ≡ Ok (at 1 (command.Migrate 1 2) ∷ at 2 (command.Advance 1 Granted) ∷ at 3 (command.Split 1 12638190170424737792) ∷ [])
script_of-moves = refl

-- the first line that is refused counts
pub script_of-first : script_of (codes "settle\nmasters 1\nfrob\n") ≡ Err (Refused 2 BadNumber)
script_of-first = refl

-- an unknown name is reported before a wrong count of words, and that before a wrong number
pub script_of-unknown : script_of (codes "advance x far\n") ≡ Err (Refused 1 UnknownName)
script_of-unknown = refl

pub script_of-count : script_of (codes "advance x\n") ≡ Err (Refused 1 WordCount)
script_of-count = refl

pub script_of-number : script_of (codes "advance x granted\n") ≡ Err (Refused 1 BadNumber)
script_of-number = refl

-- a byte that is no printed character is reported before all of these
pub script_of-byte : script_of (codes "frob " ++ 127 ∷ []) ≡ Err (Refused 1 BadByte)
script_of-byte = refl

-- a number has no sign and no leading zero
pub script_of-zero : script_of (codes "client 01\n") ≡ Err (Refused 1 BadNumber)
script_of-zero = refl

pub script_of-plus : script_of (codes "client +1\n") ≡ Err (Refused 1 BadNumber)
script_of-plus = refl
