-- What a reader of a script has read, against the bytes that it was fed.
use Rattle.std.specs.Prelude.{◌≡◌, ◌≤◌, ◌-◌, ◌^◌, ℕ, min, List, ◌++◌, length, Result, Err}
use Rattle.std.specs.Str.Lines.{lines}
use Rattle.rk_script.specs.declared.progress.Progress.{Progress}
use Rattle.rk_script.specs.declared.script.ParseError.{ParseError}
use Rattle.rk_script.specs.declared.script.ParseError.TheVariants.{NoMemory}
use Rattle.rk_script.specs.declared.script.TheConstants.{LONGEST_SCRIPT}
use Rattle.rk_script.specs.Reading.{Settles}
use Rattle.rk_script.specs.Script.{commands_from}

-- how many bytes a reader was fed, 2^64-1 if they are more, and what it has read of them, or why it reads no more
pub record Reader : Type 0 where
  pub count : ℕ
  pub read : Result Progress ParseError

-- memory was wanting
abbrev pub IsWanting : Reader → Type 0
IsWanting reader = reader.read ≡ Err NoMemory

-- a reader was fed these bytes: it has counted them, and whatever follows, it has read what settles the lines of the whole
pub record WasFed (reader : Reader) (fed : List ℕ) : Type 0 where
  pub count : reader.count ≡ min (length fed) (2 ^ 64 - 1)
  pub read : length fed ≤ LONGEST_SCRIPT → (more : List ℕ) → Settles reader.read more (commands_from 1 (lines (fed ++ more)))
