-- What the call of a replica came to, by what the backup answers.
use Rattle.std.specs.Prelude.{◌≡◌, ℕ, ◌-◌, false, [], ◌∷◌, List, Option, Result, Ok, Err, IfSome, ⊤}
use Rattle.rk_outside.specs.Segments.{Segments}
use Rattle.rk_outside.specs.declared.replica.Lost.{Lost}
use Rattle.rk_outside.specs.declared.replica.Lost.TheVariants.{Failed as failed, NoMemory}
use Rattle.rk_message.specs.declared.message.Message.{Message}
use Rattle.rk_message.specs.declared.rebuilding.ReadSegment.{ReadSegment}
use Rattle.rk_world.specs.Backup.{Backed, Called, Appended, Gave, Failed, failing, read_step}

-- what an append came to, by the length of its segment before and after it
abbrev pub append_called : {T : Type 0} → Result T Lost → ℕ → ℕ → Called
append_called (Ok answer) before after = Appended after
append_called (Err lost) before after = Failed (after - before)

-- a backup answered so: it sent its message, or the device failed and the message was lost; of want of memory nothing is said
abbrev pub IsBacked : Backed → Result Message Lost → Type 0
IsBacked backed (Ok message) = backed ≡ record { sends = message ∷ []; lost = false }
IsBacked backed (Err failed) = backed ≡ failing
IsBacked backed (Err NoMemory) = ⊤

-- what a read came to, if the replica reports its segments: it gave what is stored, or failed and nothing was stored
abbrev pub IsReadOf : Segments → ReadSegment → Called → Type 0
IsReadOf segments read (Appended length) = ⊥
IsReadOf segments read (Gave bytes) = bytes ≡ segments read.master read.segment
IsReadOf segments read (Failed stored) = stored ≡ 0

-- a backup answered a Read of a segment that has these bytes in its master's log, by what the call of the replica came to
pub record IsCopied (number reader : ℕ) (read : ReadSegment) (log : List ℕ) (told : Option Segments) (result : Result Message Lost) : Type 0 where
  pub called : Called
  pub backed : IsBacked (read_step number reader read (λ master segment. log) called) result
  pub given : IfSome told (λ segments. IsReadOf segments read called)
