-- Reading one field after the other up to the first fault, and what code answers for it.
use Rattle.std.specs.Prelude.{◌≡◌, Result, Ok, Err, Bool, if◌then◌else◌, ℕ}
use Rattle.rk_entry.specs.declared.error.DecodeError.{DecodeError}
use Rattle.rk_entry.specs.declared.error.DecodeError.TheVariants.{Cut, Bad, NoMemory}

infixl 10 ◌>>=◌
-- reads on with what was read, unless there was a fault
abbrev pub ◌>>=◌ : {A B : Type 0} → Result A DecodeError → (A → Result B DecodeError) → Result B DecodeError
(Ok x) >>= f = f x
(Err e) >>= f = Err e

-- what was read, unless it is unlawful: then the fault of this code
abbrev pub unless : {A : Type 0} → Bool → ℕ → A → Result A DecodeError
unless unlawful code read = if unlawful then Err (Bad code) else Ok read

-- code that fails with this error fails as reading does, or for want of memory
abbrev pub Fails : {Y : Type 0} → DecodeError → Result Y DecodeError → Type 0
Fails Cut read = read ≡ Err Cut
Fails (Bad code) read = read ≡ Err (Bad code)
Fails NoMemory read = Unit {0}

-- what code answers, seen by `view`, is what reading gives, unless memory ran out
abbrev pub Gives : {X Y : Type 0} → (X → Y) → Result X DecodeError → Result Y DecodeError → Type 0
Gives view (Ok x) read = read ≡ Ok (view x)
Gives view (Err e) read = Fails e read
