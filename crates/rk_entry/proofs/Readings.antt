-- What reading answers at a text that is read as one thing, whatever follows it.
use Rattle.std.proofs.Common.{◌≡◌, ℕ, ◌-◌, List, ◌++◌, length, Result, Ok, Err, arith, length-append}
use Rattle.rk_entry.specs.declared.error.DecodeError.{DecodeError}
use Rattle.rk_entry.specs.Steps.{Fails, Gives}
use Rattle.rk_entry.proofs.Tools.{ok_is}

module _ {A : Type 0} (read : List ℕ → Result (A × List ℕ) DecodeError) where
  -- there no fault is read
  no_fault : (bytes text : List ℕ) (fault : DecodeError) (x : A) (rest : List ℕ) → read bytes ≡ Err fault → read (text ++ rest) ≡ Ok (x, rest) → bytes ≡ text ++ rest → ⊥
  no_fault bytes text fault x rest failed again is = grind arith

  -- there code can fail for want of memory alone
  pub fails_only : (fault : DecodeError) (bytes text : List ℕ) (x : A) (rest : List ℕ) → Fails fault (read bytes) → read (text ++ rest) ≡ Ok (x, rest) → bytes ≡ text ++ rest
      → Gives (λ (y : A × ℕ). y) (Err fault) (Ok (x, length text))
  fails_only fault bytes text x rest failed again is = grind (arith, no_fault)

  -- there that one thing is what is read
  pub reads_only : (bytes text : List ℕ) (found x : A) (left rest : List ℕ) → read bytes ≡ Ok (found, left) → read (text ++ rest) ≡ Ok (x, rest) → bytes ≡ text ++ rest
      → Gives (λ (y : A × ℕ). y) (Ok (found, length bytes - length left)) (Ok (x, length text))
  reads_only bytes text found x left rest was again is = grind (arith, ok_is, length-append)
