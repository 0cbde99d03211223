-- Lemmas on segments and their lengths.
use Rattle.std.proofs.Common.{ℕ, ◌+◌, List, [], ◌∷◌, length, Result, Ok, Err, ap, ◌∙◌, length-append, arith}
use Rattle.rk_outside.specs.Segments.{Segments, bytes_of, lengths_of, with_bytes, with_part, ChangesAt, IsSame, Stores, Lengthens}
use Rattle.rk_outside.specs.declared.replica.Lost.{Lost}
use Rattle.rk_outside.specs.declared.replica.Lost.TheVariants.{Failed, NoMemory}

-- when bytes are added to one segment, its length grows by theirs alone
pub lengths_of-with_bytes : (master segment : ℕ) (bytes : List ℕ) (old new : Segments) → ChangesAt master segment (with_bytes (old master segment) bytes) old new
    → ChangesAt master segment (lengths_of old master segment + length bytes) (lengths_of old) (lengths_of new)
lengths_of-with_bytes master segment bytes old new change = record {
  here = ap (λ stored. length (bytes_of stored)) change.here ∙ length-append (bytes_of (old master segment)) bytes;
  others = λ m s apart. ap (λ stored. length (bytes_of stored)) (change.others m s apart);
}

-- and so if a failed append left some first part of its bytes
lengths_of-with_part : (master segment : ℕ) (bytes : List ℕ) (old new : Segments) → ChangesAt master segment (with_part (old master segment) bytes) old new
    → ChangesAt master segment (lengths_of old master segment + length bytes) (lengths_of old) (lengths_of new)
lengths_of-with_part master segment [] old new change = record {
  here = let same = ap (λ stored. length (bytes_of stored)) change.here in omega (arith, same);
  others = λ m s apart. ap (λ stored. length (bytes_of stored)) (change.others m s apart);
}
lengths_of-with_part master segment (byte ∷ bytes) old new change = lengths_of-with_bytes master segment (byte ∷ bytes) old new change

-- if no segment changes, no length does
pub lengths_of-same : (old new : Segments) → IsSame old new → IsSame (lengths_of old) (lengths_of new)
lengths_of-same old new same m s = ap (λ stored. length (bytes_of stored)) (same m s)

-- what an append does to the segments it does to their lengths
pub Lengthens-stored : (result : Result (Unit {0}) Lost) (master segment : ℕ) (bytes : List ℕ) (old new : Segments) → Stores result master segment bytes old new
    → Lengthens result master segment (length bytes) (lengths_of old) (lengths_of new)
Lengthens-stored (Ok _) master segment bytes old new stored = lengths_of-with_bytes master segment bytes old new stored
Lengthens-stored (Err Failed) master segment bytes old new stored = record {
  more = length stored.front;
  bound = omega (arith, ap length stored.parts ∙ length-append stored.front stored.back);
  change = lengths_of-with_part master segment stored.front old new stored.change;
}
Lengthens-stored (Err NoMemory) master segment bytes old new stored = lengths_of-same old new stored
