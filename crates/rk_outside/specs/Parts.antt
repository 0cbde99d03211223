-- First parts of bytes: what was written of a text, or read of an input, when a call ended before the whole.
use Rattle.std.specs.Prelude.{ℕ, ◌≡◌, ◌≤◌, List, ◌++◌, length, Option}
use Rattle.std.specs.Io.KnownBytes.{Appends, Consumes}

-- known bytes grow by some first part of these
pub record AppendsPart (old new : Option (List ℕ)) (bytes : List ℕ) : Type 0 where
  pub front : List ℕ
  pub back : List ℕ
  pub parts : bytes ≡ front ++ back
  pub written : Appends old new front

-- known bytes lose some first part of at least and at most so many bytes
pub record ConsumesBetween (old new : Option (List ℕ)) (least most : ℕ) : Type 0 where
  pub front : List ℕ
  pub no_fewer : least ≤ length front
  pub no_more : length front ≤ most
  pub consumed : Consumes old new front
