-- Segments of a replica: bytes by the number of a master and of a segment, which only grow at their end.
use Rattle.std.specs.Prelude.{ℕ, ◌+◌, ◌≡◌, ◌≢◌, ◌≤◌, ◌⊎◌, List, [], ◌∷◌, ◌++◌, length, Option, Some, None, unwrap_or, Result, Ok, Err, ⊤}
use Rattle.rk_outside.specs.declared.replica.Lost.{Lost}
use Rattle.rk_outside.specs.declared.replica.Lost.TheVariants.{Failed, NoMemory}

-- the bytes of each segment, none if it was never written
abbrev pub Segments : Type 0
Segments = ℕ → ℕ → Option (List ℕ)

-- the length of each segment in bytes
abbrev pub Lengths : Type 0
Lengths = ℕ → ℕ → ℕ

-- the bytes that a segment holds; a segment that was never written holds none
abbrev pub bytes_of : Option (List ℕ) → List ℕ
bytes_of stored = unwrap_or stored []

-- the lengths of shown segments
abbrev pub lengths_of : Segments → Lengths
lengths_of segments master segment = length (bytes_of (segments master segment))

-- a segment with these bytes added at its end; it is written from then on
abbrev pub with_bytes : Option (List ℕ) → List ℕ → Option (List ℕ)
with_bytes stored bytes = Some (bytes_of stored ++ bytes)

-- a segment with what a failed append left of its bytes; if nothing was left, it stays as it was
abbrev pub with_part : Option (List ℕ) → List ℕ → Option (List ℕ)
with_part stored [] = stored
with_part stored (byte ∷ bytes) = with_bytes stored (byte ∷ bytes)

-- one segment of one master has this now, and every other is as it was
pub record ChangesAt {X : Type 0} (master segment : ℕ) (value : X) (old new : ℕ → ℕ → X) : Type 0 where
  pub here : new master segment ≡ value
  pub others : (m s : ℕ) → (m ≢ master) ⊎ (s ≢ segment) → new m s ≡ old m s

-- every segment is as it was
abbrev pub IsSame : {X : Type 0} → (ℕ → ℕ → X) → (ℕ → ℕ → X) → Type 0
IsSame old new = (m s : ℕ) → new m s ≡ old m s

-- shown segments stay shown and change so; of segments that are not shown nothing is said
abbrev pub WhereTold : (Segments → Segments → Type 0) → Option Segments → Option Segments → Type 0
WhereTold Change None new = ⊤
WhereTold Change (Some old) None = ⊥
WhereTold Change (Some old) (Some new) = Change old new

-- a failed append left some first part of the bytes
pub record LeavesPart (master segment : ℕ) (bytes : List ℕ) (old new : Segments) : Type 0 where
  pub front : List ℕ
  pub back : List ℕ
  pub parts : bytes ≡ front ++ back
  pub change : ChangesAt master segment (with_part (old master segment) front) old new

-- a failed append made the segment longer by at most so many bytes
pub record LengthensAtMost (master segment most : ℕ) (old new : Lengths) : Type 0 where
  pub more : ℕ
  pub bound : more ≤ most
  pub change : ChangesAt master segment (old master segment + more) old new

-- what an append does to the segments, by its answer: all bytes, some first part, or none
abbrev pub Stores : Result (Unit {0}) Lost → ℕ → ℕ → List ℕ → Segments → Segments → Type 0
Stores (Ok _) master segment bytes old new = ChangesAt master segment (with_bytes (old master segment) bytes) old new
Stores (Err Failed) master segment bytes old new = LeavesPart master segment bytes old new
Stores (Err NoMemory) master segment bytes old new = IsSame old new

-- what an append of so many bytes does to the lengths, by its answer
abbrev pub Lengthens : Result (Unit {0}) Lost → ℕ → ℕ → ℕ → Lengths → Lengths → Type 0
Lengthens (Ok _) master segment count old new = ChangesAt master segment (old master segment + count) old new
Lengthens (Err Failed) master segment count old new = LengthensAtMost master segment count old new
Lengthens (Err NoMemory) master segment count old new = IsSame old new

-- some bytes came at the end, at most so many
pub record GrowsAtMost (old new : List ℕ) (most : ℕ) : Type 0 where
  pub more : List ℕ
  pub grown : new ≡ old ++ more
  pub bound : length more ≤ most
