-- What a backup accepts of bytes that come for a segment, and what it has of them then.
use Rattle.std.specs.Prelude.{ℕ, ◌-◌, ◌≡◌, ◌<◌, ◌⊎◌, Bool, ◌&&◌, nat_le, min, if◌then◌else◌, List, [], length, take, drop, bytes_eq, Result, Ok, Err}
use Rattle.rk_outside.specs.declared.replica.Lost.{Lost}
use Rattle.rk_outside.specs.declared.replica.Lost.TheVariants.{Failed, NoMemory}
use Rattle.rk_outside.specs.Segments.{Segments, Lengths, ChangesAt, IsSame, LeavesPart, LengthensAtMost, bytes_of, with_part}

-- how many of these bytes, which begin at a place of the stored ones, are stored already
abbrev pub overlap : ℕ → List ℕ → List ℕ → ℕ
overlap at bytes stored = min (length stored - at) (length bytes)

-- whether they begin where bytes are stored or at their end, and are those that are stored as far as both go
abbrev pub is_accepted : ℕ → List ℕ → List ℕ → Bool
is_accepted at bytes stored =
    nat_le at (length stored) && bytes_eq (take (overlap at bytes stored) (drop at stored)) (take (overlap at bytes stored) bytes)

-- the bytes that are added: what goes past the stored ones; none if they are not accepted
abbrev pub added : ℕ → List ℕ → List ℕ → List ℕ
added at bytes stored = if is_accepted at bytes stored then drop (length stored - at) bytes else []

-- what becomes of reported segments, by the answer: all that is to be added, some first part of it, or nothing
abbrev pub Accepts : {T : Type 0} → Result T Lost → ℕ → ℕ → ℕ → List ℕ → Segments → Segments → Type 0
Accepts (Ok _) master segment at bytes old new =
    ChangesAt master segment (with_part (old master segment) (added at bytes (bytes_of (old master segment)))) old new
Accepts (Err Failed) master segment at bytes old new = LeavesPart master segment (added at bytes (bytes_of (old master segment))) old new
Accepts (Err NoMemory) master segment at bytes old new = IsSame old new

-- a segment has so many bytes now: as many as before, or all up to the end of those that came
pub record Reaches (master segment end stored : ℕ) (old new : Lengths) : Type 0 where
  pub reached : (stored ≡ old master segment) ⊎ ((stored ≡ end) × (old master segment < end))
  pub change : ChangesAt master segment stored old new

-- what becomes of the lengths, also of segments that are not reported, when bytes came that end there: one segment has as
-- many bytes as the answer says, and after a failure it has grown towards that end at most
abbrev pub Grows : Result ℕ Lost → ℕ → ℕ → ℕ → Lengths → Lengths → Type 0
Grows (Ok stored) master segment end old new = Reaches master segment end stored old new
Grows (Err Failed) master segment end old new = LengthensAtMost master segment (end - old master segment) old new
Grows (Err NoMemory) master segment end old new = IsSame old new
