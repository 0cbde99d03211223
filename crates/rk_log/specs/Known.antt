-- What a backup is known to hold of the segments of a log.
use Rattle.std.specs.Prelude.{ℕ, Bool, nat_lt, nat_le, if◌then◌else◌, length, []}
use Rattle.rk_types.specs.NumberMap.{NumberMap, get_or, insert}
use Rattle.rk_segment.specs.Segment.{NumberedBytes}
use Rattle.rk_log.specs.declared.ends.EntryEnd.{EntryEnd}

-- the known length, in bytes, of each segment of which any bytes are known to be held
abbrev pub Known : Type 0
Known = NumberMap ℕ

-- nothing is known to be held
abbrev pub nothing : Known
nothing = []

-- how many bytes of a segment are known to be held
abbrev pub known_length : Known → ℕ → ℕ
known_length known segment = get_or 0 known segment

-- what is known once the backup reported that it holds so many bytes of a segment: the greater length stays
abbrev pub told : Known → ℕ → ℕ → Known
told known segment size = if nat_lt (known_length known segment) size then insert known segment size else known

-- whether all bytes of a segment are known to be held
abbrev pub is_whole : Known → NumberedBytes → Bool
is_whole known segment = nat_le (length segment.bytes) (known_length known segment.number)

-- whether the bytes of a segment are known to be held up to the end of an entry
abbrev pub reaches : Known → EntryEnd → Bool
reaches known end = nat_le end.offset (known_length known end.segment)
