-- How many bytes the fields of an entry take.
use Rattle.std.specs.Prelude.{ℕ, ◌+◌, ◌*◌, List, length, Option, Some, None}
use Rattle.rk_types.specs.declared.held.Held.{Held}
use Rattle.rk_entry.specs.declared.entry.Entry.{Entry}
use Rattle.rk_entry.specs.declared.entry.Entry.TheVariants as entries
use Rattle.rk_entry.specs.declared.entry.Refused.{Refused}
use Rattle.rk_entry.specs.declared.entry.Carried.{Carried}
use Rattle.rk_entry.specs.declared.entry.Joined.{Joined}
use Rattle.rk_entry.specs.declared.kind.TheConstants.{TOMBSTONE_BYTES, REFUSED_BYTES, CARRIED_BYTES, END_BYTES, JOINED_BYTES, SEGMENT_NUMBER_BYTES}

-- those of the value of an item
abbrev pub value_count : Option (List ℕ) → ℕ
value_count None = 0
value_count (Some value) = 4 + length value

-- those of an item
abbrev pub held_count : Held → ℕ
held_count held = TOMBSTONE_BYTES + length held.key + value_count held.value

-- those of a refusal
abbrev pub refused_count : Refused → ℕ
refused_count refused = REFUSED_BYTES + length refused.key

-- those of the ends that came with a tablet
abbrev pub carried_count : Carried → ℕ
carried_count carried = CARRIED_BYTES + END_BYTES * length carried.ends

-- those of the side segments that became part of the log
abbrev pub joined_count : Joined → ℕ
joined_count joined = JOINED_BYTES + SEGMENT_NUMBER_BYTES * length joined.segments

-- those of an entry, all but its mark
abbrev pub fields_count : Entry → ℕ
fields_count (entries.Held held) = held_count held
fields_count (entries.Refused refused) = refused_count refused
fields_count (entries.Carried carried) = carried_count carried
fields_count (entries.Joined joined) = joined_count joined
