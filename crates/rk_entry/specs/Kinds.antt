-- The kinds of entries: which one spells an entry, the byte that it begins with, and how long its body may be.
use Rattle.std.specs.Prelude.{ℕ, ◌+◌, ◌-◌, ◌*◌, ◌%◌, List, length, Bool, true, false, ◌&&◌, ◌==◌, nat_lt, if◌then◌else◌, Option, Some, None}
use Rattle.std.specs.Int.{is_in_range}
use Rattle.rk_types.specs.declared.held.TheConstants.{LONGEST_SHORT_VALUE}
use Rattle.rk_types.specs.declared.text.TheConstants.{LONGEST_KEY, LONGEST_VALUE}
use Rattle.rk_entry.specs.declared.entry.Entry.{Entry}
use Rattle.rk_entry.specs.declared.entry.Entry.TheVariants as entries
use Rattle.rk_entry.specs.declared.kind.Kind.{Kind}
use Rattle.rk_entry.specs.declared.kind.Kind.TheVariants.{Object, Tombstone, Refused, Carried, Joined, LongObject}
use Rattle.rk_entry.specs.declared.kind.TheConstants.{TOMBSTONE_BYTES, OBJECT_BYTES, MARK_BYTES, REFUSED_BYTES, CARRIED_BYTES, END_BYTES, MOST_ENDS, JOINED_BYTES, SEGMENT_NUMBER_BYTES, LONGEST_BODY}

-- the first byte of an entry of this kind
abbrev pub kind_number : Kind → ℕ
kind_number Object = 1
kind_number Tombstone = 2
kind_number Refused = 3
kind_number Carried = 4
kind_number Joined = 5
kind_number LongObject = 17

-- the kind with this number
abbrev pub kind_numbered : ℕ → Option Kind
kind_numbered number =
    if number == 1 then Some Object
    else if number == 2 then Some Tombstone
    else if number == 3 then Some Refused
    else if number == 4 then Some Carried
    else if number == 5 then Some Joined
    else if number == 17 then Some LongObject
    else None

-- the kind of an item with this value
abbrev pub item_kind : Option (List ℕ) → Kind
item_kind None = Tombstone
item_kind (Some value) = if nat_lt LONGEST_SHORT_VALUE (length value) then LongObject else Object

-- the kind that spells an entry
abbrev pub kind_of : Entry → Kind
kind_of (entries.Held held) = item_kind held.value
kind_of (entries.Refused refused) = Refused
kind_of (entries.Carried carried) = Carried
kind_of (entries.Joined joined) = Joined

-- whether entries of this kind end with a mark
abbrev pub is_marked : Kind → Bool
is_marked Object = false
is_marked Tombstone = false
is_marked Refused = false
is_marked Carried = false
is_marked Joined = false
is_marked LongObject = true

-- whether so many bytes, at most `most`, are `first` bytes and some members of `each` bytes
abbrev pub is_list_length : ℕ → ℕ → ℕ → ℕ → Bool
is_list_length first each most n = is_in_range first most n && ((n - first) % each == 0)

-- whether some lawful entry of this kind has a body of this many bytes
abbrev pub is_body_length : Kind → ℕ → Bool
is_body_length Object n = is_in_range (OBJECT_BYTES + 1) (OBJECT_BYTES + LONGEST_KEY + LONGEST_SHORT_VALUE) n
is_body_length Tombstone n = is_in_range (TOMBSTONE_BYTES + 1) (TOMBSTONE_BYTES + LONGEST_KEY) n
is_body_length Refused n = is_in_range (REFUSED_BYTES + 1) (REFUSED_BYTES + LONGEST_KEY) n
is_body_length Carried n = is_list_length CARRIED_BYTES END_BYTES (CARRIED_BYTES + END_BYTES * MOST_ENDS) n
is_body_length Joined n = is_list_length JOINED_BYTES SEGMENT_NUMBER_BYTES LONGEST_BODY n
is_body_length LongObject n = is_in_range (OBJECT_BYTES + 1 + (LONGEST_SHORT_VALUE + 1) + MARK_BYTES) (OBJECT_BYTES + LONGEST_KEY + LONGEST_VALUE + MARK_BYTES) n
