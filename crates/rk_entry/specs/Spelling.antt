-- The one spelling of each entry.
use Rattle.std.specs.Prelude.{ℕ, ◌+◌, ◌%◌, ◌++◌, List, [], length, sum, Bool, if◌then◌else◌, Option, Some, None}
use Rattle.std.specs.Int.{w8, w16, w32, w64}
use Rattle.rk_types.specs.declared.held.Held.{Held}
use Rattle.rk_entry.specs.declared.head.Head.{Head}
use Rattle.rk_entry.specs.declared.head.TheConstants.{MET_ANOTHER, MET_NONE}
use Rattle.rk_entry.specs.declared.entry.Entry.{Entry}
use Rattle.rk_entry.specs.declared.entry.Entry.TheVariants as entries
use Rattle.rk_entry.specs.declared.entry.Refused.{Refused}
use Rattle.rk_entry.specs.declared.entry.Carried.{Carried}
use Rattle.rk_entry.specs.declared.entry.Joined.{Joined}
use Rattle.rk_entry.specs.declared.kind.Kind.{Kind}
use Rattle.rk_entry.specs.declared.kind.TheConstants.{MARK_BYTES}
use Rattle.rk_entry.specs.Numbers.{number_bytes}
use Rattle.rk_entry.specs.Texts.{key_bytes, value_bytes}
use Rattle.rk_entry.specs.Ends.{range_bytes}
use Rattle.rk_entry.specs.Lists.{ends_bytes, segments_bytes}
use Rattle.rk_entry.specs.Kinds.{kind_number, kind_of, is_marked}

-- the table, the version, the client and the seq
unfoldable pub head_bytes : Head → List ℕ
head_bytes head = number_bytes w64 head.table ++ (number_bytes w64 head.version ++ (number_bytes w32 head.client ++ number_bytes w64 head.seq))

-- the head of an item
abbrev pub held_head : Held → Head
held_head held = record { table = held.table; version = held.version; client = held.client; seq = held.seq }

-- the head of a refusal, with the version that was found
abbrev pub refused_head : Refused → Head
refused_head refused = record { table = refused.table; version = refused.found; client = refused.client; seq = refused.seq }

-- the value of an item, if it has one
abbrev pub item_value_bytes : Option (List ℕ) → List ℕ
item_value_bytes None = []
item_value_bytes (Some value) = value_bytes value

-- the number of the reason of a refusal
abbrev pub why_number : Bool → ℕ
why_number absent = if absent then MET_NONE else MET_ANOTHER

-- the fields of an item
unfoldable pub held_bytes : Held → List ℕ
held_bytes held = head_bytes (held_head held) ++ (key_bytes held.key ++ item_value_bytes held.value)

-- the fields of a refusal
unfoldable pub refused_bytes : Refused → List ℕ
refused_bytes refused = head_bytes (refused_head refused) ++ (number_bytes w8 (why_number refused.absent) ++ key_bytes refused.key)

-- the fields of the ends that came with a tablet
unfoldable pub carried_bytes : Carried → List ℕ
carried_bytes carried =
    range_bytes carried.range ++ (number_bytes w64 carried.term ++ (number_bytes w64 carried.floor
    ++ (number_bytes w16 (length carried.ends) ++ ends_bytes carried.ends)))

-- the fields of the side segments that became part of the log
unfoldable pub joined_bytes : Joined → List ℕ
joined_bytes joined =
    range_bytes joined.range ++ (number_bytes w64 joined.term
    ++ (number_bytes w32 (length joined.segments) ++ segments_bytes joined.segments))

-- the fields of an entry, all but its mark
abbrev pub fields_bytes : Entry → List ℕ
fields_bytes (entries.Held held) = held_bytes held
fields_bytes (entries.Refused refused) = refused_bytes refused
fields_bytes (entries.Carried carried) = carried_bytes carried
fields_bytes (entries.Joined joined) = joined_bytes joined

-- how many bytes the mark takes
abbrev pub mark_count : Kind → ℕ
mark_count kind = if is_marked kind then MARK_BYTES else 0

-- the mark after these bytes: their sum, modulo 256
unfoldable pub mark_of : List ℕ → ℕ
mark_of bytes = sum bytes % 256

-- what is at the end of an entry of this kind, after all its other bytes
abbrev pub mark_bytes : Kind → List ℕ → List ℕ
mark_bytes kind front = if is_marked kind then number_bytes w8 (mark_of front) else []

-- how many bytes the body of an entry has: its fields, and its mark
unfoldable pub body_length : Entry → ℕ
body_length entry = length (fields_bytes entry) + mark_count (kind_of entry)

-- an entry but for its mark: the kind, the length of the body, and the fields
unfoldable pub front_bytes : Entry → List ℕ
front_bytes entry = number_bytes w8 (kind_number (kind_of entry)) ++ (number_bytes w32 (body_length entry) ++ fields_bytes entry)

-- the one spelling of an entry
unfoldable pub spelled : Entry → List ℕ
spelled entry = front_bytes entry ++ mark_bytes (kind_of entry) (front_bytes entry)
