-- How calls ended: what the entries of a log record of it, and the last end of each client.
use Rattle.std.specs.Prelude.{ℕ, if◌then◌else◌, List, [], ◌∷◌, Option, Some, None}
use Rattle.std.specs.List.{flat_map}
use Rattle.rk_types.specs.declared.call.End.{End}
use Rattle.rk_types.specs.declared.call.End.TheVariants as ends
use Rattle.rk_types.specs.declared.call.Ended.{Ended}
use Rattle.rk_types.specs.declared.call.Outcome.{Outcome}
use Rattle.rk_types.specs.declared.call.Outcome.TheVariants as outcomes
use Rattle.rk_types.specs.declared.held.Held.{Held}
use Rattle.rk_entry.specs.declared.entry.Entry.{Entry}
use Rattle.rk_entry.specs.declared.entry.Entry.TheVariants as entries
use Rattle.rk_entry.specs.declared.entry.Refused.{Refused}

-- the outcome that an end gives
abbrev pub outcome_of : End → Outcome
outcome_of (ends.Written version) = outcomes.Written version
outcome_of (ends.Deleted version) = outcomes.Deleted version
outcome_of ends.Absent = outcomes.Absent
outcome_of (ends.Mismatch version) = outcomes.Mismatch version

-- how the call that left an item ended: it wrote a value, or removed the record
abbrev pub end_of_item : ℕ → Option (List ℕ) → End
end_of_item version (Some value) = ends.Written version
end_of_item version None = ends.Deleted version

-- the end of the call that left an item
abbrev pub item_end : Held → Ended
item_end held = record { client = held.client; seq = held.seq; end = end_of_item held.version held.value }

-- a refused removal found nothing, and a refused conditional put another version
abbrev pub end_of_refusal : Refused → End
end_of_refusal refused = if refused.absent then ends.Absent else ends.Mismatch refused.found

-- the end of a refused call
abbrev pub refusal_end : Refused → Ended
refusal_end refused = record { client = refused.client; seq = refused.seq; end = end_of_refusal refused }

-- the ends that an entry records
abbrev pub told_by : Entry → List Ended
told_by (entries.Held held) = item_end held ∷ []
told_by (entries.Refused refused) = refusal_end refused ∷ []
told_by (entries.Carried carried) = carried.ends
told_by (entries.Joined joined) = []

-- the ends that entries record, in their order
abbrev pub told : List Entry → List Ended
told entries = flat_map told_by entries

-- the item that an entry is, if it is one
abbrev pub items_in : Entry → List Held
items_in (entries.Held held) = held ∷ []
items_in (entries.Refused refused) = []
items_in (entries.Carried carried) = []
items_in (entries.Joined joined) = []

-- the items among entries, in their order
abbrev pub items_of : List Entry → List Held
items_of entries = flat_map items_in entries
