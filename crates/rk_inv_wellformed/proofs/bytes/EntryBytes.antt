-- Each entry that a master leaves of its own fits a segment: an item, a refusal, what a target was granted or a rebuild merged.
use Rattle.std.proofs.Common.{IfSome, ◌≡◌, ◌≤◌, ◌+◌, ℕ, length, None, arith}
use Rattle.rk_inv_wellformed.proofs.Words.{value_fault, Held, SEGMENT_BYTES, spelled_count, kind_of, spelled, Entry, MOST_BASE_CLIENTS}
use Rattle.rk_inv_wellformed.proofs.Words.{MOST_CLIENTS, key_fault, text_within, is_marked, Refused, mark_count}
use Rattle.rk_entry.specs.declared.entry.Carried.{Carried}
use Rattle.rk_entry.specs.declared.kind.Kind.{Kind}
use Rattle.rk_inv_wellformed.proofs.maps.{either_way}

-- an entry that fits a segment
abbrev pub FitsSegment : Entry → Type 0
FitsSegment entry = length (spelled entry) ≤ SEGMENT_BYTES

-- an entry has a byte of its mark at most
pub mark_few : (kind : Kind) → mark_count kind ≤ 1
mark_few kind = either_way (λ (n : ℕ). n ≤ 1) (is_marked kind) (omega arith) (omega arith)

-- an item whose key and value are within their limits
pub held_fits : (held : Held) → key_fault held.key ≡ None → IfSome held.value (λ value. value_fault value ≡ None) → FitsSegment (Entry.Held held)
held_fits held key value = grind (arith, spelled_count, mark_few, kind_of, text_within)

-- a refusal whose key is within its limits
pub refused_fits : (refused : Refused) → key_fault refused.key ≡ None → FitsSegment (Entry.Refused refused)
refused_fits refused key = grind (arith, spelled_count, mark_few, kind_of, text_within)

-- what came with a tablet, if the ends are no more than the clients that a lane may have
pub carried_fits : (carried : Carried) → length carried.ends ≤ MOST_CLIENTS + MOST_BASE_CLIENTS → FitsSegment (Entry.Carried carried)
carried_fits carried few =
    omega (arith, few, spelled_count (Entry.Carried carried), mark_few (kind_of (Entry.Carried carried)))
