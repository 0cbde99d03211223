-- How many calls of a map there are of each client and seq, and the counts that are kept of them.
use Rattle.std.specs.Prelude.{◌≡◌, ℕ, ◌+◌, ◌==◌, ◌&&◌, Bool, if◌then◌else◌, [], ◌∷◌, Option, Some, None, unwrap_or}
use Rattle.std.specs.Option.{option_map}
use Rattle.std.specs.List.{list_any}
use Rattle.std.specs.declared.cmp.Ordering.{Ordering}
use Rattle.std.specs.Ordering.{nat_cmp, ordering_then}
use Rattle.std.specs.BTreeMap.{BTreeMap, get}
use Rattle.rk_types.specs.NumberMap.{NumberMap, IsInOrder}
use Rattle.rk_types.specs.declared.call.Call.{Call}
use Rattle.rk_staged.specs.declared.call_counts.CallCounts.{CallCounts}

-- the order of clients with a seq: by client, and then by seq
abbrev pub name_cmp : ℕ × ℕ → ℕ × ℕ → Ordering
name_cmp a b = ordering_then (nat_cmp a.0 b.0) (nat_cmp a.1 b.1)

-- 1 for one client and seq, and 0 for each other
abbrev pub one_at : ℕ → ℕ → ℕ → ℕ → ℕ
one_at client seq other asked = if client == other && (seq == asked) then 1 else 0

-- 1 for the client and seq that are given, and 0 for each other
abbrev pub weight : Option (ℕ × ℕ) → ℕ → ℕ → ℕ
weight None other asked = 0
weight (Some name) other asked = one_at name.0 name.1 other asked

-- the client and the seq of a call
abbrev pub name_of : Option Call → Option (ℕ × ℕ)
name_of call = option_map (λ it. (it.client, it.seq)) call

-- the count that a tree has for a client and a seq
abbrev pub counted_in : BTreeMap (ℕ × ℕ) ℕ → ℕ → ℕ → ℕ
counted_in counts client seq = unwrap_or (get name_cmp counts (client, seq)) 0

-- the count that is kept for a client and a seq
abbrev pub counted : CallCounts → ℕ → ℕ → ℕ
counted counts client seq = counted_in counts.counts client seq

-- whether a call of a client with a seq is among calls
abbrev pub has_call : NumberMap Call → ℕ → ℕ → Bool
has_call calls client seq = list_any (λ entry. entry.1.client == client && (entry.1.seq == seq)) calls

-- how many calls of a client with a seq there are
abbrev pub many : NumberMap Call → ℕ → ℕ → ℕ
many [] client seq = 0
many (entry ∷ calls) client seq = one_at entry.1.client entry.1.seq client seq + many calls client seq

-- the calls are in order, and the counts are theirs
pub record IsCounted (counts : CallCounts) (calls : NumberMap Call) : Type 0 where
  pub order : IsInOrder calls
  pub counts_are : (client seq : ℕ) → counted counts client seq ≡ many calls client seq
