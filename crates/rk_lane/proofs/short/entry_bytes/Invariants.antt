use Rattle.rk_lane.proofs.Words.{◌≡◌, ◌-◌, ◌^◌, min, take, length, sum_by}
use Rattle.rk_entry.specs.Spelling.{spelled}
use Rattle.rk_lane.proofs.short.entry_bytes.Given as goal

abbrev pub invariant-loop-entry : goal.invariant-loop-entry
invariant-loop-entry l =
    l.bytes ≡ min (sum_by (λ entry. length (spelled entry)) (take l.entry-index l.entries)) (2 ^ 64 - 1)
