use Rattle.std.proofs.Common.{◌≡◌, take}
use Rattle.std.specs.List.{sum_by}
use Rattle.rk_message.specs.Pulling.{entry_count}
use Rattle.rk_message.proofs.pulling.writing.entries_len.Given as goal

-- the entries so far are counted
abbrev pub invariant-entries : goal.invariant-entries
invariant-entries l = l.count ≡ sum_by entry_count (take l.entry-index l.entries)
