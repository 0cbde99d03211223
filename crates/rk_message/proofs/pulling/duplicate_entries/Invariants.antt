use Rattle.std.proofs.Common.{◌≡◌, take}
use Rattle.rk_message.proofs.pulling.duplicate_entries.Given as goal

abbrev pub invariant-loop-entry : goal.invariant-loop-entry
invariant-loop-entry l = l.duplicates ≡ take l.entry-index l.entries
