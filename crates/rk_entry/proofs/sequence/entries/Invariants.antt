use Rattle.std.proofs.Common.{◌-◌, length}
use Rattle.rk_entry.proofs.StandLaws.{Reached}
use Rattle.rk_entry.proofs.sequence.entries.Given as goal

abbrev pub invariant-entries : goal.invariant-entries
invariant-entries l = Reached l.bytes l.entries.items l.taken

abbrev pub decreases-entries : goal.decreases-entries
decreases-entries l = length l.bytes - l.taken
