use Rattle.std.proofs.Common.{◌≡◌, take}
use Rattle.rk_lane.proofs.copies.copy_records.Given as goal

abbrev pub invariant-loop-record : goal.invariant-loop-record
invariant-loop-record l = l.copied.items ≡ take l.record-index l.records
