use Rattle.std.proofs.Common.{◌*◌, take}
use Rattle.rk_entry.specs.declared.kind.TheConstants.{SEGMENT_NUMBER_BYTES}
use Rattle.rk_entry.specs.Numbers.{Gains}
use Rattle.rk_entry.specs.Lists.{segments_bytes}
use Rattle.rk_entry.proofs.lists.put_segments.Given as goal

abbrev pub invariant-segments : goal.invariant-segments
invariant-segments l = Gains l.fn.into l.into (segments_bytes (take l.segment-index l.segments)) (SEGMENT_NUMBER_BYTES * l.segment-index)
