use Rattle.std.proofs.Common.{◌≡◌, drop}
use Rattle.std.specs.List.{list_any}
use Rattle.rk_world.specs.Master.{touches}
use Rattle.rk_master.proofs.waiting.none_touches.Given as goal

abbrev pub invariant-loop-entry : goal.invariant-loop-entry
invariant-loop-entry l = list_any (touches l.range) l.entries ≡ list_any (touches l.range) (drop l.entry-index l.entries)
