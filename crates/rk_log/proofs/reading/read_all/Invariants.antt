-- The entries of the segments so far are there.
use Rattle.std.proofs.Common.{◌≡◌, ◌++◌, take}
use Rattle.rk_log.specs.Parts.{bytes_in}
use Rattle.rk_log.specs.Stored.{spelled_in}
use Rattle.rk_log.proofs.reading.read_all.Given as goal

abbrev pub invariant-loop-copied : goal.invariant-loop-copied
invariant-loop-copied l = l.found.items ≡ l.fn.found.items ++ spelled_in (bytes_in (take l.copied-index l.segments))
