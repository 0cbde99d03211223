-- What the sink took so far and the rest are the whole, and each put takes a byte at least.
use Rattle.std.proofs.Common.{◌≡◌, List, ℕ, ◌++◌, length}
use Rattle.std.specs.Io.KnownBytes.{Appends}
use Rattle.rk_outside.proofs.writing.put_all.Given as goal

abbrev pub invariant-puts : goal.invariant-puts
invariant-puts g l = record {
  done : List ℕ;
  parts : l.bytes ≡ done ++ l.rest;
  written : Appends (g.K.Sink.written l.fn.sink) (g.K.Sink.written l.sink) done;
  kept : g.K.Sink.faults l.sink ≡ g.K.Sink.faults l.fn.sink;
}

abbrev pub decreases-puts : goal.decreases-puts
decreases-puts g l = length l.rest
