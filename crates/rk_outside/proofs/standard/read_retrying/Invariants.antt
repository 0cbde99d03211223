-- A read that was interrupted consumed nothing.
use Rattle.std.specs.Io.KnownBytes.{Keeps}
use Rattle.rk_outside.proofs.standard.read_retrying.Given as goal

abbrev pub invariant-tries : goal.invariant-tries
invariant-tries g l = Keeps (g.R.Read.remaining l.fn.reader) (g.R.Read.remaining l.reader)
