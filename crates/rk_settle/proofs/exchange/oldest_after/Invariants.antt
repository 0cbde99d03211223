use Rattle.std.proofs.Common.{◌≡◌}
use Rattle.rk_settle.specs.Exchange.{oldest_after}
use Rattle.rk_settle.proofs.exchange.oldest_after.Given as goal

-- none was found so far
abbrev pub invariant-loop-before : goal.invariant-loop-before
invariant-loop-before l = oldest_after l.wire l.before ≡ oldest_after l.wire l.from
