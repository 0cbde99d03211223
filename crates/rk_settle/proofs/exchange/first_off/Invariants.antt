use Rattle.std.proofs.Common.{◌≡◌, find}
use Rattle.rk_settle.specs.Exchange.{is_number_off, sent_after}
use Rattle.rk_settle.proofs.exchange.first_off.Given as goal

-- none was found so far
abbrev pub invariant-loop-before : goal.invariant-loop-before
invariant-loop-before l =
    find (is_number_off l.wire l.topic) (sent_after l.wire l.before) ≡ find (is_number_off l.wire l.topic) (sent_after l.wire l.last)
