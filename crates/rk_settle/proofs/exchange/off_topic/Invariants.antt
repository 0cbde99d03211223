use Rattle.rk_settle.proofs.Words.{◌≡◌, ◌++◌, filter, map, is_number_off, sent_after, forgets}
use Rattle.rk_settle.proofs.exchange.off_topic.Given as goal

-- those so far, and those after them
abbrev pub invariant-loop-before : goal.invariant-loop-before
invariant-loop-before l =
    l.off.items ++ map (forgets l.lane) (filter (is_number_off l.wire l.topic) (sent_after l.wire l.before))
    ≡ map (forgets l.lane) (filter (is_number_off l.wire l.topic) (sent_after l.wire l.last))
