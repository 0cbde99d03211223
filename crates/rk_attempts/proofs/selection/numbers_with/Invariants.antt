use Rattle.std.proofs.Common.{◌≡◌, ◌++◌}
use Rattle.std.specs.VecDeque.Iter.{deque_iter_rest}
use Rattle.rk_attempts.specs.Selecting.{is_selected}
use Rattle.rk_attempts.proofs.Finding.{chosen}
use Rattle.rk_attempts.proofs.selection.numbers_with.Given as goal

-- those so far, before those of the messages that are left
abbrev pub invariant-loop-number : goal.invariant-loop-number
invariant-loop-number l =
    l.found.items ++ chosen (is_selected l.selection) (deque_iter_rest l.number-iterator) ≡ chosen (is_selected l.selection) l.wire.messages
