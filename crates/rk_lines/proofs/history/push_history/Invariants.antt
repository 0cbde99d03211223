-- The lines of the records so far are there.
use Rattle.std.proofs.Common.{◌≡◌, ◌++◌, take}
use Rattle.rk_lines.specs.History.{history_lines}
use Rattle.rk_lines.proofs.history.push_history.Given as goal

abbrev pub invariant-loop-line : goal.invariant-loop-line
invariant-loop-line l = l.text.items ≡ l.fn.text.items ++ history_lines (take l.line-index l.history)
