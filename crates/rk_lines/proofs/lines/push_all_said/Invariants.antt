-- The lines of the answers so far are there.
use Rattle.std.proofs.Common.{◌≡◌, ◌++◌, take}
use Rattle.rk_lines.specs.Lines.{said_lines}
use Rattle.rk_lines.proofs.lines.push_all_said.Given as goal

abbrev pub invariant-loop-answer : goal.invariant-loop-answer
invariant-loop-answer l = l.text.items ≡ l.fn.text.items ++ said_lines (take l.answer-index l.said)
