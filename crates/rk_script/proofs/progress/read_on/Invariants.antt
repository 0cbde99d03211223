-- What is read so far, before what is left of the piece, settles what the whole comes to.
use Rattle.std.proofs.Common.{◌+◌, ◌≤◌, ◌++◌, length}
use Rattle.rk_script.specs.Reading.{IsWithinLine, answer_of}
use Rattle.rk_script.proofs.ReadingLemmas.{Remains}
use Rattle.rk_script.proofs.progress.read_on.Given as goal

abbrev pub invariant-lines : goal.invariant-lines
invariant-lines l = record {
  remains : Remains (λ more. answer_of l.fn.progress (l.fn.piece ++ more)) l.next.commands.items l.next.line l.next.last.items l.rest;
  within : IsWithinLine l.next.last.items;
  lines : l.next.line + length l.next.last.items + length l.rest ≤ l.fn.progress.line + length l.fn.progress.last.items + length l.fn.piece;
  commands : length l.next.commands.items + length l.next.last.items + length l.rest ≤ length l.fn.progress.commands.items + length l.fn.progress.last.items + length l.fn.piece;
}

abbrev pub decreases-lines : goal.decreases-lines
decreases-lines l = length l.rest
