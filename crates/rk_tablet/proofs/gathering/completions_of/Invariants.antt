use Rattle.std.specs.Prelude.{◌≡◌, ◌≤◌, ◌+◌, [], length, drop}
use Rattle.rk_done.specs.Completions.{completions_from}
use Rattle.rk_tablet.proofs.gathering.completions_of.Given as goal

abbrev pub invariant-loop-end : goal.invariant-loop-end
invariant-loop-end l = record {
  room : length l.ends ≤ l.completions.room + l.end-index;
  rest : completions_from l.completions.completions (drop l.end-index l.ends) ≡ completions_from [] l.ends;
}
