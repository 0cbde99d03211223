use Rattle.rk_history.specs.First.{IsFirstOf}
use Rattle.rk_history.specs.Journals.{journals_of}
use Rattle.rk_history.proofs.merging.first_of.Given as goal

abbrev pub invariant-loop-lane : goal.invariant-loop-lane
invariant-loop-lane l = IsFirstOf (journals_of l.rest) l.lane l.first
