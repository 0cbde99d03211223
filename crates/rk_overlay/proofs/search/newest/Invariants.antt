use Rattle.rk_overlay.specs.Newest.{IsBestBefore}
use Rattle.rk_overlay.proofs.search.newest.Given as goal

abbrev pub invariant-loop-place : goal.invariant-loop-place
invariant-loop-place l = IsBestBefore l.items l.table l.key l.place l.best
