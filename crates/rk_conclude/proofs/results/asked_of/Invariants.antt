use Rattle.rk_conclude.proofs.Words.{◌≡◌, ◌-◌, ◌^◌, min, take, sum_by}
use Rattle.rk_conclude.proofs.results.asked_of.Given as goal

-- the calls that the lanes so far were asked
abbrev pub invariant-loop-lane : goal.invariant-loop-lane
invariant-loop-lane g l = l.asked ≡ min (sum_by (λ lane. lane.ledger.asked) (take l.lane-index l.lanes)) (2 ^ 64 - 1)
