use Rattle.rk_cluster.proofs.Words.{◌≡◌, ◌-◌, ◌^◌, map, min, sum, calls_of}
use Rattle.rk_cluster.proofs.looks.calls_asked.Given as goal

-- the calls of the sessions so far
abbrev pub invariant-loop-session : goal.invariant-loop-session
invariant-loop-session l = l.asked ≡ min (sum (map (λ session. calls_of session.now) l.yielded)) (2 ^ 64 - 1)
