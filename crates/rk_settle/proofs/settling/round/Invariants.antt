use Rattle.rk_settle.proofs.Words.{◌≡◌, ◌-◌, ◌++◌, flat_map, range_with_len, LANES, lane_tasks}
use Rattle.rk_settle.proofs.settling.round.Given as goal

-- the last lanes, so many, have their tasks, and the end of the round is behind them
abbrev pub invariant-loop-before : goal.invariant-loop-before
invariant-loop-before l = l.tasks ≡ flat_map lane_tasks (range_with_len (LANES - l.before) l.before) ++ l.initial.tasks
