use Rattle.std.proofs.Common.{◌≡◌, true, is_some, take}
use Rattle.std.specs.List.{All}
use Rattle.rk_drive.proofs.driving.all_run.Given as goal

abbrev pub invariant-loop-lane : goal.invariant-loop-lane
invariant-loop-lane g l = All (λ lane. is_some lane.running ≡ true) (take l.lane-index l.lanes)
