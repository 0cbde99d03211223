use Rattle.std.proofs.Common.{◌≡◌}
use Rattle.rk_drive.specs.Workers.{clients_in}
use Rattle.rk_drive.proofs.calling.bring_all_on.Given as goal

abbrev pub invariant-loop-step : goal.invariant-loop-step
invariant-loop-step g l = clients_in l.passes ≡ clients_in l.fn.passes
