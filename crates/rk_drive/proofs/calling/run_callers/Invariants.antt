use Rattle.std.proofs.Common.{◌≡◌}
use Rattle.rk_drive.specs.Workers.{clients_in}
use Rattle.rk_drive.proofs.calling.run_callers.Given as goal

abbrev pub invariant-loop : goal.invariant-loop
invariant-loop g l = clients_in l.passes ≡ clients_in l.fn.passes
