use Rattle.std.proofs.Common.{◌≡◌, length}
use Rattle.rk_tests.proofs.log.log_of_sixteen.Given as goal

abbrev pub invariant-puts : goal.invariant-puts
invariant-puts g l = length l.log.known ≡ 2
