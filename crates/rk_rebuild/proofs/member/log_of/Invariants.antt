use Rattle.rk_rebuild.proofs.Words.{◌≡◌, drop, log_of}
use Rattle.rk_rebuild.proofs.member.log_of.Given as goal

abbrev pub invariant-loop-log : goal.invariant-loop-log
invariant-loop-log l = log_of l.logs l.master ≡ log_of (drop l.log-index l.logs) l.master
