use Rattle.rk_settle.proofs.Words.{◌≡◌, take, turns_of}
use Rattle.rk_settle.proofs.settling.turns_of.Given as goal

abbrev pub invariant-loop-master : goal.invariant-loop-master
invariant-loop-master l = l.turns.items ≡ turns_of l.lane l.clients (take l.master-index l.masters)
