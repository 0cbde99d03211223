use Rattle.std.proofs.Common.{◌≡◌, map, take}
use Rattle.rk_settle.specs.Tasks.{asks}
use Rattle.rk_settle.proofs.settling.turns_of_clients.Given as goal

abbrev pub invariant-loop-client : goal.invariant-loop-client
invariant-loop-client l = l.turns.items ≡ map (asks l.lane) (take l.client-index l.clients)
