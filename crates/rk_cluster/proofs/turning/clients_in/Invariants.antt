use Rattle.rk_cluster.proofs.Words.{◌≡◌, ◌++◌, clients_in}
use Rattle.rk_cluster.proofs.turning.clients_in.Given as goal

-- those so far, and those among the sessions that are left
abbrev pub invariant-loop-client : goal.invariant-loop-client
invariant-loop-client l = l.clients.items ++ clients_in l.lane l.client-iterator ≡ clients_in l.lane l.sessions.entries
