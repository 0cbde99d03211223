use Rattle.rk_cluster.specs.Steps.{state_of}
use Rattle.rk_cluster.proofs.Turned.{IsAsking}
use Rattle.rk_cluster.proofs.turning.ask_all.Given as goal

abbrev pub invariant-loop-client : goal.invariant-loop-client
invariant-loop-client g l =
    IsAsking g.R.Replica.segments g.R.Replica.faults (state_of l.initial.lanes.items l.initial.sessions.entries) (state_of l.lanes.items l.sessions.entries) l.masters l.lane l.clients l.client-index
