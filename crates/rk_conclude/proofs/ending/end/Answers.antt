use Rattle.rk_conclude.proofs.Words.{[], sym, ap, subst, ◌∙◌, Status, ClusterState, EndsSo}
use Rattle.rk_cluster.specs.Faults.{CountsGoOn}
use Rattle.rk_cluster.specs.Masters.{backups_of}
use Rattle.rk_conclude.proofs.Causes.{idle_cause}
use Rattle.rk_conclude.proofs.Stopped.{ends_at_rest, ends_stopped}
use Rattle.rk_conclude.proofs.ending.end.Goals as goal

pub returns-in-Ok-clause-ends : goal.returns-in-Ok-clause-ends
returns-in-Ok-clause-ends g c = λ start is.
    let was = g.K.Sink.written c.args.sink.now in
    let now = g.K.Sink.written c.close.new.sink in
    subst (λ (state : ClusterState g.row.R.Denot). EndsSo g.R.Replica.segments start c.args.history was now state c.close.result.status) (sym c.close.ensures.same)
    (ends_at_rest g.R.Replica.segments g.R.Replica.faults c.args.cluster c.settle.new.cluster start is c.new-said.result.items c.settle.new.said.items c.in-Ok.ensures.ok
    c.args.history was now c.close.result.status c.close.ensures.writes)

pub returns-in-Ok-clause-backups : goal.returns-in-Ok-clause-backups
returns-in-Ok-clause-backups g c = ap (λ (state : ClusterState g.row.R.Denot). backups_of state) c.close.ensures.same ∙ c.settle.ensures.backups

pub returns-clause-ends : goal.returns-clause-ends
returns-clause-ends g c = λ start is.
    let was = g.K.Sink.written c.args.sink.now in
    subst (λ (status : Status). EndsSo g.R.Replica.segments start c.args.history was was c.settle.new.cluster status) (sym c.stop_status.ensures.status)
    (ends_stopped g.R.Replica.segments g.R.Replica.faults c.args.cluster c.settle.new.cluster start is c.new-said.result.items c.settle.new.said.items c.in-Err.error c.args.history was
    c.in-Err.ensures.err)

pub returns-clause-cause : goal.returns-clause-cause
returns-clause-cause g c = idle_cause c.stop_status.result (g.K.Sink.faults c.args.sink.now) c.stop_status.ensures.other

pub returns-in-Ok-clause-counts : goal.returns-in-Ok-clause-counts
returns-in-Ok-clause-counts g c =
    subst (λ (state : ClusterState g.row.R.Denot). CountsGoOn g.R.Replica.faults [] c.args.cluster state) (sym c.close.ensures.same) c.settle.ensures.counts

pub returns-in-Ok-clause-replica_cause : goal.returns-in-Ok-clause-replica_cause
returns-in-Ok-clause-replica_cause g c = λ fault. absurd (c.close.ensures.other fault)

pub returns-clause-replica_cause : goal.returns-clause-replica_cause
returns-clause-replica_cause g c = λ fault. c.in-Err.ensures.cause (c.stop_status.ensures.replicas fault)
