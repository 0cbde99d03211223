use Rattle.rk_conclude.proofs.Words.{List, [], refl, sym, subst, ◌∙◌, LaneState, ClusterState, IsOf, state_of, by_client}
use Rattle.rk_cluster.specs.Faults.{LanesGoOn, counts_in}
use Rattle.rk_settle.specs.Course.{MOST_FAULTS}
use Rattle.rk_settle.specs.Faults.{RoseInRounds}
use Rattle.rk_types.specs.declared.status.Status.TheVariants as statuses
use Rattle.rk_conclude.proofs.Causes.{idle_cause}
use Rattle.rk_conclude.proofs.Stopped.{same_state}
use Rattle.rk_conclude.proofs.ending.conclude.Goals as goal

-- memory was wanting before anything was done
pub returns-in_default-clause-concludes : goal.returns-in_default-clause-concludes
returns-in_default-clause-concludes g c = λ start is. record {
  state = state_of c.args.lanes.items (by_client c.args.sessions.items);
  ends = refl;
  back = λ apart. absurd (apart refl);
}

pub from_parts-cluster-requires-clause-sessions : goal.from_parts-cluster-requires-clause-sessions
from_parts-cluster-requires-clause-sessions g c = c.in-Ok.ensures.acts c.args.masters c.requires.sessions

pub give_back-requires : goal.give_back-requires
give_back-requires g c = record {
  backups = c.end-cluster.ensures.backups ∙ c.from_parts-cluster.ensures.backups;
  room = c.requires.room;
}

pub returns-clause-concludes : goal.returns-clause-concludes
returns-clause-concludes g c = λ start is. record {
  state = c.end-cluster.result.cluster;
  ends =
      c.end-cluster.ensures.ends start
      (subst (λ (state : ClusterState g.row.R.Denot). IsOf g.R.Replica.segments state start)
      (sym (same_state c.from_parts-cluster.result (state_of c.args.lanes.items (by_client c.args.sessions.items))
      c.from_parts-cluster.ensures.lanes (c.from_parts-cluster.ensures.sessions ∙ c.in-Ok.ensures.sessions))) is);
  back = λ _. c.give_back.ensures;
}

pub returns-in_default-clause-cause : goal.returns-in_default-clause-cause
returns-in_default-clause-cause g c = idle_cause statuses.NoMemory (g.K.Sink.faults c.args.sink.now) (λ e. cc e)

pub returns-in_default-clause-count : goal.returns-in_default-clause-count
returns-in_default-clause-count g c = λ apart. absurd (apart refl)

pub returns-clause-count : goal.returns-clause-count
returns-clause-count g c = λ _. c.give_back.ensures.count

-- no replica came back yet
pub returns-in_default-clause-counts : goal.returns-in_default-clause-counts
returns-in_default-clause-counts g c = λ there. absurd (there c.requires.room.room_is.nothing)

pub returns-clause-counts : goal.returns-clause-counts
returns-clause-counts g c = λ _. record {
  rested = c.end-cluster.result.cluster.lanes;
  counts =
      subst (λ (lanes : List (LaneState g.row.R.Denot)). LanesGoOn g.R.Replica.faults [] lanes c.end-cluster.result.cluster.lanes) c.from_parts-cluster.ensures.lanes
      c.end-cluster.ensures.counts;
  back = c.give_back.ensures;
}

pub returns-clause-replica_cause : goal.returns-clause-replica_cause
returns-clause-replica_cause g c = λ fault. record {
  rested = c.end-cluster.result.cluster.lanes;
  counts =
      subst (λ (lanes : List (LaneState g.row.R.Denot)). RoseInRounds MOST_FAULTS (counts_in g.R.Replica.faults lanes) (counts_in g.R.Replica.faults c.end-cluster.result.cluster.lanes))
      c.from_parts-cluster.ensures.lanes (c.end-cluster.ensures.replica_cause fault);
  back = c.give_back.ensures;
}
