-- The run is played to its end in the cluster that was asked for, and the replicas come back.
use Rattle.rk_play.proofs.Words.{[], ◌*◌, refl, sym, ◌∙◌, Keeps-refl, LANES, cluster_by, setting_of}
use Rattle.rk_play.proofs.Concluding.{ended_cause, ended_comes}
use Rattle.rk_play.proofs.Failing.{ended_fault}
use Rattle.rk_play.proofs.Leaving.{halted_out, played_out}
use Rattle.rk_play.proofs.Reporting.{told_behind}
use Rattle.rk_play.proofs.Rising.{lent_go_on, lent_in_rounds, none_fell_gone, none_fell_same, others_stay}
use Rattle.rk_play.proofs.Telling.{ended_plays, opened, out_wanting, wanting_plays}
use Rattle.rk_play.proofs.playing.play_opened.Goals as goal

-- memory was wanting before anything ran
pub returns-in_default-clause-plays : goal.returns-in_default-clause-plays
returns-in_default-clause-plays g c = rw c.of.ensures (λ _. wanting_plays _ _ _ _ _ _ _ _ refl (Keeps-refl (g.K.Sink.written c.args.sink.now)))

-- then the replicas are as they were
pub returns-in_default-clause-counts : goal.returns-in_default-clause-counts
returns-in_default-clause-counts g c =
    none_fell_same g.R.Replica.faults c.args.replicas.now.items c.lend.new.replicas.items c.in_default.ensures.err

pub returns-in_default-with_replicas-clause-plays : goal.returns-in_default-with_replicas-clause-plays
returns-in_default-with_replicas-clause-plays g c = rw c.of-in_default-with_replicas.ensures (λ _. wanting_plays _ _ _ _ _ _ _ _ refl (Keeps-refl (g.K.Sink.written c.args.sink.now)))

pub returns-in-NoMemory-clause-plays : goal.returns-in-NoMemory-clause-plays
returns-in-NoMemory-clause-plays g c =
    rw c.of-in-NoMemory.ensures
    (λ empty.
    let segments = g.R.Replica.segments in
    let setting = setting_of c.args.opening in
    let old = c.in-Ok-with_replicas.cluster in
    let is =
    opened segments g.R.Replica.faults old c.unwrap_or-masters.result c.unwrap_or-backups.result (LANES * c.unwrap_or-backups.result) setting c.args.replicas.now.items
    c.in-Ok.its.items c.in-Ok.ensures.ok.its_are c.unwrap_or-masters.ensures c.unwrap_or-backups.ensures c.in-Ok-with_replicas.ensures.new empty
    in
    out_wanting segments g.R.Replica.faults old c.run_all-end.new.cluster _ _ (g.K.Sink.written c.args.sink.now) (g.K.Sink.written c.run_all-end.new.sink)
    c.args.replicas.now.items c.lend.new.replicas.items
    (halted_out segments g.R.Replica.faults old c.run_all-end.new.cluster c.args.commands (g.K.Sink.written c.args.sink.now) (cluster_by setting) is
    (g.K.Sink.written c.run_all-end.new.sink) (g.K.Sink.written c.run_all-end.new.sink) c.in-NoMemory.ensures.ends (Keeps-refl (g.K.Sink.written c.run_all-end.new.sink))))

-- if memory was wanting with the cluster there, or before it was, the replicas went with it
pub returns-in_default-with_replicas-clause-counts : goal.returns-in_default-with_replicas-clause-counts
returns-in_default-with_replicas-clause-counts g c =
    none_fell_gone g.R.Replica.faults c.args.replicas.now.items c.lend.new.replicas.items c.in-Ok.ensures.ok.room.room_is.nothing

pub returns-in-NoMemory-clause-counts : goal.returns-in-NoMemory-clause-counts
returns-in-NoMemory-clause-counts g c =
    none_fell_gone g.R.Replica.faults c.args.replicas.now.items c.lend.new.replicas.items c.in-Ok.ensures.ok.room.room_is.nothing

pub give_back-requires : goal.give_back-requires
give_back-requires g c = record {
  backups = c.run_all-end.ensures.backups ∙ c.in-Ok-with_replicas.ensures.backups ∙ sym c.in-Ok.ensures.ok.backups_are;
  room = c.in-Ok.ensures.ok.room;
}

pub returns : goal.returns
returns g c = record {
  plays = λ empty.
      let segments = g.R.Replica.segments in
      let faults = g.R.Replica.faults in
      let setting = setting_of c.args.opening in
      let old = c.in-Ok-with_replicas.cluster in
      let now = c.run_all-end.new.cluster in
      let is =
      opened segments faults old c.unwrap_or-masters.result c.unwrap_or-backups.result (LANES * c.unwrap_or-backups.result) setting c.args.replicas.now.items c.in-Ok.its.items
      c.in-Ok.ensures.ok.its_are c.unwrap_or-masters.ensures c.unwrap_or-backups.ensures c.in-Ok-with_replicas.ensures.new empty
      in
      let out =
      played_out segments faults old now c.args.commands (g.K.Sink.written c.args.sink.now) (cluster_by setting) is (g.K.Sink.written c.run_all-end.new.sink)
      (g.K.Sink.written c.conclude.new.sink) c.run_all-end.new.held.items c.run_all-end.result c.conclude.result.status c.in_default-end.not-NoMemory c.run_all-end.ensures.ends
      c.conclude.ensures.concludes
      in
      ended_plays segments faults old now _ _ c.conclude.result.status (g.K.Sink.written c.args.sink.now) (g.K.Sink.written c.conclude.new.sink) c.unwrap_or-backups.result
      c.in-Ok.room.others.items c.args.replicas.now.items c.give_back.new.replicas.items out c.give_back.ensures
      (c.run_all-end.ensures.backups ∙ c.in-Ok-with_replicas.ensures.backups)
      (others_stay faults old now c.unwrap_or-backups.result c.args.replicas.now c.lend.new.replicas c.in-Ok.its c.give_back.new.replicas c.in-Ok.room
      c.requires.count c.in-Ok.ensures.ok c.give_back.ensures)
      (lent_go_on faults old now c.unwrap_or-backups.result c.args.replicas.now c.lend.new.replicas c.in-Ok.its c.give_back.new.replicas c.in-Ok.room
      c.requires.count c.in-Ok.ensures.ok c.give_back.ensures c.in-Ok-with_replicas.ensures.lanes c.in-Ok-with_replicas.ensures.replicas);
  code =
      told_behind g.R.Replica.segments g.R.Replica.faults c.in-Ok-with_replicas.cluster c.run_all-end.new.cluster c.args.commands (g.K.Sink.written c.args.sink.now)
      (g.K.Sink.written c.run_all-end.new.sink) (g.K.Sink.written c.conclude.new.sink) c.run_all-end.new.held.items c.run_all-end.result c.conclude.result.status
      c.conclude.result.code c.run_all-end.ensures.ends c.conclude.ensures.concludes c.conclude.ensures.code;
  count = λ _. c.give_back.ensures.count;
  counts = λ _.
      lent_go_on g.R.Replica.faults c.in-Ok-with_replicas.cluster c.run_all-end.new.cluster c.unwrap_or-backups.result c.args.replicas.now c.lend.new.replicas c.in-Ok.its
      c.give_back.new.replicas c.in-Ok.room c.requires.count c.in-Ok.ensures.ok c.give_back.ensures c.in-Ok-with_replicas.ensures.lanes c.in-Ok-with_replicas.ensures.replicas
      [] c.run_all-end.ensures.counts;
  status =
      ended_comes c.run_all-end.result c.run_all-end.new.held.items c.conclude.result.status (g.K.Sink.written c.run_all-end.new.sink) (g.K.Sink.written c.conclude.new.sink)
      c.conclude.ensures.concludes;
  cause =
      ended_cause c.run_all-end.result c.run_all-end.new.held.items c.conclude.result.status (g.K.Sink.written c.run_all-end.new.sink) (g.K.Sink.written c.conclude.new.sink)
      (g.K.Sink.faults c.args.sink.now) (g.K.Sink.faults c.run_all-end.new.sink) (g.K.Sink.faults c.conclude.new.sink) c.run_all-end.ensures.cause c.conclude.ensures.cause
      c.conclude.ensures.kept c.conclude.ensures.concludes;
  replica_cause = λ fault.
      lent_in_rounds g.R.Replica.faults c.in-Ok-with_replicas.cluster c.run_all-end.new.cluster c.unwrap_or-backups.result c.args.replicas.now c.lend.new.replicas c.in-Ok.its
      c.give_back.new.replicas c.in-Ok.room c.requires.count c.in-Ok.ensures.ok c.give_back.ensures c.in-Ok-with_replicas.ensures.lanes c.in-Ok-with_replicas.ensures.replicas
      (c.run_all-end.ensures.replica_cause
      (ended_fault c.run_all-end.result c.run_all-end.new.held.items c.conclude.result.status (g.K.Sink.written c.run_all-end.new.sink) (g.K.Sink.written c.conclude.new.sink)
      c.conclude.ensures.concludes fault));
}
