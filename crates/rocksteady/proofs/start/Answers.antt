-- Without memory nothing is written; else the replicas are new.
use Rattle.std.proofs.Common.{Some, subst, map, string_bytes, ◌∙◌}
use Rattle.std.specs.Prelude.{IfOk}
use Rattle.rk_outside.specs.Replicas.{ReplicaState, segments_of}
use Rattle.rk_drive.specs.Words.{plan_in}
use Rattle.rocksteady.specs.Run.{DrivesOver}
use Rattle.rocksteady.specs.Words.{words_after}
use Rattle.rocksteady.proofs.Starting.{drives_told, halts_driven, halts_told, new_empty, played_told}
use Rattle.rocksteady.proofs.start.Goals as goal

pub returns-in_default-clause-play : goal.returns-in_default-clause-play
returns-in_default-clause-play g c = rw c.of.ensures (λ _. halts_told (g.S.Source.left c.args.source.now) (g.K.Sink.written c.args.sink.now))

pub returns-in_default-replicas-clause-play : goal.returns-in_default-replicas-clause-play
returns-in_default-replicas-clause-play g c = rw c.of-in_default-replicas.ensures (λ _. halts_told (g.S.Source.left c.args.source.now) (g.K.Sink.written c.args.sink.now))

pub returns-clause-play : goal.returns-clause-play
returns-clause-play g c = λ is.
    let words = c.as_slice.ensures.value ∙ c.in-Ok.ensures.words in
    let replicas = c.in-Ok-replicas.replicas.items in
    played_told (λ (replica : ReplicaState). Some (segments_of replica)) (λ (replica : ReplicaState). replica.faults) (g.S.Source.left c.args.source.now) c.run.result.status (g.K.Sink.written c.args.sink.now)
    (g.K.Sink.written c.run.new.sink) replicas c.run.new.replicas.items
    (c.run.ensures.play (rw words is) (new_empty replicas c.in-Ok-replicas.ensures.new))

pub returns-in_default-clause-drives : goal.returns-in_default-clause-drives
returns-in_default-clause-drives g c =
    rw c.of.ensures (halts_driven (λ (replica : ReplicaState). Some (segments_of replica)) (plan_in (map string_bytes (words_after c.args.given))) (g.K.Sink.written c.args.sink.now))

pub returns-in_default-replicas-clause-drives : goal.returns-in_default-replicas-clause-drives
returns-in_default-replicas-clause-drives g c =
    rw c.of-in_default-replicas.ensures
    (halts_driven (λ (replica : ReplicaState). Some (segments_of replica)) (plan_in (map string_bytes (words_after c.args.given))) (g.K.Sink.written c.args.sink.now))

pub returns-clause-drives : goal.returns-clause-drives
returns-clause-drives g c =
    let segments = λ (replica : ReplicaState). Some (segments_of replica) in
    let replicas = c.in-Ok-replicas.replicas.items in
    let old = g.K.Sink.written c.args.sink.now in
    let new = g.K.Sink.written c.run.new.sink in
    subst (λ words. IfOk (plan_in (map string_bytes words)) (λ plan. DrivesOver segments plan c.run.result.status old new))
    (c.as_slice.ensures.value ∙ c.in-Ok.ensures.words)
    (drives_told segments (plan_in (map string_bytes c.as_slice.result.now)) c.run.result.status old new replicas c.run.new.replicas.items
    (new_empty replicas c.in-Ok-replicas.ensures.new) c.run.ensures.drives c.run.ensures.driven)
