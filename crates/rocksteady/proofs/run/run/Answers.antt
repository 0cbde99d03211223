-- If nothing fails, a smooth script is done, or memory was wanting; and so a drive comes to its end.
use Rattle.std.proofs.Common.{◌≡◌, sym, map, string_bytes}
use Rattle.rk_types.specs.declared.status.Status.TheVariants.{WriteFault}
use Rattle.rk_play.specs.Runs.{replica_counts}
use Rattle.rk_scripts.specs.play.Alone.{NoneRose}
use Rattle.rk_drive.specs.declared.plan.Plan.{Plan}
use Rattle.rocksteady.specs.Run.{EndsUnfailed}
use Rattle.rocksteady.proofs.Telling.{complete_told, ends_unfailed, one_map_told}
use Rattle.rocksteady.proofs.Wording.{of_plan}
use Rattle.rocksteady.proofs.run.run.Goals as goal

pub returns-then-are_play-clause-play : goal.returns-then-are_play-clause-play
returns-then-are_play-clause-play g c is empty =
    one_map_told g.R.Replica.segments g.R.Replica.faults (g.K.Sink.written c.args.sink.now) (g.K.Sink.written c.play.new.sink) c.args.replicas.now.items c.play.new.replicas.items
    (g.S.Source.left c.args.source.now) c.play.result.status (c.play.ensures.plays empty)

pub returns-then-are_play-clause-complete : goal.returns-then-are_play-clause-complete
returns-then-are_play-clause-complete g c is empty =
    complete_told g.R.Replica.segments g.R.Replica.faults (g.K.Sink.written c.args.sink.now) (g.K.Sink.written c.play.new.sink) c.args.replicas.now.items c.play.new.replicas.items
    (g.S.Source.left c.args.source.now) c.play.result.status (c.play.ensures.plays empty) c.play.ensures.replica_cause

pub returns-in-Ok-clause-drive_complete : goal.returns-in-Ok-clause-drive_complete
returns-in-Ok-clause-drive_complete g c =
    let before = replica_counts g.R.Replica.faults c.args.replicas.now.items in
    let after = replica_counts g.R.Replica.faults c.drive.new.replicas.items in
    rw c.of.ensures
    (of_plan (map string_bytes c.args.words.now) (λ (plan : Plan). NoneRose before after → (c.drive.result ≡ WriteFault → ⊥) → EndsUnfailed c.drive.result)
    c.in-Ok.plan (sym c.in-Ok.ensures.plan) (λ none sink. ends_unfailed c.drive.result before after c.drive.ensures.may c.drive.ensures.replica_cause none sink))
