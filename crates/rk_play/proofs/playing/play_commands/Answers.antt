-- A number that is set twice refuses the script before anything runs.
use Rattle.rk_play.proofs.Words.{ℕ, List, [], length, refl, ap, sym, subst, ◌∙◌, Ok, Numbered, PlaysBy, part_in, cluster_by, part_of}
use Rattle.rk_play.proofs.Words.{refused_at, go_on_same, replica_counts, IsOpened, IsRefusedEarly, setting_of}
use Rattle.rk_play.proofs.Concluding.{refused_comes}
use Rattle.rk_play.proofs.Failing.{refused_fault}
use Rattle.rk_play.proofs.Openings.{opened_plays}
use Rattle.rk_play.proofs.Telling.{refused_plays}
use Rattle.rk_play.proofs.playing.play_commands.Goals as goal

pub returns-in-Err-clause-plays : goal.returns-in-Err-clause-plays
returns-in-Err-clause-plays g c = λ empty.
    let early : IsRefusedEarly c.args.commands.items c.in-Err.line =
    subst (λ (commands : List Numbered). IsRefusedEarly commands c.in-Err.line) c.as_slice.ensures.value c.in-Err.ensures.err
    in
    refused_plays g.R.Replica.segments g.R.Replica.faults (part_of (Ok c.args.commands.items)) c.in-Err.line c.number.result early.setting (length c.args.commands.items)
    c.refuse.result.status (g.K.Sink.written c.args.sink.now) (g.K.Sink.written c.refuse.new.sink) c.args.replicas.now.items
    (early.played [] ∙ ap (λ (code : ℕ). refused_at c.in-Err.line code (cluster_by early.setting)) (sym c.number.ensures)) refl
    (c.refuse.ensures.concludes (cluster_by early.setting)) c.requires.count early.may empty

pub returns-in-Err-clause-status : goal.returns-in-Err-clause-status
returns-in-Err-clause-status g c =
    refused_comes c.in-Err.line c.number.result c.refuse.result.status (g.K.Sink.written c.args.sink.now) (g.K.Sink.written c.refuse.new.sink) c.refuse.ensures.concludes

pub returns-in-Err-clause-replica_cause : goal.returns-in-Err-clause-replica_cause
returns-in-Err-clause-replica_cause g c = λ fault.
    absurd
    (refused_fault c.in-Err.line c.number.result c.refuse.result.status (g.K.Sink.written c.args.sink.now) (g.K.Sink.written c.refuse.new.sink) c.refuse.ensures.concludes fault)

pub returns-in-Err-clause-counts : goal.returns-in-Err-clause-counts
returns-in-Err-clause-counts g c = λ _. go_on_same (replica_counts g.R.Replica.faults c.args.replicas.now.items)

-- what the others come to, all do
pub returns-clause-plays : goal.returns-clause-plays
returns-clause-plays g c = λ empty.
    let opened : IsOpened c.args.commands.items c.in-Ok.opening =
    subst (λ (commands : List Numbered). IsOpened commands c.in-Ok.opening) c.as_slice.ensures.value c.in-Ok.ensures.ok
    in
    opened_plays g.R.Replica.segments g.R.Replica.faults c.args.commands.items c.in-Ok.opening opened (g.K.Sink.written c.args.sink.now) (g.K.Sink.written c.play_opened.new.sink)
    c.args.replicas.now.items c.play_opened.new.replicas.items c.play_opened.result.status
    (subst
    (λ (others : List Numbered).
    PlaysBy g.R.Replica.segments g.R.Replica.faults (part_in others (cluster_by (setting_of c.in-Ok.opening))) (length others) c.play_opened.result.status
    (g.K.Sink.written c.args.sink.now) (g.K.Sink.written c.play_opened.new.sink) c.args.replicas.now.items c.play_opened.new.replicas.items)
    c.behind-others.ensures (c.play_opened.ensures.plays empty))
