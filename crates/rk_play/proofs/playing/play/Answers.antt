-- A script that is refused, a line of it or as a whole, is refused before anything runs.
use Rattle.rk_play.proofs.Words.{ℕ, List, [], ap, sym, subst, ◌∙◌, Err, Result, script_of, Numbered, ParseError, MayComeTo, PlaysBy}
use Rattle.rk_play.proofs.Words.{cluster_by, part_of, refused_at, unset, go_on_same, count_of, replica_counts}
use Rattle.std.proofs.lemmas.Option.{IfSome_then}
use Rattle.rk_play.specs.Played.{played_of}
use Rattle.rk_play.proofs.Concluding.{concluded_apart, none_played, refused_comes}
use Rattle.rk_play.proofs.Failing.{refused_fault}
use Rattle.rk_play.proofs.Telling.{refused_plays, script_plays, unread_told, unset_may, wanting_told}
use Rattle.rk_play.proofs.playing.play.Goals as goal

pub returns-in-Ok-clause-plays : goal.returns-in-Ok-clause-plays
returns-in-Ok-clause-plays g c = λ empty.
    IfSome_then (g.S.Source.left c.args.source.now) c.in-Ok.ensures.ok
    (λ script both.
    script_plays g.R.Replica.segments g.R.Replica.faults script c.play_commands.result.status (g.K.Sink.written c.args.sink.now) (g.K.Sink.written c.play_commands.new.sink) _ _
    (subst
    (λ (read : Result (List Numbered) ParseError).
    PlaysBy g.R.Replica.segments g.R.Replica.faults (part_of read) (count_of read) c.play_commands.result.status (g.K.Sink.written c.args.sink.now)
    (g.K.Sink.written c.play_commands.new.sink) c.args.replicas.now.items c.play_commands.new.replicas.items)
    (sym both.0) (c.play_commands.ensures.plays empty)))

pub returns-in-Ok-clause-read : goal.returns-in-Ok-clause-read
returns-in-Ok-clause-read g c = λ _. IfSome_then (g.S.Source.left c.args.source.now) c.in-Ok.ensures.ok (λ script both. both.1)

pub returns-in-Err-Refused-clause-plays : goal.returns-in-Err-Refused-clause-plays
returns-in-Err-Refused-clause-plays g c = λ empty.
    IfSome_then (g.S.Source.left c.args.source.now) (c.in-Err-Refused.ensures.refused c.in-Err-Refused.line c.in-Err-Refused.code (ap Err c.in-Err-Refused.field-0-is))
    (λ script both.
    script_plays g.R.Replica.segments g.R.Replica.faults script c.refuse.result.status (g.K.Sink.written c.args.sink.now) (g.K.Sink.written c.refuse.new.sink) _ _
    (refused_plays g.R.Replica.segments g.R.Replica.faults (part_of (script_of script)) c.in-Err-Refused.line c.number.result unset (count_of (script_of script)) c.refuse.result.status
    (g.K.Sink.written c.args.sink.now) (g.K.Sink.written c.refuse.new.sink) c.args.replicas.now.items
    (ap (λ (read : Result (List Numbered) ParseError). played_of read []) both.0
    ∙ ap (λ (code : ℕ). refused_at c.in-Err-Refused.line code (cluster_by unset)) (sym c.number.ensures))
    (none_played (script_of script)) (c.refuse.ensures.concludes (cluster_by unset)) c.requires unset_may empty))

pub returns-in-Err-Refused-clause-read : goal.returns-in-Err-Refused-clause-read
returns-in-Err-Refused-clause-read g c = λ _.
    IfSome_then (g.S.Source.left c.args.source.now) (c.in-Err-Refused.ensures.refused c.in-Err-Refused.line c.in-Err-Refused.code (ap Err c.in-Err-Refused.field-0-is))
    (λ script both. both.1)

pub returns-in-Err-Refused-clause-usage : goal.returns-in-Err-Refused-clause-usage
returns-in-Err-Refused-clause-usage g c = λ is.
    subst MayComeTo is
    (refused_comes c.in-Err-Refused.line c.number.result c.refuse.result.status (g.K.Sink.written c.args.sink.now) (g.K.Sink.written c.refuse.new.sink) c.refuse.ensures.concludes)

pub returns-in-Err-Refused-clause-audit : goal.returns-in-Err-Refused-clause-audit
returns-in-Err-Refused-clause-audit g c = λ is.
    subst MayComeTo is
    (refused_comes c.in-Err-Refused.line c.number.result c.refuse.result.status (g.K.Sink.written c.args.sink.now) (g.K.Sink.written c.refuse.new.sink) c.refuse.ensures.concludes)

pub returns-in-Err-Refused-clause-all_read : goal.returns-in-Err-Refused-clause-all_read
returns-in-Err-Refused-clause-all_read g c = λ done.
    absurd
    (concluded_apart (refused_at c.in-Err-Refused.line c.number.result (cluster_by unset)) [] c.refuse.result.status (g.K.Sink.written c.args.sink.now) (g.K.Sink.written c.refuse.new.sink)
    (c.refuse.ensures.concludes (cluster_by unset)) (λ same. absurd (cc same)) done)

pub returns-in-Err-Refused-clause-read_cause : goal.returns-in-Err-Refused-clause-read_cause
returns-in-Err-Refused-clause-read_cause g c =
    let comes =
    refused_comes c.in-Err-Refused.line c.number.result c.refuse.result.status (g.K.Sink.written c.args.sink.now) (g.K.Sink.written c.refuse.new.sink) c.refuse.ensures.concludes
    in
    record {
      later = c.in-Err-Refused.ensures.later;
      kept = λ _. c.in-Err-Refused.ensures.kept (λ failed. absurd (cc (sym (ap Err c.in-Err-Refused.field-0-is) ∙ failed)));
      rose = λ is. absurd (subst MayComeTo is comes);
    }

pub returns-in-Err-Refused-clause-replica_cause : goal.returns-in-Err-Refused-clause-replica_cause
returns-in-Err-Refused-clause-replica_cause g c = λ fault.
    absurd
    (refused_fault c.in-Err-Refused.line c.number.result c.refuse.result.status (g.K.Sink.written c.args.sink.now) (g.K.Sink.written c.refuse.new.sink) c.refuse.ensures.concludes fault)

-- memory was wanting
pub returns-in-Err-NoMemory-clause-plays : goal.returns-in-Err-NoMemory-clause-plays
returns-in-Err-NoMemory-clause-plays g c = rw c.of-in-Err-NoMemory.ensures (λ _. wanting_told _ _ (g.S.Source.left c.args.source.now) _ _ _)

-- the source failed
pub returns-in-Err-Failed-clause-plays : goal.returns-in-Err-Failed-clause-plays
returns-in-Err-Failed-clause-plays g c =
    rw c.of.ensures
    (λ _. unread_told g.R.Replica.segments g.R.Replica.faults (g.S.Source.left c.args.source.now) (g.K.Sink.written c.args.sink.now) c.args.replicas.now.items)

pub returns-in-Err-Failed-clause-counts : goal.returns-in-Err-Failed-clause-counts
returns-in-Err-Failed-clause-counts g c = λ _. go_on_same (replica_counts g.R.Replica.faults c.args.replicas.now.items)

pub returns-in-Err-Refused-clause-counts : goal.returns-in-Err-Refused-clause-counts
returns-in-Err-Refused-clause-counts g c = λ _. go_on_same (replica_counts g.R.Replica.faults c.args.replicas.now.items)
