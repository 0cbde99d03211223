use Rattle.rk_play.proofs.Words.{[], ◌∷◌, ap, counts_same, Command, effect}
use Rattle.rk_cluster.specs.Makes.{turn_makes}
use Rattle.rk_play.proofs.Carried.{carried_out, delivered, ends_in, undelivered}
use Rattle.rk_play.proofs.Failing.{never_cause, told_cause}
use Rattle.rk_play.proofs.commands.run_command.Goals as goal

-- how many masters and backups there are is no longer to be said
pub returns-in-Masters-clause-counts : goal.returns-in-Masters-clause-counts
returns-in-Masters-clause-counts g c = counts_same g.R.Replica.faults c.args.cluster.now

pub returns-in-Table-clause-ok : goal.returns-in-Table-clause-ok
returns-in-Table-clause-ok g c =
    carried_out _ _ _ _ _ c.add_table.ensures.counts _ _ (λ cluster. ap (λ (command : Command). effect cluster command []) c.in-Table.is)
    _ _ _ _ _ c.add_table.ensures.ok c.tell.ensures.ok

pub returns-in-Table-clause-err : goal.returns-in-Table-clause-err
returns-in-Table-clause-err g c =
    ends_in _ _ _ _ _ c.add_table.ensures.counts _ _ (λ cluster. ap (λ (command : Command). effect cluster command []) c.in-Table.is)
    _ _ c.add_table.ensures.err c.tell.ensures.err

pub returns-in-Table-clause-cause : goal.returns-in-Table-clause-cause
returns-in-Table-clause-cause g c = told_cause _ c.add_table.result c.tell.result c.tell.ensures.err

pub returns-in-Client-clause-ok : goal.returns-in-Client-clause-ok
returns-in-Client-clause-ok g c =
    carried_out _ _ _ _ _ c.add_client.ensures.counts _ _ (λ cluster. ap (λ (command : Command). effect cluster command []) c.in-Client.is)
    _ _ _ _ _ c.add_client.ensures.ok c.tell-in-Client.ensures.ok

pub returns-in-Client-clause-err : goal.returns-in-Client-clause-err
returns-in-Client-clause-err g c =
    ends_in _ _ _ _ _ c.add_client.ensures.counts _ _ (λ cluster. ap (λ (command : Command). effect cluster command []) c.in-Client.is)
    _ _ c.add_client.ensures.err c.tell-in-Client.ensures.err

pub returns-in-Client-clause-cause : goal.returns-in-Client-clause-cause
returns-in-Client-clause-cause g c = told_cause _ c.add_client.result c.tell-in-Client.result c.tell-in-Client.ensures.err

pub returns-in-Call-clause-ok : goal.returns-in-Call-clause-ok
returns-in-Call-clause-ok g c =
    carried_out _ _ _ _ _ c.call.ensures.counts _ _ (λ cluster. ap (λ (command : Command). effect cluster command []) c.in-Call.is)
    _ _ _ _ _ c.call.ensures.ok c.tell-in-Call.ensures.ok

pub returns-in-Call-clause-err : goal.returns-in-Call-clause-err
returns-in-Call-clause-err g c =
    ends_in _ _ _ _ _ c.call.ensures.counts _ _ (λ cluster. ap (λ (command : Command). effect cluster command []) c.in-Call.is)
    _ _ c.call.ensures.err c.tell-in-Call.ensures.err

pub returns-in-Call-clause-cause : goal.returns-in-Call-clause-cause
returns-in-Call-clause-cause g c = told_cause _ c.call.result c.tell-in-Call.result c.tell-in-Call.ensures.err

pub returns-in-Repeat-clause-ok : goal.returns-in-Repeat-clause-ok
returns-in-Repeat-clause-ok g c =
    carried_out _ _ _ _ _ c.again.ensures.counts _ _ (λ cluster. ap (λ (command : Command). effect cluster command []) c.in-Repeat.is)
    _ _ _ _ _ c.again.ensures.ok c.tell-in-Repeat.ensures.ok

pub returns-in-Repeat-clause-err : goal.returns-in-Repeat-clause-err
returns-in-Repeat-clause-err g c =
    ends_in _ _ _ _ _ c.again.ensures.counts _ _ (λ cluster. ap (λ (command : Command). effect cluster command []) c.in-Repeat.is)
    _ _ c.again.ensures.err c.tell-in-Repeat.ensures.err

pub returns-in-Repeat-clause-cause : goal.returns-in-Repeat-clause-cause
returns-in-Repeat-clause-cause g c = told_cause _ c.again.result c.tell-in-Repeat.result c.tell-in-Repeat.ensures.err

pub returns-in-Migrate-clause-ok : goal.returns-in-Migrate-clause-ok
returns-in-Migrate-clause-ok g c =
    carried_out _ _ _ _ _ c.migrate.ensures.counts _ _ (λ cluster. ap (λ (command : Command). effect cluster command []) c.in-Migrate.is)
    _ _ _ _ _ c.migrate.ensures.ok c.tell-in-Migrate.ensures.ok

pub returns-in-Migrate-clause-err : goal.returns-in-Migrate-clause-err
returns-in-Migrate-clause-err g c =
    ends_in _ _ _ _ _ c.migrate.ensures.counts _ _ (λ cluster. ap (λ (command : Command). effect cluster command []) c.in-Migrate.is)
    _ _ c.migrate.ensures.err c.tell-in-Migrate.ensures.err

pub returns-in-Migrate-clause-cause : goal.returns-in-Migrate-clause-cause
returns-in-Migrate-clause-cause g c = told_cause _ c.migrate.result c.tell-in-Migrate.result c.tell-in-Migrate.ensures.err

pub returns-in-Split-clause-ok : goal.returns-in-Split-clause-ok
returns-in-Split-clause-ok g c =
    carried_out _ _ _ _ _ c.split.ensures.counts _ _ (λ cluster. ap (λ (command : Command). effect cluster command []) c.in-Split.is)
    _ _ _ _ _ c.split.ensures.ok c.tell-in-Split.ensures.ok

pub returns-in-Split-clause-err : goal.returns-in-Split-clause-err
returns-in-Split-clause-err g c =
    ends_in _ _ _ _ _ c.split.ensures.counts _ _ (λ cluster. ap (λ (command : Command). effect cluster command []) c.in-Split.is)
    _ _ c.split.ensures.err c.tell-in-Split.ensures.err

pub returns-in-Split-clause-cause : goal.returns-in-Split-clause-cause
returns-in-Split-clause-cause g c = told_cause _ c.split.result c.tell-in-Split.result c.tell-in-Split.ensures.err

pub returns-in-Turn-clause-ok : goal.returns-in-Turn-clause-ok
returns-in-Turn-clause-ok g c =
    carried_out _ _ _ _ _ c.turn.ensures.counts _ _ (λ cluster. ap (λ (command : Command). effect cluster command []) c.in-Turn.is)
    _ _ _ _ _ c.turn.ensures.ok c.tell-in-Turn.ensures.ok

pub returns-in-Turn-clause-err : goal.returns-in-Turn-clause-err
returns-in-Turn-clause-err g c =
    ends_in _ _ _ _ _ c.turn.ensures.counts _ (λ cluster. turn_makes cluster c.in-Turn.lane) (λ cluster. ap (λ (command : Command). effect cluster command []) c.in-Turn.is)
    _ _ c.turn.ensures.err c.tell-in-Turn.ensures.err

pub returns-in-Turn-clause-cause : goal.returns-in-Turn-clause-cause
returns-in-Turn-clause-cause g c = told_cause _ c.turn.result c.tell-in-Turn.result c.tell-in-Turn.ensures.err

pub returns-in-Deliver-clause-ok : goal.returns-in-Deliver-clause-ok
returns-in-Deliver-clause-ok g c =
    delivered _ _ _ _ _ _ _ (λ fate cluster. ap (λ (command : Command). effect cluster command (fate ∷ [])) c.in-Deliver.is)
    _ _ _ _ _ c.deliver.ensures.ok c.tell-in-Deliver.ensures.ok

pub returns-in-Deliver-clause-err : goal.returns-in-Deliver-clause-err
returns-in-Deliver-clause-err g c =
    undelivered _ _ _ _ _ _ _ (λ fate cluster. ap (λ (command : Command). effect cluster command (fate ∷ [])) c.in-Deliver.is)
    _ _ c.deliver.ensures.err c.tell-in-Deliver.ensures.err

pub returns-in-Deliver-clause-cause : goal.returns-in-Deliver-clause-cause
returns-in-Deliver-clause-cause g c = told_cause _ c.deliver.result c.tell-in-Deliver.result c.tell-in-Deliver.ensures.err

pub returns-in-Forget-clause-ok : goal.returns-in-Forget-clause-ok
returns-in-Forget-clause-ok g c =
    carried_out _ _ _ _ _ c.forget.ensures.counts _ _ (λ cluster. ap (λ (command : Command). effect cluster command []) c.in-Forget.is)
    _ _ _ _ _ c.forget.ensures.ok c.tell-in-Forget.ensures.ok

pub returns-in-Forget-clause-err : goal.returns-in-Forget-clause-err
returns-in-Forget-clause-err g c =
    ends_in _ _ _ _ _ c.forget.ensures.counts _ _ (λ cluster. ap (λ (command : Command). effect cluster command []) c.in-Forget.is)
    _ _ c.forget.ensures.err c.tell-in-Forget.ensures.err

pub returns-in-Forget-clause-cause : goal.returns-in-Forget-clause-cause
returns-in-Forget-clause-cause g c = told_cause _ c.forget.result c.tell-in-Forget.result c.tell-in-Forget.ensures.err

pub returns-in-Crash-clause-ok : goal.returns-in-Crash-clause-ok
returns-in-Crash-clause-ok g c =
    carried_out _ _ _ _ _ c.crash.ensures.counts _ _ (λ cluster. ap (λ (command : Command). effect cluster command []) c.in-Crash.is)
    _ _ _ _ _ c.crash.ensures.ok c.tell-in-Crash.ensures.ok

pub returns-in-Crash-clause-err : goal.returns-in-Crash-clause-err
returns-in-Crash-clause-err g c =
    ends_in _ _ _ _ _ c.crash.ensures.counts _ _ (λ cluster. ap (λ (command : Command). effect cluster command []) c.in-Crash.is)
    _ _ c.crash.ensures.err c.tell-in-Crash.ensures.err

pub returns-in-Crash-clause-cause : goal.returns-in-Crash-clause-cause
returns-in-Crash-clause-cause g c = told_cause _ c.crash.result c.tell-in-Crash.result c.tell-in-Crash.ensures.err

pub returns-in-Notice-clause-ok : goal.returns-in-Notice-clause-ok
returns-in-Notice-clause-ok g c =
    carried_out _ _ _ _ _ c.notice.ensures.counts _ _ (λ cluster. ap (λ (command : Command). effect cluster command []) c.in-Notice.is)
    _ _ _ _ _ c.notice.ensures.ok c.tell-in-Notice.ensures.ok

pub returns-in-Notice-clause-err : goal.returns-in-Notice-clause-err
returns-in-Notice-clause-err g c =
    ends_in _ _ _ _ _ c.notice.ensures.counts _ _ (λ cluster. ap (λ (command : Command). effect cluster command []) c.in-Notice.is)
    _ _ c.notice.ensures.err c.tell-in-Notice.ensures.err

pub returns-in-Notice-clause-cause : goal.returns-in-Notice-clause-cause
returns-in-Notice-clause-cause g c = told_cause _ c.notice.result c.tell-in-Notice.result c.tell-in-Notice.ensures.err

pub returns-in-Where-clause-counts : goal.returns-in-Where-clause-counts
returns-in-Where-clause-counts g c = counts_same g.R.Replica.faults c.args.cluster.now

pub returns-in-Where-clause-cause : goal.returns-in-Where-clause-cause
returns-in-Where-clause-cause g c = never_cause _ c.show_tablet.result c.show_tablet.ensures.cause

pub returns-in-Dump-clause-counts : goal.returns-in-Dump-clause-counts
returns-in-Dump-clause-counts g c = counts_same g.R.Replica.faults c.args.cluster.now

pub returns-in-Dump-clause-cause : goal.returns-in-Dump-clause-cause
returns-in-Dump-clause-cause g c = never_cause _ c.show_records.result c.show_records.ensures.cause

pub returns-in-History-clause-counts : goal.returns-in-History-clause-counts
returns-in-History-clause-counts g c = counts_same g.R.Replica.faults c.args.cluster.now

pub returns-in-History-clause-cause : goal.returns-in-History-clause-cause
returns-in-History-clause-cause g c = never_cause _ c.show_history.result c.show_history.ensures.cause
