use Rattle.rk_conclude.proofs.Words.{refl, List, ℕ, subst, Appends, AppendsPart}
use Rattle.rk_types.specs.declared.status.Status.TheVariants as statuses
use Rattle.rk_conclude.proofs.Causes.{audited_cause, audited_may, audited_other, failed_cause, idle_cause}
use Rattle.rk_conclude.proofs.Reported.{part_written, whole_written}
use Rattle.rk_conclude.proofs.ending.write.Goals as goal

pub returns-in_default-clause-writes : goal.returns-in_default-clause-writes
returns-in_default-clause-writes g c = λ whole is. refl

pub returns-in-Ok-put_all-clause-writes : goal.returns-in-Ok-put_all-clause-writes
returns-in-Ok-put_all-clause-writes g c = λ whole is.
    let old = g.K.Sink.written c.args.sink.now in
    let new = g.K.Sink.written c.put_all.new.sink in
    let report = c.in-Ok.report in
    whole_written c.args.history old new whole report.text.items report.status (c.in-Ok.ensures.report whole is)
    (subst (λ (bytes : List ℕ). Appends old new bytes) c.as_slice.ensures.value c.in-Ok-put_all.ensures.ok)

pub returns-clause-writes : goal.returns-clause-writes
returns-clause-writes g c = λ whole is.
    let old = g.K.Sink.written c.args.sink.now in
    let new = g.K.Sink.written c.put_all.new.sink in
    let report = c.in-Ok.report in
    part_written c.args.history old new whole report.text.items report.status (c.in-Ok.ensures.report whole is)
    (subst (λ (bytes : List ℕ). AppendsPart old new bytes) c.as_slice.ensures.value c.in-Err.ensures.err)

pub returns-in_default-clause-cause : goal.returns-in_default-clause-cause
returns-in_default-clause-cause g c = idle_cause statuses.NoMemory (g.K.Sink.faults c.args.sink.now) (λ e. cc e)

pub returns-in-Ok-put_all-clause-may : goal.returns-in-Ok-put_all-clause-may
returns-in-Ok-put_all-clause-may g c = audited_may c.in-Ok.report.status c.in-Ok.ensures.audited

pub returns-in-Ok-put_all-clause-cause : goal.returns-in-Ok-put_all-clause-cause
returns-in-Ok-put_all-clause-cause g c =
    audited_cause c.in-Ok.report.status (g.K.Sink.faults c.args.sink.now) (g.K.Sink.faults c.put_all.new.sink) c.in-Ok.ensures.audited c.put_all.ensures.cause.later
    c.in-Ok-put_all.ensures.cause.kept

pub returns-clause-cause : goal.returns-clause-cause
returns-clause-cause g c =
    failed_cause (g.K.Sink.faults c.args.sink.now) (g.K.Sink.faults c.put_all.new.sink) c.put_all.ensures.cause.later c.in-Err.ensures.cause.failed

pub returns-in-Ok-put_all-clause-other : goal.returns-in-Ok-put_all-clause-other
returns-in-Ok-put_all-clause-other g c = audited_other c.in-Ok.report.status c.in-Ok.ensures.audited
