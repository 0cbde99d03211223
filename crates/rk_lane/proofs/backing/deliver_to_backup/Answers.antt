use Rattle.std.specs.Option.{option_to_list}
use Rattle.rk_lane.proofs.Words.{[], ℕ, List, Option, length, refl, sym, subst, IfErr-weaker, IfOk-weaker, Lost, failing, Master}
use Rattle.rk_lane.proofs.Words.{log_bytes_of, CanBeAnswered, IsBackedAt, IsLogOf, IsUnansweredAt, sending, IsCutBack, world_of}
use Rattle.rk_lane.specs.Backing.{IsSparedAt}
use Rattle.rk_lane.proofs.Answered.{spared_by}
use Rattle.rk_lane.proofs.Backed.{IsReached, can_be_answered, cut_unhappened, lost_happened, reached, sent_fits, sent_happened, spared_unhappened}
use Rattle.rk_lane.proofs.backing.deliver_to_backup.Goals as goal

pub answer_at-requires-clause-lawful : goal.answer_at-requires-clause-lawful
answer_at-requires-clause-lawful g c =
    subst (λ (masters : List (Option Master)). CanBeAnswered (length masters) c.args.arrival.now.message.body) (sym c.deref.ensures.value)
    (can_be_answered c.args.parts.now c.args.arrival.now.number c.args.arrival.now.message c.requires.ready.kept c.requires.there)

pub finish_one-requires : goal.finish_one-requires
finish_one-requires g c =
    let old = c.args.parts.now in
    let it : IsReached old c.args.backups.now.items c.args.arrival.now.message c.args.backup = reached old c.args.backups.now.items c.args.arrival.now.number c.args.arrival.now.message c.args.backup c.requires.ready.kept c.requires.there c.requires.to c.requires.count in
    let sent : IsBackedAt g.R.Replica.segments g.R.Replica.faults c.args.backups.now.items c.answer_at.new.backups.items c.args.backup it.it c.args.arrival.now.message (log_bytes_of (world_of old [])) (sending (option_to_list c.in-Ok.send)) =
    c.in-Ok.ensures.ok it.it (log_bytes_of (world_of old [])) it.at
    (subst (λ (masters : List (Option Master)). IsLogOf masters (log_bytes_of (world_of old [])) c.args.arrival.now.message.body) (sym c.deref.ensures.value) it.logs) in
    let fits =
    sent_fits g.R.Replica.segments g.R.Replica.faults old c.args.backups.now.items c.args.arrival.now.number c.args.arrival.now.message c.args.backup it.it sent.now (sending (option_to_list c.in-Ok.send))
    c.requires.ready c.requires.there c.requires.to c.requires.count c.requires.numbered it.at sent.by (option_to_list c.in-Ok.send) refl in
    record { room = fits.room; lawful = fits.lawful }

pub returns-in-Ok-clause-ok : goal.returns-in-Ok-clause-ok
returns-in-Ok-clause-ok g c =
    let old = c.args.parts.now in
    let it : IsReached old c.args.backups.now.items c.args.arrival.now.message c.args.backup = reached old c.args.backups.now.items c.args.arrival.now.number c.args.arrival.now.message c.args.backup c.requires.ready.kept c.requires.there c.requires.to c.requires.count in
    let sent : IsBackedAt g.R.Replica.segments g.R.Replica.faults c.args.backups.now.items c.answer_at.new.backups.items c.args.backup it.it c.args.arrival.now.message (log_bytes_of (world_of old [])) (sending (option_to_list c.in-Ok.send)) =
    c.in-Ok.ensures.ok it.it (log_bytes_of (world_of old [])) it.at
    (subst (λ (masters : List (Option Master)). IsLogOf masters (log_bytes_of (world_of old [])) c.args.arrival.now.message.body) (sym c.deref.ensures.value) it.logs) in
    IfOk-weaker c.finish_one.result _ _
    (λ seen finished.
    sent_happened g.R.Replica.segments g.R.Replica.faults old c.args.backups.now.items c.args.arrival.now.number c.args.arrival.now.message c.args.backup it.it sent.now (sending (option_to_list c.in-Ok.send))
    c.requires.ready c.requires.there c.requires.to c.requires.count c.requires.numbered it.at sent.by (option_to_list c.in-Ok.send) c.finish_one.new.parts c.answer_at.new.backups.items seen sent.backups refl finished)
    c.finish_one.ensures.ok

pub returns-in-Ok-clause-err : goal.returns-in-Ok-clause-err
returns-in-Ok-clause-err g c =
    let old = c.args.parts.now in
    let it : IsReached old c.args.backups.now.items c.args.arrival.now.message c.args.backup = reached old c.args.backups.now.items c.args.arrival.now.number c.args.arrival.now.message c.args.backup c.requires.ready.kept c.requires.there c.requires.to c.requires.count in
    let sent : IsBackedAt g.R.Replica.segments g.R.Replica.faults c.args.backups.now.items c.answer_at.new.backups.items c.args.backup it.it c.args.arrival.now.message (log_bytes_of (world_of old [])) (sending (option_to_list c.in-Ok.send)) =
    c.in-Ok.ensures.ok it.it (log_bytes_of (world_of old [])) it.at
    (subst (λ (masters : List (Option Master)). IsLogOf masters (log_bytes_of (world_of old [])) c.args.arrival.now.message.body) (sym c.deref.ensures.value) it.logs) in
    IfErr-weaker c.finish_one.result _ _
    (λ error cut.
    cut_unhappened g.R.Replica.faults old c.args.backups.now.items c.args.arrival.now.number c.args.backup it.it sent.now it.first c.requires.numbered it.at
    (spared_by g.R.Replica.segments g.R.Replica.faults it.it sent.now c.args.arrival.now.message.from c.args.arrival.now.message.body (log_bytes_of (world_of old [])) (option_to_list c.in-Ok.send) sent.by)
    c.finish_one.new.parts c.answer_at.new.backups.items error sent.backups
    (subst (λ (records : ℕ). IsCutBack old records c.finish_one.new.parts error) c.journal_length-records.ensures cut))
    c.finish_one.ensures.err

pub returns-in-Err-Failed-clause-ok : goal.returns-in-Err-Failed-clause-ok
returns-in-Err-Failed-clause-ok g c =
    let old = c.args.parts.now in
    let it : IsReached old c.args.backups.now.items c.args.arrival.now.message c.args.backup = reached old c.args.backups.now.items c.args.arrival.now.number c.args.arrival.now.message c.args.backup c.requires.ready.kept c.requires.there c.requires.to c.requires.count in
    let failed : IsBackedAt g.R.Replica.segments g.R.Replica.faults c.args.backups.now.items c.answer_at.new.backups.items c.args.backup it.it c.args.arrival.now.message (log_bytes_of (world_of old [])) failing =
    subst (λ (cause : Lost). IsUnansweredAt g.R.Replica.segments g.R.Replica.faults c.args.backups.now.items c.answer_at.new.backups.items c.args.backup it.it c.args.arrival.now.message (log_bytes_of (world_of old [])) cause)
    c.in-Err-Failed.field-0-is
    (c.in-Err-Failed.ensures.err it.it (log_bytes_of (world_of old [])) it.at
    (subst (λ (masters : List (Option Master)). IsLogOf masters (log_bytes_of (world_of old [])) c.args.arrival.now.message.body) (sym c.deref.ensures.value) it.logs)) in
    lost_happened g.R.Replica.segments g.R.Replica.faults old c.args.backups.now.items c.args.arrival.now.number c.args.arrival.now.message c.args.backup it.it failed.now failing
    c.requires.ready c.requires.there c.requires.to c.requires.count c.requires.numbered it.at failed.by c.answer_at.new.backups.items c.lost.result failed.backups refl c.lost.ensures

pub returns-in-Err-NoMemory-clause-err : goal.returns-in-Err-NoMemory-clause-err
returns-in-Err-NoMemory-clause-err g c =
    let old = c.args.parts.now in
    let it : IsReached old c.args.backups.now.items c.args.arrival.now.message c.args.backup = reached old c.args.backups.now.items c.args.arrival.now.number c.args.arrival.now.message c.args.backup c.requires.ready.kept c.requires.there c.requires.to c.requires.count in
    let spared : IsSparedAt g.R.Replica.faults c.args.backups.now.items c.answer_at.new.backups.items c.args.backup it.it =
    subst (λ (cause : Lost). IsUnansweredAt g.R.Replica.segments g.R.Replica.faults c.args.backups.now.items c.answer_at.new.backups.items c.args.backup it.it c.args.arrival.now.message (log_bytes_of (world_of old [])) cause)
    c.in-Err-NoMemory.field-0-is
    (c.in-Err-NoMemory.ensures.err it.it (log_bytes_of (world_of old [])) it.at
    (subst (λ (masters : List (Option Master)). IsLogOf masters (log_bytes_of (world_of old [])) c.args.arrival.now.message.body) (sym c.deref.ensures.value) it.logs)) in
    spared_unhappened g.R.Replica.faults old c.args.backups.now.items c.args.arrival.now.number c.args.backup it.it spared.now it.first c.requires.numbered it.at spared.spared
    c.answer_at.new.backups.items _ spared.backups refl
