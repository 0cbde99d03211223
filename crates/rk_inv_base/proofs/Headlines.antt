-- The headline laws of sound lanes. A new lane is sound, and each small change keeps a sound lane sound wherever the condition of the
-- change holds (`Changes` and `Moves` of `rk_sound`). The file of a change shows that of views; here it is said of lanes.
use Rattle.rk_inv_base.proofs.Words.{Bool, Contains, IfSome, List, None, Option, Some, [], ap, length, refl, slice_get, subst, sym, true, ℕ}
use Rattle.rk_inv_base.proofs.Words.{◌+◌, ◌<◌, ◌∙◌, ◌≡◌, ◌≤◌, each_insert, remove_less, get, insert, remove, meets, Call, Outcome, Held}
use Rattle.rk_inv_base.proofs.Words.{Token, Member, Range, is_serving, Handover, placed, Opening, Row, got, batched, wanting, ends}
use Rattle.rk_inv_base.proofs.Words.{IsBackup, Message, CopySegment, new_row, no_gather, is_absent, tablet_added, World, backup_at, lives}
use Rattle.rk_inv_base.proofs.Words.{log_in, new_world, tablet_in, written_in, LastCall, IsRequest, MayAccept, MaySend, refused_as, MayAsk}
use Rattle.rk_inv_base.proofs.Words.{MayCome, MayRead, MayRefuse, MaySave, MayStage, MayStore, MayTell, stored_of, MayRelease, MayAdd}
use Rattle.rk_inv_base.proofs.Words.{MayClose, MayFreeze, MayGather, MayJoin, MayMigrate, MayNote, MayNotice, MayOwn, MayPass, MayReplay}
use Rattle.rk_inv_base.proofs.Words.{MayResolve, segment_gathered_in, as_closing, asking_batch, batch_asked_in, bytes_stored_in}
use Rattle.rk_inv_base.proofs.Words.{call_asked_in, client_come, closed_off, closing_appended_in, crash_noticed_in, hash_wanted_in}
use Rattle.rk_inv_base.proofs.Words.{hashes_resolved_in, item_replayed_in, length_told_in, message_forgotten, message_sent}
use Rattle.rk_inv_base.proofs.Words.{migration_begun_in, passing, place_noted_in, reading, record_accepted_in, recorded_in}
use Rattle.rk_inv_base.proofs.Words.{refusal_staged_in, request_saved, resolving, tablet_closed_in, tablet_frozen_in, tablet_owned_in}
use Rattle.rk_inv_base.proofs.Words.{tablet_released_in, token_passed_in, wanting_hash, write_staged_in, View, view, IsSound, SoundThings, SoundView}
use Rattle.rk_inv_base.proofs.Base.{view_role_taken, view_gathered, view_pulled, view_taken}
use Rattle.rk_inv_base.proofs.calls.Accepted.{view_accepted}
use Rattle.rk_inv_base.proofs.calls.CallAsked.{view_asked, view_is}
use Rattle.rk_inv_base.proofs.calls.Come.{view_come}
use Rattle.rk_inv_base.proofs.calls.ReadRecorded.{view_recorded}
use Rattle.rk_inv_base.proofs.calls.RefusalStaged.{refused_is, view_refused}
use Rattle.rk_inv_base.proofs.calls.WriteStaged.{staged_is, view_staged}
use Rattle.rk_inv_base.proofs.logs.BytesStored.{sound_taken}
use Rattle.rk_inv_base.proofs.logs.ClosingAppended.{closed_off_is, view_closed_off}
use Rattle.rk_inv_base.proofs.logs.Holding.{applied_stored}
use Rattle.rk_inv_base.proofs.logs.LengthTold.{told_is, view_length_told}
use Rattle.rk_inv_base.proofs.pulls.HashesResolved.{goes_on}
use Rattle.rk_inv_base.proofs.pulls.PullingChanges.{batch_resolves, none_arrives, of_one_row, passes_on, view_goes_on, wanting_resolves}
use Rattle.rk_inv_base.proofs.pulls.Replayed.{view_item, view_replayed}
use Rattle.rk_inv_base.proofs.rebuilds.GatheringChanges.{view_gathers_on}
use Rattle.rk_inv_base.proofs.rebuilds.SegmentGathered.{may_go_on}
use Rattle.rk_inv_base.proofs.roles.Closed.{takes_role}
use Rattle.rk_inv_base.proofs.roles.Frozen.{frozen_of_row}
use Rattle.rk_inv_base.proofs.roles.Owned.{view_owned, view_serves}
use Rattle.rk_inv_base.proofs.roles.Released.{view_given_up, view_released}
use Rattle.rk_inv_base.proofs.rows.CrashNoticed.{view_noticed}
use Rattle.rk_inv_base.proofs.rows.MigrationBegun.{may_begin}
use Rattle.rk_inv_base.proofs.rows.PlaceNoted.{may_be_noted}
use Rattle.rk_inv_base.proofs.rows.RowAdded.{view_added, view_served}
use Rattle.rk_inv_base.proofs.rows.RowTurned.{view_changed}
use Rattle.rk_inv_base.proofs.rows.Serving.{of_its_row, serves_for}
use Rattle.rk_inv_base.proofs.views.ByThings.{parts_of_things, things_of_parts}
use Rattle.rk_inv_base.proofs.views.Empty.{empty_is_sound}
use Rattle.rk_inv_base.proofs.wire.Wire.{each_may_be_sent, view_with_messages, view_with_wire}

-- ---- lanes

-- A lane where nothing has happened is sound, with any number of masters and one backup or more.
pub new_lanes_are_sound : (lane masters backups : ℕ) → 1 ≤ backups → IsSound (new_world lane masters backups)
new_lanes_are_sound = empty_is_sound

-- The invariant by its parts is the invariant by the things that it speaks of.
pub parts_and_things : (v : View) → (SoundView v → SoundThings v) × (SoundThings v → SoundView v)
parts_and_things v = (things_of_parts v, parts_of_things v)

-- In a sound lane at most one living master answers calls for a range of a row, and for one tablet.
pub one_master_answers : (w : World) (row : Row) (a b i j : ℕ)
    → IsSound w → Contains w.coordinator.rows row → lives w a ≡ true → lives w b ≡ true
    → is_serving (tablet_in w a i).handover.role ≡ true → is_serving (tablet_in w b j).handover.role ≡ true
    → meets (tablet_in w a i).handover.range row.range ≡ true → meets (tablet_in w b j).handover.range row.range ≡ true
    → (a ≡ b) × (i ≡ j)
one_master_answers w row a b i j sound stands live_a live_b serves_a serves_b met_a met_b =
    let one = serves_for (view w) row a i sound.rows sound.roles stands live_a serves_a met_a in
    let other = serves_for (view w) row b j sound.rows sound.roles stands live_b serves_b met_b in
    (one.1 ∙ sym other.1, one.0 ∙ sym other.0)

-- In a sound lane every backup stores each entry that its master has applied, up to the end of the entry.
pub what_is_applied_is_stored : (w : World) (master backup place : ℕ)
    → IsSound w → IsBackup (log_in w master) backup → place < (written_in w master).applied
    → IfSome (slice_get (ends (written_in w master).entries) place)
    (λ end. end.offset ≤ length (stored_of (backup_at w) master backup end.segment))
what_is_applied_is_stored w master backup place sound = applied_stored _ _ _ backup place (sound.logs.each master)

-- ---- messages, clients and their calls

-- A sound lane stays sound when a message is sent that says what the parts ask of it.
pub sound_sent : (w : World) (message : Message) → IsSound w → MaySend (view w) message → IsSound (message_sent w message)
sound_sent w message sound may =
    let v : View = view w in
    view_with_wire v (insert v.wire (w.wire.sent + 1) message) sound
    (each_insert (λ number message. MaySend v message) v.wire (w.wire.sent + 1) message (each_may_be_sent v sound) may)

-- A message may always be forgotten.
pub sound_forgotten : (w : World) (number : ℕ) → IsSound w → IsSound (message_forgotten w number)
sound_forgotten w number sound =
    let v : View = view w in
    view_with_wire v (remove v.wire number) sound (λ n m there. each_may_be_sent v sound n m (remove_less v.wire number n m there))

-- A client may come that has asked nothing.
pub sound_come : (w : World) (client : ℕ) → IsSound w → MayCome (view w) client → IsSound (client_come w client)
sound_come w client sound may = subst SoundView (sym (view_come w client may.new)) sound

-- A client may ask a call when its last one, if any, is older and accepted.
pub sound_asked : (w : World) (client : ℕ) (last : LastCall)
    → IsSound w → MayAsk (view w) client last → IsSound (call_asked_in w client last)
sound_asked w client last sound may = subst SoundView (sym (view_is w client last)) (view_asked (view w) client last sound may)

-- A request may be saved that its client may send again.
pub sound_saved : (w : World) (client : ℕ) (message : Message)
    → IsSound w → MaySave (view w) client message → IsSound (request_saved w client message)
sound_saved w client message sound may =
    let v : View = view w in
    view_with_messages v v.wire (insert v.requests client message) sound (each_may_be_sent v sound)
    (each_insert (λ c m. IsRequest v.asked v.journal c m.from m.body) v.requests client message sound.asked.again may.request)

-- The record of a client's last call may be accepted if no record of it was.
pub sound_accepted : (w : World) (place : ℕ) → IsSound w → MayAccept (view w) place → IsSound (record_accepted_in w place)
sound_accepted w place sound may = view_accepted (view w) place sound may

-- A read may get its record, which gives what the journal leaves.
pub sound_recorded : (w : World) (master : ℕ) (call : Call) (seen : ℕ) (outcome : Outcome)
    → IsSound w → MayRead (view w) master call seen outcome → IsSound (recorded_in w call outcome seen)
sound_recorded w master call seen outcome sound may = view_recorded (view w) master call seen outcome sound may

-- A write may be staged that its master may serve and that goes on lawfully, for the tablet that it is served in.
pub sound_staged : (w : World) (master : ℕ) (call : Call) (value : Option (List ℕ))
    → IsSound w → (may : MayStage (view w) master call value)
    → IsSound (write_staged_in w master may.served.row.tablet call value)
sound_staged w master call value sound may =
    subst SoundView (sym (staged_is w master may.served.row.tablet call value)) (view_staged (view w) master call value sound may)

-- So may a refusal.
pub sound_refused : (w : World) (master : ℕ) (call : Call) (found : ℕ) (absent : Bool)
    → IsSound w → MayRefuse (view w) master call (refused_as found absent)
    → IsSound (refusal_staged_in w master call found absent)
sound_refused w master call found absent sound may =
    subst SoundView (sym (refused_is w master may.served.row.tablet call found absent))
    (view_refused (view w) master call found absent sound may)

-- ---- logs

-- A backup may store more of a master's log.
pub sound_stored : (w : World) (master backup segment : ℕ) (bytes : List ℕ)
    → IsSound w → MayStore (view w) master backup segment bytes
    → IsSound (bytes_stored_in w master backup segment bytes)
sound_stored w master backup segment bytes sound may =
    sound_taken w master backup segment bytes sound may (get w.backups backup) refl

-- A backup may report to a master that it stores so many bytes of a segment of the master's log.
pub sound_told : (w : World) (master backup segment size : ℕ)
    → IsSound w → MayTell (view w) master backup segment size → IsSound (length_told_in w master backup segment size)
sound_told w master backup segment size sound may =
    subst SoundView (sym (told_is w master backup segment size)) (view_length_told (view w) master backup segment size sound may)

-- A target whose side segments are stored may append the entry that closes its joining.
pub sound_closing : (w : World) (master tablet : ℕ)
    → IsSound w → MayJoin (view w) master tablet → IsSound (closing_appended_in w master tablet)
sound_closing w master tablet sound may =
    subst SoundView (sym (closed_off_is w master tablet))
    (of_its_row (view w) (λ n. MayJoin (view w) master n → SoundView (closed_off (view w) master n)) sound.roles master tablet may.lives
    (ap is_absent may.joining) (λ row has. view_closed_off (view w) row master sound has) may)

-- ---- roles

-- A source may close a tablet at a greater term, as its row asks it to, or when it is to rebuild the tablet that was its alone.
pub sound_closed : (w : World) (row : Row) (master term : ℕ)
    → IsSound w → MayClose (view w) row master term → IsSound (tablet_closed_in w master row.tablet term)
sound_closed w row master term sound may =
    let new : Handover = as_closing term ((view w).handovers master row.tablet) in
    subst SoundView (sym (view_taken w master row.tablet new no_gather []))
    (view_role_taken (view w) row master new no_gather [] sound (takes_role (view w) row master term sound may))

-- A tablet that closes may freeze, of which nothing is left to be applied.
pub sound_frozen : (w : World) (master tablet : ℕ)
    → IsSound w → MayFreeze (view w) master tablet → IsSound (tablet_frozen_in w master tablet)
sound_frozen w master tablet sound may =
    of_its_row (view w) (λ n. MayFreeze (view w) master n → IsSound (tablet_frozen_in w master n)) sound.roles master tablet may.lives
    (ap is_absent may.closing) (λ row has. frozen_of_row w row master sound has) may

-- A master that is not of the lineage may give a frozen tablet up, and drop its items.
pub sound_released : (w : World) (row : Row) (master : ℕ)
    → IsSound w → MayRelease (view w) row master → IsSound (tablet_released_in w master row.tablet)
sound_released w row master sound may =
    subst SoundView (sym (view_released w master row.tablet)) (view_given_up (view w) row master sound may)

-- The owner of a row, or a master that owned it at the term that it keeps, may serve once its closing entry is applied.
pub sound_owned : (w : World) (row : Row) (master : ℕ)
    → IsSound w → MayOwn (view w) row master → IsSound (tablet_owned_in w master row.tablet)
sound_owned w row master sound may =
    subst SoundView (sym (view_owned w master row.tablet)) (view_serves (view w) row master sound may)

-- ---- rows

-- A row may be added for a master that serves it at once, if nobody speaks of its number or of its range so far.
pub sound_added : (w : World) (tablet : ℕ) (range : Range) (master : ℕ)
    → IsSound w → MayAdd (view w) (new_row tablet range master) master → IsSound (tablet_added w tablet range master)
sound_added w tablet range master sound may =
    subst SoundView (ap (λ (v : View). record v { rows = placed (new_row tablet range master) (view w).rows }) (sym (view_served w tablet range master)))
    (view_added (view w) tablet range master sound may)

-- A row that is owned may begin to move to another master that is there, at the next term.
pub sound_migrated : (w : World) (row : Row) (to : ℕ)
    → IsSound w → (may : MayMigrate (view w) row to) → IsSound (migration_begun_in w row may.owner may.from to)
sound_migrated w row to sound may =
    view_changed (view w) row (row.term + 1) (Opening may.owner may.from to None) sound (may_begin (view w) row to sound may)

-- The place of a target may be noted if the target waits at it at the row's term.
pub sound_noted : (w : World) (row : Row) (source sfrom target place : ℕ)
    → IsSound w → MayNote (view w) row source sfrom target place → IsSound (place_noted_in w row source sfrom target place)
sound_noted w row source sfrom target place sound may =
    view_changed (view w) row row.term (Opening source sfrom target (Some place)) sound
    (may_be_noted (view w) row source sfrom target place sound may)

-- A crash may be noticed: each row that was the dead master's, or that it was to give, take over or rebuild, is rebuilt at the next term.
pub sound_crash_noticed : (w : World) (dead : ℕ) → IsSound w → MayNotice (view w) dead → IsSound (crash_noticed_in w dead)
sound_crash_noticed w dead sound may = view_noticed (view w) dead sound may

-- ---- pulling and rebuilding

-- A target may want a hash first.
pub sound_wanted : (w : World) (master tablet hash : ℕ) → IsSound w → IsSound (hash_wanted_in w master tablet hash)
sound_wanted w master tablet hash sound =
    subst SoundView (sym (view_pulled w master tablet (wanting_hash hash ((view w).pullings master tablet))))
    (view_goes_on (view w) master tablet (λ p. p.token) (λ p. p.batches) (λ p. wanting p.hashes hash) sound
    (none_arrives (view w) master tablet (λ p. p.batches) (λ p. wanting p.hashes hash) (λ p. wanting_resolves p.hashes hash)))

-- It may ask for a batch of the wanted ones.
pub sound_asked_for : (w : World) (master tablet : ℕ) → IsSound w → IsSound (batch_asked_in w master tablet)
sound_asked_for w master tablet sound =
    subst SoundView (sym (view_pulled w master tablet (asking_batch ((view w).pullings master tablet))))
    (view_goes_on (view w) master tablet (λ p. p.token) (λ p. p.batches) (λ p. batched p.hashes) sound
    (none_arrives (view w) master tablet (λ p. p.batches) (λ p. batched p.hashes) (λ p. batch_resolves p.hashes p.hashes.outstanding)))

-- Hashes may be resolved once all items of the source that have them have arrived.
pub sound_resolved : (w : World) (row : Row) (source target : Member) (hashes : List ℕ)
    → IsSound w → MayResolve (view w) row source target hashes → IsSound (hashes_resolved_in w target.master row.tablet hashes)
sound_resolved w row source target hashes sound may =
    subst SoundView (sym (view_pulled w target.master row.tablet (resolving hashes ((view w).pullings target.master row.tablet))))
    (view_goes_on (view w) target.master row.tablet (λ p. p.token) (λ p. p.batches) (λ p. got p.hashes hashes) sound
    (of_one_row (view w) row source target (resolving hashes) sound may.pulling (goes_on (view w) row source target hashes may)))

-- A target may pass on to a token once all items that the token has passed have arrived.
pub sound_passed : (w : World) (row : Row) (source target : Member) (next : Token)
    → IsSound w → MayPass (view w) row source target next → IsSound (token_passed_in w target.master row.tablet next)
sound_passed w row source target next sound may =
    subst SoundView (sym (view_pulled w target.master row.tablet (passing next ((view w).pullings target.master row.tablet))))
    (view_goes_on (view w) target.master row.tablet (λ p. next) (λ p. p.batches + 1) (λ p. p.hashes) sound
    (of_one_row (view w) row source target (passing next) sound may.pulling (passes_on (view w) row source target next may)))

-- It may replay an item of its source, which goes into the records if it is newer than what is there.
pub sound_replayed : (w : World) (row : Row) (source target : Member) (worker : ℕ) (item : Held)
    → IsSound w → MayReplay (view w) row source target worker item
    → IsSound (item_replayed_in w target.master row.tablet worker item)
sound_replayed w row source target worker item sound may =
    subst SoundView (sym (view_item w target.master row.tablet worker item))
    (view_replayed (view w) row source target worker item sound may)

-- A rebuild may gather the segment that it awaits, if what was read is a first part of what backup 1 stores that holds all that its
-- master knew to be stored there, and all that the row needs of it.
pub sound_gathered : (w : World) (own : ℕ) (copy : CopySegment)
    → IsSound w → MayGather (view w) own copy.tenure.tablet copy.master copy.segment copy.bytes
    → IsSound (segment_gathered_in w own copy)
sound_gathered w own copy sound may =
    subst SoundView (sym (view_gathered w own copy.tenure.tablet (reading copy ((view w).gathers own copy.tenure.tablet))))
    (view_gathers_on (view w) own copy.tenure.tablet (reading copy) sound (may_go_on (view w) own copy sound may))
