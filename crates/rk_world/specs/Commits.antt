-- Commits: what a master makes of what a backup reports. What every backup holds by then is applied, entry by entry: an item goes
-- into the records, and the client of a call is told how it ended.
use Rattle.std.specs.Prelude.{ℕ, ◌+◌, ◌&&◌, not, if◌then◌else◌, List, [], ◌∷◌, take, drop, map, Option, Some, None}
use Rattle.rk_types.specs.NumberMap.{get, remove}
use Rattle.rk_types.specs.declared.call.Answer.TheVariants as answers
use Rattle.rk_types.specs.declared.call.Call.{Call}
use Rattle.rk_types.specs.declared.call.Ended.{Ended}
use Rattle.rk_entry.specs.declared.entry.Entry.{Entry}
use Rattle.rk_entry.specs.declared.entry.Entry.TheVariants as entries
use Rattle.rk_log.specs.Log.{committed}
use Rattle.rk_log.specs.declared.overreach.Overreach.{Overreach}
use Rattle.rk_done.specs.Completions.{noted}
use Rattle.rk_message.specs.declared.replication.Stored.{Stored}
use Rattle.rk_world.specs.Ranges.{has_key}
use Rattle.rk_world.specs.Ends.{told_by, outcome_of}
use Rattle.rk_world.specs.Tablet.{Tablet}
use Rattle.rk_world.specs.RoleTests.{is_absent}
use Rattle.rk_world.specs.Master.{Master, with_item, with_known}
use Rattle.rk_world.specs.Worked.{Worked, changed, then_works}
use Rattle.rk_world.specs.Requests.{answering}
use Rattle.rk_world.specs.Waiting.{all_going_on}

-- the records after an entry was applied: an item goes into them if it is newer
abbrev pub with_entry_item : Master → Entry → Master
with_entry_item master (entries.Held held) = with_item master held
with_entry_item master _ = master

-- a tablet that is not absent and has the key notes the end of a call
abbrev pub noting : Call → Ended → Tablet → Tablet
noting call end tablet =
    if not (is_absent tablet.handover.role) && has_key tablet.handover.range call.table call.key
    then record tablet { completions = noted tablet.completions end }
    else tablet

-- each tablet that is not absent and has the key of a call notes its end
abbrev pub with_noted : Master → Call → Ended → Master
with_noted master call end =
    record master { tablets = map (λ entry. (entry.0, noting call end entry.1)) master.tablets }

-- a call at a place waits no more
abbrev pub without_call : Master → ℕ → Master
without_call master place = record master { calls = remove master.calls place }

-- one more entry is applied
abbrev pub with_applied : Master → Master
with_applied master = record master { applied = master.applied + 1 }

-- a call ends so: its client is answered
abbrev pub ended_call : Master → ℕ → Call → Ended → Worked
ended_call master place call end = record {
  master = without_call (with_noted master call end) place;
  sends = answering master call (answers.Done (outcome_of end.end)) ∷ [];
  served = (record { call = call; outcome = outcome_of end.end }) ∷ [];
  marked = [];
}

-- the call that waited for an entry at a place ends as the entry records; nothing waited for a copied item, a Carried or a
-- Joined
abbrev pub with_ended : Master → ℕ → Option Call → List Ended → Worked
with_ended master place (Some call) (end ∷ ends) = ended_call master place call end
with_ended master place _ _ = changed master

-- the next entry is applied
abbrev pub apply_entry : Master → Entry → Worked
apply_entry master entry =
    with_ended (with_applied (with_entry_item master entry)) master.applied (get master.calls master.applied)
    (told_by entry)

-- these entries are applied, one after the other
abbrev pub apply_entries : Master → List Entry → Worked
apply_entries master [] = changed master
apply_entries master (entry ∷ entries) = then_works (apply_entry master entry) (λ next. apply_entries next entries)

-- the entries that every backup is known to hold and that are not applied
abbrev pub newly_held : Master → List Entry
newly_held master = drop master.applied (take (committed master.log) master.log.entries)

-- a backup reported that it holds so much of a segment: what every backup holds by then is applied, and what waited
-- for it goes on
abbrev pub told_length : Master → ℕ → Stored → Worked
told_length master backup stored =
    let known = with_known master backup stored.segment stored.length in
    then_works (apply_entries known (newly_held known)) (λ now. changed (all_going_on now now.tablets))

-- a length beyond that of the segment is ignored
abbrev pub stored_taken : Master → ℕ → Stored → Option Overreach → Worked
stored_taken master backup stored None = told_length master backup stored
stored_taken master backup stored (Some beyond) = changed master
