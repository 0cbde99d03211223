-- What a master makes of what a backup reports is well formed: what every backup holds by then is applied, and what waited goes on.
use Rattle.std.proofs.Common.{◌≡◌, ◌≤◌, ◌<◌, ◌+◌, ℕ, All, List, [], ◌∷◌, length, take, Option, None, Some, refl, sym, ap, subst, arith}
use Rattle.std.proofs.Common.{length-drop, length-take, IfSome}
use Rattle.rk_inv_wellformed.proofs.Words.{All-take, cond_both, All-drop, All-head, All-tail, in_order_changed, NumberMap, changed_each}
use Rattle.rk_inv_wellformed.proofs.Words.{get, Call, Ended, Held, Entry, Overreach, Stored, apply_entries, apply_entry, newly_held, noting}
use Rattle.rk_inv_wellformed.proofs.Words.{stored_taken, with_applied, with_ended, with_entry_item, with_noted, outcome_of, told_by}
use Rattle.rk_inv_wellformed.proofs.Words.{IsFormedCall, IsFormedMaster, IsFormedTablet, side_waits, side_waits_of, IsFormedEnd}
use Rattle.rk_inv_wellformed.proofs.Words.{IsFormedEntry, Limits, Master, with_known, IsMaster, has_key, is_absent, Tablet, all_going_on}
use Rattle.rk_inv_wellformed.proofs.Words.{changed, each_less, in_order_remove, remove_less, remove, committed, Answer, ended_call}
use Rattle.rk_inv_wellformed.proofs.Words.{without_call, end_of_item, item_end, refusal_end}
use Rattle.rk_inv_wellformed.proofs.masters.Work.{formed_answering, AreLimits, IsFormedWork, WorkFits, formed_changed, formed_more}
use Rattle.rk_inv_wellformed.proofs.masters.Work.{formed_then, formed_told}
use Rattle.rk_inv_wellformed.proofs.maps.{by_found, either_way, All_pairs, each_changed, found_each}
use Rattle.rk_inv_wellformed.proofs.masters.Changes.{formed_with_calls, formed_with_item, formed_with_known, formed_with_tablets}
use Rattle.rk_inv_wellformed.proofs.masters.Changes.{formed_going_on}
use Rattle.rk_inv_wellformed.proofs.masters.Requests.{outcome_told}
use Rattle.rk_inv_wellformed.proofs.masters.Tablets.{formed_noting, waits_changed}

-- ---- what entries record

-- the ends that a well formed entry records
pub told_formed : (limits : Limits) (entry : Entry) → IsFormedEntry limits entry → All (IsFormedEnd limits) (told_by entry)
told_formed limits entry formed = grind (arith, item_end, refusal_end, by_found, end_of_item, either_way)

-- ---- small changes of a commit

-- an item goes into the records
formed_entry_item : {limits : Limits} {number : ℕ} {master : Master} (entry : Entry) → IsFormedMaster limits number master
    → IsFormedEntry limits entry → IsFormedMaster limits number (with_entry_item master entry)
formed_entry_item (Entry.Held held) formed new = formed_with_item formed new
formed_entry_item _ formed new = formed

-- the log and what is applied of it stay as they are
record Stays (before after : Master) : Type 0 where
  log : after.log ≡ before.log
  applied : after.applied ≡ before.applied

item_stays : (master : Master) (entry : Entry) → Stays master (with_entry_item master entry)
item_stays master (Entry.Held held) = record { log = refl; applied = refl }
item_stays master _ = record { log = refl; applied = refl }

-- one more entry is applied, if there is one
formed_with_applied : {limits : Limits} {number : ℕ} {master : Master} → IsFormedMaster limits number master
    → master.applied < length master.log.entries → IsFormedMaster limits number (with_applied master)
formed_with_applied {master} formed more = grind arith

-- a call at a place waits no more
formed_without_call : {limits : Limits} {number : ℕ} {master : Master} (place : ℕ) → IsFormedMaster limits number master
    → IsFormedMaster limits number (without_call master place)
formed_without_call {limits} {master} place formed = formed_with_calls (remove master.calls place) formed
    (in_order_remove master.calls place formed.calls_order) (each_less (IsFormedCall limits (length master.log.entries))
    (remove master.calls place) master.calls (remove_less master.calls place) formed.calls)

-- and so do all tablets
pub noted_waits : (call : Call) (end : Ended) (tablets : NumberMap Tablet)
    → side_waits (changed_each (λ number tablet. noting call end tablet) tablets) ≤ side_waits tablets
noted_waits call end tablets = grind (arith, waits_changed, noting, either_way, side_waits_of, is_absent, has_key)

-- each tablet that has the key of a call notes its end
formed_with_noted : {limits : Limits} {number : ℕ} {master : Master} (call : Call) {end : Ended} → IsFormedMaster limits number master
    → IsFormedEnd limits end → IsFormedMaster limits number (with_noted master call end)
formed_with_noted {limits} {number} {master} call {end} formed new =
    formed_with_tablets (changed_each (λ number tablet. noting call end tablet) master.tablets) formed
    (in_order_changed (λ number tablet. noting call end tablet) master.tablets formed.tablets_order)
    (each_changed (IsFormedTablet limits) (IsFormedTablet limits) (λ number tablet. noting call end tablet)
    (λ id tablet there. cond_both _ _ _ (IsFormedTablet limits id) (λ notes. formed_noting there new) (λ other. there))
    master.tablets formed.tablets)
    (omega (arith, formed.waited, noted_waits call end master.tablets))

-- ---- entries that are applied

-- a call ends as its entry records
formed_ended_call : {limits : Limits} {number : ℕ} {master : Master} {place : ℕ} {call : Call} {end : Ended} → IsMaster limits.masters number
    → IsFormedMaster limits number master → IsFormedCall limits (length master.log.entries) place call → IsFormedEnd limits end
    → IsFormedWork limits number 1 (ended_call master place call end)
formed_ended_call {limits} {master} {place} {call} {end} there formed waits new =
    formed_told (formed_without_call place (formed_with_noted call formed new))
    (formed_answering limits master (Answer.Done (outcome_of end.end)) there formed.number_is waits.lawful
    (outcome_told end.end new.lawful.outcome))
    refl (omega arith)

formed_with_ended : {limits : Limits} {number : ℕ} {master : Master} (place : ℕ) (call : Option Call) (ends : List Ended)
    → IsMaster limits.masters number → IsFormedMaster limits number master → IfSome call (IsFormedCall limits (length master.log.entries) place)
    → All (IsFormedEnd limits) ends → IsFormedWork limits number 1 (with_ended master place call ends)
formed_with_ended {limits} place (Some call) (end ∷ ends) there formed waits each =
    formed_ended_call there formed waits (All-head (IsFormedEnd limits) end ends each)
formed_with_ended place _ _ there formed waits each = formed_changed formed

-- the next entry is applied, if there is one
pub formed_apply_entry : {limits : Limits} {number : ℕ} {master : Master} (entry : Entry) → IsMaster limits.masters number
    → IsFormedMaster limits number master → IsFormedEntry limits entry → master.applied < length master.log.entries
    → IsFormedWork limits number 1 (apply_entry master entry)
formed_apply_entry {limits} {master} entry there formed new more = formed_with_ended master.applied
    (get master.calls master.applied) (told_by entry) there (formed_with_applied (formed_entry_item entry formed new)
    (omega (arith, (item_stays master entry).applied, ap (λ log. length log.entries) (item_stays master entry).log)))
    (subst (λ log. IfSome (get master.calls master.applied) (IsFormedCall limits (length log.entries) master.applied))
    (sym (item_stays master entry).log) (found_each (IsFormedCall limits (length master.log.entries)) master.calls master.applied formed.calls))
    (told_formed limits entry new)

ended_stays : (master : Master) (place : ℕ) (call : Option Call) (ends : List Ended) → Stays master (with_ended master place call ends).master
ended_stays master place (Some call) (end ∷ ends) = record { log = refl; applied = refl }
ended_stays master place _ _ = record { log = refl; applied = refl }

-- these entries are applied, if as many are not
pub formed_apply_entries : {limits : Limits} {number : ℕ} (entries : List Entry) {master : Master} → IsMaster limits.masters number
    → IsFormedMaster limits number master → All (IsFormedEntry limits) entries → master.applied + length entries ≤ length master.log.entries
    → IsFormedWork limits number (length entries) (apply_entries master entries)
formed_apply_entries [] there formed each room = formed_changed formed
formed_apply_entries {limits} {number} (entry ∷ entries) {master} there formed each room =
    let first = formed_apply_entry entry there formed (All-head (IsFormedEntry limits) entry entries each) (omega arith) in
    let item = item_stays master entry in
    let ended = ended_stays (with_applied (with_entry_item master entry)) master.applied (get master.calls master.applied) (told_by entry) in
    formed_then limits number 1 (length entries) (length (entry ∷ entries)) (apply_entry master entry) (λ next. apply_entries next entries) first
    (formed_apply_entries entries there first.master (All-tail (IsFormedEntry limits) entry entries each)
    (omega (arith, item.applied, ended.applied, ap (λ log. length log.entries) item.log, ap (λ log. length log.entries) ended.log)))
    (omega arith)

-- ---- what a backup reports

-- the entries that are newly held are no more than those that are not applied
newly_few : (master : Master) → master.applied ≤ length master.log.entries → master.applied + length (newly_held master) ≤ length master.log.entries
newly_few master within =
    omega (arith, length-drop {A = Entry}, length-take {A = Entry})

-- the entries that a backup's word lets a master apply are applied
pub formed_newly_applied : {limits : Limits} {number : ℕ} {master : Master} (backup : ℕ) (stored : Stored) → IsMaster limits.masters number
    → IsFormedMaster limits number master → IsFormedWork limits number (length master.log.entries)
    (apply_entries (with_known master backup stored.segment stored.length) (newly_held (with_known master backup stored.segment stored.length)))
formed_newly_applied {limits} {number} {master} backup stored there formed =
    let known = with_known master backup stored.segment stored.length in
    let knows = formed_with_known backup stored.segment stored.length formed in
    let few = newly_few known knows.applied in
    formed_more (length (newly_held known)) (length master.log.entries) (omega (arith, few)) (formed_apply_entries (newly_held known) there knows
    (All-drop (IsFormedEntry limits) known.applied (take (committed known.log) known.log.entries)
    (All-take (IsFormedEntry limits) (committed known.log) known.log.entries knows.written))
    few)

-- what a master makes of what a backup reports is well formed
pub formed_stored : {limits : Limits} {number : ℕ} {master : Master} (backup : ℕ) (stored : Stored) (over : Option Overreach) → AreLimits limits
    → IsMaster limits.masters number → IsFormedMaster limits number master
    → WorkFits limits number (length master.log.entries) (stored_taken master backup stored over)
formed_stored {limits} {number} {master} backup stored None are there formed room =
    let known = with_known master backup stored.segment stored.length in
    let applied = formed_newly_applied backup stored there formed in
    let now = (apply_entries known (newly_held known)).master in
    formed_then limits number (length master.log.entries) 0 (length master.log.entries) (apply_entries known (newly_held known))
    (λ now. changed (all_going_on now now.tablets)) applied
    (formed_changed (formed_going_on now.tablets are applied.master
    (All_pairs (IsFormedTablet limits) now.tablets applied.master.tablets_order applied.master.tablets) room.room.fits))
    (omega arith)
formed_stored backup stored (Some beyond) are there formed room = formed_changed formed
