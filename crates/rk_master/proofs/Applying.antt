-- What becomes of a master when entries are applied, and what it sends and serves by that.
use Rattle.rk_master.proofs.Words.{◌≡◌, ℕ, zero, suc, ◌+◌, ◌<◌, ◌≤◌, List, [], ◌∷◌, length, take, drop, slice_get, Option, Some, None, refl}
use Rattle.rk_master.proofs.Words.{ap, arith, append_assoc, append-nil, get, Call, Entry, told_by, Master, changed, apply_entries, Work}
use Rattle.rk_master.proofs.Words.{worked_of, behind, marks_of}
use Rattle.rk_types.specs.declared.call.Ended.{Ended}
use Rattle.rk_log.specs.Log.{committed}
use Rattle.rk_world.specs.Commits.{with_entry_item, with_applied, with_ended, apply_entry, newly_held}
use Rattle.rk_master.specs.Parts.{with_items_of}
use Rattle.rk_staged.proofs.Keeping.{from_place}

-- nothing is made behind what was sent and served
pub behind_changed : (work : Work) (master : Master) → worked_of master work ≡ behind work (changed master)
behind_changed work master = grind (arith, append-nil, marks_of)

-- ---- one entry

-- only the records of a master take in the item of an entry
pub entry_item_is : (master : Master) (entry : Entry) → record master { records = with_items_of entry master.records } ≡ with_entry_item master entry
entry_item_is master entry = grind arith

-- no call ends if none waits
pub ended_none : (master : Master) (place : ℕ) (call : Option Call) (ends : List Ended) → call ≡ None → with_ended master place call ends ≡ changed master
ended_none master place call ends none = ap (λ (o : Option Call). with_ended master place o ends) none

-- no end is recorded if there is no first one
told_nothing : (ends : List Ended) → slice_get ends 0 ≡ None → ends ≡ []
told_nothing [] none = refl
told_nothing (end ∷ ends) none = cc none

-- an entry that records no end
pub applied_quietly : (master : Master) (entry : Entry) → slice_get (told_by entry) 0 ≡ None → changed (with_applied (with_entry_item master entry)) ≡ apply_entry master entry
applied_quietly master entry none = grind (arith, told_nothing, told_by)

-- an entry that records an end
pub applied_ending : (master after : Master) (entry : Entry) (end : Ended) → after ≡ with_applied (with_entry_item master entry) → slice_get (told_by entry) 0 ≡ Some end
    → with_ended after master.applied (get after.calls master.applied) (end ∷ drop 1 (told_by entry)) ≡ apply_entry master entry
applied_ending master after entry end after_is some = grind (arith, told_by, entry_item_is)

-- ---- the entries that all backups hold

-- there is an entry at each place of a log, or of another list
pub stands : {X : Type 0} (all : List X) (place : ℕ) → place < length all → (entry : X) × (slice_get all place ≡ Some entry)
stands [] place within = absurd (omega (arith, within))
stands (entry ∷ all) zero within = (entry, refl)
stands (entry ∷ all) (suc place) within = stands all place (omega (arith, within))

-- the same entry is there in a first part of the log
in_part : (all : List Entry) (count place : ℕ) → place < count → slice_get (take count all) place ≡ slice_get all place
in_part [] zero place within = refl
in_part [] (suc count) place within = refl
in_part (entry ∷ all) zero place within = absurd (omega (arith, within))
in_part (entry ∷ all) (suc count) zero within = refl
in_part (entry ∷ all) (suc count) (suc place) within = in_part all count place (omega (arith, within))

-- nothing is left if all that backups hold is applied
pub none_held : (all : List Entry) (count place : ℕ) → count ≤ place → drop place (take count all) ≡ []
none_held [] zero zero done = refl
none_held [] zero (suc place) done = refl
none_held [] (suc count) zero done = absurd (omega (arith, done))
none_held [] (suc count) (suc place) done = refl
none_held (entry ∷ all) zero zero done = refl
none_held (entry ∷ all) zero (suc place) done = refl
none_held (entry ∷ all) (suc count) zero done = absurd (omega (arith, done))
none_held (entry ∷ all) (suc count) (suc place) done = none_held all count place (omega (arith, done))

-- the next entry is applied, and then the others
pub applied_next : (work more : Work) (master after : Master) (entry : Entry)
    → master.applied < committed master.log → slice_get master.log.entries master.applied ≡ Some entry
    → worked_of after more ≡ behind work (apply_entry master entry) → after.log ≡ master.log → after.applied ≡ master.applied + 1
    → behind more (apply_entries after (newly_held after)) ≡ behind work (apply_entries master (newly_held master))
applied_next work more master after entry held at made log_is applied_is =
    grind (arith, behind, apply_entries, append_assoc, marks_of, from_place, in_part)
