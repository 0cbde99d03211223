-- Small changes of a view: the next entry of a master's log is applied.
use Rattle.std.specs.Prelude.{◌≡◌, ℕ, ◌+◌, true, false, List, [], ◌∷◌, ◌++◌, Some, slice_get}
use Rattle.rk_types.specs.NumberMap.{get, remove}
use Rattle.rk_types.specs.declared.call.Call.{Call}
use Rattle.rk_types.specs.declared.call.Ended.{Ended}
use Rattle.rk_types.specs.declared.held.Held.{Held}
use Rattle.rk_entry.specs.declared.entry.Entry.{Entry}
use Rattle.rk_entry.specs.declared.entry.Entry.TheVariants as entries
use Rattle.rk_table.specs.Items.{with_newer}
use Rattle.rk_done.specs.Completions.{noted}
use Rattle.rk_world.specs.Commits.{apply_entry}
use Rattle.rk_world.specs.Ends.{outcome_of}
use Rattle.rk_world.specs.Journal.{next_record}
use Rattle.rk_world.specs.Ledger.{seen_of, with_all_served}
use Rattle.rk_world.specs.Marks.{is_marked}
use Rattle.rk_world.specs.Worked.{Worked}
use Rattle.rk_world.specs.Written.{Written}
use Rattle.rk_world.specs.World.{World, master_at, with_ledger, with_master}
use Rattle.rk_sound.specs.Changes.{MayApply}
use Rattle.rk_sound.specs.Small.{put, put2}
use Rattle.rk_sound.specs.View.{View}

-- what masters have written, when one has applied one more entry
abbrev pub with_one_applied : (ℕ → Written) → ℕ → ℕ → Written
with_one_applied written master q =
    record (written q) { applied = put (λ r. (written r).applied) master ((written master).applied + 1) q }

-- records with the item of an entry, if the entry is an item that is newer than what is there
abbrev pub with_item_of : Entry → List Held → List Held
with_item_of (entries.Held held) records = with_newer held records
with_item_of _ records = records

-- the next entry of a master's log is applied, and no call ends with it
abbrev pub entry_applied : View → ℕ → Entry → View
entry_applied v master entry = record v {
  written = with_one_applied v.written master;
  records = put v.records master (with_item_of entry (v.records master));
}

-- the next entry of a master's log is applied, with which a call ends so: the call waits no more, the tablet of its key notes the end,
-- and the call gets its record
abbrev pub call_applied : View → ℕ → ℕ → Call → Entry → Ended → View
call_applied v master tablet call entry end = record v {
  written = with_one_applied v.written master;
  records = put v.records master (with_item_of entry (v.records master));
  calls = put v.calls master (remove (v.calls master) (v.written master).applied);
  completions = put2 v.completions master tablet (noted (v.completions master tablet) end);
  journal = v.journal ++ next_record v.journal call (outcome_of end.end) (seen_of (v.asked call.client)) ∷ [];
}

-- a master has worked, and what it served gets its records
abbrev pub worked_in : World → ℕ → Worked → World
worked_in w master worked = with_ledger (with_master w master worked.master) (with_all_served 0 w.ledger worked.served)

-- an entry of a master's log is applied, the next one
abbrev pub entry_applied_in : World → ℕ → Entry → World
entry_applied_in w master entry = worked_in w master (apply_entry (master_at w master) entry)

-- the next entry of a living master's log may be applied, and a call waits for it
pub record MayApplyCall (v : View) (master : ℕ) (call : Call) : Type 0 where
  pub held : MayApply v master
  pub waits : get (v.calls master) (v.written master).applied ≡ Some call

-- the next entry of a living master's log may be applied, which bears a mark
pub record MayApplyMarked (v : View) (master : ℕ) (entry : Entry) : Type 0 where
  pub held : MayApply v master
  pub stands : slice_get (v.written master).entries (v.written master).applied ≡ Some entry
  pub marked : is_marked (v.written master).marks (v.written master).applied ≡ true

-- the next entry of a living master's log may be applied, which bears no mark
pub record MayApplyUnmarked (v : View) (master : ℕ) (entry : Entry) : Type 0 where
  pub held : MayApply v master
  pub stands : slice_get (v.written master).entries (v.written master).applied ≡ Some entry
  pub unmarked : is_marked (v.written master).marks (v.written master).applied ≡ false
