-- The headline laws of logs: a lane stays sound when an entry is applied, what a rebuild has read is the truth of its row and a first part
-- of its rest, and the ends that it merged make the records of that part.
use Rattle.rk_inv_base.proofs.Words.{◌≡◌, ℕ, Some, slice_get, Entry, MayApply, view, IsSound, World, log_in, master_at, List, ◌≤◌, Member}
use Rattle.rk_inv_base.proofs.Words.{View, Ended, Row, SoundView, rests, truths, All-contains, Contains, merged_ends, call_ends, map}
use Rattle.rk_inv_base.proofs.Words.{records_of, [], All, completions_from, ends_of, IsKnown, ReachAll}
use Rattle.rk_inv_logs.proofs.Words.{made_of, MakeRecords, TellHistory, journal_with}
use Rattle.rk_inv_logs.specs.apply.Small.{entry_applied_in}
use Rattle.rk_inv_logs.specs.made.Made.{without_stamp}
use Rattle.rk_inv_logs.specs.read.Moves.{MayTakeRebuiltFormed, read_by_member}
use Rattle.rk_inv_logs.specs.read.ReadBack.{IsReadBack}
use Rattle.rk_inv_logs.proofs.read.ReadBack.{by_lineage}

-- ---- an entry is applied

-- A sound lane stays sound when the next entry of a living master's log is applied, once every backup is known to hold it. An item goes
-- into the records; and if a call waits for the entry, it gets its record and waits no more.
pub sound_applied : (w : World) (master : ℕ) (entry : Entry) → IsSound w → MayApply (view w) master
    → slice_get (log_in w master).entries (master_at w master).applied ≡ Some entry → IsSound (entry_applied_in w master entry)
sound_applied w master entry sound may stands = Rattle.rk_inv_logs.proofs.apply.EntryApplied.sound_applied w master sound may entry stands

-- ---- what a rebuild has read

-- Once a rebuild may be taken, what its master has read of the row's lineage is the row's truth and a first part of its rest: it records
-- just the items of these, and each end of these in its order. So no acknowledged call is lost with a master, and none comes back in
-- another order.
pub read_of_rebuilt : (v : View) (row : Row) (lineage : List Member) (to place : ℕ) (ends : List Ended) → SoundView v
    → MayTakeRebuiltFormed v row lineage to place ends → IsReadBack (truths v row) (rests v row) (read_by_member v row to)
read_of_rebuilt v row lineage to place ends sound may = by_lineage v row to place ends sound may.readable
    (All-contains (λ (r : Row). r.range.first ≤ r.range.last) v.rows row may.ranges may.may.has_row) may.gathered lineage may.may

-- ---- the records that rebuilt ends make

-- If the truth of a row and a first part of its rest were read of the members of its lineage, the ends that are merged of them make the
-- records that the ends of the calls of that part make, in their order: each but for its stamp the record that the staged call was to make.
-- They are of keys of the row, go on lawfully from the journal, and give no mutation a second record. So what counts for each other row
-- still records all of it. With them each end that is kept is known, and the ends that are kept reach each mutation of the row.
module _ (v : View) (row : Row) (members : List (List Entry)) (sound : SoundView v) (has : Contains v.rows row)
    (read : IsReadBack (truths v row) (rests v row) members) where
  pub made_is : made_of v.asked v.journal (merged_ends members) ≡ made_of v.asked v.journal (call_ends read.part)
  made_is = Rattle.rk_inv_logs.proofs.made.RebuiltEnds.made_is v row members sound has read

  pub records_staged : map without_stamp (made_of v.asked v.journal (merged_ends members)) ≡ records_of v.asked (call_ends read.part)
  records_staged = Rattle.rk_inv_logs.proofs.made.RebuiltEnds.records_staged v row members sound has read

  pub records_made : MakeRecords v row.range (merged_ends members)
  records_made = Rattle.rk_inv_logs.proofs.made.RebuiltEnds.records_made v row members sound has read

  pub others_tell : (other : Row) → Contains v.rows other → (other.tablet ≡ row.tablet → ⊥)
      → TellHistory v.base other.range (truths v other) (rests v other) (journal_with v (merged_ends members)) v.asked
  others_tell = Rattle.rk_inv_logs.proofs.made.RebuiltEnds.others_tell v row members sound has read

  pub ends_known : All (IsKnown v.base (journal_with v (merged_ends members))) (ends_of (completions_from [] (merged_ends members)))
  ends_known = Rattle.rk_inv_logs.proofs.made.RebuiltEnds.ends_known v row members sound has read

  pub ends_reach : ReachAll row.range (journal_with v (merged_ends members)) (ends_of (completions_from [] (merged_ends members)))
  ends_reach = Rattle.rk_inv_logs.proofs.made.RebuiltEnds.ends_reach v row members sound has read
