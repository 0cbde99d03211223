-- Rebuilt: when the master that rebuilt a row may own it, so that records are made of what it reported and the tablet's marks are gone.
use Rattle.std.specs.Prelude.{◌≡◌, ◌==◌, ◌&&◌, ℕ, true, not, if◌then◌else◌, List, [], ◌∷◌, ◌++◌, Option, Some, None, Contains, All, slice_get}
use Rattle.rk_types.specs.declared.call.Ended.{Ended}
use Rattle.rk_types.specs.declared.history.Placed.{Placed}
use Rattle.rk_types.specs.declared.lineage.Member.{Member}
use Rattle.rk_types.specs.declared.range.Range.{Range}
use Rattle.rk_model.specs.History.{IsLegal}
use Rattle.rk_model.specs.Ordered.{AreOneMutation}
use Rattle.rk_done.specs.Completions.{ends_of}
use Rattle.rk_tablet_map.specs.Phase.{member as member_at}
use Rattle.rk_tablet_map.specs.declared.phase.Phase.TheVariants.{Owned}
use Rattle.rk_tablet_map.specs.declared.row.Row.{Row}
use Rattle.rk_world.specs.Ends.{outcome_of}
use Rattle.rk_world.specs.Base.{base_map}
use Rattle.rk_world.specs.Journal.{has_record, next_record}
use Rattle.rk_world.specs.declared.ledger.LastCall.{LastCall}
use Rattle.rk_world.specs.Ledger.{with_ends, without_marks}
use Rattle.rk_world.specs.World.{World, with_ledger}
use Rattle.rk_world.specs.Written.{member_truth}
use Rattle.rk_sound.specs.View.{View, truths, rests}
use Rattle.rk_sound.specs.Calls.{IsKnown, ReachAll, is_record_in}
use Rattle.rk_sound.specs.Tables.{IsTableOf}
use Rattle.rk_sound.specs.Moves.{HasSome, MayTakeRebuilt, row_at}
use Rattle.rk_inv_rows.specs.lineage.Lineages.{TellHistory}
use Rattle.rk_inv_rows.specs.lineage.Small.{marks_taken, row_owned_in}

-- the record that an end makes, if it is that of its client's last call and that call has none
abbrev pub made_by : List Placed → Ended → Option LastCall → List Placed
made_by journal end None = []
made_by journal end (Some asked) =
    if asked.call.seq == end.seq && not (has_record journal end.client end.seq)
    then next_record journal asked.call (outcome_of end.end) asked.seen ∷ []
    else []

-- the records that ends make, in their order, behind a journal
abbrev pub made_of : (ℕ → Option LastCall) → List Placed → List Ended → List Placed
made_of asked journal [] = []
made_of asked journal (end ∷ ends) =
    let made = made_by journal end (asked end.client) in made ++ made_of asked (journal ++ made) ends

-- a rebuild is taken: the row is owned by the master that rebuilt it, the ends that this reported make records, and no log has a mark of
-- the tablet any more
abbrev pub rebuilt_taken_in : World → Row → ℕ → ℕ → List Ended → World
rebuilt_taken_in w row to place ends =
    with_ledger (row_owned_in w row to place) (without_marks (with_ends w.ledger ends) row.tablet row.term)

-- the journal with the records that ends make
abbrev pub journal_with : View → List Ended → List Placed
journal_with v ends = v.journal ++ made_of v.asked v.journal ends

-- the records that ends make are of keys of a range; with them the journal is a lawful history still, in which no mutation has two records
pub record MakeRecords (v : View) (range : Range) (ends : List Ended) : Type 0 where
  pub inside : All (λ placed. is_record_in range placed ≡ true) (made_of v.asked v.journal ends)
  pub legal : IsLegal (base_map v.base) (journal_with v ends)
  pub once :
      (i j : ℕ) (a b : Placed) → slice_get (journal_with v ends) i ≡ Some a → slice_get (journal_with v ends) j ≡ Some b
      → AreOneMutation a.call b.call → i ≡ j

-- the master that rebuilt a row may own it, if records are made of the ends that it reported: then what counts of its own log records all
-- of the row, its records and its ends have all of it, and what counts for each other row still records all of that one
pub record MayOwnRebuilt (v : View) (row : Row) (lineage : List Member) (to place : ℕ) (ends : List Ended) : Type 0 where
  pub taken : MayTakeRebuilt v row lineage to place ends
  pub ranges : All (λ other. HasSome other.range) v.rows
  pub records : MakeRecords v row.range ends
  pub history :
      TellHistory v.base row.range (truths (marks_taken v row.tablet row.term) (row_at row row.term (Owned to place)))
      (rests (marks_taken v row.tablet row.term) (row_at row row.term (Owned to place))) (journal_with v ends) v.asked
  pub reached : ReachAll row.range (journal_with v ends) (ends_of (v.completions to row.tablet))
  pub known : All (IsKnown v.base (journal_with v ends)) (ends_of (v.completions to row.tablet))
  pub full :
      IsTableOf row.range
      (member_truth (marks_taken v row.tablet row.term).written row.range (member_at to place)) (v.records to)
  pub others :
      (other : Row) → Contains v.rows other → (other.tablet ≡ row.tablet → ⊥)
      → TellHistory v.base other.range (truths v other) (rests v other) (journal_with v ends) v.asked
