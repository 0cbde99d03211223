-- All that is applied of the own entries of a master that rebuilt a row is what counts of its log once the marks of the tablet are gone.
use Rattle.std.proofs.Common.{arith, All, Contains, List, Some, [], ap, drop, eq-eqb, eqb, le-leb, nat_le, not, refl, slice_get, suc, sym}
use Rattle.std.proofs.Common.{true, ℕ, ◌+◌, ◌∙◌, ◌∷◌, ◌≡◌, ◌≤◌}
use Rattle.rk_tablet_map.specs.Phase.{member as member_at}
use Rattle.rk_inv_base.proofs.Words.{All-contains, Entry, HasSome, Mark, MarkFits, Row, SoundView, View, Written, and_from, applied_entries}
use Rattle.rk_inv_base.proofs.Words.{applied_from, counting, false≢true, is_mark_of, is_marked, member_truth, named, named_by, side_entries}
use Rattle.rk_inv_base.proofs.Words.{unmarked, with_number}
use Rattle.rk_inv_base.proofs.logs.MarkedApart.{place_of}
use Rattle.rk_inv_base.proofs.rows.Apart.{apart_either}
use Rattle.rk_inv_rows.proofs.lineage.FewerMarks.{AreFewer, IsSilent, free_counts, free_names}
use Rattle.rk_inv_rows.proofs.lineage.MarksTaken.{apart, silent_apart}
use Rattle.rk_inv_events.proofs.Words.{IsCovered, covered_by, covered_of, filter_from, kept_passes, marks_taken, row_in, taken_from}

-- without marks no entry bears one
pub none_marked : (place : ℕ) (list : List Entry) → unmarked [] place list ≡ list
none_marked place [] = refl
none_marked place (entry ∷ list) = ap (λ (l : List Entry). entry ∷ l) (none_marked (suc place) list)

module _ (v : View) (row : Row) (to place : ℕ) (sound : SoundView v) (has_row : Contains v.rows row) (ranges : All (λ other. HasSome other.range) v.rows) where
  abbrev w : Written
  w = v.written to

  abbrev now : View
  now = marks_taken v row.tablet row.term

  abbrev left_marks : List Mark
  left_marks = (now.written to).marks

  abbrev front : List Entry
  front = drop place (applied_entries w)

  some_of : (r : Row) → Contains v.rows r → r.range.first ≤ r.range.last
  some_of r has = All-contains (λ r. HasSome r.range) v.rows r ranges has

  -- a mark that is left is of another tablet
  left_apart : (m : Mark) → Contains left_marks m → m.tablet ≡ row.tablet → ⊥
  left_apart m stands its =
      let kept = kept_passes (λ m. not (is_mark_of row.tablet row.term m)) w.marks m stands in
      let fits : MarkFits row to (v.handovers to row.tablet) (v.live to) w m =
      All-contains (λ m. m.tablet ≡ row.tablet → MarkFits row to (v.handovers to row.tablet) (v.live to) w m) w.marks m
      ((row_in v sound row has_row).rebuilds.marks to) (filter_from (λ m. not (is_mark_of row.tablet row.term m)) w.marks m stands) its in
      let both : is_mark_of row.tablet row.term m ≡ true =
      and_from (eqb m.tablet row.tablet) (nat_le m.term row.term) (eq-eqb m.tablet row.tablet its) (le-leb m.term row.term fits.within) in
      false≢true (ap not (sym both) ∙ kept)

  -- so what it marks records nothing of the row
  left_silent : (n : ℕ) (entry : Entry) → slice_get w.entries n ≡ Some entry → is_marked left_marks n ≡ true → IsSilent row.range entry
  left_silent n entry stands marked =
      let covered = covered_by left_marks n marked in
      let before : IsCovered w.marks n = record {
        mark = covered.mark;
        stands = filter_from (λ m. not (is_mark_of row.tablet row.term m)) w.marks covered.mark covered.stands;
        first = covered.first;
        past = covered.past;
      } in
      let of = covered_of v sound to n entry stands before in
      let unlike : of.row.tablet ≡ row.tablet → ⊥ = λ its. left_apart covered.mark covered.stands (sym of.number ∙ its) in
      let beside = apart v row sound has_row of.row of.stands unlike (some_of of.row of.stands) in
      silent_apart of.row.range row.range (apart_either row.range of.row.range beside) beside (some_of row has_row) entry of.of

  fewer : AreFewer row.range left_marks [] place front
  fewer = record {
    still = λ k marked. absurd (false≢true marked);
    silent = λ k entry at was is.
        left_silent (place + k) entry
        (taken_from w.applied w.entries (place + k) entry (place_of (applied_entries w) place k (place + k) entry refl at)) was;
  }

  pub applied_own : applied_from row.range place w ≡ member_truth now.written row.range (member_at to place)
  applied_own = grind (arith, unmarked, counting, none_marked, free_counts, fewer, named_by, free_names, side_entries, named, with_number)
