-- An entry that bears a mark is of the range of the row whose rebuild the mark is of.
use Rattle.std.proofs.Common.{arith}
use Rattle.std.proofs.Common.{◌≡◌, ℕ, true, List, [], Some, sym, ◌∙◌, ⊎_elim, ◌-◌, ◌≤◌, Contains, drop, is_some, slice_get, take, false, ap}
use Rattle.rk_inv_base.proofs.Words.{cases_eq, All-contains, Range, Entry, number_of, row_of, Row, counts, named_by, Mark, HasOwnRange}
use Rattle.rk_inv_base.proofs.Words.{IsOfRange, MarkFits, View, SoundView, false_from_ne_true, meets, false≢true}
use Rattle.rk_inv_tablets.proofs.Words.{in_piece, found_stands, row_in, apart_either, entry_apart}
use Rattle.rk_inv_tablets.proofs.crash.MarkedPieces.{HasMark, row_there}
use Rattle.rk_inv_tablets.proofs.merge.OfRange.{names_none}
use Rattle.rk_inv_base.proofs.rows.Apart.{one_met}

module _ (v : View) (sound : SoundView v) (q : ℕ) (place : ℕ) (entry : Entry) (at : slice_get (v.written q).entries place ≡ Some entry) (found : HasMark (v.written q).marks place) where
  -- the row of the mark
  pub record OfRow : Type 0 where
    pub row : Row
    pub stands : Contains v.rows row
    pub number : row.tablet ≡ found.mark.tablet
    pub in_range : IsOfRange row.range entry

  pub row_of_mark : OfRow
  row_of_mark =
      let marks : List Mark = (v.written q).marks in
      let list : List Entry = (v.written q).entries in
      let there = row_there v.rows found.mark.tablet (All-contains (λ (mark : Mark). is_some (row_of v.rows mark.tablet) ≡ true) marks found.mark (sound.cover.marks q) found.here) in
      let of : Row = there.0 in
      let stands : Contains v.rows of = found_stands v.rows found.mark.tablet of there.1 in
      let number : of.tablet ≡ found.mark.tablet = number_of v.rows found.mark.tablet of there.1 in
      let each : HasOwnRange of.range list found.mark =
      All-contains (λ (mark : Mark). mark.tablet ≡ of.tablet → HasOwnRange of.range list mark) marks found.mark
      ((row_in v sound of stands).rebuilds.pieces q)
      found.here (sym number) in
      record {
        row = of;
        stands = stands;
        number = number;
        in_range =
            All-contains (IsOfRange of.range) (take (found.mark.past - found.mark.first) (drop found.mark.first list)) entry each
            (in_piece list found.mark.first found.mark.past place entry found.from found.before at);
      }

  -- so it names no side segment
  pub marked_names_none : (range : Range) → named_by range entry ≡ []
  marked_names_none range = names_none row_of_mark.row.range range entry row_of_mark.in_range

  -- and counts for that row alone
  pub marked_of_row : (row : Row) → Contains v.rows row → row.range.first ≤ row.range.last → counts row.range entry ≡ true → found.mark.tablet ≡ row.tablet
  marked_of_row row has some inside =
      ⊎_elim (λ (same : found.mark.tablet ≡ row.tablet). same)
      (λ (other : found.mark.tablet ≡ row.tablet → ⊥).
      let of : Row = row_of_mark.row in
      let apart : meets of.range row.range ≡ false =
      false_from_ne_true (meets of.range row.range)
      (λ met. other (sym row_of_mark.number ∙ ap (λ (r : Row). r.tablet) (one_met v.rows of row sound.rows.apart row_of_mark.stands has met))) in
      absurd (false≢true
      (sym (entry_apart of.range row.range apart (apart_either of.range row.range apart) some entry row_of_mark.in_range) ∙ inside)))
      (cases_eq found.mark.tablet row.tablet)

  -- what the row says of the mark
  pub mark_says : (row : Row) → Contains v.rows row → found.mark.tablet ≡ row.tablet → MarkFits row q (v.handovers q row.tablet) (v.live q) (v.written q) found.mark
  mark_says row has its = grind (arith, row_in)
