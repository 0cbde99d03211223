-- What counts of the log of a master that rebuilt a tablet, once the marks of the tablet are taken away: its own entries and the piece that
-- it merged, all of them applied.
use Rattle.std.proofs.Common.{◌≡◌, ℕ, suc, ◌+◌, ◌-◌, ◌≤◌, ◌<◌, true, false, ◌&&◌, eqb, List, [], ◌∷◌, ◌++◌, Some, refl, sym, ap, subst, ◌∙◌}
use Rattle.std.proofs.Common.{⊎_elim, arith, inl, inr, All, IfSome, drop, length, nat_le, nat_lt, not, slice_get, take, ◌⊎◌, Contains}
use Rattle.std.proofs.Common.{flat_map, eq-eqb, le-leb}
use Rattle.rk_inv_base.proofs.Words.{and_from, cases_Bool, false_from_ne_true, false≢true, All-contains, Contains-append_cases}
use Rattle.rk_inv_base.proofs.Words.{Contains-append_left, Contains-append_right, list_any, meets, Ended, Member, Range, Entry, Handover}
use Rattle.rk_inv_base.proofs.Words.{Role, Phase, Rebuilding, Row, none_stands, is_mark_of, is_marked, unmarked, touches, as_entries}
use Rattle.rk_inv_base.proofs.Words.{counting, counts, named, named_by, side_entries, has_all, own_place, Written, applied_entries}
use Rattle.rk_inv_base.proofs.Words.{member_material, member_truth, Mark, HasRebuilt, MayTakeRebuilt, HasOwnRange, IsMergedOf, IsOfRange}
use Rattle.rk_inv_base.proofs.Words.{IsPieceOf, MarkFits, RowIsRebuilt, closing_carried, merged_place, IsDone, View, truths, SoundView}
use Rattle.rk_inv_rows.proofs.Words.{member as member_at, in_one_row, one_precedes, behind_at, in_piece, place_of, Misses, none_touches}
use Rattle.rk_inv_rows.proofs.Words.{any_kept, filter_from, filter_stands, marks_taken, SoundRow, row_in, kept_stands, has_itself}
use Rattle.rk_inv_rows.proofs.lineage.Among.{flat_among, kept_among, later_all}
use Rattle.rk_inv_base.proofs.views.Among.{from_flat, number_from, number_to, place_in, taken_at, taken_from, taken_within, to_flat}
use Rattle.rk_inv_base.proofs.views.Among.{IsCovered, covered_by, unmarked_place, unmarked_stands}
use Rattle.rk_inv_rows.proofs.lineage.MarksTaken.{taken_by}
use Rattle.rk_inv_rows.proofs.lineage.Pieces.{covered_of}
use Rattle.rk_inv_rows.proofs.lineage.TargetMaterial.{meets_itself}
use Rattle.rk_inv_rows.proofs.lineage.Untouched.{done_settled, each_misses}
use Rattle.rk_inv_rows.proofs.lineage.Histories.{range_at}
use Rattle.rk_transfer.specs.declared.role.Role.TheVariants as roles

-- a role has rebuilt a tablet, with its closing entry at a place that is applied
pub record RebuiltAt (role : Role) (applied from : ℕ) : Type 0 where
  pub entry : ℕ
  pub role_is : role ≡ roles.Rebuilding from (Some entry)
  pub within : entry < applied

pub rebuilt_at : (role : Role) (applied from : ℕ) → HasRebuilt role applied from → RebuiltAt role applied from
rebuilt_at role applied from rebuilt = grind arith

module _ (v : View) (row : Row) (lineage : List Member) (to place : ℕ) (ends : List Ended) (sound : SoundView v) (some : row.range.first ≤ row.range.last) (may : MayTakeRebuilt v row lineage to place ends) where
  abbrev w : Written
  w = v.written to

  abbrev builder : Handover
  builder = v.handovers to row.tablet

  abbrev own_member : Member
  own_member = member_at to place

  -- what is known of the row
  row_was : SoundRow v row
  row_was = row_in v sound row may.has_row

  in_phase : (P : Phase → Type 0) → P row.phase → P (Rebuilding lineage to)
  in_phase P = subst P may.phase_is

  pub at : RebuiltAt builder.role w.applied place
  at = rebuilt_at builder.role w.applied place may.rebuilt

  in_role : (P : Role → Type 0) → P builder.role → P (roles.Rebuilding place (Some at.entry))
  in_role P = subst P at.role_is

  -- what the row says of its master that rebuilt it
  abbrev RebuiltBy : Role → Type 0
  RebuiltBy role =
      IfSome (merged_place role)
      (λ entry. IsMergedOf row.tablet (own_place role) (member_material v.written row.range (member_at to (own_place role))) builder
      (v.completions to row.tablet) (v.gathers to row.tablet) (v.merged to row.tablet) w entry)

  pub merged_is : IsMergedOf row.tablet place (member_material v.written row.range own_member) builder (v.completions to row.tablet) (v.gathers to row.tablet) (v.merged to row.tablet) w at.entry
  merged_is =
      let fit =
      in_phase
      (λ p. RowIsRebuilt row p (truths v row) v.logs v.written v.stored v.handovers v.completions v.gathers v.merged v.records v.live)
      row_was.rebuilds.rebuilt in
      in_role RebuiltBy (fit.0 may.term_is).merged

  abbrev piece : IsPieceOf row.tablet place builder merged_is.merged w at.entry
  piece = merged_is.piece

  -- nothing of the range is behind what is applied
  pub settled : list_any (touches row.range) (drop w.applied w.entries) ≡ false
  settled =
      let missed : All (Misses row.range) (drop (suc at.entry) w.entries) =
      each_misses row.range (drop (suc at.entry) w.entries)
      (subst (λ (range : Range). list_any (touches range) (drop (suc at.entry) w.entries) ≡ false) (range_at v sound row may.has_row to may.term_is) piece.last) in
      let less : at.entry < w.applied = at.within in
      none_touches row.range (drop w.applied w.entries)
      (later_all (Misses row.range) (suc at.entry) w.applied w.entries (omega (arith, less)) missed)

  -- its place is one of its log, and the piece is applied
  pub placed_within : place ≤ length w.entries
  placed_within = grind (arith, in_phase, truths, row_was, in_role, own_place)

  -- so all of its own is applied
  pub own_done : IsDone v.written row.range own_member
  own_done = done_settled v.written row.range own_member some settled

  abbrev now : View
  now = marks_taken v row.tablet row.term

  -- also once the marks are gone
  pub now_done : IsDone now.written row.range own_member
  now_done = done_settled now.written row.range own_member some settled

  -- ---- the piece

  abbrev pieces : List Entry
  pieces = as_entries merged_is.merged.copies ++ closing_carried builder merged_is.merged ∷ []

  abbrev mark : Mark
  mark = piece.mark

  -- an entry of the piece is of the row's range
  piece_of_row : (entry : Entry) → Contains pieces entry → IsOfRange row.range entry
  piece_of_row entry stands =
      let own : HasOwnRange row.range w.entries mark =
      All-contains (λ m. m.tablet ≡ row.tablet → HasOwnRange row.range w.entries m) w.marks mark
      (row_was.rebuilds.pieces to) piece.marked
      piece.tablet_is in
      let all : All (IsOfRange row.range) pieces =
      rw (← piece.stands, ← piece.past_is) own in
      All-contains (IsOfRange row.range) pieces entry all stands

  -- so it counts, and names no side segment
  of_counts : (entry : Entry) → IsOfRange row.range entry → counts row.range entry ≡ true
  of_counts entry of = grind (arith, has_all, has_itself)

  of_names : (entry : Entry) → IsOfRange row.range entry → named_by row.range entry ≡ []
  of_names entry of = grind arith

  -- ---- what bears no mark now: what bore none, and the piece

  abbrev old_marks : List Mark
  old_marks = w.marks

  abbrev new_marks : List Mark
  new_marks = (now.written to).marks

  abbrev front : List Entry
  front = drop place (applied_entries w)

  abbrev free_before : List Entry
  free_before = unmarked old_marks place front

  abbrev free_now : List Entry
  free_now = unmarked new_marks place front

  -- what is at a place of what is applied is there in the log
  in_log : (k : ℕ) (entry : Entry) → slice_get front k ≡ Some entry → slice_get w.entries (place + k) ≡ Some entry
  in_log k entry stands =
      taken_from w.applied w.entries (place + k) entry (place_of (applied_entries w) place k (place + k) entry refl stands)

  still : (n : ℕ) → is_marked new_marks n ≡ true → is_marked old_marks n ≡ true
  still n = any_kept (λ m. nat_le m.first n && nat_lt n m.past) (λ m. not (is_mark_of row.tablet row.term m)) old_marks

  -- an entry that a mark of the tablet covered is one of the piece
  covered_piece : (n : ℕ) (entry : Entry) → slice_get w.entries n ≡ Some entry → (covered : IsCovered old_marks n) → covered.mark.tablet ≡ row.tablet → Contains pieces entry
  covered_piece n entry stands covered tablet =
      let is : covered.mark ≡ mark =
      All-contains (λ other. other.tablet ≡ row.tablet → other ≡ mark) old_marks covered.mark piece.alone covered.stands tablet in
      let first : mark.first ≤ n = rw (← is) covered.first in
      let past : n < mark.past = rw (← is) covered.past in
      rw (← piece.stands, ← piece.past_is) (in_piece w.entries mark.first mark.past n entry first past stands)

  from_either : (entry : Entry) → Contains free_now entry → Contains free_before entry ⊎ Contains pieces entry
  from_either entry stands =
      let is = unmarked_place new_marks place front entry stands in
      ⊎_elim
      (λ (was : is_marked old_marks (place + is.k) ≡ true).
      let taken = taken_by v row sound may.has_row to (place + is.k) was is.free in
      inr (covered_piece (place + is.k) entry (in_log is.k entry is.at) taken.covered taken.tablet))
      (λ (free : is_marked old_marks (place + is.k) ≡ false). inl (unmarked_stands old_marks place is.k front entry is.at free))
      (cases_Bool (is_marked old_marks (place + is.k)))

  own_stands : (entry : Entry) → Contains free_before entry → Contains free_now entry
  own_stands entry stands =
      let is = unmarked_place old_marks place front entry stands in
      unmarked_stands new_marks place is.k front entry is.at
      (false_from_ne_true (is_marked new_marks (place + is.k)) (λ marked. false≢true (sym is.free ∙ still (place + is.k) marked)))

  -- ---- no other mark covers the piece

  -- an entry of the row's range is of no other row's
  of_one_row : (other : Row) (entry : Entry) → Contains v.rows other → (other.tablet ≡ row.tablet → ⊥) → IsOfRange other.range entry → IsOfRange row.range entry → ⊥
  of_one_row other entry stands unlike its of = grind (arith, false≢true, in_one_row, meets, meets_itself, one_precedes)

  -- a mark that is left is of another tablet
  left_apart : (m : Mark) → Contains new_marks m → m.tablet ≡ row.tablet → ⊥
  left_apart m stands its =
      let kept = (kept_stands (λ m. not (is_mark_of row.tablet row.term m)) old_marks m stands).1 in
      let fits : MarkFits row to builder (v.live to) w m =
      All-contains (λ m. m.tablet ≡ row.tablet → MarkFits row to builder (v.live to) w m) old_marks m
      (row_was.rebuilds.marks to)
      (filter_from (λ m. not (is_mark_of row.tablet row.term m)) old_marks m stands) its in
      let both : is_mark_of row.tablet row.term m ≡ true =
      and_from (eqb m.tablet row.tablet) (nat_le m.term row.term) (eq-eqb m.tablet row.tablet its) (le-leb m.term row.term fits.within) in
      false≢true (ap not (sym both) ∙ kept)

  piece_free : (n : ℕ) (entry : Entry) → slice_get w.entries n ≡ Some entry → Contains pieces entry → is_marked new_marks n ≡ false
  piece_free n entry stands inside =
      false_from_ne_true (is_marked new_marks n)
      (λ marked.
      let covered = covered_by new_marks n marked in
      let before : IsCovered old_marks n = record {
        mark = covered.mark;
        stands = filter_from (λ m. not (is_mark_of row.tablet row.term m)) old_marks covered.mark covered.stands;
        first = covered.first;
        past = covered.past;
      } in
      let of = covered_of v sound to n entry stands before in
      of_one_row of.row entry of.stands (λ its. left_apart covered.mark covered.stands (sym of.number ∙ its)) of.of (piece_of_row entry inside))

  stands_now : (n k : ℕ) (entry : Entry) → place + k ≡ n → slice_get front k ≡ Some entry → is_marked new_marks n ≡ false → Contains free_now entry
  stands_now n k entry is stands free = unmarked_stands new_marks place k front entry stands (ap (is_marked new_marks) is ∙ free)

  piece_stands : (entry : Entry) → Contains pieces entry → Contains free_now entry
  piece_stands entry inside =
      let there : Contains (take (suc at.entry - mark.first) (drop mark.first w.entries)) entry =
      rw piece.stands inside in
      let found = place_in (take (suc at.entry - mark.first) (drop mark.first w.entries)) entry there in
      let j : ℕ = found.0 in
      let within : j < suc at.entry - mark.first = taken_within (suc at.entry - mark.first) (drop mark.first w.entries) j entry found.1 in
      let n : ℕ = mark.first + j in
      let stands : slice_get w.entries n ≡ Some entry =
      place_of w.entries mark.first j n entry refl
      (taken_from (suc at.entry - mark.first) (drop mark.first w.entries) j entry found.1) in
      let less : at.entry < w.applied = at.within in
      let behind : place ≤ mark.first = piece.behind in
      let here = behind_at (applied_entries w) place n entry (omega (arith, behind))
      (taken_at w.applied w.entries n entry (omega (arith, less, within)) stands) in
      stands_now n here.0 entry here.2 here.1 (piece_free n entry stands inside)

  -- ---- what counts now: its own entries, and the piece

  abbrev own : List Entry
  own = member_truth v.written row.range own_member

  abbrev truth_now : List Entry
  truth_now = member_truth now.written row.range own_member

  abbrev sides_of : List Entry → List Entry
  sides_of free = flat_map (side_entries w.sides) (named row.range free)

  names_from : (n : ℕ) → Contains (named row.range free_now) n → Contains (named row.range free_before) n
  names_from n stands =
      ⊎_elim (λ (none : Contains [] n). absurd (none_stands n none))
      (λ (there : Contains (flat_map (named_by row.range) free_now) n).
      let found = from_flat (named_by row.range) free_now n there in
      number_to [] (flat_map (named_by row.range) free_before) n
      (⊎_elim (λ (mine : Contains free_before found.0). to_flat (named_by row.range) free_before found.0 n mine found.2)
      (λ (inside : Contains pieces found.0).
      absurd
      (none_stands n (subst (λ (l : List ℕ). Contains l n) (of_names found.0 (piece_of_row found.0 inside)) found.2)))
      (from_either found.0 found.1)))
      (number_from [] (flat_map (named_by row.range) free_now) n stands)

  names_to : (n : ℕ) → Contains (named row.range free_before) n → Contains (named row.range free_now) n
  names_to n stands =
      ⊎_elim (λ (none : Contains [] n). absurd (none_stands n none))
      (λ (there : Contains (flat_map (named_by row.range) free_before) n).
      number_to [] (flat_map (named_by row.range) free_now) n
      (flat_among (named_by row.range) free_before free_now own_stands n there))
      (number_from [] (flat_map (named_by row.range) free_before) n stands)

  pub truth_from : (entry : Entry) → Contains truth_now entry → Contains own entry ⊎ Contains pieces entry
  truth_from entry stands =
      ⊎_elim
      (λ (main : Contains (counting row.range free_now) entry).
      ⊎_elim
      (λ (mine : Contains free_before entry).
      inl
      (Contains-append_left (counting row.range free_before) (counting row.range (sides_of free_before)) entry
      (filter_stands (counts row.range) free_before entry mine (kept_stands (counts row.range) free_now entry main).1)))
      (λ (inside : Contains pieces entry). inr inside)
      (from_either entry (filter_from (counts row.range) free_now entry main)))
      (λ (side : Contains (counting row.range (sides_of free_now)) entry).
      inl
      (Contains-append_right (counting row.range free_before) (counting row.range (sides_of free_before)) entry
      (kept_among (counts row.range) (sides_of free_now) (sides_of free_before)
      (flat_among (side_entries w.sides) (named row.range free_now) (named row.range free_before) names_from) entry side)))
      (Contains-append_cases (counting row.range free_now) (counting row.range (sides_of free_now)) entry stands)

  pub truth_has_own : (entry : Entry) → Contains own entry → Contains truth_now entry
  truth_has_own entry stands =
      ⊎_elim
      (λ (main : Contains (counting row.range free_before) entry).
      Contains-append_left (counting row.range free_now) (counting row.range (sides_of free_now)) entry
      (kept_among (counts row.range) free_before free_now own_stands entry main))
      (λ (side : Contains (counting row.range (sides_of free_before)) entry).
      Contains-append_right (counting row.range free_now) (counting row.range (sides_of free_now)) entry
      (kept_among (counts row.range) (sides_of free_before) (sides_of free_now)
      (flat_among (side_entries w.sides) (named row.range free_before) (named row.range free_now) names_to) entry side))
      (Contains-append_cases (counting row.range free_before) (counting row.range (sides_of free_before)) entry stands)

  pub truth_has_piece : (entry : Entry) → Contains pieces entry → Contains truth_now entry
  truth_has_piece entry inside =
      Contains-append_left (counting row.range free_now) (counting row.range (sides_of free_now)) entry
      (filter_stands (counts row.range) free_now entry (piece_stands entry inside) (of_counts entry (piece_of_row entry inside)))
