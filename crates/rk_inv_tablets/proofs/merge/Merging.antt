-- A rebuild merges what it gathered: what is known of its row and its own entries, what changes at its master, and what stays as it was.
use Rattle.std.proofs.Common.{◌≡◌, ℕ, suc, ◌+◌, ◌≤◌, true, false, List, [], ◌∷◌, ◌++◌, length, Some, None, refl, sym, ap, ◌∙◌, arith, fold}
use Rattle.std.proofs.Common.{length-append, All, drop, slice_get, Contains, flat_map, subst, ◌&&◌, append_assoc, ◌==◌, nat_lt, le-ltb}
use Rattle.std.proofs.Common.{ne_eqb, append-nil}
use Rattle.rk_inv_base.proofs.Words.{false≢true, length-map, All-contains, Member, Range, Entry, Handover, Role, lineage_of, Rebuilding}
use Rattle.rk_inv_base.proofs.Words.{Row, is_marked, unmarked_from, as_entries, counting, counts, material_of, named_by, side_entries}
use Rattle.rk_inv_base.proofs.Words.{with_number, own_place, Written, member_material, member_rest, Mark, Merged, Holds, bond_of, post_of}
use Rattle.rk_inv_base.proofs.Words.{IsOfRange, RowIsRebuilt, closing_carried, has_merged, View, truths, rests, SoundView, Tablet}
use Rattle.rk_inv_base.proofs.Words.{completions_from, false_from_ne_true, and_left, and_right, cond-false, All-weaker, filter-append, Log}
use Rattle.rk_inv_base.proofs.Words.{with_entry, EntryEnd, NeededOf, given_up_marks, marked_entries, member_given_up, stored_count}
use Rattle.rk_inv_base.proofs.Words.{cases_eq, is_absent, is_side_stored, All-nil}
use Rattle.rk_inv_tablets.proofs.Words.{member as member_at, put_by, put2_by, put2_here, put2_other, applied_within, place_of}
use Rattle.rk_inv_tablets.proofs.Words.{IsRebuilderIn, LooksAs, looks_same, MayMergeFormed, as_merged, merge_in, merged_view, own_entries}
use Rattle.rk_inv_tablets.proofs.Words.{piece_entries, piece_mark, with_piece, row_in, SoundRow, put_other, same_number, stored_push}
use Rattle.rk_inv_tablets.proofs.Words.{kept_within, with_entries, marked_none}
use Rattle.rk_inv_tablets.proofs.crash.MarkedPieces.{HasMark, mark_of}
use Rattle.rk_inv_tablets.proofs.crash.PieceRows.{marked_names_none, marked_of_row}
use Rattle.rk_inv_tablets.proofs.merge.Heirs.{at_term, gathering_rebuilds, gathers_from, merged_goes_on}
use Rattle.rk_inv_tablets.proofs.merge.OfRange.{Counts, material_counts, piece_inside, segments_none}
use Rattle.rk_inv_tablets.proofs.merge.Pieces.{free_counting, free_names, from_piece, marked_from_more}
use Rattle.rk_inv_base.proofs.views.Turned.{IsTurned}
use Rattle.rk_inv_tablets.proofs.grow.Grown.{Growing}
use Rattle.rk_inv_tablets.proofs.merge.LogsMore.{logs_more}
use Rattle.rk_inv_tablets.proofs.grow.MoreLog.{more_piece, more_itself, HasMore, rest_by}
use Rattle.rk_transfer.specs.declared.role.Role.TheVariants as roles

-- a merge that a master may make for a row, in a sound view
pub record Merging (v : View) : Type 0 where
  pub row : Row
  pub master : ℕ
  pub sound : SoundView v
  pub has_row : Contains v.rows row
  pub may : MayMergeFormed v master row.tablet

-- a piece has one entry more than there are copies
pub piece_length : (handover : Handover) (merged : Merged) → length (piece_entries handover merged) ≡ suc (length merged.copies)
piece_length handover merged = grind (arith, length-append, as_entries, closing_carried, length-map)

module _ (v : View) (a : Merging v) where
  -- what the master has of the tablet, and what it merges
  abbrev pub old : Handover
  old = v.handovers a.master a.row.tablet

  abbrev pub merged : Merged
  merged = merge_in v a.master a.row.tablet

  -- what it appends, from which place on, and with which mark
  abbrev pub piece : List Entry
  piece = piece_entries (v.handovers a.master a.row.tablet) (merge_in v a.master a.row.tablet)

  abbrev pub first : ℕ
  first = length (v.written a.master).entries

  abbrev pub closing : ℕ
  closing = length (v.written a.master).entries + length (merge_in v a.master a.row.tablet).copies

  abbrev pub mark : Mark
  mark =
      piece_mark a.master a.row.tablet (v.handovers a.master a.row.tablet).term (length (v.written a.master).entries)
      (length (merge_in v a.master a.row.tablet).copies)

  -- what it has of the tablet then
  abbrev pub new : Handover
  new = as_merged closing (merge_in v a.master a.row.tablet).floor (v.handovers a.master a.row.tablet)

  abbrev pub now : View
  now = merged_view v a.master a.row.tablet (merge_in v a.master a.row.tablet)

  -- ---- what is kept

  -- what holds of what is written with the piece, and of that as it was, holds of each; so it is of handovers
  pub of_written : (P : Written → Type 0) (q : ℕ) → (q ≡ a.master → P (with_piece (v.written q) piece mark)) → ((q ≡ a.master → ⊥) → P (v.written q)) → P (now.written q)
  of_written P q here was = put_by v.written a.master (λ w. with_piece w piece mark) P q here was

  pub of_handover : (P : Handover → Type 0) (q r : ℕ) → (q ≡ a.master → r ≡ a.row.tablet → P (as_merged closing merged.floor (v.handovers q r))) → ((q ≡ a.master → r ≡ a.row.tablet → ⊥) → P (v.handovers q r)) → P (now.handovers q r)
  of_handover P q r here was = put2_by v.handovers a.master a.row.tablet (as_merged closing merged.floor) P q r here was

  -- what it has of the tablet
  abbrev pub tablet : Tablet
  tablet = record {
    handover = new;
    completions = completions_from [] merged.ends;
    pulling = v.pullings a.master a.row.tablet;
    gather = v.gathers a.master a.row.tablet;
    merged_ends = merged.ends;
  }

  -- that it has, and all others have what they had
  pub turned : IsTurned v now a.master a.row.tablet tablet
  turned = grind (arith, put2_here, completions_from, put2_other)

  -- what is applied is in the log
  pub within : (q : ℕ) → (v.written q).applied ≤ length (v.written q).entries
  within q = applied_within (v.logs q) (v.written q) _ (a.sound.logs.each q)

  -- and so are the marked pieces
  pub marked : (q : ℕ) → All (λ mark. mark.past ≤ length (v.written q).entries) (v.written q).marks
  marked q = (a.sound.logs.each q).marked

  -- ---- the row

  -- what is known of it
  pub row_was : SoundRow v a.row
  row_was = row_in v a.sound a.row a.has_row

  -- the role knows its place, and has no closing entry
  pub gathers : (from : ℕ) × (old.role ≡ roles.Rebuilding from None)
  gathers = gathers_from old.role a.may.may.gathering

  -- it fits the master's post
  pub fit : Holds (bond_of (post_of a.row.phase a.master) (roles.Rebuilding gathers.0 None)) a.row.term old.term (v.written a.master).applied
  fit = grind (arith, gathers, row_was)

  -- the row is rebuilt by the master, at its own term
  pub rebuilt : (lineage : List Member) × (a.row.phase ≡ Rebuilding lineage a.master)
  rebuilt = gathering_rebuilds a.row.term old.term (v.written a.master).applied gathers.0 a.row.phase a.master fit

  pub term_is : old.term ≡ a.row.term
  term_is = at_term a.row.term old.term (v.written a.master).applied gathers.0 (post_of a.row.phase a.master) fit

  -- what holds of it while it is rebuilt
  pub rebuilt_row : RowIsRebuilt a.row (Rebuilding rebuilt.0 a.master) (truths v a.row) v.logs v.written v.stored v.handovers v.completions v.gathers v.merged v.records v.live
  rebuilt_row = grind (arith, truths, gathers, rebuilt, row_was)

  -- and of the master that rebuilds it
  pub rebuilder : IsRebuilderIn v.logs v.written v.stored a.row rebuilt.0 a.master (truths v a.row) old (v.completions a.master a.row.tablet) (v.gathers a.master a.row.tablet) (v.merged a.master a.row.tablet) (v.records a.master)
  rebuilder = rebuilt_row.0 term_is

  -- its range is not empty
  pub some : a.row.range.first ≤ a.row.range.last
  some = All-contains (λ (r : Row). r.range.first ≤ r.range.last) v.rows a.row a.may.ranges a.has_row

  -- ---- marks that were there

  -- none is of the row
  pub unmarked : (m : Mark) → Contains (v.written a.master).marks m → m.tablet ≡ a.row.tablet → ⊥
  unmarked m stands its = grind (arith, row_was, false≢true, has_merged, gathers)

  -- so no marked entry counts for the row
  uncounted : (place : ℕ) (e : Entry) → slice_get (v.written a.master).entries place ≡ Some e → is_marked (v.written a.master).marks place ≡ true → counts a.row.range e ≡ false
  uncounted place e at is =
      let found : HasMark (v.written a.master).marks place = mark_of (v.written a.master).marks place is in
      false_from_ne_true (counts a.row.range e)
      (λ its. unmarked found.mark found.here (marked_of_row v a.sound a.master place e at found a.row a.has_row some its))

  -- ---- what is merged

  -- what the master has of its own is what counts of it
  abbrev pub mine : List Entry
  mine = member_material v.written a.row.range (member_at a.master (own_place (v.handovers a.master a.row.tablet).role))

  -- what it has of its own, marked entries too, is just that
  pub own_is : own_entries v a.master a.row.tablet ≡ mine
  own_is =
      let w : Written = v.written a.master in
      let from : ℕ = own_place old.role in
      let range : Range = a.row.range in
      let list : List Entry = drop from w.entries in
      let there : (k : ℕ) (e : Entry) → slice_get list k ≡ Some e → slice_get w.entries (from + k) ≡ Some e =
      (λ k e at. place_of w.entries from k (from + k) e refl at) in
      let counted : counting range list ≡ counting range (unmarked_from w.marks from w.entries) =
      free_counting range w.marks from list (λ k e at is. uncounted (from + k) e (there k e at) is) in
      let names : flat_map (named_by range) list ≡ flat_map (named_by range) (unmarked_from w.marks from w.entries) =
      free_names range w.marks from list
      (λ k e at is. marked_names_none v a.sound a.master (from + k) e (there k e at) (mark_of w.marks (from + k) is) range) in
      ap (λ (r : Range). material_of r (side_entries w.sides) list) rebuilder.range_is
      ∙ (λ i. counted i ++ counting range (flat_map (side_entries w.sides) (fold with_number [] (names i))))

  -- the piece is of the row's range
  pub inside : All (IsOfRange a.row.range) piece
  inside =
      let gather = v.gathers a.master a.row.tablet in
      let range : gather.range ≡ a.row.range = rebuilder.gather.range_is in
      let mine_counts : All (Counts gather.range) (own_entries v a.master a.row.tablet) =
      rw (← (rebuilder.range_is ∙ sym range))
      (material_counts old.range (side_entries (v.written a.master).sides) (drop (own_place old.role) (v.written a.master).entries)) in
      rw (← range) (piece_inside gather (own_entries v a.master a.row.tablet) old (rebuilder.range_is ∙ sym range) mine_counts)

  -- the mark is that of the piece
  pub past_is : mark.first + length piece ≡ mark.past
  past_is = omega (arith, piece_length old merged)

  -- ---- what counts: nothing of the piece is seen

  -- the entries without a mark are those that there were
  pub free_same : (q from : ℕ) → unmarked_from (now.written q).marks from (now.written q).entries ≡ unmarked_from (v.written q).marks from (v.written q).entries
  free_same q from = grind (arith, of_written, unmarked_from, from_piece, past_is)

  pub sides_same : (q : ℕ) → (now.written q).sides ≡ (v.written q).sides
  sides_same q = of_written (λ (w : Written). w.sides ≡ (v.written q).sides) q (λ at. refl) (λ apart. refl)

  pub applied_same : (q : ℕ) → (now.written q).applied ≡ (v.written q).applied
  applied_same q = of_written (λ (w : Written). w.applied ≡ (v.written q).applied) q (λ at. refl) (λ apart. refl)

  -- so what a member has written counts as before, and what is not applied
  pub material_same : (range : Range) (member : Member) → member_material now.written range member ≡ member_material v.written range member
  material_same range member = (λ i. material_of range (side_entries (sides_same member.master i)) (free_same member.master member.from i))

  pub rest_same : (range : Range) (member : Member) → member_rest now.written range member ≡ member_rest v.written range member
  rest_same range member = grind (arith, counting, unmarked_from, applied_same, free_same)

  -- rests of all rows are as before
  pub rests_same : ◌≡◌ {A = Row → List Entry} (rests now) (rests v)
  rests_same i x = rest_by v.written now.written x.range (lineage_of x.phase) (rest_same x.range) i

  -- ---- how tablets look

  -- the old role
  pub role_is : (q r : ℕ) → q ≡ a.master → r ≡ a.row.tablet → (v.handovers q r).role ≡ roles.Rebuilding gathers.0 None
  role_is q r at its = ap (λ (n : ℕ). (v.handovers n r).role) at ∙ ap (λ (n : ℕ). (v.handovers a.master n).role) its ∙ gathers.1

  -- the role with its closing entry
  pub new_role : (h : Handover) → h.role ≡ roles.Rebuilding gathers.0 None → (as_merged closing merged.floor h).role ≡ roles.Rebuilding gathers.0 (Some closing)
  new_role h is = ap (λ (role : Role). roles.Rebuilding (own_place role) (Some closing)) is

  -- for rows and messages each tablet looks as it did
  pub looks : (q r : ℕ) → LooksAs (v.handovers q r) (now.handovers q r)
  looks q r =
      of_handover (LooksAs (v.handovers q r)) q r
      (λ at its. record {
        term = refl;
        range = refl;
        role = rw (new_role (v.handovers q r) (role_is q r at its), role_is q r at its) (merged_goes_on gathers.0 closing);
        counter = λ frozen. let never = sym (role_is q r at its) ∙ frozen in absurd (cc never);
      })
      (λ apart. looks_same (v.handovers q r))

  -- what does not distinguish the two roles is the same of each tablet
  pub by_role : {X : Type 0} (f : Role → X) → f (roles.Rebuilding gathers.0 (Some closing)) ≡ f (roles.Rebuilding gathers.0 None) → (q r : ℕ) → f (now.handovers q r).role ≡ f (v.handovers q r).role
  by_role f same q r =
      of_handover (λ (h : Handover). f h.role ≡ f (v.handovers q r).role) q r
      (λ at its. ap f (new_role (v.handovers q r) (role_is q r at its)) ∙ same ∙ sym (ap f (role_is q r at its))) (λ apart. refl)

-- a backup stores as many first entries of a log with more
pub stored_more : (log : Log) (list : List Entry) (stored : ℕ → List ℕ) → stored_count log stored ≤ stored_count (with_entries log list) stored
stored_more log [] stored = grind (arith, stored_count, append-nil, log.entries)
stored_more log (entry ∷ list) stored =
    grind (arith, stored_push, with_entry, stored_count, append_assoc, log.entries, (stored_more (with_entry log entry) list stored))

module _ (v : View) (a : Merging v) where
  -- ---- what is needed of others

  -- no mark of a rebuild that was given up is new
  given_up_same : (x : Row) → Contains v.rows x → given_up_marks x ((v.written a.master).marks ++ mark v a ∷ []) ≡ given_up_marks x (v.written a.master).marks
  given_up_same x has =
      grind (arith, nat_lt, same_number, term_is, and_right, le-ltb, and_left, ne_eqb, cases_eq, filter-append, cond-false, append-nil)

  -- nor is anything that they count
  gave_up_same : (x : Row) → Contains v.rows x → (first : Member) → member_given_up (now v a).written x first ≡ member_given_up v.written x first
  gave_up_same x has first =
      of_written v a
      (λ (w : Written). counting x.range (marked_entries (given_up_marks x w.marks) first.from (drop first.from w.entries)) ≡ member_given_up v.written x first)
      first.master
      (λ at.
      let w : Written = v.written first.master in
      let kept : List Mark = given_up_marks x w.marks in
      let same : given_up_marks x (w.marks ++ mark v a ∷ []) ≡ kept =
      rw at (given_up_same x has) in
      ap (λ (marks : List Mark). counting x.range (marked_entries marks first.from (drop first.from (w.entries ++ piece v a)))) same
      ∙ ap (counting x.range)
      (marked_from_more kept first.from w.entries (piece v a)
      (λ k behind.
      marked_none kept k
      (All-weaker (λ m. m.past ≤ length w.entries) (λ m. m.past ≤ k) (λ m past. omega (arith, past, behind)) kept
      (kept_within (λ m. m.tablet == x.tablet && nat_lt m.term x.term) w.marks (length w.entries) (marked v a first.master))))))
      (λ apart. refl)

  -- so no more is needed of another master
  pub needed_on : (x : Row) → Contains v.rows x → (lineage : List Member) (q : ℕ) → (q ≡ a.master → ⊥) → (end : EntryEnd) → NeededOf x (now v a).written lineage q end → NeededOf x v.written lineage q end
  needed_on x has (one ∷ last ∷ []) q away end needed = (
    needed.0,
    rw (
      ← gave_up_same x has one,
      ← material_same v a x.range one,
      ← (put_other v.written a.master (with_piece (v.written a.master) (piece v a) (mark v a)) last.master (λ at. away (sym needed.0 ∙ at))),
    )
        needed.1,
  )
  needed_on x has _ q away end needed = needed

  -- ---- the log

  -- it grows by the piece
  abbrev pub grow : Growing v
  grow = record {
    row = a.row;
    master = a.master;
    logs = (now v a).logs;
    written = (now v a).written;
    sound = a.sound;
    has_row = a.has_row;
    ranges = a.may.ranges;
    lives = a.may.may.lives;
    present = ap is_absent (gathers v a).1;
    ranged = (rebuilder v a).range_is;
    logs_are =
        logs_more v a.master (piece v a) (mark v a)
        (record {
          few = a.may.may.room;
          held =
              All-weaker _ _ (λ e of.
              subst (All (λ segment. is_side_stored (v.logs a.master) segment ≡ true)) (sym (segments_none a.row.range e of))
              (All-nil _))
              (piece v a) (inside v a);
          past = omega (arith, past_is v a, length-append (v.written a.master).entries (piece v a));
        }) a.sound.logs;
    known = λ q.
        put_by v.logs a.master (λ log. with_entries log (piece v a)) (λ log. log.known ≡ (v.logs q).known) q (λ at. refl) (λ apart. refl);
    more = λ q.
        of_written v a (HasMore a.row (v.written q)) q
        (λ at.
        more_piece a.row (v.written q) (piece v a) (mark v a) (within v a q) (inside v a) (ap (λ (n : ℕ). length (v.written n).entries) at)
        (omega (arith, past_is v a)) refl)
        (λ apart. more_itself a.row (v.written q));
    others = λ q apart. put_other v.written a.master (with_piece (v.written a.master) (piece v a) (mark v a)) q apart;
    stored = λ q stored.
        put_by v.logs a.master (λ log. with_entries log (piece v a)) (λ log. stored_count (v.logs q) stored ≤ stored_count log stored) q
        (λ at. stored_more (v.logs q) (piece v a) stored) (λ apart. omega arith);
    needed = needed_on;
  }
