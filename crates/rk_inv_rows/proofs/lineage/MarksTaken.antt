-- When the marks of a row's tablet are taken away, all that is said of another row by what masters have written stays: what bore them is
-- of the row's range alone.
use Rattle.std.proofs.Common.{◌≡◌, ℕ, ◌+◌, ◌≤◌, Bool, true, false, ◌&&◌, eqb, List, [], ◌∷◌, ◌++◌, Some, refl, sym, ap, ◌∙◌, ⊎_elim, arith}
use Rattle.std.proofs.Common.{drop, filter, fold, max, nat_le, nat_lt, not, slice_get, Contains, flat_map, eqb-true, le-leb, lt-ltb}
use Rattle.rk_inv_base.proofs.Words.{and_from, and_parts, cases_Bool, false≢true, list_any, meets, Member, Range, Entry, is_in, lineage_of}
use Rattle.rk_inv_base.proofs.Words.{Precedes, Row, items_of, is_mark_of, is_marked, unmarked_from, counting, material_of, named}
use Rattle.rk_inv_base.proofs.Words.{side_entries, with_number, applied_entries, lineage_rest, lineage_truth, member_material, member_rest}
use Rattle.rk_inv_base.proofs.Words.{member_truth, Mark, IsOfRange, member_marked, named_items, View, truths, rests, SoundView, list_any_at}
use Rattle.rk_inv_rows.proofs.Words.{one_precedes, same_number, apart_either, entry_apart, place_of, any_kept, filter_stands, marks_taken}
use Rattle.rk_inv_base.proofs.views.Among.{taken_from, IsCovered, covered_by}
use Rattle.rk_inv_rows.proofs.lineage.Pieces.{covered_of}
use Rattle.rk_inv_rows.proofs.lineage.FewerMarks.{AreFewer, IsSilent, free_counts, free_names, marked_counts}

-- a test passes on a list if an element of the list passes it
any_stands : {X : Type 0} (p : X → Bool) (xs : List X) (x : X) → Contains xs x → p x ≡ true → list_any p xs ≡ true
any_stands p xs x stands passes = list_any_at p xs stands.0 x stands.1 (ap p stands.2 ∙ passes)

-- an entry of a rebuild of another range is silent
pub silent_apart : (a b : Range) → meets a b ≡ false → meets b a ≡ false → b.first ≤ b.last → (entry : Entry) → IsOfRange a entry → IsSilent b entry
silent_apart a b apart back some entry of = grind (arith, entry_apart)

module _ (v : View) (row : Row) (sound : SoundView v) (has_row : Contains v.rows row) where
  abbrev now : View
  now = marks_taken v row.tablet row.term

  abbrev old_marks : ℕ → List Mark
  old_marks q = (v.written q).marks

  abbrev new_marks : ℕ → List Mark
  new_marks q = (now.written q).marks

  abbrev covers : ℕ → Mark → Bool
  covers place mark = nat_le mark.first place && nat_lt place mark.past

  -- if an entry bore a mark and bears none now, that was a mark of the tablet
  pub record IsTaken (q place : ℕ) : Type 0 where
    pub covered : IsCovered (old_marks q) place
    pub tablet : covered.mark.tablet ≡ row.tablet

  pub taken_by : (q place : ℕ) → is_marked (old_marks q) place ≡ true → is_marked (new_marks q) place ≡ false → IsTaken q place
  taken_by q place was is =
      let covered = covered_by (old_marks q) place was in
      let mark : Mark = covered.mark in
      record {
        covered = covered;
        tablet =
            ⊎_elim
            (λ (its : is_mark_of row.tablet row.term mark ≡ true).
            eqb-true mark.tablet row.tablet (and_parts (eqb mark.tablet row.tablet) (nat_le mark.term row.term) its).0)
            (λ (other : is_mark_of row.tablet row.term mark ≡ false).
            let kept : Contains (new_marks q) mark =
            filter_stands (λ m. not (is_mark_of row.tablet row.term m)) (old_marks q) mark covered.stands (ap not other) in
            absurd
            (false≢true
            (sym is
            ∙ any_stands (covers place) (new_marks q) mark kept
            (and_from (nat_le mark.first place) (nat_lt place mark.past) (le-leb mark.first place covered.first)
            (lt-ltb place mark.past covered.past)))))
            (cases_Bool (is_mark_of row.tablet row.term mark));
      }

  -- the entry is of the row's range
  pub taken_of : (q place : ℕ) (entry : Entry) → slice_get (v.written q).entries place ≡ Some entry → is_marked (old_marks q) place ≡ true → is_marked (new_marks q) place ≡ false → IsOfRange row.range entry
  taken_of q place entry at was is =
      let taken = taken_by q place was is in
      let of = covered_of v sound q place entry at taken.covered in
      let same : of.row ≡ row = same_number v.rows of.row row sound.rows.apart of.stands has_row (of.number ∙ taken.tablet) in
      rw (← same) of.of

  -- ---- another row

  module _ (other : Row) (has_other : Contains v.rows other) (unlike : other.tablet ≡ row.tablet → ⊥) (some : other.range.first ≤ other.range.last) where
    pub apart : meets row.range other.range ≡ false
    apart =
        ⊎_elim (λ (same : other ≡ row). absurd (unlike (ap (λ (r : Row). r.tablet) same)))
        (⊎_elim (λ (before : Precedes other row). apart_either other.range row.range before.apart)
        (λ (behind : Precedes row other). behind.apart))
        (one_precedes v.rows other row sound.rows.apart has_other has_row)

    -- from a place on, of all that a master has or of a part of it
    pub fewer : (q from : ℕ) (list : List Entry) → ((k : ℕ) (e : Entry) → slice_get list k ≡ Some e → slice_get (v.written q).entries k ≡ Some e) → AreFewer other.range (old_marks q) (new_marks q) from (drop from list)
    fewer q from list part = record {
      still = λ k. any_kept (covers (from + k)) (λ m. not (is_mark_of row.tablet row.term m)) (old_marks q);
      silent = λ k entry at was is.
          silent_apart row.range other.range apart (apart_either row.range other.range apart) some entry
          (taken_of q (from + k) entry (part (from + k) entry (place_of list from k (from + k) entry refl at)) was is);
    }

    of_all : (q from : ℕ) → AreFewer other.range (old_marks q) (new_marks q) from (drop from (v.written q).entries)
    of_all q from = fewer q from (v.written q).entries (λ k e at. at)

    of_applied : (q from : ℕ) → AreFewer other.range (old_marks q) (new_marks q) from (drop from (applied_entries (v.written q)))
    of_applied q from = fewer q from (applied_entries (v.written q)) (taken_from (v.written q).applied (v.written q).entries)

    -- what counts of a log is the same
    material_by : (q from : ℕ) (list : List Entry) → AreFewer other.range (old_marks q) (new_marks q) from (drop from list)
        → material_of other.range (side_entries (v.written q).sides) (unmarked_from (new_marks q) from list)
        ≡ material_of other.range (side_entries (v.written q).sides) (unmarked_from (old_marks q) from list)
    material_by q from list are =
        ap
        (λ (l : List Entry). l ++ counting other.range (flat_map (side_entries (v.written q).sides) (named other.range (unmarked_from (new_marks q) from list))))
        (free_counts other.range (old_marks q) (new_marks q) from (drop from list) are)
        ∙ ap
        (λ (l : List ℕ). counting other.range (unmarked_from (old_marks q) from list)
        ++ counting other.range (flat_map (side_entries (v.written q).sides) (fold with_number [] l)))
        (free_names other.range (old_marks q) (new_marks q) from (drop from list) are)

    pub truth_kept : (m : Member) → member_truth now.written other.range m ≡ member_truth v.written other.range m
    truth_kept m = material_by m.master m.from (applied_entries (v.written m.master)) (of_applied m.master m.from)

    pub material_kept : (m : Member) → member_material now.written other.range m ≡ member_material v.written other.range m
    material_kept m = material_by m.master m.from (v.written m.master).entries (of_all m.master m.from)

    pub rest_kept : (m : Member) → member_rest now.written other.range m ≡ member_rest v.written other.range m
    rest_kept m =
        let from : ℕ = max m.from (v.written m.master).applied in
        free_counts other.range (old_marks m.master) (new_marks m.master) from (drop from (v.written m.master).entries) (of_all m.master from)

    pub marked_kept : (m : Member) → member_marked now.written other.range m ≡ member_marked v.written other.range m
    marked_kept m =
        marked_counts other.range (old_marks m.master) (new_marks m.master) m.from (drop m.from (v.written m.master).entries)
        (of_all m.master m.from)

    pub named_kept : (q from : ℕ) → named_items other.range from (now.written q) ≡ named_items other.range from (v.written q)
    named_kept q from =
        ap (λ (l : List ℕ). filter (is_in other.range) (items_of (flat_map (side_entries (v.written q).sides) (fold with_number [] l))))
        (free_names other.range (old_marks q) (new_marks q) from (drop from (v.written q).entries) (of_all q from))

    -- so truth and rest are the same lists
    truths_by : (l : List Member) → flat_map (member_truth now.written other.range) l ≡ flat_map (member_truth v.written other.range) l
    truths_by [] = refl
    truths_by (m ∷ l) =
        ap (λ (t : List Entry). t ++ flat_map (member_truth now.written other.range) l) (truth_kept m)
        ∙ ap (λ (t : List Entry). member_truth v.written other.range m ++ t) (truths_by l)

    lineage_kept : (l : List Member) → lineage_truth v.base now.written other.range l ≡ lineage_truth v.base v.written other.range l
    lineage_kept [] = refl
    lineage_kept (m ∷ l) = truths_by (m ∷ l)

    rests_by : (l : List Member) → lineage_rest now.written other.range l ≡ lineage_rest v.written other.range l
    rests_by [] = refl
    rests_by (m ∷ []) = rest_kept m
    rests_by (m ∷ next ∷ l) = rests_by (next ∷ l)

    pub truths_kept : truths now other ≡ truths v other
    truths_kept = lineage_kept (lineage_of other.phase)

    pub rests_kept : rests now other ≡ rests v other
    rests_kept = rests_by (lineage_of other.phase)
