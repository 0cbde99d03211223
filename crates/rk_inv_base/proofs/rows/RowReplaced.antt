-- A view stays sound when a row is replaced by another one of its number and range, of which all holds that is said of rows, and what is
-- noted of its tablet may change with it.
use Rattle.rk_inv_base.proofs.Words.{arith, ◌≡◌, ℕ, true, List, Some, refl, sym, ap, subst, ◌∙◌, ⊎_elim, ◌⊎◌, IfSome, is_some, Contains}
use Rattle.rk_inv_base.proofs.Words.{flat_map, slice_index_or, All, ◌<◌, length, false, All-weaker, IfSome_then, hash_of, NumberMap, get}
use Rattle.rk_inv_base.proofs.Words.{meets, Call, Ended, Held, Node, Range, Entry, ends_of, lawful_turned, lineage_of, is_covered, replaced}
use Rattle.rk_inv_base.proofs.Words.{row_of, Phase, Row, Body, Handed, last_of, second_of, has_all, has_key, may_have_staged, member_truth}
use Rattle.rk_inv_base.proofs.Words.{IsKnown, IsStagedEnd, HasWholeRows, IsEntryWithin, IsItemWithin, IsOfWholeRows, IsWithinRows}
use Rattle.rk_inv_base.proofs.Words.{beginning_in, handed_for_grant, is_waiting, second_has, target_truth, IsRebuiltBy, row_at, Waits}
use Rattle.rk_inv_base.proofs.Words.{HandoverFits, tenure_in, range_in, View, rests, SoundView, CoverOf, EachIn, Placed, is_absent}
use Rattle.rk_inv_base.proofs.Base.{SaysIn, SoundRow, SoundBeside, each_row, view_by_rows, waits_for, staged_as, all_turned, covered_turned}
use Rattle.rk_inv_base.proofs.Base.{known_turned, new_stands, none_known, stands_found, stands_still}
use Rattle.rk_inv_base.proofs.rows.OtherRows.{all_others}

-- the view in which a row is at this term and in this phase, and this is noted of tablets
abbrev pub row_replaced : View → Row → ℕ → Phase → NumberMap Handed → View
row_replaced v row term phase handed = record v { rows = replaced row.tablet (row_at row term phase) v.rows; handed = handed }

-- a row may be replaced if all that is said of rows holds of the new one, no living master is rebuilding the old one, and those calls
-- that wait for it wait for its last member still. What is noted of other tablets stays
pub record MayReplace (v : View) (row : Row) (term : ℕ) (phase : Phase) (handed : NumberMap Handed) : Type 0 where
  pub has_row : Contains v.rows row
  pub kept : (q number : ℕ) → HandoverFits row number (v.handovers q number) → HandoverFits (row_at row term phase) number (v.handovers q number)
  pub given_up : (q : ℕ) → v.live q ≡ true → IsRebuiltBy row.phase q → ⊥
  pub waits :
      (q n : ℕ) (call : Call) (wait : Waits v.rows (v.handovers q) (v.written q) q n call) → wait.row ≡ row
      → last_of (lineage_of phase) ≡ last_of (lineage_of row.phase)
  pub others : (number : ℕ) → (number ≡ row.tablet → ⊥) → get handed number ≡ get v.handed number
  pub holds : SoundRow (row_replaced v row term phase handed) (row_at row term phase)

-- ---- what is noted of other tablets

module _ (v : View) (rows : List Row) (handed : NumberMap Handed) (row : Row) (same : get handed row.tablet ≡ get v.handed row.tablet) where
  abbrev noted : View
  noted = record v { rows = rows; handed = handed }

  granted_as : (P : Handed → Type 0) → IfSome (handed_for_grant row v.handovers v.handed) P → IfSome (handed_for_grant row v.handovers handed) P
  granted_as P = grind (arith, is_waiting, second_has, second_of, lineage_of)

  target_as : (phase : Phase) → target_truth v.written v.handed row phase ≡ target_truth v.written handed row phase
  target_as phase = grind (arith, beginning_in, member_truth)

  says_as : (from to : Node) (body : Body) → SaysIn v row from to body → SaysIn noted row from to body
  says_as from to body said = grind arith

  -- of a row all holds that held, if the same is noted of its tablet
  row_noted : SoundRow v row → SoundRow noted row
  row_noted was = grind (arith, target_as, granted_as, lineage_of, says_as)

-- ---- what lay in rows lies there

-- a row may be replaced by one of its number and range
module _ (v : View) (row new : Row) (sound : SoundView v) (has_row : Contains v.rows row) (number : new.tablet ≡ row.tablet) (range : new.range ≡ row.range) where
  abbrev rows : List Row
  rows = replaced row.tablet new v.rows

  stands : row_of v.rows row.tablet ≡ Some row
  stands = stands_found v.rows row sound.rows.apart has_row

  pub covered_replaced : (table hash : ℕ) → is_covered rows table hash ≡ is_covered v.rows table hash
  covered_replaced = covered_turned v.rows row.tablet row new stands range

  pub known_replaced : (n : ℕ) → is_some (row_of rows n) ≡ is_some (row_of v.rows n)
  known_replaced = known_turned v.rows row.tablet row new stands number

  range_within : (range : Range) → IsWithinRows v.rows range → IsWithinRows rows range
  range_within range lies hash inside = covered_replaced range.table hash ∙ lies hash inside

  item_within : (item : Held) → IsItemWithin v.rows item → IsItemWithin rows item
  item_within item lies = covered_replaced item.table (hash_of item.key) ∙ lies

  entry_within : (entry : Entry) → IsEntryWithin v.rows entry → IsEntryWithin rows entry
  entry_within entry lies = grind (arith, item_within, covered_replaced, hash_of, range_within)

  of_whole : (whole : Range) → HasWholeRows v.rows whole → HasWholeRows rows whole
  of_whole whole =
      all_turned (λ r. meets r.range whole ≡ true → has_all whole r.range ≡ true) v.rows row new row.tablet has_row
      (subst (λ (r : Range). meets r whole ≡ true → has_all whole r ≡ true) (sym range))

  entry_whole : (entry : Entry) → IsOfWholeRows v.rows entry → IsOfWholeRows rows entry
  entry_whole entry whole = grind (arith, of_whole)

  pub cover_replaced : (handed : NumberMap Handed) → CoverOf (record v { rows = rows; handed = handed })
  cover_replaced handed = record {
    unknown = λ q r none. sound.cover.unknown q r (none_known (row_of v.rows r) (row_of rows r) (known_replaced r) none);
    marks = λ q k d within. known_replaced (slice_index_or (v.written q).marks k d).tablet ∙ sound.cover.marks q k d within;
    sent = λ n m there. IfSome_then (tenure_in m.body) (sound.cover.sent n m there) (λ tenure knows. known_replaced tenure.tablet ∙ knows);
    ranges = λ q r begun. range_within (v.handovers q r).range (sound.cover.ranges q r begun);
    ordered = λ n m there. IfSome_then (range_in m.body) (sound.cover.ordered n m there) range_within;
    entries = λ q. All-weaker _ _ entry_within (v.written q).entries (sound.cover.entries q);
    sides = λ q. All-weaker _ _ item_within (flat_map (λ items. items) (v.written q).sides) (sound.cover.sides q);
    items = λ q. All-weaker _ _ item_within (v.records q) (sound.cover.items q);
    wholes = λ q. All-weaker _ _ entry_whole (v.written q).entries (sound.cover.wholes q);
  }

module _ (v : View) (row : Row) (term : ℕ) (phase : Phase) (handed : NumberMap Handed) (sound : SoundView v) (may : MayReplace v row term phase handed) where
  abbrev new : Row
  new = row_at row term phase

  abbrev now : View
  now = row_replaced v row term phase handed

  found : row_of v.rows row.tablet ≡ Some row
  found = stands_found v.rows row sound.rows.apart may.has_row

  -- ---- what is staged and what waits

  -- what was staged of a row that is rebuilt is so: of this row no living master rebuilds any
  staged_end : (q r number : ℕ) (end : Ended) → v.live q ≡ true → IsStagedEnd v.rows (rests v) q r number end → IsStagedEnd now.rows (rests v) q r number end
  staged_end q r number end lives s =
      ⊎_elim
      (λ (is : s.row ≡ row).
      let by : IsRebuiltBy s.row.phase q = rw s.rebuilt refl in
      absurd (may.given_up q lives (rw is at by)))
      (λ (stands : Contains now.rows s.row). staged_as _ _ _ _ _ _ _ _ _ s stands s.told s.at_term)
      (stands_still v.rows row.tablet row new s.row found s.stands)

  known : (q r : ℕ) → v.live q ≡ true → All (λ end. IsKnown v.base v.journal end ⊎ IsStagedEnd now.rows (rests v) q r (v.handovers q r).term end) (ends_of (v.completions q r))
  known q r lives = grind (arith, rests, staged_end, ends_of)

  waiting : (q : ℕ) → v.live q ≡ true → EachIn (λ n call. Waits now.rows (v.handovers q) (v.written q) q n call) (v.calls q)
  waiting q lives n call there =
      let wait = sound.rest.waiting q lives n call there in
      ⊎_elim
      (λ (is : wait.row ≡ row).
      waits_for v.rows now.rows (v.handovers q) (v.handovers q) (v.written q) q n call wait new (new_stands v.rows row.tablet row new found)
      (ap (λ (r : Row). has_key r.range call.table call.key) (sym is) ∙ wait.in_row)
      (may.waits q n call wait is ∙ ap (λ (r : Row). last_of (lineage_of r.phase)) (sym is) ∙ wait.is_last)
      (ap (λ (r : Row). may_have_staged (v.handovers q r.tablet).role) (sym is) ∙ wait.may_stage))
      (λ (stands : Contains now.rows wait.row).
      waits_for v.rows now.rows (v.handovers q) (v.handovers q) (v.written q) q n call wait wait.row stands wait.in_row wait.is_last wait.may_stage)
      (stands_still v.rows row.tablet row new wait.row found wait.has_row)

  -- ---- the whole

  beside : SoundBeside now
  beside =
      assumption (
        lawful_turned v.rows row.tablet row new found refl refl sound.rows.apart,
        λ (k : ℕ) (d : Placed) (within : k < length v.journal).
            covered_replaced v row new sound may.has_row refl refl _ _ ∙ sound.rows.covered k d within,
        λ (q number : ℕ).
            all_turned (λ r. HandoverFits r number (v.handovers q number)) v.rows row new row.tablet may.has_row (may.kept q number) (sound.terms.kept q number),
        cover_replaced v row new sound may.has_row refl refl handed,
        λ (q r : ℕ) (lives : v.live q ≡ true) (there : is_absent (v.handovers q r).role ≡ false).
            known_replaced v row new sound may.has_row refl refl r ∙ sound.roles.known q r lives there,
        known,
        waiting,
      )

  pub view_replaced : SoundView now
  view_replaced =
      view_by_rows now beside
      (all_others v.rows row new sound.rows.apart may.has_row refl refl (SoundRow v) (SoundRow now) (λ was. may.holds)
      (λ r has apart was. row_noted v now.rows handed r (may.others r.tablet apart) was) (each_row v sound))
