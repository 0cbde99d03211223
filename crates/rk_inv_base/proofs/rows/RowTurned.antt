-- A view stays sound when a row is turned: it is at another phase of the same lineage, at a greater term, or opens and goes on to open.
use Rattle.rk_inv_base.proofs.Words.{◌≡◌, ℕ, ◌≤◌, true, List, [], ◌∷◌, Option, sym, ap, subst, arith, inl, All, IfSome, ◌++◌}
use Rattle.rk_inv_base.proofs.Words.{Member, map_after, Entry, lineage_of, changed_rows, Phase, Row, Body, base_map, Handed, items_of, told}
use Rattle.rk_inv_base.proofs.Words.{first_of, is_member, last_of, lineage_rest, lineage_truth, member_truth, AreHandedOver, handed_by}
use Rattle.rk_inv_base.proofs.Words.{handed_for_grant, IsKnown, TellAll, AreAboveMap, IsNext, MayTurn, row_at, AreAbove, StillCounts}
use Rattle.rk_inv_base.proofs.Words.{HandedFits, MembersFit, NamedFit, FirstIsDone, IsRest, OnlyIsUnnamed, IsPlaced, IsTableOf}
use Rattle.rk_inv_base.proofs.Words.{HandoverFits, SentFits, tenure_in, range_in, IsTruth, View, SoundView}
use Rattle.rk_tablet_map.specs.Rows.{turned as changed}
use Rattle.rk_sound.specs.Small.{turned}
use Rattle.rk_inv_base.proofs.Base.{row_in, SoundRow, at_most, counted_before, stands_found}
use Rattle.rk_inv_base.proofs.rows.RowReplaced.{view_replaced}
use Rattle.rk_inv_base.proofs.rows.RowSays.{for_grant, hands, says}

module _ (v : View) (row : Row) (term : ℕ) (phase : Phase) (sound : SoundView v) (may : MayTurn v row term phase) where
  abbrev new : Row
  new = row_at row term phase

  abbrev now : View
  now = turned v new

  was : SoundRow v row
  was = row_in v sound row may.has_row

  -- what holds of the row's lineage holds of the new one
  over : (P : List Member → Type 0) → P (lineage_of row.phase) → P (lineage_of phase)
  over P = subst P (sym may.lineage_is)

  abbrev truth_with : List Member → List Entry
  truth_with = lineage_truth v.base v.written row.range

  abbrev rest_with : List Member → List Entry
  rest_with = lineage_rest v.written row.range

  -- the term does not fall, so what counts counted before
  grows : row.term ≤ term
  grows = grind arith

  counts : (q : ℕ) → StillCounts (v.live q) (v.handovers q row.tablet).term term → StillCounts (v.live q) (v.handovers q row.tablet).term row.term
  counts q =
      counted_before (v.live q) (v.handovers q row.tablet).term row.term term (at_most v row q sound may.has_row) grows

  kept : (q number : ℕ) → HandoverFits row number (v.handovers q number) → HandoverFits new number (v.handovers q number)
  kept q number fits = grind (arith, grows)

  sent_fits : (body : Body) → SentFits row body → SentFits new body
  sent_fits body fits = grind (arith, tenure_in, grows, range_in)

  -- a number is next behind the row
  abbrev IsNextBehind : List Member → ℕ → Type 0
  IsNextBehind l = IsNext (truth_with l ++ rest_with l)

  next_over : (given : Option Handed) → IfSome given (λ h. IsNextBehind (lineage_of row.phase) h.floor) → IfSome given (λ h. IsNextBehind (lineage_of phase) h.floor)
  next_over given = over (λ l. IfSome given (λ h. IsNextBehind l h.floor))

  members_fit : (l : List Member) → MembersFit row v.written v.handovers v.pullings v.records v.handed l → MembersFit new v.written v.handovers v.pullings v.records v.handed l
  members_fit (source ∷ target ∷ []) fit = fit
  members_fit _ fit = tt

  handed_fits : (l : List Member) → HandedFits row v.handovers v.completions v.handed l → HandedFits new v.handovers v.completions v.handed l
  handed_fits (source ∷ target ∷ []) fit = fit
  handed_fits _ fit = tt

  holds : SoundRow now new
  holds = record {
    nodes = may.named;
    rows = record {
      begun = let begun = was.rows.begun in omega (arith, begun, grows);
      formed = may.formed;
      placed = over (All (IsPlaced v.written)) was.rows.placed;
    };
    terms = λ n m there. sent_fits m.body (was.terms n m there);
    roles = record {
      fitting = λ q counting. (may.posts q counting).fits;
      ranged = λ q counting inside. was.roles.ranged q (counts q counting) (over (λ l. is_member l q ≡ true → is_member (lineage_of row.phase) q ≡ true) (λ is. is) inside);
      at_term = may.at_term;
    };
    truth = over (λ l. IsTruth v.base row.range (truth_with l) v.journal) was.truth;
    order = over (λ l. AreAbove (items_of (truth_with l)) (items_of (rest_with l))) was.order;
    calls = record {
      reached = over (λ l. TellAll row.range v.journal (truth_with l)) was.calls.reached;
      recorded = over (λ l. All (IsKnown v.base v.journal) (told (truth_with l))) was.calls.recorded;
      moving = rw may.unmoved tt;
      answering = λ q counting says. was.calls.answering q (counts q counting) ((may.posts q counting).speaks says);
      granted = rw (for_grant v row term phase may) was.calls.granted;
      sent = λ n m there.
          hands v row term phase may (λ h. AreHandedOver v.base row.range v.journal h.ends) m.body (was.terms n m there)
          (was.calls.sent n m there);
    };
    counters = record {
      low = over (λ l. AreAboveMap row.range (map_after (base_map v.base) v.journal) (truth_with l)) was.counters.low;
      moving = rw may.unmoved tt;
      counted = λ q counting says.
          over (λ l. IsNextBehind l (v.handovers q row.tablet).counter) (was.counters.counted q (counts q counting) ((may.posts q counting).speaks says));
      granted = rw (for_grant v row term phase may) (next_over (handed_for_grant row v.handovers v.handed) was.counters.granted);
      sent = λ n m there.
          hands v row term phase may (λ h. IsNextBehind (lineage_of phase) h.floor) m.body (was.terms n m there)
          (next_over (handed_by row v.handovers m.body) (was.counters.sent n m there));
    };
    rest = record {
      goes_on = over (λ l. IsRest v.base row.range (truth_with l) (rest_with l) v.journal v.asked) was.rest.goes_on;
      done = over (FirstIsDone v.written row.range) was.rest.done;
      unnamed = over (OnlyIsUnnamed v.written row.range) was.rest.unnamed;
      idle = λ q counting. was.rest.idle q (counts q counting);
    };
    tables = λ q lives has.
        over (λ l. IfSome (first_of l) (λ first. IsTableOf row.range (member_truth v.written row.range first) (v.records q)))
        (was.tables q lives ((may.posts q (inl lives)).full has));
    receives = record {
      target = over (MembersFit new v.written v.handovers v.pullings v.records v.handed) (members_fit (lineage_of row.phase) was.receives.target);
      handed_on = over (HandedFits new v.handovers v.completions v.handed) (handed_fits (lineage_of row.phase) was.receives.handed_on);
      named = over (NamedFit v.written row.range) was.receives.named;
    };
    rebuilds = record {
      rebuilt =
          grind (arith, over, v.logs, v.written, v.stored, v.handovers, v.completions, v.gathers, v.merged, v.records, v.live, may.rebuilt);
      marks = may.marks;
      pieces = was.rebuilds.pieces;
    };
    messages = λ n m there. says v row term phase may m.from m.to m.body (was.terms n m there) (was.messages n m there);
  }

  pub view_turned : SoundView now
  view_turned = grind (arith, view_replaced, kept, last_of, holds)

  -- so it does with the rows of a lane after it
  pub view_changed : SoundView (record v { rows = changed_rows v.rows row.tablet term phase })
  view_changed =
      subst (λ (rows : List Row). SoundView (record v { rows = rows }))
      (sym (ap (λ (o : Option Row). changed o v.rows row.tablet term phase) (stands_found v.rows row sound.rows.apart may.has_row))) view_turned
