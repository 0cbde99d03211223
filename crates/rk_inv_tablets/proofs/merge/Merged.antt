-- A view stays sound when a rebuild merges what it gathered: its piece bears the only mark of the tablet there, its master does not speak
-- for the row and is no target, and the ends that it keeps are recorded by the truth or the rest of the row.
use Rattle.std.proofs.Common.{arith, ℕ, [], ◌∷◌, refl, ◌≡◌, zero, suc, ◌-◌, List, ◌++◌, filter, length, sym, ap, ◌∙◌, ⊎_elim, length-append}
use Rattle.std.proofs.Common.{All, drop, take, flat_map, true, inr, ◌⊎◌, Some, inl, Contains, eq-eqb, IfSome, ◌≤◌}
use Rattle.rk_inv_base.proofs.Words.{All-cons, All-head, Node, Body, Rebuilt, RebuiltIn, View, cases_eq, EachIn, All-nil, take-append-le}
use Rattle.rk_inv_base.proofs.Words.{All-push, Contains-append_right, list_any, Range, Entry, is_in, completions_from, lineage_of, Phase}
use Rattle.rk_inv_base.proofs.Words.{Rebuilding, known_of, items_of, Gather, by_member, touches, named, side_entries, merge, own_place}
use Rattle.rk_inv_base.proofs.Words.{Written, Mark, stored_of, HasOwnRange, IsPieceOf, IsRebuilder, MarkFits, NeededOf, READ_BACKUP}
use Rattle.rk_inv_base.proofs.Words.{RowIsRebuilt, named_items, truths, cond-true, false≢true, get, Member, is_member, member_material}
use Rattle.rk_inv_base.proofs.Words.{member_truth, post_of, rebuilder_post, HandedFits, IsTarget, MembersFit, NamedFit, is_granted}
use Rattle.rk_inv_base.proofs.Words.{All-contains, All-weaker, Ended, ends_of, is_serving, told, is_rebuilding, IsKnown, IsStagedEnd}
use Rattle.rk_inv_base.proofs.Words.{ReachAll, IsNext, is_wanting, speaks, StillCounts, rests, CallsOf, Tablet, IfSome_then, SoundView}
use Rattle.rk_inv_base.proofs.Words.{target_truth, handed_for_grant, handed_by, is_idle, may_have_staged, IsSettledIn, IsMergedOf, Message}
use Rattle.rk_inv_base.proofs.Words.{take_all}
use Rattle.rk_inv_tablets.proofs.Words.{tablet_seen, put2_other, by_master, messages_looks, SaysIn, member as member_at, put2_here}
use Rattle.rk_inv_tablets.proofs.Words.{IsRebuilderIn, all_by, drop_all, with_piece, AreAlike, calls_alike, IsHeir, heir_post, IsToldIn}
use Rattle.rk_inv_tablets.proofs.Words.{CountsFor, SpeaksFor, view_by_rows, SoundRow, SoundBeside, still_counts, handed_for_grant_alike}
use Rattle.rk_inv_tablets.proofs.Words.{handed_by_alike, role_looks, terms_look, IsBareOf, IsNextOf, drop-append_seam}
use Rattle.rk_inv_tablets.proofs.merge.Merging.{Merging, gathers, looks, merged, now, rebuilt, role_is, row_was, grow, closing, first}
use Rattle.rk_inv_tablets.proofs.merge.Merging.{free_same, inside, mark, material_same, mine, new, of_written, old, own_is, past_is, piece}
use Rattle.rk_inv_tablets.proofs.merge.Merging.{piece_length, rebuilder, term_is, unmarked, within, rest_same, tablet, turned, new_role}
use Rattle.rk_inv_tablets.proofs.merge.Merging.{of_handover, sides_same, by_role, applied_same, rests_same}
use Rattle.rk_inv_tablets.proofs.grow.Grown.{grown, says_more, SameFirst, marked_more, rebuilds_now, rebuilds_other, truth_same}
use Rattle.rk_inv_tablets.proofs.grow.Grown.{target_same, placed_more, done_more, unnamed_more, bare_more, beside_more, rows_more}
use Rattle.rk_inv_tablets.proofs.grow.Grown.{truths_same, items_more}
use Rattle.rk_inv_tablets.proofs.merge.Pieces.{from_piece}
use Rattle.rk_inv_base.proofs.views.Turned.{of_tablet}
use Rattle.rk_inv_tablets.proofs.ready.Outside.{second_member, former_behind}
use Rattle.rk_inv_tablets.proofs.merge.Collected.{collected}

-- What messages say of a row for which a rebuild merges: no report gives what its master had merged before, and all else looks as it did.

module _ (v : View) (a : Merging v) where
  -- the view with the piece in the log, and with what the master keeps and merged
  abbrev kept : View
  kept = record v {
    rows = a.row ∷ [];
    logs = (now v a).logs;
    written = (now v a).written;
    completions = (now v a).completions;
    merged = (now v a).merged;
  }

  -- a master that merged has sent no Rebuilt before
  rebuilt_on : (q applied : ℕ) (report : Rebuilt) → RebuiltIn a.row.phase (v.handovers q a.row.tablet) (v.merged q a.row.tablet) applied a.row.term q report → RebuiltIn a.row.phase (v.handovers q a.row.tablet) ((now v a).merged q a.row.tablet) applied a.row.term q report
  rebuilt_on q applied report says = grind (arith, merged, now, gathers, role_is, put2_other, cases_eq)

  says_kept : (from to : Node) (body : Body) → SaysIn (grown v (grow v a)) a.row from to body → SaysIn kept a.row from to body
  says_kept from to body = grind (arith, by_master, rebuilt, now, rebuilt_on)

  -- each message says of the row what it said
  pub says_here : EachIn (λ n m. SaysIn (now v a) a.row m.from m.to m.body) v.wire
  says_here n m there =
      All-head (λ x. SaysIn (now v a) x m.from m.to m.body) a.row []
      ((messages_looks kept (now v a).logs (now v a).written (now v a).handovers
      (record { each = looks v a; applied = λ q. refl; truths = λ range member. refl }) (λ q. refl) (λ x lineage q dead end needed. needed)
      (record {
        of_rows = λ n m there.
            All-cons (λ x. SaysIn kept x m.from m.to m.body) a.row []
            (says_kept m.from m.to m.body
            (says_more v (grow v a) a.row a.has_row m.from m.to m.body ((row_was v a).messages n m there)))
            (All-nil _);
        others = a.sound.messages.others;
      })).of_rows n m there)

module _ (v : View) (a : Merging v) where
  abbrev written : ℕ → Written
  written = (now v a).written

  -- what a log with the piece names in side segments is what it named
  names_piece : (range : Range) (from q : ℕ) → q ≡ a.master → named_items range from (with_piece (v.written q) (piece v a) (mark v a)) ≡ named_items range from (v.written q)
  names_piece range from q at = grind (arith, is_in, items_of, side_entries, named, from_piece, mark, piece, past_is)

  -- ---- the master, for its own row

  -- the piece of its merge
  piece_here : IsPieceOf a.row.tablet (own_place (old v a).role) (new v a) (merged v a) (with_piece (v.written a.master) (piece v a) (mark v a)) (closing v a)
  piece_here =
      let w : Written = v.written a.master in
      let size : length (piece v a) ≡ suc (length (merged v a).copies) = piece_length (old v a) (merged v a) in
      record {
        mark = mark v a;
        marked = Contains-append_right w.marks (mark v a ∷ []) (mark v a) (zero, omega arith, refl);
        past_is = refl;
        tablet_is = refl;
        term_is = refl;
        behind = (rebuilder v a).placed;
        alone =
            All-push (λ (m : Mark). m.tablet ≡ a.row.tablet → m ≡ mark v a) w.marks (mark v a)
            (all_by (λ (m : Mark). m.tablet ≡ a.row.tablet → m ≡ mark v a) w.marks (λ m stands its. absurd (unmarked v a m stands its))) (λ its. refl);
        stands = grind (arith, closing, first, drop-append_seam, piece, take_all, w.entries);
        last =
            ap (list_any (touches (old v a).range))
            (drop_all (suc (closing v a)) (w.entries ++ piece v a) (omega (arith, size, length-append w.entries (piece v a))));
      }

  -- the master rebuilds its row, with this of the row, if it has written this
  abbrev RebuildsHere : Written → Type 0
  RebuildsHere w =
      IsRebuilder a.row (rebuilt v a).0 a.master (truths v a.row) (mine v a) (NeededOf a.row v.written (rebuilt v a).0)
      (λ q. known_of (v.logs q) READ_BACKUP) (λ q. stored_of v.stored q READ_BACKUP) w (new v a) (completions_from [] (merged v a).ends)
      (v.gathers a.master a.row.tablet) (merged v a).ends (v.records a.master)

  rebuilder_here : RebuildsHere (with_piece (v.written a.master) (piece v a) (mark v a))
  rebuilder_here =
      let w : Written = v.written a.master in
      let was = rebuilder v a in
      let gather : Gather = v.gathers a.master a.row.tablet in
      let placed : own_place (old v a).role ≤ length (w.entries ++ piece v a) = omega (arith, was.placed, length-append w.entries (piece v a)) in
      let done : IsMergedOf a.row.tablet (own_place (old v a).role) (mine v a) (new v a) (completions_from [] (merged v a).ends) gather (merged v a).ends (with_piece w (piece v a) (mark v a)) (closing v a) = record {
        gathered_all = a.may.may.gathered;
        merged = merged v a;
        merged_is = ap (λ (own : List Entry). merge own (by_member gather own)) (own_is v a);
        ends_are = refl;
        piece = piece_here;
        counter = refl;
        completions = refl;
      } in
      assumption (
        was,
        rw (← take-append-le w.applied w.entries (piece v a) (within v a a.master)) at was.items,
        rw (← names_piece a.row.range (own_place (old v a).role) a.master refl) at was.sides,
      )

  -- ---- each master that rebuilds the row at its term

  pub first_same : SameFirst v (grow v a) a.row.range (lineage_of a.row.phase)
  first_same first last others two = (rest_same v a a.row.range first, material_same v a a.row.range first)

  abbrev IsRebuiltIn : View → Phase → Type 0
  IsRebuiltIn w phase =
      RowIsRebuilt a.row phase (truths v a.row) w.logs w.written v.stored w.handovers w.completions w.gathers w.merged v.records v.live

  pub rebuilt_here : (phase : Phase) → a.row.phase ≡ phase → IsRebuiltIn v phase → IsRebuiltIn (now v a) phase
  rebuilt_here (Rebuilding lineage to) is fit = (
    of_tablet v (now v a) a.master a.row.tablet (tablet v a) (turned v a)
        (λ q r t. t.handover.term ≡ a.row.term
        → IsRebuilderIn (now v a).logs written v.stored a.row lineage q (truths v a.row) t.handover t.completions t.gather t.merged_ends (v.records q))
        to a.row.tablet
        (λ term.
        let both : Rebuilding (rebuilt v a).0 a.master ≡ Rebuilding lineage to = sym (rebuilt v a).1 ∙ is in
        let members : (rebuilt v a).0 ≡ lineage = cc both in
        rw (← members)
        (rebuilds_now v (grow v a) a.row a.has_row (rebuilt v a).0 a.master (rebuilt v a).1 (new v a) (completions_from [] (merged v a).ends)
        (v.gathers a.master a.row.tablet) (merged v a).ends (material_same v a a.row.range (member_at a.master (own_place (old v a).role)))
        (of_written v a RebuildsHere a.master (λ at. rebuilder_here) (λ away. absurd (away refl)))))
        (λ apart term.
        rebuilds_other v (grow v a) a.row a.has_row lineage to is (v.handovers to a.row.tablet) (v.completions to a.row.tablet)
        (v.gathers to a.row.tablet) (v.merged to a.row.tablet) (λ at. apart at refl) (fit.0 term)),
    marked_more v (grow v a) a.row.range lineage (λ first last others two. first_same first last others (ap lineage_of is ∙ two)) fit.1,
  )
  rebuilt_here _ is fit = tt

  -- ---- marks

  -- the new one fits the row
  mark_new : MarkFits a.row a.master (new v a) (v.live a.master) ((now v a).written a.master) (mark v a)
  mark_new =
      let w : Written = v.written a.master in
      let phase : a.row.phase ≡ Rebuilding (lineage_of a.row.phase) a.master =
      (rebuilt v a).1 ∙ ap (λ (p : Phase). Rebuilding (lineage_of p) a.master) (sym (rebuilt v a).1) in
      record {
        rebuilt = ((rebuilt v a).0, a.master, (rebuilt v a).1);
        within = omega (arith, term_is v a);
        present = λ lives. term_is v a;
        by_rebuilder = λ its. (phase, term_is v a, refl);
        behind = grind (arith, touches, free_same, first, drop_all, a.row.range, a.master, w.marks, w.entries);
      }

  -- so what holds of each mark of the row at another master, and of the new one, holds of all
  marked_by : (P : ℕ → Written → Mark → Type 0) (q : ℕ) → P a.master (written a.master) (mark v a) → All (λ m. m.tablet ≡ a.row.tablet → P q (v.written q) m) (v.written q).marks → All (λ m. m.tablet ≡ a.row.tablet → P q (written q) m) (written q).marks
  marked_by P q here was =
      ⊎_elim
      (λ (at : q ≡ a.master).
      rw at (of_written v a (λ (w : Written). All (λ m. m.tablet ≡ a.row.tablet → P a.master (written a.master) m) w.marks) a.master
      (λ _.
      let its : Mark → Type 0 = λ m. m.tablet ≡ a.row.tablet → P a.master (written a.master) m in
      All-push its (v.written a.master).marks (mark v a)
      (all_by its (v.written a.master).marks (λ m stands same. absurd (unmarked v a m stands same))) (λ same. here))
      (λ away. absurd (away refl))))
      (λ (apart : q ≡ a.master → ⊥).
      rw ((grow v a).others q apart) was)
      (cases_eq q a.master)

  pub marks_here : (q : ℕ) → All (λ m. m.tablet ≡ a.row.tablet → MarkFits a.row q ((now v a).handovers q a.row.tablet) (v.live q) (written q) m) (written q).marks
  marks_here q =
      marked_by (λ q w m. MarkFits a.row q ((now v a).handovers q a.row.tablet) (v.live q) w m) q
      (rw (put2_here v.handovers a.master a.row.tablet (new v a) a.master a.row.tablet refl refl) mark_new)
      (of_tablet v (now v a) a.master a.row.tablet (tablet v a) (turned v a)
      (λ q r t. All (λ m. m.tablet ≡ a.row.tablet → MarkFits a.row q t.handover (v.live q) (v.written q) m) (v.written q).marks) q a.row.tablet
      (all_by (λ m. m.tablet ≡ a.row.tablet → MarkFits a.row a.master (new v a) (v.live a.master) (v.written a.master) m)
      (v.written a.master).marks (λ m stands same. absurd (unmarked v a m stands same)))
      (λ apart. (row_was v a).rebuilds.marks q))

  pub pieces_here : (q : ℕ) → All (λ m. m.tablet ≡ a.row.tablet → HasOwnRange a.row.range (written q).entries m) (written q).marks
  pieces_here q =
      marked_by (λ q w m. HasOwnRange a.row.range w.entries m) q
      (of_written v a (λ (w : Written). HasOwnRange a.row.range w.entries (mark v a)) a.master
      (λ at.
      let size : length (piece v a) ≡ suc (length (merged v a).copies) = piece_length (old v a) (merged v a) in
      let whole : take ((mark v a).past - first v a) (drop (first v a) ((v.written a.master).entries ++ piece v a)) ≡ piece v a =
      ap (take ((mark v a).past - first v a)) (drop-append_seam (v.written a.master).entries (piece v a))
      ∙ take_all ((mark v a).past - first v a) (piece v a) (omega (arith, size)) in
      rw whole (inside v a))
      (λ away. absurd (away refl)))
      ((row_was v a).rebuilds.pieces q)

  -- ---- targets

  pub members_here : (lineage : List Member) → MembersFit a.row v.written v.handovers v.pullings v.records v.handed lineage → MembersFit a.row written (now v a).handovers v.pullings v.records v.handed lineage
  members_here (source ∷ target ∷ []) fit =
      let q : ℕ = target.master in
      let r : ℕ = a.row.tablet in
      of_handover v a
      (λ h. is_granted h.role ≡ true
      → IsTarget a.row.range source.master (member_truth written a.row.range source) (member_material written a.row.range source) target.from (written q) h
      (v.pullings q r) (get v.handed r) (v.records q))
      q r
      (λ at its granted. absurd (false≢true (sym (ap is_granted (new_role v a (v.handovers q r) (role_is v a q r at its))) ∙ granted)))
      (λ apart granted.
      rw (truth_same v (grow v a) a.row.range source, material_same v a a.row.range source, (grow v a).others q (λ at. apart at refl))
      (fit granted))
  members_here _ fit = tt

  pub handed_here : (lineage : List Member) → lineage_of a.row.phase ≡ lineage → HandedFits a.row v.handovers v.completions v.handed lineage → HandedFits a.row (now v a).handovers (now v a).completions v.handed lineage
  handed_here lineage is fit =
      grind (arith, tablet, looks, of_tablet, now, turned, rebuilt, lineage_of, row_was, former_behind, second_member, term_is)

  -- what the last of two members names is what it was
  pub names_same : (range : Range) (from q : ℕ) → named_items range from ((now v a).written q) ≡ named_items range from (v.written q)
  names_same range from q i =
      filter (is_in range) (items_of (flat_map (side_entries (sides_same v a q i)) (named range (free_same v a q from i))))

  pub names_here : (lineage : List Member) → NamedFit v.written a.row.range lineage → NamedFit written a.row.range lineage
  names_here (first ∷ last ∷ []) fit = λ item there.
      rw (truth_same v (grow v a) a.row.range first) (fit item (rw (← names_same a.row.range last.from last.master) there))
  names_here _ fit = tt

  -- ---- calls and counters

  -- tablets answer as before
  pub alike : AreAlike v.handovers (now v a).handovers
  alike q r = record {
    same_serving = by_role v a is_serving refl q r;
    same_rebuilding = by_role v a is_rebuilding refl q r;
    same_wanting = by_role v a is_wanting refl q r;
    same_term = (looks v a q r).term;
  }

  -- the master is to rebuild its row
  pub heir : IsHeir (post_of a.row.phase a.master)
  heir = grind (arith, rebuilt, cond-true, rebuilder_post, is_member, eq-eqb, heir_post)

  -- so it does not speak for it
  quiet : speaks (post_of a.row.phase a.master) (new v a) a.row.term ≡ true → ⊥
  quiet = grind (arith, post_of, new, gathers, closing, heir, new_role, old, term_is, is_serving, is_rebuilding, false≢true)

  -- an end of the row's truth is known, and one of its rest is staged
  told_known : (end : Ended) → IsToldIn v a.row end → IsKnown v.base v.journal end ⊎ IsStagedEnd v.rows (rests v) a.master a.row.tablet (old v a).term end
  told_known end =
      ⊎_elim
      (λ (at : Contains (told (truths v a.row)) end).
      inl (All-contains (IsKnown v.base v.journal) (told (truths v a.row)) end
      (row_was v a).calls.recorded at))
      (λ (at : Contains (told (rests v a.row)) end).
      inr (record {
        row = a.row;
        stands = a.has_row;
        told = at;
        number = refl;
        rebuilt = (rebuilt v a).1 ∙ ap (λ (phase : Phase). Rebuilding (lineage_of phase) a.master) (sym (rebuilt v a).1);
        at_term = term_is v a;
      }))

  before : CallsOf (record v { handovers = (now v a).handovers }) (truths v) (rests v)
  before = calls_alike v (truths v) (rests v) (now v a).handovers a.sound.calls alike

  -- each end that a master keeps now is known, or staged
  pub known_now : (q r : ℕ) → v.live q ≡ true → All (λ end. IsKnown v.base v.journal end ⊎ IsStagedEnd v.rows (rests v) q r ((now v a).handovers q r).term end) (ends_of ((now v a).completions q r))
  known_now q r lives =
      let Known : ℕ → ℕ → ℕ → Ended → Type 0 = λ q r term end.
      IsKnown v.base v.journal end ⊎ IsStagedEnd v.rows (rests v) q r term end in
      of_tablet v (now v a) a.master a.row.tablet (tablet v a) (turned v a) (λ q r t. All (Known q r t.handover.term) (ends_of t.completions)) q r
      (All-weaker _ _ told_known (ends_of (completions_from [] (merged v a).ends)) (collected v a))
      (λ apart.
      rw (← (ap (λ (t : Tablet). t.handover.term) ((turned v a).apart q r apart))) (before.known q r lives))

  -- ---- who speaks

  pub answers : (q : ℕ) → CountsFor (now v a) a.row q → SpeaksFor (now v a) a.row q → ReachAll a.row.range v.journal (ends_of ((now v a).completions q a.row.tablet))
  answers q =
      of_tablet v (now v a) a.master a.row.tablet (tablet v a) (turned v a)
      (λ q r t. StillCounts (v.live q) t.handover.term a.row.term → speaks (post_of a.row.phase q) t.handover a.row.term ≡ true
      → ReachAll a.row.range v.journal (ends_of t.completions))
      q a.row.tablet (λ counts says. absurd (quiet says)) (λ apart. (row_was v a).calls.answering q)

  pub counts_on : (q : ℕ) → CountsFor (now v a) a.row q → SpeaksFor (now v a) a.row q → IsNext (truths v a.row ++ rests v a.row) ((now v a).handovers q a.row.tablet).counter
  counts_on q = grind (arith, of_tablet, now, tablet, turned, speaks, post_of, truths, rests, quiet, row_was)

  -- ---- the whole

  truths_now : truths (now v a) a.row ≡ truths v a.row
  truths_now = truths_same v (grow v a) a.row

  rests_now : rests (now v a) a.row ≡ rests v a.row
  rests_now i = rests_same v a i a.row

  both_now : truths (now v a) a.row ++ rests (now v a) a.row ≡ truths v a.row ++ rests v a.row
  both_now i = truths_now i ++ rests_now i

  target_now : target_truth written v.handed a.row a.row.phase ≡ target_truth v.written v.handed a.row a.row.phase
  target_now = target_same v (grow v a) a.row

  counts_same : (q : ℕ) → CountsFor (now v a) a.row q → CountsFor v a.row q
  counts_same q =
      still_counts (v.live q) (v.handovers q a.row.tablet).term ((now v a).handovers q a.row.tablet).term a.row.term (looks v a q a.row.tablet).term

  -- ---- the row

  here : SoundRow (now v a) a.row
  here =
      let was = row_was v a in
      let counted : (q : ℕ) → CountsFor (now v a) a.row q → SpeaksFor (now v a) a.row q → IsNextOf (now v a) a.row ((now v a).handovers q a.row.tablet).counter = λ q counts says.
      rw both_now (counts_on q counts says) in
      let floor_granted : IfSome (handed_for_grant a.row (now v a).handovers v.handed) (λ h. IsNextOf (now v a) a.row h.floor) =
      rw (handed_for_grant_alike a.row v.handovers (now v a).handovers v.handed alike)
      (IfSome_then (handed_for_grant a.row v.handovers v.handed) was.counters.granted (λ h next. rw both_now next)) in
      let floor_sent : EachIn (λ n m. IfSome (handed_by a.row (now v a).handovers m.body) (λ h. IsNextOf (now v a) a.row h.floor)) v.wire = λ n m there.
      rw (handed_by_alike a.row v.handovers (now v a).handovers m.body alike)
      (IfSome_then (handed_by a.row v.handovers m.body) (was.counters.sent n m there) (λ h next. rw both_now next)) in
      let idle : (q : ℕ) → CountsFor (now v a) a.row q → is_idle ((now v a).handovers q a.row.tablet).role ≡ true → IsSettledIn a.row.range (written q) = λ q.
      of_handover v a
      (λ h. StillCounts (v.live q) h.term a.row.term → is_idle h.role ≡ true → IsSettledIn a.row.range (written q)) q a.row.tablet
      (λ at its counts idles. absurd (false≢true idles))
      (λ apart counts idles. rw ((grow v a).others q (λ at. apart at refl)) (was.rest.idle q counts idles)) in
      assumption (
        was,
        placed_more v (grow v a) (lineage_of a.row.phase) was.rows.placed,
        λ (q : ℕ) (counts : CountsFor (now v a) a.row q).
            role_looks a.row q (v.handovers q a.row.tablet) ((now v a).handovers q a.row.tablet) (v.written q).applied (written q).applied
            (looks v a q a.row.tablet) (applied_same v a q) (was.roles.fitting q (counts_same q counts)),
        λ (q : ℕ) (counts : CountsFor (now v a) a.row q) (member : is_member (lineage_of a.row.phase) q ≡ true).
            (looks v a q a.row.tablet).range ∙ was.roles.ranged q (counts_same q counts) member,
        terms_look a.row.phase (λ q. (v.handovers q a.row.tablet).term) (λ q. ((now v a).handovers q a.row.tablet).term) a.row.term
            (λ q. (looks v a q a.row.tablet).term) was.roles.at_term,
        rw (← truths_now) at was.truth,
        rw (← truths_now, ← rests_now) at was.order,
        rw (← truths_now) at was.calls.reached,
        rw (← truths_now) at was.calls.recorded,
        rw (← target_now) at was.calls.moving,
        rw (← truths_now) at was.counters.low,
        rw (← target_now) at was.counters.moving,
        answers,
        rw (← handed_for_grant_alike a.row v.handovers (now v a).handovers v.handed alike) at was.calls.granted,
        λ (n : ℕ) (m : Message) (there : get v.wire n ≡ Some m).
            rw (← handed_by_alike a.row v.handovers (now v a).handovers m.body alike) at (was.calls.sent n m there),
        rw (← truths_now, ← rests_now) at was.rest.goes_on,
        done_more v (grow v a) a.row.range (lineage_of a.row.phase) first_same was.rest.done,
        unnamed_more v (grow v a) a.row.range (lineage_of a.row.phase) was.rest.unnamed,
        items_more v (grow v a) a.row (now v a).handovers (λ q. (looks v a q a.row.tablet).term) was.tables,
        members_here (lineage_of a.row.phase) was.receives.target,
        handed_here (lineage_of a.row.phase) refl was.receives.handed_on,
        names_here (lineage_of a.row.phase) was.receives.named,
        rw (← truths_now) at (rebuilt_here a.row.phase refl was.rebuilds.rebuilt),
        marks_here,
        pieces_here,
        says_here v a,
      )

  -- ---- beside rows

  beside : SoundBeside (now v a)
  beside =
      beside_more v (grow v a) (tablet_seen (now v a))
      (λ q r.
      let looks = looks v a q r in
      record {
        term = looks.term;
        range = looks.range;
        absent = looks.role.absent;
        stages = λ staged. by_role v a may_have_staged refl q r ∙ staged;
      })
      (λ q r lives. rw (rests_same v a) (known_now q r lives))
      (λ q r.
      of_handover v a (λ h. IsBareOf h (written q) (v.records q)) q r (λ at its. tt)
      (λ apart. bare_more v (grow v a) q r apart (a.sound.receives.bare q r)))

  pub view_merged : SoundView (now v a)
  view_merged =
      view_by_rows (now v a) beside
      (rows_more v (grow v a) (now v a) (tablet v a) (λ tablets. refl) (turned v a) here)
