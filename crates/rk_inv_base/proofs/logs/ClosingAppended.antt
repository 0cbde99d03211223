-- A lane stays sound when a target whose side segments are stored appends the entry that closes its joining.
use Rattle.rk_inv_base.proofs.Words.{◌≡◌, ℕ, ◌≤◌, Bool, true, List, [], ◌∷◌, ◌++◌, length, fold, Some, None, refl, sym, ap, ◌∙◌, subst}
use Rattle.rk_inv_base.proofs.Words.{⊎_elim, arith, slice_get, All, Contains, flat_map, append-nil, slice_index_or, cases_eq, cond-true}
use Rattle.rk_inv_base.proofs.Words.{false≢true, both_ways, flat_map-append, All-head, All-tail, Contains-get_or, get, meets, Member, Range}
use Rattle.rk_inv_base.proofs.Words.{slice_get_push_cases, Entry, is_in, Handover, lineage_of, Row, items_of, last_of, unmarked_from, named}
use Rattle.rk_inv_base.proofs.Words.{named_by, side_entries, with_number, has_all, is_absent, with_handover, closing_appended, World}
use Rattle.rk_inv_base.proofs.Words.{log_in, master_at, tablet_in, Written, member_material, member_truth, bond_of, post_of, IsTarget}
use Rattle.rk_inv_base.proofs.Words.{MembersFit, NamedFit, closing_joined, is_granted, named_items, EachHasCall, is_call_entry, IsPlaced}
use Rattle.rk_inv_base.proofs.Words.{as_closed, View, view, SoundView, has_merged, is_idle, is_rebuilding, is_serving, is_wanting}
use Rattle.rk_inv_base.proofs.Words.{may_have_staged, wanted_place, MayJoin, closed_off, closing_appended_in}
use Rattle.rk_transfer.specs.declared.role.Role.TheVariants as roles
use Rattle.rk_inv_base.proofs.Base.{SoundRow, row_in, tablet_here, tablet_apart, put2_by, put_same, put2_same, view_master}
use Rattle.rk_inv_base.proofs.Base.{has_itself, last_member, marked_none, unmarked_from_last, unless_marked, same_number, numbers_append}
use Rattle.rk_inv_base.proofs.logs.ClosingTarget.{target_here}
use Rattle.rk_inv_base.proofs.logs.EntryAppended.{row_beside, view_with_entry, waits_on}
use Rattle.rk_inv_base.proofs.logs.OneMore.{material_same, of_written, rest_at, truth_same, within}
use Rattle.rk_inv_base.proofs.pulls.Joining.{IsSecond, joining_second, kept_stands, numbered, scanned, stands_kept}
use Rattle.rk_inv_base.proofs.rows.RowAppended.{StaysAs, rest_fits}
use Rattle.rk_inv_base.proofs.rows.Serving.{meets_either}

module _ (v : View) (row : Row) (master : ℕ) (sound : SoundView v) (has_row : Contains v.rows row) (may : MayJoin v master row.tablet) where
  abbrev old : Handover
  old = v.handovers master row.tablet

  abbrev place : ℕ
  place = length (v.logs master).entries

  abbrev sealed : List ℕ
  sealed = (v.pullings master row.tablet).sealed

  abbrev closing : Entry
  closing = closing_joined (v.handovers master row.tablet) (v.pullings master row.tablet).sealed

  abbrev now : View
  now = closed_off v master row.tablet

  was : SoundRow v row
  was = row_in v sound row has_row

  -- the tablet goes on as it was
  stays : StaysAs old (as_closed place old)
  stays = grind (arith, is_serving, is_rebuilding, is_wanting, is_idle, has_merged, is_granted, may_have_staged, wanted_place)

  at_end : place ≡ length (v.written master).entries
  at_end = ap (λ (list : List Entry). length list) (sound.logs.each master).entries_are

  -- ---- the row

  second : IsSecond row.phase master row.term old.term
  second = grind (arith, joining_second, was, bond_of, post_of)

  ranged : old.range ≡ row.range
  ranged = grind (arith, was, last_member, lineage_of, second, last_of)

  inside : meets old.range row.range ≡ true
  inside = ap (meets old.range) (sym ranged) ∙ may.some

  -- the two members are those of the lineage
  pair : (source target : Member) → lineage_of row.phase ≡ source ∷ target ∷ [] → (source.master ≡ master → ⊥) × (target.master ≡ master)
  pair source target is = grind (arith, second)

  -- the entry has all of each row that it meets, which is this one
  whole : (x : Row) → Contains v.rows x → meets x.range old.range ≡ true → has_all old.range x.range ≡ true
  whole x has met =
      ⊎_elim
      (λ (its : x.tablet ≡ row.tablet).
      ap (λ (range : Range). has_all range x.range)
      (ranged ∙ ap (λ (r : Row). r.range) (sym (same_number v.rows x row sound.rows.apart has has_row its))) ∙ has_itself x.range)
      (λ (apart : x.tablet ≡ row.tablet → ⊥).
      absurd
      (both_ways (meets row.range x.range) (row_beside v row x sound has_row has apart)
      (meets_either x.range row.range (ap (meets x.range) (sym ranged) ∙ met))))
      (cases_eq x.tablet row.tablet)

  -- ---- the target of the row, which has its closing entry now

  abbrev Fits : Member → Member → List Entry → List Entry → Written → Handover → Type 0
  Fits source target truth material w h =
      IsTarget row.range source.master truth material target.from w h (v.pullings target.master row.tablet) (get v.handed row.tablet)
      (v.records target.master)

  members : (lineage : List Member) → lineage_of row.phase ≡ lineage → All (IsPlaced v.written) lineage → MembersFit row v.written v.handovers v.pullings v.records v.handed lineage → MembersFit row now.written now.handovers v.pullings v.records v.handed lineage
  members (source ∷ target ∷ []) is placed fit = λ granted.
      let q : ℕ = target.master in
      let at : q ≡ master = (pair source target is).1 in
      let from : target.from ≤ length (v.written q).entries =
      All-head (IsPlaced v.written) target [] (All-tail (IsPlaced v.written) source (target ∷ []) placed) in
      let joins : (v.handovers q row.tablet).role ≡ roles.Joining None = ap (λ (n : ℕ). (v.handovers n row.tablet).role) at ∙ may.joining in
      let truth : List Entry = member_truth v.written row.range source in
      let material : List Entry = member_material v.written row.range source in
      rw (truth_same v master closing sound.logs row.range source)
      (rw (material_same v master closing sound.logs row.range source (λ here. absurd ((pair source target is).0 here)))
      (put2_by v.handovers master row.tablet (as_closed place) (Fits source target truth material (now.written q)) q row.tablet
      (λ _ _.
      of_written v master closing sound.logs (λ (w : Written). Fits source target truth material w (as_closed place (v.handovers q row.tablet))) q
      (λ _.
      target_here place old sealed row source target (v.handovers q row.tablet) (v.written q) joins
      (ap (λ (n : ℕ). meets (v.handovers n row.tablet).range row.range) at ∙ inside)
      (at_end ∙ ap (λ (n : ℕ). length (v.written n).entries) (sym at)) from (within v master closing sound.logs q) truth material
      (v.pullings q row.tablet) (get v.handed row.tablet) (v.records q)
      (λ i. closing_joined (v.handovers (sym at i) row.tablet) (v.pullings (sym at i) row.tablet).sealed) (fit (ap is_granted joins)))
      (λ apart. absurd (apart at)))
      (λ apart. absurd (apart at refl))))
  members _ is placed fit = tt

  -- what the target names is of its source's truth: the new segments are those that it copied
  names : (lineage : List Member) → lineage_of row.phase ≡ lineage → All (IsPlaced v.written) lineage → MembersFit row v.written v.handovers v.pullings v.records v.handed lineage → NamedFit v.written row.range lineage → NamedFit now.written row.range lineage
  names (first ∷ last ∷ []) is placed fits fit = λ item there.
      let q : ℕ = last.master in
      let at : q ≡ master = (pair first last is).1 in
      let w : Written = v.written q in
      let from : last.from ≤ length w.entries = All-head (IsPlaced v.written) last [] (All-tail (IsPlaced v.written) first (last ∷ []) placed) in
      let joins : (v.handovers q row.tablet).role ≡ roles.Joining None = ap (λ (n : ℕ). (v.handovers n row.tablet).role) at ∙ may.joining in
      let side : ℕ → List Entry = side_entries w.sides in
      let known : List Entry = unmarked_from w.marks last.from w.entries in
      let all : named row.range (unmarked_from w.marks last.from (w.entries ++ closing ∷ [])) ≡ fold with_number (named row.range known) sealed =
      ap (named row.range) (unmarked_from_last w.marks last.from w.entries closing from
      ∙ ap (λ (b : Bool). known ++ unless_marked b closing) (marked_none w.marks (length w.entries) (sound.logs.each q).marked))
      ∙ ap (λ (numbers : List ℕ). fold with_number [] numbers) (flat_map-append (named_by row.range) known (closing ∷ []))
      ∙ numbers_append [] (flat_map (named_by row.range) known) (named_by row.range closing ++ [])
      ∙ ap (fold with_number (named row.range known))
      (append-nil (named_by row.range closing) ∙ cond-true (meets old.range row.range) sealed [] inside) in
      rw (truth_same v master closing sound.logs row.range first) (of_written v master closing sound.logs
      (λ (w : Written). Contains (named_items row.range last.from w) item → Contains (items_of (member_truth v.written row.range first)) item) q
      (λ _ there.
      let kept =
      kept_stands (is_in row.range) (items_of (flat_map side (named row.range (unmarked_from w.marks last.from (w.entries ++ closing ∷ [])))))
      item there in
      ⊎_elim
      (λ (before : Contains (items_of (flat_map side (named row.range known))) item).
      fit item (stands_kept (is_in row.range) (items_of (flat_map side (named row.range known))) item before kept.1))
      (λ (new : Contains (items_of (flat_map side sealed)) item).
      scanned (member_truth v.written row.range first) item
      ((fits (ap is_granted joins)).received.within item
      (rw joins (subst (λ (n : ℕ). Contains (items_of (flat_map side (v.pullings n row.tablet).sealed)) item) (sym at) new))))
      (numbered side (named row.range known) sealed item
      (subst (λ (numbers : List ℕ). Contains (items_of (flat_map side numbers)) item) all kept.0)))
      (λ apart. absurd (apart at)) there)
  names _ is placed fits fit = tt

  -- the entry is that of no call
  found : (q : ℕ) → EachHasCall (v.calls q) (v.written q) → EachHasCall (v.calls q) (now.written q)
  found q was =
      of_written v master closing sound.logs (EachHasCall (v.calls q)) q
      (λ at k e behind stands own free.
      ⊎_elim (λ (before : slice_get (v.written q).entries k ≡ Some e). was k e behind before own free)
      (λ (last : (k ≡ length (v.written q).entries) × (closing ≡ e)). absurd (false≢true (ap is_call_entry last.1 ∙ own)))
      (slice_get_push_cases (v.written q).entries closing e k stands))
      (λ apart. was)

  pub view_closed_off : SoundView now
  view_closed_off = view_with_entry v row master closing v.calls (as_closed place old) sound (record {
    lives = may.lives;
    has_row = has_row;
    at_end = record { last = second.target; is_last = ap last_of second.lineage_is; here = second.here };
    serves = ap is_serving may.joining;
    stays = stays;
    room = may.room;
    stored = may.stored;
    within = sound.cover.ranges master row.tablet (sound.terms.begun master row.tablet (ap is_absent may.joining));
    whole = λ k d inside. whole (slice_index_or v.rows k d) (Contains-get_or v.rows k d inside);
    untouched = λ range apart. ap (λ (r : Range). meets r range) ranged ∙ apart;
    uncounted = λ x has apart. refl;
    only = λ only is. let both : only ∷ [] ≡ second.source ∷ second.target ∷ [] = sym is ∙ second.lineage_is in absurd (cc both);
    rest =
        rest_fits v now row was (rest_at v master closing sound.logs row refl)
        (λ q.
        put2_by v.handovers master row.tablet (as_closed place) (λ (h : Handover). h.counter ≡ (v.handovers q row.tablet).counter) q row.tablet
        (λ _ _. refl) (λ _. refl));
    target = members (lineage_of row.phase) refl was.rows.placed was.receives.target;
    named = names (lineage_of row.phase) refl was.rows.placed was.receives.target was.receives.named;
    waiting = λ q lives k call there.
        waits_on v master row.tablet closing v.calls (as_closed place old) sound may.lives stays q k call (sound.rest.waiting q lives k call there);
    are_last = sound.rest.are_last;
    found = λ q lives. found q (sound.rest.found q lives);
  })

-- what the change makes of a view
pub closed_off_is : (w : World) (master number : ℕ) → view (closing_appended_in w master number) ≡ closed_off (view w) master number
closed_off_is w master number =
    let kept = tablet_in w master number in
    let handover : Handover = as_closed (length (log_in w master).entries) kept.handover in
    view_master w master (closing_appended (master_at w master) number kept handover) number (with_handover kept handover) refl
    (tablet_here (master_at w master) number (with_handover kept handover)) (tablet_apart (master_at w master) number (with_handover kept handover))
    ∙ (λ i. record (closed_off (view w) master number) {
      records = put_same (view w).records master i;
      calls = put_same (view w).calls master i;
      completions = put2_same (view w).completions master number i;
      pullings = put2_same (view w).pullings master number i;
      gathers = put2_same (view w).gathers master number i;
      merged = put2_same (view w).merged master number i;
    })
