-- A lane stays sound when a target that waits for a row's tablet is granted it: it speaks for the row from now on, by what its source
-- handed over, begins to pull, and does not rebuild the row yet.
use Rattle.std.proofs.Common.{◌≡◌, ℕ, ◌⊎◌, Bool, true, false, eqb, List, [], ◌∷◌, ◌++◌, Some, None, refl, sym, ap, ◌∙◌, subst, ⊎_elim, inl}
use Rattle.std.proofs.Common.{arith, IfSome, All, Contains, zero, suc, ◌≤◌, length, drop, take, ◌<◌, append-nil}
use Rattle.rk_inv_base.proofs.Words.{cond-false, cond-true, flat_map-append, All-weaker, Contains-append_left, get, Ended, Member, Carried}
use Rattle.rk_inv_base.proofs.Words.{Entry, completions_from, ends_of, Handover, lineage_of, Row, Body, Handed, told, told_by, second_of}
use Rattle.rk_inv_base.proofs.Words.{AreHandedOver, IsKnown, IsStagedEnd, ReachAll, IsNext, handed_by, handed_for_grant, is_waiting}
use Rattle.rk_inv_base.proofs.Words.{is_wanting, second_has, post_of, speaks, StillCounts, View, truths, rests, CallsOf, false≢true}
use Rattle.rk_inv_base.proofs.Words.{or_from, or_parts, drop-append-le, take-append-le, All-nil, Contains-append_right, list_any_at}
use Rattle.rk_inv_base.proofs.Words.{list_any, Held, Range, is_in, Grant, items_of, carried_entry, touches, counts, is_joined_in, Tablet}
use Rattle.rk_inv_base.proofs.Words.{pulling_from, Written, member_material, member_truth, HandedFits, HasArrived, IsBare, IsReceived}
use Rattle.rk_inv_base.proofs.Words.{IsTarget, MembersFit, NamedFit, entries_from, named_items, scan_items, with_one_more, Phase}
use Rattle.rk_inv_base.proofs.Words.{Rebuilding, Mark, HasOwnRange, MarkFits, RowIsRebuilt, has_merged, is_member, Master, with_appended}
use Rattle.rk_inv_base.proofs.Words.{without_merged, World, master_at, tablet_in, RoleFits, view, SoundView, target_truth, items_in}
use Rattle.rk_inv_base.proofs.Words.{is_idle, IsSettledIn, AreAbove, EachIn, IsRest, Message, none_stands}
use Rattle.rk_inv_tablets.proofs.Words.{tablet_seen, calls_more, speaker_is, CountsFor, SpeaksFor, named_stays, joined_same, AreBelow, own_push}
use Rattle.rk_inv_tablets.proofs.Words.{as_granted, applied_within, joins_beside, IsRebuilderIn, all_by, view_by_rows, SoundRow}
use Rattle.rk_inv_tablets.proofs.Words.{SoundBeside, put_same, view_master, tablet_apart, tablet_here, terms_look, granted}
use Rattle.rk_inv_tablets.proofs.Words.{tablet_granted_in, IsBareOf, IsNextOf}
use Rattle.rk_inv_tablets.proofs.grant.Ends.{carried_next, rising_noted, carried_rest}
use Rattle.rk_inv_tablets.proofs.grant.Granting.{Granting, entry, master, now, of_handover, old, rest_here, taker, row_was, grow, tablet}
use Rattle.rk_inv_tablets.proofs.grant.Granting.{turned, bare, of_written, ranged, same_term, settled, target_placed, waits, applied_same}
use Rattle.rk_inv_base.proofs.views.Turned.{of_tablet}
use Rattle.rk_inv_tablets.proofs.grow.Grown.{truth_same, rests_same, row_cases, material_other, some, SameFirst, rebuilds_other}
use Rattle.rk_inv_tablets.proofs.grow.Grown.{marked_more, target_same, placed_more, done_more, says_more, bare_more, SpansAs, beside_more}
use Rattle.rk_inv_tablets.proofs.grow.Grown.{rows_more, truths_same, unnamed_more, items_more}
use Rattle.rk_table.proofs.Tokens.{passed_first}
use Rattle.rk_world.specs.Handovers.{tablet_granted}
use Rattle.rk_inv_tablets.proofs.grant.GrantedMessages.{says_here}
use Rattle.rk_inv_base.proofs.logs.Missed.{counts_none}
use Rattle.rk_inv_tablets.proofs.merge.Pieces.{none_filtered}
use Rattle.rk_message.specs.declared.message.Body.TheVariants as bodies
use Rattle.rk_transfer.specs.declared.role.Role.TheVariants as roles

-- ---- lists of which none passes a test

pub none_first : {X : Type 0} (t : X → Bool) (n : ℕ) (xs : List X) → list_any t xs ≡ false → list_any t (take n xs) ≡ false
none_first t (suc n) (x ∷ xs) none =
    let parts = or_parts (t x) (list_any t xs) none in
    or_from (t x) (list_any t (take n xs)) parts.0 (none_first t n xs parts.1)
none_first t _ _ none = refl

pub none_between : {X : Type 0} (t : X → Bool) (from n : ℕ) (xs : List X) → list_any t (drop from xs) ≡ false → list_any t (drop from (take n xs)) ≡ false
none_between t zero n xs none = none_first t n xs none
none_between t (suc from) (suc n) (x ∷ xs) none = none_between t from n xs none
none_between t (suc from) _ _ none = refl

-- ---- what does not touch a range

-- does not count for it, if that is not empty
pub touched : (range : Range) → range.first ≤ range.last → (e : Entry) → touches range e ≡ false → counts range e ≡ false
touched range some e none = counts_none range e some none

-- ---- a target begins

-- a target that made ready at a place, and has nothing that is not applied, begins with the entry that it appends
module _ (range : Range) (source : ℕ) (truth material : List Entry) (from : ℕ) (w : Written) (before : Handover) (grant : Grant) (table : List Held) (applies : w.applied ≤ length w.entries) (occupied : range.first ≤ range.last) (ready : IsBare range from w table) where
  abbrev new : Entry
  new = carried_entry before grant

  -- none of its own entries is applied
  own_none : entries_from range from (take w.applied (w.entries ++ new ∷ [])) ≡ []
  own_none =
      ap (entries_from range from) (take-append-le w.applied w.entries (new ∷ []) applies)
      ∙ none_filtered (counts range) (touches range) (touched range occupied) (drop from (take w.applied w.entries))
      (none_between (touches range) from w.applied w.entries ready.nothing)

  -- nothing has arrived
  abbrev Arrived : Held → Type 0
  Arrived = HasArrived roles.Receiving (pulling_from grant.source) (scan_items truth)

  unarrived : (item : Held) → Arrived item → ⊥
  unarrived item arrived = ⊎_elim (λ at. none_stands item (rw (passed_first (scan_items truth)) at at)) (λ e. false≢true e) (arrived refl)

  received : IsReceived Arrived range (scan_items truth) (items_of (entries_from range from (take w.applied (w.entries ++ new ∷ [])))) [] table
  received = record {
    within = λ item at. absurd (none_stands item at);
    copied = λ item at arrived. absurd (unarrived item arrived);
    come = λ item at inside.
        absurd (false≢true (sym ready.empty ∙ list_any_at (is_in range) table at.0 item at.1 (ap (is_in range) at.2 ∙ inside)));
    found = λ item come.
        absurd
        (⊎_elim
        (λ (at : Contains (items_of (entries_from range from (take w.applied (w.entries ++ new ∷ [])))) item).
        none_stands item (rw own_none at at))
        (λ (there : Contains (scan_items truth) item × Arrived item). unarrived item there.1) come);
  }

  pub target_begins : before.range ≡ range → grant.source ≡ source → list_any (touches range) (drop w.applied w.entries) ≡ false
      → IsTarget range source truth material from (with_one_more w new) (as_granted grant.floor before) (pulling_from grant.source)
      (Some (record { floor = grant.floor; ends = grant.ends })) table
  target_begins range_is source_is settled = record {
    from_source = source_is;
    workers = refl;
    pulled = λ joins. absurd (false≢true joins);
    received = received;
    above =
        own_push range from w.entries new ready.placed (AreBelow (items_of material))
        (rw (none_filtered (counts range) (touches range) (touched range occupied) (drop from w.entries) ready.nothing) (All-nil _))
        (λ inside. All-nil _);
    told =
        rw (drop-append-le from w.entries (new ∷ []) ready.placed)
        (Contains-append_right (drop from w.entries) (new ∷ []) new (0, omega arith, refl));
    early = grind (arith, touches, take-append-le, none_between, w.applied, w.entries, ready.placed);
    closing =
        joined_same range from w.entries new refl
        ∙ none_filtered (is_joined_in range) (touches range) (joins_beside range) (drop from w.entries) ready.nothing;
  }

module _ (v : View) (a : Granting v) where
  -- ---- what the source handed over

  -- what is noted for the row is what the grant carries
  noted : handed_for_grant a.row v.handovers v.handed ≡ Some (record { floor = a.grant.floor; ends = a.grant.ends })
  noted = grind (arith, is_waiting, second_has, second_of, tablet, cond-true, is_wanting, old, told)

  pub given : AreHandedOver v.base a.row.range v.journal a.grant.ends
  given = grind (arith, noted, row_was)

  low : IsNext (truths v a.row ++ rests v a.row) a.grant.floor
  low = grind (arith, truths, rests, noted, row_was)

  -- ---- what is handed over

  -- of the row nothing is, since its target waits no more and the row does not open
  none_waits : is_waiting (second_has (now v a).handovers a.row (second_of (lineage_of a.row.phase))) ≡ false
  none_waits = grind (arith, is_waiting, second_has, now, second_of, of_handover, is_wanting, master, tablet)

  pub none_kept : handed_for_grant a.row (now v a).handovers v.handed ≡ None
  none_kept =
      cond-false (is_waiting (second_has (now v a).handovers a.row (second_of (lineage_of a.row.phase)))) (get v.handed a.row.tablet) None none_waits

  pub none_sent : (body : Body) → handed_by a.row (now v a).handovers body ≡ None
  none_sent (bodies.Transfer transfer) =
      grind (arith, eqb, tablet, taker, transfer.tenure.tablet, transfer.tenure.term, transfer.floor, transfer.ends)
  none_sent (bodies.Grant grant) =
      grind arith
  none_sent _ = refl

  -- ---- what is staged

  -- what is staged now records what it recorded
  tells : (r : Row) (end : Ended) → Contains v.rows r → Contains (told (rests v r)) end → Contains (told (rests (now v a) r)) end
  tells r end has there =
      ⊎_elim
      (λ (its : r ≡ a.row).
      let rest : List Entry = rests v a.row in
      rw (its, rest_here v a, flat_map-append told_by rest (entry v a ∷ []))
      (Contains-append_left (told rest) (told (entry v a ∷ [])) end (rw (← its) there)))
      (λ (apart : r.tablet ≡ a.row.tablet → ⊥).
      rw (rests_same v (grow v a) r has apart) there)
      (row_cases v (grow v a) r has)

  more : CallsOf (record v { written = (now v a).written }) (truths v) (rests (now v a))
  more =
      calls_more v (truths v) (rests v) (rests (now v a)) (now v a).written a.sound.calls tells
      (truth_same v (grow v a))

  -- the completions of the target are the ends that its source handed over
  kept : ends_of (completions_from [] a.grant.ends) ≡ a.grant.ends
  kept = rising_noted a.grant.ends a.may.rising

  -- each end that a master keeps is known, or staged
  pub known_on : (q r : ℕ) → v.live q ≡ true → All (λ end. IsKnown v.base v.journal end ⊎ IsStagedEnd v.rows (rests (now v a)) q r ((now v a).handovers q r).term end) (ends_of ((now v a).completions q r))
  known_on q r lives =
      of_tablet v (now v a) (master v a) a.row.tablet (tablet v a) (turned v a)
      (λ q r t. All (λ end. IsKnown v.base v.journal end ⊎ IsStagedEnd v.rows (rests (now v a)) q r t.handover.term end) (ends_of t.completions))
      q r
      (let Known : Ended → Type 0 = λ end.
      IsKnown v.base v.journal end ⊎ IsStagedEnd v.rows (rests (now v a)) (master v a) a.row.tablet (old v a).term end in
      subst (All Known) (sym kept) (All-weaker (IsKnown v.base v.journal) Known (λ end known. inl known) a.grant.ends given.known))
      (λ apart. more.known q r lives)

  -- ---- who speaks

  pub answers : (q : ℕ) → CountsFor (now v a) a.row q → SpeaksFor (now v a) a.row q → ReachAll a.row.range v.journal (ends_of ((now v a).completions q a.row.tablet))
  answers q =
      of_tablet v (now v a) (master v a) a.row.tablet (tablet v a) (turned v a)
      (λ q r t. StillCounts (v.live q) t.handover.term a.row.term → speaks (post_of a.row.phase q) t.handover a.row.term ≡ true
      → ReachAll a.row.range v.journal (ends_of t.completions))
      q a.row.tablet (λ counts says. rw kept given.reached) (λ apart. (row_was v a).calls.answering q)

  -- only the target counts
  pub counts_on : (q : ℕ) → CountsFor (now v a) a.row q → SpeaksFor (now v a) a.row q → IsNext (truths v a.row ++ rests (now v a) a.row) ((now v a).handovers q a.row.tablet).counter
  counts_on q =
      of_handover v a
      (λ h. StillCounts (v.live q) h.term a.row.term → speaks (post_of a.row.phase q) h a.row.term ≡ true
      → IsNext (truths v a.row ++ rests (now v a) a.row) h.counter)
      q a.row.tablet
      (λ at its counts says.
      let carried : Carried = record {
        range = (old v a).range;
        term = (old v a).term;
        floor = a.grant.floor;
        ends = a.grant.ends;
      } in
      rw (rest_here v a) (carried_next (truths v a.row) (rests v a.row) carried a.grant.floor (omega arith) low))
      (λ apart counts says.
      absurd
      (apart
      (speaker_is a.row q (v.handovers q a.row.tablet) (v.written q).applied ((row_was v a).roles.fitting q counts) says ∙ sym (taker v a).speaks) refl))

  -- ---- the target begins

  -- a target of a row has this
  abbrev Targets : Row → Member → Member → Written → Tablet → Type 0
  Targets x source target w t =
      IsTarget x.range source.master (member_truth v.written x.range source) (member_material v.written x.range source) target.from w
      t.handover t.pulling (get v.handed x.tablet) (v.records target.master)

  -- the target that is granted its tablet
  target_here : Targets a.row a.source a.target ((now v a).written (master v a)) (tablet v a)
  target_here =
      let truth : List Entry = member_truth v.written a.row.range a.source in
      let material : List Entry = member_material v.written a.row.range a.source in
      let w : Written = v.written (master v a) in
      let table : List Held = v.records (master v a) in
      rw a.may.may.told (of_written v a
      (λ (w : Written). IsTarget a.row.range a.source.master truth material a.target.from w (tablet v a).handover (tablet v a).pulling
      (Some (record { floor = a.grant.floor; ends = a.grant.ends })) table)
      (master v a)
      (λ at.
      target_begins a.row.range a.source.master truth material a.target.from w (old v a) a.grant table (applied_within (v.logs (master v a)) w _ (a.sound.logs.each (master v a)))
      (some v (grow v a) a.row a.may.may.has_row) (subst (λ (range : Range). IsBare range a.target.from w table) (ranged v a) (bare v a)) (ranged v a)
      a.may.may.source_is (settled v a))
      (λ apart. absurd (apart refl)))

  abbrev written : ℕ → Written
  written = (now v a).written

  -- so the members of the row fit each other
  pub members_here : MembersFit a.row written (now v a).handovers (now v a).pullings v.records v.handed (lineage_of a.row.phase)
  members_here = grind (arith, granted, truth_same, grow, material_other, taker, of_tablet, now, master, tablet, turned, target_here)

  -- the source is another master
  pub handed_here : HandedFits a.row (now v a).handovers (now v a).completions v.handed (lineage_of a.row.phase)
  handed_here = grind (arith, row_was, of_tablet, now, master, tablet, turned, taker, same_term)

  -- what the target names is what it was
  pub names_here : NamedFit written a.row.range (lineage_of a.row.phase)
  names_here =
      let was : NamedFit v.written a.row.range (a.source ∷ a.target ∷ []) =
      subst (NamedFit v.written a.row.range) a.may.may.lineage_is (row_was v a).receives.named in
      rw a.may.may.lineage_is (λ item there.
      rw (truth_same v (grow v a) a.row.range a.source) (was item
      (rw (← (of_written v a
      (λ (w : Written). named_items a.row.range a.target.from w ≡ named_items a.row.range a.target.from (v.written (master v a))) (master v a)
      (λ at. named_stays a.row.range a.target.from (v.written (master v a)) (entry v a) refl (target_placed v a)) (λ apart. refl))) there)))

  -- ---- rebuilds

  -- of two members the first one is not the master
  pub first_same : SameFirst v (grow v a) a.row.range (lineage_of a.row.phase)
  first_same first last others two = grind (arith, master, taker, grow, material_other)

  -- ---- marks

  -- the master has no mark of the row
  none_marked : (q : ℕ) (mark : Mark) → q ≡ master v a → Contains (v.written q).marks mark → mark.tablet ≡ a.row.tablet → ⊥
  none_marked q mark at there its = grind (arith, tablet, row_was, false≢true, has_merged, waits)

  -- so what holds of each mark of the row at another master holds of all
  marked_by : (P : Written → Mark → Type 0) (q : ℕ) → All (λ mark. mark.tablet ≡ a.row.tablet → P (v.written q) mark) (v.written q).marks → All (λ mark. mark.tablet ≡ a.row.tablet → P (written q) mark) (written q).marks
  marked_by P q was = grind (arith, of_written, tablet, all_by, with_one_more, entry, none_marked)

  pub marks_here : (q : ℕ) → All (λ mark. mark.tablet ≡ a.row.tablet → MarkFits a.row q ((now v a).handovers q a.row.tablet) (v.live q) (written q) mark) (written q).marks
  marks_here q =
      marked_by (MarkFits a.row q ((now v a).handovers q a.row.tablet) (v.live q)) q
      (of_tablet v (now v a) (master v a) a.row.tablet (tablet v a) (turned v a)
      (λ q r t. All (λ mark. mark.tablet ≡ a.row.tablet → MarkFits a.row q t.handover (v.live q) (v.written q) mark) (v.written q).marks) q a.row.tablet
      (all_by
      (λ mark. mark.tablet ≡ a.row.tablet → MarkFits a.row (master v a) (tablet v a).handover (v.live (master v a)) (v.written (master v a)) mark)
      (v.written (master v a)).marks (λ mark there its. absurd (none_marked (master v a) mark refl there its)))
      (λ apart. (row_was v a).rebuilds.marks q))

  pub pieces_here : (q : ℕ) → All (λ mark. mark.tablet ≡ a.row.tablet → HasOwnRange a.row.range (written q).entries mark) (written q).marks
  pieces_here q = marked_by (λ w mark. HasOwnRange a.row.range w.entries mark) q ((row_was v a).rebuilds.pieces q)

  -- ---- masters that rebuild

  abbrev IsRebuiltIn : View → Phase → Type 0
  IsRebuiltIn w phase =
      RowIsRebuilt a.row phase (truths v a.row) w.logs w.written v.stored w.handovers w.completions w.gathers w.merged v.records v.live

  pub rebuilt_here : (phase : Phase) → a.row.phase ≡ phase → IsRebuiltIn v phase → IsRebuiltIn (now v a) phase
  rebuilt_here (Rebuilding lineage to) is fit = (
    of_tablet v (now v a) (master v a) a.row.tablet (tablet v a) (turned v a)
        (λ q r t. t.handover.term ≡ a.row.term
        → IsRebuilderIn (now v a).logs written v.stored a.row lineage q (truths v a.row) t.handover t.completions t.gather t.merged_ends (v.records q))
        to a.row.tablet
        (λ term. let less : (old v a).term < a.row.term = (taker v a).behind lineage to is in absurd (omega (arith, less, term)))
        (λ apart term.
        rebuilds_other v (grow v a) a.row a.may.may.has_row lineage to is (v.handovers to a.row.tablet)
        (v.completions to a.row.tablet) (v.gathers to a.row.tablet) (v.merged to a.row.tablet) (λ at. apart at refl) (fit.0 term)),
    marked_more v (grow v a) a.row.range lineage
        (λ first last others two. first_same first last others (ap lineage_of is ∙ two)) fit.1,
  )
  rebuilt_here _ is fit = tt

  -- ---- the whole

  truths_now : truths (now v a) a.row ≡ truths v a.row
  truths_now = truths_same v (grow v a) a.row

  target_now : target_truth written v.handed a.row a.row.phase ≡ target_truth v.written v.handed a.row a.row.phase
  target_now = target_same v (grow v a) a.row

  -- ---- the row

  here : SoundRow (now v a) a.row
  here =
      let was = row_was v a in
      let fitting : (q : ℕ) → CountsFor (now v a) a.row q → RoleFits a.row q ((now v a).handovers q a.row.tablet) (written q).applied = λ q.
      of_tablet v (now v a) (master v a) a.row.tablet (tablet v a) (turned v a)
      (λ q r t. StillCounts (v.live q) t.handover.term a.row.term → RoleFits a.row q t.handover (written q).applied) q a.row.tablet
      (λ counts. rw (applied_same v a (master v a)) (taker v a).fits) (λ apart counts. rw (applied_same v a q) (was.roles.fitting q counts)) in
      let ranged : (q : ℕ) → CountsFor (now v a) a.row q → is_member (lineage_of a.row.phase) q ≡ true → ((now v a).handovers q a.row.tablet).range ≡ a.row.range = λ q.
      of_handover v a
      (λ h. StillCounts (v.live q) h.term a.row.term → is_member (lineage_of a.row.phase) q ≡ true → h.range ≡ a.row.range) q a.row.tablet
      (λ at its. was.roles.ranged q) (λ apart. was.roles.ranged q) in
      let above : AreAbove (items_of (truths (now v a) a.row)) (items_of (rests (now v a) a.row)) =
      rw (truths_now, rest_here v a, flat_map-append items_in (rests v a.row) (entry v a ∷ []) ∙ append-nil (items_of (rests v a.row)))
      was.order in
      let goes_on : IsRest v.base a.row.range (truths (now v a) a.row) (rests (now v a) a.row) v.journal v.asked =
      rw (truths_now, rest_here v a)
      (carried_rest v.base a.row.range (truths v a.row) (rests v a.row) v.journal v.asked _ given.known was.rest.goes_on) in
      let counted : (q : ℕ) → CountsFor (now v a) a.row q → SpeaksFor (now v a) a.row q → IsNextOf (now v a) a.row ((now v a).handovers q a.row.tablet).counter = λ q counts says.
      rw truths_now (counts_on q counts says) in
      let none_granted : (P : Handed → Type 0) → IfSome (handed_for_grant a.row (now v a).handovers v.handed) P = λ P. rw none_kept tt in
      let none_told : (P : Handed → Type 0) → EachIn (λ n m. IfSome (handed_by a.row (now v a).handovers m.body) P) v.wire = λ P n m there.
      rw (none_sent m.body) tt in
      let idle : (q : ℕ) → CountsFor (now v a) a.row q → is_idle ((now v a).handovers q a.row.tablet).role ≡ true → IsSettledIn a.row.range (written q) = λ q.
      of_handover v a
      (λ h. StillCounts (v.live q) h.term a.row.term → is_idle h.role ≡ true → IsSettledIn a.row.range (written q)) q a.row.tablet
      (λ at its counts idles. absurd (false≢true idles))
      (λ apart counts idles. rw ((grow v a).others q (λ at. apart at refl)) (was.rest.idle q counts idles)) in
      assumption (
        was,
        placed_more v (grow v a) (lineage_of a.row.phase) was.rows.placed,
        terms_look a.row.phase (λ q. (v.handovers q a.row.tablet).term) (λ q. ((now v a).handovers q a.row.tablet).term) a.row.term
            (λ q. same_term v a q a.row.tablet) was.roles.at_term,
        rw (← truths_now) at was.truth,
        rw (← truths_now) at was.calls.reached,
        rw (← truths_now) at was.calls.recorded,
        rw (← target_now) at was.calls.moving,
        rw (← truths_now) at was.counters.low,
        rw (← target_now) at was.counters.moving,
        answers,
        none_granted (λ h. AreHandedOver v.base a.row.range v.journal h.ends),
        none_told (λ h. AreHandedOver v.base a.row.range v.journal h.ends),
        none_granted (λ h. IsNextOf (now v a) a.row h.floor),
        none_told (λ h. IsNextOf (now v a) a.row h.floor),
        done_more v (grow v a) a.row.range (lineage_of a.row.phase) first_same was.rest.done,
        unnamed_more v (grow v a) a.row.range (lineage_of a.row.phase) was.rest.unnamed,
        items_more v (grow v a) a.row (now v a).handovers (λ q. same_term v a q a.row.tablet) was.tables,
        members_here,
        handed_here,
        names_here,
        rw (← truths_now) at (rebuilt_here a.row.phase refl was.rebuilds.rebuilt),
        marks_here,
        pieces_here,
        λ (n : ℕ) (m : Message) (there : get v.wire n ≡ Some m).
            says_here v a m.from m.to m.body (says_more v (grow v a) a.row a.may.may.has_row m.from m.to m.body (was.messages n m there)),
      )

  -- ---- beside rows

  spans : (q r : ℕ) → SpansAs (v.handovers q r) ((now v a).handovers q r)
  spans q r =
      of_handover v a (SpansAs (v.handovers q r)) q r
      (λ at its. record { term = refl; range = refl; absent = rw (waits v a q r at its) refl; stages = λ _. refl })
      (λ apart. record { term = refl; range = refl; absent = refl; stages = λ staged. staged })

  beside : SoundBeside (now v a)
  beside =
      beside_more v (grow v a) (tablet_seen (now v a)) spans known_on
      (λ q r.
      of_handover v a (λ h. IsBareOf h (written q) (v.records q)) q r (λ at its. tt)
      (λ apart. bare_more v (grow v a) q r apart (a.sound.receives.bare q r)))

  pub view_granted : SoundView (now v a)
  view_granted =
      view_by_rows (now v a) beside
      (rows_more v (grow v a) (now v a) (tablet v a) (λ tablets. refl) (turned v a) here)

-- what the change makes of a view
pub granted_is : (w : World) (master : ℕ) (grant : Grant) → view (tablet_granted_in w master grant) ≡ granted (view w) master grant.tenure.tablet grant
granted_is w master grant =
    let number : ℕ = grant.tenure.tablet in
    let handover : Handover = as_granted grant.floor (tablet_in w master number).handover in
    let grown : Master = with_appended (master_at w master) (carried_entry handover grant) in
    let changed : Master = tablet_granted (master_at w master) grant handover in
    let tablet : Tablet = record (without_merged (tablet_in w master number)) {
      handover = handover;
      completions = completions_from [] grant.ends;
      pulling = pulling_from grant.source;
    } in
    view_master w master changed number tablet refl (tablet_here grown number tablet) (tablet_apart grown number tablet)
    ∙ (λ i. record (granted (view w) master number grant) {
      records = put_same (view w).records master i;
      calls = put_same (view w).calls master i;
    })
