-- A view stays sound when a master takes a steady role of a tablet that fits its post, at a term that is at most the row's. What it
-- gathered and merged for the tablet may change too, since no row is rebuilt by a master in a steady role.
use Rattle.rk_inv_base.proofs.Words.{◌≡◌, ℕ, ◌<◌, ◌≤◌, Bool, true, false, ◌&&◌, List, [], ◌∷◌, Option, Some, None, cond, eqb, refl, sym, ap}
use Rattle.rk_inv_base.proofs.Words.{◌∙◌, subst, ⊎_elim, ◌⊎◌, inl, inr, arith, drop, ◌==◌, Contains, eq-eqb, All, and_left, or_left}
use Rattle.rk_inv_base.proofs.Words.{false≢true, both_ways, All-weaker, list_any, get, meets, Ended, Member, Range, Completions, ends_of}
use Rattle.rk_inv_base.proofs.Words.{Handover, lineage_of, Phase, Opening, Moving, Rebuilding, Row, Tenure, Transfer, Body, Rebuilt, Gather}
use Rattle.rk_inv_base.proofs.Words.{is_member, second_of, touches, is_idle, may_have_staged, IsKnown, IsStagedEnd, ReachAll, handed_by}
use Rattle.rk_inv_base.proofs.Words.{handed_for_grant, is_waiting, is_wanting, second_has, JoinedIn, OwnFits, ReadyIn, RebuiltIn}
use Rattle.rk_inv_base.proofs.Words.{TransferIn, MayTakeRole, post_of, bond_of, speaks, StillCounts, MarkFits, HandedFits, MembersFit}
use Rattle.rk_inv_base.proofs.Words.{is_granted, KeepTerm, RoleFits, role_taken, HasItems, has_all_items, HandoverFits, View, truths, rests}
use Rattle.rk_inv_base.proofs.Words.{SoundView, Message, has_merged, MayRise, IsNextOf, SoundRow, SoundTablet, Tablet, tablet_seen}
use Rattle.rk_inv_base.proofs.views.ByRows.{row_in, IsRebuiltIn, staged_as}
use Rattle.rk_inv_base.proofs.views.Put.{put2_by, put2_here, put2_other}
use Rattle.rk_inv_base.proofs.rows.Apart.{same_number, one_met}
use Rattle.rk_inv_base.proofs.rows.TurnedRows.{stands_found}
use Rattle.rk_inv_base.proofs.views.Cover.{covered_by}
use Rattle.rk_inv_base.proofs.wire.Messages.{grant_rises}
use Rattle.rk_inv_base.proofs.calls.Receives.{IsTargetIn}
use Rattle.rk_inv_base.proofs.calls.Rebuilds.{IsRebuilderIn}
use Rattle.rk_inv_base.proofs.roles.Steady.{all_items_before, idle_or_staged, rebuilding_behind, steady_granted, steady_place}
use Rattle.rk_inv_base.proofs.views.ByThings.{tablet_of}
use Rattle.rk_inv_base.proofs.views.Lists.{all_in}
use Rattle.rk_inv_base.proofs.views.TabletReplaced.{view_with_tablet}
use Rattle.rk_inv_base.proofs.views.Turned.{IsTurned, of_tablet}
use Rattle.rk_inv_base.proofs.wire.TabletSays.{SaysAlike, says_itself, says_still}

-- rows of other numbers do not meet
pub rows_apart : (v : View) (a b : Row) → SoundView v → Contains v.rows a → Contains v.rows b → (a.tablet ≡ b.tablet → ⊥) → meets a.range b.range ≡ true → ⊥
rows_apart v a b sound first second other met =
    other (ap (λ (r : Row). r.tablet) (one_met v.rows a b sound.rows.apart first second met))

module _ (v : View) (row : Row) (master : ℕ) (new : Handover) (gather : Gather) (ends : List Ended) (sound : SoundView v) (may : MayTakeRole v row master new) where
  abbrev now : View
  now = role_taken v master row.tablet new gather ends

  abbrev old : Handover
  old = v.handovers master row.tablet

  -- what the master has of the tablet then
  abbrev taken : Tablet
  taken = record (tablet_seen v master row.tablet) { handover = new; gather = gather; merged_ends = ends }

  turned : IsTurned v now master row.tablet taken
  turned = grind (arith, put2_here, put2_other)

  -- ---- what is kept

  -- what holds of the old handover, and then of the new one, holds of what is kept
  by : (P : ℕ → ℕ → Handover → Type 0) (q r : ℕ) → (P master row.tablet old → P master row.tablet new) → P q r (v.handovers q r) → P q r (now.handovers q r)
  by P q r gives was =
      put2_by v.handovers master row.tablet (λ h. new) (P q r) q r
      (λ at its. rw (at, its) (gives (rw (← its, ← at) was))) (λ apart. was)

  -- of the row's tablet it holds master by master
  at : (P : ℕ → Handover → Type 0) (q : ℕ) → (P master old → P master new) → P q (v.handovers q row.tablet) → P q (now.handovers q row.tablet)
  at P q = by (λ q r h. P q h) q row.tablet

  was : SoundRow v row
  was = row_in v sound row may.has_row

  wants : is_wanting new.role ≡ false
  wants = grind arith

  -- a tablet at the row's term stays there
  at_term : old.term ≡ row.term → new.term ≡ row.term
  at_term is = omega (arith, is, may.grows, may.within)

  -- no row is rebuilt by the master at its term
  pub behind : (lineage : List Member) → row.phase ≡ Rebuilding lineage master → new.term < row.term
  behind lineage is = grind (arith, rebuilding_behind, bond_of, post_of)

  -- if the row has two members, the master keeps its term, and so does each other one
  kept_of_two : (source target : Member) → lineage_of row.phase ≡ source ∷ target ∷ [] → new.term ≡ old.term
  kept_of_two source target is = grind arith

  term_of_two : (source target : Member) → lineage_of row.phase ≡ source ∷ target ∷ [] → (q : ℕ) → (now.handovers q row.tablet).term ≡ (v.handovers q row.tablet).term
  term_of_two source target is q = grind (arith, at)

  -- ---- parts

  handover_fits : (x : Row) → Contains v.rows x → HandoverFits x row.tablet old → HandoverFits x row.tablet new
  handover_fits x has was = record {
    within = λ is.
        subst (λ (r : Row). new.term ≤ r.term) (sym (same_number v.rows x row sound.rows.apart has may.has_row is)) may.within;
    below = λ another met.
        ⊎_elim
        (λ (same : new.term ≡ old.term).
        rw same (was.below another (ap (λ (range : Range). meets x.range range) (sym may.range_is) ∙ met)))
        (λ (rise : MayRise row master new).
        absurd (rows_apart v x row sound has may.has_row another (ap (λ (range : Range). meets x.range range) (sym rise.range_is) ∙ met)))
        may.term_is;
    exact = λ is term.
        ⊎_elim (λ (same : new.term ≡ old.term). may.range_is ∙ was.exact is (sym same ∙ term))
        (λ (rise : MayRise row master new).
        rise.range_is ∙ ap (λ (r : Row). r.range) (sym (same_number v.rows x row sound.rows.apart has may.has_row is)))
        may.term_is;
  }

  -- those who have to keep the row's term do
  keep_term : (phase : Phase) → KeepTerm phase (λ q. (v.handovers q row.tablet).term) row.term → KeepTerm phase (λ q. (now.handovers q row.tablet).term) row.term
  keep_term (Opening source sfrom target (Some dfrom)) keeps = at (λ q h. h.term ≡ row.term) target at_term keeps
  keep_term (Moving source sfrom target dfrom) keeps =
      (at (λ q h. h.term ≡ row.term) source at_term keeps.0, at (λ q h. h.term ≡ row.term) target at_term keeps.1)
  keep_term _ keeps = tt

  -- what is handed over is what it was, since the master awaits no grant
  wants_at_same : (term q r : ℕ) → (is_wanting (now.handovers q r).role && ((now.handovers q r).term == term)) ≡ (is_wanting (v.handovers q r).role && ((v.handovers q r).term == term))
  wants_at_same term q r =
      by (λ q r h. (is_wanting h.role && (h.term == term)) ≡ (is_wanting (v.handovers q r).role && ((v.handovers q r).term == term))) q r
      (λ was. and_left (is_wanting new.role) (new.term == term) wants ∙ sym (and_left (is_wanting old.role) (old.term == term) may.waited))
      refl

  waits_same : (member : Option Member) → is_waiting (second_has now.handovers row member) ≡ is_waiting (second_has v.handovers row member)
  waits_same None = refl
  waits_same (Some member) =
      at (λ q h. is_wanting h.role ≡ is_wanting (v.handovers q row.tablet).role) member.master (λ was. wants ∙ sym may.waited) refl

  for_grant_same : handed_for_grant row now.handovers v.handed ≡ handed_for_grant row v.handovers v.handed
  for_grant_same = ap (λ (b : Bool). cond b (get v.handed row.tablet) None) (waits_same (second_of (lineage_of row.phase)))

  by_message_same : (body : Body) → handed_by row now.handovers body ≡ handed_by row v.handovers body
  by_message_same body = grind (arith, eqb, second_of, lineage_of, wants_at_same)

  -- an end that the master keeps is known as before
  end_known : (end : Ended) → IsKnown v.base v.journal end ⊎ IsStagedEnd v.rows (rests v) master row.tablet old.term end → IsKnown v.base v.journal end ⊎ IsStagedEnd v.rows (rests v) master row.tablet new.term end
  end_known end =
      ⊎_elim (λ (known : IsKnown v.base v.journal end). inl known)
      (λ (staged : IsStagedEnd v.rows (rests v) master row.tablet old.term end).
      let same : staged.row ≡ row = same_number v.rows staged.row row sound.rows.apart staged.stands may.has_row staged.number in
      inr
      (staged_as _ _ _ _ _ _ _ _ _ staged staged.stands staged.told
      (at_term (staged.at_term ∙ ap (λ (r : Row). r.term) same) ∙ ap (λ (r : Row). r.term) (sym same))))

  -- the master is no target that was granted the tablet
  members : (lineage : List Member) → MembersFit row v.written v.handovers v.pullings v.records v.handed lineage → MembersFit row v.written now.handovers v.pullings v.records v.handed lineage
  members (source ∷ target ∷ []) =
      at
      (λ q h. is_granted h.role ≡ true
      → IsTargetIn v.written row source target h (v.pullings target.master row.tablet) (get v.handed row.tablet) (v.records target.master))
      target.master (λ was granted. absurd (both_ways (is_granted new.role) (steady_granted new.role may.steady) granted))
  members _ = λ fit. fit

  -- what a source handed over is what it keeps
  told : (lineage : List Member) → lineage_of row.phase ≡ lineage → HandedFits row v.handovers v.completions v.handed lineage → HandedFits row now.handovers v.completions v.handed lineage
  told (source ∷ target ∷ []) is fit = grind (arith, term_of_two, ends_of, by, was, target.master, source.master)
  told _ is fit = fit

  -- what a master that rebuilds the row has
  abbrev Rebuilds : ℕ → List Member → Tablet → Type 0
  Rebuilds to lineage t =
      t.handover.term ≡ row.term
      → IsRebuilderIn v.logs v.written v.stored row lineage to (truths v row) t.handover t.completions t.gather t.merged_ends (v.records to)

  row_rebuilt : (phase : Phase) → row.phase ≡ phase → IsRebuiltIn v row phase → IsRebuiltIn now row phase
  row_rebuilt (Rebuilding lineage to) is fit = (
    of_tablet v now master row.tablet taken turned (λ q r t. row.phase ≡ Rebuilding lineage q → Rebuilds q lineage t) to row.tablet
        (λ own term. absurd (omega (arith, behind lineage own, term))) (λ apart _. fit.0) is,
    fit.1,
  )
  row_rebuilt _ is fit = tt

  -- ---- messages

  own_on : (live : Bool) (tenure : Tenure) → OwnFits row old live master tenure → OwnFits row new live master tenure
  own_on live tenure = grind (arith, at, post_of)

  -- no report of the old role counts now
  ready_on : (phase : Phase) (place : ℕ) → ReadyIn phase old row.term master place → ReadyIn phase new row.term master place
  ready_on phase place says = grind (arith, false≢true, is_wanting)

  transfer_on : (phase : Phase) → row.phase ≡ phase → (completions : Completions) (transfer : Transfer) → TransferIn phase old completions row.term master transfer → TransferIn phase new completions row.term master transfer
  transfer_on phase is completions transfer says = grind (arith, is_member, lineage_of, false≢true, or_left, eq-eqb)

  joined_on : (phase : Phase) → row.phase ≡ phase → (applied : ℕ) → JoinedIn phase old applied row.term master → JoinedIn phase new applied row.term master
  joined_on phase is applied says = grind (arith, row_in, bond_of, post_of, eqb, eq-eqb)

  rebuilt_on : (phase : Phase) → row.phase ≡ phase → (applied : ℕ) (rebuilt : Rebuilt) → RebuiltIn phase old (v.merged master row.tablet) applied row.term master rebuilt → RebuiltIn phase new ends applied row.term master rebuilt
  rebuilt_on phase is applied rebuilt says = grind (arith, behind, at_term)

  -- what a message says of the row it says still
  says_on : (q : ℕ) → SaysAlike v row q (tablet_seen v q row.tablet) (tablet_seen now q row.tablet)
  says_on q =
      of_tablet v now master row.tablet taken turned (λ q r t. SaysAlike v row q (tablet_seen v q r) t) q row.tablet (record {
        grows = may.grows;
        owned = own_on (v.live master);
        granted = λ grant.
            grant_rises row old new (v.live master) master may.grows (get v.handed row.tablet) grant
            (λ waits. absurd (both_ways (is_wanting new.role) wants waits));
        ready = ready_on row.phase;
        transferred = transfer_on row.phase refl (v.completions master row.tablet);
        joined = joined_on row.phase refl;
        rebuilt = rebuilt_on row.phase refl;
        target = λ source target two here tenure moved is. record { tablet = is.tablet; term = is.term ∙ kept_of_two source target two };
      })
      (λ apart. says_itself v row q (tablet_seen v q row.tablet))

  -- ---- the whole

  -- a mark fits as before
  marks : (q : ℕ) → All (λ mark. mark.tablet ≡ row.tablet → MarkFits row q (now.handovers q row.tablet) (v.live q) (v.written q) mark) (v.written q).marks
  marks q =
      All-weaker _ _
      (λ mark.
      at (λ q h. mark.tablet ≡ row.tablet → MarkFits row q h (v.live q) (v.written q) mark) q
      (λ was its.
      let fit = was its in
      let none : mark.term ≡ row.term → (row.phase ≡ Rebuilding (lineage_of row.phase) master) × (new.term ≡ row.term) × (has_merged new.role ≡ true) = λ of_term.
      let told = fit.by_rebuilder of_term in absurd (omega (arith, behind (lineage_of row.phase) told.0, at_term told.1)) in
      assumption (none, fit)))
      (v.written q).marks (was.rebuilds.marks q)

  holds : SoundRow now row
  holds =
      assumption (
        λ (q : ℕ).
            at (λ q h. StillCounts (v.live q) h.term row.term → RoleFits row q h (v.written q).applied) q (λ was counts. may.fits) (was.roles.fitting q),
        λ (q : ℕ).
            at (λ q h. StillCounts (v.live q) h.term row.term → is_member (lineage_of row.phase) q ≡ true → h.range ≡ row.range) q
            (λ was counts member. may.range_is ∙ was (inl may.lives) member) (was.roles.ranged q),
        keep_term row.phase was.roles.at_term,
        λ (q : ℕ).
            at
            (λ q h. StillCounts (v.live q) h.term row.term → speaks (post_of row.phase q) h row.term ≡ true
            → ReachAll row.range v.journal (ends_of (v.completions q row.tablet)))
            q (λ was counts says. was (inl may.lives) (may.speaks says)) (was.calls.answering q),
        rw (← for_grant_same) at was.calls.granted,
        λ (n : ℕ) (m : Message) (there : get v.wire n ≡ Some m). rw (← by_message_same m.body) at (was.calls.sent n m there),
        λ (q : ℕ).
            at (λ q h. StillCounts (v.live q) h.term row.term → speaks (post_of row.phase q) h row.term ≡ true → IsNextOf v row h.counter) q
            (λ was counts says. rw may.counter_is (was (inl may.lives) (may.speaks says))) (was.counters.counted q),
        rw (← for_grant_same) at was.counters.granted,
        λ (n : ℕ) (m : Message) (there : get v.wire n ≡ Some m). rw (← by_message_same m.body) at (was.counters.sent n m there),
        λ (q : ℕ).
            at
            (λ q h. StillCounts (v.live q) h.term row.term → is_idle h.role ≡ true
            → list_any (touches row.range) (drop (v.written q).applied (v.written q).entries) ≡ false)
            q (λ was counts idles. may.settled idles) (was.rest.idle q),
        λ (q : ℕ).
            at (λ q h. v.live q ≡ true → has_all_items (post_of row.phase q) h row.term ≡ true → HasItems row v.written (v.records q)) q
            (λ was lives has. was lives (all_items_before (post_of row.phase master) old new row.term may.grows has)) (was.tables q),
        members (lineage_of row.phase) was.receives.target,
        told (lineage_of row.phase) refl was.receives.handed_on,
        row_rebuilt row.phase refl was.rebuilds.rebuilt,
        marks,
        λ (n : ℕ) (m : Message) (there : get v.wire n ≡ Some m). says_still v (tablet_seen now) row says_on m.from m.to m.body (was.messages n m there),
        was,
      )

  -- the tablet is sound with its new role
  tablet : SoundTablet v master row.tablet taken
  tablet =
      let its = tablet_of v sound master row.tablet in
      record {
        terms = record {
          kept = all_in _ (λ x. HandoverFits x row.tablet new) v.rows handover_fits its.terms.kept;
          begun = λ there. omega (arith, its.terms.begun (may.present there), may.grows);
          apart = λ other apart there other_there. rw may.range_is (its.terms.apart other apart (may.present there) other_there);
        };
        cover = record {
          unknown = λ none. absurd (cc (sym (stands_found v.rows row sound.rows.apart may.has_row) ∙ none));
          ranges = λ begun.
              ⊎_elim (λ (same : new.term ≡ old.term). rw may.range_is (its.cover.ranges (rw same at begun)))
              (λ (rise : MayRise row master new).
              rw rise.range_is (λ hash inside. covered_by v.rows row row.range.table hash may.has_row inside))
              may.term_is;
        };
        roles = λ lives there. its.roles lives (may.present there);
        calls = λ lives. All-weaker _ _ end_known (ends_of (v.completions master row.tablet)) (its.calls lives);
        receives = steady_place new.role _ may.steady;
      }

  pub view_role_taken : SoundView now
  view_role_taken =
      view_with_tablet v row master taken (tablet_seen now) sound (record {
        has_row = may.has_row;
        turned = turned;
        tablet = tablet;
        stages = λ some was.
            ⊎_elim (λ (idles : is_idle new.role ≡ true). absurd (false≢true (sym (may.settled idles) ∙ some)))
            (λ (stages : may_have_staged new.role ≡ true). stages) (idle_or_staged new.role);
        holds = holds;
      })
