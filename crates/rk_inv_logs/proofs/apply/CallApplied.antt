-- A view stays sound when the next entry of a log is applied and a call ends with it: its records, the ends that are kept, and the rest.
use Rattle.std.proofs.Common.{◌≡◌, ℕ, ◌<◌, Option, true, false, List, [], ◌∷◌, ◌++◌, Some, None, refl, sym, ap, ◌∙◌, ◌==◌}
use Rattle.std.proofs.Common.{IfSome, Contains, eqb-true, ◌≤◌, subst, inl, inr, arith, map, if◌then◌else◌, flat_map, eq-eqb, ◌+◌, slice_get}
use Rattle.std.proofs.Common.{nat_cmp, eqb, ne_eqb, ◌≢◌}
use Rattle.rk_inv_base.proofs.Words.{All-weaker, All-contains, IfSome_then, Held, Member, Range, Entry, Handover, lineage_of, Phase}
use Rattle.rk_inv_base.proofs.Words.{Rebuilding, Row, is_of, items_in, items_of, first_of, is_member, last_of, lineage_truth, member_truth}
use Rattle.rk_inv_base.proofs.Words.{IsAboveAll, post_of, rebuilder_post, target_post, AreApart, HasItems, IsTableOf, has_all_items, View}
use Rattle.rk_inv_base.proofs.Words.{truths, cond_both, counts, cond-false, cond-true, false≢true, Contains-append_left, Any-from_list_any}
use Rattle.rk_inv_base.proofs.Words.{get, completions_from, Role, told, told_by, Gather, by_member, is_of_lineage, material_by}
use Rattle.rk_inv_base.proofs.Words.{unmarked_from, counting, named, side_entries, merge, merged_ends, own_place, is_absent}
use Rattle.rk_inv_base.proofs.Words.{may_have_staged, Written, member_material, Merged, is_wanting, HandedFits, IsHandedBy, AreAboveMap}
use Rattle.rk_inv_base.proofs.Words.{AreHandedOver, Ended, IsKnown, IsReached, ReachAll, TellAll, base_map, ends_of, floor_of, handed_by}
use Rattle.rk_inv_base.proofs.Words.{handed_for_grant, has_key, is_mutation, is_waiting, map_after, noted, rests, second_has, second_of}
use Rattle.rk_inv_base.proofs.Words.{cases_Bool, eq_by_cmp, NumberMap, get_or, remove, Call, apply_entry, noting, with_applied, with_ended}
use Rattle.rk_inv_base.proofs.Words.{outcome_of, asked_by, seen_of, with_all_served, with_record, Master, tablet_at, Tablet, no_tablet}
use Rattle.rk_inv_base.proofs.Words.{World, log_in, master_at, tablet_in, with_ledger, with_master, put, put2, view, IsSound, SoundView}
use Rattle.rk_inv_base.proofs.Words.{All-push, AreOneAccepted, AskedOf, EachHasCall, EachIn, IsAfterSeen, IsAfterStart, IsLast, IsLastCall}
use Rattle.rk_inv_base.proofs.Words.{LastCall, Outcome, Placed, WasAsked, Waits, hash_of, is_covered, lane_of_key, next_record, remove_less}
use Rattle.rk_inv_base.proofs.Words.{Message}
use Rattle.rk_inv_logs.proofs.Words.{put_by, all_by, append_nil, speaker_is, SoundRow, row_in, last_stands, filter_stands, history_of}
use Rattle.rk_inv_logs.proofs.Words.{flat_of, free_stands, counts_call, ended_call, put2_same, put_same, view_master, SoundBeside}
use Rattle.rk_inv_logs.proofs.Words.{covered_by, asked_still, got_cases, is_request_still, request_says_still, rising_push, says_still}
use Rattle.rk_inv_logs.proofs.Words.{get_remove, get_removed, key_beside, mapped, member_at}
use Rattle.rk_inv_logs.proofs.apply.Applying.{Applying, after, apart_in, entry, inside, its_row, last_takes, still_beside, first_apart}
use Rattle.rk_inv_logs.proofs.apply.Applying.{its_fits, its_member, its_range, its_speaker, key_outside, names, outside, place}
use Rattle.rk_inv_logs.proofs.apply.Applying.{rest_beside_row, rest_here, row_cases, same_row, truth_beside_row, truth_here, applying}
use Rattle.rk_inv_logs.proofs.apply.Applying.{is_last, its_last, mutation, new}
use Rattle.rk_inv_logs.proofs.apply.CallEnds.{serving, of_completions, reach_noted, known_at, once}
use Rattle.rk_inv_logs.proofs.apply.CallHistory.{newest_here, Serving, all_there, history_here, history_there, known, low_here, low_there}
use Rattle.rk_inv_logs.proofs.apply.CallHistory.{tell_here, tell_there, tells_it, legal_now}
use Rattle.rk_inv_logs.specs.apply.Small.{with_item_of, MayApplyCall, entry_applied_in, worked_in}
use Rattle.rk_inv_logs.proofs.apply.Inserted.{AreNewest, IsInserted, floor_inserted, inserted_behind, told_still}
use Rattle.rk_inv_logs.proofs.apply.ItemPut.{table_apart, table_inserted, bare_with}
use Rattle.rk_inv_logs.proofs.apply.MergedEnds.{merged_reaches, noted_again}
use Rattle.rk_inv_logs.proofs.apply.AppliedRest.{rest_counts}
use Rattle.rk_inv_logs.proofs.apply.Stagers.{none_hands, none_waits, rebuilder_from, staging_present, staging_wants}
use Rattle.rk_inv_logs.proofs.apply.Members.{applied_with}
use Rattle.rk_inv_logs.proofs.apply.Applies.{Applies, StaysBare, Tells, of_target, applied_grows, bare_now, cover_now, logs_now, of_applied}
use Rattle.rk_inv_logs.proofs.apply.Applies.{ordered_now, view_applied, waits_on}
use Rattle.rk_inv_logs.proofs.apply.EntryPassed.{item_put, written_now}
use Rattle.rk_transfer.specs.declared.role.Role.TheVariants as roles

-- ---- who has all of a tablet is the first of its lineage

has_all_first : (phase : Phase) (master term : ℕ) (handover : Handover) → has_all_items (post_of phase master) handover term ≡ true → IfSome (first_of (lineage_of phase)) (λ m. m.master ≡ master)
has_all_first phase master term handover =
    grind (arith, cond_both, has_all_items, eqb-true, target_post, place, rebuilder_post, is_member, first_of)

module _ (v : View) (a : Applying v) where
  -- the entry's item is the newest of its key in any list of items of the row's truth
  newest_alone : (list : List Entry) → ((x : Held) → Contains (items_of list) x → Contains (items_of (truths v (its_row v a))) x) → AreNewest list (entry v a)
  newest_alone list within = All-weaker (IsAboveAll (items_of (truths v (its_row v a)))) (IsAboveAll (items_of list))
      (λ item above.
      all_by (λ other. is_of item.table item.key other ≡ true → other.version < item.version) (items_of list) (λ other at.
      All-contains (λ (x : Held). is_of item.table item.key x ≡ true → x.version < item.version) (items_of (truths v (its_row v a))) other
      above (within other at))) (items_in (entry v a)) (newest_here (serving v a))

  -- the records of the first member have the newest of the row, also if that is the master
  items_here : (q : ℕ) (lineage : List Member) → lineage_of (its_row v a).phase ≡ lineage → AreApart lineage → last_of lineage ≡ Some a.waits.last → IfSome (first_of lineage) (λ m. m.master ≡ q)
      → IfSome (first_of lineage) (λ m. IsTableOf (its_row v a).range (member_truth v.written (its_row v a).range m) (v.records q))
      → IfSome (first_of lineage) (λ m. IsTableOf (its_row v a).range (member_truth (after v a).written (its_row v a).range m) ((after v a).records q))
  items_here q [] is apart last first old = absurd apart
  items_here q (only ∷ []) is apart last first old =
      let range : Range = (its_row v a).range in
      let same : only ≡ a.waits.last = cc last in
      let at : only.master ≡ a.master = ap (λ (m : Member). m.master) same ∙ a.waits.here in
      let all : truths v (its_row v a) ≡ member_truth v.written range only ++ [] = ap (lineage_truth v.base v.written range) is in
      put_by v.records a.master (with_item_of (entry v a)) (IsTableOf range (member_truth (after v a).written range only)) q
      (λ _.
      table_inserted range (member_truth v.written range only) (member_truth (after v a).written range only) (v.records q)
      (a.sound.records.ordered q) old (entry v a) (last_takes v a only (ap last_of is)).truth
      (newest_alone (member_truth v.written range only) (λ x there. rw (all ∙ append_nil (member_truth v.written range only)) there))
      (inside v a)) (λ other. absurd (other (sym first ∙ at)))
  items_here q (first ∷ second ∷ []) is apart last at old =
      let same : second ≡ a.waits.last = cc last in
      let here : second.master ≡ a.master = ap (λ (m : Member). m.master) same ∙ a.waits.here in
      let range : Range = (its_row v a).range in
      put_by v.records a.master (with_item_of (entry v a)) (IsTableOf range (member_truth (after v a).written range first)) q
      (λ q_is. absurd (apart (at ∙ q_is ∙ sym here)))
      (λ _. rw (still_beside v a range first (λ first_is. absurd (apart (first_is ∙ sym here)))).truth old)
  items_here q (first ∷ second ∷ third ∷ more) is apart last at old = absurd apart

  -- so they do of the row, and of each other one
  pub items_its : (q : ℕ) → has_all_items (post_of (its_row v a).phase q) (v.handovers q (its_row v a).tablet) (its_row v a).term ≡ true → HasItems (its_row v a) v.written (v.records q) → HasItems (its_row v a) (after v a).written ((after v a).records q)
  items_its q all =
      items_here q (lineage_of (its_row v a).phase) refl (apart_in v a (its_row v a) a.waits.has_row) a.waits.is_last
      (has_all_first (its_row v a).phase q (its_row v a).term (v.handovers q (its_row v a).tablet) all)

  pub items_beside : (other : Row) → counts other.range (entry v a) ≡ false → (q : ℕ) → HasItems other v.written (v.records q) → HasItems other (after v a).written ((after v a).records q)
  items_beside other outside q old =
      IfSome_then (first_of (lineage_of other.phase)) old (λ member table.
      let beside : IsTableOf other.range (member_truth (after v a).written other.range member) (v.records q) =
      rw (still_beside v a other.range member (λ at. outside)).truth table in
      put_by v.records a.master (with_item_of (entry v a)) (IsTableOf other.range (member_truth (after v a).written other.range member)) q
      (λ at.
      table_apart other.range (entry v a) (member_truth (after v a).written other.range member) (v.records q) outside beside)
      (λ apart. beside))

-- ---- data

-- a master of the lineage has its own entries among what it merges
own_among : (gather : Gather) (own : List Entry) (lineage : List Member) (master : ℕ) → gather.lineage ≡ lineage → gather.own ≡ master → is_member lineage master ≡ true → Contains (by_member gather own) own
own_among gather own lineage master lineage_is own_is member =
    let found = Any-from_list_any (λ (m : Member). m.master == master) lineage member in
    let one : Member = found.1 in
    let stands : Contains gather.lineage one = subst (λ (l : List Member). Contains l one) (sym lineage_is) (found.0, found.2, found.3) in
    let at : one.master ≡ master = eqb-true one.master master found.4 in
    let its : material_by gather own one.master ≡ own =
    cond-true (one.master == gather.own) own _ (eq-eqb one.master gather.own (at ∙ sym own_is)) in
    let each : List (List Entry) = map (λ member. material_by gather own member.master) gather.lineage in
    Contains-append_left each (if is_of_lineage gather then [] else own ∷ []) own
    (subst (Contains each) its (mapped (λ (member : Member). material_by gather own member.master) gather.lineage one stands))

module _ (v : View) (a : Applying v) where
  -- ---- the master that rebuilds its row

  -- where its own entries of the row begin
  own_from : (role : Role) (lineage : List Member) → (its_row v a).phase ≡ Rebuilding lineage a.master → (v.handovers a.master (its_row v a).tablet).term ≡ (its_row v a).term
      → (v.handovers a.master (its_row v a).tablet).role ≡ role → own_place role ≤ place v a
  own_from role lineage is at_term role_is =
      grind (arith, its_row, eq-eqb, post_of, its_fits, lineage_of, rebuilder_from, place, apart_in, last_stands, last_of, is_last)

  -- its own entries record the end of the call
  own_tells : (from : ℕ) → from ≤ place v a → (range : Range) → counts range (entry v a) ≡ true → Contains (told (member_material v.written range (member_at a.master from))) a.end
  own_tells from behind range inside =
      let w : Written = v.written a.master in
      let all : List Entry = unmarked_from w.marks from w.entries in
      flat_of told_by (member_material v.written range (member_at a.master from)) (entry v a) a.end
      (Contains-append_left (counting range all) (counting range (flat_map (side_entries w.sides) (named range all))) (entry v a)
      (filter_stands (counts range) all (entry v a)
      (free_stands w.marks from w.entries (entry v a)
      (record { place = w.applied; behind = behind; stands = a.waits.stands; free = a.waits.unmarked })) inside))
      (tells_it (serving v a))

  module _ (other : Row) (has : Contains v.rows other) (lineage : List Member) (phase_is : other.phase ≡ Rebuilding lineage a.master) (at_term : (v.handovers a.master other.tablet).term ≡ other.term) where
    abbrev kept : Handover
    kept = v.handovers a.master other.tablet

    abbrev own : List Entry
    own = member_material v.written other.range (member_at a.master (own_place (v.handovers a.master other.tablet).role))

    -- an entry of the row is behind the place where its own ones begin
    pub behind_own : counts other.range (entry v a) ≡ true → own_place (v.handovers a.master other.tablet).role ≤ place v a
    behind_own counted = elim (row_cases v a other has) [
      | inl same ↦
          rw same
          (own_from (v.handovers a.master (its_row v a).tablet).role lineage (ap (λ (r : Row). r.phase) (sym same) ∙ phase_is)
          (rw same at at_term) refl)
      | inr differs ↦ absurd (false≢true (sym (outside v a other has differs) ∙ counted))
    ]

    -- what it merged has the end of the call, if that is of the row
    pub completions_same : (merged : Merged) → merged ≡ merge own (by_member (v.gathers a.master other.tablet) own) → v.completions a.master other.tablet ≡ completions_from [] merged.ends
        → (v.gathers a.master other.tablet).lineage ≡ lineage → (v.gathers a.master other.tablet).own ≡ a.master → (after v a).completions a.master other.tablet ≡ completions_from [] merged.ends
    completions_same merged merged_is completions lineage_is own_is =
        let gather : Gather = v.gathers a.master other.tablet in
        of_completions v a (λ c. c ≡ completions_from [] merged.ends) a.master other.tablet
        (λ at its.
        let same : other ≡ its_row v a = same_row v a other has its in
        let counted : counts other.range (entry v a) ≡ true = ap (λ (r : Row). counts r.range (entry v a)) same ∙ inside v a in
        let member : is_member lineage a.master ≡ true =
        ap (λ (l : List Member). is_member l a.master) (ap lineage_of (sym phase_is) ∙ ap (λ (r : Row). lineage_of r.phase) same)
        ∙ its_member v a in
        let told_it : Contains (flat_map told (by_member gather own)) a.end =
        flat_of told (by_member gather own) own a.end (own_among gather own lineage a.master lineage_is own_is member)
        (own_tells (own_place (v.handovers a.master other.tablet).role) (behind_own counted) other.range counted) in
        let reached = merged_reaches (by_member gather own) a.end told_it in
        let ends_are : merged.ends ≡ merged_ends (by_member gather own) = ap (λ (m : Merged). m.ends) merged_is in
        noted_again (v.completions a.master other.tablet) a.end (rw (completions ∙ ap (completions_from []) ends_are) reached)
        ∙ completions) (λ apart. completions)

  -- ---- targets

  -- an entry of the row of a target is behind the target's place
  pub own_behind : (other : Row) → Contains v.rows other → (last : Member) → last_of (lineage_of other.phase) ≡ Some last → counts other.range (entry v a) ≡ true → last.from ≤ place v a
  own_behind other has last is counted = elim (row_cases v a other has) [
    | inl same ↦
        let ends : Some last ≡ Some a.waits.last = sym is ∙ ap (λ (r : Row). last_of (lineage_of r.phase)) same ∙ a.waits.is_last in
        let its : last ≡ a.waits.last = cc ends in rw its a.waits.from
    | inr differs ↦ absurd (false≢true (sym (outside v a other has differs) ∙ counted))
  ]

  -- no other tablet that is there has the key
  tablet_outside : (number : ℕ) → (number ≡ (its_row v a).tablet → ⊥) → is_absent (v.handovers a.master number).role ≡ false → counts (v.handovers a.master number).range (entry v a) ≡ false
  tablet_outside number apart there =
      let range : Range = (v.handovers a.master number).range in
      counts_call range a.call (entry v a) a.waits.own
      ∙ key_beside range (its_row v a).range a.call.table a.call.key
      (rw (its_range v a) at
      (a.sound.terms.apart a.master number (its_row v a).tablet apart there
      (staging_present (v.handovers a.master (its_row v a).tablet).role a.waits.may_stage))) a.waits.in_row

  -- so none that waits for its grant has it
  pub waiting_apart : (r : ℕ) → is_wanting (v.handovers a.master r).role ≡ true → is_absent (v.handovers a.master r).role ≡ false → StaysBare v a.master (entry v a) r
  waiting_apart r wants there from w bare = grind (arith, its_row, false≢true, staging_wants, is_wanting, bare_with, entry, tablet_outside)

  -- a frozen source is not the master
  pub frozen_same : (q tablet : ℕ) → (v.handovers q tablet).role ≡ roles.Frozen → (after v a).completions q tablet ≡ v.completions q tablet
  frozen_same q tablet frozen = of_completions v a (λ c. c ≡ v.completions q tablet) q tablet
      (λ at its.
      let idle : may_have_staged (v.handovers q tablet).role ≡ false = ap may_have_staged frozen in
      absurd (false≢true (sym idle ∙ (λ i. may_have_staged (v.handovers (at i) (its i)).role) ∙ a.waits.may_stage))) (λ apart. refl)

  -- ---- the parts

  abbrev pub applies : Applies v
  applies = record {
    master = a.master;
    entry = a.waits.entry;
    sound = a.sound;
    held = a.may.held;
    stands = a.waits.stands;
    calls = (after v a).calls;
    kept = (after v a).completions;
    journal = (after v a).journal;
    firsts = λ row has first second more is. still_beside v a row.range first (first_apart v a row has first second more is);
    granted = λ row has first last is at granted counted x its.
        subst (λ (n : ℕ). last.from ≤ (v.written n).applied) (sym at) (own_behind row has last (ap last_of is) counted);
    wanted = waiting_apart;
    own = λ row has lineage is term found.
        applied_with row.range (v.written a.master) (entry v a) (v.records a.master) a.waits.stands (names v a row.range)
        (own_place (v.handovers a.master row.tablet).role) (λ counted x at. behind_own row has lineage is term counted);
    others = λ q tablet apart. of_completions v a (λ c. c ≡ v.completions q tablet) q tablet (λ at its. absurd (apart at)) (λ other. refl);
    merged = λ row has lineage is term gather m merged_is same.
        completions_same row has lineage is term m merged_is same gather.lineage_is gather.own_is;
    frozen = frozen_same;
  }

  handed_at : (other : Row) → Contains v.rows other → (lineage : List Member) → lineage_of other.phase ≡ lineage → HandedFits other v.handovers v.completions v.handed lineage → HandedFits other v.handovers (after v a).completions v.handed lineage
  handed_at other has (first ∷ last ∷ []) is fit = λ one.
      of_completions v a (IsHandedBy (get v.handed other.tablet) (v.handovers first.master other.tablet)) first.master other.tablet
      (λ at its.
      let same : other ≡ its_row v a = same_row v a other has its in
      absurd
      (false≢true
      (sym (first_apart v a other has first last [] is at) ∙ ap (λ (r : Row). counts r.range (entry v a)) same ∙ inside v a)))
      (λ _. fit one)
  handed_at other has _ is fit = tt

  -- ---- what rows record

  -- of the row
  tells_here : Tells v (after v a) (its_row v a)
  tells_here =
      let row : Row = its_row v a in
      let s : Serving = serving v a in
      let was : SoundRow v row = row_in v a.sound row a.waits.has_row in
      let stages : may_have_staged (v.handovers a.waits.last.master row.tablet).role ≡ true =
      ap (λ (m : ℕ). may_have_staged (v.handovers m row.tablet).role) a.waits.here ∙ a.waits.may_stage in
      let grows : (last : Member) → last_of (lineage_of row.phase) ≡ Some last → (front : List Entry)
      → IsInserted (entry v a) (front ++ member_truth v.written row.range last) (front ++ member_truth (after v a).written row.range last) =
      λ last is front. inserted_behind (entry v a) _ _ (last_takes v a last is).truth front in
      let floor = floor_inserted (entry v a) (truths v row) (truths (after v a) row) (rests (after v a) row) (truth_here v a) in
      let rest : floor_of (truths v row ++ rests v row) ≡ floor_of (truths v row ++ entry v a ∷ rests (after v a) row) =
      ap (λ (l : List Entry). floor_of (truths v row ++ l)) (rest_here v a) in
      record {
        history = history_here s;
        moving = of_target v (after v a).written row (TellAll row.range v.journal) (TellAll row.range (after v a).journal)
            (λ last is front. tell_here s _ _ (grows last is front)) row.phase refl was.calls.moving;
        low_moving = of_target v (after v a).written row (AreAboveMap row.range (map_after (base_map v.base) v.journal))
            (AreAboveMap row.range (map_after (base_map v.base) (after v a).journal))
            (λ last is front. low_here s _ _ (grows last is front)) row.phase refl was.counters.moving;
        still = told_still (entry v a) (truths v row) (truths (after v a) row) (truth_here v a) items_in;
        floor = omega (arith, floor, rest);
        answering = λ q counts says.
            let at : q ≡ a.master =
            speaker_is row q (v.handovers q row.tablet) (v.written q).applied (was.roles.fitting q counts) says ∙ sym (its_speaker v a) in
            of_completions v a (λ c. ReachAll row.range (after v a).journal (ends_of c)) q row.tablet
            (λ _ _.
            subst (λ (m : ℕ). ReachAll row.range (after v a).journal (ends_of (noted (v.completions m row.tablet) a.end))) (sym at)
            (reach_noted v a
            (subst (λ (m : ℕ). ReachAll row.range v.journal (ends_of (v.completions m row.tablet))) at (was.calls.answering q counts says))))
            (λ apart. absurd (apart at refl));
        ends_granted =
            rw
            (cond-false (is_waiting (second_has v.handovers row (second_of (lineage_of row.phase)))) (get v.handed row.tablet) None
            (none_waits v row a.waits.last stages (lineage_of row.phase) (apart_in v a row a.waits.has_row) a.waits.is_last)) tt;
        ends_sent = λ n m there.
            rw
            (none_hands v row a.waits.last stages m.from m.to m.body (was.messages n m there) (apart_in v a row a.waits.has_row) a.waits.is_last
            (a.waits.here ∙ its_speaker v a)) tt;
        items = λ q alive all. items_its v a q all (was.tables q alive all);
        handed_on = handed_at row a.waits.has_row (lineage_of row.phase) refl was.receives.handed_on;
      }

  -- and of each other one
  tells_there : (row : Row) → Contains v.rows row → (row.tablet ≡ (its_row v a).tablet → ⊥) → Tells v (after v a) row
  tells_there row has differs =
      let s : Serving = serving v a in
      let was : SoundRow v row = row_in v a.sound row has in
      let out : has_key row.range a.call.table a.call.key ≡ false = key_outside v a row has differs in
      let uncounted : counts row.range (entry v a) ≡ false = outside v a row has differs in
      let reach : (list : List Ended) → ReachAll row.range v.journal list → ReachAll row.range (after v a).journal list =
      λ list. all_there s row.range out (λ placed. is_mutation placed.call.op ≡ true → IsReached list placed) in
      let handed : (list : List Ended) → AreHandedOver v.base row.range v.journal list → AreHandedOver v.base row.range
      (after v a).journal list =
      λ list old. record {
        reached = reach list old.reached;
        known = All-weaker (IsKnown v.base v.journal) (IsKnown v.base (after v a).journal) (known s) list old.known;
      } in
      let same : (last : Member) → member_truth (after v a).written row.range last ≡ member_truth v.written row.range last =
      λ last. (still_beside v a row.range last (λ at. uncounted)).truth in
      record {
        history = rw (truth_beside_row v a row has differs, rest_beside_row v a row has differs)
            (history_there s row.range out (truths v row) (rests v row) (rest_counts v.written row.range (lineage_of row.phase))
            (history_of v row a.sound has));
        moving = of_target v (after v a).written row (TellAll row.range v.journal) (TellAll row.range (after v a).journal)
            (λ last is front told. rw (same last) (tell_there s row.range out (front ++ member_truth v.written row.range last) told))
            row.phase refl was.calls.moving;
        low_moving = of_target v (after v a).written row (AreAboveMap row.range (map_after (base_map v.base) v.journal))
            (AreAboveMap row.range (map_after (base_map v.base) (after v a).journal))
            (λ last is front told. rw (same last) (low_there s row.range out (front ++ member_truth v.written row.range last) told))
            row.phase refl was.counters.moving;
        still = λ x at. rw (truth_beside_row v a row has differs) at;
        floor = rw (truth_beside_row v a row has differs, rest_beside_row v a row has differs) (omega arith);
        answering = λ q counts says.
            of_completions v a (λ c. ReachAll row.range (after v a).journal (ends_of c)) q row.tablet (λ at its. absurd (differs its))
            (λ apart. reach (ends_of (v.completions q row.tablet)) (was.calls.answering q counts says));
        ends_granted = IfSome_then (handed_for_grant row v.handovers v.handed) was.calls.granted (λ h. handed h.ends);
        ends_sent = λ n m there. IfSome_then (handed_by row v.handovers m.body) (was.calls.sent n m there) (λ h. handed h.ends);
        items = λ q alive all. items_beside v a row uncounted q (was.tables q alive all);
        handed_on = handed_at row has (lineage_of row.phase) refl was.receives.handed_on;
      }

  pub tells : (row : Row) → Contains v.rows row → Tells v (after v a) row
  tells row has = elim (row_cases v a row has) [ inl same ↦ rw same tells_here | inr differs ↦ tells_there row has differs ]

-- ---- what is said beside the rows

-- what a client had seen is below the stamp of its record
after_seen : (last : Option LastCall) (journal : List Placed) (call : Call) (outcome : Outcome) → IsAfterSeen last (next_record journal call outcome (seen_of last))
after_seen None journal call outcome = tt
after_seen (Some last) journal call outcome = λ same. omega arith

module _ (v : View) (a : Applying v) where
  -- ---- the calls that wait

  of_calls : (P : NumberMap Call → Type 0) (q : ℕ) → (q ≡ a.master → P (remove (v.calls q) (place v a))) → ((q ≡ a.master → ⊥) → P (v.calls q)) → P ((after v a).calls q)
  of_calls P q here was = put_by v.calls a.master (λ calls. remove calls (place v a)) P q here was

  -- at the master one more entry is applied
  applied_here : (q : ℕ) → q ≡ a.master → ((after v a).written q).applied ≡ (v.written q).applied + 1
  applied_here q at = of_applied v (applies v a) (λ n. n ≡ (v.written q).applied + 1) q (λ _. refl) (λ apart. absurd (apart at))

  place_here : (q : ℕ) → q ≡ a.master → (v.written q).applied ≡ place v a
  place_here q at = ap (λ (n : ℕ). (v.written n).applied) at

  waiting_at : (q : ℕ) → EachIn (λ number call. Waits v.rows (v.handovers q) (v.written q) q number call) (v.calls q) → EachIn (λ number call. Waits v.rows (v.handovers q) ((after v a).written q) q number call) ((after v a).calls q)
  waiting_at q old = of_calls (EachIn (λ number call. Waits v.rows (v.handovers q) ((after v a).written q) q number call)) q
      (λ at number call found.
      let was = old number call (remove_less (v.calls q) (place v a) number call found) in
      waits_on v (applies v a) q number call
      (let differs : number ≢ place v a =
      λ same. absurd (cc (sym (get_removed (v.calls q) (place v a)) ∙ ap (get (remove (v.calls q) (place v a))) (sym same) ∙ found)) in
      omega (arith, differs, place_here q at, applied_here q at, was.behind)) was) (λ apart number call found.
      let was = old number call found in
      waits_on v (applies v a) q number call (of_applied v (applies v a) (λ n. n ≤ number) q (λ at. absurd (apart at)) (λ _. was.behind))
      was)

  last_at : (q : ℕ) → EachIn (λ _ call. IsLast (v.asked call.client) call) (v.calls q) → EachIn (λ _ call. IsLast (v.asked call.client) call) ((after v a).calls q)
  last_at q old = of_calls (EachIn (λ _ call. IsLast (v.asked call.client) call)) q
      (λ at number call found. old number call (remove_less (v.calls q) (place v a) number call found)) (λ apart. old)

  found_at : (q : ℕ) → EachHasCall (v.calls q) (v.written q) → EachHasCall ((after v a).calls q) ((after v a).written q)
  found_at q old = of_calls (λ (calls : NumberMap Call). EachHasCall calls ((after v a).written q)) q
      (λ at number e behind stands is free.
      let has = old number e (omega (arith, behind, applied_grows v (applies v a) q)) stands is free in
      let differs : number ≢ place v a = λ same. absurd (omega (arith, same, place_here q at, applied_here q at, behind)) in
      record {
        call = has.call;
        waits = grind (arith, get_remove, place, cond-false, eqb, ne_eqb, v.calls, has.waits);
        own = has.own;
      }) (λ apart number e behind stands is free. old number e (omega (arith, behind, applied_grows v (applies v a) q)) stands is free)

  -- ---- what was asked

  -- the call is the last that its client asked
  last_was : (last : Option LastCall) (journal : List Placed) → IsLast last a.call → WasAsked last journal a.call
  last_was None journal is = is
  last_was (Some last) journal is = inl is

  -- whose key lies in this lane
  last_here : (last : Option LastCall) → IfSome last (IsLastCall v.base v.lane a.call.client) → IsLast last a.call → lane_of_key a.call.key ≡ v.lane
  last_here None of_last is = absurd is
  last_here (Some last) of_last is = ap (λ (c : Call). lane_of_key c.key) (sym is) ∙ of_last.here

  last_after : (last : Option LastCall) → IfSome last (IsLastCall v.base v.lane a.call.client) → IsLast last a.call → IsAfterStart v.base a.call
  last_after None of_last is = absurd is
  last_after (Some last) of_last is = rw is at of_last.after

  once_accepted : (i j : ℕ) (x y : Placed) → slice_get (after v a).journal i ≡ Some x → slice_get (after v a).journal j ≡ Some y → AreOneAccepted x y → i ≡ j
  once_accepted i j x y at_i at_j one = grind (arith, got_cases, new, once)

  asked : AskedOf (after v a)
  asked =
      let later : List Placed = new v a ∷ [] in
      record {
        last = a.sound.asked.last;
        own_keys = All-push (λ placed. lane_of_key placed.call.key ≡ v.lane) v.journal (new v a) a.sound.asked.own_keys
            (last_here (v.asked a.call.client) (a.sound.asked.last a.call.client) (is_last v a));
        recorded = All-push (λ placed. WasAsked (v.asked placed.call.client) (after v a).journal placed.call) v.journal (new v a)
            (All-weaker (λ placed. WasAsked (v.asked placed.call.client) v.journal placed.call)
            (λ placed. WasAsked (v.asked placed.call.client) (after v a).journal placed.call)
            (λ placed. asked_still v.journal later (v.asked placed.call.client) placed.call) v.journal a.sound.asked.recorded)
            (last_was (v.asked a.call.client) (after v a).journal (is_last v a));
        after_start = All-push (λ placed. IsAfterStart v.base placed.call) v.journal (new v a) a.sound.asked.after_start
            (last_after (v.asked a.call.client) (a.sound.asked.last a.call.client) (is_last v a));
        once = once_accepted;
        sent = λ n m found. request_says_still v.journal later v.asked m.from m.body (a.sound.asked.sent n m found);
        again = λ n m found. is_request_still v.journal later v.asked n m.from m.body (a.sound.asked.again n m found);
      }

  beside : SoundBeside (after v a)
  beside = assumption (
    a.sound,
    All-push (λ placed. is_covered v.rows placed.call.table (hash_of placed.call.key) ≡ true) v.journal (new v a) a.sound.rows.covered
        (covered_by v.rows (its_row v a) a.call.table (hash_of a.call.key) a.waits.has_row a.waits.in_row),
    cover_now v (applies v a),
    logs_now v (applies v a),
    legal_now (serving v a),
    rising_push 0 v.journal (new v a) a.sound.truth.rising (omega arith),
    All-push (λ placed. IsAfterSeen (v.asked placed.call.client) placed) v.journal (new v a) a.sound.truth.seen
        (after_seen (v.asked a.call.client) v.journal a.call (new v a).outcome),
    once v a,
    known_at v a,
    λ (q : ℕ) (alive : v.live q ≡ true). waiting_at q (a.sound.rest.waiting q alive),
    λ (q : ℕ) (alive : v.live q ≡ true). last_at q (a.sound.rest.are_last q alive),
    λ (q : ℕ) (alive : v.live q ≡ true). found_at q (a.sound.rest.found q alive),
    ordered_now v (applies v a),
    bare_now v (applies v a),
    λ (n : ℕ) (m : Message) (there : get v.wire n ≡ Some m). says_still v.journal (new v a ∷ []) m.to m.body (a.sound.messages.others n m there),
    asked,
  )

  pub view_with_call : SoundView (after v a)
  view_with_call = view_applied v (applies v a) beside (tells v a)

-- ---- the world

-- what is found of tablets that were changed each
changed_found : (change : Tablet → Tablet) (tablets : NumberMap Tablet) (number : ℕ) → change no_tablet ≡ no_tablet → get_or no_tablet (map (λ entry. (entry.0, change entry.1)) tablets) number ≡ change (get_or no_tablet tablets number)
changed_found change [] number same = sym same
changed_found change (first ∷ tablets) number same =
    grind (arith, cases_Bool, eq_by_cmp, nat_cmp, first.0, (changed_found change tablets number same))

-- a tablet notes an end, or stays as it is
notes : (call : Call) (end : Ended) (tablet : Tablet) → is_absent tablet.handover.role ≡ false → has_key tablet.handover.range call.table call.key ≡ true → noting call end tablet ≡ record tablet { completions = noted tablet.completions end }
notes call end tablet there has = rw (there, has) refl

notes_not : (call : Call) (end : Ended) (tablet : Tablet) → (is_absent tablet.handover.role ≡ false → has_key tablet.handover.range call.table call.key ≡ false) → noting call end tablet ≡ tablet
notes_not call end tablet apart = grind (arith, cases_Bool, is_absent)

module _ (w : World) (a : Applying (view w)) where
  abbrev v : View
  v = view w

  -- the master, and what it is after the entry
  abbrev m : Master
  m = master_at w a.master

  abbrev number : ℕ
  number = (its_row (view w) a).tablet

  abbrev changed : Master
  changed = record (master_at w a.master) {
    records = with_item_of (entry (view w) a) (master_at w a.master).records;
    applied = (master_at w a.master).applied + 1;
    tablets = map (λ entry. (entry.0, noting a.call a.end entry.1)) (master_at w a.master).tablets;
    calls = remove (master_at w a.master).calls (master_at w a.master).applied;
  }

  work_is : apply_entry (master_at w a.master) (entry (view w) a) ≡ ended_call (with_applied (record (master_at w a.master) { records = with_item_of (entry (view w) a) (master_at w a.master).records })) (master_at w a.master).applied a.call a.end
  work_is = (λ i. with_ended (with_applied (item_put m (entry v a) i)) m.applied (a.may.waits i) (a.ended.tells i))

  -- the call gets its record
  recorded : with_all_served 0 w.ledger (ended_call (with_applied (record (master_at w a.master) { records = with_item_of (entry (view w) a) (master_at w a.master).records })) (master_at w a.master).applied a.call a.end).served
      ≡ with_record w.ledger a.call (outcome_of a.end.end) (seen_of (asked_by w.ledger a.call.client))
  recorded = rw (mutation v a, (its_last v a).unrecorded) refl

  -- ---- tablets

  abbrev tablet : Tablet
  tablet = record (tablet_in w a.master (its_row (view w) a).tablet) {
    completions = noted (tablet_in w a.master (its_row (view w) a).tablet).completions a.end;
  }

  tablets_are : (r : ℕ) → tablet_at changed r ≡ noting a.call a.end (tablet_in w a.master r)
  tablets_are r = changed_found (noting a.call a.end) m.tablets r refl

  there : is_absent (v.handovers a.master number).role ≡ false
  there = staging_present (v.handovers a.master number).role a.waits.may_stage

  tablet_noted : tablet_at changed number ≡ tablet
  tablet_noted = tablets_are number
      ∙ notes a.call a.end (tablet_in w a.master number) there
      (ap (λ (range : Range). has_key range a.call.table a.call.key) (its_range v a) ∙ a.waits.in_row)

  tablet_other : (r : ℕ) → (r ≡ number → ⊥) → tablet_at changed r ≡ tablet_in w a.master r
  tablet_other r apart =
      tablets_are r
      ∙ notes_not a.call a.end (tablet_in w a.master r) (λ present.
      key_beside (v.handovers a.master r).range (its_row v a).range a.call.table a.call.key
      (rw (its_range v a) at (a.sound.terms.apart a.master r number apart present there)) a.waits.in_row)

  -- ---- what is seen

  pub view_is : view (entry_applied_in w a.master (entry (view w) a)) ≡ after (view w) a
  view_is = ap view (ap (worked_in w a.master) work_is ∙ ap (with_ledger (with_master w a.master changed)) recorded)
      ∙ ap (λ (seen : View). record seen { journal = w.ledger.journal ++ new v a ∷ [] })
      (view_master w a.master changed number tablet refl tablet_noted tablet_other
      ∙ (λ i. record v {
        logs = put_same v.logs a.master i;
        written = λ q. sym (written_now w a.master changed refl refl refl q) i;
        records = put v.records a.master (with_item_of (entry v a) (v.records a.master));
        calls = put v.calls a.master (remove (v.calls a.master) (v.written a.master).applied);
        handovers = put2_same v.handovers a.master number i;
        completions = put2 v.completions a.master number (noted (v.completions a.master number) a.end);
        pullings = put2_same v.pullings a.master number i;
        gathers = put2_same v.gathers a.master number i;
        merged = put2_same v.merged a.master number i;
      }))

  pub sound_worked : IsSound (entry_applied_in w a.master (entry (view w) a))
  sound_worked = subst SoundView (sym view_is) (view_with_call v a)

-- the next entry of a log, for which a call waits, is applied
pub sound_call_applied : (w : World) (master : ℕ) (call : Call) (entry : Entry) → IsSound w → MayApplyCall (view w) master call → slice_get (log_in w master).entries (master_at w master).applied ≡ Some entry → IsSound (entry_applied_in w master entry)
sound_call_applied w master call next sound may stands =
    let a : Applying (view w) = applying (view w) master call sound may in
    let same : a.waits.entry ≡ next = cc (sym a.waits.stands ∙ stands) in rw same at (sound_worked w a)
