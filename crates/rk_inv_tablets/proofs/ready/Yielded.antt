-- A view stays sound when a master yields: of a row that it is a member of, or whose term it keeps, it has all its records still.
use Rattle.std.proofs.Common.{◌≡◌, ℕ, true, List, [], ◌∷◌, refl, sym, ap, ◌∙◌, ⊎_elim, inl, inr, arith, Contains, All, ◌≤◌}
use Rattle.std.proofs.Common.{false, is_some, Some, ◌⊎◌}
use Rattle.rk_inv_base.proofs.Words.{All-weaker, both_ways, false≢true, IfSome_then, get, Ended, Held, Member, Entry, is_in, Handover}
use Rattle.rk_inv_base.proofs.Words.{lineage_of, Phase, Rebuilding, Row, Gather, first_of, is_member, Pulling, member_truth}
use Rattle.rk_inv_base.proofs.Words.{post_of, rebuilder_post, MarkFits, HandedFits, MembersFit, is_granted, wanted_place}
use Rattle.rk_inv_base.proofs.Words.{RoleFits, AreApart, HasItems, has_all_items, View, truths, SoundView, Handed, AreHandedOver}
use Rattle.rk_inv_base.proofs.Words.{StillCounts, speaks, ReachAll, ends_of, is_idle, HandoverFits, is_absent, row_of, may_have_staged}
use Rattle.rk_inv_base.proofs.Words.{IsInScanOrder, IsSettledIn, Call, Message, has_merged, member_material}
use Rattle.rk_inv_tablets.proofs.Words.{scan_in, truth_in, put_here, IsRebuilderIn, IsBareOf, IsTargetIn, outside_post, heir_post, row_in}
use Rattle.rk_inv_tablets.proofs.Words.{IsNextOf, SoundRow, SoundBeside, waits_for, view_by_rows, formed_apart, all_by, IsRebuiltIn}
use Rattle.rk_inv_base.proofs.roles.ItemsDropped.{has_all_member}
use Rattle.rk_inv_tablets.proofs.ready.OwnItems.{none_remains}
use Rattle.rk_inv_tablets.proofs.ready.Outside.{begun_lacks, first_member, rebuilder_is, second_member, former_behind}
use Rattle.rk_inv_tablets.proofs.ready.Yielding.{Begins, IsBeside, Yielding, by, by_row, of_records, of_tablet, yielded}
use Rattle.rk_inv_tablets.proofs.ready.Yielding.{member_keeps, of_lineage, cover, term_kept, apart_still, member_range, silent}
use Rattle.rk_inv_tablets.proofs.ready.Yielding.{for_grant_on, by_message_on, settled, end_known, stages}
use Rattle.rk_inv_tablets.proofs.ready.YieldedMessages.{says_on}
use Rattle.rk_inv_base.proofs.logs.InRange.{HaveSame, table_same, target_same, rebuilder_same}

module _ (v : View) (a : Yielding v) where
  abbrev now : View
  now = yielded v a

  -- what the master has of a row's tablet then
  abbrev new : Row → Handover
  new x = (a.tablets x.tablet).handover

  -- ---- records

  -- of a row that it is a member of, or whose term it keeps, the master has the same records
  same_records : (x : Row) → Contains v.rows x → (is_member (lineage_of x.phase) a.master ≡ true) ⊎ ((v.handovers a.master x.tablet).term ≡ x.term) → HaveSame x.range (v.records a.master) a.records
  same_records x has counts = record { come = λ item inside left. a.left.stood item left; stays = a.left.stays x has counts }

  -- the master is not said to have all items of what it yielded
  lacks : (x : Row) → IsBeside v a x → has_all_items (post_of x.phase a.master) (new x) x.term ≡ true → ⊥
  lacks x beside all = grind (arith, post_of, outside_post, begun_lacks, rebuilder_post, heir_post, rebuilder_is)

  -- a master has all items of a row, in these records, if it is said to
  abbrev HasAll : Row → ℕ → Handover → List Held → Type 0
  HasAll x q h items = has_all_items (post_of x.phase q) h x.term ≡ true → HasItems x v.written items

  items_left : (x : Row) → Contains v.rows x → HasAll x a.master (v.handovers a.master x.tablet) (v.records a.master) → HasAll x a.master (v.handovers a.master x.tablet) a.records
  items_left x has was all =
      let member : is_member (lineage_of x.phase) a.master ≡ true =
      has_all_member x.phase a.master x.term (v.handovers a.master x.tablet) all in
      IfSome_then (first_of (lineage_of x.phase)) (was all)
      (λ found.
      table_same x.range (v.records a.master) a.records (same_records x has (inl member)) (member_truth v.written x.range found))

  pub items_on : (x : Row) → Contains v.rows x → (q : ℕ) → HasAll x q (v.handovers q x.tablet) (v.records q) → HasAll x q (now.handovers q x.tablet) (now.records q)
  items_on x has q was =
      by_row v a (λ x q h. HasAll x q h (now.records q)) x has q (λ beside was all. absurd (lacks x beside all))
      (of_records v a (λ q items. HasAll x q (v.handovers q x.tablet) items) q (items_left x has) was)

  -- ---- targets

  -- a target of a row that was granted the tablet, with these records
  abbrev IsGranted : Row → Member → Member → ℕ → Handover → Pulling → List Held → Type 0
  IsGranted x source target q h p items =
      q ≡ target.master → is_granted h.role ≡ true → IsTargetIn v.written x source target h p (get v.handed x.tablet) items

  -- so it is in these of a view
  abbrev IsGrantedIn : View → Row → Member → Member → Type 0
  IsGrantedIn w x source target =
      IsGranted x source target target.master (w.handovers target.master x.tablet) (w.pullings target.master x.tablet)
      (w.records target.master)

  target_left : (x : Row) (source target : Member) (h : Handover) (p : Pulling) → Contains v.rows x → is_member (lineage_of x.phase) a.master ≡ true → IsGranted x source target a.master h p (v.records a.master) → IsGranted x source target a.master h p a.records
  target_left x source target h p has member granted at role =
      let truth : List Entry = member_truth v.written x.range source in
      target_same x.range (v.records a.master) a.records (same_records x has (inl member)) source.master truth
      (member_material v.written x.range source) target.from (v.written target.master) h p (get v.handed x.tablet)
      (scan_in x.range truth (truth_in v.written x.range source)) (granted at role)

  -- a master that was granted a tablet of whose row it is a member yields none in which it still is
  ungranted : (x : Row) → IsBeside v a x → is_member (lineage_of x.phase) a.master ≡ true → is_granted (new x).role ≡ true → ⊥
  ungranted x beside member granted = grind (arith, false≢true, both_ways, is_granted)

  targets_on : (x : Row) → Contains v.rows x → (source target : Member) → lineage_of x.phase ≡ source ∷ target ∷ [] → IsGrantedIn v x source target → IsGrantedIn now x source target
  targets_on x has source target two was =
      let member : (q : ℕ) → q ≡ target.master → is_member (lineage_of x.phase) q ≡ true = λ q at.
      of_lineage v a x (source ∷ target ∷ []) two q
      (rw at (second_member source target [])) in
      of_tablet v a (λ q h p g e. IsGranted x source target q h p (now.records q)) target.master x.tablet
      (λ yields was at granted. absurd (ungranted x (yields.beside x has refl) (member a.master at) granted))
      (of_records v a (λ q items. IsGranted x source target q (v.handovers q x.tablet) (v.pullings q x.tablet) items) target.master
      (λ was at.
      target_left x source target (v.handovers a.master x.tablet) (v.pullings a.master x.tablet) has (member a.master at) was at) was)

  pub members : (x : Row) → Contains v.rows x → (lineage : List Member) → lineage_of x.phase ≡ lineage → MembersFit x v.written v.handovers v.pullings v.records v.handed lineage → MembersFit x v.written now.handovers now.pullings now.records v.handed lineage
  members x has (source ∷ target ∷ []) is fit = targets_on x has source target is (λ at. fit) refl
  members x has _ is fit = tt

  -- if a member begins to rebuild a row, no other one has the row's term
  begins_alone : (x : Row) → Contains v.rows x → (q r : ℕ) → (r ≡ q → ⊥) → is_member (lineage_of x.phase) r ≡ true → Begins x q (now.handovers q x.tablet) → (now.handovers r x.tablet).term ≡ x.term → ⊥
  begins_alone x has q r away member begins term = grind (arith, former_behind, row_in, is_member, lineage_of, member_keeps)

  -- what a source handed over is what it keeps, while source and target have one term
  pub told : (x : Row) → Contains v.rows x → (lineage : List Member) → lineage_of x.phase ≡ lineage → AreApart lineage → HandedFits x v.handovers v.completions v.handed lineage → HandedFits x now.handovers v.completions v.handed lineage
  told x has (source ∷ target ∷ []) is apart fit = λ term.
      let s : Handover = now.handovers source.master x.tablet in
      let t : Handover = now.handovers target.master x.tablet in
      let first : is_member (lineage_of x.phase) source.master ≡ true =
      of_lineage v a x (source ∷ target ∷ []) is source.master (first_member source (target ∷ [])) in
      let second : is_member (lineage_of x.phase) target.master ≡ true =
      of_lineage v a x (source ∷ target ∷ []) is target.master (second_member source target []) in
      ⊎_elim
      (λ (still : t ≡ v.handovers target.master x.tablet).
      ⊎_elim
      (λ (same : s ≡ v.handovers source.master x.tablet).
      rw same (fit (ap (λ (h : Handover). h.term) (sym still) ∙ term ∙ ap (λ (h : Handover). h.term) same)))
      (λ (begins : Begins x source.master s).
      absurd (begins_alone x has source.master target.master (λ at. apart (sym at)) second begins (term ∙ begins.term_is)))
      (member_keeps v a x has source.master first))
      (λ (begins : Begins x target.master t).
      absurd (begins_alone x has target.master source.master apart first begins (sym term ∙ begins.term_is)))
      (member_keeps v a x has target.master second)
  told x has (source ∷ target ∷ third ∷ more) is apart fit = absurd apart
  told x has _ is apart fit = tt

  -- the records that the master has
  records_are : now.records a.master ≡ a.records
  records_are = put_here v.records a.master a.records a.master refl

  -- a master that made ready for a tablet has as little of it as before
  pub bare_on : (q r : ℕ) → IsBareOf (v.handovers q r) (v.written q) (v.records q) → IsBareOf (now.handovers q r) (v.written q) (now.records q)
  bare_on q r was =
      by v a (λ q h. IsBareOf h (v.written q) (now.records q)) q r
      (λ yields was. rw records_are yields.bare)
      (of_records v a (λ q items. IsBareOf (v.handovers q r) (v.written q) items) q
      (λ was.
      IfSome_then (wanted_place (v.handovers a.master r).role) was
      (λ from bare. assumption (none_remains (is_in (v.handovers a.master r).range) (v.records a.master) a.records a.left.stood bare.empty))) was)

  -- ---- rebuilds

  -- a master rebuilds a row, with these records, if it keeps the row's term
  abbrev IsRebuilder : Row → List Member → ℕ → Handover → Gather → List Ended → List Held → Type 0
  IsRebuilder x lineage q h g e items =
      x.phase ≡ Rebuilding lineage q → h.term ≡ x.term
      → IsRebuilderIn v.logs v.written v.stored x lineage q (truths v x) h (v.completions q x.tablet) g e items

  abbrev WasRebuilder : Row → List Member → ℕ → List Held → Type 0
  WasRebuilder x lineage q = IsRebuilder x lineage q (v.handovers q x.tablet) (v.gathers q x.tablet) (v.merged q x.tablet)

  rebuilder_left : (x : Row) (lineage : List Member) → Contains v.rows x → WasRebuilder x lineage a.master (v.records a.master) → WasRebuilder x lineage a.master a.records
  rebuilder_left x lineage has fit is term =
      rebuilder_same v x lineage a.master (v.records a.master) a.records (same_records x has (inr term)) (fit is term)

  rebuilder_on : (x : Row) (lineage : List Member) (to : ℕ) → Contains v.rows x → WasRebuilder x lineage to (v.records to) → IsRebuilder x lineage to (now.handovers to x.tablet) (now.gathers to x.tablet) (now.merged to x.tablet) (now.records to)
  rebuilder_on x lineage to has was =
      of_tablet v a (λ q h p g e. IsRebuilder x lineage q h g e (now.records q)) to x.tablet
      (λ yields was is term.
      rw records_are (yields.rebuilds x lineage has refl is term))
      (of_records v a (λ q items. WasRebuilder x lineage q items) to (rebuilder_left x lineage has) was)

  pub row_rebuilt : (x : Row) → Contains v.rows x → (phase : Phase) → x.phase ≡ phase → IsRebuiltIn v x phase → IsRebuiltIn now x phase
  row_rebuilt x has (Rebuilding lineage to) is fit = (rebuilder_on x lineage to has (λ _. fit.0) is, fit.1)
  row_rebuilt x has _ is fit = tt

  -- and each mark fits its row still
  pub marks_on : (x : Row) → Contains v.rows x → (q : ℕ) → All (λ mark. mark.tablet ≡ x.tablet → MarkFits x q (v.handovers q x.tablet) (v.live q) (v.written q) mark) (v.written q).marks → All (λ mark. mark.tablet ≡ x.tablet → MarkFits x q (now.handovers q x.tablet) (v.live q) (v.written q) mark) (v.written q).marks
  marks_on x has q =
      by_row v a (λ x q h. All (λ mark. mark.tablet ≡ x.tablet → MarkFits x q h (v.live q) (v.written q) mark) (v.written q).marks) x has q
      (λ beside.
      All-weaker (λ mark. mark.tablet ≡ x.tablet → MarkFits x a.master (v.handovers a.master x.tablet) (v.live a.master) (v.written a.master) mark)
      (λ mark. mark.tablet ≡ x.tablet → MarkFits x a.master (new x) (v.live a.master) (v.written a.master) mark)
      (λ mark was its.
      let fit = was its in
      let told : mark.term ≡ x.term → (x.phase ≡ Rebuilding (lineage_of x.phase) a.master) × ((new x).term ≡ x.term) × (has_merged (new x).role ≡ true) = λ of_term.
      absurd (omega (arith, beside.below, (fit.by_rebuilder of_term).1)) in
      assumption)
      (v.written a.master).marks)

  -- ---- the whole

  -- of each row holds what did
  module _ (x : Row) (has : Contains v.rows x) where
    -- what is handed over for it is as it should be
    abbrev AreHanded : Handed → Type 0
    AreHanded h = AreHandedOver v.base x.range v.journal h.ends

    abbrev IsFloor : Handed → Type 0
    IsFloor h = IsNextOf v x h.floor

    row_yielded : SoundRow v x → SoundRow now x
    row_yielded was =
        assumption (
          λ (q : ℕ).
              by_row v a (λ x q h. StillCounts (v.live q) h.term x.term → RoleFits x q h (v.written q).applied) x has q
              (λ beside old counts. beside.fits) (was.roles.fitting q),
          λ (q : ℕ).
              by_row v a (λ x q h. StillCounts (v.live q) h.term x.term → is_member (lineage_of x.phase) q ≡ true → h.range ≡ x.range) x has q
              (λ beside old counts. member_range v a x beside) (was.roles.ranged q),
          term_kept v a x has was.roles.at_term,
          λ (q : ℕ).
              by_row v a
              (λ x q h. StillCounts (v.live q) h.term x.term → speaks (post_of x.phase q) h x.term ≡ true
              → ReachAll x.range v.journal (ends_of (v.completions q x.tablet)))
              x has q (λ beside old counts says. absurd (silent v a x beside says)) (was.calls.answering q),
          for_grant_on v a AreHanded x has was.calls.granted,
          λ (n : ℕ) (m : Message) (there : get v.wire n ≡ Some m). by_message_on v a AreHanded x has m.body (was.calls.sent n m there),
          λ (q : ℕ).
              by_row v a
              (λ x q h. StillCounts (v.live q) h.term x.term → speaks (post_of x.phase q) h x.term ≡ true → IsNextOf v x h.counter) x has q
              (λ beside old counts says. absurd (silent v a x beside says)) (was.counters.counted q),
          for_grant_on v a IsFloor x has was.counters.granted,
          λ (n : ℕ) (m : Message) (there : get v.wire n ≡ Some m). by_message_on v a IsFloor x has m.body (was.counters.sent n m there),
          λ (q : ℕ).
              by_row v a (λ x q h. StillCounts (v.live q) h.term x.term → is_idle h.role ≡ true → IsSettledIn x.range (v.written q)) x has q
              (λ beside old counts idles. settled v a x has beside idles) (was.rest.idle q),
          λ (q : ℕ) (lives : v.live q ≡ true). items_on x has q (was.tables q lives),
          members x has (lineage_of x.phase) refl was.receives.target,
          told x has (lineage_of x.phase) refl (formed_apart x.phase was.rows.formed) was.receives.handed_on,
          row_rebuilt x has x.phase refl was.rebuilds.rebuilt,
          λ (q : ℕ). marks_on x has q (was.rebuilds.marks q),
          λ (n : ℕ) (m : Message) (there : get v.wire n ≡ Some m). says_on v a x has m.from m.to m.body (was.messages n m there),
        )

  beside : SoundBeside now
  beside =
      assumption (
        a.sound,
        λ (q r : ℕ).
            by v a (λ q h. All (λ x. HandoverFits x r h) v.rows) q r
            (λ yields old. all_by _ v.rows yields.formed) (a.sound.terms.kept q r),
        λ (q r : ℕ).
            by v a (λ q h. is_absent h.role ≡ false → 1 ≤ h.term) q r (λ yields old. yields.begun) (a.sound.terms.begun q r),
        apart_still v a,
        cover v a,
        λ (q r : ℕ) (alive : v.live q ≡ true).
            by v a (λ q h. is_absent h.role ≡ false → is_some (row_of v.rows r) ≡ true) q r (λ yields old. yields.known)
            (a.sound.roles.known q r alive),
        λ (q r : ℕ) (alive : v.live q ≡ true).
            All-weaker _ _ (end_known v a q r) (ends_of (v.completions q r)) (a.sound.calls.known q r alive),
        λ (q : ℕ) (alive : v.live q ≡ true) (place : ℕ) (call : Call) (there : get (v.calls q) place ≡ Some call).
            let wait = a.sound.rest.waiting q alive place call there in
            waits_for v.rows v.rows (v.handovers q) (now.handovers q) (v.written q) q place call wait wait.row wait.has_row wait.in_row wait.is_last
            (by_row v a (λ x q h. may_have_staged h.role ≡ true) wait.row wait.has_row q (stages v a wait.row wait.has_row) wait.may_stage),
        λ (q : ℕ). of_records v a (λ q items. IsInScanOrder items) q (λ old. a.left.ordered) (a.sound.records.ordered q),
        λ (q r : ℕ). bare_on q r (a.sound.receives.bare q r),
      )

  pub view_yielded : SoundView now
  view_yielded = view_by_rows now beside (all_by _ v.rows (λ x has. row_yielded x has (row_in v a.sound x has)))
