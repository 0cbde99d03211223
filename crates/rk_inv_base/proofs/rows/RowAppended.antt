-- What the invariant says of a row it says still once a master appends an entry to its log: of the row of another tablet, if the entry is
-- of other ranges, and of the row of the tablet for which it appends it, by what the entry adds.
use Rattle.rk_inv_base.proofs.Words.{◌≡◌, ℕ, true, false, List, [], ◌∷◌, ◌++◌, Option, refl, sym, ap, ◌∙◌, subst, arith, slice_index_or}
use Rattle.rk_inv_base.proofs.Words.{IfSome, All, Contains, drop, max, Some, false≢true, All-head, All-tail, All-weaker, IfSome_then, get}
use Rattle.rk_inv_base.proofs.Words.{list_any, EachIn, NumberMap, Call, Ended, Held, Member, Entry, Handover, lineage_of, Phase, Rebuilding}
use Rattle.rk_inv_base.proofs.Words.{Row, Known, known_of, EntryEnd, Handed, items_in, items_of, told, first_of, touches, counts}
use Rattle.rk_inv_base.proofs.Words.{joined_from, named_by, is_joined_in, is_idle, may_have_staged, own_place, Pulling, Written}
use Rattle.rk_inv_base.proofs.Words.{member_truth, member_material, Mark, IsTruth, TellAll, IsKnown, AreAbove, AreAboveMap, IsNext}
use Rattle.rk_inv_base.proofs.Words.{map_after, base_map, AreHandedOver, handed_by, handed_for_grant, target_truth, post_of, IsRest}
use Rattle.rk_inv_base.proofs.Words.{FirstIsDone, OnlyIsUnnamed, HasItems, IsTableOf, IsPlaced, IsTarget, MembersFit, HandedFits, NamedFit}
use Rattle.rk_inv_base.proofs.Words.{is_granted, named_items, wanted_place, stored_of, HasOwnRange, IsRebuilder, MarkFits, NeededOf}
use Rattle.rk_inv_base.proofs.Words.{READ_BACKUP, RowIsRebuilt, StandsLast, has_merged, put2, View, truths, rests, LogsOf, Log, Message}
use Rattle.rk_inv_base.proofs.Words.{has_all_items, is_member}
use Rattle.rk_tablet_map.specs.Phase.{member as member_at}
use Rattle.rk_inv_base.proofs.Base.{put2_by, put2_other, AreAlike, IsAlike, handed_by_alike, handed_for_grant_alike, speaks_alike}
use Rattle.rk_inv_base.proofs.Base.{still_counts, target_truth_same, CountsFor, IsNextOf, SoundRow, SpeaksFor, behind_none, AllLook}
use Rattle.rk_inv_base.proofs.Base.{LooksAs, looks_same, needed_grown, needed_member, rebuilder_weaker, joined_same, IsRebuilderWith}
use Rattle.rk_inv_base.proofs.Base.{named_stays, piece_push, rebuilder_beside, unmarked_push, IsRebuilderBy, former_alone, mark_same}
use Rattle.rk_inv_base.proofs.Base.{IsTargetIn, AreBelow, target_pushed, says_of_looks}
use Rattle.rk_inv_base.proofs.views.Tables.{all_items_same}
use Rattle.rk_inv_base.proofs.logs.OneMore.{FirstIsBeside, IsBeside, applied_same, joins_beside, known_same, logs_with, longer, marked}
use Rattle.rk_inv_base.proofs.logs.OneMore.{marked_on, material_same, names_beside, needs_no_more, of_log, of_written, rest_at, rest_same}
use Rattle.rk_inv_base.proofs.logs.OneMore.{truth_at, truth_same, within, written_with}
use Rattle.rk_inv_base.proofs.roles.Roles.{role_looks, terms_look}

-- a tablet is there as it was: rows and messages see it so, and its role waits, rebuilds and stages as the old one did
pub record StaysAs (old new : Handover) : Type 0 where
  pub looks : LooksAs old new
  pub alike : IsAlike old new
  pub idle : is_idle new.role ≡ is_idle old.role
  pub merged : has_merged new.role ≡ has_merged old.role
  pub granted : is_granted new.role ≡ is_granted old.role
  pub stages : may_have_staged new.role ≡ may_have_staged old.role
  pub wanted : wanted_place new.role ≡ wanted_place old.role

-- the view in which a master has one more entry, these calls wait, and this is what the master has of a tablet
abbrev pub entry_appended : View → ℕ → ℕ → Entry → (ℕ → NumberMap Call) → Handover → View
entry_appended v master tablet entry calls new = record v {
  logs = logs_with v master entry;
  written = written_with v master entry;
  calls = calls;
  handovers = put2 v.handovers master tablet new;
}

-- what is staged of a row goes on, and lies below what is next
pub record RestFits (v now : View) (x : Row) : Type 0 where
  pub above : AreAbove (items_of (truths v x)) (items_of (rests now x))
  pub counted :
      (q : ℕ) → CountsFor v x q → SpeaksFor v x q → IsNext (truths v x ++ rests now x) (now.handovers q x.tablet).counter
  pub floor_granted : IfSome (handed_for_grant x v.handovers v.handed) (λ h. IsNext (truths v x ++ rests now x) h.floor)
  pub floor_sent : EachIn (λ n m. IfSome (handed_by x v.handovers m.body) (λ h. IsNext (truths v x ++ rests now x) h.floor)) v.wire
  pub goes_on : IsRest v.base x.range (truths v x) (rests now x) v.journal v.asked
  pub tells : (end : Ended) → Contains (told (rests v x)) end → Contains (told (rests now x)) end

-- if it is what it was, and the counters are
pub rest_fits : (v now : View) (x : Row) → SoundRow v x → rests now x ≡ rests v x → ((q : ℕ) → (now.handovers q x.tablet).counter ≡ (v.handovers q x.tablet).counter) → RestFits v now x
rest_fits v now x was same counters =
    let Floor : List Entry → Handed → Type 0 = λ list h. IsNext (truths v x ++ list) h.floor in
    record {
      above = subst (λ (list : List Entry). AreAbove (items_of (truths v x)) (items_of list)) (sym same) was.order;
      counted = λ q counts says.
          rw same (subst (IsNextOf v x) (sym (counters q)) (was.counters.counted q counts says));
      floor_granted = rw same was.counters.granted;
      floor_sent = rw same was.counters.sent;
      goes_on = rw same was.rest.goes_on;
      tells = λ end. subst (λ (list : List Entry). Contains (told list) end) (sym same);
    }

-- what is to be known of a row when a master appends an entry: of two members the first one appends none of the range, nor does a master
-- that is idle, has merged or rebuilds the row; and what is staged, a target, and what the last of two members names go on to fit
pub record RowGrows (v now : View) (master tablet : ℕ) (entry : Entry) (x : Row) : Type 0 where
  pub first : FirstIsBeside master entry x.range (lineage_of x.phase)
  pub only : (only : Member) → lineage_of x.phase ≡ only ∷ [] → only.master ≡ master → is_joined_in x.range entry ≡ false
  pub idle : is_idle (v.handovers master x.tablet).role ≡ true → touches x.range entry ≡ false
  pub merged : has_merged (v.handovers master x.tablet).role ≡ true → touches x.range entry ≡ false
  pub rebuilder :
      (lineage : List Member) → x.phase ≡ Rebuilding lineage master → (v.handovers master x.tablet).term ≡ x.term
      → IsBeside x.range entry × (x.tablet ≡ tablet → ⊥)
  pub source : (first last : Member) (more : List Member) → lineage_of x.phase ≡ first ∷ last ∷ more → first.master ≡ master → x.tablet ≡ tablet → ⊥
  pub rest : RestFits v now x
  pub target : MembersFit x now.written now.handovers v.pullings v.records v.handed (lineage_of x.phase)
  pub named : NamedFit now.written x.range (lineage_of x.phase)

module _ (v : View) (master tablet : ℕ) (entry : Entry) (calls : ℕ → NumberMap Call) (new : Handover) (sound : LogsOf v) (lives : v.live master ≡ true) (stays : StaysAs (v.handovers master tablet) new) where
  abbrev now : View
  now = entry_appended v master tablet entry calls new

  -- ---- tablets

  pub each_stays : (q r : ℕ) → StaysAs (v.handovers q r) (now.handovers q r)
  each_stays q r =
      put2_by v.handovers master tablet (λ _. new) (StaysAs (v.handovers q r)) q r
      (λ at its. subst (λ (h : Handover). StaysAs h new) (λ i. v.handovers (sym at i) (sym its i)) stays) (λ apart. assumption (looks_same (v.handovers q r)))

  pub alike : AreAlike v.handovers now.handovers
  alike q r = (each_stays q r).alike

  pub looks : AllLook v.written now.written v.handovers now.handovers
  looks = record {
    each = λ q r. (each_stays q r).looks;
    applied = applied_same v master entry sound;
    truths = truth_same v master entry sound;
  }

  -- what masters have of another tablet is what it was
  pub handover_apart : (q r : ℕ) → (q ≡ master → r ≡ tablet → ⊥) → now.handovers q r ≡ v.handovers q r
  handover_apart = put2_other v.handovers master tablet new

  -- ---- targets, and what they name

  -- a target of a row, whatever its handover, if each own item of the entry is above those of its source
  pub target_grown : (x : Row) (source target : Member) (h : Handover) → (source.master ≡ master → IsBeside x.range entry) → IsPlaced v.written target → (target.master ≡ master → is_joined_in x.range entry ≡ false) → (target.master ≡ master → counts x.range entry ≡ true → All (AreBelow (items_of (member_material v.written x.range source))) (items_in entry)) → IsTargetIn v.written x source target h (v.pullings target.master x.tablet) (get v.handed x.tablet) (v.records target.master) → IsTargetIn now.written x source target h (v.pullings target.master x.tablet) (get v.handed x.tablet) (v.records target.master)
  target_grown x source target h beside placed other above was =
      let q : ℕ = target.master in
      let pulling : Pulling = v.pullings q x.tablet in
      let handed : Option Handed = get v.handed x.tablet in
      let truth : List Entry = member_truth v.written x.range source in
      let material : List Entry = member_material v.written x.range source in
      rw (truth_same v master entry sound x.range source)
      (rw (material_same v master entry sound x.range source beside)
      (of_written v master entry sound (λ (w : Written). IsTarget x.range source.master truth material target.from w h pulling handed (v.records q)) q
      (λ at.
      target_pushed x.range source.master truth material target.from h pulling handed (v.records q) (v.written q) entry
      (within v master entry sound q) placed (other at) (above at) was)
      (λ apart. was)))

  -- what the last of two members names, if the entry names nothing
  pub names_grown : (x : Row) (lineage : List Member) → All (IsPlaced v.written) lineage → named_by x.range entry ≡ [] → NamedFit v.written x.range lineage → NamedFit now.written x.range lineage
  names_grown x (source ∷ target ∷ []) placed none fit = λ item there.
      let w : Written = v.written target.master in
      let its : IsPlaced v.written target =
      All-head (IsPlaced v.written) target [] (All-tail (IsPlaced v.written) source (target ∷ []) placed) in
      let same : named_items x.range target.from (now.written target.master) ≡ named_items x.range target.from w =
      of_written v master entry sound (λ (new : Written). named_items x.range target.from new ≡ named_items x.range target.from w) target.master
      (λ at. named_stays x.range target.from w entry none its) (λ apart. refl) in
      rw (truth_same v master entry sound x.range source) (fit item (subst (λ (items : List Held). Contains items item) same there))
  names_grown x _ placed none fit = tt

  -- ---- the row of another tablet

  members_beside : (x : Row) → (x.tablet ≡ tablet → ⊥) → IsBeside x.range entry → (lineage : List Member) → All (IsPlaced v.written) lineage → MembersFit x v.written v.handovers v.pullings v.records v.handed lineage → MembersFit x now.written now.handovers v.pullings v.records v.handed lineage
  members_beside x apart beside (source ∷ target ∷ []) placed fit = λ granted.
      let q : ℕ = target.master in
      subst
      (λ (h : Handover). IsTargetIn now.written x source target h (v.pullings q x.tablet) (get v.handed x.tablet) (v.records q))
      (sym (handover_apart q x.tablet (λ _ its. apart its)))
      (target_grown x source target (v.handovers q x.tablet) (λ _. beside)
      (All-head (IsPlaced v.written) target [] (All-tail (IsPlaced v.written) source (target ∷ []) placed))
      (λ _. joins_beside x.range entry beside.untouched) (λ _ its. absurd (false≢true (sym beside.uncounted ∙ its)))
      (fit (sym (each_stays q x.tablet).granted ∙ granted)))
  members_beside x apart beside _ placed fit = tt

  pub beside_grows : (x : Row) → SoundRow v x → (x.tablet ≡ tablet → ⊥) → IsBeside x.range entry → RowGrows v now master tablet entry x
  beside_grows x was apart beside = record {
    first = λ _ _ _ _ _. beside;
    only = λ _ _ _. joins_beside x.range entry beside.untouched;
    idle = λ _. beside.untouched;
    merged = λ _. beside.untouched;
    rebuilder = λ _ _ _. (beside, apart);
    source = λ _ _ _ _ _. apart;
    rest =
        rest_fits v now x was (rest_at v master entry sound x beside.uncounted)
        (λ q. ap (λ (h : Handover). h.counter) (handover_apart q x.tablet (λ _ its. apart its)));
    target = members_beside x apart beside (lineage_of x.phase) was.rows.placed was.receives.target;
    named = names_grown x (lineage_of x.phase) was.rows.placed (names_beside x.range entry beside.untouched) was.receives.named;
  }

  -- ---- any row

  module _ (x : Row) (was : SoundRow v x) (grows : RowGrows v now master tablet entry x) where
    counts_before : (q : ℕ) → CountsFor now x q → CountsFor v x q
    counts_before q =
        still_counts (v.live q) (v.handovers q x.tablet).term (now.handovers q x.tablet).term x.term (alike q x.tablet).same_term

    says_before : (q : ℕ) → SpeaksFor now x q → SpeaksFor v x q
    says_before q says =
        sym (speaks_alike (post_of x.phase q) x.term (v.handovers q x.tablet) (now.handovers q x.tablet) (alike q x.tablet)) ∙ says

    -- what follows for the truth of the row
    of_truth : (P : List Entry → Type 0) → P (truths v x) → P (truths now x)
    of_truth P = subst P (sym (truth_at v master entry sound x))

    of_target_truth : (P : List Entry → Type 0) → IfSome (target_truth v.written v.handed x x.phase) P → IfSome (target_truth now.written v.handed x x.phase) P
    of_target_truth P =
        subst (λ (o : Option (List Entry)). IfSome o P)
        (sym (target_truth_same v.written now.written v.handed x x.phase (truth_same v master entry sound)))

    of_granted : (P : Handed → Type 0) → IfSome (handed_for_grant x v.handovers v.handed) P → IfSome (handed_for_grant x now.handovers v.handed) P
    of_granted P = subst (λ (o : Option Handed). IfSome o P) (sym (handed_for_grant_alike x v.handovers now.handovers v.handed alike))

    of_sent : (P : Handed → Type 0) → EachIn (λ n m. IfSome (handed_by x v.handovers m.body) P) v.wire → EachIn (λ n m. IfSome (handed_by x now.handovers m.body) P) v.wire
    of_sent P sent n m there = rw (handed_by_alike x v.handovers now.handovers m.body alike) (sent n m there)

    done : (lineage : List Member) → FirstIsBeside master entry x.range lineage → FirstIsDone v.written x.range lineage → FirstIsDone now.written x.range lineage
    done (one ∷ last ∷ more) first is = record {
      rest = rest_same v master entry sound x.range one (λ at. (first one last more refl at).uncounted) ∙ is.rest;
      all =
          material_same v master entry sound x.range one (first one last more refl) ∙ is.all
          ∙ sym (truth_same v master entry sound x.range one);
    }
    done _ first is = tt

    unnamed : (lineage : List Member) → lineage_of x.phase ≡ lineage → OnlyIsUnnamed v.written x.range lineage → OnlyIsUnnamed now.written x.range lineage
    unnamed (only ∷ []) is none =
        of_written v master entry sound (λ (w : Written). joined_from x.range (max only.from w.applied) w.entries ≡ []) only.master
        (λ at.
        let w : Written = v.written only.master in
        joined_same x.range (max only.from w.applied) w.entries entry (grows.only only is at) ∙ none)
        (λ apart. none)
    unnamed _ is none = tt

    idle : (q : ℕ) → CountsFor now x q → is_idle (now.handovers q x.tablet).role ≡ true → list_any (touches x.range) (drop (now.written q).applied (now.written q).entries) ≡ false
    idle q counts idles =
        let idled : is_idle (v.handovers q x.tablet).role ≡ true = sym (each_stays q x.tablet).idle ∙ idles in
        let none = was.rest.idle q (counts_before q counts) idled in
        of_written v master entry sound (λ (w : Written). list_any (touches x.range) (drop w.applied w.entries) ≡ false) q
        (λ at.
        behind_none (touches x.range) (v.written q).entries (v.written q).applied entry none
        (grows.idle (ap (λ (n : ℕ). is_idle (v.handovers n x.tablet).role) (sym at) ∙ idled)))
        (λ apart. none)

    items : (q : ℕ) → HasItems x v.written (v.records q) → HasItems x now.written (v.records q)
    items q has =
        IfSome_then (first_of (lineage_of x.phase)) has
        (λ member. subst (λ (list : List Entry). IsTableOf x.range list (v.records q)) (sym (truth_same v master entry sound x.range member)))

    -- the first of two members has what it had
    handed_on : (lineage : List Member) → lineage_of x.phase ≡ lineage → HandedFits x v.handovers v.completions v.handed lineage → HandedFits x now.handovers v.completions v.handed lineage
    handed_on (source ∷ target ∷ []) is fit = λ terms.
        rw (handover_apart source.master x.tablet (grows.source source target [] is))
        (fit (sym (alike target.master x.tablet).same_term ∙ terms ∙ (alike source.master x.tablet).same_term))
    handed_on _ is fit = tt

    -- ---- rebuilds

    abbrev Needed : List Member → ℕ → EntryEnd → Type 0
    Needed lineage = NeededOf x v.written lineage

    -- what backups are known to hold is what it was
    known_at : (q : ℕ) → known_of (v.logs q) READ_BACKUP ≡ known_of (now.logs q) READ_BACKUP
    known_at q =
        of_log v master entry sound (λ (log : Log). known_of (v.logs q) READ_BACKUP ≡ known_of log READ_BACKUP) q (λ at. refl)
        (λ apart. refl)

    abbrev RebuildsIn : View → List Member → ℕ → Handover → (ℕ → EntryEnd → Type 0) → Type 0
    RebuildsIn w lineage to h Wanted =
        IsRebuilderBy Wanted w.logs w.written v.stored x lineage to (truths v x) h (v.completions to x.tablet) (v.gathers to x.tablet)
        (v.merged to x.tablet) (v.records to)

    rebuilder : (lineage : List Member) (to : ℕ) → x.phase ≡ Rebuilding lineage to → (v.handovers to x.tablet).term ≡ x.term → RebuildsIn v lineage to (v.handovers to x.tablet) (Needed lineage) → RebuildsIn now lineage to (now.handovers to x.tablet) (NeededOf x now.written lineage)
    rebuilder lineage to is term rebuilds =
        let h : Handover = v.handovers to x.tablet in
        let own : List Entry = member_material v.written x.range (member_at to (own_place h.role)) in
        let other : (at : to ≡ master) → IsBeside x.range entry × (x.tablet ≡ tablet → ⊥) = λ at.
        grows.rebuilder lineage (is ∙ ap (λ (n : ℕ). Rebuilding lineage n) at) (ap (λ (n : ℕ). (v.handovers n x.tablet).term) (sym at) ∙ term) in
        let kept : IsRebuilderWith v x lineage to (Needed lineage) own (now.written to) h =
        of_written v master entry sound (λ (w : Written). IsRebuilderWith v x lineage to (Needed lineage) own w h) to
        (λ at.
        rebuilder_beside v sound entry x lineage to (Needed lineage) (names_beside x.range entry (other at).0.untouched) own (other at).0.untouched
        rebuilds)
        (λ apart. rebuilds) in
        rw (handover_apart to x.tablet (λ at. (other at).1))
        (rebuilder_weaker x lineage to (truths v x) (member_material now.written x.range (member_at to (own_place h.role))) (Needed lineage)
        (NeededOf x now.written lineage) (λ q. known_of (now.logs q) READ_BACKUP) (λ q. stored_of v.stored q READ_BACKUP) (now.written to) h
        (v.completions to x.tablet) (v.gathers to x.tablet) (v.merged to x.tablet) (v.records to)
        (λ q away end needed.
        needed_grown v.written master entry (marked v master entry sound) x lineage q
        (λ at.
        former_alone v x was.roles.fitting lineage to q is (ap v.live at ∙ lives) away (needed_member x now.written lineage q end needed))
        end needed)
        (subst
        (λ (known : ℕ → Known). IsRebuilder x lineage to (truths v x) (member_material now.written x.range (member_at to (own_place h.role)))
        (Needed lineage) known (λ q. stored_of v.stored q READ_BACKUP) (now.written to) h (v.completions to x.tablet) (v.gathers to x.tablet)
        (v.merged to x.tablet) (v.records to))
        (λ i q. known_at q i)
        (rw (material_same v master entry sound x.range (member_at to (own_place h.role)) (λ at. (other at).0)) kept)))

    abbrev IsRebuiltIn : View → Phase → Type 0
    IsRebuiltIn w phase =
        RowIsRebuilt x phase (truths v x) w.logs w.written v.stored w.handovers v.completions v.gathers v.merged v.records v.live

    rebuilt : (phase : Phase) → x.phase ≡ phase → IsRebuiltIn v phase → IsRebuiltIn now phase
    rebuilt (Rebuilding lineage to) is fit = (
      λ term.
          let at : (v.handovers to x.tablet).term ≡ x.term = sym (alike to x.tablet).same_term ∙ term in
          rebuilder lineage to is at (fit.0 at),
      marked_on v master entry sound lives x.range lineage
          (subst (FirstIsBeside master entry x.range) (ap lineage_of is) grows.first) fit.1,
    )
    rebuilt _ is fit = tt

    abbrev Marks : ℕ → Handover → Written → Mark → Type 0
    Marks q h w mark = mark.tablet ≡ x.tablet → MarkFits x q h (v.live q) w mark

    -- a master that bears a mark of the row has merged
    last_stays : (q : ℕ) (mark : Mark) → MarkFits x q (v.handovers q x.tablet) (v.live q) (v.written q) mark → StandsLast x.range (now.written q) mark
    last_stays q mark fit =
        of_written v master entry sound (λ (w : Written). StandsLast x.range w mark) q
        (λ at.
        let by = fit.by_rebuilder (fit.present (ap v.live at ∙ lives)) in
        unmarked_push (touches x.range) (v.written q).marks mark.first (v.written q).entries entry
        (grows.merged (ap (λ (n : ℕ). has_merged (v.handovers n x.tablet).role) (sym at) ∙ by.2)) fit.behind)
        (λ apart. fit.behind)

    marks : (q : ℕ) → All (Marks q (now.handovers q x.tablet) (now.written q)) (now.written q).marks
    marks q =
        let Fits : Mark → Type 0 = Marks q (now.handovers q x.tablet) (now.written q) in
        let each : All Fits (v.written q).marks =
        All-weaker (Marks q (v.handovers q x.tablet) (v.written q)) Fits
        (λ mark fits its.
        mark_same x q (v.handovers q x.tablet) (now.handovers q x.tablet) (v.live q) (v.written q) (now.written q) mark
        (alike q x.tablet).same_term (each_stays q x.tablet).merged (last_stays q mark (fits its)) (fits its))
        (v.written q).marks (was.rebuilds.marks q) in
        of_written v master entry sound (λ (w : Written). All Fits w.marks) q (λ at. each) (λ apart. each)

    abbrev ArePieces : Written → Type 0
    ArePieces w = All (λ mark. mark.tablet ≡ x.tablet → HasOwnRange x.range w.entries mark) w.marks

    pieces : (q : ℕ) → ArePieces (now.written q)
    pieces q =
        of_written v master entry sound ArePieces q
        (λ at k d inside its.
        let mark : Mark = slice_index_or (v.written q).marks k d in
        rw (piece_push mark.first mark.past (v.written q).entries (entry ∷ []) (marked v master entry sound q k d inside))
        (was.rebuilds.pieces q k d inside its))
        (λ apart. was.rebuilds.pieces q)

    -- ---- the whole

    pub row_appended : SoundRow now x
    row_appended =
        assumption (
          All-weaker (IsPlaced v.written) (IsPlaced now.written)
              (λ member place. omega (arith, place, longer v master entry sound member.master)) (lineage_of x.phase) was.rows.placed,
          λ (q : ℕ) (counts : CountsFor now x q).
              role_looks x q (v.handovers q x.tablet) (now.handovers q x.tablet) (v.written q).applied (now.written q).applied
              (each_stays q x.tablet).looks (applied_same v master entry sound q) (was.roles.fitting q (counts_before q counts)),
          λ (q : ℕ) (counts : CountsFor now x q) (member : is_member (lineage_of x.phase) q ≡ true).
              (each_stays q x.tablet).looks.range ∙ was.roles.ranged q (counts_before q counts) member,
          terms_look x.phase (λ q. (v.handovers q x.tablet).term) (λ q. (now.handovers q x.tablet).term) x.term
              (λ q. (alike q x.tablet).same_term) was.roles.at_term,
          of_truth (λ list. IsTruth v.base x.range list v.journal) was.truth,
          of_truth (λ list. AreAbove (items_of list) (items_of (rests now x))) grows.rest.above,
          of_truth (TellAll x.range v.journal) was.calls.reached,
          of_truth (λ list. All (IsKnown v.base v.journal) (told list)) was.calls.recorded,
          of_target_truth (TellAll x.range v.journal) was.calls.moving,
          λ (q : ℕ) (counts : CountsFor now x q) (says : SpeaksFor now x q). was.calls.answering q (counts_before q counts) (says_before q says),
          of_granted (λ h. AreHandedOver v.base x.range v.journal h.ends) was.calls.granted,
          of_sent (λ h. AreHandedOver v.base x.range v.journal h.ends) was.calls.sent,
          of_truth (AreAboveMap x.range (map_after (base_map v.base) v.journal)) was.counters.low,
          of_target_truth (AreAboveMap x.range (map_after (base_map v.base) v.journal)) was.counters.moving,
          λ (q : ℕ) (counts : CountsFor now x q) (says : SpeaksFor now x q).
              of_truth (λ list. IsNext (list ++ rests now x) (now.handovers q x.tablet).counter)
              (grows.rest.counted q (counts_before q counts) (says_before q says)),
          of_truth (λ list. IfSome (handed_for_grant x now.handovers v.handed) (λ h. IsNext (list ++ rests now x) h.floor))
              (of_granted (λ h. IsNext (truths v x ++ rests now x) h.floor) grows.rest.floor_granted),
          of_truth (λ list. EachIn (λ n m. IfSome (handed_by x now.handovers m.body) (λ h. IsNext (list ++ rests now x) h.floor)) v.wire)
              (of_sent (λ h. IsNext (truths v x ++ rests now x) h.floor) grows.rest.floor_sent),
          of_truth (λ list. IsRest v.base x.range list (rests now x) v.journal v.asked) grows.rest.goes_on,
          done (lineage_of x.phase) grows.first was.rest.done,
          unnamed (lineage_of x.phase) refl was.rest.unnamed,
          idle,
          λ (q : ℕ) (alive : v.live q ≡ true) (has : has_all_items (post_of x.phase q) (now.handovers q x.tablet) x.term ≡ true).
              items q
              (was.tables q alive
              (sym (all_items_same (post_of x.phase q) (now.handovers q x.tablet) (v.handovers q x.tablet) x.term (alike q x.tablet).same_term) ∙ has)),
          grows.target,
          handed_on (lineage_of x.phase) refl was.receives.handed_on,
          grows.named,
          of_truth
              (λ list. RowIsRebuilt x x.phase list now.logs now.written v.stored now.handovers v.completions v.gathers v.merged v.records v.live)
              (rebuilt x.phase refl was.rebuilds.rebuilt),
          marks,
          pieces,
          λ (n : ℕ) (m : Message) (there : get v.wire n ≡ Some m).
              says_of_looks v now.logs now.written now.handovers looks (known_same v master entry sound) (needs_no_more v master entry sound lives) x
              m.from m.to m.body (was.messages n m there),
        )
