-- A row takes another phase at its own term: what is known of both phases then, what each message says of the row, and that a view in
-- which the tablet passes on stays sound.
use Rattle.std.proofs.Common.{◌≡◌, ℕ, Bool, true, false, cond, eqb, List, ◌∷◌, Option, Some, refl, sym, ap, ◌∙◌, ⊎_elim, inl, ◌⊎◌, eq-eqb}
use Rattle.std.proofs.Common.{eqb-true, Contains, ◌&&◌, [], None, arith, ◌++◌, IfSome}
use Rattle.rk_inv_base.proofs.Words.{false≢true, or_right, NumberMap, Ended, Member, Node, Completions, Handover, lineage_of, Phase}
use Rattle.rk_inv_base.proofs.Words.{Owned, Opening, Moving, Rebuilding, Row, Grant, Transfer, CopySegment, ReadSegment, Rebuilt, Handed}
use Rattle.rk_inv_base.proofs.Words.{is_member, names, is_opening, is_wanting, HasSource, HasLineage, IsClosing, IsOnlyRebuilder, IsOwnedBy}
use Rattle.rk_inv_base.proofs.Words.{IsOwnedByOther, IsOwner, IsRebuiltBy, IsMovingOrOwned, GrantIn, ReadyIn, TransferIn, JoinedIn}
use Rattle.rk_inv_base.proofs.Words.{RebuiltIn, ReadIn, CopyIn, InvitedTarget, Post, Holds, bond_of, post_of, KeepTerm, IsFormed, View}
use Rattle.rk_inv_base.proofs.Words.{SoundView, and_left, and_parts, and_right, cases_Bool, cond-false, false_from_ne_true, get, Prepare}
use Rattle.rk_inv_base.proofs.Words.{Tenure, Body, Got, Pulled, Rebuild, second_of, handed_by, is_waiting_at, second_has, SaysOf, IsOf}
use Rattle.rk_inv_base.proofs.Words.{IsOfTarget, PrepareFits, CloseFits, OwnFits, ReleaseFits, RebuildFits, AfterMove, GrantAgrees}
use Rattle.rk_inv_base.proofs.Words.{AskAgrees, PulledAgrees, GotAgrees, row_at, IsWithinTerm, SentFits, IfSome_then, Call, changed_rows}
use Rattle.rk_inv_base.proofs.Words.{Message, last_of, AreHandedOver, IsNext, handed_for_grant, RowIsRebuilt, Waits, truths, rests}
use Rattle.rk_inv_rows.proofs.Words.{member as member_at, MayTakeLineage, differ, if_master, by_master, turned as changed, of_waiting}
use Rattle.rk_inv_rows.proofs.Words.{view_replaced, stands_found, row_in, SoundRow, lineage_taken}
use Rattle.rk_inv_rows.specs.lineage.Passing.{PassesOn}
use Rattle.rk_inv_rows.proofs.lineage.Histories.{range_at}
use Rattle.rk_message.specs.declared.message.Body.TheVariants as bodies

-- this holds wherever a row begins to move, and wherever it has moved
abbrev pub WhereBegun : (Phase → Phase → Type 0) → Type 0
WhereBegun P = (source sfrom target dfrom : ℕ) → P (Opening source sfrom target (Some dfrom)) (Moving source sfrom target dfrom)

abbrev pub WhereMoved : (Phase → Phase → Type 0) → Type 0
WhereMoved P = (source sfrom target dfrom : ℕ) → P (Moving source sfrom target dfrom) (Owned target dfrom)

-- then it holds whenever a row passes on
pub passes_by : (P : Phase → Phase → Type 0) (old new : Phase) → WhereBegun P → WhereMoved P → PassesOn old new → P old new
passes_by P old new begins ends passes = grind arith

-- ---- what is known

-- a row took another phase at its term. Nobody owned it, no target was invited, and who was to act for it keeps the row's term; a second
-- member keeps it too, if the row had not moved
pub record HasPassed (v : View) (row : Row) (old new : Phase) : Type 0 where
  pub formed : IsFormed old → IsFormed new
  pub named : (q : ℕ) → names new q ≡ true → names old q ≡ true
  pub member :
      (q : ℕ) → is_member (lineage_of new) q ≡ true
      → (is_member (lineage_of old) q ≡ true) ⊎ ((v.handovers q row.tablet).term ≡ row.term)
  pub second :
      (source target : Member) (more : List Member) → lineage_of new ≡ source ∷ target ∷ more
      → (IsMovingOrOwned old → ⊥) × ((v.handovers target.master row.tablet).term ≡ row.term)
  pub invited : (q : ℕ) → post_of old q ≡ InvitedTarget → ⊥
  pub owned : (q : ℕ) → IsOwnedBy old q → ⊥
  pub released : (q : ℕ) → IsOwnedByOther old q → ⊥
  pub closing : (q : ℕ) → IsClosing old q → (v.handovers q row.tablet).term ≡ row.term
  pub rebuilds : (q : ℕ) → IsRebuiltBy old q → (v.handovers q row.tablet).term ≡ row.term
  pub only : (q : ℕ) → IsOnlyRebuilder (post_of old q) → (v.handovers q row.tablet).term ≡ row.term
  pub owner :
      (q : ℕ) → IsOwner (post_of old q) (v.handovers q row.tablet).term row.term → (v.handovers q row.tablet).term ≡ row.term
  pub granted :
      (q : ℕ) (given : Option Handed) (grant : Grant) → v.live q ≡ true → is_wanting (v.handovers q row.tablet).role ≡ true
      → GrantIn (lineage_of old) given q grant → ⊥
  pub source : (q : ℕ) → HasSource old q → HasSource new q
  pub moved : IsMovingOrOwned new
  pub opens_not : is_opening new ≡ false
  pub lineage : (members : List Member) → HasLineage new members
  pub ready : (h : Handover) (q place : ℕ) → ReadyIn new h row.term q place
  pub transfer : (h : Handover) (kept : Completions) (q : ℕ) (transfer : Transfer) → TransferIn new h kept row.term q transfer
  pub joined : (h : Handover) (applied q : ℕ) → JoinedIn old h applied row.term q → JoinedIn new h applied row.term q
  pub rebuilt :
      (q : ℕ) (ends : List Ended) (report : Rebuilt)
      → RebuiltIn old (v.handovers q row.tablet) ends (v.written q).applied row.term q report
      → RebuiltIn new (v.handovers q row.tablet) ends (v.written q).applied row.term q report
  pub read : (to : Node) (read : ReadSegment) → ReadIn new v.live to read
  pub copy : (x : Row) (copy : CopySegment) → CopyIn x new v.logs v.written v.stored v.live copy

-- ---- a tablet that passes on

-- what holds of each of these posts holds of the post that tests choose
post_by : (P : Post → Type 0) (a b : Bool) (one other third : Post) → P one → P other → P third → P (cond a one (cond b other third))
post_by P a b one other third first second last = grind arith

module _ (v : View) (row : Row) where
  abbrev terms : ℕ → ℕ
  terms q = (v.handovers q row.tablet).term

  -- what a living master has fits its post in a phase
  abbrev LivingFit : Phase → Type 0
  LivingFit phase = (q : ℕ) → v.live q ≡ true → Holds (bond_of (post_of phase q) (v.handovers q row.tablet).role) row.term (terms q) (v.written q).applied

  abbrev Passed : Phase → Phase → Type 0
  Passed old new = KeepTerm new terms row.term → LivingFit new → HasPassed v row old new

  begun : WhereBegun Passed
  begun source sfrom target dfrom at fits = grind (arith, eqb, member_at, post_by, eqb-true)

  moved : WhereMoved Passed
  moved source sfrom target dfrom at fits = grind (arith, or_right, eqb, post_by, bond_of, eq-eqb, false≢true)

  -- a row that may take another lineage has passed
  pub has_passed : (phase : Phase) (handed : NumberMap Handed) → MayTakeLineage v row phase handed → HasPassed v row row.phase phase
  has_passed phase handed may = passes_by Passed row.phase phase begun moved may.passes may.at_term (λ q lives. may.fits q (inl lives))

-- a member of its lineage now has its range: it was one, or keeps its term
pub member_range : (v : View) (row : Row) (phase : Phase) → SoundView v → Contains v.rows row → HasPassed v row row.phase phase → (q : ℕ) → (is_member (lineage_of row.phase) q ≡ true → (v.handovers q row.tablet).range ≡ row.range) → is_member (lineage_of phase) q ≡ true → (v.handovers q row.tablet).range ≡ row.range
member_range v row phase sound has passed q was inside = ⊎_elim was (range_at v sound row has q) (passed.member q inside)

-- no living master rebuilt it
pub none_rebuilt_by : (old new : Phase) (master : ℕ) → PassesOn old new → IsRebuiltBy old master → ⊥
none_rebuilt_by old new master =
    passes_by (λ was is. IsRebuiltBy was master → ⊥) old new (λ source sfrom target dfrom by. by) (λ source sfrom target dfrom by. by)

pub never_rebuilt : (old new : Phase) → PassesOn old new → (lineage : List Member) (to : ℕ) → old ≡ Rebuilding lineage to → ⊥
never_rebuilt old new = grind (arith, passes_by)

module _ (v : View) (row : Row) (phase : Phase) (handed : NumberMap Handed) (passed : HasPassed v row row.phase phase) where
  abbrev new : Row
  new = row_at row row.term phase

  abbrev its_terms : ℕ → ℕ
  its_terms q = (v.handovers q row.tablet).term

  -- a message that is of the new row was of the old one
  was_of : (tenure : Tenure) → IsOf new tenure → IsOf row tenure
  was_of tenure is = record { tablet = is.tablet; term = is.term }

  -- ---- orders

  prepare : (q : ℕ) (order : Prepare) → SentFits row (bodies.Prepare order) → PrepareFits row (v.handovers q row.tablet) (v.live q) q order → PrepareFits new (v.handovers q row.tablet) (v.live q) q order
  prepare q order sent fits = grind (arith, was_of, is_member, lineage_of, eqb, eqb-true, differ, cases_Bool)

  close : (q : ℕ) (tenure : Tenure) → CloseFits row (v.handovers q row.tablet) (v.live q) q tenure → CloseFits new (v.handovers q row.tablet) (v.live q) q tenure
  close q tenure fits = grind (arith, was_of, post_of)

  own : (q : ℕ) (tenure : Tenure) → OwnFits row (v.handovers q row.tablet) (v.live q) q tenure → OwnFits new (v.handovers q row.tablet) (v.live q) q tenure
  own q tenure fits = grind (arith, was_of)

  release : (q : ℕ) (tenure : Tenure) → IsWithinTerm row tenure.tablet tenure.term → ReleaseFits row (v.handovers q row.tablet) (v.live q) q tenure → ReleaseFits new (v.handovers q row.tablet) (v.live q) q tenure
  release q tenure low fits = grind (arith, was_of, false_from_ne_true, is_member, lineage_of, false≢true)

  rebuild : (q : ℕ) (order : Rebuild) → RebuildFits row (v.handovers q row.tablet) (v.live q) q order → RebuildFits new (v.handovers q row.tablet) (v.live q) q order
  rebuild q order fits = grind (arith, was_of, own)

  -- ---- between source and target

  grant_agrees : (q : ℕ) (grant : Grant) → GrantAgrees row (v.handovers q row.tablet) (v.live q) (get v.handed row.tablet) q grant → GrantAgrees new (v.handovers q row.tablet) (v.live q) (get handed row.tablet) q grant
  grant_agrees q grant agrees = grind arith

  -- a message that a target would take is on the wire only if the row moved before, and then its target is no longer the second member
  never : (source target : Member) (more : List Member) → lineage_of phase ≡ source ∷ target ∷ more → (tenure : Tenure) → AfterMove row tenure → tenure.tablet ≡ row.tablet → tenure.term ≡ its_terms target.master → ⊥
  never source target more is tenure after its at =
      let both = passed.second source target more is in both.0 (after (record { tablet = its; term = at ∙ both.1 }))

  of_target : (source target : Member) → lineage_of phase ≡ source ∷ target ∷ [] → (q : ℕ) (tenure : Tenure) → AfterMove row tenure → target.master ≡ q → IsOfTarget new (v.handovers q row.tablet) tenure → ⊥
  of_target source target is q tenure after here its = never source target [] is tenure after its.tablet (its.term ∙ ap its_terms (sym here))

  asks : (lineage : List Member) → lineage_of phase ≡ lineage → (q : ℕ) (to : Node) (tenure : Tenure) → AfterMove row tenure → AskAgrees new v.handovers lineage q to tenure
  asks (source ∷ target ∷ []) is q to tenure after = λ here its. absurd (of_target source target is q tenure after here its)
  asks _ is q to tenure after = tt

  pulled : (lineage : List Member) → lineage_of phase ≡ lineage → (from : Node) (q : ℕ) (message : Pulled) → AfterMove row message.tenure → PulledAgrees new v.written v.handovers v.live lineage from q message
  pulled (source ∷ target ∷ []) is from q message after = λ here lives its. absurd (of_target source target is q message.tenure after here its)
  pulled _ is from q message after = tt

  got : (lineage : List Member) → lineage_of phase ≡ lineage → (from : Node) (q : ℕ) (message : Got) → AfterMove row message.tenure → GotAgrees new v.written v.handovers v.live lineage from q message
  got (source ∷ target ∷ []) is from q message after = λ here lives its. absurd (of_target source target is q message.tenure after here its)
  got _ is from q message after = tt

  -- ---- all kinds

  abbrev SaysWith : Row → NumberMap Handed → Node → Node → Body → Type 0
  SaysWith r = SaysOf r v.logs v.written v.stored v.handovers v.completions v.merged v.live

  -- what a message says of the row it says of the new one
  pub says : (from to : Node) (body : Body) → SentFits row body → SaysWith row v.handed from to body → SaysWith new handed from to body
  says from to body fits said =
      grind (arith, if_master, prepare, by_master, close, moved, grant_agrees, asks, lineage_of, pulled, got, was_of, own, release, rebuild)

  -- ---- what is handed over

  -- a target does not wait at a term of which a Grant is on the wire
  none_waits : (lineage : List Member) → lineage_of phase ≡ lineage → (tenure : Tenure) → AfterMove row tenure → ((eqb tenure.tablet row.tablet) && is_waiting_at (second_has v.handovers new (second_of lineage)) tenure.term) ≡ false
  none_waits (source ∷ target ∷ more) is tenure after =
      let waits = is_wanting (v.handovers target.master row.tablet).role in
      false_from_ne_true (eqb tenure.tablet row.tablet && (waits && eqb (its_terms target.master) tenure.term))
      (λ all.
      let both = and_parts (eqb tenure.tablet row.tablet) (waits && eqb (its_terms target.master) tenure.term) all in
      let parts = and_parts waits (eqb (its_terms target.master) tenure.term) both.1 in
      never source target more is tenure after (eqb-true tenure.tablet row.tablet both.0)
      (sym (eqb-true (its_terms target.master) tenure.term parts.1)))
  none_waits _ is tenure after = and_right (eqb tenure.tablet row.tablet) false refl

  pub none_handed : (from to : Node) (body : Body) → SaysWith row v.handed from to body → handed_by new v.handovers body ≡ None
  none_handed from to body said =
      grind (arith, cond-false, is_opening, eqb, and_left, is_waiting_at, second_has, second_of, lineage_of, none_waits)

module _ (v : View) (row : Row) (phase : Phase) (handed : NumberMap Handed) (sound : SoundView v) (may : MayTakeLineage v row phase handed) where
  abbrev turned_row : Row
  turned_row = row_at row row.term phase

  abbrev now : View
  now = lineage_taken v turned_row handed

  was : SoundRow v row
  was = row_in v sound row may.has_row

  passed : HasPassed v row row.phase phase
  passed = has_passed v row phase handed may

  -- no message hands over for the row now
  nothing_handed : (P : Handed → Type 0) (n : ℕ) (m : Message) → get v.wire n ≡ Some m → IfSome (handed_by turned_row v.handovers m.body) P
  nothing_handed P n m there = rw (none_handed v row phase handed passed m.from m.to m.body (was.messages n m there)) tt

  -- a number is next behind what counts now, if it was next behind what counted
  next_still : (number : ℕ) → IsNext (truths v row ++ rests v row) number → IsNext (truths v turned_row ++ rests v turned_row) number
  next_still number next = let low = may.floor in omega (arith, low, next)

  -- if another member is the last now, no call waits for the row
  waits : (q n : ℕ) (call : Call) (wait : Waits v.rows (v.handovers q) (v.written q) q n call) → wait.row ≡ row → last_of (lineage_of phase) ≡ last_of (lineage_of row.phase)
  waits q n call wait is =
      ⊎_elim (λ (same : last_of (lineage_of phase) ≡ last_of (lineage_of row.phase)). same)
      (λ (none : rests v row ≡ []).
      absurd
      (of_waiting (λ entry. ⊥) v.rows (v.handovers q) v.written q n call wait
      (rw (is, none) (λ k d within. omega (arith, within))))) may.last

  -- the row is not rebuilt
  unrebuilt : RowIsRebuilt turned_row phase (truths v turned_row) v.logs v.written v.stored v.handovers v.completions v.gathers v.merged v.records v.live
  unrebuilt = grind (arith, passes_by, was, truths)

  holds : SoundRow now turned_row
  holds = record {
    nodes = λ q is. was.nodes q (passed.named q is);
    rows = record { begun = was.rows.begun; formed = passed.formed was.rows.formed; placed = may.members.placed };
    terms = λ n m there. let fits = was.terms n m there in record { within = fits.within; below = fits.below };
    roles = record {
      fitting = may.fits;
      ranged = λ q counting. member_range v row phase sound may.has_row passed q (was.roles.ranged q counting);
      at_term = may.at_term;
    };
    truth = may.history.leaves;
    order = may.history.above;
    calls = record {
      reached = may.history.ends;
      recorded = may.history.known;
      moving = may.left.ends;
      answering = λ q counting says. was.calls.answering q counting (may.speaks q counting says);
      granted = IfSome_then (handed_for_grant turned_row v.handovers handed) may.left.granted (λ h both. both.0);
      sent = nothing_handed (λ h. AreHandedOver v.base row.range v.journal h.ends);
    };
    counters = record {
      low = may.history.low;
      moving = may.left.low;
      counted = λ q counting says. next_still (v.handovers q row.tablet).counter (was.counters.counted q counting (may.speaks q counting says));
      granted = IfSome_then (handed_for_grant turned_row v.handovers handed) may.left.granted (λ h both. both.1);
      sent = nothing_handed (λ h. IsNext (truths v turned_row ++ rests v turned_row) h.floor);
    };
    rest = record { goes_on = may.history.goes_on; done = may.members.done; unnamed = may.members.unnamed; idle = was.rest.idle };
    tables = may.full;
    receives = record { target = may.members.target; handed_on = may.members.handed_on; named = may.members.named };
    rebuilds = record {
      rebuilt = unrebuilt;
      marks = λ q k d within its.
          let rebuilt = (was.rebuilds.marks q k d within its).rebuilt in
          absurd (never_rebuilt row.phase phase may.passes rebuilt.0 rebuilt.1 rebuilt.2);
      pieces = was.rebuilds.pieces;
    };
    messages = λ n m there. says v row phase handed passed m.from m.to m.body (was.terms n m there) (was.messages n m there);
  }

  pub view_lineage_taken : SoundView now
  view_lineage_taken =
      view_replaced v row row.term phase handed sound
      (record {
        has_row = may.has_row;
        kept = λ q number fits. record { within = fits.within; below = fits.below; exact = fits.exact };
        given_up = λ q lives. none_rebuilt_by row.phase phase q may.passes;
        waits = waits;
        others = may.others;
        holds = holds;
      })

  -- the rows of a lane after it
  pub rows_after : changed_rows v.rows row.tablet row.term phase ≡ now.rows
  rows_after = ap (λ (o : Option Row). changed o v.rows row.tablet row.term phase) (stands_found v.rows row sound.rows.apart may.has_row)
