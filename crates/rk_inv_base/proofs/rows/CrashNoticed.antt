-- A lane stays sound when a crash is noticed: the master is marked as dead, and each row that was its own, or that it was to give or to
-- take over, or to rebuild, is turned, and is rebuilt at the next term.
use Rattle.rk_inv_base.proofs.Words.{◌≡◌, ℕ, ◌+◌, ◌≤◌, ◌<◌, Bool, true, false, cond, eqb, not, List, [], ◌∷◌, ◌++◌, map, Option, Some, None}
use Rattle.rk_inv_base.proofs.Words.{refl, sym, ap, subst, ◌∙◌, ⊎_elim, arith, inl, All, Contains, eq-eqb, eqb-true, ne_eqb, ◌⊎◌, zero, suc}
use Rattle.rk_inv_base.proofs.Words.{find, unwrap_or, cond-false, cond-true, false≢true, or_cases, or_left, or_right, All-contains}
use Rattle.rk_inv_base.proofs.Words.{All-from_recursion, All-head, All-map, All-push, All-tail, Contains-append_right, list_any_at}
use Rattle.rk_inv_base.proofs.Words.{list_any_none, Member, lineage_of, IsTabletMap, Precedes, replaced, Phase, Owned, Opening, Moving}
use Rattle.rk_inv_base.proofs.Words.{Rebuilding, Row, Coordinator, is_noticed, is_member, names, phase_noticed, row_noticed, IsMaster, Mark}
use Rattle.rk_inv_base.proofs.Words.{IsOnlyRebuilder, IsRebuiltBy, MayTakePost, MayTurn, row_at, post_of, StillCounts, MarkFits, MarkedFit}
use Rattle.rk_inv_base.proofs.Words.{RowIsRebuilt, View, truths, SoundView, cond_both, range_with_len, or_parts, Handover, Post}
use Rattle.rk_inv_base.proofs.Words.{OutsideRebuilder, FormerMember, Bystander, rebuilder_post, bond_of, Holds, lowest_left, next_rebuilder}
use Rattle.rk_inv_base.proofs.Words.{MayFollowClose, MayNotice, OpensOn}
use Rattle.rk_inv_base.proofs.Base.{at_most, all_by, SoundRow, row_in, IsRebuiltIn, formed_apart}
use Rattle.rk_inv_base.proofs.logs.MarkedApart.{marked_fit}
use Rattle.rk_inv_base.proofs.rows.RowTurned.{view_turned}

-- ---- who takes a row over

-- a phase whose row passes on to a master when another one is noticed dead
abbrev pub PassesTo : ℕ → Phase → ℕ → Type 0
PassesTo dead (Owned master from) to = master ≡ dead
PassesTo dead (Opening source sfrom target dfrom) to = (source ≡ dead) ⊎ ((target ≡ dead) × (source ≡ to))
PassesTo dead (Moving source sfrom target dfrom) to = ((source ≡ dead) × (target ≡ to)) ⊎ ((target ≡ dead) × (source ≡ to))
PassesTo dead (Rebuilding lineage was) to = was ≡ dead

-- the row is rebuilt then, and has the lineage that it had
abbrev pub rebuilding : Phase → ℕ → Phase
rebuilding phase to = Rebuilding (lineage_of phase) to

pub outside_post : (lineage : List Member) (q : ℕ) → is_member lineage q ≡ false → rebuilder_post lineage q ≡ OutsideRebuilder
outside_post lineage q none = grind (arith, cond-false, eqb, or_parts, is_member)

module _ (dead to q : ℕ) (apart : q ≡ dead → ⊥) (term : ℕ) (handover : Handover) (applied : ℕ) (low : handover.term ≤ term) where
  abbrev FitsPost : Post → Type 0
  FitsPost post = Holds (bond_of post handover.role) term handover.term applied

  abbrev TakesPost : Post → Post → Type 0
  TakesPost was is = MayTakePost was is term (term + 1) handover applied

  outside : FitsPost Bystander → TakesPost Bystander OutsideRebuilder
  outside fits = grind arith

  stays : FitsPost Bystander → TakesPost Bystander Bystander
  stays fits = grind arith

  abbrev Passing : Phase → Type 0
  Passing phase = PassesTo dead phase to → FitsPost (post_of phase q) → TakesPost (post_of phase q) (post_of (rebuilding phase to) q)

  owned : (master from : ℕ) → Passing (Owned master from)
  owned master from passes fits = grind arith

  opened : (source sfrom target : ℕ) (dfrom : Option ℕ) → Passing (Opening source sfrom target dfrom)
  opened source sfrom target dfrom passes fits = grind arith

  moved : (source sfrom target dfrom : ℕ) → Passing (Moving source sfrom target dfrom)
  moved source sfrom target dfrom passes fits = grind arith

  passed_on : (rebuilder : Post) (c m b : Bool) → c ≡ false → (m ≡ false → rebuilder ≡ OutsideRebuilder) → FitsPost (cond c rebuilder (cond m FormerMember Bystander))
      → TakesPost (cond c rebuilder (cond m FormerMember Bystander)) (cond b rebuilder (cond m FormerMember Bystander))
  passed_on rebuilder c m b e out fits = grind (arith, false≢true, outside, stays)

  pub noticed_post : (phase : Phase) → Passing phase
  noticed_post (Owned master from) passes fits = owned master from passes fits
  noticed_post (Opening source sfrom target dfrom) passes fits = opened source sfrom target dfrom passes fits
  noticed_post (Moving source sfrom target dfrom) passes fits = moved source sfrom target dfrom passes fits
  noticed_post (Rebuilding lineage was) passes fits = grind (arith, passed_on, rebuilder_post, eqb, is_member, ne_eqb, outside_post)

-- ---- what living masters do

module _ (dead to q : ℕ) (apart : q ≡ dead → ⊥) where
  -- no living master was to rebuild the tablet, which was its own alone
  pub noticed_rebuilder : (phase : Phase) → PassesTo dead phase to → IsOnlyRebuilder (post_of phase q) → ⊥
  noticed_rebuilder phase passes its = grind arith

-- ---- the lowest master that was not noticed dead

-- a number within a range
pub record IsBetween (start count number : ℕ) : Type 0 where
  first : start ≤ number
  before : number < start + count

-- the first number that passes is the first one, or else it is among those behind
pub first_here : (test : ℕ → Bool) (start count number : ℕ) → IsBetween start (suc count) number → test number ≡ true → ((number ≡ start → ⊥) → IsBetween (start + 1) count (unwrap_or (find test (range_with_len (start + 1) count)) 0)) → IsBetween start (suc count) (unwrap_or (cond (test start) (Some start) (find test (range_with_len (start + 1) count))) 0)
first_here test start count number within passes later = grind arith

-- the first number of a range that passes, if some number there passes, is within it
pub first_between : (test : ℕ → Bool) (start count number : ℕ) → IsBetween start count number → test number ≡ true → IsBetween start count (unwrap_or (find test (range_with_len start count)) 0)
first_between test start zero number within passes = absurd (omega (arith, within.first, within.before))
first_between test start (suc count) number within passes =
    first_here test start count number within passes
    (λ apart.
    first_between test (start + 1) count number
    (record { first = omega (arith, apart, within.first); before = omega (arith, within.before) }) passes)

pub lowest_there : (coordinator : Coordinator) (living : ℕ) → IsMaster coordinator.masters living → is_noticed coordinator living ≡ false → IsMaster coordinator.masters (lowest_left coordinator)
lowest_there coordinator living there unnoticed =
    let lowest =
    first_between (λ master. not (is_noticed coordinator master)) 1 coordinator.masters living
    (record { first = there.first; before = omega (arith, there.last) }) (ap not unnoticed) in
    record { first = lowest.first; last = omega (arith, lowest.before) }

-- what all have, and another one, what is found among them or else that other one has
pub found_or : {X : Type 0} (P : X → Type 0) (test : X → Bool) (list : List X) (other : X) → All P list → P other → P (unwrap_or (find test list) other)
found_or P test [] other all it = it
found_or P test (first ∷ rest) other all it =
    cond_both (test first) (Some first) (find test rest) (λ found. P (unwrap_or found other)) (λ e. All-head P first rest all)
    (λ e. found_or P test rest other (All-tail P first rest all) it)

-- ---- a phase and its members

-- a row names its members
pub names_members : (phase : Phase) (q : ℕ) → is_member (lineage_of phase) q ≡ true → names phase q ≡ true
names_members phase q inside = grind arith

-- ---- a row is turned

-- a row passes on to a master that is there
pub record Passes (v : View) (dead : ℕ) (phase new : Phase) (to : ℕ) : Type 0 where
  is : new ≡ rebuilding phase to
  there : IsMaster v.masters to
  passes : PassesTo dead phase to

module _ (v : View) (row : Row) (dead : ℕ) (sound : SoundView v) (crashed : v.live dead ≡ false) (has_row : Contains v.rows row) (some : row.range.first ≤ row.range.last) (to : ℕ) (there : IsMaster v.masters to) (passes : PassesTo dead row.phase to) where
  abbrev new : Phase
  new = rebuilding row.phase to

  abbrev next : ℕ
  next = row.term + 1

  its : SoundRow v row
  its = row_in v sound row has_row

  low : (q : ℕ) → (v.handovers q row.tablet).term ≤ row.term
  low q = at_most v row q sound has_row

  apart : (q : ℕ) → v.live q ≡ true → q ≡ dead → ⊥
  apart q lives is = false≢true (sym crashed ∙ sym (ap v.live is) ∙ lives)

  named : (q : ℕ) → names new q ≡ true → IsMaster v.masters q
  named q names_it =
      ⊎_elim (λ (takes : eqb to q ≡ true). subst (IsMaster v.masters) (eqb-true to q takes) there)
      (λ (inside : is_member (lineage_of row.phase) q ≡ true).
      its.nodes q (names_members row.phase q inside))
      (or_cases (eqb to q) (is_member (lineage_of row.phase) q) names_it)

  -- only what a living master has counts at the next term
  living : (q : ℕ) → StillCounts (v.live q) (v.handovers q row.tablet).term next → v.live q ≡ true
  living q counting = grind (arith, low)

  posts : (q : ℕ) → StillCounts (v.live q) (v.handovers q row.tablet).term next → MayTakePost (post_of row.phase q) (post_of new q) row.term next (v.handovers q row.tablet) (v.written q).applied
  posts q counting =
      noticed_post dead to q (apart q (living q counting)) row.term (v.handovers q row.tablet) (v.written q).applied (low q) row.phase passes
      (its.roles.fitting q (inl (living q counting)))

  closes : (q order : ℕ) → v.live q ≡ true → (v.handovers q row.tablet).term < order → MayFollowClose row q order → MayFollowClose (row_at row next new) q order
  closes q order lives below follows = grind (arith, apart, post_of, noticed_rebuilder)

  given_up : (q : ℕ) → v.live q ≡ true → IsRebuiltBy row.phase q → ⊥
  given_up q lives = grind (arith, apart)

  -- what is marked of the members records nothing new, by the old phase
  fit_by : (phase : Phase) → row.phase ≡ phase → MarkedFit v.logs v.written v.stored v.live row.range (lineage_of row.phase)
  fit_by (Rebuilding lineage was) is = rw is (subst (IsRebuiltIn v row) is its.rebuilds.rebuilt).1
  fit_by _ is = marked_fit v row sound has_row some (λ lineage t rebuilt. absurd (cc (sym is ∙ rebuilt))) (lineage_of row.phase)

  -- a mark of the tablet is of an older term now
  mark_fits : (q : ℕ) (mark : Mark) → MarkFits row q (v.handovers q row.tablet) (v.live q) (v.written q) mark → MarkFits (row_at row next new) q (v.handovers q row.tablet) (v.live q) (v.written q) mark
  mark_fits q mark fits = grind (arith, lineage_of, given_up)

  marks : (q : ℕ) → All (λ mark. mark.tablet ≡ row.tablet → MarkFits (row_at row next new) q (v.handovers q row.tablet) (v.live q) (v.written q) mark) (v.written q).marks
  marks q = grind (arith, row_at, its, mark_fits)

  pub may_pass : MayTurn v row next new
  may_pass =
      let term_is : (row.term < next) ⊎ ((next ≡ row.term) × OpensOn row.phase new) = inl (omega arith) in
      let rebuilt : RowIsRebuilt (row_at row next new) new (truths v row) v.logs v.written v.stored v.handovers v.completions v.gathers v.merged v.records v.live =
      (λ at. let below = low to in absurd (omega (arith, at, below)), fit_by row.phase refl) in
      assumption (formed_apart row.phase its.rows.formed, named, posts, closes, given_up, marks)

-- ---- rows, one by one

-- what is replaced is in the same place
pub replaced_there : (before after : List Row) (row new : Row) → IsTabletMap (before ++ row ∷ after) → replaced row.tablet new (before ++ row ∷ after) ≡ before ++ new ∷ after
replaced_there [] after row new apart = grind (arith, cond-true, eqb, replaced, eq-eqb, row.tablet)
replaced_there (first ∷ before) after row new apart =
    let precedes : Precedes first row =
    All-contains (Precedes first) (before ++ row ∷ after) row (All-from_recursion (Precedes first) (before ++ row ∷ after) apart.0)
    (Contains-append_right before (row ∷ after) row (0, omega arith, refl)) in
    let less : first.tablet < row.tablet = precedes.smaller in
    cond-false (eqb first.tablet row.tablet) (new ∷ (before ++ row ∷ after)) (first ∷ replaced row.tablet new (before ++ row ∷ after))
    (ne_eqb first.tablet row.tablet (λ same. omega (arith, less, same)))
    ∙ ap (λ (rest : List Row). first ∷ rest) (replaced_there before after row new apart.1)

-- a row may be at the end of the first part, or at the beginning of the second
pub one_further : (before after : List Row) (row : Row) → (before ++ row ∷ []) ++ after ≡ before ++ row ∷ after
one_further [] after row = refl
one_further (first ∷ before) after row = ap (λ (rest : List Row). first ∷ rest) (one_further before after row)

module _ (v : View) (dead : ℕ) (sound : SoundView v) (may : MayNotice v dead) where
  abbrev marked : List ℕ
  marked = v.noticed ++ dead ∷ []

  abbrev coordinator : Coordinator
  coordinator = record { masters = v.masters; rows = v.rows; noticed = marked; handed = v.handed }

  -- with these rows
  abbrev now : List Row → View
  now rows = record v { rows = rows; noticed = marked }

  abbrev noticed_row : Row → Row
  noticed_row row = row_noticed row (phase_noticed coordinator dead row.phase)

  all_crashed : All (λ master. v.live master ≡ false) marked
  all_crashed = All-push (λ master. v.live master ≡ false) v.noticed dead sound.nodes.crashed may.crashed

  -- who lives was not noticed
  unnoticed : (q : ℕ) → v.live q ≡ true → is_noticed coordinator q ≡ false
  unnoticed q lives = grind (arith, list_any_none, eqb, ne_eqb, false≢true, all_crashed)

  lowest : IsMaster v.masters (lowest_left coordinator)
  lowest =
      let left = sound.nodes.left dead may.crashed in lowest_there coordinator left.master left.there (unnoticed left.master left.lives)

  view_marked : SoundView (now v.rows)
  view_marked = assumption all_crashed

  -- ---- who takes a row over

  abbrev AreThere : Phase → Type 0
  AreThere phase = (q : ℕ) → names phase q ≡ true → IsMaster v.masters q

  members_there : (lineage : List Member) → ((q : ℕ) → is_member lineage q ≡ true → IsMaster v.masters q) → All (IsMaster v.masters) (map (λ m. m.master) lineage)
  members_there lineage there =
      All-map (IsMaster v.masters) (λ (m : Member). m.master) lineage
      (all_by (λ (m : Member). IsMaster v.masters m.master) lineage (λ m stands. there m.master (inside lineage m stands)))
    where
      inside : (lineage : List Member) (m : Member) → Contains lineage m → is_member lineage m.master ≡ true
      inside lineage m stands =
          list_any_at (λ (other : Member). eqb other.master m.master) lineage stands.0 m stands.1
          (ap (λ (other : Member). eqb other.master m.master) stands.2 ∙ eq-eqb m.master m.master refl)

  -- who is to rebuild a phase whose master, source or target is noticed
  abbrev Becomes : Phase → ℕ → Type 0
  Becomes phase to = (later : Phase) → AreThere phase → phase_noticed coordinator dead phase ≡ Some later → Passes v dead phase later to

  owned_passes : (master from : ℕ) → Becomes (Owned master from) (lowest_left coordinator)
  owned_passes master from later there is = grind (arith, lowest)

  opening_passes : (source sfrom target : ℕ) (dfrom : Option ℕ) → Becomes (Opening source sfrom target dfrom) (cond (eqb source dead) (lowest_left coordinator) source)
  opening_passes source sfrom target dfrom later there is =
      let own : IsMaster v.masters source = there source (or_left (eqb source source) (eqb target source) (eq-eqb source source refl)) in
      grind (arith, lowest, own)

  moving_passes : (source sfrom target dfrom : ℕ) → Becomes (Moving source sfrom target dfrom) (cond (eqb source dead) target source)
  moving_passes source sfrom target dfrom later there is =
      let own : IsMaster v.masters source = there source (or_left (eqb source source) (eqb target source) (eq-eqb source source refl)) in
      let other : IsMaster v.masters target = there target (or_right (eqb source target) (eqb target target) (eq-eqb target target refl)) in
      grind (arith, own, other)

  rebuilding_passes : (lineage : List Member) (was : ℕ) → Becomes (Rebuilding lineage was) (next_rebuilder coordinator lineage)
  rebuilding_passes lineage was later there is =
      let found : IsMaster v.masters (next_rebuilder coordinator lineage) =
      found_or (IsMaster v.masters) (λ master. not (is_noticed coordinator master)) (map (λ m. m.master) lineage) (lowest_left coordinator)
      (members_there lineage (λ q inside. there q (or_right (eqb was q) (is_member lineage q) inside))) lowest in
      grind (arith, found)

  pass : (phase later : Phase) → AreThere phase → phase_noticed coordinator dead phase ≡ Some later → (to : ℕ) × Passes v dead phase later to
  pass (Owned master from) later there is = (_, owned_passes master from later there is)
  pass (Opening source sfrom target dfrom) later there is = (_, opening_passes source sfrom target dfrom later there is)
  pass (Moving source sfrom target dfrom) later there is = (_, moving_passes source sfrom target dfrom later there is)
  pass (Rebuilding lineage was) later there is = (_, rebuilding_passes lineage was later there is)

  -- ---- each row

  one : (before after : List Row) (row : Row) → row.range.first ≤ row.range.last → (phase : Option Phase) → phase_noticed coordinator dead row.phase ≡ phase → SoundView (now (before ++ row ∷ after)) → SoundView (now (before ++ row_noticed row phase ∷ after))
  one before after row some None is was = was
  one before after row some (Some phase) is was =
      let has_row : Contains (before ++ row ∷ after) row = Contains-append_right before (row ∷ after) row (0, omega arith, refl) in
      let there : AreThere row.phase = λ q.
      All-contains (λ r. names r.phase q ≡ true → IsMaster v.masters q) (before ++ row ∷ after) row (was.nodes.named q) has_row in
      let p : (to : ℕ) × Passes v dead row.phase phase to = pass row.phase phase there is in
      let turns : MayTurn (now (before ++ row ∷ after)) row (row.term + 1) phase =
      subst (MayTurn (now (before ++ row ∷ after)) row (row.term + 1)) (sym p.1.is)
      (may_pass (now (before ++ row ∷ after)) row dead was may.crashed has_row some p.0 p.1.there p.1.passes) in
      subst (λ (rows : List Row). SoundView (now rows))
      (replaced_there before after row (row_at row (row.term + 1) phase) was.rows.apart)
      (view_turned (now (before ++ row ∷ after)) row (row.term + 1) phase was turns)

  each : (before after : List Row) → All (λ row. row.range.first ≤ row.range.last) after → SoundView (now (before ++ after)) → SoundView (now (before ++ map noticed_row after))
  each before [] some was = was
  each before (row ∷ after) some was =
      let HasRange : Row → Type 0 = λ r. r.range.first ≤ r.range.last in
      let turned : SoundView (now (before ++ noticed_row row ∷ after)) =
      one before after row (All-head HasRange row after some) (phase_noticed coordinator dead row.phase) refl was in
      subst (λ (rows : List Row). SoundView (now rows)) (one_further before (map noticed_row after) (noticed_row row))
      (each (before ++ noticed_row row ∷ []) after (All-tail HasRange row after some)
      (subst (λ (rows : List Row). SoundView (now rows)) (sym (one_further before after (noticed_row row))) turned))

  pub view_noticed : SoundView (now (map noticed_row v.rows))
  view_noticed = each [] v.rows may.ranges view_marked
