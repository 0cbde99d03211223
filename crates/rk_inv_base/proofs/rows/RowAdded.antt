-- A lane stays sound when a row is added for a master that serves it at once: nobody speaks of its number or of its range so far.
use Rattle.rk_inv_base.proofs.Words.{◌≡◌, ℕ, ◌≤◌, ◌<◌, Bool, true, false, cond, ◌&&◌, List, [], ◌∷◌, Option, Some, None, eqb, leb, refl}
use Rattle.rk_inv_base.proofs.Words.{sym, ap, subst, ◌∙◌, ⊎_elim, arith, tablet_seen, ◌⊎◌, IfSome, is_some, drop, All, Contains, flat_map, eq-eqb}
use Rattle.rk_inv_base.proofs.Words.{eqb-true, ne_eqb, append-nil, length, cases_eq, cases_lt, false≢true, or_left, nat_tests, All-contains}
use Rattle.rk_inv_base.proofs.Words.{All-nil, All-cons, All-weaker, IfSome_then, hash_of, has, meets, Call, Ended, Held, Waits, Placed}
use Rattle.rk_inv_base.proofs.Words.{Member, Range, is_at_parts, is_at, live_after, map_after, last_version, never, is_mutation, Entry}
use Rattle.rk_inv_base.proofs.Words.{ends_of, is_serving, Handover, Role, is_covered, placed, row_of, Owned, Row, newest_none, is_of}
use Rattle.rk_inv_base.proofs.Words.{Tenure, Body, base_map, new_row, items_of, told, is_member, unmarked_from, of_key, side_entries}
use Rattle.rk_inv_base.proofs.Words.{IsMaster, has_all, has_key, is_absent, may_have_staged, with_added, World, master_at, tablet_in}
use Rattle.rk_inv_base.proofs.Words.{with_master, member_truth, applied_entries, Mark, IsKnown, IsReached, IsStagedEnd, is_record_in}
use Rattle.rk_inv_base.proofs.Words.{HasWholeRows, IsEntryWithin, IsItemWithin, IsOfWholeRows, IsWithinRows, HasSome, AreAbove, Bystander}
use Rattle.rk_inv_base.proofs.Words.{Owner, Post, Holds, bond_of, post_of, speaks, HasOwnRange, MarkFits, IsPlaced, put2, IsTableOf}
use Rattle.rk_inv_base.proofs.Words.{HandoverFits, SentFits, range_in, tenure_in, View, view, truths, rests, SoundView, CoverOf, get}
use Rattle.rk_inv_base.proofs.Words.{false_from_ne_true, is_of_parts, All-take, or_right, lawful_placed, meets_any, newest_entry, HasSomeIn}
use Rattle.rk_inv_base.proofs.Words.{MayAdd, added, as_added, true_from_ne_false}
use Rattle.rk_transfer.specs.declared.role.Role.TheVariants as roles
use Rattle.rk_inv_base.proofs.Base.{row_in, IsNextOf, SoundBeside, SoundRow, none_for_owned, view_by_rows, waits_for, staged_as, row_kept}
use Rattle.rk_inv_base.proofs.Base.{covered_by, all_by, none_pass, put2_by, put2_here, put2_other, put2_same, IsBareOf}
use Rattle.rk_inv_base.proofs.Base.{stands_found, view_kept}
use Rattle.rk_inv_base.proofs.rows.AddedRows.{all_with, covered_still, known_placed, new_placed, stands_placed, uncovered}
use Rattle.rk_inv_base.proofs.rows.AddedSays.{says_new}
use Rattle.rk_inv_base.proofs.logs.Missed.{Misses, counting_none, drop_missed, from_missed, joined_none, map_elsewhere, material_none}
use Rattle.rk_inv_base.proofs.logs.Missed.{none_touches}

-- if two tests in a row find no fault, neither test passes
pub no_fault : {X : Type 0} (a b : Bool) (one other : X) → cond a (Some one) (cond b (Some other) None) ≡ None → (a ≡ false) × (b ≡ false)
no_fault false false one other none = (refl, refl)
no_fault _ _ one other none = absurd (cc none)

pub no_row : (found : Option Row) → (is_some found ≡ true → ⊥) → found ≡ None
no_row None none = refl
no_row (Some row) none = absurd (none refl)

-- ranges that are not empty and meet have a hash in common: the greater of the first ones
pub in_both : (s f l t g m : ℕ) → f ≤ l → g ≤ m → (eqb s t && leb f m && leb g l) ≡ true → (hash : ℕ) × ((eqb s s && leb f hash && leb hash l) ≡ true) × ((eqb t s && leb g hash && leb hash m) ≡ true)
in_both s f l t g m first second met = go (leb f g) refl
  where
    go : (b : Bool) → leb f g ≡ b → (hash : ℕ) × ((eqb s s && leb f hash && leb hash l) ≡ true) × ((eqb t s && leb g hash && leb hash m) ≡ true)
    go true is = (g, grind (arith, nat_tests), grind (arith, nat_tests))
    go false is = (f, grind (arith, nat_tests), grind (arith, nat_tests))

pub meets_turned : (a b : Range) → meets a b ≡ false → meets b a ≡ false
meets_turned a b h = grind (arith, nat_tests)

module _ (v : View) (tablet : ℕ) (range : Range) (master : ℕ) (sound : SoundView v) (may : MayAdd v (new_row tablet range master) master) where
  abbrev row : Row
  row = new_row tablet range master

  abbrev now : View
  now = added v tablet range master

  free : (is_some (row_of v.rows tablet) ≡ false) × (meets_any v.rows range ≡ false)
  free = no_fault (is_some (row_of v.rows tablet)) (meets_any v.rows range) _ _ may.fits

  -- no row has its number
  unknown : (n : ℕ) → is_some (row_of v.rows n) ≡ true → n ≡ tablet → ⊥
  unknown n known is = false≢true (sym free.0 ∙ ap (λ (n : ℕ). is_some (row_of v.rows n)) (sym is) ∙ known)

  other : (x : Row) → Contains v.rows x → x.tablet ≡ tablet → ⊥
  other x has = unknown x.tablet (ap is_some (stands_found v.rows x sound.rows.apart has))

  -- what a master has of another tablet is as it was; so it is for each row
  apart : (q n : ℕ) → (n ≡ tablet → ⊥) → now.handovers q n ≡ v.handovers q n
  apart q n unlike = put2_other v.handovers master tablet (as_added range) q n (λ at its. unlike its)

  by : (P : ℕ → ℕ → Handover → Type 0) (q n : ℕ) → P master tablet (as_added range) → P q n (v.handovers q n) → P q n (now.handovers q n)
  by P q n here was = grind (arith, put2_by, as_added)

  -- no master had the tablet
  term_none : (q : ℕ) → (v.handovers q tablet).term ≡ 0
  term_none q = sound.cover.unknown q tablet (no_row (row_of v.rows tablet) (λ some. false≢true (sym free.0 ∙ some)))

  absent_before : (q : ℕ) → is_absent (v.handovers q tablet).role ≡ true
  absent_before q = grind (arith, true_from_ne_false, is_absent, term_none)

  -- ---- ranges

  -- what lies in rows is not in the range
  no_hash : (t hash : ℕ) → is_covered v.rows t hash ≡ true → has range t hash ≡ true → ⊥
  no_hash t hash covered inside = false≢true (sym (uncovered v.rows range t hash free.1 covered) ∙ inside)

  no_meeting : (other : Range) → HasSome other → IsWithinRows v.rows other → meets other range ≡ false
  no_meeting other some within = grind (arith, false_from_ne_true, meets, in_both, no_hash)

  misses : (entry : Entry) → HasSomeIn entry → IsEntryWithin v.rows entry → Misses range entry
  misses entry some within = grind (arith, uncovered, hash_of, free, no_meeting)

  missed : (q : ℕ) → All (Misses range) (v.written q).entries
  missed q = grind (arith, all_by, misses)

  kept_apart : (q n : ℕ) → 1 ≤ (v.handovers q n).term → meets (v.handovers q n).range range ≡ false
  kept_apart q n begun = no_meeting (v.handovers q n).range (may.tablets q n begun) (sound.cover.ranges q n begun)

  -- ---- what the row has

  abbrev own : Member
  own = record { master = master; from = 0 }

  truth_is : member_truth v.written range own ≡ []
  truth_is =
      material_none range (side_entries (v.written master).sides)
      (unmarked_from (v.written master).marks 0 (applied_entries (v.written master))) may.some
      (from_missed range (v.written master).marks 0 (applied_entries (v.written master))
      (All-take (Misses range) (v.written master).applied (v.written master).entries (missed master)))

  truth_none : truths v row ≡ []
  truth_none = append-nil (member_truth v.written range own) ∙ truth_is

  rest_none : rests v row ≡ []
  rest_none =
      counting_none range (unmarked_from (v.written master).marks _ (v.written master).entries) may.some
      (from_missed range (v.written master).marks _ (v.written master).entries (missed master))

  -- no record is of it
  no_record : (placed : Placed) → Contains v.journal placed → is_record_in range placed ≡ true → ⊥
  no_record placed stands inside =
      no_hash placed.call.table (hash_of placed.call.key)
      (All-contains (λ p. is_covered v.rows p.call.table (hash_of p.call.key) ≡ true) v.journal placed sound.rows.covered stands) inside

  -- nothing was ever at its keys
  elsewhere : (table : ℕ) (key : List ℕ) → has_key range table key ≡ true → (placed : Placed) → Contains v.journal placed → is_at table key placed ≡ false
  elsewhere table key inside placed stands = grind (arith, false_from_ne_true, is_at, is_at_parts, no_record, has, hash_of)

  none_based : (table : ℕ) (key : List ℕ) → has_key range table key ≡ true → (item : Held) → Contains v.base.items item → is_of table key item ≡ false
  none_based table key inside item stands =
      false_from_ne_true (is_of table key item)
      (λ at.
      let its = is_of_parts table key item at in
      no_hash item.table (hash_of item.key) (All-contains (IsItemWithin v.rows) v.base.items item may.base stands)
      ((λ i. has range (its.0 i) (hash_of (its.1 i))) ∙ inside))

  untouched : (table : ℕ) (key : List ℕ) → has_key range table key ≡ true → map_after (base_map v.base) v.journal table key ≡ never
  untouched table key inside =
      map_elsewhere (base_map v.base) v.journal table key (all_by (λ p. is_at table key p ≡ false) v.journal (elsewhere table key inside))
      ∙ ap newest_entry ((newest_none v.base.items table key).1 (none_based table key inside))

  -- ---- parts

  -- a tablet of a master beside the new row, and the new tablet beside another row
  fits_new : (q n : ℕ) → HandoverFits row n (now.handovers q n)
  fits_new q n =
      by (λ q n h. HandoverFits row n h) q n
      (record { within = λ is. omega arith; below = λ unlike met. absurd (unlike refl); exact = λ is term. refl })
      (record {
        within = λ is.
            let none : (v.handovers q n).term ≡ 0 = ap (λ (n : ℕ). (v.handovers q n).term) (sym is) ∙ term_none q in omega (arith, none);
        below = λ unlike met.
            ⊎_elim
            (λ (low : (v.handovers q n).term < 1). low)
            (λ (begun : 1 ≤ (v.handovers q n).term).
            absurd (false≢true (sym (meets_turned (v.handovers q n).range range (kept_apart q n begun)) ∙ met)))
            (cases_lt (v.handovers q n).term 1);
        exact = λ is term.
            let none : (v.handovers q n).term ≡ 0 = ap (λ (n : ℕ). (v.handovers q n).term) (sym is) ∙ term_none q in
            absurd (omega (arith, none, term));
      })

  fits_old : (x : Row) → Contains v.rows x → HandoverFits x tablet (as_added range)
  fits_old x has = record {
    within = λ is. absurd (other x has is);
    below = λ unlike met. absurd (false≢true (sym (none_pass (λ (r : Row). meets r.range range) v.rows free.1 x has) ∙ met));
    exact = λ is term. absurd (other x has is);
  }

  -- no message speaks of it
  unsaid : (tenure : Tenure) → is_some (row_of v.rows tenure.tablet) ≡ true → tenure.tablet ≡ tablet → ⊥
  unsaid tenure = unknown tenure.tablet

  beside : (q n : ℕ) → is_absent (v.handovers q n).role ≡ false → meets (v.handovers q n).range range ≡ false
  beside q n there = kept_apart q n (sound.terms.begun q n there)

  ranges_apart : (q a b : ℕ) → (a ≡ b → ⊥) → is_absent (now.handovers q a).role ≡ false → is_absent (now.handovers q b).role ≡ false → meets (now.handovers q a).range (now.handovers q b).range ≡ false
  ranges_apart q a b unlike first second = grind (arith, by, is_absent, meets, apart, meets_turned, beside)

  sent_new : (body : Body) → IfSome (tenure_in body) (λ tenure. is_some (row_of v.rows tenure.tablet) ≡ true) → IfSome (range_in body) (λ r. meets range r ≡ false) → SentFits row body
  sent_new body known away = grind (arith, tenure_in, unsaid, range_in, false≢true)

  both_some : (o : Option Range) → IfSome o HasSome → IfSome o (IsWithinRows v.rows) → IfSome o (λ r. meets range r ≡ false)
  both_some None some within = tt
  both_some (Some r) some within = meets_turned r range (no_meeting r some within)

  range_within : (r : Range) → IsWithinRows v.rows r → IsWithinRows now.rows r
  range_within r within hash inside = covered_still row v.rows r.table hash (within hash inside)

  item_within : (item : Held) → IsItemWithin v.rows item → IsItemWithin now.rows item
  item_within item = covered_still row v.rows item.table (hash_of item.key)

  entry_within : (entry : Entry) → IsEntryWithin v.rows entry → IsEntryWithin now.rows entry
  entry_within entry within = grind (arith, item_within, covered_still, hash_of, range_within)

  whole : (r : Range) → meets r range ≡ false → HasWholeRows v.rows r → HasWholeRows now.rows r
  whole r away wholes =
      all_with (λ x. meets x.range r ≡ true → has_all r x.range ≡ true) row v.rows
      (λ met. absurd (false≢true (sym (meets_turned r range away) ∙ met)))
      (λ x has. All-contains (λ x. meets x.range r ≡ true → has_all r x.range ≡ true) v.rows x wholes has)

  entry_whole : (entry : Entry) → Misses range entry → IsOfWholeRows v.rows entry → IsOfWholeRows now.rows entry
  entry_whole entry away wholes = grind (arith, whole)

  known_on : (n : ℕ) → is_some (row_of v.rows n) ≡ true → is_some (row_of now.rows n) ≡ true
  known_on n is = known_placed row v.rows n ∙ or_right (eqb tablet n) (is_some (row_of v.rows n)) is

  known_new : is_some (row_of now.rows tablet) ≡ true
  known_new = known_placed row v.rows tablet ∙ or_left (eqb tablet tablet) (is_some (row_of v.rows tablet)) (eq-eqb tablet tablet refl)

  cover : CoverOf now
  cover = record {
    unknown = λ q n.
        by (λ q n h. row_of now.rows n ≡ None → h.term ≡ 0) q n (λ none. absurd (false≢true (sym (ap is_some none) ∙ known_new)))
        (λ none.
        sound.cover.unknown q n (no_row (row_of v.rows n) (λ some. false≢true (sym (ap is_some none) ∙ known_on n some))));
    marks = λ q.
        All-weaker _ _ (λ mark knows. known_on mark.tablet knows) (v.written q).marks (sound.cover.marks q);
    sent = λ n m there. IfSome_then (tenure_in m.body) (sound.cover.sent n m there) (λ tenure knows. known_on tenure.tablet knows);
    ranges = λ q n.
        by (λ q n h. 1 ≤ h.term → IsWithinRows now.rows h.range) q n
        (λ begun hash inside. covered_by now.rows row range.table hash (new_placed row v.rows) inside)
        (λ begun. range_within (v.handovers q n).range (sound.cover.ranges q n begun));
    ordered = λ n m there. IfSome_then (range_in m.body) (sound.cover.ordered n m there) range_within;
    entries = λ q. All-weaker (IsEntryWithin v.rows) (IsEntryWithin now.rows) entry_within (v.written q).entries (sound.cover.entries q);
    sides = λ q. All-weaker (IsItemWithin v.rows) (IsItemWithin now.rows) item_within (flat_map (λ items. items) (v.written q).sides) (sound.cover.sides q);
    items = λ q. All-weaker (IsItemWithin v.rows) (IsItemWithin now.rows) item_within (v.records q) (sound.cover.items q);
    wholes = λ q.
        all_by (IsOfWholeRows now.rows) (v.written q).entries
        (λ entry stands.
        entry_whole entry (All-contains (Misses range) (v.written q).entries entry (missed q) stands)
        (All-contains (IsOfWholeRows v.rows) (v.written q).entries entry (sound.cover.wholes q) stands));
  }

  -- ---- roles

  absent_fits : (role : Role) (own applied : ℕ) → own ≡ 0 → is_absent role ≡ true → Holds (bond_of Bystander role) 1 own applied
  absent_fits roles.Absent own applied none is = omega (arith, none)
  absent_fits _ own applied none is = absurd (cc is)

  at_master : (q : ℕ) → q ≡ master → now.handovers q tablet ≡ as_added range
  at_master q at = put2_here v.handovers master tablet (as_added range) q tablet at refl

  -- what a master has of the tablet and what it is to the row
  by_post : (P : ℕ → Post → Handover → Type 0) (q : ℕ) → P q (Owner 0) (as_added range) → ((q ≡ master → ⊥) → P q Bystander (v.handovers q tablet)) → P q (post_of (Owned master 0) q) (now.handovers q tablet)
  by_post P q here unlike = grind (arith, put2_by, as_added, post_of, eq-eqb, apart, ne_eqb)

  ranged_new : (q : ℕ) → is_member (own ∷ []) q ≡ true → (now.handovers q tablet).range ≡ range
  ranged_new q inside = grind (arith, at_master, false≢true, ne_eqb, cases_eq)

  -- ---- calls and counters

  none_reached : (P : Placed → Type 0) → All (λ placed. is_record_in range placed ≡ true → is_mutation placed.call.op ≡ true → P placed) v.journal
  none_reached P =
      all_by (λ placed. is_record_in range placed ≡ true → is_mutation placed.call.op ≡ true → P placed) v.journal
      (λ placed stands inside mutation. absurd (no_record placed stands inside))

  end_known : (q n : ℕ) (end : Ended) → IsKnown v.base v.journal end ⊎ IsStagedEnd v.rows (rests v) q n (v.handovers q n).term end → IsKnown v.base v.journal end ⊎ IsStagedEnd now.rows (rests v) q n (now.handovers q n).term end
  end_known q n end = grind (arith, rests, apart, other, staged_as, stands_placed, told)

  silent : (role : Role) → is_absent role ≡ true → is_serving role ≡ false
  silent roles.Absent is = refl
  silent _ is = absurd (cc is)

  -- ---- records, targets and rebuilds

  table_new : (q : ℕ) → IsTableOf range [] (v.records q)
  table_new q item inside = (
    λ stands. absurd (no_hash item.table (hash_of item.key) (All-contains (IsItemWithin v.rows) (v.records q) item (sound.cover.items q) stands) inside),
    λ newest. absurd (cc newest),
  )

  no_mark : (Q : Mark → Type 0) (q : ℕ) → All (λ mark. mark.tablet ≡ tablet → Q mark) (v.written q).marks
  no_mark Q q = grind (arith, row_of, unknown, cover)

  -- ---- the whole

  holds : SoundRow now row
  holds = record {
    nodes = λ q is. subst (IsMaster v.masters) (eqb-true master q is) may.there;
    rows = record {
      begun = omega arith;
      formed = tt;
      placed = All-cons (IsPlaced v.written) own [] (omega arith) (All-nil (IsPlaced v.written));
    };
    terms = λ n m there.
        sent_new m.body (sound.cover.sent n m there) (both_some (range_in m.body) (may.orders n m there) (sound.cover.ordered n m there));
    roles = record {
      fitting = λ q counts.
          by_post (λ q post h. Holds (bond_of post h.role) 1 h.term (v.written q).applied) q refl
          (λ away. absent_fits (v.handovers q tablet).role _ (v.written q).applied (term_none q) (absent_before q));
      ranged = λ q counts inside. ranged_new q inside;
      at_term = tt;
    };
    truth = grind (arith, truth_none, untouched);
    order = subst (λ (l : List Entry). AreAbove (items_of (truths v row)) (items_of l)) (sym rest_none) tt;
    calls = record {
      reached = none_reached (λ p. IsReached (told (of_key p.call.table p.call.key (truths v row))) p);
      recorded = subst (λ (l : List Entry). All (IsKnown v.base v.journal) (told l)) (sym truth_none) (All-nil (IsKnown v.base v.journal));
      moving = tt;
      answering = λ q counts says. none_reached (IsReached (ends_of (v.completions q tablet)));
      granted = tt;
      sent = λ n m there. rw (none_for_owned tablet 1 range master 0 now.handovers m.body) tt;
    };
    counters = record {
      low = grind (arith, map_after, base_map, truth_none, last_version, untouched, v.base, v.journal);
      moving = tt;
      counted = λ q counts.
          by_post (λ q post h. speaks post h 1 ≡ true → IsNextOf v row h.counter) q (λ says. rw (truth_none, rest_none) (omega arith))
          (λ away says. absurd (false≢true (sym (silent (v.handovers q tablet).role (absent_before q)) ∙ says)));
      granted = tt;
      sent = λ n m there. rw (none_for_owned tablet 1 range master 0 now.handovers m.body) tt;
    };
    rest = record {
      goes_on = grind (arith, truth_none, rest_none, base_map, append-nil, live_after, untouched, v.base, v.journal, sound.truth.legal);
      done = tt;
      unnamed = joined_none range (drop _ (v.written master).entries) (drop_missed range _ (v.written master).entries (missed master));
      idle = λ q counts idles.
          none_touches range (drop (v.written q).applied (v.written q).entries) (drop_missed range (v.written q).applied (v.written q).entries (missed q));
    };
    tables = λ q lives has. subst (λ (l : List Entry). IsTableOf range l (v.records q)) (sym truth_is) (table_new q);
    receives = record { target = tt; handed_on = tt; named = tt };
    rebuilds = record {
      rebuilt = tt;
      marks = λ q. no_mark (MarkFits row q (now.handovers q tablet) (v.live q) (v.written q)) q;
      pieces = λ q. no_mark (HasOwnRange range (v.written q).entries) q;
    };
    messages = λ n m there.
        says_new v tablet range master unsaid m.from m.to m.body (sound.cover.sent n m there)
        (both_some (range_in m.body) (may.orders n m there) (sound.cover.ordered n m there))
        (λ x has. (row_in v sound x has).messages n m there);
  }

  -- a call waits for its row still
  waits : (q n : ℕ) (call : Call) → Waits v.rows (v.handovers q) (v.written q) q n call → Waits now.rows (now.handovers q) (v.written q) q n call
  waits q n call wait = grind (arith, waits_for, stands_placed, may_have_staged, apart, other)

  beside_rows : SoundBeside now
  beside_rows =
      assumption (
        lawful_placed row v.rows sound.rows.apart (record { unknown = free.0; apart = free.1 }),
        λ (k : ℕ) (d : Placed) (within : k < length v.journal). covered_still row v.rows _ _ (sound.rows.covered k d within),
        λ (q n : ℕ).
            all_with (λ r. HandoverFits r n (now.handovers q n)) row v.rows (fits_new q n)
            (λ x has.
            by (λ q n h. HandoverFits x n h) q n (fits_old x has)
            (All-contains (λ r. HandoverFits r n (v.handovers q n)) v.rows x (sound.terms.kept q n) has)),
        λ (q n : ℕ). by (λ q n h. is_absent h.role ≡ false → 1 ≤ h.term) q n (λ there. omega arith) (sound.terms.begun q n),
        ranges_apart,
        cover,
        λ (q n : ℕ).
            by (λ q n h. v.live q ≡ true → is_absent h.role ≡ false → is_some (row_of now.rows n) ≡ true) q n (λ lives there. known_new)
            (λ lives there. known_on n (sound.roles.known q n lives there)),
        λ (q n : ℕ) (lives : v.live q ≡ true). All-weaker _ _ (end_known q n) (ends_of (v.completions q n)) (sound.calls.known q n lives),
        λ (q : ℕ) (lives : v.live q ≡ true) (n : ℕ) (call : Call) (there : get (v.calls q) n ≡ Some call).
            waits q n call (sound.rest.waiting q lives n call there),
        λ (q n : ℕ). by (λ q n h. IsBareOf h (v.written q) (v.records q)) q n tt (sound.receives.bare q n),
      )

  -- of each other row masters have what they had
  row_on : (x : Row) → Contains v.rows x → SoundRow now x
  row_on x has =
      row_kept v now x (λ seen. refl)
      (λ q i. record (tablet_seen v q x.tablet) { handover = apart q x.tablet (other x has) i })
      (row_in v sound x has)

  pub view_added : SoundView now
  view_added = view_by_rows now beside_rows (all_with (SoundRow now) (new_row tablet range master) v.rows holds row_on)

pub view_served : (w : World) (tablet : ℕ) (range : Range) (master : ℕ) → view (with_master w master (with_added (master_at w master) tablet range)) ≡ record (view w) { handovers = put2 (view w).handovers master tablet (as_added range) }
view_served w tablet range master =
    view_kept w master tablet (record (tablet_in w master tablet) { handover = as_added range })
    ∙ (λ i. record (view w) {
      handovers = put2 (view w).handovers master tablet (as_added range);
      completions = put2_same (view w).completions master tablet i;
      pullings = put2_same (view w).pullings master tablet i;
      gathers = put2_same (view w).gathers master tablet i;
      merged = put2_same (view w).merged master tablet i;
    })
