-- An entry is applied with which no call ends and that records nothing new: a Carried, or an entry that bears a mark. Truth and rest of
-- each row record what they did, and the view stays sound.
use Rattle.std.proofs.Common.{◌≡◌, ℕ, ◌≤◌, Bool, true, false, List, [], ◌∷◌, ◌++◌, None, refl, sym, ap, ◌∙◌, inl, inr, ◌⊎◌, arith}
use Rattle.std.proofs.Common.{slice_get, All, Contains, Option, Some, subst, IfSome, eq-eqb, ◌<◌, is_some}
use Rattle.rk_inv_base.proofs.Words.{Call, Waits, All-contains, All-nil, All-tail, get, Ended, Held, Member, Range, Map, map_after, Entry}
use Rattle.rk_inv_base.proofs.Words.{lineage_of, Rebuilding, Row, Base, Placed, LastCall, record_of, base_map, items_in, items_of, last_of}
use Rattle.rk_inv_base.proofs.Words.{told, told_by, counts, of_key, tells_of, own_place, Written, member_rest, member_truth, IsKnown}
use Rattle.rk_inv_base.proofs.Words.{TellAll, MayApply, AreAboveMap, has_merged, IsFound, named_items, IsStaged, AreApart, call_ends}
use Rattle.rk_inv_base.proofs.Words.{records_of, View, truths, rests, SoundView, cases_eq, false≢true, IfSome_then, meets, Phase}
use Rattle.rk_inv_base.proofs.Words.{none_stands, first_of, is_absent, is_wanting, Post, post_of, rebuilder_post, is_granted, HasItems}
use Rattle.rk_inv_base.proofs.Words.{IsTableOf, has_all_items, All-weaker, ends_of, cases_Bool, All-cons, All-head, Carried, is_marked}
use Rattle.rk_inv_base.proofs.Words.{FirstIsDone, IsEntryOf, number_of, row_of, Mark, HasOwnRange, IsOfRange, MarkFits, EachHasCall}
use Rattle.rk_inv_tablets.proofs.merge.OfRange.{names_none}
use Rattle.rk_inv_logs.proofs.Words.{mark_of, newest_alike, plain_alike, formed_apart, row_in, all_by, floor_among, TellHistory, heir_post}
use Rattle.rk_inv_logs.proofs.Words.{begun_lacks, put_by, history_of, SoundBeside, SoundRow, lineage_last, in_one_row, in_piece}
use Rattle.rk_inv_logs.proofs.Words.{found_stands, key_outside, same_number, above_fewer, map_record_of}
use Rattle.rk_inv_logs.proofs.apply.Keeps.{IsQuietEntry, KeepsRow, all_keep, items_keep, plain_all, rest_ends, rest_items, truth_tells}
use Rattle.rk_inv_logs.proofs.apply.Keeps.{floor_keeps, rest_tells}
use Rattle.rk_inv_logs.proofs.apply.Inserted.{HasMore, more_before, more_behind, more_kept, more_none, more_still, told_among, more_one}
use Rattle.rk_inv_logs.proofs.apply.Inserted.{same_items}
use Rattle.rk_inv_logs.specs.apply.Small.{entry_applied, with_one_applied, with_item_of, MayApplyUnmarked, MayApplyMarked}
use Rattle.rk_inv_logs.proofs.apply.AppliedCalls.{tell_then}
use Rattle.rk_inv_logs.proofs.apply.Members.{IsStill, has_last, rest_grows, truth_grows, HasApplied, StandsBehind, Takes, member_cases}
use Rattle.rk_inv_logs.proofs.apply.Members.{still, takes, applied_with}
use Rattle.rk_inv_logs.proofs.apply.Applies.{Applies, IsKnownIn, StaysBare, Tells, applied_grows, bare_now, cover_now, end_then, logs_now}
use Rattle.rk_inv_logs.proofs.apply.Applies.{of_applied, of_target, ordered_now, view_applied, waits_on}
use Rattle.rk_inv_logs.proofs.apply.ItemPut.{bare_with, table_apart}
use Rattle.rk_entry.specs.declared.entry.Entry.TheVariants as entries

-- ---- what a row records

-- what more entries record of a key
pub tell_more : (range : Range) (journal : List Placed) (old now : List Entry) → HasMore old now → TellAll range journal old → TellAll range journal now
tell_more range journal old now more = tell_then range journal old now (λ table key.
    told_among told_by (of_key table key old) (of_key table key now) (more_still (more_kept more (tells_of table key))))

pub low_more : (range : Range) (map : Map) (old now : List Entry) → HasMore old now → AreAboveMap range map old → AreAboveMap range map now
low_more range map old now more low table key within =
    let test : Entry → Bool = tells_of table key in
    let grows = floor_among (of_key table key old) (of_key table key now) (more_still (more_kept more test)) in
    omega (arith, low table key within, grows)

-- if what came into its truth adds nothing new, a row still records its history
module _ (base : Base) (range : Range) (truth rest truth' rest' : List Entry) (journal : List Placed) (asked : ℕ → Option LastCall) (keeps : KeepsRow base journal truth rest truth' rest') (was : TellHistory base range truth rest journal asked) where
  pub history_keeps : TellHistory base range truth' rest' journal asked
  history_keeps =
      let same = items_keep keeps in
      let ends : call_ends rest ≡ call_ends rest' = rest_ends keeps in
      let plain = plain_all truth rest was.leaves.plain was.above in
      record {
        leaves = record {
          plain = plain_alike (items_of truth) (items_of truth') was.leaves.plain same;
          live = λ table key inside.
              ap record_of (sym (newest_alike (items_of truth) (items_of truth') was.leaves.plain same table key))
              ∙ was.leaves.live table key inside;
        };
        above = rw (rest_items keeps) at (above_fewer (items_of truth') (items_of truth) (items_of rest) (λ x. (same x).1) was.above);
        ends = tell_more range journal truth truth' keeps.more was.ends;
        known = all_by (IsKnown base journal) (told truth') (λ end at. elim (truth_tells keeps end at) [
          | inl old ↦ All-contains (IsKnown base journal) (told truth) end was.known old
          | inr is ↦ is
        ]);
        low = low_more range (map_after (base_map base) journal) truth truth' keeps.more was.low;
        goes_on = record {
          legal = rw ends at was.goes_on.legal;
          live = λ table key inside.
              ap record_of
              (sym (newest_alike (items_of (truth ++ rest)) (items_of (truth' ++ rest')) plain (all_keep keeps) table key))
              ∙ was.goes_on.live table key inside
              ∙ ap (λ (l : List Ended). map_record_of (map_after (base_map base) (journal ++ records_of asked l) table key)) ends;
          staged = all_later (IsStaged base asked journal) keeps.head rest' (rw keeps.rest_is at was.goes_on.staged);
          one = rw ends at was.goes_on.one;
        };
      }
    where
      all_later : {X : Type 0} (P : X → Type 0) (front back : List X) → All P (front ++ back) → All P back
      all_later P [] back all = all
      all_later P (first ∷ front) back all = all_later P front back (All-tail P first (front ++ back) all)

-- ---- what is asked

-- what came into the truth of the last member of a row was there, or came first in its rest, which adds nothing new
pub record Gains (v : View) (now : ℕ → Written) (row : Row) (last : Member) : Type 0 where
  pub more : HasMore (member_truth v.written row.range last) (member_truth now row.range last)
  pub head : List Entry
  pub rest_is : member_rest v.written row.range last ≡ head ++ member_rest now row.range last
  pub quiet : All (IsQuietEntry v.base v.journal) head
  pub from : (e : Entry) → Contains more.block e → Contains (truths v row) e ⊎ Contains head e

-- a member that has what it had
abbrev pub gains_none : (v : View) (now : ℕ → Written) (row : Row) (last : Member) → IsStill v.written now row.range last → Gains v now row last
gains_none v now row last same =
    record { more = more_none same.truth; head = []; rest_is = sym same.rest; quiet = All-nil _; from = λ e at. inr at }

-- the item is a copy that the master made for a row that it rebuilds, behind the place where its own entries begin; it is of that row alone
pub record IsCopied (v : View) (master : ℕ) (entry : Entry) : Type 0 where
  pub row : Row
  pub has_row : Contains v.rows row
  pub inside : counts row.range entry ≡ true
  pub beside : (other : Row) → Contains v.rows other → (other.tablet ≡ row.tablet → ⊥) → counts other.range entry ≡ false
  pub rebuilt : row.phase ≡ Rebuilding (lineage_of row.phase) master
  pub at_term : (v.handovers master row.tablet).term ≡ row.term
  pub merged : has_merged (v.handovers master row.tablet).role ≡ true
  pub behind : own_place (v.handovers master row.tablet).role ≤ (v.written master).applied

-- no call waits at a place if none may
pub none_found : (v : View) (master : ℕ) → SoundView v → v.live master ≡ true
    → ((call : Call) → Waits v.rows (v.handovers master) (v.written master) master (v.written master).applied call → ⊥)
    → get (v.calls master) (v.written master).applied ≡ None
none_found v master sound lives none = go (get (v.calls master) (v.written master).applied) refl
  where
    go : (o : Option Call) → get (v.calls master) (v.written master).applied ≡ o → o ≡ None
    go None is = refl
    go (Some call) is = absurd (none call (sound.rest.waiting master lives (v.written master).applied call is))

-- so none does at the next entry of a log, if that is of no call
pub uncalled : (v : View) (master : ℕ) (entry : Entry) → SoundView v → MayApplyUnmarked v master entry → ((call : Call) → IsEntryOf call entry → ⊥) → get (v.calls master) (v.written master).applied ≡ None
uncalled v master entry sound may none = none_found v master sound may.held.lives (λ call waits.
    let same : waits.entry ≡ entry = cc (sym waits.stands ∙ may.stands) in none call (subst (IsEntryOf call) same waits.own))

-- an entry with which no call ends may be applied, in a sound view, and adds nothing new to any row
pub record Passing (v : View) : Type 0 where
  pub master : ℕ
  pub entry : Entry
  pub sound : SoundView v
  pub held : MayApply v master
  pub stands : slice_get (v.written master).entries (v.written master).applied ≡ Some entry
  pub none : get (v.calls master) (v.written master).applied ≡ None
  -- of each row the first of two members has what it had, an only one the items, and the last one adds nothing new
  pub firsts :
      (row : Row) → Contains v.rows row → (first second : Member) (more : List Member) → lineage_of row.phase ≡ first ∷ second ∷ more
      → IsStill v.written (with_one_applied v.written master) row.range first
  pub only :
      (row : Row) → Contains v.rows row → (only : Member) → lineage_of row.phase ≡ only ∷ []
      → items_of (member_truth (with_one_applied v.written master) row.range only) ≡ items_of (member_truth v.written row.range only)
  pub lasts :
      (row : Row) → Contains v.rows row → (last : Member) → last_of (lineage_of row.phase) ≡ Some last
      → Gains v (with_one_applied v.written master) row last
  -- the entry has no item, or that is a copy
  pub copied : (items_in entry ≡ []) ⊎ IsCopied v master entry
  -- what the master rebuilds has the item, and what it names is found
  pub own :
      (row : Row) → Contains v.rows row
      → ((x : Held) → Contains (named_items row.range (own_place (v.handovers master row.tablet).role) (v.written master)) x
      → IsFound (v.records master) x)
      → HasApplied row.range (own_place (v.handovers master row.tablet).role) (v.written master) entry (v.records master)

-- what came into a list was in the truth of a row, or in some others
abbrev Adds : View → Row → List Entry → List Entry → List Entry → Type 0
Adds v row head old now = (more : HasMore old now) × ((e : Entry) → Contains more.block e → Contains (truths v row) e ⊎ Contains head e)

-- so truth and rest of each row record what they recorded
pub row_keeps : (v : View) (p : Passing v) (row : Row) → Contains v.rows row
    → KeepsRow v.base v.journal (truths v row) (rests v row) (truths (entry_applied v p.master p.entry) row) (rests (entry_applied v p.master p.entry) row)
row_keeps v p row has =
    let apart : AreApart (lineage_of row.phase) = formed_apart row.phase (row_in v p.sound row has).rows.formed in
    let last = has_last (lineage_of row.phase) apart in
    let gains = p.lasts row has last.0 last.1 in
    let grown =
    truth_grows v.base v.written (with_one_applied v.written p.master) row.range (Adds v row gains.head)
    (λ front old now adds. (more_behind adds.0 front, adds.1)) (λ old now adds. (more_before adds.0 [], adds.1)) (lineage_of row.phase)
    apart (p.firsts row has)
    (λ other is.
    let same : last.0 ≡ other = cc (sym last.1 ∙ is) in
    subst
    (λ (m : Member). Adds v row gains.head (member_truth v.written row.range m)
    (member_truth (with_one_applied v.written p.master) row.range m))
    same (gains.more, gains.from)) in
    record {
      more = grown.0;
      head = gains.head;
      rest_is = grind (arith, rest_grows, lineage_of, v.written, p.master, row.range, row.phase, last.0, gains.head, last.1, gains.rest_is);
      quiet = gains.quiet;
      from = grown.1;
    }

-- ---- data

-- without an item records stay as they are
no_item : (entry : Entry) (records : List Held) → items_in entry ≡ [] → with_item_of entry records ≡ records
no_item (entries.Held held) records none = absurd (cc none)
no_item _ records none = refl

-- records have the newest of entries with the same items
table_same : (range : Range) (old now : List Entry) (records : List Held) → items_of now ≡ items_of old → IsTableOf range old records → IsTableOf range now records
table_same range old now records same table x inside = rw same (table x inside)

module _ (v : View) (p : Passing v) where
  abbrev now : View
  now = entry_applied v p.master p.entry

  -- ---- the item, if there is one

  -- a statement of the records of the master holds if the item is not of what they are for
  abbrev IsBeside : Range → Type 0
  IsBeside range = (items_in p.entry ≡ []) ⊎ (counts range p.entry ≡ false)

  -- a row has none of it, or it is that which the master rebuilds
  beside_or : (other : Row) → Contains v.rows other → IsBeside other.range ⊎ ((c : IsCopied v p.master p.entry) × (other ≡ c.row))
  beside_or other has = elim p.copied [
    | inl none ↦ inl (inl none)
    | inr c ↦ elim (cases_eq other.tablet c.row.tablet) [
      | inl its ↦ inr (c, same_number v.rows other c.row p.sound.rows.apart has c.has_row its)
      | inr apart ↦ inl (inr (c.beside other has apart))
    ]
  ]

  first_same : (other : Row) → Contains v.rows other → (lineage : List Member) → lineage_of other.phase ≡ lineage → (records : List Held)
      → IfSome (first_of lineage) (λ m. IsTableOf other.range (member_truth v.written other.range m) records)
      → IfSome (first_of lineage) (λ m. IsTableOf other.range (member_truth now.written other.range m) records)
  first_same other has [] is records old = tt
  first_same other has (only ∷ []) is records old = table_same other.range (member_truth v.written other.range only)
      (member_truth now.written other.range only) records (p.only other has only is) old
  first_same other has (first ∷ second ∷ more) is records old = rw (p.firsts other has first second more is).truth old

  beside_records : (range : Range) (material : List Entry) (records : List Held) → IsBeside range → IsTableOf range material records → IsTableOf range material (with_item_of p.entry records)
  beside_records range material records beside old = elim beside [
    | inl none ↦ rw (no_item p.entry records none) old
    | inr outside ↦ table_apart range p.entry material records outside old
  ]

  items_at : (q : ℕ) (other : Row) → Contains v.rows other → has_all_items (post_of other.phase q) (v.handovers q other.tablet) other.term ≡ true → HasItems other v.written (v.records q) → HasItems other now.written (now.records q)
  items_at q other has all old =
      let same = first_same other has (lineage_of other.phase) refl (v.records q) old in
      put_by v.records p.master (with_item_of p.entry) (HasItems other now.written) q
      (λ at. elim (beside_or other has) [
        | inl beside ↦ IfSome_then (first_of (lineage_of other.phase)) same
            (λ member table. beside_records other.range (member_truth now.written other.range member) (v.records q) beside table)
        | inr copy ↦ absurd (lacks at copy.0 copy.1)
      ]) (λ apart. same)
    where
      lacks : q ≡ p.master → (c : IsCopied v p.master p.entry) → other ≡ c.row → ⊥
      lacks at c same =
          let lineage : List Member = lineage_of c.row.phase in
          let post : post_of c.row.phase p.master ≡ rebuilder_post lineage p.master =
          ap (λ (phase : Phase). post_of phase p.master) c.rebuilt ∙ rw (eq-eqb p.master p.master refl) refl in
          let all_here : has_all_items (post_of c.row.phase p.master) (v.handovers p.master c.row.tablet) c.row.term ≡ true =
          (λ i. has_all_items (post_of (sym same i).phase (sym at i)) (v.handovers (sym at i) (sym same i).tablet) (sym same i).term) ∙ all in
          begun_lacks (rebuilder_post lineage p.master) (v.handovers p.master c.row.tablet) c.row.term (heir_post lineage p.master)
          c.at_term
          (ap (λ (post : Post). has_all_items post (v.handovers p.master c.row.tablet) c.row.term) (sym post) ∙ all_here)

  -- ---- targets

  -- an item of the row would be behind the target's place: it has none
  target_behind : (other : Row) → Contains v.rows other → (last : Member) → last.master ≡ p.master → is_granted (v.handovers last.master other.tablet).role ≡ true → (from : ℕ) → StandsBehind other.range p.entry from (v.written last.master).applied
  target_behind other has last at granted from counted x its = grind (arith, beside_or, none_stands, false≢true, is_granted)

  -- a tablet that the master waits for has none of the item
  bare_records : (r : ℕ) → is_wanting (v.handovers p.master r).role ≡ true → is_absent (v.handovers p.master r).role ≡ false → StaysBare v p.master p.entry r
  bare_records r wants there from w bare = grind (arith, no_item, false≢true, is_wanting, meets, counts, bare_with, key_outside)

  -- ---- all parts

  abbrev applies : Applies v
  applies = record {
    master = p.master;
    entry = p.entry;
    sound = p.sound;
    held = p.held;
    stands = p.stands;
    calls = v.calls;
    kept = v.completions;
    journal = v.journal;
    firsts = p.firsts;
    granted = λ row has first last is at granted. target_behind row has last at granted last.from;
    wanted = bare_records;
    own = λ row has lineage is term found. p.own row has found;
    others = λ q tablet apart. refl;
    merged = λ row has lineage is term gather m merged_is same. same;
    frozen = λ q tablet frozen. refl;
  }

  tells : (row : Row) → Contains v.rows row → Tells v now row
  tells row has =
      let was : SoundRow v row = row_in v p.sound row has in
      let keeps = row_keeps v p row has in
      record {
        history = history_keeps v.base row.range (truths v row) (rests v row) (truths now row) (rests now row) v.journal v.asked keeps
            (history_of v row p.sound has);
        moving = of_target v now.written row (TellAll row.range v.journal) (TellAll row.range v.journal)
            (λ last is front. tell_more row.range v.journal _ _ (more_behind (p.lasts row has last is).more front)) row.phase refl
            was.calls.moving;
        low_moving = of_target v now.written row (AreAboveMap row.range (map_after (base_map v.base) v.journal))
            (AreAboveMap row.range (map_after (base_map v.base) v.journal))
            (λ last is front.
            low_more row.range (map_after (base_map v.base) v.journal) _ _ (more_behind (p.lasts row has last is).more front)) row.phase
            refl
            was.counters.moving;
        still = λ x. (items_keep keeps x).0;
        floor = floor_keeps keeps;
        answering = was.calls.answering;
        ends_granted = was.calls.granted;
        ends_sent = was.calls.sent;
        items = λ q alive all. items_at q row has all (was.tables q alive all);
        handed_on = was.receives.handed_on;
      }

  -- no call waited for the entry
  behind_it : (q number : ℕ) (call : Call) → get (v.calls q) number ≡ Some call → (v.written q).applied ≤ number → (now.written q).applied ≤ number
  behind_it q number call found behind = grind (arith, of_applied)

  beside : SoundBeside now
  beside =
      let found : (q : ℕ) → v.live q ≡ true → EachHasCall (v.calls q) (now.written q) =
      λ q alive number e behind. p.sound.rest.found q alive number e (omega (arith, behind, applied_grows v applies q)) in
      assumption (
        cover_now v applies,
        logs_now v applies,
        λ (q r : ℕ) (alive : v.live q ≡ true).
            All-weaker (IsKnownIn v v q r) (IsKnownIn v now q r)
            (λ end. end_then v now q r end (λ is. is) (λ row has. rest_tells (row_keeps v p row has) end)) (ends_of (v.completions q r))
            (p.sound.calls.known q r alive),
        λ (q : ℕ) (alive : v.live q ≡ true) (number : ℕ) (call : Call) (found : get (v.calls q) number ≡ Some call).
            let was = p.sound.rest.waiting q alive number call found in
            waits_on v applies q number call (behind_it q number call found was.behind) was,
        found,
        ordered_now v applies,
        bare_now v applies,
        p.sound,
      )

  pub view_passed : SoundView now
  view_passed = view_applied v applies beside tells

module _ (v : View) (master : ℕ) (carried : Carried) (sound : SoundView v) (may : MayApplyUnmarked v master (entries.Carried carried)) where
  abbrev entry : Entry
  entry = entries.Carried carried

  abbrev after : ℕ → Written
  after = with_one_applied v.written master

  -- no call waits for it
  none_waits_carried : get (v.calls master) (v.written master).applied ≡ None
  none_waits_carried = uncalled v master entry sound may (λ call own. own)

  -- a member has what it had, or takes the entry
  either : (range : Range) (member : Member) → IsStill v.written (with_one_applied v.written master) range member ⊎ Takes (entries.Carried carried) v.written (with_one_applied v.written master) range member
  either range member = elim (member_cases v.written master entry may.stands range member) [
    | inl same ↦ inl same
    | inr next ↦ elim (cases_Bool (counts range entry)) [
      | inl inside ↦
          inr
          (takes v.written master entry may.stands range member next
          (ap (λ (n : ℕ). is_marked (v.written n).marks (v.written n).applied) next.at ∙ may.unmarked) inside refl)
      | inr outside ↦ inl (still v.written master entry may.stands range member (λ at free. (outside, refl)))
    ]
  ]

  -- the first of two has nothing behind what it has applied
  first_still : (row : Row) → Contains v.rows row → (first second : Member) (more : List Member) → lineage_of row.phase ≡ first ∷ second ∷ more → IsStill v.written (with_one_applied v.written master) row.range first
  first_still row has first second more is =
      let done : FirstIsDone v.written row.range (first ∷ second ∷ more) = rw is at (row_in v sound row has).rest.done in
      elim (either row.range first) [ inl same ↦ same | inr taken ↦ absurd (cc (sym taken.rest ∙ done.rest)) ]

  items_same : (range : Range) (member : Member) → items_of (member_truth (with_one_applied v.written master) range member) ≡ items_of (member_truth v.written range member)
  items_same range member = elim (either range member) [
    | inl same ↦ ap items_of same.truth
    | inr taken ↦ same_items entry (member_truth v.written range member) (member_truth after range member) taken.truth refl
  ]

  -- if the last one takes it, the ends of the entry are known, since it is first in the rest of the row
  last_gains : (row : Row) → Contains v.rows row → (last : Member) → last_of (lineage_of row.phase) ≡ Some last → Gains v (with_one_applied v.written master) row last
  last_gains row has last is = elim (either row.range last) [
    | inl same ↦ gains_none v after row last same
    | inr taken ↦
        let first : rests v row ≡ entry ∷ member_rest after row.range last =
        lineage_last v.written row.range (lineage_of row.phase) last is ∙ taken.rest in
        record {
          more = more_one taken.truth;
          head = entry ∷ [];
          rest_is = taken.rest;
          quiet = All-cons (IsQuietEntry v.base v.journal) entry [] (record {
            items = refl;
            ends = refl;
            known = All-head (IsStaged v.base v.asked v.journal) entry (member_rest after row.range last)
                (rw first at (row_in v sound row has).rest.goes_on.staged);
          }) (All-nil (IsQuietEntry v.base v.journal));
          from = λ e at. inr at;
        }
  ]

  abbrev carried_passing : Passing v
  carried_passing = record {
    master = master;
    entry = entries.Carried carried;
    sound = sound;
    held = may.held;
    stands = may.stands;
    none = none_waits_carried;
    firsts = first_still;
    only = λ row has only is. items_same row.range only;
    lasts = last_gains;
    copied = inl refl;
    own = λ row has found.
        applied_with row.range (v.written master) entry (v.records master) may.stands refl (own_place (v.handovers master row.tablet).role)
        (λ counted x at. absurd (none_stands x at));
  }

  pub view_carried : SoundView (entry_applied v master (entries.Carried carried))
  view_carried = view_passed v carried_passing

-- what a row has that is found by its number
found_row : (o : Option Row) → is_some o ≡ true → (row : Row) × (o ≡ Some row)
found_row None some = absurd (cc some)
found_row (Some row) some = (row, refl)

module _ (v : View) (master : ℕ) (entry : Entry) (sound : SoundView v) (may : MayApplyMarked v master entry) where
  -- no call waits for it
  none_waits_marked : get (v.calls master) (v.written master).applied ≡ None
  none_waits_marked = none_found v master sound may.held.lives (λ call waits. false≢true (sym waits.unmarked ∙ may.marked))

  -- what counts is the same
  still_each : (range : Range) (member : Member) → IsStill v.written (with_one_applied v.written master) range member
  still_each range member = still v.written master entry may.stands range member (λ at free.
      absurd (false≢true (sym free ∙ ap (λ (n : ℕ). is_marked (v.written n).marks (v.written n).applied) at ∙ may.marked)))

  -- ---- the rebuild that it is of

  the_mark : (mark : Mark) × Contains (v.written master).marks mark × (mark.first ≤ (v.written master).applied) × ((v.written master).applied < mark.past)
  the_mark = let found = mark_of (v.written master).marks (v.written master).applied may.marked in (found.mark, found.here, found.from, found.before)

  its_row : (row : Row) × (row_of v.rows the_mark.0.tablet ≡ Some row)
  its_row = grind (arith, found_row, row_of, the_mark)

  row_stands : Contains v.rows its_row.0
  row_stands = found_stands v.rows the_mark.0.tablet its_row.0 its_row.1

  same_tablet : the_mark.0.tablet ≡ its_row.0.tablet
  same_tablet = sym (number_of v.rows the_mark.0.tablet its_row.0 its_row.1)

  row_says : SoundRow v its_row.0
  row_says = row_in v sound its_row.0 row_stands

  fits : MarkFits its_row.0 master (v.handovers master its_row.0.tablet) (v.live master) (v.written master) the_mark.0
  fits = grind (arith, its_row, the_mark, row_says, same_tablet)

  of_range : IsOfRange its_row.0.range entry
  of_range =
      let piece : HasOwnRange its_row.0.range (v.written master).entries the_mark.0 =
      All-contains (λ (m : Mark). m.tablet ≡ its_row.0.tablet → HasOwnRange its_row.0.range (v.written master).entries m)
      (v.written master).marks the_mark.0 (row_says.rebuilds.pieces master) the_mark.1 same_tablet in
      All-contains (IsOfRange its_row.0.range) _ entry piece
      (in_piece (v.written master).entries the_mark.0.first the_mark.0.past (v.written master).applied entry the_mark.2 the_mark.3 may.stands)

  -- its own entries begin before the piece
  begins : own_place (v.handovers master its_row.0.tablet).role ≤ (v.written master).applied
  begins = grind (arith, its_row, fits, row_says, the_mark, same_tablet, own_place)

  copied : (items_in entry ≡ []) ⊎ IsCopied v master entry
  copied = grind (arith, of_range, its_row, items_in, fits, row_stands, beside, in_one_row, begins)

  -- what the master rebuilds has the item
  stands_behind : (other : Row) → Contains v.rows other → StandsBehind other.range entry (own_place (v.handovers master other.tablet).role) (v.written master).applied
  stands_behind other has counted x at = grind (arith, copied, none_stands, cases_eq, false≢true, beside)

  abbrev marked_passing : Passing v
  marked_passing = record {
    master = master;
    entry = entry;
    sound = sound;
    held = may.held;
    stands = may.stands;
    none = none_waits_marked;
    firsts = λ row has first second more is. still_each row.range first;
    only = λ row has only is. ap items_of (still_each row.range only).truth;
    lasts = λ row has last is. gains_none v (with_one_applied v.written master) row last (still_each row.range last);
    copied = copied;
    own = λ row has found.
        applied_with row.range (v.written master) entry (v.records master) may.stands
        (names_none its_row.0.range row.range entry of_range)
        (own_place (v.handovers master row.tablet).role) (stands_behind row has);
  }

  pub view_marked : SoundView (entry_applied v master entry)
  view_marked = view_passed v marked_passing
