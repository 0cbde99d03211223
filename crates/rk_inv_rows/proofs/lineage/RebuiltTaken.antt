-- A view stays sound when the master that rebuilt a row owns it, if the records that are made of what it reported go on lawfully.
use Rattle.std.proofs.Common.{◌≡◌, ℕ, ◌≤◌, ◌<◌, Bool, true, false, cond, eqb, List, [], ◌∷◌, ◌++◌, Option, Some, refl, sym, ap, subst, ◌∙◌}
use Rattle.std.proofs.Common.{⊎_elim, arith, inl, inr, All, drop, is_some, length, max, nat_le, nat_lt, not, ◌⊎◌, Contains, eq-eqb}
use Rattle.std.proofs.Common.{eqb-true, le-leb, slice_index_or}
use Rattle.rk_inv_base.proofs.Words.{and_from, cases_Bool, false_from_ne_true, false≢true, All-append, All-contains, All-filter}
use Rattle.rk_inv_base.proofs.Words.{IfSome_then, list_any, hash_of, has, Call, Ended, Placed, Member, Node, Range, is_at_parts, Map, is_at}
use Rattle.rk_inv_base.proofs.Words.{map_after, last_version, is_mutation, Entry, ends_of, lawful_turned, lineage_of, changed_rows}
use Rattle.rk_inv_base.proofs.Words.{is_covered, row_of, Phase, Owned, Rebuilding, Row, Body, base_map, told, is_member, last_of}
use Rattle.rk_inv_base.proofs.Words.{is_mark_of, is_marked, touches, of_key, has_key, Mark, AreHandedOver, IsKnown, IsReached, IsStagedEnd}
use Rattle.rk_inv_base.proofs.Words.{ReachAll, TellAll, is_record_in, AreAboveMap, IsNext, handed_by, handed_for_grant, target_truth}
use Rattle.rk_inv_base.proofs.Words.{HasRebuilt, IsRebuiltBy, HasSome, MayTakeRebuilt, row_at, Bystander, FormerMember, Owner, Post, Holds}
use Rattle.rk_inv_base.proofs.Words.{StillCounts, bond_of, post_of, rebuilder_post, speaks, HasOwnRange, MarkFits, IsBare, wanted_place}
use Rattle.rk_inv_base.proofs.Words.{EachHasCall, OnlyIsUnnamed, Waits, HasItems, has_all_items, HandoverFits, View, truths, rests}
use Rattle.rk_inv_base.proofs.Words.{SoundView, CoverOf, LogsOf, RowIsRebuilt, map_after-append, cond_both}
use Rattle.rk_inv_rows.proofs.Words.{member as member_at, turned as changed, in_one_row, same_number, covered_by, differ, all_by, all_in}
use Rattle.rk_inv_rows.proofs.Words.{Misses, joined_none, map_elsewhere, known_still, says_still, any_kept, filter_from, all_turned}
use Rattle.rk_inv_rows.proofs.Words.{stands_found, stands_still, TellHistory, MayOwnRebuilt, made_of, rebuilt_taken, cover_replaced}
use Rattle.rk_inv_rows.proofs.Words.{covered_replaced, known_replaced, none_for_owned, row_in, IsNextOf, SaysIn, SoundBeside, SoundRow}
use Rattle.rk_inv_rows.proofs.Words.{each_row, view_by_rows, kept_stands}
use Rattle.rk_inv_base.proofs.views.Places.{behind_any}
use Rattle.rk_inv_base.proofs.calls.Rebuilders.{last_member}
use Rattle.rk_inv_base.proofs.calls.Rest.{own_touches}
use Rattle.rk_inv_base.proofs.rows.Speakers.{quiet_says}
use Rattle.rk_inv_rows.proofs.lineage.Among.{later_all}
use Rattle.rk_inv_rows.proofs.lineage.MadeRecords.{made_asked, made_rising, made_seen}
use Rattle.rk_inv_rows.proofs.lineage.MarksBeside.{done_beside, items_beside, marks_beside, members_beside, named_beside, pieces_beside}
use Rattle.rk_inv_rows.proofs.lineage.MarksBeside.{rebuilt_beside, says_beside, target_beside}
use Rattle.rk_inv_rows.proofs.lineage.MarksTaken.{rests_kept, taken_by, truths_kept}
use Rattle.rk_inv_base.proofs.rows.OtherRows.{all_others}
use Rattle.rk_inv_rows.proofs.lineage.RebuiltCounter.{next_now}
use Rattle.rk_inv_rows.proofs.lineage.RebuiltMaterial.{placed_within, settled}
use Rattle.rk_inv_rows.proofs.lineage.LineageSays.{says, HasPassed, member_range}
use Rattle.rk_inv_rows.proofs.lineage.RebuiltSays.{member_here, rebuilt_passes}
use Rattle.rk_inv_rows.proofs.lineage.Untouched.{each_misses}
use Rattle.rk_inv_base.proofs.views.ByRows.{staged_as}
use Rattle.rk_inv_rows.proofs.lineage.FewerMarks.{waits_with}

module _ (v : View) (row : Row) (lineage : List Member) (to place : ℕ) (ends : List Ended) (sound : SoundView v) (may : MayOwnRebuilt v row lineage to place ends) where
  -- the records that are made
  abbrev made : List Placed
  made = made_of v.asked v.journal ends

  abbrev taken : MayTakeRebuilt v row lineage to place ends
  taken = may.taken

  abbrev owned : Phase
  owned = Owned to place

  abbrev new : Row
  new = row_at row row.term owned

  abbrev now : View
  now = rebuilt_taken v new made

  abbrev journal : List Placed
  journal = v.journal ++ made

  has_row : Contains v.rows row
  has_row = taken.has_row

  some_of : (r : Row) → Contains v.rows r → r.range.first ≤ r.range.last
  some_of r has = All-contains (λ r. HasSome r.range) v.rows r may.ranges has

  in_phase : (P : Phase → Type 0) → P row.phase → P (Rebuilding lineage to)
  in_phase P = subst P taken.phase_is

  found : row_of v.rows row.tablet ≡ Some row
  found = stands_found v.rows row sound.rows.apart has_row

  was : SoundRow v row
  was = row_in v sound row has_row

  passed : HasPassed v row row.phase owned
  passed = rebuilt_passes v row lineage to place ends sound taken

  truth_as : (r : Row) → Contains v.rows r → (r.tablet ≡ row.tablet → ⊥) → truths now r ≡ truths v r
  truth_as r has unlike = truths_kept v row sound has_row r has unlike (some_of r has)

  rest_as : (r : Row) → Contains v.rows r → (r.tablet ≡ row.tablet → ⊥) → rests now r ≡ rests v r
  rest_as r has unlike = rests_kept v row sound has_row r has unlike (some_of r has)

  abbrev Tells : Row → List Entry → List Entry → Type 0
  Tells r truth rest = TellHistory v.base r.range truth rest journal v.asked

  history : (r : Row) → Contains v.rows r → (r.tablet ≡ row.tablet → ⊥) → Tells r (truths now r) (rests now r)
  history r has unlike = rw (truth_as r has unlike, rest_as r has unlike) (may.others r has unlike)

  covered : (table hash : ℕ) → is_covered now.rows table hash ≡ is_covered v.rows table hash
  covered = covered_replaced v row new sound has_row refl refl

  known : (number : ℕ) → is_some (row_of now.rows number) ≡ is_some (row_of v.rows number)
  known = known_replaced v row new sound has_row refl refl

  -- ---- no record is of another row

  record_apart : (r : Row) → Contains v.rows r → (r.tablet ≡ row.tablet → ⊥) → (placed : Placed) → Contains made placed → is_record_in r.range placed ≡ true → ⊥
  record_apart r has unlike placed stands inside = grind (arith, false≢true, in_one_row, has_row, is_record_in)

  -- so what holds of all records of another row still does
  more : (r : Row) → Contains v.rows r → (r.tablet ≡ row.tablet → ⊥) → (P : Placed → Type 0) → All (λ placed. is_record_in r.range placed ≡ true → P placed) v.journal → All (λ placed. is_record_in r.range placed ≡ true → P placed) journal
  more r has unlike P all =
      All-append (λ placed. is_record_in r.range placed ≡ true → P placed) v.journal made all
      (all_by (λ placed. is_record_in r.range placed ≡ true → P placed) made
      (λ placed stands inside. absurd (record_apart r has unlike placed stands inside)))

  tell_more : (r : Row) → Contains v.rows r → (r.tablet ≡ row.tablet → ⊥) → (l : List Entry) → TellAll r.range v.journal l → TellAll r.range journal l
  tell_more r has unlike l =
      more r has unlike (λ placed. is_mutation placed.call.op ≡ true → IsReached (told (of_key placed.call.table placed.call.key l)) placed)

  reach_more : (r : Row) → Contains v.rows r → (r.tablet ≡ row.tablet → ⊥) → (l : List Ended) → ReachAll r.range v.journal l → ReachAll r.range journal l
  reach_more r has unlike l = more r has unlike (λ placed. is_mutation placed.call.op ≡ true → IsReached l placed)

  hand_more : (r : Row) → Contains v.rows r → (r.tablet ≡ row.tablet → ⊥) → (l : List Ended) → AreHandedOver v.base r.range v.journal l → AreHandedOver v.base r.range journal l
  hand_more r has unlike l over = search (reach_more, known, known_still, over.reached, over.known)

  abbrev map_of : List Placed → Map
  map_of = map_after (base_map v.base)

  map_as : (r : Row) → Contains v.rows r → (r.tablet ≡ row.tablet → ⊥) → (table : ℕ) (key : List ℕ) → has_key r.range table key ≡ true → map_of journal table key ≡ map_of v.journal table key
  map_as r stood unlike table key inside =
      ap (λ (m : Map). m table key) (map_after-append (base_map v.base) v.journal made)
      ∙ map_elsewhere (map_of v.journal) made table key
      (all_by _ made
      (λ placed stands.
      false_from_ne_true (is_at table key placed)
      (λ at.
      let parts = is_at_parts table key placed at in
      record_apart r stood unlike placed stands ((λ i. has r.range (parts.0 i) (hash_of (parts.1 i))) ∙ inside))))

  above_more : (r : Row) → Contains v.rows r → (r.tablet ≡ row.tablet → ⊥) → (l : List Entry) → AreAboveMap r.range (map_of v.journal) l → AreAboveMap r.range (map_of journal) l
  above_more r has unlike l above table key inside = grind (arith, last_version, map_as)

  -- ---- nodes, rows, terms, cover

  abbrev stays : Mark → Bool
  stays mark = not (is_mark_of row.tablet row.term mark)

  cover : CoverOf now
  cover =
      let same = cover_replaced v row new sound has_row refl refl v.handed in
      assumption
      (λ (q : ℕ). All-filter stays (λ mark. is_some (row_of now.rows mark.tablet) ≡ true) (v.written q).marks (same.marks q), same)

  -- ---- posts

  rebuilt_here : (q : ℕ) → to ≡ q → HasRebuilt (v.handovers q row.tablet).role (v.written q).applied place
  rebuilt_here q is = rw (← is) taken.rebuilt

  term_here : (q : ℕ) → to ≡ q → (v.handovers q row.tablet).term ≡ row.term
  term_here q is = ap (λ (m : ℕ). (v.handovers m row.tablet).term) (sym is) ∙ taken.term_is

  abbrev FitsPost : ℕ → Post → Type 0
  FitsPost q post = Holds (bond_of post (v.handovers q row.tablet).role) row.term (v.handovers q row.tablet).term (v.written q).applied

  fits_by : (q : ℕ) (a b : Bool) → eqb to q ≡ a → FitsPost q (cond a (rebuilder_post lineage q) (cond b FormerMember Bystander)) → FitsPost q (cond a (Owner place) Bystander)
  fits_by q a b is held = grind (arith, rebuilt_here, eqb-true, term_here)

  fitted : (q : ℕ) → StillCounts (v.live q) (v.handovers q row.tablet).term row.term → FitsPost q (post_of (Rebuilding lineage to) q)
  fitted q counting = in_phase (λ p. FitsPost q (post_of p q)) (was.roles.fitting q counting)

  fits : (q : ℕ) → StillCounts (v.live q) (v.handovers q row.tablet).term row.term → FitsPost q (post_of owned q)
  fits q counting = fits_by q (eqb to q) (is_member lineage q) refl (fitted q counting)

  logs : LogsOf now
  logs = record {
    each = λ q.
        let log = sound.logs.each q in
        assumption (All-filter stays (λ mark. mark.past ≤ length (v.written q).entries) (v.written q).marks log.marked, log);
    sent = sound.logs.sent;
  }

  -- ---- truth, order, calls

  -- only the owner speaks
  owner_says : (q : ℕ) → StillCounts (v.live q) (v.handovers q row.tablet).term row.term → (P : ℕ → Type 0) → P to → speaks (post_of owned q) (v.handovers q row.tablet) row.term ≡ true → P q
  owner_says q counting P here = grind (arith, eqb, fits, speaks, says, eqb-true, quiet_says)

  -- a staged end of the row is a record's now
  staged_end : (q n : ℕ) (end : Ended) → Contains (ends_of (v.completions q n)) end → IsStagedEnd v.rows (rests v) q n (v.handovers q n).term end → IsKnown v.base journal end ⊎ IsStagedEnd now.rows (rests now) q n (v.handovers q n).term end
  staged_end q n end stands s =
      ⊎_elim
      (λ (its : eqb s.row.tablet row.tablet ≡ true).
      let is : s.row ≡ row = same_number v.rows s.row row sound.rows.apart s.stands has_row (eqb-true s.row.tablet row.tablet its) in
      let by : IsRebuiltBy s.row.phase q = rw s.rebuilt refl in
      let here : to ≡ q = in_phase (λ p. IsRebuiltBy p q) (rw (← is) by) in
      let number : n ≡ row.tablet = sym s.number ∙ ap (λ (r : Row). r.tablet) is in
      inl
      (All-contains (IsKnown v.base journal) (ends_of (v.completions to row.tablet)) end may.known
      (rw (here, ← number) stands)))
      (λ (other : eqb s.row.tablet row.tablet ≡ false).
      let unlike = differ s.row.tablet row.tablet other in
      inr
      (staged_as v.rows now.rows (rests v) (rests now) q n (v.handovers q n).term (v.handovers q n).term end s
      (⊎_elim (λ (is : s.row ≡ row). absurd (unlike (ap (λ (r : Row). r.tablet) is))) (λ (there : Contains now.rows s.row). there)
      (stands_still v.rows row.tablet row new s.row found s.stands)) (rw (rest_as s.row s.stands unlike) s.told) s.at_term))
      (cases_Bool (eqb s.row.tablet row.tablet))

  -- ---- counters

  next_as : (r : Row) → Contains v.rows r → (r.tablet ≡ row.tablet → ⊥) → (number : ℕ) → IsNext (truths v r ++ rests v r) number → IsNext (truths now r ++ rests now r) number
  next_as r has unlike number next = rw (truth_as r has unlike, rest_as r has unlike) next

  -- ---- what waits

  missed : All (Misses row.range) (drop (v.written to).applied (v.written to).entries)
  missed = search (each_misses, settled, some_of, has_row)

  -- no call waits for the row: of its lineage only the master that rebuilt it lives, and nothing of the range is left to be applied there
  none_waits : (q n : ℕ) (call : Call) → v.live q ≡ true → (wait : Waits v.rows (v.handovers q) (v.written q) q n call) → wait.row ≡ row → ⊥
  none_waits q n call lives wait is =
      let last : last_of lineage ≡ Some wait.last =
      in_phase (λ p. last_of (lineage_of p) ≡ Some wait.last)
      (rw (← is) wait.is_last) in
      let here : to ≡ q =
      eqb-true to q
      (member_here lineage to q (v.handovers q row.tablet).role row.term (v.handovers q row.tablet).term (v.written q).applied
      (last_member lineage wait.last q last wait.here) (fitted q (inl lives))) in
      let touched : touches row.range wait.entry ≡ true =
      own_touches row.range call wait.entry wait.own (rw (← is) wait.in_row) in
      let any : list_any (touches row.range) (drop (v.written q).applied (v.written q).entries) ≡ true =
      behind_any (touches row.range) (v.written q).entries (v.written q).applied n wait.entry wait.behind wait.stands touched in
      let none : list_any (touches row.range) (drop (v.written q).applied (v.written q).entries) ≡ false =
      rw (← here) (settled v row lineage to place ends sound (some_of row has_row) taken) in
      false≢true (sym none ∙ any)

  free_still : (q n : ℕ) → is_marked (v.written q).marks n ≡ false → is_marked (now.written q).marks n ≡ false
  free_still q n free = grind (arith, false_from_ne_true, is_marked, false≢true, any_kept, nat_le, nat_lt)

  waits : (q n : ℕ) (call : Call) → v.live q ≡ true → Waits v.rows (v.handovers q) (v.written q) q n call → Waits now.rows (v.handovers q) (now.written q) q n call
  waits q n call lives wait =
      ⊎_elim (λ (is : wait.row ≡ row). absurd (none_waits q n call lives wait is))
      (λ (stands : Contains now.rows wait.row).
      waits_with v.rows now.rows (v.handovers q) (v.written q) (now.written q).marks (v.written q).applied q n call wait wait.behind
      (free_still q n wait.unmarked) stands)
      (stands_still v.rows row.tablet row new wait.row found wait.has_row)

  -- what holds of a mark of the row's tablet
  mark_of : (q : ℕ) (mark : Mark) → Contains (v.written q).marks mark → mark.tablet ≡ row.tablet → MarkFits row q (v.handovers q row.tablet) (v.live q) (v.written q) mark
  mark_of q mark stands its = grind (arith, was)

  -- what bore a mark of the tablet at a living master is applied
  applied_there : (q : ℕ) (mark : Mark) → v.live q ≡ true → Contains (v.written q).marks mark → mark.tablet ≡ row.tablet → mark.past ≤ (v.written q).applied
  applied_there q mark lives stands its = grind (arith, mark_of, in_phase, some_of, has_row)

  found_calls : (q : ℕ) → v.live q ≡ true → EachHasCall (v.calls q) (v.written q) → EachHasCall (v.calls q) (now.written q)
  found_calls q lives each n entry behind stands is_call free =
      each n entry behind stands is_call
      (false_from_ne_true (is_marked (v.written q).marks n)
      (λ was.
      let gone = taken_by v row sound has_row q n was free in
      let past : n < gone.covered.mark.past = gone.covered.past in
      let low = applied_there q gone.covered.mark lives gone.covered.stands gone.tablet in
      omega (arith, past, low, behind)))

  unnamed_as : (r : Row) (l : List Member) → OnlyIsUnnamed v.written r.range l → OnlyIsUnnamed now.written r.range l
  unnamed_as r (only ∷ []) fit = fit
  unnamed_as r _ fit = tt

  -- ---- records, targets, rebuilds

  full : (q : ℕ) → has_all_items (post_of owned q) (v.handovers q row.tablet) row.term ≡ true → HasItems new now.written (v.records q)
  full q =
      cond_both (eqb to q) (Owner place) Bystander
      (λ post. has_all_items post (v.handovers q row.tablet) row.term ≡ true → HasItems new now.written (v.records q))
      (λ here is. rw (← eqb-true to q here) may.full) (λ away none. absurd (false≢true none))

  bare_as : (q : ℕ) (range : Range) (from : ℕ) → IsBare range from (v.written q) (v.records q) → IsBare range from (now.written q) (v.records q)
  bare_as q range from bare = record { placed = bare.placed; nothing = bare.nothing; empty = bare.empty }

  -- no mark of the tablet is left
  none_left : (q : ℕ) (mark : Mark) → Contains (now.written q).marks mark → mark.tablet ≡ row.tablet → ⊥
  none_left q mark stands its =
      let fit = mark_of q mark (filter_from stays (v.written q).marks mark stands) its in
      let both : is_mark_of row.tablet row.term mark ≡ true =
      and_from (eqb mark.tablet row.tablet) (nat_le mark.term row.term) (eq-eqb mark.tablet row.tablet its)
      (le-leb mark.term row.term fit.within) in
      false≢true (ap not (sym both) ∙ (kept_stands stays (v.written q).marks mark stands).1)

  -- ---- the whole

  -- what holds of the row
  holds : SoundRow now new
  holds = record {
    nodes = λ q is. was.nodes q (passed.named q is);
    rows = record { begun = was.rows.begun; formed = tt; placed = grind (arith, member_at, placed_within, some_of, has_row, now.written) };
    terms = λ n m there. let fits = was.terms n m there in record { within = fits.within; below = fits.below };
    roles = record {
      fitting = fits;
      ranged = λ q counting. member_range v row owned sound has_row passed q (was.roles.ranged q counting);
      at_term = tt;
    };
    truth = may.history.leaves;
    order = may.history.above;
    calls = record {
      reached = may.history.ends;
      recorded = may.history.known;
      moving = tt;
      answering = λ q counting. owner_says q counting (λ m. ReachAll row.range journal (ends_of (v.completions m row.tablet))) may.reached;
      granted = tt;
      sent = λ n m there. rw (none_for_owned row.tablet row.term row.range to place v.handovers m.body) tt;
    };
    counters = record {
      low = may.history.low;
      moving = tt;
      counted = λ q counting.
          owner_says q counting (λ m. IsNextOf now new (v.handovers m row.tablet).counter)
          (next_now v row lineage to place ends sound (some_of row has_row) taken);
      granted = tt;
      sent = λ n m there. rw (none_for_owned row.tablet row.term row.range to place v.handovers m.body) tt;
    };
    rest = record {
      goes_on = may.history.goes_on;
      done = tt;
      unnamed =
          joined_none row.range (drop (max place (v.written to).applied) (v.written to).entries)
          (later_all (Misses row.range) (v.written to).applied (max place (v.written to).applied) (v.written to).entries (omega arith) missed);
      idle = was.rest.idle;
    };
    tables = λ q lives. full q;
    receives = record { target = tt; handed_on = tt; named = tt };
    rebuilds = record {
      rebuilt = tt;
      marks = λ q.
          all_by (λ mark. mark.tablet ≡ row.tablet → MarkFits new q (v.handovers q row.tablet) (v.live q) (now.written q) mark)
          (now.written q).marks (λ mark stands its. absurd (none_left q mark stands its));
      pieces = λ q.
          all_by (λ mark. mark.tablet ≡ row.tablet → HasOwnRange row.range (v.written q).entries mark) (now.written q).marks
          (λ mark stands its. absurd (none_left q mark stands its));
    };
    messages = λ n m there.
        says_as m.from m.to m.body (says v row owned v.handed passed m.from m.to m.body (was.terms n m there) (was.messages n m there));
  }
    where
      -- what is said of a row that is owned reads no marks
      says_as : (from node : Node) (body : Body) → SaysIn (record now { written = v.written }) new from node body → SaysIn now new from node body
      says_as from node body said = said

  -- of another row holds what did
  module _ (r : Row) (has : Contains v.rows r) (unlike : r.tablet ≡ row.tablet → ⊥) where
    some : r.range.first ≤ r.range.last
    some = some_of r has

    target_as : target_truth now.written v.handed r r.phase ≡ target_truth v.written v.handed r r.phase
    target_as = target_beside v row sound has_row r has unlike some r.phase

    other_row : SoundRow v r → SoundRow now r
    other_row old = record {
      nodes = old.nodes;
      rows = record { begun = old.rows.begun; formed = old.rows.formed; placed = old.rows.placed };
      terms = old.terms;
      roles = record { fitting = old.roles.fitting; ranged = old.roles.ranged; at_term = old.roles.at_term };
      truth = (history r has unlike).leaves;
      order = (history r has unlike).above;
      calls = record {
        reached = (history r has unlike).ends;
        recorded = (history r has unlike).known;
        moving = rw target_as (IfSome_then (target_truth v.written v.handed r r.phase) old.calls.moving (tell_more r has unlike));
        answering = λ q counting says. reach_more r has unlike (ends_of (v.completions q r.tablet)) (old.calls.answering q counting says);
        granted =
            IfSome_then (handed_for_grant r v.handovers v.handed) old.calls.granted (λ h over. hand_more r has unlike h.ends over);
        sent = λ n m there.
            IfSome_then (handed_by r v.handovers m.body) (old.calls.sent n m there) (λ h over. hand_more r has unlike h.ends over);
      };
      counters = record {
        low = (history r has unlike).low;
        moving = rw target_as (IfSome_then (target_truth v.written v.handed r r.phase) old.counters.moving (above_more r has unlike));
        counted = λ q counting says. next_as r has unlike (v.handovers q r.tablet).counter (old.counters.counted q counting says);
        granted =
            IfSome_then (handed_for_grant r v.handovers v.handed) old.counters.granted (λ h next. next_as r has unlike h.floor next);
        sent = λ n m there.
            IfSome_then (handed_by r v.handovers m.body) (old.counters.sent n m there) (λ h next. next_as r has unlike h.floor next);
      };
      rest = record {
        goes_on = (history r has unlike).goes_on;
        done = done_beside v row sound has_row r has unlike some (lineage_of r.phase) old.rest.done;
        unnamed = unnamed_as r (lineage_of r.phase) old.rest.unnamed;
        idle = old.rest.idle;
      };
      tables = λ q lives is. items_beside v row sound has_row r has unlike some (v.records q) (old.tables q lives is);
      receives = record {
        target = members_beside v row sound has_row r has unlike some (lineage_of r.phase) old.receives.target;
        handed_on = old.receives.handed_on;
        named = named_beside v row sound has_row r has unlike some (lineage_of r.phase) old.receives.named;
      };
      rebuilds = record {
        rebuilt =
            subst
            (λ (t : List Entry).
            RowIsRebuilt r r.phase t v.logs now.written v.stored v.handovers v.completions v.gathers v.merged v.records v.live)
            (sym (truth_as r has unlike)) (rebuilt_beside v row sound has_row r has unlike some (truths v r) r.phase old.rebuilds.rebuilt);
        marks = λ q. marks_beside v row sound has_row r has unlike some q (old.rebuilds.marks q);
        pieces = λ q. pieces_beside v row sound has_row r has unlike some q (old.rebuilds.pieces q);
      };
      messages = λ n m there. says_beside v row sound has_row r has unlike some m.from m.to m.body (old.messages n m there);
    }

  beside : SoundBeside now
  beside = record {
    numbered = sound.nodes.numbered;
    backed = sound.nodes.backed;
    known_backups = sound.nodes.known;
    crashed = sound.nodes.crashed;
    left = sound.nodes.left;
    rows_apart = lawful_turned v.rows row.tablet row new found refl refl sound.rows.apart;
    covered = λ k d within.
        let call : Call = (slice_index_or journal k d).call in
        covered call.table (hash_of call.key)
        ∙ All-append (λ entry. is_covered v.rows entry.call.table (hash_of entry.call.key) ≡ true) v.journal made sound.rows.covered
        (λ j e stands.
        let call : Call = (slice_index_or made j e).call in
        covered_by v.rows row call.table (hash_of call.key) has_row (may.records.inside j e stands)) k d within;
    kept = λ q n.
        all_turned (λ other. HandoverFits other n (v.handovers q n)) v.rows row new row.tablet has_row
        (λ fits. record { within = fits.within; below = fits.below; exact = fits.exact }) (sound.terms.kept q n);
    begun = sound.terms.begun;
    apart = sound.terms.apart;
    cover = cover;
    has_row = λ q r lives there. known r ∙ sound.roles.known q r lives there;
    logs = logs;
    legal = may.records.legal;
    rising = made_rising v sound.asked ends sound.truth.rising;
    seen = made_seen v sound.asked ends sound.truth.seen;
    once = may.records.once;
    known = λ q n lives.
        all_in
        (λ end. IsKnown v.base v.journal end ⊎ IsStagedEnd v.rows (rests v) q n (v.handovers q n).term end)
        (λ end. IsKnown v.base journal end ⊎ IsStagedEnd now.rows (rests now) q n (v.handovers q n).term end)
        (ends_of (v.completions q n))
        (λ end stands either.
        ⊎_elim (λ (knows : IsKnown v.base v.journal end). inl (known_still v.journal made v.base end knows))
        (λ (s : IsStagedEnd v.rows (rests v) q n (v.handovers q n).term end). staged_end q n end stands s) either)
        (sound.calls.known q n lives);
    waiting = λ q lives n call there. waits q n call lives (sound.rest.waiting q lives n call there);
    are_last = sound.rest.are_last;
    found = λ q lives. found_calls q lives (sound.rest.found q lives);
    ordered = sound.records.ordered;
    bare = λ q n. IfSome_then (wanted_place (v.handovers q n).role) (sound.receives.bare q n) (bare_as q (v.handovers q n).range);
    others = λ n m there. says_still v.journal made m.to m.body (sound.messages.others n m there);
    asked = made_asked v sound.asked ends;
  }

  pub view_rebuilt_taken : SoundView now
  view_rebuilt_taken =
      view_by_rows now beside
      (all_others v.rows row new sound.rows.apart has_row refl refl (SoundRow v) (SoundRow now) (λ was. holds) other_row (each_row v sound))

  -- the rows of a lane after it
  pub rows_rebuilt : changed_rows v.rows row.tablet row.term owned ≡ now.rows
  rows_rebuilt = ap (λ (o : Option Row). changed o v.rows row.tablet row.term owned) found
