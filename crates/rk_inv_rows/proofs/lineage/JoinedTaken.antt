-- The target of a row that moves owns it, once its closing entry is applied: what counts of its log records all of the row, and the view
-- stays sound.
use Rattle.std.proofs.Common.{◌≡◌, ℕ, ◌≤◌, ◌<◌, true, List, [], ◌∷◌, ◌++◌, Option, Some, sym, ap, subst, ◌∙◌, ⊎_elim, arith, inl, inr}
use Rattle.std.proofs.Common.{append-nil, append_assoc, All, IfSome, drop, max, take, Contains, flat_map, option_map, slice_index_or, Bool}
use Rattle.std.proofs.Common.{false, cond, eqb, eqb-true}
use Rattle.rk_inv_base.proofs.Words.{false≢true, flat_map-append, All-contains, Contains-append_cases, Contains-append_left}
use Rattle.rk_inv_base.proofs.Words.{Contains-append_right, get, Held, Member, Range, map_after, Entry, Joined, is_in, ends_of, Handover}
use Rattle.rk_inv_base.proofs.Words.{Role, lineage_of, Phase, Moving, Rebuilding, Row, stands_cases, live, IsPlain, base_map, Handed}
use Rattle.rk_inv_base.proofs.Words.{items_in, items_of, told, told_by, unmarked_from, counts, joined_from, of_key, side_entries, tells_of}
use Rattle.rk_inv_base.proofs.Words.{floor_of, has_all, Pulling, Written, applied_entries, lineage_rest, lineage_truth, member_material}
use Rattle.rk_inv_base.proofs.Words.{member_rest, member_truth, TellAll, AreAboveMap, beginning_in, target_truth, HasJoined, MayTakeJoined}
use Rattle.rk_inv_base.proofs.Words.{HasArrived, HasClosing, IsOutdone, IsReceived, IsTarget, before_closing, beginning_of, closing_joined}
use Rattle.rk_inv_base.proofs.Words.{copied_items, entries_from, is_granted, joined_place, scan_items, KeepTerm, IsTableOf, View, truths}
use Rattle.rk_inv_base.proofs.Words.{rests, SoundView, IsKnown, Call, All-tail, Owned, last_of, row_at, Bystander}
use Rattle.rk_inv_base.proofs.Words.{MovingSource, MovingTarget, Owner, Post, Holds, StillCounts, bond_of, post_of, speaks, RoleFits}
use Rattle.rk_inv_base.proofs.Words.{IsPlaced, HasItems, has_all_items, has_key}
use Rattle.rk_inv_rows.proofs.Words.{member as member_at, all_by, marks_none, TellHistory, SoundRow, row_in, MayTakeLineage, MembersAgree}
use Rattle.rk_inv_rows.proofs.Words.{lineage_taken, has_itself, floor_among}
use Rattle.rk_sound.specs.Receives.{IsClosedAt}
use Rattle.rk_inv_base.proofs.logs.InRange.{scan_in, truth_in}
use Rattle.rk_inv_rows.proofs.lineage.Among.{first_stand, flat_among, kept_among, later_stands, longer_stands}
use Rattle.rk_inv_rows.proofs.lineage.Histories.{history_of, range_at}
use Rattle.rk_inv_rows.proofs.lineage.Pieces.{joined_unmarked}
use Rattle.rk_inv_base.proofs.views.Among.{unmarked_stood}
use Rattle.rk_inv_rows.proofs.lineage.Scanned.{newest_scanned, scan_newest}
use Rattle.rk_inv_rows.proofs.lineage.TakenOver.{HasBoth, TakesOver, above_fewer, live_over, plain_above, plain_fewer, table_over}
use Rattle.rk_inv_rows.proofs.lineage.TargetMaterial.{HasJoinedLog, entry_stands, has_both, none_behind_applied}
use Rattle.rk_inv_rows.proofs.lineage.LineageSays.{view_lineage_taken}
use Rattle.rk_entry.specs.declared.entry.Entry.TheVariants as entries
use Rattle.rk_transfer.specs.declared.role.Role.TheVariants as roles

-- a role has joined, with its closing entry at a place that is applied
pub record JoinedAt (role : Role) (applied : ℕ) : Type 0 where
  pub place : ℕ
  pub role_is : role ≡ roles.Joining (Some place)
  pub within : place < applied

-- ---- posts

module _ (v : View) (row : Row) (source sfrom target dfrom : ℕ) (sound : SoundView v) (some : row.range.first ≤ row.range.last) (may : MayTakeJoined v row source sfrom target dfrom) where
  abbrev moving : Phase
  moving = Moving source sfrom target dfrom

  abbrev first : Member
  first = member_at source sfrom

  abbrev last : Member
  last = member_at target dfrom

  abbrev w : Written
  w = v.written target

  abbrev taker : Handover
  taker = v.handovers target row.tablet

  abbrev pulling : Pulling
  pulling = v.pullings target row.tablet

  -- what is known of the row
  row_was : SoundRow v row
  row_was = row_in v sound row may.has_row

  in_phase : (P : Phase → Type 0) → P row.phase → P moving
  in_phase P = subst P may.phase_is

  -- ---- the target

  at : JoinedAt taker.role w.applied
  at = grind arith

  in_role : (P : Role → Type 0) → P taker.role → P (roles.Joining (Some at.place))
  in_role P = subst P at.role_is

  range_is : taker.range ≡ row.range
  range_is = range_at v sound row may.has_row target may.term_is

  target_is : IsTarget row.range source (member_truth v.written row.range first) (member_material v.written row.range first) dfrom w taker pulling (get v.handed row.tablet) (v.records target)
  target_is = grind (arith, in_phase, lineage_of, row_was, is_granted, at)

  abbrev closing : Joined
  closing = record { range = taker.range; term = taker.term; segments = pulling.sealed }

  closed : IsClosedAt (closing_joined taker pulling.sealed) row.range dfrom w.entries at.place
  closed = in_role (λ r. HasClosing (joined_place r) (closing_joined taker pulling.sealed) row.range dfrom w.entries) target_is.closing

  never : (lineage : List Member) (to : ℕ) → row.phase ≡ Rebuilding lineage to → ⊥
  never lineage to is = let same : moving ≡ Rebuilding lineage to = sym may.phase_is ∙ is in absurd (cc same)

  log : HasJoinedLog row.range w.marks dfrom w.applied w.entries closing at.place
  log =
      assumption (
        range_is,
        joined_unmarked v sound target at.place closing closed.stands,
        marks_none v row sound may.has_row some never last,
        closed,
        at,
      )

  -- no Joined of the range is behind what is applied
  pub unnamed : joined_from row.range (max dfrom w.applied) w.entries ≡ []
  unnamed = none_behind_applied row.range w.marks w.sides dfrom w.applied w.entries closing at.place log

  -- ---- its items

  abbrev from_source : List Entry
  from_source = member_truth v.written row.range first

  abbrev mine : List Entry
  mine = member_truth v.written row.range last

  abbrev rest : List Entry
  rest = member_rest v.written row.range last

  abbrev own : List Held
  own = items_of (entries_from row.range dfrom (applied_entries w))

  abbrev copies : List Held
  copies = items_of (flat_map (side_entries w.sides) pulling.sealed)

  received : IsReceived (HasArrived (roles.Joining (Some at.place)) pulling (scan_items from_source)) row.range (scan_items from_source) own copies (v.records target)
  received =
      in_role
      (λ r. IsReceived (HasArrived r pulling (scan_items from_source)) row.range (scan_items from_source) own (copied_items r pulling w.sides)
      (v.records target)) target_is.received

  copied_inside : (x : Held) → Contains copies x → is_in row.range x ≡ true
  copied_inside x stands =
      All-contains (λ item. is_in row.range item ≡ true) (scan_items from_source) x
      (scan_in row.range from_source (truth_in v.written row.range first)) (received.within x stands)

  both : HasBoth own copies (items_of mine)
  both = has_both row.range w.marks w.sides dfrom w.applied w.entries closing at.place log copied_inside

  -- a joining target has all that its source had
  arrived : (x : Held) → HasArrived (roles.Joining (Some at.place)) pulling (scan_items from_source) x
  arrived x receiving = absurd (false≢true receiving)

  -- ---- with what is not applied

  rest_stands : (entry : Entry) → Contains rest entry → Contains (entries_from row.range dfrom w.entries) entry
  rest_stands entry =
      kept_among (counts row.range) (unmarked_from w.marks (max dfrom w.applied) w.entries) (drop dfrom w.entries)
      (λ e stands.
      later_stands dfrom (max dfrom w.applied) w.entries e (omega arith)
      (unmarked_stood w.marks (max dfrom w.applied) (drop (max dfrom w.applied) w.entries) e stands)) entry

  own_stands : (entry : Entry) → Contains (entries_from row.range dfrom (applied_entries w)) entry → Contains (entries_from row.range dfrom w.entries) entry
  own_stands entry =
      kept_among (counts row.range) (drop dfrom (applied_entries w)) (drop dfrom w.entries) (λ e. first_stand dfrom w.applied w.entries e) entry

  done : member_material v.written row.range first ≡ from_source
  done = grind (arith, in_phase, lineage_of, row_was)

  -- an item of its own is above each of the source's
  above_source : (x y : Held) → Contains (items_of (entries_from row.range dfrom w.entries)) x → Contains (items_of from_source) y → y.version < x.version
  above_source x y x_at y_at = grind (arith, items_of, member_material, entries_from, target_is, done)

  -- what it has of its own, applied or not
  abbrev all_own : List Held
  all_own = own ++ items_of rest

  takes : TakesOver (items_of from_source) (scan_items from_source) all_own copies
  takes = record {
    first = scan_newest from_source;
    scanned = newest_scanned from_source;
    within = received.within;
    copied = λ x stands.
        ⊎_elim (λ (copy : Contains copies x). inl copy)
        (λ (outdone : IsOutdone own x).
        inr (record {
          newer = outdone.newer;
          stands = Contains-append_left own (items_of rest) outdone.newer outdone.stands;
          same_key = outdone.same_key;
          above = outdone.above;
        }))
        (received.copied x stands (arrived x));
    above = λ x y x_at y_at.
        ⊎_elim
        (λ (applied : Contains own x).
        above_source x y
        (flat_among items_in (entries_from row.range dfrom (applied_entries w)) (entries_from row.range dfrom w.entries) own_stands x applied)
        y_at)
        (λ (staged : Contains (items_of rest) x).
        above_source x y (flat_among items_in rest (entries_from row.range dfrom w.entries) rest_stands x staged) y_at)
        (Contains-append_cases own (items_of rest) x x_at);
  }

  takes_applied : TakesOver (items_of from_source) (scan_items from_source) own copies
  takes_applied = record {
    first = scan_newest from_source;
    scanned = newest_scanned from_source;
    within = received.within;
    copied = λ x stands. received.copied x stands (arrived x);
    above = λ x y x_at y_at. takes.above x y (Contains-append_left own (items_of rest) x x_at) y_at;
  }

  -- ---- what counted, and what counts now

  abbrev now_truth : List Entry
  now_truth = mine ++ []

  abbrev old_truth : List Entry
  old_truth = from_source ++ now_truth

  was : TellHistory v.base row.range old_truth rest v.journal v.asked
  was =
      in_phase
      (λ p. TellHistory v.base row.range (lineage_truth v.base v.written row.range (lineage_of p))
      (lineage_rest v.written row.range (lineage_of p)) v.journal v.asked)
      (history_of v row sound may.has_row)

  now_stands : (entry : Entry) → Contains now_truth entry → Contains old_truth entry
  now_stands entry = Contains-append_right from_source now_truth entry

  mine_stands : (entry : Entry) → Contains mine entry → Contains now_truth entry
  mine_stands entry = Contains-append_left mine [] entry

  both_now : HasBoth own copies (items_of now_truth)
  both_now = rw (append-nil mine) both

  plain_old : IsPlain (items_of from_source ++ items_of now_truth)
  plain_old = rw (← flat_map-append items_in from_source now_truth) was.leaves.plain

  -- the same, with what is not applied
  items_with : items_of (old_truth ++ rest) ≡ items_of from_source ++ items_of (now_truth ++ rest)
  items_with = ap items_of (append_assoc from_source now_truth rest) ∙ flat_map-append items_in from_source (now_truth ++ rest)

  plain_with : IsPlain (items_of from_source ++ items_of (now_truth ++ rest))
  plain_with =
      subst IsPlain (sym (flat_map-append items_in old_truth rest) ∙ items_with)
      (plain_above (items_of old_truth) (items_of rest) was.leaves.plain was.above)

  both_with : HasBoth all_own copies (items_of (now_truth ++ rest))
  both_with =
      rw (flat_map-append items_in now_truth rest) (record {
        from = λ x stands.
            ⊎_elim
            (λ (applied : Contains (items_of now_truth) x).
            ⊎_elim (λ (its : Contains own x). inl (Contains-append_left own (items_of rest) x its)) (λ (copy : Contains copies x). inr copy)
            (both_now.from x applied))
            (λ (staged : Contains (items_of rest) x). inl (Contains-append_right own (items_of rest) x staged))
            (Contains-append_cases (items_of now_truth) (items_of rest) x stands);
        has_own = λ x stands.
            ⊎_elim
            (λ (applied : Contains own x). Contains-append_left (items_of now_truth) (items_of rest) x (both_now.has_own x applied))
            (λ (staged : Contains (items_of rest) x). Contains-append_right (items_of now_truth) (items_of rest) x staged)
            (Contains-append_cases own (items_of rest) x stands);
        has_copied = λ x stands. Contains-append_left (items_of now_truth) (items_of rest) x (both_now.has_copied x stands);
      })

  live_now : (table : ℕ) (key : List ℕ) → live (items_of now_truth) table key ≡ live (items_of old_truth) table key
  live_now table key = grind (arith, live_over, items_of, scan_items, takes_applied, both_now, plain_old, live, flat_map-append, items_in)

  live_with : (table : ℕ) (key : List ℕ) → live (items_of (now_truth ++ rest)) table key ≡ live (items_of (old_truth ++ rest)) table key
  live_with table key = grind (arith, live_over, items_of, scan_items, takes, both_with, plain_with, live, items_with)

  -- ---- what the source handed over

  at_term : ((v.handovers source row.tablet).term ≡ row.term) × (taker.term ≡ row.term)
  at_term = in_phase (λ p. KeepTerm p (λ q. (v.handovers q row.tablet).term) row.term) row_was.roles.at_term

  abbrev given : Handed
  given = record { floor = (v.handovers source row.tablet).counter; ends = ends_of (v.completions source row.tablet) }

  given_is : get v.handed row.tablet ≡ Some given
  given_is = grind (arith, in_phase, lineage_of, row_was, at_term)

  beginning_is : beginning_of taker given ≡ beginning_in row given
  beginning_is i = entries.Carried (record { range = range_is i; term = may.term_is i; floor = given.floor; ends = given.ends })

  -- the target has in its log what the source handed over, and has applied it
  begins : Contains now_truth (beginning_in row given)
  begins =
      let told_of : IfSome (get v.handed row.tablet) (λ h. Contains (drop dfrom (take at.place w.entries)) (beginning_of taker h)) =
      in_role
      (λ r. IfSome (get v.handed row.tablet) (λ h. Contains (drop dfrom (before_closing (joined_place r) w.entries)) (beginning_of taker h)))
      target_is.told in
      let stands : Contains (drop dfrom (take at.place w.entries)) (beginning_of taker given) =
      subst (λ (o : Option Handed). IfSome o (λ h. Contains (drop dfrom (take at.place w.entries)) (beginning_of taker h))) given_is told_of in
      let less : at.place < w.applied = at.within in
      rw (← beginning_is) (mine_stands (beginning_of taker given)
      (entry_stands row.range w.marks w.sides dfrom w.applied w.entries closing at.place log (beginning_of taker given)
      (longer_stands dfrom at.place w.applied w.entries (beginning_of taker given) (omega (arith, less)) stands)
      (ap (λ (range : Range). has_all range row.range) range_is ∙ has_itself row.range)))

  -- so its own entries record all that they record behind that
  abbrev behind_given : List Entry
  behind_given = beginning_in row given ∷ mine

  given_stands : (entry : Entry) → Contains behind_given entry → Contains now_truth entry
  given_stands entry stands = grind (arith, beginning_in, begins, mine_stands, stands_cases)

  -- what is said of a row that moves is said of its target
  of_target : (P : List Entry → Type 0) → IfSome (target_truth v.written v.handed row row.phase) P → P behind_given
  of_target P said =
      subst (λ (o : Option (List Entry)). IfSome o P) (ap (option_map (λ h. beginning_in row h ∷ mine)) given_is) (in_phase (λ p. IfSome (target_truth v.written v.handed row p) P) said)

  key_stands : (table : ℕ) (key : List ℕ) (entry : Entry) → Contains (of_key table key behind_given) entry → Contains (of_key table key now_truth) entry
  key_stands table key = kept_among (tells_of table key) behind_given now_truth given_stands

  ends : TellAll row.range v.journal now_truth
  ends k d within inside mutates =
      let call : Call = (slice_index_or v.journal k d).call in
      let reached = of_target (TellAll row.range v.journal) row_was.calls.moving k d within inside mutates in
      record {
        end = reached.end;
        stands =
            flat_among told_by (of_key call.table call.key behind_given) (of_key call.table call.key now_truth) (key_stands call.table call.key)
            reached.end reached.stands;
        reaches = reached.reaches;
      }

  low : AreAboveMap row.range (map_after (base_map v.base) v.journal) now_truth
  low table key inside =
      let below =
      of_target (AreAboveMap row.range (map_after (base_map v.base) v.journal))
      row_was.counters.moving table key inside in
      let more = floor_among (of_key table key behind_given) (of_key table key now_truth) (key_stands table key) in
      omega (arith, below, more)

  -- ---- so it gives the whole history

  pub history : TellHistory v.base row.range now_truth rest v.journal v.asked
  history = record {
    leaves = record {
      plain = plain_fewer (items_of now_truth) (items_of old_truth) (flat_among items_in now_truth old_truth now_stands) was.leaves.plain;
      live = λ table key inside. live_now table key ∙ was.leaves.live table key inside;
    };
    above =
        above_fewer (items_of now_truth) (items_of old_truth) (items_of rest) (flat_among items_in now_truth old_truth now_stands) was.above;
    ends = ends;
    known =
        all_by (IsKnown v.base v.journal) (told now_truth)
        (λ end stands.
        All-contains (IsKnown v.base v.journal) (told old_truth) end was.known (flat_among told_by now_truth old_truth now_stands end stands));
    low = low;
    goes_on =
        assumption
        (λ (table : ℕ) (key : List ℕ) (inside : has_key row.range table key ≡ true). live_with table key ∙ was.goes_on.live table key inside, was.goes_on);
  }

  pub floor : floor_of (now_truth ++ rest) ≤ floor_of (truths v row ++ rests v row)
  floor =
      rw may.phase_is (floor_among (now_truth ++ rest) (old_truth ++ rest)
      (λ entry stands.
      ⊎_elim (λ (applied : Contains now_truth entry). Contains-append_left old_truth rest entry (now_stands entry applied))
      (λ (staged : Contains rest entry). Contains-append_right old_truth rest entry staged)
      (Contains-append_cases now_truth rest entry stands)))

  -- ---- its records

  mine_plain : IsPlain (items_of mine)
  mine_plain =
      plain_fewer (items_of mine) (items_of old_truth)
      (flat_among items_in mine old_truth (λ entry stands. now_stands entry (mine_stands entry stands))) was.leaves.plain

  pub table_is : IsTableOf row.range mine (v.records target)
  table_is =
      table_over row.range (items_of mine) (v.records target)
      (record {
        plain = mine_plain;
        order = sound.records.ordered target;
        come = λ x stands inside.
            ⊎_elim (λ (its : Contains own x). both.has_own x its) (λ (copy : Contains copies x). both.has_copied x copy)
            (received.come x stands inside);
        found = λ x stands.
            ⊎_elim (λ (its : Contains own x). received.found x (inl its))
            (λ (copy : Contains copies x). received.found x (inr (received.within x copy, arrived x)))
            (both.from x stands);
      })

  -- ---- the target owns the row

  abbrev owned : Phase
  owned = Owned target dfrom

  abbrev new : Row
  new = row_at row row.term owned

  -- ---- posts

  abbrev FitsPost : ℕ → Post → Type 0
  FitsPost q post = Holds (bond_of post (v.handovers q row.tablet).role) row.term (v.handovers q row.tablet).term (v.written q).applied

  joined_by : (q : ℕ) → eqb target q ≡ true → HasJoined (v.handovers q row.tablet).role (v.written q).applied
  joined_by q is = rw (← eqb-true target q is) may.joined

  -- the target is another master than the source, so the source owns nothing
  fits_by : (q : ℕ) (a b : Bool) → eqb target q ≡ b
      → FitsPost q (cond a MovingSource (cond b (MovingTarget dfrom) Bystander))
      → FitsPost q (cond b (Owner dfrom) Bystander)
  fits_by q a b its held = grind (arith, joined_by, eqb-true)

  fits : (q : ℕ) → StillCounts (v.live q) (v.handovers q row.tablet).term row.term → RoleFits new q (v.handovers q row.tablet) (v.written q).applied
  fits q counting = grind (arith, fits_by, eqb, in_phase, post_of, row_was)

  speaks_by : (q : ℕ) (a b : Bool) → eqb target q ≡ b
      → speaks (cond b (Owner dfrom) Bystander) (v.handovers q row.tablet) row.term ≡ true
      → speaks (cond a MovingSource (cond b (MovingTarget dfrom) Bystander)) (v.handovers q row.tablet) row.term ≡ true
  speaks_by q a b its says = grind (arith, joined_by)

  speaks_no_more : (q : ℕ) → speaks (post_of owned q) (v.handovers q row.tablet) row.term ≡ true → speaks (post_of row.phase q) (v.handovers q row.tablet) row.term ≡ true
  speaks_no_more q says = grind (arith, speaks, post_of, speaks_by, eqb)

  -- the owner has all items
  full_by : (q : ℕ) (b : Bool) → eqb target q ≡ b → has_all_items (cond b (Owner dfrom) Bystander) (v.handovers q row.tablet) row.term ≡ true → HasItems new v.written (v.records q)
  full_by q true its has = rw (← eqb-true target q its) table_is
  full_by q false its has = absurd (false≢true has)

  -- ---- members

  members : MembersAgree v new v.handed
  members =
      assumption (
        All-tail (IsPlaced v.written) (member_at source sfrom) (last ∷ [])
            (in_phase (λ p. All (IsPlaced v.written) (lineage_of p)) row_was.rows.placed),
        unnamed,
      )

  pub may_be_owned : MayTakeLineage v row owned v.handed
  may_be_owned =
      grind (arith, was, at_term, fits, speaks, speaks_no_more, full_by, eqb, history, floor, members, ends, low, last_of, lineage_of)

  pub view_joined_taken : SoundView (lineage_taken v new v.handed)
  view_joined_taken = view_lineage_taken v row owned v.handed sound may_be_owned
