-- A view stays sound when a row moves, once its source is frozen and has reported what it hands over, and its target waits at its place.
use Rattle.std.proofs.Common.{◌≡◌, ℕ, ◌≤◌, Bool, true, cond, eqb, List, [], ◌∷◌, ◌++◌, Some, refl, sym, ap, subst, ◌∙◌, arith}
use Rattle.std.proofs.Common.{inr, append-nil, All, IfSome, filter, Contains, flat_map, option_map, eq-eqb, eqb-true}
use Rattle.rk_inv_base.proofs.Words.{cond_both, false≢true, All-cons, All-head, All-nil, get_other, get_same, NumberMap, get, insert}
use Rattle.rk_inv_base.proofs.Words.{Member, map_after, Entry, is_in, Handover, Role, lineage_of, Phase, Opening, Moving, Row, base_map}
use Rattle.rk_inv_base.proofs.Words.{Handed, items_of, first_of, of_key, side_entries, floor_of, is_idle, lineage_rest}
use Rattle.rk_inv_base.proofs.Words.{lineage_truth, member_truth, ReachAll, TellAll, AreAboveMap, IsNext, beginning_in, is_wanting}
use Rattle.rk_inv_base.proofs.Words.{target_truth, row_at, Bystander, MovingSource, MovingTarget, OpeningSource, Post, ReadyTarget}
use Rattle.rk_inv_base.proofs.Words.{Holds, StillCounts, bond_of, post_of, speaks, IsBare, is_granted, wanted_place, IsDone, RoleFits}
use Rattle.rk_inv_base.proofs.Words.{IsPlaced, HasItems, IsTableOf, has_all_items, View, truths, rests, SoundView}
use Rattle.rk_inv_rows.proofs.Words.{member as member_at, MayMove, MayBeLeft, MayTakeLineage, MembersAgree, TellHistory, lineage_taken}
use Rattle.rk_inv_rows.proofs.Words.{SoundRow, row_in, floor_among}
use Rattle.rk_inv_rows.proofs.lineage.Histories.{history_of, kept_stands, range_at}
use Rattle.rk_inv_rows.proofs.lineage.LineageSays.{view_lineage_taken}
use Rattle.rk_inv_rows.proofs.lineage.Untouched.{done_settled, names_none, rest_none, truth_none}
use Rattle.rk_transfer.specs.declared.role.Role.TheVariants as roles

-- a role that waits at a place
waits_at : (role : Role) (place : ℕ) (P : ℕ → Type 0) → role ≡ roles.Wanting place → IfSome (wanted_place role) P → P place
waits_at role place P is bare = subst (λ (r : Role). IfSome (wanted_place r) P) is bare

module _ (v : View) (row : Row) (source sfrom target dfrom : ℕ) (given : Handed) (sound : SoundView v) (some : row.range.first ≤ row.range.last) (may : MayMove v row source sfrom target dfrom given) where
  abbrev moving : Phase
  moving = Moving source sfrom target dfrom

  abbrev new : Row
  new = row_at row row.term moving

  abbrev noted : NumberMap Handed
  noted = insert v.handed row.tablet given

  abbrev first : Member
  first = member_at source sfrom

  abbrev last : Member
  last = member_at target dfrom

  -- what is known of the row
  row_was : SoundRow v row
  row_was = row_in v sound row may.has_row

  in_phase : (P : Phase → Type 0) → P row.phase → P (Opening source sfrom target (Some dfrom))
  in_phase P = subst P may.phase_is

  -- ---- the target has nothing

  bare : IsBare row.range dfrom (v.written target) (v.records target)
  bare = grind (arith, range_at, waits_at)

  -- ---- the source has applied all

  done : IsDone v.written row.range first
  done = done_settled v.written row.range first some (row_was.rest.idle source (inr may.term_is) (ap is_idle may.frozen))

  -- ---- truth and rest are what they were

  truth_is : truths v new ≡ truths v row
  truth_is =
      ap (λ (l : List Entry). member_truth v.written row.range first ++ (l ++ [])) (truth_none v.written row.range last some bare.nothing)
      ∙ sym (ap (λ (p : Phase). lineage_truth v.base v.written row.range (lineage_of p)) may.phase_is)

  rest_was : rests v row ≡ []
  rest_was = ap (λ (p : Phase). lineage_rest v.written row.range (lineage_of p)) may.phase_is ∙ done.rest

  rest_is : rests v new ≡ rests v row
  rest_is = rest_none v.written row.range last some bare.nothing ∙ sym rest_was

  history : TellHistory v.base row.range (truths v new) (rests v new) v.journal v.asked
  history = rw (truth_is, rest_is) (history_of v row sound may.has_row)

  floor_is : floor_of (truths v new ++ rests v new) ≡ floor_of (truths v row ++ rests v row)
  floor_is = ap (λ (t : List Entry). floor_of (t ++ rests v new)) truth_is ∙ ap (λ (r : List Entry). floor_of (truths v row ++ r)) rest_is

  floor : floor_of (truths v new ++ rests v new) ≤ floor_of (truths v row ++ rests v row)
  floor = omega (arith, floor_is)

  -- ---- posts

  abbrev FitsPost : ℕ → Post → Type 0
  FitsPost q post = Holds (bond_of post (v.handovers q row.tablet).role) row.term (v.handovers q row.tablet).term (v.written q).applied

  fits_by : (q : ℕ) (a b : Bool) → eqb source q ≡ a → eqb target q ≡ b
      → FitsPost q (cond a OpeningSource (cond b (ReadyTarget dfrom) Bystander))
      → FitsPost q (cond a MovingSource (cond b (MovingTarget dfrom) Bystander))
  fits_by q a b at its was = grind (arith, eqb-true)

  fits : (q : ℕ) → StillCounts (v.live q) (v.handovers q row.tablet).term row.term → RoleFits new q (v.handovers q row.tablet) (v.written q).applied
  fits q counting = grind (arith, fits_by, eqb, in_phase, post_of, row_was)

  speaks_by : (h : Handover) (a b : Bool) → speaks (cond a MovingSource (cond b (MovingTarget dfrom) Bystander)) h row.term ≡ true → speaks (cond a OpeningSource (cond b (ReadyTarget dfrom) Bystander)) h row.term ≡ true
  speaks_by h a b says = grind arith

  speaks_no_more : (q : ℕ) → speaks (post_of moving q) (v.handovers q row.tablet) row.term ≡ true → speaks (post_of row.phase q) (v.handovers q row.tablet) row.term ≡ true
  speaks_no_more q says = grind (arith, speaks, post_of, speaks_by, eqb)

  -- the source has all items, as it had
  full_by : (h : Handover) (a b : Bool) → has_all_items (cond a MovingSource (cond b (MovingTarget dfrom) Bystander)) h row.term ≡ true → has_all_items (cond a OpeningSource (cond b (ReadyTarget dfrom) Bystander)) h row.term ≡ true
  full_by h a b has = grind arith

  full : (q : ℕ) → v.live q ≡ true → has_all_items (post_of moving q) (v.handovers q row.tablet) row.term ≡ true → HasItems new v.written (v.records q)
  full q lives has =
      in_phase (λ p. IfSome (first_of (lineage_of p)) (λ m. IsTableOf row.range (member_truth v.written row.range m) (v.records q)))
      (row_was.tables q lives
      (ap (λ (p : Phase). has_all_items (post_of p q) (v.handovers q row.tablet) row.term) may.phase_is
      ∙ full_by (v.handovers q row.tablet) (eqb source q) (eqb target q) has))

  -- ---- members

  given_is : get noted row.tablet ≡ Some given
  given_is = get_same v.handed row.tablet given row.tablet refl

  members : MembersAgree v new noted
  members = record {
    placed =
        All-cons (IsPlaced v.written) first (last ∷ [])
        (All-head (IsPlaced v.written) first []
        (in_phase (λ p. All (IsPlaced v.written) (lineage_of p)) row_was.rows.placed))
        (All-cons (IsPlaced v.written) last [] bare.placed (All-nil (IsPlaced v.written)));
    done = done;
    unnamed = tt;
    named = λ item stands.
        let none = names_none v.written row.range last some bare.nothing in
        let nothing : Contains [] item =
        subst (λ (l : List ℕ). Contains (filter (is_in row.range) (items_of (flat_map (side_entries (v.written target).sides) l))) item)
        none stands in
        absurd (omega (arith, nothing.1));
    target = λ granted. absurd (false≢true (ap is_granted (sym may.waiting.role_is) ∙ granted));
    handed_on = λ terms. given_is ∙ (λ i. Some (record { floor = may.floor_is i; ends = may.ends_are i }));
  }

  -- ---- what is handed over

  reached : ReachAll row.range v.journal given.ends
  reached = grind (arith, row_was, speaks, post_of, eqb, eq-eqb)

  next : IsNext (truths v row ++ rests v row) given.floor
  next = grind (arith, floor_is, row_was, speaks, post_of, eqb, eq-eqb)

  -- what the target begins with records all ends, and is above all versions
  ends : TellAll row.range v.journal (beginning_in new given ∷ [])
  ends k d within inside mutates = rw (append-nil given.ends) (reached k d within inside mutates)

  low : AreAboveMap row.range (map_after (base_map v.base) v.journal) (beginning_in new given ∷ [])
  low table key inside =
      let below =
      row_was.counters.low table key inside in
      let fewer : floor_of (of_key table key (truths v row)) ≤ floor_of (truths v row ++ rests v row) =
      floor_among (of_key table key (truths v row)) (truths v row ++ rests v row)
      (λ entry stands. kept_stands table key (truths v row) (rests v row) entry stands) in
      let behind : floor_of (truths v row ++ rests v row) ≤ given.floor = next in
      omega (arith, below, fewer, behind)

  target_is : target_truth v.written noted new moving ≡ Some (beginning_in new given ∷ [])
  target_is =
      ap (option_map (λ h. beginning_in new h ∷ member_truth v.written row.range last)) given_is
      ∙ ap (λ (l : List Entry). Some (beginning_in new given ∷ l)) (truth_none v.written row.range last some bare.nothing)

  behind : IsNext (truths v new ++ rests v new) given.floor
  behind = let was : floor_of (truths v row ++ rests v row) ≤ given.floor = next in omega (arith, floor, was)

  left : MayBeLeft v new noted
  left = grind (arith, ends, target_is, low, cond_both, is_wanting, given_is, reached, behind)

  pub may_be_moved : MayTakeLineage v row moving noted
  may_be_moved = grind (arith, fits, speaks, speaks_no_more, full, history, floor, members, left, rest_was, get_other)

  pub view_moved : SoundView (lineage_taken v new noted)
  view_moved = view_lineage_taken v row moving noted sound may_be_moved
