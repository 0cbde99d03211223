-- The master that rebuilt a row may own it, once the rebuild is reported: what it read is the truth of the row and a first part of its
-- rest, and the ends of the merge make the records of just that part.
use Rattle.std.proofs.Common.{arith, All, Contains, List, Some, [], ap, append-nil, inl, inr, subst, sym, ℕ, ◌++◌, ◌∙◌, ◌∷◌, ◌≡◌, ◌≤◌, ◌⊎◌}
use Rattle.rk_tablet_map.specs.Phase.{member as member_at}
use Rattle.rk_inv_base.proofs.Words.{All-contains, All-nil, Carried, Completions, Contains-append_cases, Contains-append_left}
use Rattle.rk_inv_base.proofs.Words.{Contains-append_right, Ended, Entry, HasSome, Held, IsKnown, IsRebuildTable, IsTableOf, LastCall}
use Rattle.rk_inv_base.proofs.Words.{MayTakeRebuilt, Member, Merged, Owned, Phase, Placed, ReachAll, Rebuilding, Role, Row, RowIsRebuilt}
use Rattle.rk_inv_base.proofs.Words.{SoundView, View, applied_from, as_entries, by_member, call_ends, closing_carried, completions_from}
use Rattle.rk_inv_base.proofs.Words.{ends_of, flat_map-append, items_in, items_of, member_material, member_truth, merge, merged_ends}
use Rattle.rk_inv_base.proofs.Words.{own_place, rests, row_at, stands_cases, told, told_by, truths}
use Rattle.rk_inv_rows.proofs.lineage.Histories.{history_of}
use Rattle.rk_inv_rows.proofs.lineage.RebuiltMaterial.{at as rebuilt_here, merged_is}
use Rattle.rk_inv_base.proofs.views.Among.{mapped}
use Rattle.rk_inv_logs.specs.read.ReadBack.{IsReadBack, TellInOrder, all_of}
use Rattle.rk_inv_events.proofs.Words.{MakeRecords, MayOwnRebuilt, TellHistory, all_by, flat_among, journal_with, made_of, marks_taken}
use Rattle.rk_inv_events.proofs.Words.{now_done, own_done, row_rebuilt, to_flat, truth_from, truth_has_own, truth_has_piece}
use Rattle.rk_inv_rows.proofs.lineage.RebuiltCounter.{own_list}
use Rattle.rk_inv_events.proofs.rebuilt.AppliedOwn.{applied_own}
use Rattle.rk_inv_events.proofs.rebuilt.InPlace.{HasPiece, StandsIn, all_plain, both, in_place}
use Rattle.rk_inv_events.proofs.rebuilt.Newest.{in_all, table_same}
use Rattle.rk_inv_events.proofs.rebuilt.Served.{IsServed, all_served}

-- each end that was read is recorded by the truth, or by the part of the rest
module _ (truth part : List Entry) (members : List (List Entry)) (order : TellInOrder truth part members) where
  abbrev told_whole : List Ended
  told_whole = told (truth ++ part)

  abbrev here : List Ended
  here = order.first ++ told part ++ order.behind

  of_either : (end : Ended) → Contains (told truth) end ⊎ Contains (told part) end → Contains told_whole end
  of_either end either = subst (λ (l : List Ended). Contains l end) (sym (flat_map-append told_by truth part))
      (elim either [
        | inl a ↦ Contains-append_left (told truth) (told part) end a
        | inr b ↦ Contains-append_right (told truth) (told part) end b
      ])

  of_here : (end : Ended) → Contains here end → Contains told_whole end
  of_here end stands = elim (Contains-append_cases (order.first ++ told part) order.behind end stands) [
    | inl front ↦ elim (Contains-append_cases order.first (told part) end front) [
      | inl first ↦ of_either end (inl (All-contains (Contains (told truth)) order.first end order.first_told first))
      | inr own ↦ of_either end (inr own)
    ]
    | inr behind ↦ All-contains (Contains told_whole) order.behind end order.behind_told behind
  ]

  of_member : (ends : List Ended) → Contains (order.before ++ here ∷ order.after) ends → All (Contains told_whole) ends
  of_member ends stands = elim (Contains-append_cases order.before (here ∷ order.after) ends stands) [
    | inl before ↦ All-contains (λ ends. All (Contains told_whole) ends) order.before ends order.before_told before
    | inr from ↦ elim (stands_cases here order.after ends from) [
      | inl is ↦ subst (λ (ends : List Ended). All (Contains told_whole) ends) is (all_by (Contains told_whole) here of_here)
      | inr after ↦ subst (λ (ends : List Ended). All (Contains told_whole) ends)
          (sym (All-contains (λ ends. ends ≡ []) order.after ends order.after_none after)) (All-nil (Contains told_whole))
    ]
  ]

  read_told : (m : List Entry) → Contains members m → All (Contains told_whole) (told m)
  read_told m stands =
      of_member (told m) (subst (λ (l : List (List Ended)). Contains l (told m)) order.split (mapped told members m stands))

-- what was read of the lineage of a row that a master rebuilt
abbrev pub read_of : View → Row → ℕ → ℕ → List (List Entry)
read_of v row to place = by_member (v.gathers to row.tablet) (member_material v.written row.range (member_at to place))

module _ (v : View) (row : Row) (lineage : List Member) (to place : ℕ) (ends : List Ended) (sound : SoundView v) (ranges : All (λ other. HasSome other.range) v.rows) (taken : MayTakeRebuilt v row lineage to place ends) (back : IsReadBack (truths v row) (rests v row) (read_of v row to place)) where
  some : row.range.first ≤ row.range.last
  some = All-contains (λ r. HasSome r.range) v.rows row ranges taken.has_row

  abbrev made : List Placed
  made = made_of v.asked v.journal (call_ends back.part)

  abbrev whole : List Entry
  whole = truths v row ++ back.part

  -- ---- the part is served

  own_last : (client : ℕ) (last : LastCall) → v.asked client ≡ Some last → last.call.client ≡ client
  own_last client last is = grind arith

  pub part_served : IsServed v.base row.range v.asked whole back.left (v.journal ++ made)
  part_served = all_served v.base row.range v.asked own_last (truths v row) back.part back.left v.journal
      (record {
        legal = sound.truth.legal;
        history = grind (arith, truths, history_of, v.base, row.range, v.journal, v.asked, back.split, taken.has_row);
      })

  pub whole_tells : TellHistory v.base row.range whole [] (v.journal ++ made) v.asked
  whole_tells = grind (arith, part_served, append-nil, items_of)

  -- ---- what counts of the new owner's log

  abbrev now : View
  now = marks_taken v row.tablet row.term

  abbrev own_member : Member
  own_member = member_at to place

  abbrev own : List Entry
  own = member_material v.written row.range own_member

  abbrev members : List (List Entry)
  members = read_of v row to place

  abbrev merged : Merged
  merged = merge own members

  abbrev carried : Carried
  carried = record {
    range = (v.handovers to row.tablet).range;
    term = (v.handovers to row.tablet).term;
    floor = merged.floor;
    ends = ends_of (completions_from [] merged.ends);
  }

  abbrev truth_now : List Entry
  truth_now = member_truth now.written row.range own_member

  abbrev piece_with : Merged → List Entry
  piece_with m = as_entries m.copies ++ closing_carried (v.handovers to row.tablet) m ∷ []

  piece : HasPiece own (all_of members) truth_now carried
  piece =
      let is = merged_is v row lineage to place ends sound some taken in
      let done = own_done v row lineage to place ends sound some taken in
      record {
        from = λ entry stands. elim (truth_from v row lineage to place ends sound some taken entry stands) [
          | inl mine ↦ inl (subst (λ (l : List Entry). Contains l entry) (sym done.all) mine)
          | inr inside ↦ inr (subst (λ (m : Merged). Contains (piece_with m) entry) is.merged_is inside)
        ];
        has_own = λ entry mine.
            truth_has_own v row lineage to place ends sound some taken entry (subst (λ (l : List Entry). Contains l entry) done.all mine);
        has_piece = λ entry inside.
            truth_has_piece v row lineage to place ends sound some taken entry
            (subst (λ (m : Merged). Contains (piece_with m) entry) (sym is.merged_is) inside);
      }

  own_stands : Contains members own
  own_stands = own_list (v.gathers to row.tablet) own

  own_items : (item : Held) → Contains (items_of own) item → Contains (items_of (all_of members)) item
  own_items = flat_among items_in own (all_of members) (λ entry mine. to_flat (λ list. list) members own entry own_stands mine)

  -- ---- with the records of the part

  module _ (made_is : made_of v.asked v.journal (merged_ends members) ≡ made) (reached : ReachAll row.range (journal_with v (merged_ends members)) (ends_of (completions_from [] (merged_ends members)))) (known : All (IsKnown v.base (journal_with v (merged_ends members))) (ends_of (completions_from [] (merged_ends members)))) where
    journal_is : journal_with v (merged_ends members) ≡ v.journal ++ made
    journal_is = ap (λ (more : List Placed). v.journal ++ more) made_is

    stands_in : StandsIn v.base row.range (v.journal ++ made) whole own (all_of members) carried
    stands_in = record {
      items = back.items;
      own_items = own_items;
      own_told = read_told (truths v row) back.part members back.ends own own_stands;
      reached = subst (λ (j : List Placed). ReachAll row.range j (ends_of (completions_from [] (merged_ends members)))) journal_is reached;
      known = subst (λ (j : List Placed). All (IsKnown v.base j) (ends_of (completions_from [] (merged_ends members)))) journal_is known;
      floor = back.floor;
    }

    history : TellHistory v.base row.range (truths now (row_at row row.term (Owned to place))) (rests now (row_at row row.term (Owned to place))) (journal_with v (merged_ends members)) v.asked
    history =
        let done = now_done v row lineage to place ends sound some taken in
        subst (λ (rest : List Entry). TellHistory v.base row.range (truth_now ++ []) rest (journal_with v (merged_ends members)) v.asked)
        (sym done.rest)
        (subst (λ (t : List Entry). TellHistory v.base row.range t [] (journal_with v (merged_ends members)) v.asked) (sym (append-nil truth_now))
        (subst (λ (j : List Placed). TellHistory v.base row.range truth_now [] j v.asked) (sym journal_is)
        (in_place v.base row.range v.asked (v.journal ++ made) whole own (all_of members) truth_now carried whole_tells stands_in piece)))

    -- ---- its records

    in_phase : (P : Phase → Type 0) → P row.phase → P (Rebuilding lineage to)
    in_phase P = subst P taken.phase_is

    its_table : IsRebuildTable row.range (truths v row) (applied_from row.range place (v.written to)) (v.records to)
    its_table =
        let fit =
        in_phase
        (λ p. RowIsRebuilt row p (truths v row) v.logs v.written v.stored v.handovers v.completions v.gathers v.merged v.records v.live)
        (row_rebuilt v sound row taken.has_row) in
        subst
        (λ (role : Role). IsRebuildTable row.range (truths v row) (applied_from row.range (own_place role) (v.written to)) (v.records to))
        (rebuilt_here v row lineage to place ends sound some taken).role_is (fit.0 taken.term_is).items

    table_now : IsRebuildTable row.range (truths v row) truth_now (v.records to)
    table_now = subst (λ (l : List Entry). IsRebuildTable row.range (truths v row) l (v.records to))
        (applied_own v row to place sound taken.has_row ranges) its_table

    all_items : (item : Held) → Contains (items_of truth_now) item → Contains (items_of (all_of members)) item
    all_items = in_all (items_of own) (items_of (all_of members)) (items_of truth_now)
        (all_plain v.base row.range v.asked (v.journal ++ made) whole own (all_of members) truth_now carried whole_tells stands_in piece)
        own_items (both own (all_of members) truth_now carried piece)

    truth_items : (item : Held) → Contains (items_of (truths v row)) item → Contains (items_of (all_of members)) item
    truth_items item stands =
        (back.items item).1
        (flat_among items_in (truths v row) whole (λ entry there. Contains-append_left (truths v row) back.part entry there) item stands)

    full : IsTableOf row.range truth_now (v.records to)
    full = table_same (items_of own) (items_of (all_of members)) (items_of truth_now)
        (all_plain v.base row.range v.asked (v.journal ++ made) whole own (all_of members) truth_now carried whole_tells stands_in piece)
        own_items (both own (all_of members) truth_now carried piece) row.range (v.records to) (sound.records.ordered to)
        (λ x stands inside. elim (table_now.come x stands inside) [ inl mine ↦ all_items x mine | inr there ↦ truth_items x there ])
        table_now.found

    -- ---- so it may own it

    ends_are : merged_ends members ≡ ends
    ends_are =
        let is = merged_is v row lineage to place ends sound some taken in
        sym (taken.ends_are ∙ is.ends_are ∙ ap (λ (m : Merged). m.ends) is.merged_is)

    completions_are : completions_from [] (merged_ends members) ≡ v.completions to row.tablet
    completions_are =
        let is = merged_is v row lineage to place ends sound some taken in
        sym (is.completions ∙ ap (λ (m : Merged). completions_from [] m.ends) is.merged_is)

    pub may_own : MakeRecords v row.range (merged_ends members)
        → ((other : Row) → Contains v.rows other → (other.tablet ≡ row.tablet → ⊥) → TellHistory v.base other.range (truths v other) (rests v other) (journal_with v (merged_ends members)) v.asked)
        → MayOwnRebuilt v row lineage to place ends
    may_own records others = record {
      taken = taken;
      ranges = ranges;
      records = subst (MakeRecords v row.range) ends_are records;
      history =
          subst
          (λ (l : List Ended). TellHistory v.base row.range (truths now (row_at row row.term (Owned to place)))
          (rests now (row_at row row.term (Owned to place))) (journal_with v l) v.asked) ends_are history;
      reached =
          subst (λ (c : Completions). ReachAll row.range (journal_with v ends) (ends_of c)) completions_are
          (subst (λ (l : List Ended). ReachAll row.range (journal_with v l) (ends_of (completions_from [] (merged_ends members)))) ends_are reached);
      known =
          subst (λ (c : Completions). All (IsKnown v.base (journal_with v ends)) (ends_of c)) completions_are
          (subst (λ (l : List Ended). All (IsKnown v.base (journal_with v l)) (ends_of (completions_from [] (merged_ends members)))) ends_are known);
      full = full;
      others = λ other has unlike.
          subst (λ (l : List Ended). TellHistory v.base other.range (truths v other) (rests v other) (journal_with v l) v.asked) ends_are
          (others other has unlike);
    }
