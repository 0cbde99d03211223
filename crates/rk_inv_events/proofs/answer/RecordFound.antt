-- What a serving master's records leave of a key, if they have all of it that there is: the record that the row's truth leaves.
use Rattle.std.proofs.Common.{All, Contains, List, None, [], ap, append-nil, arith, drop, flat_map, inl, inr, refl, subst, sym, true, ℕ}
use Rattle.std.proofs.Common.{⊎_elim, ◌++◌, ◌+◌, ◌<◌, ◌∙◌, ◌∷◌, ◌≡◌, ◌⊎◌}
use Rattle.rk_inv_base.proofs.Words.{All-contains, Contains-append_cases, Entry, FirstIsDone, HasArrived, Held, IsTableOf, IsTruth, Member}
use Rattle.rk_inv_base.proofs.Words.{MembersFit, NamedFit, Row, SoundView, View, Written, applied_entries, copied_items, counting, counts}
use Rattle.rk_inv_base.proofs.Words.{entries_from, flat_map-append, found, get, has_key, is_granted, is_in, is_marked, is_of, is_serving}
use Rattle.rk_inv_base.proofs.Words.{items_in, items_of, lineage_of, lineage_truth, live, log_material, member_material, member_truth}
use Rattle.rk_inv_base.proofs.Words.{named, named_items, post_of, record_of, scan_items, side_entries, truths, unmarked_from}
use Rattle.rk_inv_base.proofs.logs.MarkedApart.{place_of}
use Rattle.rk_inv_base.proofs.pulls.Joining.{kept_stands, stands_kept}
use Rattle.rk_inv_events.proofs.Words.{IsIn, IsTargetIn, behind_at, filter_stands, first_stand, flat_among, flat_from, flat_stands}
use Rattle.rk_inv_events.proofs.Words.{front_at, kept_among, material_in, newest_scanned, role_fits, row_done, row_formed, row_in, row_true}
use Rattle.rk_inv_events.proofs.Words.{scan_newest, sides_into, truth_in, unmarked_at, unmarked_stands, unmarked_stood}
use Rattle.rk_inv_events.proofs.answer.FoundItems.{IsBeside, found_leaves, table_found}
use Rattle.rk_inv_events.proofs.answer.OwnCounts.{own_counts}
use Rattle.rk_inv_events.proofs.request.Served.{HasAll, WasGranted, serves_as}

module _ (v : View) (sound : SoundView v) (row : Row) (master : ℕ) (has : Contains v.rows row) (lives : v.live master ≡ true) (serves : is_serving (v.handovers master row.tablet).role ≡ true) (table : ℕ) (key : List ℕ) (inside : has_key row.range table key ≡ true) where
  abbrev w : Written
  w = v.written master

  -- if nothing is found of the key, all of it has arrived that the source of a target had
  abbrev pub Knows : Type 0
  Knows = found table key (v.records master) ≡ None → (items : List Held) (x : Held) → Contains items x → is_of table key x ≡ true
      → HasArrived (v.handovers master row.tablet).role (v.pullings master row.tablet) items x

  -- the records leave what the truth leaves
  abbrev Leaves : Type 0
  Leaves = record_of (found table key (v.records master)) ≡ live (items_of (truths v row)) table key

  -- ---- the only member

  of_only : HasAll (lineage_of row.phase) (post_of row.phase master) (v.handovers master row.tablet) row.term → Leaves
  of_only has_all =
      let truth : List Entry = member_truth v.written row.range has_all.only in
      let its : IsTableOf row.range truth (v.records master) =
      rw has_all.lineage_is at
      ((row_in v sound row has).tables master lives has_all.all) in
      let truth_is : truths v row ≡ truth = ap (lineage_truth v.base v.written row.range) has_all.lineage_is ∙ append-nil truth in
      ap record_of
      (table_found row.range truth (v.records master) table key (sound.records.ordered master) (truth_in v.written row.range has_all.only)
      its inside) ∙ ap (λ (list : List Entry). live (items_of list) table key) (sym truth_is)

  -- ---- the second of two members

  module _ (granted : WasGranted (lineage_of row.phase) master (v.handovers master row.tablet).role) where
    abbrev from : ℕ
    from = granted.last.from

    abbrev first_truth : List Entry
    first_truth = member_truth v.written row.range granted.first

    abbrev bare : List Entry
    bare = unmarked_from w.marks granted.last.from (applied_entries w)

    abbrev mine : List Entry
    mine = log_material row.range w.marks w.sides granted.last.from (applied_entries w)

    abbrev own : List Entry → List Held
    own list = items_of (entries_from row.range granted.last.from list)

    in_lineage : (P : List Member → Type 0) → P (lineage_of row.phase) → P (granted.first ∷ granted.last ∷ [])
    in_lineage P = subst P granted.lineage_is

    target : IsTargetIn v.written row granted.first (record { master = master; from = granted.last.from }) (v.handovers master row.tablet) (v.pullings master row.tablet) (get v.handed row.tablet) (v.records master)
    target = rw granted.here at
        (in_lineage (MembersFit row v.written v.handovers v.pullings v.records v.handed) (row_in v sound row has).receives.target
        (ap (λ (n : ℕ). is_granted (v.handovers n row.tablet).role) granted.here ∙ granted.granted))

    truth_is : truths v row ≡ first_truth ++ mine
    truth_is = ap (lineage_truth v.base v.written row.range) granted.lineage_is
        ∙ ap (λ (list : List Entry). first_truth ++ list) (append-nil (member_truth v.written row.range granted.last))
        ∙ ap
        (λ (n : ℕ).
        first_truth ++ log_material row.range (v.written n).marks (v.written n).sides granted.last.from (applied_entries (v.written n)))
        granted.here

    items_are : items_of (truths v row) ≡ items_of first_truth ++ items_of mine
    items_are = ap items_of truth_is ∙ flat_map-append items_in first_truth mine

    -- an unmarked entry that is applied is among all
    among_all : (e : Entry) → Contains bare e → Contains (unmarked_from w.marks granted.last.from w.entries) e
    among_all e stands =
        let at = unmarked_at w.marks from (drop from (applied_entries w)) e stands in
        let there = place_of (applied_entries w) from at.0 (from + at.0) e refl at.1 in
        let behind = behind_at w.entries from (from + at.0) e (omega arith) (front_at w.entries w.applied (from + at.0) e there).1 in
        unmarked_stands w.marks from (drop from w.entries) behind.0 e behind.1 (ap (is_marked w.marks) behind.2 ∙ at.2)

    -- what the master names is the first one's
    named_first : (x : Held) → Contains (named_items row.range granted.last.from w) x → Contains (items_of first_truth) x
    named_first x stands = in_lineage (NamedFit v.written row.range) (row_in v sound row has).receives.named x (rw granted.here stands)

    mine_from : (x : Held) → Contains (items_of mine) x → Contains (own (applied_entries w)) x ⊎ Contains (items_of first_truth) x
    mine_from x stands =
        let side : List Entry = flat_map (side_entries w.sides) (named row.range bare) in
        let all : List Entry = unmarked_from w.marks granted.last.from w.entries in
        let at = flat_from items_in mine x stands in
        let within = All-contains (IsIn row.range) (items_of mine) x (material_in row.range (side_entries w.sides) bare) stands in
        elim (Contains-append_cases (counting row.range bare) (counting row.range side) at.0 at.1) [
          | inl here ↦
              let kept = kept_stands (counts row.range) bare at.0 here in
              inl
              (flat_stands items_in (entries_from row.range from (applied_entries w)) at.0 x
              (stands_kept (counts row.range) (drop from (applied_entries w)) at.0
              (unmarked_stood w.marks from (drop from (applied_entries w)) at.0 kept.0) kept.1) at.2)
          | inr beside ↦
              inr
              (named_first x
              (filter_stands (is_in row.range) (items_of (flat_map (side_entries w.sides) (named row.range all))) x
              (flat_stands items_in (flat_map (side_entries w.sides) (named row.range all)) at.0 x
              (sides_into row.range (side_entries w.sides) bare all (λ e there joins. among_all e there) at.0
              (kept_stands (counts row.range) side at.0 beside).0) at.2) within))
        ]

    -- its own items are above the source's
    done : member_material v.written row.range granted.first ≡ first_truth
    done = (in_lineage (FirstIsDone v.written row.range) (row_done v sound row has)).all

    own_stands : (x : Held) → Contains (own (applied_entries w)) x → Contains (own w.entries) x
    own_stands = flat_among items_in (entries_from row.range from (applied_entries w)) (entries_from row.range from w.entries)
        (kept_among (counts row.range) (drop from (applied_entries w)) (drop from w.entries) (first_stand from w.applied w.entries))

    above : (x y : Held) → Contains (own (applied_entries w)) x → Contains (items_of first_truth) y → y.version < x.version
    above x y its there = All-contains (λ other. other.version < x.version) (items_of (member_material v.written row.range granted.first)) y
        (All-contains (λ own. All (λ other. other.version < own.version) (items_of (member_material v.written row.range granted.first)))
        (own w.entries) x target.above (own_stands x its)) (rw done there)

    truth : IsTruth v.base row.range (truths v row) v.journal
    truth = row_true v sound row has

    beside : IsBeside row.range (items_of first_truth) (scan_items first_truth) (own (applied_entries w)) (items_of mine)
    beside = record {
      first = scan_newest first_truth;
      scanned = newest_scanned first_truth;
      has_own = own_counts v row master sound has lives serves from;
      from = mine_from;
      above = above;
      plain = rw items_are at truth.plain;
    }

    of_two : Knows → Leaves
    of_two knows = found_leaves row.range (items_of first_truth) (scan_items first_truth) (own (applied_entries w)) (items_of mine)
        (copied_items (v.handovers master row.tablet).role (v.pullings master row.tablet) w.sides) (v.records master)
        (HasArrived (v.handovers master row.tablet).role (v.pullings master row.tablet) (scan_items first_truth)) beside target.received
        (sound.records.ordered master) table key inside (λ none x stands of. knows none (scan_items first_truth) x stands of)
        ∙ ap (λ (list : List Held). live list table key) (sym items_are)

  -- ---- so it is of a master that serves

  pub record_found : Knows → record_of (found table key (v.records master)) ≡ live (items_of (truths v row)) table key
  record_found knows =
      ⊎_elim of_only (λ (granted : WasGranted (lineage_of row.phase) master (v.handovers master row.tablet).role). of_two granted knows)
      (serves_as (v.handovers master row.tablet) row.term (v.written master).applied serves row.phase master (row_formed v sound row has)
      (role_fits v sound row has master (inl lives))).1
