-- The counter of a master that rebuilt a tablet is above all that counts of its log once the rebuild is taken.
use Rattle.std.proofs.Common.{◌≡◌, ℕ, ◌≤◌, ◌<◌, Bool, true, false, cond, eqb, List, [], ◌∷◌, ◌++◌, refl, sym, ap, subst, ◌∙◌, ⊎_elim, arith}
use Rattle.std.proofs.Common.{map, not, Contains, flat_map}
use Rattle.rk_inv_base.proofs.Words.{cond-true, Contains-append_cases, Contains-append_left, Contains-append_right, Any-from_list_any}
use Rattle.rk_inv_base.proofs.Words.{Ended, Held, Member, Entry, Owned, Row, newest_is, behind_stands, first_stands, none_stands}
use Rattle.rk_inv_base.proofs.Words.{stands_cases, newest_items_are, newest_items, items_of, Gather, by_member, is_of_lineage, material_by}
use Rattle.rk_inv_base.proofs.Words.{as_entries, copies_of, floor_by, floor_of, has_version, merge, member_material, member_truth, Merged}
use Rattle.rk_inv_base.proofs.Words.{IsNext, MayTakeRebuilt, row_at, closing_carried, View, rests, truths, SoundView}
use Rattle.rk_inv_rows.proofs.Words.{member as member_at, floor_above, floor_rises, filter_from, marks_taken, floor_within, one_within}
use Rattle.rk_entry.specs.declared.entry.Entry.TheVariants as entries
use Rattle.rk_inv_base.proofs.views.Among.{mapped, to_flat}
use Rattle.rk_inv_rows.proofs.lineage.RebuiltMaterial.{merged_is, now_done, own_done, truth_from}

-- all that was gathered
abbrev all_of : Gather → List Entry → List Entry
all_of gather own = flat_map (λ list. list) (by_member gather own)

-- the own entries are of all that was gathered
pub own_list : (gather : Gather) (own : List Entry) → Contains (by_member gather own) own
own_list gather own = go (is_of_lineage gather) refl
  where
    go : (b : Bool) → is_of_lineage gather ≡ b → Contains (map (λ (member : Member). material_by gather own member.master) gather.lineage ++ cond b [] (own ∷ [])) own
    go false is =
        Contains-append_right (map (λ (member : Member). material_by gather own member.master) gather.lineage) (own ∷ []) own
        (first_stands own [])
    go true is =
        let found = Any-from_list_any (λ (member : Member). eqb member.master gather.own) gather.lineage is in
        let stands : Contains gather.lineage found.1 = (found.0, found.2, found.3) in
        Contains-append_left (map (λ (member : Member). material_by gather own member.master) gather.lineage) [] own
        (subst (Contains (map (λ (member : Member). material_by gather own member.master) gather.lineage))
        (cond-true (eqb found.1.master gather.own) own _ found.4)
        (mapped (λ (member : Member). material_by gather own member.master) gather.lineage found.1 stands))

-- a copy is one of the items of all
copy_stands : (own all : List Held) (item : Held) → Contains (copies_of own all) item → Contains all item
copy_stands own all item stands =
    let newest : Contains (newest_items all) item = filter_from (λ x. not (has_version own x)) (newest_items all) item stands in
    (newest_is all item.table item.key item (((newest_items_are all).newest item).0 newest)).stands

-- entries that are items have the versions of these
copies_within : (bound : ℕ) (items : List Held) (entry : Entry) → 1 ≤ bound → ((item : Held) → Contains items item → item.version < bound) → Contains (as_entries items) entry → floor_by 1 entry ≤ bound
copies_within bound [] entry least each stands = absurd (none_stands entry stands)
copies_within bound (item ∷ items) entry least each stands =
    ⊎_elim
    (λ (is : entries.Held item ≡ entry).
    let less = each item (first_stands item items) in
    rw (← is) (omega (arith, less, least)))
    (λ (behind : Contains (as_entries items) entry).
    copies_within bound items entry least (λ x there. each x (behind_stands item items x there)) behind)
    (stands_cases (entries.Held item) (as_entries items) entry stands)

module _ (v : View) (row : Row) (lineage : List Member) (to place : ℕ) (ends : List Ended) (sound : SoundView v) (some : row.range.first ≤ row.range.last) (may : MayTakeRebuilt v row lineage to place ends) where
  abbrev now : View
  now = marks_taken v row.tablet row.term

  abbrev own_member : Member
  own_member = member_at to place

  abbrev own : List Entry
  own = member_material v.written row.range own_member

  abbrev gather : Gather
  gather = v.gathers to row.tablet

  abbrev all : List Entry
  all = all_of gather own

  abbrev counter : ℕ
  counter = (v.handovers to row.tablet).counter

  counter_is : counter ≡ floor_of all
  counter_is =
      let is = merged_is v row lineage to place ends sound some may in is.counter ∙ ap (λ (m : Merged). m.floor) is.merged_is

  least : 1 ≤ floor_of all
  least = floor_rises 1 all

  own_within : (entry : Entry) → Contains own entry → floor_by 1 entry ≤ floor_of all
  own_within entry stands =
      one_within 1 all entry (omega arith) (to_flat (λ list. list) (by_member gather own) own entry (own_list gather own) stands)

  piece_within : (entry : Entry) → Contains (as_entries (merge own (by_member gather own)).copies ++ closing_carried (v.handovers to row.tablet) (merge own (by_member gather own)) ∷ []) entry → floor_by 1 entry ≤ floor_of all
  piece_within entry stands =
      ⊎_elim
      (λ (copy : Contains (as_entries (copies_of (items_of own) (items_of all))) entry).
      copies_within (floor_of all) (copies_of (items_of own) (items_of all)) entry least
      (λ item there. floor_above all item (copy_stands (items_of own) (items_of all) item there)) copy)
      (λ (last : Contains (closing_carried (v.handovers to row.tablet) (merge own (by_member gather own)) ∷ []) entry).
      ⊎_elim
      (λ (is : closing_carried (v.handovers to row.tablet) (merge own (by_member gather own)) ≡ entry).
      let low = least in rw (← is) (omega (arith, low)))
      (λ (none : Contains [] entry). absurd (none_stands entry none))
      (stands_cases (closing_carried (v.handovers to row.tablet) (merge own (by_member gather own))) [] entry last))
      (Contains-append_cases (as_entries (copies_of (items_of own) (items_of all)))
      (closing_carried (v.handovers to row.tablet) (merge own (by_member gather own)) ∷ []) entry stands)

  truth_within : (entry : Entry) → Contains (member_truth now.written row.range own_member) entry → floor_by 1 entry ≤ floor_of all
  truth_within entry stands =
      let is = merged_is v row lineage to place ends sound some may in
      let done = own_done v row lineage to place ends sound some may in
      ⊎_elim
      (λ (mine : Contains (member_truth v.written row.range own_member) entry).
      own_within entry (subst (λ (l : List Entry). Contains l entry) (sym done.all) mine))
      (λ (inside : Contains (as_entries is.merged.copies ++ closing_carried (v.handovers to row.tablet) is.merged ∷ []) entry).
      piece_within entry
      (subst (λ (m : Merged). Contains (as_entries m.copies ++ closing_carried (v.handovers to row.tablet) m ∷ []) entry) is.merged_is inside))
      (truth_from v row lineage to place ends sound some may entry stands)

  -- so it is next behind what counts now
  pub next_now : IsNext (truths now (row_at row row.term (Owned to place)) ++ rests now (row_at row row.term (Owned to place))) counter
  next_now =
      let done = now_done v row lineage to place ends sound some may in
      let truth : List Entry = truths now (row_at row row.term (Owned to place)) in
      rw (done.rest, counter_is) (floor_within (floor_of all) (truth ++ []) least
      (λ entry stands.
      ⊎_elim
      (λ (first : Contains truth entry).
      ⊎_elim (λ (mine : Contains (member_truth now.written row.range own_member) entry). truth_within entry mine)
      (λ (none : Contains [] entry). absurd (none_stands entry none))
      (Contains-append_cases (member_truth now.written row.range own_member) [] entry first))
      (λ (none : Contains [] entry). absurd (none_stands entry none))
      (Contains-append_cases truth [] entry stands)))
