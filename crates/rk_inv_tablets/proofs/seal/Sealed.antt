-- A lane stays sound when a target that has pulled all seals its side lists: its master cuts them into side segments, which have what
-- the target copied, and the target joins.
use Rattle.std.proofs.Common.{◌≡◌, ℕ, ◌+◌, ◌-◌, ◌<◌, true, List, [], ◌∷◌, ◌++◌, fold, length, refl, sym, ap, ◌∙◌, subst, inl, arith}
use Rattle.std.proofs.Common.{append_assoc, length-append, nat_le, nat_lt, slice_index_or, All, Contains, flat_map, le-ltb, append-nil}
use Rattle.rk_inv_base.proofs.Words.{cond-false, cond_both, get_or_append_left, get_or_push, length-map, flat_map-append, All-contains}
use Rattle.rk_inv_base.proofs.Words.{range_with_len, hash_of, spelled_of, Held, Member, spelled_all, Entry, FIRST_SIDE_SEGMENT, is_in, Role}
use Rattle.rk_inv_base.proofs.Words.{Row, items_in, items_of, Master, tablet_at, with_side_segment, with_tablet, as_entries, side_entries}
use Rattle.rk_inv_base.proofs.Words.{next_sides, with_pulling, sealed_sides, Pulling, Tablet, with_handover, World, master_at, tablet_in}
use Rattle.rk_inv_base.proofs.Words.{with_master, member_truth, IsItemWithin, Holds, bond_of, post_of, MembersFit, is_granted, View, view}
use Rattle.rk_inv_base.proofs.Words.{SoundView}
use Rattle.rk_inv_tablets.proofs.Words.{covered_by, IsIn, truth_in, IsSecond, joining_second, scanned, all_by, tablet_apart, tablet_here}
use Rattle.rk_inv_tablets.proofs.Words.{put_here, put_same, put2_same, view_master, MaySealThere, as_joining, as_sealed, sealed}
use Rattle.rk_inv_tablets.proofs.Words.{side_lists_sealed_in, sides_cut, with_side_items, with_sides, row_in, items_again}
use Rattle.rk_world.specs.SideLogs.{with_side_item}
use Rattle.rk_inv_tablets.proofs.seal.SidesCut.{view_sides_cut}
use Rattle.rk_inv_tablets.proofs.seal.SidesJoined.{HaveCopies, fits_joining, view_sides_joined}
use Rattle.rk_transfer.specs.declared.role.Role.TheVariants as roles

-- ---- lists of items

-- the items of all lists
abbrev all_of : List (List Held) → List Held
all_of lists = flat_map (λ items. items) lists

-- one more item goes to the end
placed_last : (lists : List (List Held)) (item : Held) → all_of (with_side_item lists item) ≡ all_of lists ++ item ∷ []
placed_last [] item = refl
placed_last (items ∷ []) item = grind (arith, cond_both, nat_le, spelled_of, append-nil)
placed_last (items ∷ next ∷ more) item = grind (arith, append_assoc, (placed_last (next ∷ more) item))

-- so all of a worker's are there
cut_all : (lists : List (List Held)) (items : List Held) → all_of (fold with_side_item lists items) ≡ all_of lists ++ items
cut_all lists [] = sym (append-nil (all_of lists))
cut_all lists (item ∷ items) = grind (arith, placed_last, append_assoc, (cut_all (with_side_item lists item) items))

-- and of all workers
sealed_all : (sides : List (List Held)) → all_of (sealed_sides sides) ≡ all_of sides
sealed_all [] = refl
sealed_all (items ∷ sides) = grind (arith, flat_map-append, sealed_sides, cut_all, (sealed_all sides))

items_all : (lists : List (List Held)) → items_of (flat_map as_entries lists) ≡ all_of lists
items_all [] = refl
items_all (items ∷ lists) = grind (arith, flat_map-append, items_in, as_entries, items_again, (items_all lists))

-- the next side segments have these items
next_have : (sides lists : List (List Held)) (next : ℕ) → next ≡ FIRST_SIDE_SEGMENT + length sides → flat_map (side_entries (sides ++ lists)) (range_with_len next (length lists)) ≡ flat_map as_entries lists
next_have sides [] next is = refl
next_have sides (items ∷ lists) next is =
    let place : next - FIRST_SIDE_SEGMENT ≡ length sides = omega (arith, is) in
    let regrouped : (sides ++ items ∷ []) ++ lists ≡ sides ++ items ∷ lists = append_assoc sides (items ∷ []) lists in
    let later : next + 1 ≡ FIRST_SIDE_SEGMENT + length (sides ++ items ∷ []) = omega (arith, is, length-append sides (items ∷ [])) in
    let within : length sides < length (sides ++ items ∷ []) = omega (arith, length-append sides (items ∷ [])) in
    let here : slice_index_or (sides ++ items ∷ lists) (next - FIRST_SIDE_SEGMENT) [] ≡ items =
    ap (λ (all : List (List Held)). slice_index_or all (next - FIRST_SIDE_SEGMENT) []) (sym regrouped)
    ∙ ap (λ (n : ℕ). slice_index_or ((sides ++ items ∷ []) ++ lists) n []) place
    ∙ get_or_append_left (sides ++ items ∷ []) lists [] (length sides) within
    ∙ get_or_push sides items [] (length sides) refl in
    let first : side_entries (sides ++ items ∷ lists) next ≡ as_entries items =
    cond-false (nat_lt next FIRST_SIDE_SEGMENT) [] (as_entries (slice_index_or (sides ++ items ∷ lists) (next - FIRST_SIDE_SEGMENT) []))
    (le-ltb next FIRST_SIDE_SEGMENT (omega (arith, is)))
    ∙ ap as_entries here in
    let rest : flat_map (side_entries (sides ++ items ∷ lists)) (range_with_len (next + 1) (length lists)) ≡ flat_map as_entries lists =
    ap (λ (all : List (List Held)). flat_map (side_entries all) (range_with_len (next + 1) (length lists))) (sym regrouped)
    ∙ next_have (sides ++ items ∷ []) lists (next + 1) later in
    (λ i. first i ++ rest i)

-- ---- the view

module _ (v : View) (row : Row) (master : ℕ) (sound : SoundView v) (has_row : Contains v.rows row) (may : MaySealThere v master row.tablet) where
  abbrev pulling : Pulling
  pulling = v.pullings master row.tablet

  abbrev lists : List (List Held)
  lists = sealed_sides (v.pullings master row.tablet).sides

  abbrev next : ℕ
  next = FIRST_SIDE_SEGMENT + length (v.logs master).sides

  -- the target is the second of the row's two members
  second : IsSecond row.phase master row.term (v.handovers master row.tablet).term
  second =
      joining_second master row.term (v.handovers master row.tablet).term (v.written master).applied row.phase
      (row_in v sound row has_row).rows.formed
      (fits_joining (post_of row.phase master) row.term (v.handovers master row.tablet).term (v.written master).applied
      (subst (λ (role : Role). Holds (bond_of (post_of row.phase master) role) row.term (v.handovers master row.tablet).term (v.written master).applied) may.may.receiving
      ((row_in v sound row has_row).roles.fitting master (inl may.may.lives))))

  -- what it copied is the source's
  copied_in : (item : Held) → Contains (all_of pulling.sides) item → is_in row.range item ≡ true
  copied_in item at =
      let source : Member = second.source in
      let target : Member = second.target in
      let fit : MembersFit row v.written v.handovers v.pullings v.records v.handed (source ∷ target ∷ []) =
      subst (MembersFit row v.written v.handovers v.pullings v.records v.handed) second.lineage_is
      (row_in v sound row has_row).receives.target in
      let receiving : (v.handovers target.master row.tablet).role ≡ roles.Receiving =
      ap (λ (n : ℕ). (v.handovers n row.tablet).role) second.here ∙ may.may.receiving in
      let its = fit (ap is_granted receiving) in
      let same : all_of (v.pullings target.master row.tablet).sides ≡ all_of pulling.sides =
      ap (λ (n : ℕ). all_of (v.pullings n row.tablet).sides) second.here in
      let truth : List Entry = member_truth v.written row.range source in
      All-contains (IsIn row.range) (items_of truth) item (truth_in v.written row.range source)
      (scanned truth item
      (its.received.within item
      (rw (receiving, same) at)))

  -- so it lies in rows
  within : All (IsItemWithin v.rows) (all_of lists)
  within =
      rw (sealed_all pulling.sides) (all_by _ (all_of pulling.sides)
      (λ item at. by_table item (copied_in item at)))
    where
      by_table : (item : Held) → is_in row.range item ≡ true → IsItemWithin v.rows item
      by_table item inside = covered_by v.rows row item.table (hash_of item.key) has_row inside

  -- the side segments that are cut have it
  copies : HaveCopies ((sides_cut v master lists).written master) pulling (range_with_len next (length lists))
  copies = grind (arith, length-map, spelled_all, as_entries, put_here, with_side_items, items_of, next_have, items_all, sealed_all)

  pub view_sealed : SoundView (sealed v master row.tablet)
  view_sealed = search (view_sides_joined, sides_cut, view_sides_cut, within, copies)

-- ---- the world

-- a master that cuts side segments, one after the other
cut_folded : (m : Master) (lists : List (List Held)) → fold with_side_segment m lists ≡ record m { log = with_sides m.log lists; sides = m.sides ++ lists }
cut_folded m [] = grind (arith, append-nil, m.log, m.log.sides, m.sides)
cut_folded m (items ∷ lists) =
    grind (arith, append_assoc, (cut_folded (with_side_segment m items) lists))

pub sealed_is : (w : World) (master number : ℕ) → view (side_lists_sealed_in w master number) ≡ sealed (view w) master number
sealed_is w master number =
    let m : Master = master_at w master in
    let kept : Tablet = tablet_in w master number in
    let lists : List (List Held) = sealed_sides kept.pulling.sides in
    let numbers : List ℕ = next_sides m (length lists) in
    let cut : Master = record m { log = with_sides m.log lists; sides = m.sides ++ lists } in
    let pulled : Tablet = with_pulling kept (as_sealed numbers kept.pulling) in
    let joined : Tablet = with_handover pulled (as_joining kept.handover) in
    let begun : Master = with_tablet (fold with_side_segment m lists) number pulled in
    let same : with_tablet begun number (with_handover (tablet_at begun number) (as_joining kept.handover)) ≡ with_tablet (with_tablet cut number pulled) number joined =
    ap (λ (t : Tablet). with_tablet begun number (with_handover t (as_joining kept.handover))) (tablet_here (fold with_side_segment m lists) number pulled)
    ∙ ap (λ (now : Master). with_tablet (with_tablet now number pulled) number joined) (cut_folded m lists) in
    ap (λ (now : Master). view (with_master w master now)) same
    ∙ view_master w master (with_tablet (with_tablet cut number pulled) number joined) number joined refl
    (tablet_here (with_tablet cut number pulled) number joined)
    (λ r apart. tablet_apart (with_tablet cut number pulled) number joined r apart ∙ tablet_apart cut number pulled r apart)
    ∙ (λ i. record (sealed (view w) master number) {
      records = put_same (view w).records master i;
      calls = put_same (view w).calls master i;
      completions = put2_same (view w).completions master number i;
      gathers = put2_same (view w).gathers master number i;
      merged = put2_same (view w).merged master number i;
    })
