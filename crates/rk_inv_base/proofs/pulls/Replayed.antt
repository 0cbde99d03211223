-- A view stays sound when a target replays an item of its source: the item goes into the records, if it is newer than what is there,
-- and to the items that the target copied.
use Rattle.rk_inv_base.proofs.Words.{◌≡◌, ℕ, ◌<◌, true, false, List, [], ◌∷◌, refl, sym, ap, ◌∙◌, subst, ⊎_elim, arith, IfSome, All}
use Rattle.rk_inv_base.proofs.Words.{Contains, false≢true, All-contains, IfSome_then, hash_of, get, meets, Held, Member, Range, order_after}
use Rattle.rk_inv_base.proofs.Words.{is_in, with_newer, IsInScanOrder, Handover, Role, lineage_of, Rebuilding, Row, items_of, first_of}
use Rattle.rk_inv_base.proofs.Words.{is_member, unmarked_from, Master, tablet_at, side_entries, item_replayed, with_pulled, with_pulling}
use Rattle.rk_inv_base.proofs.Words.{is_absent, is_receiving, Pulling, Tablet, World, master_at, applied_entries, member_material}
use Rattle.rk_inv_base.proofs.Words.{member_truth, IsItemWithin, source_items, Holds, bond_of, post_of, IsBare, wanted_place, HasItems}
use Rattle.rk_inv_base.proofs.Words.{has_all_items, View, view, SoundView, is_granted, MayReplay, item_replayed_in, replayed}
use Rattle.rk_transfer.specs.declared.role.Role.TheVariants as roles
use Rattle.rk_world.specs.Master.{with_item}
use Rattle.rk_inv_base.proofs.Base.{in_one_row, key_outside, same_number, covered_by, all_by, tablet_apart, tablet_here, put_by, put_same}
use Rattle.rk_inv_base.proofs.Base.{put2_by, put2_same, last_member, IsBareOf, IsTargetIn, not_begun, view_master, row_in}
use Rattle.rk_inv_base.proofs.pulls.ItemsPulled.{bare_beside, table_beside, target_replays, beside_same}
use Rattle.rk_inv_base.proofs.views.WithRecords.{IsTargetOf, RebuildsWith, view_with_kept}
use Rattle.rk_inv_base.proofs.calls.Records.{material_in, newer_cases, scanned_from}
use Rattle.rk_inv_base.proofs.logs.InRange.{rebuilder_same, scan_in, target_same, truth_in}

-- ---- what a post says of a master that pulls

-- and if it is to rebuild the tablet, it has not begun
pub receiving_behind : (lineage : List Member) (master term own applied : ℕ) → Holds (bond_of (post_of (Rebuilding lineage master) master) roles.Receiving) term own applied → own < term
receiving_behind lineage master term own applied holds = not_begun lineage master roles.Receiving term own applied refl holds

-- what waits is not absent, and does not pull
pub waits_apart : (role : Role) (P Q : ℕ → Type 0) → (is_absent role ≡ false → is_receiving role ≡ false → (from : ℕ) → P from → Q from) → IfSome (wanted_place role) P → IfSome (wanted_place role) Q
waits_apart (roles.Wanting from) P Q then holds = then refl refl from holds
waits_apart role P Q then holds = tt

-- ---- the view

module _ (v : View) (row : Row) (source target : Member) (worker : ℕ) (item : Held) (sound : SoundView v) (may : MayReplay v row source target worker item) where
  abbrev now : View
  now = replayed v target.master row.tablet worker item

  -- what the target has of the tablet
  abbrev kept : Handover
  kept = v.handovers target.master row.tablet

  -- a statement of the records of a master holds of those with the item and of the rest
  by_records : (P : List Held → Type 0) (q : ℕ) → (q ≡ target.master → P (with_newer item (v.records q))) → ((q ≡ target.master → ⊥) → P (v.records q)) → P (now.records q)
  by_records = put_by v.records target.master (with_newer item)

  -- the item is of the row, and of no other one
  inside : is_in row.range item ≡ true
  inside =
      All-contains (λ x. is_in row.range x ≡ true) (items_of (member_truth v.written row.range source)) item
      (material_in row.range (side_entries (v.written source.master).sides)
      (unmarked_from (v.written source.master).marks source.from (applied_entries (v.written source.master))))
      (scanned_from (member_truth v.written row.range source) item may.of_source)

  outside : (other : Row) → Contains v.rows other → (other.tablet ≡ row.tablet → ⊥) → is_in other.range item ≡ false
  outside other has apart =
      in_one_row v.rows row other item.table item.key sound.rows.apart may.pulling.has_row has apart inside

  same_row : (other : Row) → Contains v.rows other → other.tablet ≡ row.tablet → other ≡ row
  same_row other has its = same_number v.rows other row sound.rows.apart has may.pulling.has_row its

  -- the role of the target fits its post
  fits : Holds (bond_of (post_of row.phase target.master) roles.Receiving) row.term kept.term (v.written target.master).applied
  fits = grind (arith, bond_of, post_of, row_in)

  -- it keeps the row's range
  ranged : kept.range ≡ row.range
  ranged = grind (arith, row_in, is_member, last_member)

  -- ---- cover

  within : (q : ℕ) → All (IsItemWithin v.rows) (now.records q)
  within q =
      by_records (All (IsItemWithin v.rows)) q
      (λ at.
      all_by (IsItemWithin v.rows) (with_newer item (v.records q))
      (λ x stands.
      ⊎_elim (λ (is : item ≡ x). subst (IsItemWithin v.rows) is (covered_by v.rows row item.table (hash_of item.key) may.pulling.has_row inside))
      (λ (old : Contains (v.records q) x). All-contains (IsItemWithin v.rows) (v.records q) x (sound.cover.items q) old)
      (newer_cases item (v.records q) x stands)))
      (λ apart. sound.cover.items q)

  -- ---- tables

  -- whose records have all of a row, is not the target of this one
  lacks : has_all_items (post_of row.phase target.master) kept row.term ≡ false
  lacks = grind (arith, post_of, fits)

  has_other : (other : Row) → Contains v.rows other → (q : ℕ) → q ≡ target.master → has_all_items (post_of other.phase q) (v.handovers q other.tablet) other.term ≡ true → other.tablet ≡ row.tablet → ⊥
  has_other other has q at all its = grind (arith, same_row, has_all_items, post_of, false≢true, lacks)

  items : (q : ℕ) → v.live q ≡ true → (other : Row) → Contains v.rows other → has_all_items (post_of other.phase q) (v.handovers q other.tablet) other.term ≡ true → HasItems other v.written (v.records q) → HasItems other v.written (now.records q)
  items q lives other has all old =
      by_records (HasItems other v.written) q
      (λ at.
      IfSome_then (first_of (lineage_of other.phase)) old
      (λ member table.
      table_beside other.range item (v.records q) (outside other has (has_other other has q at all))
      (member_truth v.written other.range member) table))
      (λ apart. old)

  -- ---- targets

  -- a target that pulls so, with these records
  abbrev IsTargetWith : Row → Member → Member → Pulling → List Held → Type 0
  IsTargetWith other first last pulling records =
      IsTargetIn v.written other first last (v.handovers last.master other.tablet) pulling (get v.handed other.tablet) records

  module _ (other : Row) (has : Contains v.rows other) (first last : Member) where
    -- what a target of a row pulled, and its records
    abbrev was : Pulling
    was = v.pullings last.master other.tablet

    abbrev table : List Held
    table = v.records last.master

    -- a target of this row pulls from the source of the item
    here : other.tablet ≡ row.tablet → lineage_of other.phase ≡ first ∷ last ∷ [] → Contains (source_items v other first) item × ((v.handovers last.master other.tablet).role ≡ roles.Receiving)
    here its is =
        let same : other ≡ row = same_row other has its in
        let members : source ∷ target ∷ [] ≡ first ∷ last ∷ [] =
        sym may.pulling.lineage_is ∙ ap (λ (r : Row). lineage_of r.phase) (sym same) ∙ is in
        let source_is : source ≡ first = cc in
        let target_is : target ≡ last = cc in (
          rw same (subst (λ (m : Member). Contains (source_items v row m) item) source_is may.of_source),
          rw same (subst (λ (m : Member). (v.handovers m.master row.tablet).role ≡ roles.Receiving) target_is may.pulling.receiving),
        )

    -- it goes on, and so does a target of another row
    replays : other.tablet ≡ row.tablet → lineage_of other.phase ≡ first ∷ last ∷ [] → IsTargetWith other first last was table → IsTargetWith other first last (with_pulled was worker item) (with_newer item table)
    replays its is old =
        let own = here its is in
        target_replays other.range first.master (member_truth v.written other.range first) (member_material v.written other.range first)
        last.from (v.written last.master) (v.handovers last.master other.tablet) (get v.handed other.tablet) table was item
        (sound.records.ordered last.master) worker may.worker_is own.1 own.0 old

    beside : (other.tablet ≡ row.tablet → ⊥) → IsTargetWith other first last was table → IsTargetWith other first last was (with_newer item table)
    beside apart old =
        target_same other.range table (with_newer item table) (beside_same other.range item table (outside other has apart)) _ _ _ _ _ _ _ _
        (scan_in other.range (member_truth v.written other.range first) (truth_in v.written other.range first)) old

  targets : (other : Row) → Contains v.rows other → (first last : Member) → lineage_of other.phase ≡ first ∷ last ∷ [] → is_granted (v.handovers last.master other.tablet).role ≡ true → IsTargetOf v v other first last → IsTargetOf v now other first last
  targets other has first last is granted old =
      put2_by v.pullings target.master row.tablet (λ pulling. with_pulled pulling worker item)
      (λ (pulling : Pulling). IsTargetWith other first last pulling (now.records last.master)) last.master other.tablet
      (λ at its.
      by_records (IsTargetWith other first last (with_pulled (v.pullings last.master other.tablet) worker item)) last.master
      (λ _. replays other has first last its is old) (λ other_one. absurd (other_one at)))
      (λ apart.
      by_records (IsTargetWith other first last (v.pullings last.master other.tablet)) last.master
      (λ at. beside other has first last (apart at) old) (λ _. old))

  -- ---- masters that made ready

  bare_here : (r : ℕ) → IsBareOf (v.handovers target.master r) (v.written target.master) (v.records target.master) → IsBareOf (v.handovers target.master r) (v.written target.master) (with_newer item (v.records target.master))
  bare_here r =
      let ready : Handover = v.handovers target.master r in
      waits_apart ready.role (λ from. IsBare ready.range from (v.written target.master) (v.records target.master))
      (λ from. IsBare ready.range from (v.written target.master) (with_newer item (v.records target.master)))
      (λ present idle from bare.
      let apart : r ≡ row.tablet → ⊥ = λ its.
      false≢true (sym idle ∙ ap (λ (n : ℕ). is_receiving (v.handovers target.master n).role) its ∙ ap is_receiving may.pulling.receiving) in
      let no_meet : meets ready.range row.range ≡ false =
      subst (λ (range : Range). meets ready.range range ≡ false) ranged
      (sound.terms.apart target.master r row.tablet apart present (ap is_absent may.pulling.receiving)) in
      bare_beside ready.range item (v.records target.master)
      (key_outside ready.range row.range item.table item.key no_meet inside) from (v.written target.master) bare)

  bare_after : (q r : ℕ) → IsBareOf (v.handovers q r) (v.written q) (v.records q) → IsBareOf (v.handovers q r) (v.written q) (now.records q)
  bare_after q r bare = grind (arith, by_records, with_newer, bare_here)

  -- ---- rebuilds

  -- the target does not rebuild the row
  not_rebuilt : (other : Row) → Contains v.rows other → (lineage : List Member) (to : ℕ) → other.phase ≡ Rebuilding lineage to → to ≡ target.master → (v.handovers to other.tablet).term ≡ other.term → other.tablet ≡ row.tablet → ⊥
  not_rebuilt other has lineage to is at term its = grind (arith, same_row, receiving_behind, bond_of, post_of, fits)

  pub view_replayed : SoundView now
  view_replayed = view_with_kept v now.records now.pullings v.gathers sound (record {
    within = within;
    ordered = λ q. by_records IsInScanOrder q (λ at. order_after item (v.records q) (sound.records.ordered q)) (λ apart. sound.records.ordered q);
    items = items;
    targets = targets;
    bare = bare_after;
    rebuilders = λ other has lineage to is term old.
        by_records (RebuildsWith v other lineage to) to
        (λ at.
        rebuilder_same v other lineage to (v.records to) (with_newer item (v.records to))
        (beside_same other.range item (v.records to) (outside other has (not_rebuilt other has lineage to is at term))) old)
        (λ apart. old);
  })

-- ---- the world

-- what is seen of a world in which an item was replayed
pub view_item : (w : World) (master number worker : ℕ) (item : Held) → view (item_replayed_in w master number worker item) ≡ replayed (view w) master number worker item
view_item w master number worker item =
    let m : Master = master_at w master in
    let tablet : Tablet = with_pulling (tablet_at m number) (with_pulled (tablet_at m number).pulling worker item) in
    view_master w master (item_replayed number worker m item) number tablet refl (tablet_here (with_item m item) number tablet)
    (tablet_apart (with_item m item) number tablet)
    ∙ (λ i. record (replayed (view w) master number worker item) {
      logs = put_same (view w).logs master i;
      written = put_same (view w).written master i;
      calls = put_same (view w).calls master i;
      handovers = put2_same (view w).handovers master number i;
      completions = put2_same (view w).completions master number i;
      gathers = put2_same (view w).gathers master number i;
      merged = put2_same (view w).merged master number i;
    })
