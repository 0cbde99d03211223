-- A view stays sound when a master that is frozen at a tablet, and not of its row's lineage, drops the items of the tablet's range.
use Rattle.rk_inv_base.proofs.Words.{◌≡◌, ℕ, true, false, not, List, [], ◌∷◌, refl, sym, ap, ◌∙◌, subst, inl, arith, All, Contains, eq-eqb}
use Rattle.rk_inv_base.proofs.Words.{false≢true, or_left, or_right, All-filter, IfSome_then, get, meets, Held, Member, Range, order_without}
use Rattle.rk_inv_base.proofs.Words.{is_in, without, IsInScanOrder, Handover, Role, lineage_of, Phase, Rebuilding, Row, first_of, is_member}
use Rattle.rk_inv_base.proofs.Words.{is_absent, member_truth, IsItemWithin, MayRelease, Post, post_of, bond_of, Holds, IsBare, is_granted}
use Rattle.rk_inv_base.proofs.Words.{wanted_place, RoleFits, HasItems, has_all_items, View, SoundView, is_steady, items_dropped}
use Rattle.rk_transfer.specs.declared.role.Role.TheVariants as roles
use Rattle.rk_inv_base.proofs.Base.{put_by, same_number, IsTargetIn, rebuilding_behind, row_in, inside_member}
use Rattle.rk_inv_base.proofs.logs.InRange.{none_left, scan_in, truth_in, dropped_same, rebuilder_same, table_same, target_same}
use Rattle.rk_inv_base.proofs.views.WithRecords.{RebuildsWith, view_with_kept}

-- ---- who has all items of a tablet

pub has_all_member : (phase : Phase) (master term : ℕ) (handover : Handover) → has_all_items (post_of phase master) handover term ≡ true → is_member (lineage_of phase) master ≡ true
has_all_member phase master term handover has = grind (arith, inside_member, post_of)

-- none of them is absent
pub absent_has_none : (post : Post) (handover : Handover) (term applied : ℕ) → has_all_items post handover term ≡ true → Holds (bond_of post roles.Absent) term handover.term applied → ⊥
absent_has_none post handover term applied has holds = grind arith

pub not_absent : (role : Role) → (role ≡ roles.Absent → ⊥) → is_absent role ≡ false
not_absent roles.Absent none = absurd (none refl)
not_absent role none = refl

module _ (v : View) (row : Row) (master : ℕ) (sound : SoundView v) (may : MayRelease v row master) where
  abbrev gone : Range
  gone = (v.handovers master row.tablet).range

  abbrev pub now : View
  now = items_dropped v master gone

  -- what holds of the records of a master holds of what is left of them
  by : (P : List Held → Type 0) (q : ℕ) → (q ≡ master → P (v.records q) → P (without gone (v.records q))) → P (v.records q) → P (now.records q)
  by P q gives was = put_by v.records master (λ items. without gone items) P q (λ at. gives at was) (λ apart. was)

  -- a tablet that the master has beside this one, and that it is not absent from, has none of the range
  apart : (number : ℕ) → (number ≡ row.tablet → ⊥) → is_absent (v.handovers master number).role ≡ false → meets gone (v.handovers master number).range ≡ false
  apart number other there = grind (arith, is_absent)

  -- a row's range is kept by its members, and has none of what is dropped if the row is another one
  outside : (x : Row) → Contains v.rows x → (q : ℕ) → q ≡ master → (x.tablet ≡ row.tablet → ⊥) → is_absent (v.handovers q x.tablet).role ≡ false → is_member (lineage_of x.phase) q ≡ true → meets gone x.range ≡ false
  outside x has q at other there member = grind (arith, row_in, meets, apart, is_absent)

  -- the role and the term of the master fit each row
  fits : (x : Row) → Contains v.rows x → (q : ℕ) → q ≡ master → RoleFits x q (v.handovers q x.tablet) (v.written q).applied
  fits x has q at =
      (row_in v sound x has).roles.fitting q (inl (ap v.live at ∙ may.lives))

  -- ---- records of a master that has all of a tablet

  items_still : (x : Row) → Contains v.rows x → (q : ℕ) → q ≡ master → has_all_items (post_of x.phase q) (v.handovers q x.tablet) x.term ≡ true → HasItems x v.written (v.records q) → HasItems x v.written (without gone (v.records q))
  items_still x has q at all was =
      let member : is_member (lineage_of x.phase) q ≡ true = has_all_member x.phase q x.term (v.handovers q x.tablet) all in
      let there : is_absent (v.handovers q x.tablet).role ≡ false =
      not_absent (v.handovers q x.tablet).role
      (λ absent.
      absent_has_none (post_of x.phase q) (v.handovers q x.tablet) x.term (v.written q).applied all
      (subst (λ (role : Role). Holds (bond_of (post_of x.phase q) role) x.term (v.handovers q x.tablet).term (v.written q).applied) absent
      (fits x has q at))) in
      let other : x.tablet ≡ row.tablet → ⊥ = λ its.
      false≢true
      (sym may.outside ∙ ap (λ (r : Row). is_member (lineage_of r.phase) master) (sym (same_number v.rows x row sound.rows.apart has may.has_row its))
      ∙ ap (is_member (lineage_of x.phase)) (sym at) ∙ member) in
      let none : meets gone x.range ≡ false = outside x has q at other there member in
      IfSome_then (first_of (lineage_of x.phase)) was
      (λ found.
      table_same x.range (v.records q) (without gone (v.records q)) (dropped_same gone x.range none (v.records q))
      (member_truth v.written x.range found))

  -- ---- targets

  -- a target of a row, with these records
  abbrev IsTargetWith : Row → Member → Member → List Held → Type 0
  IsTargetWith x source target items =
      IsTargetIn v.written x source target (v.handovers target.master x.tablet) (v.pullings target.master x.tablet) (get v.handed x.tablet)
      items

  -- a tablet that the master was granted is another one
  target_apart : (x : Row) → Contains v.rows x → (source target : Member) → lineage_of x.phase ≡ source ∷ target ∷ [] → target.master ≡ master → is_granted (v.handovers target.master x.tablet).role ≡ true → meets gone x.range ≡ false
  target_apart x has source target two at granted =
      grind (arith, false≢true, is_granted, is_member, lineage_of, or_right, or_left, eq-eqb, outside)

  -- ---- masters that rebuild

  -- a tablet that the master rebuilds is another one
  rebuilder_apart : (x : Row) → Contains v.rows x → (lineage : List Member) (to : ℕ) → x.phase ≡ Rebuilding lineage to → to ≡ master → (v.handovers to x.tablet).term ≡ x.term → (v.handovers to x.tablet).range ≡ x.range → meets gone x.range ≡ false
  rebuilder_apart x has lineage to is at term range =
      let handover : Handover = v.handovers to x.tablet in
      let rebuilds : Holds (bond_of (post_of (Rebuilding lineage to) to) handover.role) x.term handover.term (v.written to).applied =
      subst (λ (phase : Phase). Holds (bond_of (post_of phase to) handover.role) x.term handover.term (v.written to).applied) is
      (fits x has to at) in
      let never : (role : Role) → is_steady role ≡ true → handover.role ≡ role → ⊥ = λ role steady same.
      omega (
        arith,
        term,
        rebuilding_behind lineage to handover.role x.term handover.term (v.written to).applied (ap is_steady same ∙ steady) rebuilds,
      ) in
      let other : x.tablet ≡ row.tablet → ⊥ = λ its.
      never roles.Frozen refl
      (ap (λ (n : ℕ). (v.handovers n x.tablet).role) at ∙ ap (λ (n : ℕ). (v.handovers master n).role) its ∙ may.frozen) in
      ap (meets gone) (sym range) ∙ ap (λ (n : ℕ). meets gone (v.handovers n x.tablet).range) at
      ∙ apart x.tablet other
      (ap (λ (n : ℕ). is_absent (v.handovers n x.tablet).role) (sym at) ∙ not_absent handover.role (never roles.Absent refl))

  pub view_dropped : SoundView now
  view_dropped = view_with_kept v now.records v.pullings v.gathers sound (record {
    within = λ q.
        by (All (IsItemWithin v.rows)) q (λ at. All-filter (λ item. not (is_in gone item)) (IsItemWithin v.rows) (v.records q)) (sound.cover.items q);
    ordered = λ q. by IsInScanOrder q (λ at. order_without gone (v.records q)) (sound.records.ordered q);
    items = λ q lives x has all. by (HasItems x v.written) q (λ at. items_still x has q at all);
    targets = λ x has source target is granted.
        by (IsTargetWith x source target) target.master
        (λ at.
        target_same x.range _ _ (dropped_same gone x.range (target_apart x has source target is at granted) (v.records target.master))
        _ _ _ _ _ _ _ _ (scan_in x.range (member_truth v.written x.range source) (truth_in v.written x.range source)));
    bare = λ q r was.
        IfSome_then (wanted_place (v.handovers q r).role) was
        (λ from.
        by (IsBare (v.handovers q r).range from (v.written q)) q
        (λ at bare. record {
          placed = bare.placed;
          nothing = bare.nothing;
          empty = none_left (is_in (v.handovers q r).range) (λ item. not (is_in gone item)) (v.records q) bare.empty;
        }));
    rebuilders = λ x has lineage to is term was.
        by (RebuildsWith v x lineage to) to
        (λ at.
        rebuilder_same v x lineage to _ _ (dropped_same gone x.range (rebuilder_apart x has lineage to is at term was.range_is) (v.records to)))
        was;
  })
