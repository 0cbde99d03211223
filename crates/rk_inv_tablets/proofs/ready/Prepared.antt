-- A lane stays sound when a master makes ready for a tablet: it drops its items of the range, gives up each other tablet there, and waits.
use Rattle.std.proofs.Common.{◌≡◌, ℕ, ◌<◌, true, false, List, Some, None, refl, sym, ap, ◌∙◌, subst, ⊎_elim, ◌⊎◌, inl, length, arith}
use Rattle.std.proofs.Common.{is_some, Contains}
use Rattle.rk_inv_base.proofs.Words.{cases_eq, drop_all, All-contains, meets, Held, Range, order_without, without, Handover, lineage_of}
use Rattle.rk_inv_base.proofs.Words.{row_of, Phase, Row, Prepare, tablet_prepared, with_others_given_up, is_member, Master, touches}
use Rattle.rk_inv_base.proofs.Words.{with_tablet, without_items, Tablet, with_handover, without_merged, World, log_in, master_at, tablet_in}
use Rattle.rk_inv_base.proofs.Words.{with_master, AsksFor, Holds, bond_of, post_of, IsBare, RoleFits, HandoverFits, IsBelowOthers, View}
use Rattle.rk_inv_base.proofs.Words.{view, SoundView, false_from_ne_true}
use Rattle.rk_inv_tablets.proofs.Words.{MayPrepare, same_number, stays, stood, outside_post, stands_found, as_wanting, prepared}
use Rattle.rk_inv_tablets.proofs.Words.{prepared_tablets, tablet_prepared_in, tablet_seen}
use Rattle.rk_inv_tablets.proofs.ready.OwnItems.{none_left}
use Rattle.rk_inv_tablets.proofs.ready.OthersGivenUp.{MayTakeOrder, apart, beside_order, fits, step}
use Rattle.rk_inv_tablets.proofs.ready.Outside.{outside_wants, quiet_behind}
use Rattle.rk_inv_tablets.proofs.ready.TakenTablets.{own_at, view_taken}
use Rattle.rk_inv_tablets.proofs.ready.Yielded.{view_yielded}
use Rattle.rk_inv_tablets.proofs.ready.Yielding.{AreLeft, Yields, YieldsBeside}

module _ (v : View) (row : Row) (master : ℕ) (prepare : Prepare) (sound : SoundView v) (may : MayPrepare v row master prepare) where
  abbrev number : ℕ
  number = prepare.tenure.tablet

  abbrev term : ℕ
  term = prepare.tenure.term

  abbrev range : Range
  range = prepare.range

  abbrev left : List Held
  left = without range (v.records master)

  -- where the master's own entries begin
  abbrev place : ℕ
  place = length (v.logs master).entries

  abbrev old : Handover
  old = v.handovers master number

  abbrev own : Tablet
  own = without_merged (with_handover (tablet_seen v master number) (as_wanting term range place old))

  pub greater : old.term < term
  greater = subst (λ (n : ℕ). (v.handovers master n).term < term) (sym may.tablet_is) may.greater

  -- a row of the tablet's number is the row that the order is for
  same_row : (x : Row) → Contains v.rows x → x.tablet ≡ number → x ≡ row
  same_row x has its = same_number v.rows x row sound.rows.apart has may.has_row (its ∙ may.tablet_is)

  not_asked : (x : Row) → Contains v.rows x → AsksFor prepare x → is_member (lineage_of x.phase) master ≡ true → ⊥
  not_asked x has =
      All-contains (λ (r : Row). AsksFor prepare r → is_member (lineage_of r.phase) master ≡ true → ⊥) v.rows x may.outside has

  below_others : (x : Row) → Contains v.rows x → IsBelowOthers x number term range
  below_others x has = rw may.tablet_is (All-contains (λ (r : Row). IsBelowOthers r row.tablet term range) v.rows x may.below has)

  order : MayTakeOrder v master number term range
  order = grind (arith, not_asked)

  -- ---- the tablet that it makes ready for

  outside : is_member (lineage_of row.phase) master ≡ false
  outside =
      false_from_ne_true (is_member (lineage_of row.phase) master) (λ member. not_asked row may.has_row (inl may.tablet_is) member)

  old_fits : RoleFits row master old (v.written master).applied
  old_fits = rw may.tablet_is (fits v master number term range sound order row may.has_row)

  beside_row : YieldsBeside row master (v.written master).applied old own.handover
  beside_row = grind (arith, greater, fits, outside_wants, post_of, outside_post, outside, old_fits)

  beside : (x : Row) → Contains v.rows x → x.tablet ≡ number → YieldsBeside x master (v.written master).applied old own.handover
  beside x has its = rw (same_row x has its) beside_row

  formed : (x : Row) → Contains v.rows x → HandoverFits x number own.handover
  formed x has = record {
    within = λ its. rw (same_row x has its) may.within;
    below = below_others x has;
    exact = λ its at.
        let same : x ≡ row = same_row x has its in
        (may.invited (at ∙ ap (λ (r : Row). r.term) same)).1 ∙ ap (λ (r : Row). r.range) (sym same);
  }

  found : row_of v.rows number ≡ Some row
  found = ap (row_of v.rows) may.tablet_is ∙ stands_found v.rows row sound.rows.apart may.has_row

  bare : IsBare range place (v.written master) left
  bare = grind (arith, touches, drop_all, none_left)

  own_yields : Yields v master left number own
  own_yields = record {
    beside = beside;
    formed = formed;
    begun = λ there. omega (arith, greater);
    known = λ there. ap is_some found;
    unknown = λ none. let some : Some row ≡ None = sym found ∙ none in absurd (cc some);
    ranges = λ begun. may.covered;
    bare = bare;
    rebuilds = λ x lineage has its is at.
        let yields = beside x has its in
        let behind =
        quiet_behind lineage master own.handover.role x.term term (v.written master).applied
        (ap (λ (phase : Phase). is_member (lineage_of phase) master) (sym is)
        ∙ ap (λ (r : Row). is_member (lineage_of r.phase) master) (same_row x has its) ∙ outside) refl
        (subst (λ (phase : Phase). Holds (bond_of (post_of phase master) own.handover.role) x.term term (v.written master).applied) is yields.fits) in
        absurd (omega (arith, behind, at));
  }

  -- ---- its records

  -- a row of which it is a member, or whose term it keeps, does not meet the range
  beside_range : (x : Row) → Contains v.rows x → (is_member (lineage_of x.phase) master ≡ true) ⊎ ((v.handovers master x.tablet).term ≡ x.term) → meets range x.range ≡ false
  beside_range x has counts =
      ⊎_elim
      (λ (its : x.tablet ≡ number).
      let yields = beside x has its in
      absurd (⊎_elim
      (λ (member : is_member (lineage_of x.phase) master ≡ true). not_asked x has (inl (sym its)) member)
      (λ (at : (v.handovers master x.tablet).term ≡ x.term).
      let here : old.term ≡ x.term = rw (← its) at in
      omega (arith, yields.below, here)) counts))
      (λ (other : x.tablet ≡ number → ⊥). beside_order v master number term range sound order x has other counts)
      (cases_eq x.tablet number)

  are_left : AreLeft v master left
  are_left = record {
    ordered = order_without range (v.records master) (sound.records.ordered master);
    stood = stood range (v.records master);
    stays = λ x has counts. stays range x.range (beside_range x has counts) (v.records master);
  }

  pub view_prepared : SoundView (prepared v master prepare)
  view_prepared =
      view_yielded v (record {
        sound = sound;
        master = master;
        lives = may.lives;
        records = left;
        tablets = prepared_tablets v master prepare;
        left = are_left;
        step = step v master number term range sound order own refl left own_yields;
        apart = apart v master number term range sound order own refl;
      })

-- ---- a world in which a master makes ready

module _ (w : World) (master : ℕ) (prepare : Prepare) where
  abbrev asked : ℕ
  asked = prepare.tenure.tablet

  abbrev was : Tablet
  was = tablet_in w master asked

  abbrev ready : Tablet
  ready = without_merged (with_handover was (as_wanting prepare.tenure.term prepare.range (length (log_in w master).entries) was.handover))

  -- the master once its items of the range and its other tablets there are gone
  abbrev left_alone : Master
  left_alone = with_others_given_up (without_items (master_at w master) prepare.range) asked prepare.range

  -- the move applies
  moves : was.handover.term < prepare.tenure.term → tablet_prepared (master_at w master) prepare ≡ with_tablet left_alone asked ready
  moves greater =
      grind (arith, own_at)

  pub view_prepared_in : was.handover.term < prepare.tenure.term → view (tablet_prepared_in w master prepare) ≡ prepared (view w) master prepare
  view_prepared_in greater = search (view, with_master, moves, view_taken, without, master_at)
