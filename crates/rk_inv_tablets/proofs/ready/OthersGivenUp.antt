-- A master takes an order for a tablet, and gives up each other one whose range meets the order's: what becomes of those.
use Rattle.std.proofs.Common.{◌≡◌, ℕ, ◌<◌, ◌≤◌, Bool, true, false, List, refl, sym, ap, ◌∙◌, subst, ⊎_elim, ◌⊎◌, inl, inr, arith, ◌≢◌, ◌==◌}
use Rattle.std.proofs.Common.{◌&&◌, not, All, Contains, ne_eqb}
use Rattle.rk_inv_base.proofs.Words.{and_parts, cases_eq, cond_both, All-contains, meets, Held, Range, Handover, lineage_of}
use Rattle.rk_inv_base.proofs.Words.{Row, given_up, is_member, is_absent, Tablet, IsAboveKept, post_of, RoleFits, put, HandoverFits}
use Rattle.rk_inv_base.proofs.Words.{IsBelowOthers, View, SoundView, false_from_ne_true}
use Rattle.rk_inv_tablets.proofs.Words.{apart_either, put_here, put_other, outside_post, meets_either, others_given_up, tablet_seen, row_in}
use Rattle.rk_inv_tablets.proofs.ready.Outside.{outside_absent}
use Rattle.rk_inv_tablets.proofs.ready.Yielding.{StaysSo, Yields, YieldsBeside}

-- a living master may take an order for a tablet, with this term and range: its term is above that of each tablet there, and below
-- that of each other row there; the master is a member of none of these
pub record MayTakeOrder (v : View) (master number term : ℕ) (range : Range) : Type 0 where
  pub lives : v.live master ≡ true
  pub above : IsAboveKept v master range term
  pub below : All (λ other. IsBelowOthers other number term range) v.rows
  pub outside :
      (other : Row) → Contains v.rows other → other.tablet ≢ number → meets other.range range ≡ true
      → is_member (lineage_of other.phase) master ≡ true → ⊥

-- of two tests that do not both pass, the second fails if the first passes
second_fails : (a b : Bool) → a ≡ true → (a && b) ≡ false → b ≡ false
second_fails true b first both = both
second_fails false b first both = absurd (cc)

module _ (v : View) (master number term : ℕ) (range : Range) (sound : SoundView v) (may : MayTakeOrder v master number term range) where
  -- what the master has fits each row
  pub fits : (x : Row) → Contains v.rows x → RoleFits x master (v.handovers master x.tablet) (v.written master).applied
  fits x has = (row_in v sound x has).roles.fitting master (inl may.lives)

  pub kept : (x : Row) → Contains v.rows x → HandoverFits x x.tablet (v.handovers master x.tablet)
  kept x has = All-contains (λ (r : Row). HandoverFits r x.tablet (v.handovers master x.tablet)) v.rows x (sound.terms.kept master x.tablet) has

  -- a member of a row has its range
  pub member_range : (x : Row) → Contains v.rows x → is_member (lineage_of x.phase) master ≡ true → (v.handovers master x.tablet).range ≡ x.range
  member_range x has member = (row_in v sound x has).roles.ranged master (inl may.lives) member

  -- ---- another row whose range meets the order's

  module _ (x : Row) (has : Contains v.rows x) (other : x.tablet ≡ number → ⊥) where
    -- its term is above that of the master, if the tablet's range meets the order's too
    pub row_above : meets (v.handovers master x.tablet).range range ≡ true → (v.handovers master x.tablet).term < x.term
    row_above met =
        let h : Handover = v.handovers master x.tablet in
        let above : h.term < term = may.above x.tablet met in
        let within : h.term ≤ x.term = (kept x has).within refl in
        ⊎_elim
        (λ (at : h.term ≡ x.term).
        let same : h.range ≡ x.range = (kept x has).exact refl at in
        let below : term < x.term =
        All-contains (λ (r : Row). IsBelowOthers r number term range) v.rows x may.below has other
        (ap (λ (r : Range). meets r range) (sym same) ∙ met) in
        omega (arith, above, below, at))
        (λ (apart : h.term ≡ x.term → ⊥). omega (arith, within, apart))
        (cases_eq h.term x.term)

    -- and the master is no member of it
    pub no_member : meets (v.handovers master x.tablet).range range ≡ true → is_member (lineage_of x.phase) master ≡ false
    no_member met =
        false_from_ne_true (is_member (lineage_of x.phase) master)
        (λ member. may.outside x has other (ap (λ (r : Range). meets r range) (sym (member_range x has member)) ∙ met) member)

    -- a row of which the master is a member, or whose term it keeps, does not meet the order's range
    pub beside_order : (is_member (lineage_of x.phase) master ≡ true) ⊎ ((v.handovers master x.tablet).term ≡ x.term) → meets range x.range ≡ false
    beside_order counts =
        let h : Handover = v.handovers master x.tablet in
        false_from_ne_true (meets range x.range)
        (λ met. let back : meets x.range range ≡ true = meets_either range x.range met in
        ⊎_elim
        (λ (member : is_member (lineage_of x.phase) master ≡ true). may.outside x has other back member)
        (λ (at : h.term ≡ x.term).
        let same : h.range ≡ x.range = (kept x has).exact refl at in
        let above = row_above (ap (λ (r : Range). meets r range) same ∙ back) in
        omega (arith, above, at)) counts)

  -- ---- a tablet that is given up

  module _ (records : List Held) (r : ℕ) (other : r ≡ number → ⊥) (met : meets (v.handovers master r).range range ≡ true) where
    abbrev old : Handover
    old = v.handovers master r

    abbrev gone : Tablet
    gone = given_up (tablet_seen v master r)

    gone_beside : (x : Row) → Contains v.rows x → x.tablet ≡ r → YieldsBeside x master (v.written master).applied old gone.handover
    gone_beside x has its =
        let away : x.tablet ≡ number → ⊥ = λ same. other (sym its ∙ same) in
        let meets_here : meets (v.handovers master x.tablet).range range ≡ true =
        ap (λ (n : ℕ). meets (v.handovers master n).range range) its ∙ met in
        let outside : is_member (lineage_of x.phase) master ≡ false = no_member x has away meets_here in
        let below : old.term < x.term =
        rw (← its) (row_above x has away meets_here) in
        record {
          below = below;
          grows = omega arith;
          within = omega (arith, below);
          greater = λ waits. absurd (cc waits);
          fits =
              outside_absent (post_of x.phase master) old.role x.term old.term (v.written master).applied
              (outside_post x.phase master outside) below
              (subst (λ (n : ℕ). RoleFits x master (v.handovers master n) (v.written master).applied) its (fits x has));
          kind = inl (record { outside = outside; quiet = refl });
        }

    pub gone_yields : Yields v master records r gone
    gone_yields = record {
      beside = gone_beside;
      formed = λ x has. let was = All-contains (λ (x : Row). HandoverFits x r old) v.rows x (sound.terms.kept master r) has in assumption;
      begun = λ there. absurd (cc there);
      known = λ there. absurd (cc there);
      unknown = sound.cover.unknown master r;
      ranges = sound.cover.ranges master r;
      bare = tt;
      rebuilds = λ x lineage has its is at.
          let beside = gone_beside x has its in
          absurd (omega (arith, beside.below, at));
    }

  -- ---- what the master has of each tablet, with this of the order's own

  abbrev others : ℕ → Tablet
  others = others_given_up (tablet_seen v master) number range

  -- another tablet is as it was, or given up
  pub other_step : (records : List Held) (r : ℕ) → (r ≡ number → ⊥) → StaysSo v master r (others r) ⊎ Yields v master records r (others r)
  other_step records r other =
      let old : Tablet = tablet_seen v master r in
      cond_both (not (r == number) && meets old.handover.range range) (given_up old) old
      (λ (t : Tablet). StaysSo v master r t ⊎ Yields v master records r t)
      (λ gone.
      let both = and_parts (not (r == number)) (meets old.handover.range range) gone in
      inr (gone_yields records r other both.1))
      (λ stays. inl (record { handover_is = refl; pulling_is = refl; gather_is = refl; merged_is = refl }))

  -- a tablet that is not absent then is as it was, and does not meet the order's range
  other_there : (r : ℕ) → (r ≡ number → ⊥) → is_absent (others r).handover.role ≡ false → ((others r).handover ≡ v.handovers master r) × (meets (v.handovers master r).range range ≡ false)
  other_there r other = grind (arith, tablet_seen, cond_both, meets, given_up, is_absent, second_fails, ne_eqb)

  other_apart : (r : ℕ) → (r ≡ number → ⊥) → is_absent (others r).handover.role ≡ false → meets (others r).handover.range range ≡ false
  other_apart r other there = grind (arith, other_there, meets)

  -- two tablets do not meet if neither is absent
  abbrev AreApart : Tablet → Tablet → Type 0
  AreApart one other =
      is_absent one.handover.role ≡ false → is_absent other.handover.role ≡ false
      → meets one.handover.range other.handover.range ≡ false

  others_apart : (a b : ℕ) → (a ≡ b → ⊥) → (a ≡ number → ⊥) → (b ≡ number → ⊥) → AreApart (others a) (others b)
  others_apart a b differ a_other b_other a_there b_there = grind (arith, other_there, meets, is_absent)

  -- with another role of the order's own tablet, in the order's range
  module _ (own : Tablet) (range_is : own.handover.range ≡ range) where
    abbrev pub tablets : ℕ → Tablet
    tablets = put others number own

    pub step : (records : List Held) → Yields v master records number own → (r : ℕ) → StaysSo v master r (tablets r) ⊎ Yields v master records r (tablets r)
    step records yields r =
        let Becomes : Tablet → Type 0 = λ t. StaysSo v master r t ⊎ Yields v master records r t in
        ⊎_elim
        (λ (is : r ≡ number).
        rw (put_here others number own r is) (inr (rw is yields)))
        (λ (other : r ≡ number → ⊥). rw (put_other others number own r other) (other_step records r other))
        (cases_eq r number)

    -- the order's own tablet meets no other one
    own_apart : (r : ℕ) → (r ≡ number → ⊥) → AreApart own (others r)
    own_apart r other own_there there =
        ap (λ (whole : Range). meets whole (others r).handover.range) range_is
        ∙ apart_either (others r).handover.range range (other_apart r other there)

    pub apart : (a b : ℕ) → (a ≡ b → ⊥) → AreApart (tablets a) (tablets b)
    apart a b differ =
        ⊎_elim
        (λ (ia : a ≡ number).
        let ob : b ≡ number → ⊥ = λ ib. differ (ia ∙ sym ib) in
        rw (put_here others number own a ia, put_other others number own b ob) (own_apart b ob))
        (λ (oa : a ≡ number → ⊥).
        rw (put_other others number own a oa) (⊎_elim
        (λ (ib : b ≡ number).
        rw (put_here others number own b ib) (λ there own_there.
        apart_either own.handover.range (others a).handover.range (own_apart a oa own_there there)))
        (λ (ob : b ≡ number → ⊥).
        rw (put_other others number own b ob) (others_apart a b differ oa ob))
        (cases_eq b number)))
        (cases_eq a number)
