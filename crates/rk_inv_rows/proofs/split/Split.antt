-- A lane stays sound when an owned row is split in two.
use Rattle.std.proofs.Common.{arith, ◌≡◌, ℕ, ◌+◌, true, false, List, Option, Some, None, eqb, is_some, refl, sym, ap, subst, ◌∙◌, ⊎_elim}
use Rattle.std.proofs.Common.{inl, not, eq-eqb}
use Rattle.rk_inv_base.proofs.Words.{cases_Bool, cases_eq, cond-false, cond-true, false≢true, or_left, Range, changed_rows, divided}
use Rattle.rk_inv_base.proofs.Words.{is_split, row_of, Owned, Row, marks_of, Master, tablet_at, with_tablet, range_below, range_from}
use Rattle.rk_inv_base.proofs.Words.{has_parts, owner_split, with_half, with_halves, with_split, Tablet, World, has_crashed, lives}
use Rattle.rk_inv_base.proofs.Words.{master_at, tablet_in, with_coordinator, with_master, written_by, View, view, IsSound, SoundView}
use Rattle.rk_inv_base.proofs.Words.{false_from_ne_true}
use Rattle.rk_inv_rows.proofs.Words.{cut_fault, turned, with_rows_split, MaySplit, stands_found, as_half, lower_row}
use Rattle.rk_inv_rows.proofs.Words.{rows_halved, row_split_in, upper_row}
use Rattle.rk_inv_base.proofs.views.Masters.{master_other, master_same, same_of_all, tablet_apart, tablet_here}
use Rattle.rk_inv_rows.proofs.split.RowSplit.{view_row_split}
use Rattle.rk_inv_rows.proofs.split.Splitting.{Has, High, Low, Old, Beside, IsOfHalves, Serves, Splitting, found, lower_found, new_apart}
use Rattle.rk_inv_rows.proofs.split.Splitting.{split_row, upper_found}

-- why a split is not refused: no row has the number, and both parts have a hash
may_cut : (row : Row) (taken : Option Row) (at new : ℕ) → cut_fault (Some row) taken at new ≡ None → (is_some taken ≡ false) × (is_split row.range at ≡ true)
may_cut row taken at new is = grind (arith, is_split)

module _ (w : World) (cut : Splitting (view w)) where
  open cut use {tablet, range, term, owner, from, at, new, splits}

  abbrev v : View
  v = view w

  abbrev row : Row
  row = record { tablet = tablet; range = range; term = term; phase = Owned owner from }

  abbrev rows : List Row
  rows = w.coordinator.rows

  -- the rows are halved
  rows_are : (with_rows_split w.coordinator row at new).rows ≡ rows_halved rows row at new
  rows_are =
      let first : List Row = divided (Some row) rows tablet at new in
      let second : List Row = turned (Some (record (lower_row row at) { term = term })) first tablet (term + 1) (Owned owner from) in
      ap (λ (f : Option Row). changed_rows (changed_rows (divided f rows tablet at new) tablet (term + 1) (Owned owner from)) new (term + 1) (Owned owner from))
      (found v cut)
      ∙ ap (λ (f : Option Row). changed_rows (turned f first tablet (term + 1) (Owned owner from)) new (term + 1) (Owned owner from))
      (lower_found v cut)
      ∙ ap (λ (f : Option Row). turned f second new (term + 1) (Owned owner from))
      (upper_found v cut)

  abbrev Changed : World → View
  Changed x = record v {
    rows = rows_halved rows row at new;
    handovers = (view x).handovers;
    completions = (view x).completions;
    pullings = (view x).pullings;
    gathers = (view x).gathers;
    merged = (view x).merged;
  }

  -- ---- a dead owner

  dead_split : v.live owner ≡ false → SoundView (Changed w)
  dead_split dead =
      let none : (q : ℕ) → Serves v cut q → ⊥ = λ q serves. false≢true (sym dead ∙ sym (ap v.live serves.1) ∙ serves.0) in
      view_row_split v cut (record {
        handovers' = v.handovers;
        completions' = v.completions;
        pullings' = v.pullings;
        gathers' = v.gathers;
        merged' = v.merged;
        halved = λ q n. Old refl (λ serves. absurd (none q serves));
        completions_away = λ q n _. refl;
        pullings_away = λ q n _. refl;
        gathers_away = λ q n _. refl;
        merged_away = λ q n _. refl;
        ends_stay = λ q n serves _. absurd (none q serves);
      })

  -- ---- a living owner

  abbrev m : Master
  m = master_at w owner

  abbrev kept : Tablet
  kept = tablet_at (master_at w owner) tablet

  abbrev below : Tablet
  below = with_half kept (range_below kept.handover.range at) (term + 1)

  abbrev above : Tablet
  above = with_half kept (range_from kept.handover.range at) (term + 1)

  abbrev changed : Master
  changed = with_halves m tablet kept at new (term + 1)

  abbrev after : World
  after = with_master w owner (with_halves (master_at w owner) tablet (tablet_at (master_at w owner) tablet) at new (term + 1))

  of_owner : (q n : ℕ) → q ≡ owner → tablet_in after q n ≡ tablet_at changed n
  of_owner q n is = ap (λ (x : Master). tablet_at x n) (master_same w owner changed q is)

  at_tablet : (q : ℕ) → q ≡ owner → tablet_in after q tablet ≡ below
  at_tablet q is =
      of_owner q tablet is
      ∙ tablet_apart (with_tablet m tablet below) new above tablet (λ e. new_apart v cut (sym e))
      ∙ tablet_here m tablet below

  at_new : (q : ℕ) → q ≡ owner → tablet_in after q new ≡ above
  at_new q is = of_owner q new is ∙ tablet_here (with_tablet m tablet below) new above

  at_other : (q n : ℕ) → q ≡ owner → (n ≡ tablet → ⊥) → (n ≡ new → ⊥) → tablet_in after q n ≡ tablet_in w q n
  at_other q n is first second =
      of_owner q n is
      ∙ tablet_apart (with_tablet m tablet below) new above n second
      ∙ tablet_apart m tablet below n first
      ∙ ap (λ (o : ℕ). tablet_in w o n) (sym is)

  at_away : (q n : ℕ) → (q ≡ owner → ⊥) → tablet_in after q n ≡ tablet_in w q n
  at_away q n away = ap (λ (x : Master). tablet_at x n) (master_other w owner changed q away)

  module _ (lives_on : lives w owner ≡ true) where
    serves : (q : ℕ) → q ≡ owner → Serves v cut q
    serves q is = (ap v.live is ∙ lives_on, is)

    kept_range : (tablet_in w owner tablet).handover.range ≡ range
    kept_range = (split_row v cut).roles.ranged owner (inl lives_on) (or_left (eqb owner owner) false (eq-eqb owner owner refl))

    abbrev HasNow : ℕ → ℕ → Type 0
    HasNow q n = Has v cut q n ((view after).handovers q n)

    low_is : (q : ℕ) → q ≡ owner → (tablet_in after q tablet).handover ≡ as_half (v.handovers q tablet) (lower_row row at).range (term + 1)
    low_is q is =
        ap (λ (t : Tablet). t.handover) (at_tablet q is)
        ∙ (λ i. as_half (v.handovers (sym is i) tablet) (range_below (kept_range i) at) (term + 1))

    high_is : (q : ℕ) → q ≡ owner → (tablet_in after q new).handover ≡ as_half (v.handovers q tablet) (upper_row row at new).range (term + 1)
    high_is q is =
        ap (λ (t : Tablet). t.handover) (at_new q is)
        ∙ (λ i. as_half (v.handovers (sym is i) tablet) (range_from (kept_range i) at) (term + 1))

    halved : (q n : ℕ) → HasNow q n
    halved q n =
        ⊎_elim
        (λ (is : q ≡ owner).
        ⊎_elim
        (λ (its : n ≡ tablet). Low (serves q is) its (ap (λ (k : ℕ). (tablet_in after q k).handover) its ∙ low_is q is))
        (λ (first : n ≡ tablet → ⊥).
        ⊎_elim
        (λ (its : n ≡ new). High (serves q is) its (ap (λ (k : ℕ). (tablet_in after q k).handover) its ∙ high_is q is))
        (λ (second : n ≡ new → ⊥). Old (ap (λ (t : Tablet). t.handover) (at_other q n is first second)) (λ _. (first, second)))
        (cases_eq n new))
        (cases_eq n tablet))
        (λ (away : q ≡ owner → ⊥). Old (ap (λ (t : Tablet). t.handover) (at_away q n away)) (λ it. absurd (away it.1)))
        (cases_eq q owner)

    unlike_kept : (q n : ℕ) → Beside v cut q n → tablet_in after q n ≡ tablet_in w q n
    unlike_kept q n unlike =
        ⊎_elim (λ (is : q ≡ owner). let both = unlike (serves q is) in at_other q n is both.0 both.1) (λ (away : q ≡ owner → ⊥). at_away q n away)
        (cases_eq q owner)

    ends_stay : (q n : ℕ) → Serves v cut q → IsOfHalves v cut n → (view after).completions q n ≡ v.completions q tablet
    ends_stay q n it =
        ⊎_elim
        (λ (its : n ≡ tablet).
        ap (λ (k : ℕ). (tablet_in after q k).completions) its ∙ ap (λ (t : Tablet). t.completions) (at_tablet q it.1)
        ∙ ap (λ (o : ℕ). v.completions o tablet) (sym it.1))
        (λ (its : n ≡ new).
        ap (λ (k : ℕ). (tablet_in after q k).completions) its ∙ ap (λ (t : Tablet). t.completions) (at_new q it.1)
        ∙ ap (λ (o : ℕ). v.completions o tablet) (sym it.1))

    live_split : SoundView (Changed after)
    live_split =
        view_row_split v cut (record {
          handovers' = (view after).handovers;
          completions' = (view after).completions;
          pullings' = (view after).pullings;
          gathers' = (view after).gathers;
          merged' = (view after).merged;
          halved = halved;
          completions_away = λ q n unlike. ap (λ (t : Tablet). t.completions) (unlike_kept q n unlike);
          pullings_away = λ q n unlike. ap (λ (t : Tablet). t.pulling) (unlike_kept q n unlike);
          gathers_away = λ q n unlike. ap (λ (t : Tablet). t.gather) (unlike_kept q n unlike);
          merged_away = λ q n unlike. ap (λ (t : Tablet). t.merged_ends) (unlike_kept q n unlike);
          ends_stay = ends_stay;
        })

    after_is : owner_split w tablet (Owned owner from) at new (term + 1) ≡ after
    after_is =
        cond-false (has_crashed w owner) w (with_master w owner (with_split m tablet at new (term + 1))) alive
        ∙ ap (with_master w owner)
        (cond-true (has_parts kept.handover.range at) (with_halves m tablet kept at new (term + 1)) m (ap (λ (r : Range). has_parts r at) kept_range ∙ splits))
      where
        alive : has_crashed w owner ≡ false
        alive =
            false_from_ne_true (has_crashed w owner) (λ e. false≢true (sym (ap not e) ∙ lives_on))

    seen_live : view (with_coordinator after (with_rows_split w.coordinator row at new)) ≡ Changed after
    seen_live i = record (Changed after) {
      rows = rows_are i;
      numbers = same_of_all (λ q x. x.number) w owner changed refl i;
      logs = same_of_all (λ q x. x.log) w owner changed refl i;
      written = same_of_all (λ q x. written_by x (marks_of w.ledger q)) w owner changed refl i;
      records = same_of_all (λ q x. x.records) w owner changed refl i;
      calls = same_of_all (λ q x. x.calls) w owner changed refl i;
    }

    live_sound : IsSound (row_split_in w row at new)
    live_sound =
        subst (λ (x : World). IsSound (with_coordinator x (with_rows_split w.coordinator row at new))) (sym after_is)
        (subst SoundView (sym seen_live) live_split)

  dead_sound : has_crashed w owner ≡ true → IsSound (row_split_in w row at new)
  dead_sound crashed =
      rw (cond-true (has_crashed w owner) w (with_master w owner (with_split m tablet at new (term + 1))) crashed)
      (subst SoundView (λ i. record v { rows = sym rows_are i }) (dead_split (ap not crashed)))

  pub split_sound : IsSound (row_split_in w row at new)
  split_sound =
      ⊎_elim (λ (crashed : has_crashed w owner ≡ true). dead_sound crashed) (λ (alive : has_crashed w owner ≡ false). live_sound (ap not alive))
      (cases_Bool (has_crashed w owner))

-- one of the rows is split
pub row_sound : (w : World) (row : Row) (at new : ℕ) → IsSound w → MaySplit (view w) row at new → IsSound (row_split_in w row at new)
row_sound w row at new sound may =
    let rows : List Row = w.coordinator.rows in
    let row_is : record { tablet = row.tablet; range = row.range; term = row.term; phase = Owned may.owner may.from } ≡ row =
    λ i. record row { phase = sym may.phase_is i } in
    let fault : cut_fault (Some row) (row_of rows new) at new ≡ None =
    ap (λ (f : Option Row). cut_fault f (row_of rows new) at new) (sym (stands_found rows row sound.rows.apart may.has_row)) ∙ may.fits in
    let fits = may_cut row (row_of rows new) at new fault in
    rw (← row_is) (split_sound w (record {
      tablet = row.tablet;
      range = row.range;
      term = row.term;
      owner = may.owner;
      from = may.from;
      at = at;
      new = new;
      sound = sound;
      has_row = rw row_is may.has_row;
      free = fits.0;
      splits = fits.1;
    }))
