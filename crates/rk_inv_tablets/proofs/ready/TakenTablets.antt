-- What is seen of a world in which one master has other records and tablets, and what it has of each tablet once others are given up.
use Rattle.std.proofs.Common.{arith, ◌≡◌, ℕ, List, Option, cond, refl, ap, ◌∙◌, ◌==◌, ◌&&◌, not, unwrap_or, option_map, eq-eqb}
use Rattle.rk_inv_base.proofs.Words.{and_left, cases_eq, cond_both, cond-false, NumberMap, get, meets, Held, Range}
use Rattle.rk_inv_base.proofs.Words.{given_up, with_others_given_up, marks_of, Master, tablet_at, with_tablet, Tablet, no_tablet, World}
use Rattle.rk_inv_base.proofs.Words.{master_at, tablet_in, with_master, written_by, put, view}
use Rattle.rk_inv_tablets.proofs.Words.{master_other, master_same, same_of_all, same_of_each, tablet_apart, tablet_here, put_here, put_is}
use Rattle.rk_inv_tablets.proofs.Words.{put_other, others_given_up, tablets_taken, found_changed}

-- ---- other tablets are given up

module _ (master : Master) (number : ℕ) (range : Range) where
  -- what becomes of a tablet
  abbrev giving : ℕ → Tablet → Tablet
  giving r tablet = cond (not (r == number) && meets tablet.handover.range range) (given_up tablet) tablet

  found_or : (r : ℕ) (o : Option Tablet) → unwrap_or (option_map (giving r) o) no_tablet ≡ giving r (unwrap_or o no_tablet)
  found_or r o = grind (arith, cond_both, meets, no_tablet, given_up)

  others_at : (r : ℕ) → tablet_at (with_others_given_up master number range) r ≡ others_given_up (tablet_at master) number range r
  others_at r =
      ap (λ (o : Option Tablet). unwrap_or o no_tablet) (found_changed giving master.tablets r) ∙ found_or r (get master.tablets r)

  -- the order's own tablet is as it was
  pub own_at : tablet_at (with_others_given_up master number range) number ≡ tablet_at master number
  own_at = grind (arith, tablet_at, others_at, cond-false, meets, given_up, and_left, eq-eqb)

-- ---- one master has other records and tablets

module _ (w : World) (master : ℕ) (records : List Held) (table : NumberMap Tablet) where
  abbrev pub changed : Master
  changed = record (master_at w master) { records = records; tablets = table }

  module _ (tablets : ℕ → Tablet) (are : (r : ℕ) → tablet_at changed r ≡ tablets r) (ends : (r : ℕ) → (tablets r).completions ≡ (tablet_in w master r).completions) where
    -- what is seen of each tablet
    keeps : {X : Type 0} (f : Tablet → X) → ◌≡◌ {A = ℕ → ℕ → X} (λ q r. f (tablet_in (with_master w master changed) q r)) (put (λ q r. f (tablet_in w q r)) master (λ r. f (tablets r)))
    keeps {X} f i q =
        put_is (λ q r. f (tablet_in w q r)) master (λ r. f (tablets r)) q (λ r. f (tablet_in (with_master w master changed) q r))
        (λ is j r. (ap (λ (m : Master). f (tablet_at m r)) (master_same w master changed q is) ∙ ap f (are r)) j)
        (λ other j r. ap (λ (m : Master). f (tablet_at m r)) (master_other w master changed q other) j) i

    view_tablets : view (with_master w master changed) ≡ tablets_taken (view w) master records tablets
    view_tablets i = record (view w) {
      numbers = same_of_all (λ q m. m.number) w master changed refl i;
      logs = same_of_all (λ q m. m.log) w master changed refl i;
      written = same_of_all (λ q m. written_by m (marks_of w.ledger q)) w master changed refl i;
      records = λ q.
          put_is (λ q. (master_at w q).records) master records q (master_at (with_master w master changed) q).records
          (λ is. ap (λ (m : Master). m.records) (master_same w master changed q is))
          (λ other. ap (λ (m : Master). m.records) (master_other w master changed q other)) i;
      calls = same_of_all (λ q m. m.calls) w master changed refl i;
      handovers = keeps (λ t. t.handover) i;
      completions = λ q r.
          same_of_each (λ q m. (tablet_at m r).completions) w master changed (ap (λ (t : Tablet). t.completions) (are r) ∙ ends r) q i;
      pullings = keeps (λ t. t.pulling) i;
      gathers = keeps (λ t. t.gather) i;
      merged = keeps (λ t. t.merged_ends) i;
    }

-- ---- one tablet is another, and others are given up for it

module _ (w : World) (master : ℕ) (records : List Held) (number : ℕ) (range : Range) (own : Tablet) (ends : own.completions ≡ (tablet_in w master number).completions) where
  -- the master with these records, once the other tablets of the range are given up
  abbrev cleared : Master
  cleared = with_others_given_up (record (master_at w master) { records = records }) number range

  abbrev others : ℕ → Tablet
  others = others_given_up (tablet_in w master) number range

  abbrev taken : ℕ → Tablet
  taken = put others number own

  -- what it has of each tablet
  has_tablet : (r : ℕ) → tablet_at (with_tablet cleared number own) r ≡ taken r
  has_tablet r =
      put_is others number own r (tablet_at (with_tablet cleared number own) r)
      (λ is. ap (tablet_at (with_tablet cleared number own)) is ∙ tablet_here cleared number own)
      (λ other. tablet_apart cleared number own r other ∙ others_at (record (master_at w master) { records = records }) number range r)

  -- each with the ends that it had
  same_ends : (r : ℕ) → (taken r).completions ≡ (tablet_in w master r).completions
  same_ends r = grind (arith, tablet_in, put_here, put_other, cond_both, meets, given_up, cases_eq)

  pub view_taken : view (with_master w master (with_tablet cleared number own)) ≡ tablets_taken (view w) master records taken
  view_taken = view_tablets w master records (with_tablet cleared number own).tablets taken has_tablet same_ends
