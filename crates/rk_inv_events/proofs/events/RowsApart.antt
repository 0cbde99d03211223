-- What is known of one row beside all others: none has its number, and none meets its range; and the row of a tablet.
use Rattle.std.proofs.Common.{Contains, List, Some, [], ap, arith, eq-eqb, false, is_some, refl, true, ℕ, ⊎_elim, ◌==◌, ◌∙◌, ◌∷◌, ◌≡◌, ◌≢◌}
use Rattle.rk_inv_base.proofs.Words.{IsBelowOthers, IsWithinRows, IsWithinTerm, Row, SoundView, View, has, list_any_at, meets, number_of}
use Rattle.rk_inv_base.proofs.Words.{order, row_of, cond_both}
use Rattle.rk_inv_base.proofs.rows.Apart.{apart_either, same_number}
use Rattle.rk_inv_events.proofs.Words.{contains_cases, found_stands, one_precedes, by_found}

-- ---- the row of a tablet

-- a tablet has a row
pub record HasRow (rows : List Row) (tablet : ℕ) : Type 0 where
  pub row : Row
  pub stands : Contains rows row
  pub tablet_is : row.tablet ≡ tablet

pub has_row : (rows : List Row) (tablet : ℕ) → is_some (row_of rows tablet) ≡ true → HasRow rows tablet
has_row rows tablet = by_found (λ found. is_some found ≡ true → HasRow rows tablet) (row_of rows tablet) (λ none some. absurd (cc some))
    (λ row is some. record { row = row; stands = found_stands rows tablet row is; tablet_is = number_of rows tablet row is })

-- ---- one row beside others

-- a row that is among others is found by its number
pub row_found : (rows : List Row) (row : Row) → Contains rows row → is_some (row_of rows row.tablet) ≡ true
row_found [] row (k, within, is) = absurd (omega (arith, within))
row_found (first ∷ rows) row stands =
    cond_both (first.tablet == row.tablet) (Some first) (row_of rows row.tablet) (λ found. is_some found ≡ true) (λ is. refl)
    (λ is.
    ⊎_elim (λ (here : first ≡ row). absurd (cc (is, eq-eqb first.tablet row.tablet (ap (λ (r : Row). r.tablet) here))))
    (row_found rows row) (contains_cases first rows row stands))

module _ (v : View) (row : Row) (sound : SoundView v) (stands : Contains v.rows row) where
  pub same_row : (other : Row) → Contains v.rows other → other.tablet ≡ row.tablet → other ≡ row
  same_row other there same = same_number v.rows other row sound.rows.apart there stands same

  pub apart_from : (other : Row) → Contains v.rows other → other.tablet ≢ row.tablet → meets other.range row.range ≡ false
  apart_from other there differs = grind (arith, one_precedes, order, apart_either)

  -- its term is that of its number, and no other row meets its range
  pub within_term : (other : Row) → Contains v.rows other → IsWithinTerm other row.tablet row.term
  within_term other there same = rw (same_row other there same) (omega arith)

  pub below_others : (other : Row) → Contains v.rows other → IsBelowOthers other row.tablet row.term row.range
  below_others other there differs meeting = absurd (cc (apart_from other there differs, meeting))

  pub its_range_within : IsWithinRows v.rows row.range
  its_range_within hash inside = list_any_at (λ (r : Row). has r.range row.range.table hash) v.rows stands.0 row stands.1
      (ap (λ (r : Row). has r.range row.range.table hash) stands.2 ∙ inside)
