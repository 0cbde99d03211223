-- Rows that are placed, replaced or split stay in the order of a map, and their ranges apart.
use Rattle.std.proofs.Common.{◌≡◌, ◌≢◌, ℕ, ◌<◌, ◌≤◌, Bool, true, false, cond, ◌||◌, ◌⊎◌, ◌==◌, nat_le, List, [], ◌∷◌, Option, Some, None, is_some, position, refl, sym, ap, subst, ◌∙◌, arith}
use Rattle.std.specs.List.{AllByRecursion}
use Rattle.std.proofs.lemmas.Bool.{eqb-true, eqb-false, leb-true, leb-false, or_parts}
use Rattle.std.proofs.lemmas.Bool.Decides.{nat_tests}
use Rattle.rk_types.specs.declared.range.Range.{Range}
use Rattle.rk_types.specs.Range.{has, meets}
use Rattle.rk_tablet_map.specs.declared.row.Row.{Row}
use Rattle.rk_tablet_map.proofs.Places.{index_is_some}
use Rattle.rk_tablet_map.specs.Rows.{Precedes, IsTabletMap, row_of, is_covered, meets_any, placed, replaced, is_split, lower_part, upper_part, cut_fault, split_fault}
use Rattle.rk_tablet_map.specs.declared.error.MapError.TheVariants.{NoTablet, Taken, BadSplit}

-- what holds of each element holds of each by what follows from it
all_weaker : (P Q : Row → Type 0) → ((row : Row) → P row → Q row) → (rows : List Row) → AllByRecursion P rows → AllByRecursion Q rows
all_weaker P Q f [] a = tt
all_weaker P Q f (x ∷ xs) a = (f x a.0, all_weaker P Q f xs a.1)

-- and of the rows with one more of which it holds
all_placed : (P : Row → Type 0) (row : Row) (rows : List Row) → P row → AllByRecursion P rows → AllByRecursion P (placed row rows)
all_placed P row [] p a = (p, tt)
all_placed P row (x ∷ xs) p a = grind (arith, nat_le, row.tablet, x.tablet, a.0, a.1, (all_placed P row xs p a.1))

-- tests that are joined by "or" can be turned
or_turned : (a b c : Bool) → (a || (b || c)) ≡ (b || (a || c))
or_turned a b c = grind arith

-- and grouped to the left
or_grouped : (a b c : Bool) → (a || (b || c)) ≡ ((a || b) || c)
or_grouped true b c = refl
or_grouped false b c = refl

-- two ranges meet in either order
meets_swapped : (a b : Range) → meets a b ≡ false → meets b a ≡ false
meets_swapped a b h = grind (arith, nat_tests)

-- a row that is new to a map, by number and range
pub record IsNew (row : Row) (rows : List Row) : Type 0 where
  pub unknown : is_some (row_of rows row.tablet) ≡ false
  pub apart : meets_any rows row.range ≡ false

-- and so without the first row
new_tail : (row x : Row) (xs : List Row) → IsNew row (x ∷ xs) → (x.tablet ≢ row.tablet) × (meets x.range row.range ≡ false) × IsNew row xs
new_tail row x xs new = grind (arith, or_parts, eqb-false)

-- a new row with a smaller number than the first precedes all later ones
first_of_all : (row x : Row) (xs : List Row) → row.tablet < x.tablet → AllByRecursion (Precedes x) xs → IsNew row xs → AllByRecursion (Precedes row) xs
first_of_all row x [] before a new = tt
first_of_all row x (y ∷ ys) before a new =
    let parts = new_tail row y ys new in
    let above : x.tablet < y.tablet = a.0.smaller in
    (record { smaller = omega arith; apart = meets_swapped y.range row.range parts.1 }, first_of_all row x ys before a.1 parts.2)

-- a map with a new row in its place is a map
pub lawful_placed : (row : Row) (rows : List Row) → IsTabletMap rows → IsNew row rows → IsTabletMap (placed row rows)
lawful_placed row [] m new = (tt, tt)
lawful_placed row (x ∷ xs) m new =
    let parts = new_tail row x xs new in
    elim (nat_le row.tablet x.tablet) as (λ b. nat_le row.tablet x.tablet ≡ b → IsTabletMap (cond b (row ∷ x ∷ xs) (x ∷ placed row xs))) [
      | true ↦ λ e.
          let before : row.tablet < x.tablet = omega (arith, leb-true _ _ e, parts.0) in
          ((record { smaller = before; apart = meets_swapped x.range row.range parts.1 }, first_of_all row x xs before m.0 parts.2), m)
      | false ↦ λ e. (all_placed (Precedes x) row xs (record { smaller = omega (arith, leb-false _ _ e); apart = parts.1 }) m.0, lawful_placed row xs m.1 parts.2)
    ] refl

-- a row that takes another one's place: it has its number, and meets no range that the other one does not meet
pub record TakesPlace (row old : Row) : Type 0 where
  pub same : row.tablet ≡ old.tablet
  pub narrower : (range : Range) → meets old.range range ≡ false → meets row.range range ≡ false

-- the row that is found is the first, or is found behind it
found_cases : (P : Type 0) (x old : Row) (xs : List Row) (tablet : ℕ) → row_of (x ∷ xs) tablet ≡ Some old → ((x.tablet == tablet) ≡ true → x ≡ old → P) → ((x.tablet == tablet) ≡ false → row_of xs tablet ≡ Some old → P) → P
found_cases P x old xs tablet h first later = grind arith

-- what holds of each row, and of the new one if it holds of the old one, holds of each row with that one replaced
all_replaced : (P : Row → Type 0) (row old : Row) (tablet : ℕ) (rows : List Row) → row_of rows tablet ≡ Some old → (P old → P row) → AllByRecursion P rows → AllByRecursion P (replaced tablet row rows)
all_replaced P row old tablet [] h f a = tt
all_replaced P row old tablet (x ∷ xs) h f a =
    found_cases _ x old xs tablet h
    (λ e s. rw e (f (subst P s a.0), a.1))
    (λ e s. rw e (a.0, all_replaced P row old tablet xs s f a.1))

-- a row in another one's place precedes what that one precedes
stands_for : (row old y : Row) → TakesPlace row old → Precedes old y → Precedes row y
stands_for row old y t p = record { smaller = rw t.same p.smaller; apart = t.narrower y.range p.apart }

-- and comes after what that one comes after
comes_after : (row old x : Row) → TakesPlace row old → Precedes x old → Precedes x row
comes_after row old x t p = record { smaller = rw t.same p.smaller; apart = meets_swapped row.range x.range (t.narrower x.range (meets_swapped x.range old.range p.apart)) }

-- a map with a row in another one's place is a map
pub lawful_replaced : (row old : Row) (tablet : ℕ) (rows : List Row) → row_of rows tablet ≡ Some old → TakesPlace row old → IsTabletMap rows → IsTabletMap (replaced tablet row rows)
lawful_replaced row old tablet [] h t m = tt
lawful_replaced row old tablet (x ∷ xs) h t m =
    found_cases _ x old xs tablet h
    (λ e s. rw e (all_weaker (Precedes old) (Precedes row) (λ y p. stands_for row old y t p) xs (subst (λ (r : Row). AllByRecursion (Precedes r) xs) s m.0), m.1))
    (λ e s. rw e (all_replaced (Precedes x) row old tablet xs s (λ p. comes_after row old x t p) m.0, lawful_replaced row old tablet xs s t m.1))

-- the number of a row that is found is the number that was asked for
pub number_of : (rows : List Row) (tablet : ℕ) (row : Row) → row_of rows tablet ≡ Some row → row.tablet ≡ tablet
number_of [] tablet row h = absurd (cc)
number_of (x ∷ xs) tablet row h = found_cases _ x row xs tablet h (λ e s. rw (← s) (eqb-true _ _ e)) (λ e s. number_of xs tablet row s)

-- which of two rows with one number comes first does not change which numbers are known
some_alike : (row x : Row) (xs : List Row) (new : ℕ) → row.tablet ≡ x.tablet → is_some (row_of (row ∷ xs) new) ≡ is_some (row_of (x ∷ xs) new)
some_alike row x xs new same = grind arith

-- a replaced row with the same number leaves the same numbers known
known_replaced : (row : Row) (tablet new : ℕ) (rows : List Row) → row.tablet ≡ tablet → is_some (row_of (replaced tablet row rows) new) ≡ is_some (row_of rows new)
known_replaced row tablet new [] s = refl
known_replaced row tablet new (x ∷ xs) s =
    elim (x.tablet == tablet) as (λ b. (x.tablet == tablet) ≡ b → is_some (row_of (cond b (row ∷ xs) (x ∷ replaced tablet row xs)) new) ≡ is_some (row_of (x ∷ xs) new)) [
      | true ↦ λ e. some_alike row x xs new (s ∙ sym (eqb-true _ _ e))
      | false ↦ λ e. elim (x.tablet == new) as (λ b. is_some (cond b (Some x) (row_of (replaced tablet row xs) new)) ≡ is_some (cond b (Some x) (row_of xs new))) [ true ↦ refl | false ↦ known_replaced row tablet new xs s ]
    ] refl

-- the rows that come after one meet no part of its range
apart_after : (old : Row) (range : Range) (rows : List Row) → ((other : Range) → meets old.range other ≡ false → meets range other ≡ false) → AllByRecursion (Precedes old) rows → meets_any rows range ≡ false
apart_after old range [] f a = refl
apart_after old range (x ∷ xs) f a = rw (meets_swapped range x.range (f x.range a.0.apart)) (apart_after old range xs f a.1)

-- a row that is found behind another one does not meet it
before_found : (x old : Row) (rows : List Row) (tablet : ℕ) → row_of rows tablet ≡ Some old → AllByRecursion (Precedes x) rows → meets x.range old.range ≡ false
before_found x old [] tablet h a = absurd (cc)
before_found x old (y ∷ ys) tablet h a =
    found_cases _ y old ys tablet h (λ e s. rw (← s) a.0.apart) (λ e s. before_found x old ys tablet s a.1)

-- with a row's part in its place, no row meets its other part
apart_replaced : (row old : Row) (range : Range) (tablet : ℕ) (rows : List Row) → row_of rows tablet ≡ Some old → meets row.range range ≡ false → ((other : Range) → meets old.range other ≡ false → meets range other ≡ false) → IsTabletMap rows → meets_any (replaced tablet row rows) range ≡ false
apart_replaced row old range tablet [] h parted f m = refl
apart_replaced row old range tablet (x ∷ xs) h parted f m =
    found_cases _ x old xs tablet h
    (λ e s. rw (e, parted) (apart_after old range xs f (subst (λ (r : Row). AllByRecursion (Precedes r) xs) s m.0)))
    (λ e s. rw (e, meets_swapped range x.range (f x.range (meets_swapped x.range old.range (before_found x old xs tablet s m.0)))) (apart_replaced row old range tablet xs s parted f m.1))

-- the lower part of a range that is split meets no more than the range
lower_narrower : (row : Row) (at : ℕ) (other : Range) → is_split row.range at ≡ true → meets row.range other ≡ false → meets (lower_part row at).range other ≡ false
lower_narrower row at other h m = grind (arith, nat_tests)

-- so does the upper part
upper_narrower : (row : Row) (at new : ℕ) (other : Range) → is_split row.range at ≡ true → meets row.range other ≡ false → meets (upper_part row at new).range other ≡ false
upper_narrower row at new other h m = grind (arith, nat_tests)

-- and the two do not meet
parts_apart : (row : Row) (at new : ℕ) → is_split row.range at ≡ true → meets (lower_part row at).range (upper_part row at new).range ≡ false
parts_apart row at new h = grind (arith, nat_tests)

-- so the rows after a split are those of a map
pub lawful_split : (rows : List Row) (tablet at new : ℕ) (row : Row) → row_of rows tablet ≡ Some row → is_some (row_of rows new) ≡ false → is_split row.range at ≡ true → IsTabletMap rows → IsTabletMap (placed (upper_part row at new) (replaced tablet (lower_part row at) rows))
lawful_split rows tablet at new row h unknown split m =
    grind (arith, lawful_placed, lawful_replaced, lower_narrower, known_replaced, number_of, apart_replaced, parts_apart, upper_narrower)

-- and after a change of term and phase
pub lawful_turned : (rows : List Row) (tablet : ℕ) (row new : Row) → row_of rows tablet ≡ Some row → new.tablet ≡ row.tablet → new.range ≡ row.range → IsTabletMap rows → IsTabletMap (replaced tablet new rows)
lawful_turned rows tablet row new h number range m = lawful_replaced new row tablet rows h (record { same = number; narrower = λ other a. rw range a }) m

-- a hash of a range that is split is in one of the parts
has_parts : (row : Row) (at new table hash : ℕ) → is_split row.range at ≡ true → (has (upper_part row at new).range table hash || has (lower_part row at).range table hash) ≡ has row.range table hash
has_parts row at new table hash h = grind (arith, nat_tests)

-- a row that is placed covers its hashes too
covered_placed : (row : Row) (rows : List Row) (table hash : ℕ) → is_covered (placed row rows) table hash ≡ (has row.range table hash || is_covered rows table hash)
covered_placed row [] table hash = refl
covered_placed row (x ∷ xs) table hash =
    grind (arith, nat_le, or_turned, row.tablet, x.tablet, row.range, x.range, (covered_placed row xs table hash))

-- with both parts of a row in its place the rows cover what they covered
covered_parts : (row lower upper : Row) (tablet : ℕ) (rows : List Row) (table hash : ℕ) → row_of rows tablet ≡ Some row → (has upper.range table hash || has lower.range table hash) ≡ has row.range table hash → (has upper.range table hash || is_covered (replaced tablet lower rows) table hash) ≡ is_covered rows table hash
covered_parts row lower upper tablet [] table hash h parts = absurd (cc)
covered_parts row lower upper tablet (x ∷ xs) table hash h parts =
    found_cases _ x row xs tablet h
    (λ e s. rw e (or_grouped (has upper.range table hash) (has lower.range table hash) (is_covered xs table hash) ∙ ap (λ t. t || is_covered xs table hash) parts ∙ ap (λ (r : Row). has r.range table hash || is_covered xs table hash) (sym s)))
    (λ e s. rw e (or_turned (has upper.range table hash) (has x.range table hash) (is_covered (replaced tablet lower xs) table hash) ∙ ap (λ t. has x.range table hash || t) (covered_parts row lower upper tablet xs table hash s parts)))

-- a split leaves the union of the ranges as it was
pub covered_split : (rows : List Row) (tablet at new : ℕ) (row : Row) (table hash : ℕ) → row_of rows tablet ≡ Some row → is_split row.range at ≡ true → is_covered (placed (upper_part row at new) (replaced tablet (lower_part row at) rows)) table hash ≡ is_covered rows table hash
covered_split rows tablet at new row table hash h split =
    covered_placed (upper_part row at new) (replaced tablet (lower_part row at) rows) table hash
    ∙ covered_parts row (lower_part row at) (upper_part row at new) tablet rows table hash h (has_parts row at new table hash split)

-- what is outside of a range, or at its first hash, splits nothing
pub no_split : (range : Range) (at : ℕ) → (at ≤ range.first) ⊎ ((range.first < at) × (range.last < at)) → is_split range at ≡ false
no_split range at h = grind (arith, nat_tests)

-- a hash above the first, up to the last, splits it
pub splits : (range : Range) (at : ℕ) → range.first < at → at ≤ range.last → is_split range at ≡ true
splits range at above within = grind (arith, nat_tests)

-- why a split is refused: the tablet is unknown
pub fault_unknown : (rows : List Row) (tablet at new : ℕ) → row_of rows tablet ≡ None → split_fault rows tablet at new ≡ Some NoTablet
fault_unknown rows tablet at new h = rw h

-- the tablet is known, and so is the new number
pub fault_taken : (rows : List Row) (tablet at new place : ℕ) → Some place ≡ position (λ row. row.tablet == tablet) rows → is_some (row_of rows new) ≡ true → split_fault rows tablet at new ≡ Some (Taken new)
fault_taken rows tablet at new place found known =
    taken (row_of rows tablet) (row_of rows new) (sym (index_is_some (λ row. row.tablet == tablet) rows) ∙ ap is_some (sym found)) known
  where
    taken : (old other : Option Row) → is_some old ≡ true → is_some other ≡ true → cut_fault old other at new ≡ Some (Taken new)
    taken None other h k = absurd (cc)
    taken (Some row) None h k = absurd (cc)
    taken (Some row) (Some other) h k = refl

-- the new number is free, so the range decides
pub fault_of_range : (rows : List Row) (tablet at new : ℕ) (row : Row) → row_of rows tablet ≡ Some row → is_some (row_of rows new) ≡ false → split_fault rows tablet at new ≡ cond (is_split row.range at) None (Some (BadSplit at))
fault_of_range rows tablet at new row h unknown = grind arith
