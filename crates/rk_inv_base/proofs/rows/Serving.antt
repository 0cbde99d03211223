-- At most one living master answers calls for a range of a row: the master that speaks for it.
use Rattle.rk_inv_base.proofs.Words.{◌≡◌, ℕ, suc, Bool, true, false, eqb, cond, List, [], ◌∷◌, Some, is_some, refl, arith, Contains}
use Rattle.rk_inv_base.proofs.Words.{nat_tests, meets, Range, is_serving, Role, number_of, row_of, Row, is_absent, OutsideRebuilder}
use Rattle.rk_inv_base.proofs.Words.{bond_of, Holds, View, RowsOf, RolesOf, may_have_staged, Post}
use Rattle.rk_transfer.specs.declared.role.Role.TheVariants as roles
use Rattle.rk_inv_base.proofs.Base.{one_met, inside_member, is_inside, quiet_role, speaks_serving, speaker_of, speaker_is}

-- ranges meet either way
pub meets_either : (a b : Range) → meets a b ≡ true → meets b a ≡ true
meets_either a b both = grind (arith, nat_tests)

-- a role that serves is not absent
pub present : (role : Role) → is_serving role ≡ true → is_absent role ≡ false
present roles.Absent serves = absurd (cc)
present role serves = refl

-- an outsider does not serve
pub outsider : (role : Role) (term own applied : ℕ) → Holds (bond_of OutsideRebuilder role) term own applied → is_serving role ≡ true → ⊥
outsider role term own applied fits serves = grind arith

-- and may stage its calls
pub serving_stages : (role : Role) → is_serving role ≡ true → may_have_staged role ≡ true
serving_stages role serves = grind arith

-- a master that serves has the post of a member
pub serves_inside : (post : Post) (role : Role) (term own applied : ℕ) → Holds (bond_of post role) term own applied → is_serving role ≡ true → is_inside post ≡ true
serves_inside post role term own applied fits serves = grind (arith, quiet_role, outsider)

-- what is found is in the list
pub first_or : (rows : List Row) (first row : Row) (number : ℕ) (later : row_of rows number ≡ Some row → Contains rows row) (here : Bool) → cond here (Some first) (row_of rows number) ≡ Some row → Contains (first ∷ rows) row
first_or rows first row number later true found = let same : first ≡ row = cc in (0, omega arith, same)
first_or rows first row number later false found =
    let stands = later found in (suc stands.0, omega (arith, stands.1), stands.2)

pub found_stands : (rows : List Row) (number : ℕ) (row : Row) → row_of rows number ≡ Some row → Contains rows row
found_stands [] number row found = absurd (cc)
found_stands (first ∷ rows) number row found =
    first_or rows first row number (found_stands rows number row) (eqb first.tablet number) found

-- what holds of the tablet of each row holds of each tablet that a living master is not absent from
pub of_its_row : (v : View) (P : ℕ → Type 0) → RolesOf v → (q number : ℕ) → v.live q ≡ true → is_absent (v.handovers q number).role ≡ false → ((row : Row) → Contains v.rows row → P row.tablet) → P number
of_its_row v P roles_fit q number lives there each = grind (arith, row_of, is_some, number_of, found_stands)

-- a tablet that is served here and meets a row is the row's, and its master speaks for the row
pub serves_for : (v : View) (row : Row) (master tablet : ℕ) → RowsOf v → RolesOf v → Contains v.rows row → v.live master ≡ true → is_serving (v.handovers master tablet).role ≡ true → meets (v.handovers master tablet).range row.range ≡ true → (tablet ≡ row.tablet) × (master ≡ speaker_of row.phase)
serves_for v row master tablet rows_fit roles_fit stands lives serves met =
    grind (arith, found_stands, number_of, speaker_is, speaks_serving, inside_member, serves_inside, one_met)
