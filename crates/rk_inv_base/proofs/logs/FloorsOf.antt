-- A floor depends only on which entries there are: it is as great for more of them, whatever their order.
use Rattle.rk_inv_base.proofs.Words.{◌≡◌, ℕ, suc, ◌≤◌, List, [], ◌∷◌, refl, ⊎_elim, arith, fold, Contains, Entry, floor_by, floor_of}
use Rattle.rk_inv_base.proofs.Words.{stands_cases}
use Rattle.rk_inv_base.proofs.logs.Floors.{floor_rises}

-- a floor is raised to no more than what the entry alone raises one to
step_within : (floor bound : ℕ) (entry : Entry) → floor ≤ bound → floor_by 1 entry ≤ bound → floor_by floor entry ≤ bound
step_within floor bound entry low one = grind arith

step_least : (floor : ℕ) (entry : Entry) → 1 ≤ floor → floor_by 1 entry ≤ floor_by floor entry
step_least floor entry least = grind arith

step_keeps : (floor : ℕ) (entry : Entry) → 1 ≤ floor → 1 ≤ floor_by floor entry
step_keeps floor entry least = grind arith

within_from : (floor bound : ℕ) (list : List Entry) → floor ≤ bound → ((entry : Entry) → Contains list entry → floor_by 1 entry ≤ bound) → fold floor_by floor list ≤ bound
within_from floor bound [] low each = low
within_from floor bound (entry ∷ list) low each =
    within_from (floor_by floor entry) bound list
    (step_within floor bound entry low (each entry (0, omega arith, refl)))
    (λ other stands. each other (suc stands.0, omega (arith, stands.1), stands.2))

pub one_within : (floor : ℕ) (list : List Entry) (entry : Entry) → 1 ≤ floor → Contains list entry → floor_by 1 entry ≤ fold floor_by floor list
one_within floor [] entry least stands = absurd (omega (arith, stands.1))
one_within floor (first ∷ list) entry least stands =
    ⊎_elim
    (λ (is : first ≡ entry).
    let one = step_least floor entry least in
    let rises = floor_rises (floor_by floor entry) list in
    rw is (omega (arith, one, rises)))
    (λ (behind : Contains list entry). one_within (floor_by floor first) list entry (step_keeps floor first least) behind)
    (stands_cases first list entry stands)

-- a bound of each entry is one of the floor
pub floor_within : (bound : ℕ) (list : List Entry) → 1 ≤ bound → ((entry : Entry) → Contains list entry → floor_by 1 entry ≤ bound) → floor_of list ≤ bound
floor_within bound list least each = within_from 1 bound list least each

-- more entries have as great a floor
pub floor_among : (list others : List Entry) → ((entry : Entry) → Contains list entry → Contains others entry) → floor_of list ≤ floor_of others
floor_among list others among =
    floor_within (floor_of others) list (floor_rises 1 others) (λ entry stands. one_within 1 others entry (omega arith) (among entry stands))
