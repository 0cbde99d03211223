-- Things that are dealt to eight hands.
use Rattle.rk_cluster.proofs.Words.{◌≡◌, ◌≢◌, ◌%◌, ◌*◌, ◌<◌, ◌≤◌, ◌+◌, ℕ, zero, suc, List, [], ◌∷◌, ◌++◌, Some, length, slice_get}
use Rattle.rk_cluster.proofs.Words.{slice_set, refl, sym, ap, ◌∙◌, arith, length-append, append_assoc, append-nil, length-set}
use Rattle.rk_cluster.proofs.Words.{slice_get_within, Vec, LANES, AreDealt, IsEighth}
use Rattle.rk_cluster.proofs.Worlds.{set_beside, set_here}

-- each eighth of a list, the first of them at this place
abbrev pub each_eighth : {X : Type 0} → ℕ → List X → List X
each_eighth place [] = []
each_eighth zero (x ∷ xs) = x ∷ each_eighth 7 xs
each_eighth (suc place) (x ∷ xs) = each_eighth place xs

-- it is that of a lane
pub eighth_is : {X : Type 0} (xs : List X) (lane : ℕ) → lane < LANES → IsEighth xs lane (each_eighth lane xs)
eighth_is [] lane within place = refl
eighth_is (x ∷ xs) zero within zero = refl
eighth_is (x ∷ xs) zero within (suc place) =
    let at : 8 * suc place + 0 ≡ suc (8 * place + 7) = omega arith in
    eighth_is xs 7 (omega arith) place ∙ ap (slice_get (x ∷ xs)) (sym at)
eighth_is (x ∷ xs) (suc lane) within place =
    let at : 8 * place + suc lane ≡ suc (8 * place + lane) = omega arith in
    eighth_is xs lane (omega (arith, within)) place ∙ ap (slice_get (x ∷ xs)) (sym at)

-- how many they are
pub eighth_count : {X : Type 0} (xs : List X) (lane : ℕ) → lane < LANES → 8 * length (each_eighth lane xs) + lane ≤ length xs + 7
eighth_count [] lane within = omega (arith, within)
eighth_count (x ∷ xs) zero within = omega (arith, eighth_count xs 7 (omega arith))
eighth_count (x ∷ xs) (suc lane) within = omega (arith, within, eighth_count xs lane (omega (arith, within)))

pub eighth_many : {X : Type 0} (xs : List X) (lane : ℕ) → lane < LANES → length xs ≤ 8 * length (each_eighth lane xs) + lane
eighth_many [] lane within = omega arith
eighth_many (x ∷ xs) zero within = omega (arith, eighth_many xs 7 (omega arith))
eighth_many (x ∷ xs) (suc lane) within = omega (arith, within, eighth_many xs lane (omega (arith, within)))

-- of all things these were dealt and these are left, and this lane gets the next one
pub record IsDealing {X : Type 0} (all things left : List X) (hands : List (Vec X)) (place : ℕ) : Type 0 where
  pub whole : things ++ left ≡ all
  pub count : length hands ≡ LANES
  pub each : (lane : ℕ) (hand : Vec X) → slice_get hands lane ≡ Some hand → hand.items ≡ each_eighth lane things
  pub next : place ≡ length things % LANES

-- one more goes to the hand whose place it has
pub eighth_here : {X : Type 0} (xs : List X) (x : X) (place : ℕ) → place < 8 → length xs % 8 ≡ place → each_eighth place (xs ++ x ∷ []) ≡ each_eighth place xs ++ x ∷ []
eighth_here [] x zero within is = refl
eighth_here [] x (suc place) within is = absurd (omega (arith, is))
eighth_here (y ∷ ys) x zero within is = ap (λ rest. y ∷ rest) (eighth_here ys x 7 (omega arith) (omega (arith, is)))
eighth_here (y ∷ ys) x (suc place) within is = eighth_here ys x place (omega (arith, within)) (omega (arith, is))

-- and to no other one
pub eighth_apart : {X : Type 0} (xs : List X) (x : X) (place : ℕ) → place < 8 → length xs % 8 ≢ place → each_eighth place (xs ++ x ∷ []) ≡ each_eighth place xs
eighth_apart [] x zero within apart = absurd (apart refl)
eighth_apart [] x (suc place) within apart = refl
eighth_apart (y ∷ ys) x zero within apart = ap (λ rest. y ∷ rest) (eighth_apart ys x 7 (omega arith) (λ is. apart (omega (arith, is))))
eighth_apart (y ∷ ys) x (suc place) within apart = eighth_apart ys x place (omega (arith, within)) (λ is. apart (omega (arith, is)))

module _ {X : Type 0} (all things left rest : List X) (hands : List (Vec X)) (place : ℕ) (thing : X) (before now : Vec X)
    (dealing : IsDealing all things left hands place) (first : left ≡ thing ∷ rest) (there : slice_get hands place ≡ Some before) (put : now.items ≡ before.items ++ thing ∷ []) where
  within : place < LANES
  within = omega (arith, dealing.next)

  -- one more is dealt
  pub dealing_one : IsDealing all (things ++ thing ∷ []) rest (slice_set hands place now) ((place + 1) % LANES)
  dealing_one =
      grind (arith, append_assoc, length-set, length-append, set_here, eighth_here, set_beside, slice_get_within, eighth_apart)

-- all are dealt
pub dealt : {X : Type 0} (all things left : List X) (hands : List (Vec X)) (place : ℕ) → left ≡ [] → IsDealing all things left hands place → AreDealt all hands
dealt {X = X} all things left hands place none dealing = grind (arith, append-nil, eighth_is, slice_get_within)
