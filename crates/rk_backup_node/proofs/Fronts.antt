-- The longest first part that two lists have in common, found byte by byte.
use Rattle.std.proofs.Common.{◌≡◌, ℕ, zero, suc, ◌<◌, ◌≤◌, Bool, true, false, cond, eqb, List, [], ◌∷◌, length, take, get_or, refl, sym, ap, ◌∙◌, ◌⊎◌, ⊎_elim, inl, inr, arith}
use Rattle.std.proofs.lemmas.Bool.{eq-eqb, eqb-true, cond-true}
use Rattle.rk_world.specs.Backup.{common_front}

-- the first bytes of two lists are equal, as many as that
abbrev pub AreEqualTo : ℕ → List ℕ → List ℕ → Type 0
AreEqualTo count xs ys = (k : ℕ) (d : ℕ) → k < count → get_or xs k d ≡ get_or ys k d

-- without the first ones they still are
equal_tail : (count : ℕ) (x y : ℕ) (xs ys : List ℕ) → AreEqualTo (suc count) (x ∷ xs) (y ∷ ys) → AreEqualTo count xs ys
equal_tail count x y xs ys equal = λ k d below. equal (suc k) d (omega (arith, below))

-- the first that differ end the part that both have in common
pub front_to : (count : ℕ) (xs ys : List ℕ) → AreEqualTo count xs ys → count < length xs → count < length ys → (get_or xs count 0 ≡ get_or ys count 0 → ⊥) → take count xs ≡ common_front xs ys
front_to count [] ys equal in_x in_y differ = absurd (omega (arith, in_x))
front_to count (x ∷ xs) [] equal in_x in_y differ = absurd (omega (arith, in_y))
front_to zero (x ∷ xs) (y ∷ ys) equal in_x in_y differ = go (eqb x y) refl
  where
    go : (b : Bool) → eqb x y ≡ b → [] ≡ cond b (x ∷ common_front xs ys) []
    go true same = absurd (differ (eqb-true x y same))
    go false other = refl
front_to (suc count) (x ∷ xs) (y ∷ ys) equal in_x in_y differ =
    ap (λ (l : List ℕ). x ∷ l) (front_to count xs ys (equal_tail count x y xs ys equal) (omega (arith, in_x)) (omega (arith, in_y)) differ)
    ∙ sym (cond-true (eqb x y) (x ∷ common_front xs ys) [] (eq-eqb x y (equal 0 0 (omega arith))))

-- if one of them ends there, so does it
pub front_whole : (count : ℕ) (xs ys : List ℕ) → AreEqualTo count xs ys → count ≤ length xs → count ≤ length ys → (count ≡ length xs) ⊎ (count ≡ length ys) → take count xs ≡ common_front xs ys
front_whole count [] ys equal in_x in_y ends = take_none count
  where
    take_none : (n : ℕ) → take n [] ≡ common_front [] ys
    take_none zero = refl
    take_none (suc n) = refl
front_whole zero (x ∷ xs) [] equal in_x in_y ends = refl
front_whole (suc count) (x ∷ xs) [] equal in_x in_y ends = absurd (omega (arith, in_y))
front_whole zero (x ∷ xs) (y ∷ ys) equal in_x in_y ends =
    ⊎_elim (λ (e : 0 ≡ suc (length xs)). absurd (omega (arith, e))) (λ (e : 0 ≡ suc (length ys)). absurd (omega (arith, e))) ends
front_whole (suc count) (x ∷ xs) (y ∷ ys) equal in_x in_y ends =
    ap (λ (l : List ℕ). x ∷ l)
    (front_whole count xs ys (equal_tail count x y xs ys equal) (omega (arith, in_x)) (omega (arith, in_y))
    (⊎_elim (λ (e : suc count ≡ suc (length xs)). inl (omega (arith, e))) (λ (e : suc count ≡ suc (length ys)). inr (omega (arith, e))) ends))
    ∙ sym (cond-true (eqb x y) (x ∷ common_front xs ys) [] (eq-eqb x y (equal 0 0 (omega arith))))
