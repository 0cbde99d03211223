-- What is kept for each number, or by each master of each tablet, once one of them is another.
use Rattle.rk_inv_base.proofs.Words.{arith, ◌≡◌, ℕ, eqb, refl, eq-eqb, ne_eqb, cases_eq, cond-true, cond-false, put, put2}

-- what is put is kept, and each other thing as it was
pub put_here : {X : Type 0} (old : ℕ → X) (number : ℕ) (thing : X) (q : ℕ) → q ≡ number → put old number thing q ≡ thing
put_here old number thing q is = cond-true (eqb q number) thing (old q) (eq-eqb q number is)

pub put_other : {X : Type 0} (old : ℕ → X) (number : ℕ) (thing : X) (q : ℕ) → (q ≡ number → ⊥) → put old number thing q ≡ old q
put_other old number thing q apart = cond-false (eqb q number) thing (old q) (ne_eqb q number apart)

-- a statement of what is kept for a number holds of what changed and of the rest
pub put_by : {X : Type 0} (old : ℕ → X) (number : ℕ) (change : X → X) (P : X → Type 0) (q : ℕ) → (q ≡ number → P (change (old q))) → ((q ≡ number → ⊥) → P (old q)) → P (put old number (change (old number)) q)
put_by {X} old number change near q here apart = grind (arith, put_here, put_other, cases_eq)

-- what is the thing at its number, and as it was at all others
pub put_is : {X : Type 0} (old : ℕ → X) (number : ℕ) (thing : X) (q : ℕ) (seen : X) → (q ≡ number → seen ≡ thing) → ((q ≡ number → ⊥) → seen ≡ old q) → seen ≡ put old number thing q
put_is {X} old number thing q seen here apart = put_by old number (λ _. thing) (λ (x : X). seen ≡ x) q here apart

-- putting what is there already changes nothing
pub put_same : {X : Type 0} (old : ℕ → X) (number : ℕ) → ◌≡◌ {A = ℕ → X} (put old number (old number)) old
put_same {X} old number i q = put_by old number (λ thing. thing) (λ (x : X). x ≡ old q) q (λ is. refl) (λ apart. refl) i

-- ---- so it is of what each master keeps of each tablet

module _ {X : Type 0} (old : ℕ → ℕ → X) (master number : ℕ) (change : X → X) where
  pub put2_by : (P : X → Type 0) (q r : ℕ) → (q ≡ master → r ≡ number → P (change (old q r))) → ((q ≡ master → r ≡ number → ⊥) → P (old q r)) → P (put2 old master number (change (old master number)) q r)
  put2_by P q r here apart = grind (arith, put_by, put)

pub put2_here : {X : Type 0} (old : ℕ → ℕ → X) (master number : ℕ) (thing : X) (q r : ℕ) → q ≡ master → r ≡ number → put2 old master number thing q r ≡ thing
put2_here {X} old master number thing q r at its =
    put2_by old master number (λ _. thing) (λ (x : X). x ≡ thing) q r (λ _ _. refl) (λ apart. absurd (apart at its))

pub put2_other : {X : Type 0} (old : ℕ → ℕ → X) (master number : ℕ) (thing : X) (q r : ℕ) → (q ≡ master → r ≡ number → ⊥) → put2 old master number thing q r ≡ old q r
put2_other {X} old master number thing q r apart =
    put2_by old master number (λ _. thing) (λ (x : X). x ≡ old q r) q r (λ at its. absurd (apart at its)) (λ _. refl)

pub put2_same : {X : Type 0} (old : ℕ → ℕ → X) (master number : ℕ) → ◌≡◌ {A = ℕ → ℕ → X} (put2 old master number (old master number)) old
put2_same {X} old master number i q r =
    put2_by old master number (λ thing. thing) (λ (thing : X). thing ≡ old q r) q r (λ at its. refl) (λ apart. refl) i
