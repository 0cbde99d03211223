-- Decimal digits distinguish numbers, alone and in pairs.
use Rattle.std.proofs.Common.{◌≡◌, ◌≢◌, ℕ, ◌<◌, ◌^◌, List, [], ◌∷◌, ◌++◌, sym, ◌∙◌, arith}
use Rattle.std.specs.Prelude.{◌==◌, ◌&&◌, codes, decimal, bytes_eq}
use Rattle.std.specs.Char.{digit_value}
use Rattle.std.specs.Str.Parse.{AllDigits}
use Rattle.std.proofs.lemmas.Bool.Decides.{nat_tests, same_from_decides}
use Rattle.std.proofs.lemmas.List.{append_assoc}
use Rattle.std.proofs.lemmas.Fmt.{decimal_injective, decimal_is_IsNumeral}
use Rattle.std.proofs.lemmas.Slice.Eq.{bytes_eq-Decides}

-- equal digits are those of equal numbers
pub same_digits : (m n : ℕ) → m < 2 ^ 64 → n < 2 ^ 64 → (m == n) ≡ bytes_eq (decimal m) (decimal n)
same_digits m n m_fits n_fits = grind (arith, bytes_eq-Decides, same_from_decides, decimal_injective)

-- a digit is no blank
digit_no_blank : (byte : ℕ) → digit_value byte < 10 → byte ≢ 32
digit_no_blank byte digit = λ same. grind (arith, nat_tests)

-- texts that digits begin, and a blank ends them: equal ones have equal digits, and the same behind the blank
parted : (xs ys more rest : List ℕ) → AllDigits 10 xs → AllDigits 10 ys → xs ++ 32 ∷ more ≡ ys ++ 32 ∷ rest → (xs ≡ ys) × (more ≡ rest)
parted [] [] more rest x_digits y_digits same = grind arith
parted [] (y ∷ ys) more rest x_digits y_digits same = grind (arith, digit_no_blank, y_digits.0)
parted (x ∷ xs) [] more rest x_digits y_digits same = grind (arith, digit_no_blank, x_digits.0)
parted (x ∷ xs) (y ∷ ys) more rest x_digits y_digits same =
    let head : x ≡ y = cc in
    let tail : xs ++ 32 ∷ more ≡ ys ++ 32 ∷ rest = cc in
    let both = parted xs ys more rest x_digits.1 y_digits.1 tail in
    ((λ i. head i ∷ both.0 i), both.1)

-- two numbers with a blank between them
abbrev pair_text : ℕ → ℕ → List ℕ
pair_text m n = decimal m ++ codes " " ++ decimal n

-- pairs with equal digits are those of equal numbers
pairs_apart : (m n p q : ℕ) → m < 2 ^ 64 → n < 2 ^ 64 → p < 2 ^ 64 → q < 2 ^ 64 → pair_text m n ≡ pair_text p q → (m ≡ p) × (n ≡ q)
pairs_apart m n p q m_fits n_fits p_fits q_fits same =
    let both : (decimal m ≡ decimal p) × (decimal n ≡ decimal q) =
    parted (decimal m) (decimal p) (decimal n) (decimal q) (decimal_is_IsNumeral m m_fits).0.1 (decimal_is_IsNumeral p p_fits).0.1
    (sym (append_assoc (decimal m) (codes " ") (decimal n)) ∙ same ∙ append_assoc (decimal p) (codes " ") (decimal q))
    in
    (decimal_injective m p m_fits p_fits both.0, decimal_injective n q n_fits q_fits both.1)

pub same_pairs : (m n p q : ℕ) → m < 2 ^ 64 → n < 2 ^ 64 → p < 2 ^ 64 → q < 2 ^ 64
    → ((m == p) && (n == q)) ≡ bytes_eq (decimal m ++ codes " " ++ decimal n) (decimal p ++ codes " " ++ decimal q)
same_pairs m n p q m_fits n_fits p_fits q_fits = grind (arith, bytes_eq-Decides, same_from_decides, pairs_apart)
