-- Words of digits, and what std reads in them.
use Rattle.std.proofs.Common.{◌≡◌, ◌≢◌, ℕ, zero, suc, ◌<◌, ◌≤◌, ◌^◌, Bool, true, false, ◌&&◌, List, [], ◌∷◌, length, get_or, refl, arith}
use Rattle.std.specs.Prelude.{IfNone, Result, Ok, Err, IsOk, MatchResult}
use Rattle.std.specs.List.{list_all}
use Rattle.std.specs.Char.{is_ascii_digit, digit_value}
use Rattle.std.specs.Result.{result_ok}
use Rattle.std.proofs.lemmas.Bool.{ltb-true}
use Rattle.std.specs.Str.{IsAscii, IsUtf8}
use Rattle.std.specs.Str.Parse.{AllDigits, ParsesUnsigned, digits_value}
use Rattle.std.proofs.lemmas.Bool.Decides.{nat_tests}
use Rattle.std.proofs.lemmas.Str.{IsUtf8-from_ascii}
use Rattle.std.proofs.lemmas.Str.Parse.{without_leading_plus_none}
use Rattle.std.proofs.lemmas.Int.Digits.{digits_value-lt}
use Rattle.rk_script.specs.Numbers.{is_decimal, is_lower_hex}

-- two tests that hold together hold each
pub both_hold : (a b : Bool) → (a && b) ≡ true → (a ≡ true) × (b ≡ true)
both_hold true b e = (refl, e)
both_hold false b e = absurd (cc)

-- bytes below 128 are ASCII
pub all_below : (test : ℕ → Bool) → ((byte : ℕ) → test byte ≡ true → byte < 128) → (word : List ℕ) → list_all test word ≡ true → (i : ℕ) → get_or word i 0 < 128
all_below test below [] all i = omega arith
all_below test below (byte ∷ word) all zero = below byte (both_hold (test byte) (list_all test word) all).0
all_below test below (byte ∷ word) all (suc i) = all_below test below word (both_hold (test byte) (list_all test word) all).1 i

-- what each byte of a word is a digit of
pub all_digits : (radix : ℕ) (test : ℕ → Bool) → ((byte : ℕ) → test byte ≡ true → digit_value byte < radix) → (word : List ℕ) → list_all test word ≡ true → AllDigits radix word
all_digits radix test digit [] all = tt
all_digits radix test digit (byte ∷ word) all =
    let parts : (test byte ≡ true) × (list_all test word ≡ true) = both_hold (test byte) (list_all test word) all in
    (digit byte parts.0, all_digits radix test digit word parts.1)

-- the first byte of a word passes the test that all pass
pub first_passes : (test : ℕ → Bool) (word : List ℕ) → list_all test word ≡ true → 0 < length word → test (get_or word 0 0) ≡ true
first_passes test [] all some = absurd (omega arith)
first_passes test (byte ∷ word) all some = (both_hold (test byte) (list_all test word) all).0

-- ASCII is read as text
pub IsOk-from_ascii : {A E : Type 0} (P : A → Type 0) (Q : E → Type 0) (word : List ℕ) → IsAscii word → (r : Result A E) → MatchResult r (λ s. P s × IsUtf8 word) (λ e. ¬ (IsUtf8 word) × Q e) → IsOk r
IsOk-from_ascii P Q word ascii (Ok s) told = refl
IsOk-from_ascii P Q word ascii (Err e) told = absurd (told.0 (IsUtf8-from_ascii word ascii))

-- digits are read as their number, if it fits
pub parses_digits : {E : Type 0} (radix : ℕ) (word : List ℕ) (r : Result ℕ E) → AllDigits radix word → 0 < length word → get_or word 0 0 ≢ 43 → ParsesUnsigned 64 radix word r → MatchResult r (λ number. number ≡ digits_value radix word) (λ e. 2 ^ 64 ≤ digits_value radix word)
parses_digits radix word r digits some no_plus parses = grind (arith, without_leading_plus_none)

-- a decimal number is not empty, and is of digits
pub decimal_parts : (word : List ℕ) → is_decimal word ≡ true → (list_all is_ascii_digit word ≡ true) × (0 < length word)
decimal_parts word e = grind (arith, both_hold, ltb-true)

pub decimal_ascii : (word : List ℕ) → is_decimal word ≡ true → IsAscii word
decimal_ascii word e = grind (arith, all_below, decimal_parts, nat_tests)

pub hex_ascii : (word : List ℕ) → list_all is_lower_hex word ≡ true → IsAscii word
hex_ascii word e = grind (arith, all_below, nat_tests)

-- std reads a decimal number, if it fits
pub parses_decimal : {E : Type 0} (word : List ℕ) (r : Result ℕ E) → is_decimal word ≡ true → ParsesUnsigned 64 10 word r → MatchResult r (λ number. number ≡ digits_value 10 word) (λ e. 2 ^ 64 ≤ digits_value 10 word)
parses_decimal word r e parses = grind (arith, decimal_parts, parses_digits, all_digits, first_passes, nat_tests)

-- std reads sixteen hexadecimal digits, which fit
pub parses_hex : {E : Type 0} (word : List ℕ) (r : Result ℕ E) → length word ≡ 16 → list_all is_lower_hex word ≡ true → ParsesUnsigned 64 16 word r → MatchResult r (λ number. number ≡ digits_value 16 word) (λ e. ⊥)
parses_hex {E} word r count all parses = grind (arith, parses_digits, all_digits, first_passes, digits_value-lt, nat_tests)

-- a number that was not read is too large
pub IfNone-from_err : {E : Type 0} (P : ℕ → Type 0) (Q : Type 0) (r : Result ℕ E) → MatchResult r P (λ e. Q) → IfNone (result_ok r) Q
IfNone-from_err P Q (Ok number) told = tt
IfNone-from_err P Q (Err e) told = told

-- if no error can be, there is a value
pub IsOk-from_value : {E : Type 0} (P : ℕ → Type 0) (r : Result ℕ E) → MatchResult r P (λ e. ⊥) → IsOk r
IsOk-from_value P (Ok number) told = refl
IsOk-from_value P (Err e) told = absurd told
