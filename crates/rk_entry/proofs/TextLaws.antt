-- A key or a value that is read is spelled so, and a key or a value that is spelled so is read.
use Rattle.std.proofs.Common.{◌≡◌, ℕ, ◌^◌, ◌<◌, ◌≤◌, Bool, true, false, cond, ltb, List, ◌++◌, length, take, drop, Option, Some, None, Result, Ok, Err, refl, sym, ap, subst, ◌∙◌, arith, length-append}
use Rattle.std.specs.Prelude.{◌||◌, not, is_some}
use Rattle.std.specs.Int.{w8, w32, is_in_range}
use Rattle.std.specs.Option.{option_map}
use Rattle.std.proofs.lemmas.Bool.{ltb-false, le-ltb}
use Rattle.std.proofs.lemmas.Bool.Decides.{nat_tests}
use Rattle.std.proofs.lemmas.List.{take_at, drop_at, take-append-drop, length-take}
use Rattle.rk_types.specs.Text.{key_fault, value_fault, text_fault, bad_byte}
use Rattle.rk_types.specs.declared.text.TextError.{TextError}
use Rattle.rk_types.specs.declared.text.TextError.TheVariants.{Length, Byte}
use Rattle.rk_types.specs.declared.text.TheConstants.{LONGEST_KEY}
use Rattle.rk_entry.specs.declared.error.DecodeError.{DecodeError}
use Rattle.rk_entry.specs.declared.error.DecodeError.TheVariants.{Cut}
use Rattle.rk_entry.specs.declared.error.TheConstants.{BAD_KEY, BAD_VALUE}
use Rattle.rk_entry.specs.Steps.{unless}
use Rattle.rk_entry.specs.Numbers.{number_bytes, read_number}
use Rattle.rk_entry.specs.Texts.{read_key_length, read_key, read_value_length, read_value}
use Rattle.rk_entry.proofs.Tools.{IsBytes-drop, bind_ok, unless_ok, Takes, takes_weaker}
use Rattle.rk_entry.proofs.NumberLaws.{wide8, wide32, number_takes, number_again}

-- what is no fault is none
pub no_fault : (o : Option TextError) → is_some o ≡ false → o ≡ None
no_fault None e = refl
no_fault (Some f) e = absurd cc

-- a test of a range, both ways
pub in_range_is : (lo hi n : ℕ) → not (is_in_range lo hi n) ≡ false → (lo ≤ n) × (n ≤ hi)
in_range_is lo hi n e = grind (arith, nat_tests)

-- a number between two is in their range
pub is_in_range_of : (lo hi n : ℕ) → lo ≤ n → n ≤ hi → is_in_range lo hi n ≡ true
is_in_range_of lo hi n below above = grind (arith, nat_tests)

-- if a length is no fault it is within its limits
limits : (shortest longest n : ℕ) (fault other : Option TextError) (f : TextError) → fault ≡ Some f → cond (ltb n shortest || ltb longest n) fault other ≡ None → (shortest ≤ n) × (n ≤ longest)
limits shortest longest n fault other f is e = grind (arith, nat_tests)

-- text without a fault is within its limits
pub text_within : (shortest longest : ℕ) (bytes : List ℕ) → text_fault shortest longest bytes ≡ None → (shortest ≤ length bytes) × (length bytes ≤ longest)
text_within shortest longest bytes e =
    limits shortest longest (length bytes) (Some (Length (length bytes))) (option_map Byte (bad_byte bytes)) (Length (length bytes)) refl e

-- if a text was read there were bytes enough
enough : {A : Type 0} (b : Bool) (x y : Result A DecodeError) (z : A) → y ≡ Err Cut → cond b y x ≡ Ok z → (b ≡ false) × (x ≡ Ok z)
enough true x y z cut e = absurd cc
enough false x y z cut e = (refl, e)

-- the length of a key that is read is within its limits, and spelled so
pub key_length_takes : (bytes : List ℕ) (x : ℕ × List ℕ) → read_key_length bytes ≡ Ok x → Takes bytes (number_bytes w8 x.0) x.1 ((1 ≤ x.0) × (x.0 ≤ LONGEST_KEY))
unfolding read_key_length
key_length_takes bytes x e =
    let b = bind_ok (read_number w8 bytes) e in
    let g = unless_ok (not (is_in_range 1 LONGEST_KEY b.0.0)) BAD_KEY b.2 in
    subst (λ (y : ℕ × List ℕ). Takes bytes (number_bytes w8 y.0) y.1 ((1 ≤ y.0) × (y.0 ≤ LONGEST_KEY))) g.1
    (takes_weaker (λ (fits : b.0.0 < 256). in_range_is 1 LONGEST_KEY b.0.0 g.0) (number_takes w8 wide8 bytes b.0 b.1))

-- a key that is read is a key, and its bytes are those that were taken
pub key_takes : (count : ℕ) (bytes : List ℕ) (x : List ℕ × List ℕ) → read_key count bytes ≡ Ok x → Takes bytes x.0 x.1 ((length x.0 ≡ count) × (key_fault x.0 ≡ None))
unfolding read_key
key_takes count bytes x e =
    let front = take count bytes in
    let a = enough (ltb (length bytes) count) (unless (is_some (key_fault front)) BAD_KEY (front, drop count bytes)) (Err Cut) x refl e in
    let g = unless_ok (is_some (key_fault front)) BAD_KEY a.1 in
    let long : count ≤ length bytes = ltb-false _ _ a.0 in
    let len : length front ≡ count = omega (arith, length-take count bytes) in
    subst (λ (y : List ℕ × List ℕ). Takes bytes y.0 y.1 ((length y.0 ≡ count) × (key_fault y.0 ≡ None))) g.1 (record {
      front = front;
      split = sym (take-append-drop count bytes);
      spelled = λ fits. (refl, IsBytes-drop count bytes fits, (len, no_fault (key_fault front) g.0));
    })

-- a key that is read has the length that was asked for
pub key_counts : (count : ℕ) (bytes : List ℕ) (x : List ℕ × List ℕ) → read_key count bytes ≡ Ok x → length x.0 ≡ count
unfolding read_key
key_counts count bytes x e =
    let front = take count bytes in
    let a = enough (ltb (length bytes) count) (unless (is_some (key_fault front)) BAD_KEY (front, drop count bytes)) (Err Cut) x refl e in
    let g = unless_ok (is_some (key_fault front)) BAD_KEY a.1 in
    let len : length front ≡ count = omega (arith, length-take count bytes, ltb-false (length bytes) count a.0) in
    ap (λ (y : List ℕ × List ℕ). length y.0) (sym g.1) ∙ len

-- the length of a key that is spelled is read
pub key_length_again : (key rest : List ℕ) → key_fault key ≡ None → read_key_length (number_bytes w8 (length key) ++ rest) ≡ Ok (length key, rest)
unfolding read_key_length
key_length_again key rest lawful =
    let within = text_within 1 LONGEST_KEY key lawful in
    let small : length key < 256 = omega (arith, within.1) in
    let lawful : is_in_range 1 LONGEST_KEY (length key) ≡ true = is_in_range_of 1 LONGEST_KEY (length key) within.0 within.1 in
    rw (number_again w8 wide8 (length key) rest small, lawful) refl

-- the bytes of a key are read as the key
pub key_again : (key rest : List ℕ) → key_fault key ≡ None → read_key (length key) (key ++ rest) ≡ Ok (key, rest)
unfolding read_key
key_again key rest lawful =
    let long : ltb (length (key ++ rest)) (length key) ≡ false = le-ltb _ _ (omega (arith, length-append key rest)) in
    rw (long, take_at key rest (length key) refl, drop_at key rest (length key) refl, lawful) refl

-- the length of a value that is read is within the limits, and spelled so
pub value_length_takes : (shortest longest : ℕ) (bytes : List ℕ) (x : ℕ × List ℕ) → read_value_length shortest longest bytes ≡ Ok x → Takes bytes (number_bytes w32 x.0) x.1 ((shortest ≤ x.0) × (x.0 ≤ longest))
unfolding read_value_length
value_length_takes shortest longest bytes x e =
    let b = bind_ok (read_number w32 bytes) e in
    let g = unless_ok (not (is_in_range shortest longest b.0.0)) BAD_VALUE b.2 in
    subst (λ (y : ℕ × List ℕ). Takes bytes (number_bytes w32 y.0) y.1 ((shortest ≤ y.0) × (y.0 ≤ longest))) g.1
    (takes_weaker (λ (fits : b.0.0 < 256 ^ 4). in_range_is shortest longest b.0.0 g.0) (number_takes w32 wide32 bytes b.0 b.1))

-- a value that is read is a value, and its bytes are those that were taken
pub value_takes : (count : ℕ) (bytes : List ℕ) (x : List ℕ × List ℕ) → read_value count bytes ≡ Ok x → Takes bytes x.0 x.1 ((length x.0 ≡ count) × (value_fault x.0 ≡ None))
unfolding read_value
value_takes count bytes x e =
    let front = take count bytes in
    let a = enough (ltb (length bytes) count) (unless (is_some (value_fault front)) BAD_VALUE (front, drop count bytes)) (Err Cut) x refl e in
    let g = unless_ok (is_some (value_fault front)) BAD_VALUE a.1 in
    let long : count ≤ length bytes = ltb-false _ _ a.0 in
    let len : length front ≡ count = omega (arith, length-take count bytes) in
    subst (λ (y : List ℕ × List ℕ). Takes bytes y.0 y.1 ((length y.0 ≡ count) × (value_fault y.0 ≡ None))) g.1 (record {
      front = front;
      split = sym (take-append-drop count bytes);
      spelled = λ fits. (refl, IsBytes-drop count bytes fits, (len, no_fault (value_fault front) g.0));
    })

-- a value that is read has the length that was asked for
pub value_counts : (count : ℕ) (bytes : List ℕ) (x : List ℕ × List ℕ) → read_value count bytes ≡ Ok x → length x.0 ≡ count
unfolding read_value
value_counts count bytes x e =
    let front = take count bytes in
    let a = enough (ltb (length bytes) count) (unless (is_some (value_fault front)) BAD_VALUE (front, drop count bytes)) (Err Cut) x refl e in
    let g = unless_ok (is_some (value_fault front)) BAD_VALUE a.1 in
    let len : length front ≡ count = omega (arith, length-take count bytes, ltb-false (length bytes) count a.0) in
    ap (λ (y : List ℕ × List ℕ). length y.0) (sym g.1) ∙ len

-- the length of a value that is spelled is read
pub value_length_again : (shortest longest n : ℕ) (rest : List ℕ) → shortest ≤ n → n ≤ longest → n < 256 ^ 4 → read_value_length shortest longest (number_bytes w32 n ++ rest) ≡ Ok (n, rest)
unfolding read_value_length
value_length_again shortest longest n rest below above small =
    let lawful : is_in_range shortest longest n ≡ true = is_in_range_of shortest longest n below above in
    rw (number_again w32 wide32 n rest small, lawful) refl

-- the bytes of a value are read as the value
pub value_again : (value rest : List ℕ) → value_fault value ≡ None → read_value (length value) (value ++ rest) ≡ Ok (value, rest)
unfolding read_value
value_again value rest lawful =
    let long : ltb (length (value ++ rest)) (length value) ≡ false = le-ltb _ _ (omega (arith, length-append value rest)) in
    rw (long, take_at value rest (length value) refl, drop_at value rest (length value) refl, lawful) refl
