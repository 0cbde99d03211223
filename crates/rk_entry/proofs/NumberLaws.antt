-- A number that is read is spelled so, and a number that is spelled so is read.
use Rattle.std.proofs.Common.{◌≡◌, ℕ, ◌%◌, ◌^◌, ◌<◌, ◌≤◌, Bool, true, false, cond, ltb, List, [], ◌∷◌, ◌++◌, length, take, drop, Ok, Err, refl, sym, ap, subst, arith, length-append}
use Rattle.std.specs.Int.{Width, w8, w16, w32, w64, byte_len, from_be_bytes, to_be_bytes}
use Rattle.std.proofs.lemmas.Bool.{ltb-false, le-ltb}
use Rattle.std.proofs.lemmas.List.{take_at, drop_at, take-append-drop, length-take, length-drop}
use Rattle.std.proofs.lemmas.Nat.{be_bytes_2, be_bytes_4, be_bytes_8, from_be_bytes-to_be_bytes_2, from_be_bytes-to_be_bytes_4, from_be_bytes-to_be_bytes_8}
use Rattle.rk_entry.specs.declared.error.DecodeError.TheVariants.{Cut}
use Rattle.rk_entry.specs.declared.error.TheConstants.{BAD_NUMBER}
use Rattle.rk_entry.specs.Numbers.{number_bytes, IsNumber, read_number, read_from}
use Rattle.rk_entry.proofs.Counts.{length-number_bytes}
use Rattle.rk_entry.proofs.Tools.{IsBytes, IsBytes-take, IsBytes-drop, bind_ok, unless_ok, Takes, takes_weaker}

-- what a width's bytes and numbers have to do with each other
pub record IsWide (w : Width) : Type 0 where
  pub back : (bytes : List ℕ) → length bytes ≡ byte_len w → IsBytes bytes → to_be_bytes w (from_be_bytes w bytes) ≡ bytes
  pub again : (n : ℕ) → n < 256 ^ byte_len w → from_be_bytes w (to_be_bytes w n) ≡ n
  pub below : (bytes : List ℕ) → IsBytes bytes → from_be_bytes w bytes < 256 ^ byte_len w

-- a byte that is read as a number is its byte
one_back : (bytes : List ℕ) → length bytes ≡ 1 → IsBytes bytes → to_be_bytes w8 (from_be_bytes w8 bytes) ≡ bytes
one_back [] len fits = absurd (omega (arith, len))
one_back (b ∷ []) len fits =
    let small : b % 256 ≡ b = omega (arith, fits 0) in
    ap (λ (n : ℕ). n ∷ []) small
one_back (b ∷ c ∷ bytes) len fits = absurd (omega (arith, len))

-- the laws of one byte
pub wide8 : IsWide w8
wide8 = grind (arith, one_back)

-- the laws of two bytes
pub wide16 : IsWide w16
wide16 = grind (arith, be_bytes_2, from_be_bytes-to_be_bytes_2)

-- the laws of four bytes
pub wide32 : IsWide w32
wide32 = grind (arith, be_bytes_4, from_be_bytes-to_be_bytes_4)

-- the laws of eight bytes
pub wide64 : IsWide w64
wide64 = grind (arith, be_bytes_8, from_be_bytes-to_be_bytes_8)

-- if something was read there were bytes enough
enough : {A : Type 0} (b : Bool) (x y : A) → cond b (Err Cut) (Ok x) ≡ Ok y → (b ≡ false) × (x ≡ y)
enough true x y e = absurd cc
enough false x y e = (refl, cc)

-- a number that is read fits its width and is spelled so
pub number_takes : (w : Width) → IsWide w → (bytes : List ℕ) (x : ℕ × List ℕ) → read_number w bytes ≡ Ok x → Takes bytes (number_bytes w x.0) x.1 (x.0 < 256 ^ byte_len w)
unfolding read_number number_bytes
number_takes w wide bytes x e =
    let read : ℕ × List ℕ = (from_be_bytes w (take (byte_len w) bytes), drop (byte_len w) bytes) in
    let g = enough (ltb (length bytes) (byte_len w)) read x e in
    let long : byte_len w ≤ length bytes = ltb-false _ _ g.0 in
    let len : length (take (byte_len w) bytes) ≡ byte_len w = omega (arith, length-take (byte_len w) bytes) in
    subst (λ (y : ℕ × List ℕ). Takes bytes (to_be_bytes w y.0) y.1 (y.0 < 256 ^ byte_len w)) g.1 (record {
      front = take (byte_len w) bytes;
      split = sym (take-append-drop (byte_len w) bytes);
      spelled = λ fits. let front_fits = IsBytes-take (byte_len w) bytes fits in
          (sym (wide.back (take (byte_len w) bytes) len front_fits), IsBytes-drop (byte_len w) bytes fits, wide.below (take (byte_len w) bytes) front_fits);
    })

-- a number takes some bytes
pub number_shorter : (w : Width) (bytes : List ℕ) (x : ℕ × List ℕ) → read_number w bytes ≡ Ok x → 0 < byte_len w → length x.1 < length bytes
unfolding read_number
number_shorter w bytes x e some =
    let read : ℕ × List ℕ = (from_be_bytes w (take (byte_len w) bytes), drop (byte_len w) bytes) in
    let g = enough (ltb (length bytes) (byte_len w)) read x e in
    let long : byte_len w ≤ length bytes = ltb-false _ _ g.0 in
    let shorter : length (drop (byte_len w) bytes) < length bytes = omega (arith, length-drop (byte_len w) bytes) in
    subst (λ (y : ℕ × List ℕ). length y.1 < length bytes) g.1 shorter

-- the bytes of a number are read as the number
number_is : (w : Width) → IsWide w → (n : ℕ) → n < 256 ^ byte_len w → from_be_bytes w (number_bytes w n) ≡ n
unfolding number_bytes
number_is w wide n lt = wide.again n lt

-- a number that is spelled is read, whatever follows it
pub number_again : (w : Width) → IsWide w → (n : ℕ) (rest : List ℕ) → n < 256 ^ byte_len w → read_number w (number_bytes w n ++ rest) ≡ Ok (n, rest)
unfolding read_number
number_again w wide n rest lt =
    let len = length-number_bytes w n in
    let long : ltb (length (number_bytes w n ++ rest)) (byte_len w) ≡ false = le-ltb _ _ (omega (arith, length-append (number_bytes w n) rest, len)) in
    rw (long, take_at (number_bytes w n) rest (byte_len w) len, drop_at (number_bytes w n) rest (byte_len w) len, number_is w wide n lt) refl

-- a number that is read is at least the least, and spelled so
pub from_takes : (w : Width) → IsWide w → (least : ℕ) (bytes : List ℕ) (x : ℕ × List ℕ) → read_from w least bytes ≡ Ok x → Takes bytes (number_bytes w x.0) x.1 (IsNumber w least x.0)
unfolding read_from
from_takes w wide least bytes x e =
    let b = bind_ok (read_number w bytes) e in
    let g = unless_ok (ltb b.0.0 least) BAD_NUMBER b.2 in
    let taken = number_takes w wide bytes b.0 b.1 in
    subst (λ (y : ℕ × List ℕ). Takes bytes (number_bytes w y.0) y.1 (IsNumber w least y.0)) g.1
    (takes_weaker (λ (fits : b.0.0 < 256 ^ byte_len w). record { least_is = ltb-false _ _ g.0; fits = fits }) taken)

-- a number that is at least the least and is spelled is read
pub from_again : (w : Width) → IsWide w → (least n : ℕ) (rest : List ℕ) → IsNumber w least n → read_from w least (number_bytes w n ++ rest) ≡ Ok (n, rest)
unfolding read_from
from_again w wide least n rest h =
    let lawful : ltb n least ≡ false = le-ltb _ _ h.least_is in
    rw (number_again w wide n rest h.fits, lawful) refl
