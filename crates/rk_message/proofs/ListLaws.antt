-- The laws of bytes and of lists after their counts.
use Rattle.std.proofs.Common.{◌≡◌, ℕ, zero, suc, ◌+◌, ◌*◌, ◌^◌, ◌<◌, ◌≤◌, Bool, true, false, cond, ltb, eqb, List, [], ◌∷◌, ◌++◌, length, take, drop, Result, Ok, Err, refl, sym, ap, subst, ◌∙◌, append_assoc, arith, length-append, eq-eqb}
use Rattle.std.specs.Prelude.{not}
use Rattle.std.specs.Int.{w32}
use Rattle.std.specs.List.{AllByRecursion, sum_by}
use Rattle.std.proofs.lemmas.Bool.{ltb-false, le-ltb, eqb-true}
use Rattle.std.proofs.lemmas.List.{take_at, drop_at, take-append-drop, length-take}
use Rattle.std.proofs.lemmas.List.Concat.{flat_map-cons}
use Rattle.std.proofs.lemmas.List.Sums.{sum_by-cons}
use Rattle.rk_entry.specs.declared.error.DecodeError.{DecodeError}
use Rattle.rk_entry.specs.declared.error.DecodeError.TheVariants.{Cut}
use Rattle.rk_entry.specs.Numbers.{number_bytes, read_number}
use Rattle.rk_entry.specs.Reading.{where_body_is}
use Rattle.rk_entry.proofs.Counts.{length-number_bytes}
use Rattle.rk_entry.proofs.NumberLaws.{wide32, number_takes, number_again}
use Rattle.rk_entry.proofs.Tools.{IsBytes-drop, bind_ok, unless_ok, ok_is, Takes, takes_both, takes_weaker}
use Rattle.rk_message.specs.declared.fields.TheConstants.{COUNT_BYTES}
use Rattle.rk_message.specs.Fields.{read_bytes, counted_bytes, read_last_count, read_last_bytes, elements_bytes, list_bytes, read_list, read_last_list}
use Rattle.rk_message.proofs.Codecs.{IsCodec}

-- if something was read there were bytes enough
enough : {A : Type 0} (b : Bool) (x y : A) → cond b (Err Cut) (Ok x) ≡ Ok y → (b ≡ false) × (x ≡ y)
enough true x y e = absurd cc
enough false x y e = (refl, cc)

-- what is not refused holds
not_false : (b : Bool) → not b ≡ false → b ≡ true
not_false true e = refl
not_false false e = absurd cc

-- what was read, if a body was as long as was asked for
pub body_was : {A : Type 0} (count body : ℕ) (x y : A) → where_body_is count body x ≡ Ok y → (body ≡ count) × (x ≡ y)
body_was count body x y e = grind (arith, unless_ok, eqb, eqb-true, not_false)

-- so many bytes as they are
pub bytes_codec : (count : ℕ) → IsCodec (λ bytes. bytes) length (λ bytes. length bytes ≡ count) (read_bytes count)
unfolding read_bytes
bytes_codec count = record {
  takes = λ bytes x e.
      let read : List ℕ × List ℕ = (take count bytes, drop count bytes) in
      let g = enough (ltb (length bytes) count) read x e in
      let len : length (take count bytes) ≡ count = omega (arith, length-take count bytes, ltb-false (length bytes) count g.0) in
      subst (λ (y : List ℕ × List ℕ). Takes bytes y.0 y.1 (length y.0 ≡ count)) g.1 (record {
        front = take count bytes;
        split = sym (take-append-drop count bytes);
        spelled = λ fits. (refl, IsBytes-drop count bytes fits, len);
      });
  again = λ bytes rest h.
      let long : ltb (length (bytes ++ rest)) count ≡ false = le-ltb _ _ (omega (arith, length-append bytes rest, h)) in
      rw (long, take_at bytes rest count h, drop_at bytes rest count h) refl;
  counted = λ bytes. refl;
}

-- the count of the bytes that end a body
pub last_count_codec : (first size : ℕ) → size < 256 ^ 4 → IsCodec (number_bytes w32) (λ n. 4) (λ n. size ≡ first + n) (read_last_count first size)
unfolding read_last_count
last_count_codec first size small = record {
  takes = λ bytes x e.
      let a = bind_ok (read_number w32 bytes) e in
      let g = body_was (first + a.0.0) size a.0 x a.2 in
      subst (λ (y : ℕ × List ℕ). Takes bytes (number_bytes w32 y.0) y.1 (size ≡ first + y.0)) g.1
      (takes_weaker (λ (fits : a.0.0 < 256 ^ 4). g.0) (number_takes w32 wide32 bytes a.0 a.1));
  again = λ n rest h.
      let fits : n < 256 ^ 4 = omega (arith, h, small) in
      rw (number_again w32 wide32 n rest fits, eq-eqb size (first + n) h) refl;
  counted = length-number_bytes w32;
}

-- the bytes that end a body, after their count
pub last_bytes_codec : (first size : ℕ) → size < 256 ^ 4 → IsCodec counted_bytes (λ bytes. COUNT_BYTES + length bytes) (λ bytes. size ≡ first + length bytes) (read_last_bytes first size)
unfolding counted_bytes read_last_bytes
last_bytes_codec first size small = record {
  takes = λ bytes x e.
      let a = bind_ok (read_last_count first size bytes) e in
      let count = (last_count_codec first size small).takes bytes a.0 a.1 in
      let all = takes_both count ((bytes_codec a.0.0).takes a.0.1 x a.2) in
      record {
        front = all.front;
        split = all.split;
        spelled = λ fits.
            let s = all.spelled fits in
            (s.0 ∙ ap (λ (n : ℕ). number_bytes w32 n ++ x.0) (sym s.2.1), s.1, s.2.0 ∙ ap (λ (n : ℕ). first + n) (sym s.2.1));
      };
  again = λ bytes rest h.
      rw (append_assoc (number_bytes w32 (length bytes)) bytes rest, (last_count_codec first size small).again (length bytes) (bytes ++ rest) h)
      ((bytes_codec (length bytes)).again bytes rest refl);
  counted = λ bytes. omega (arith, length-append (number_bytes w32 (length bytes)) bytes, length-number_bytes w32 (length bytes));
}

-- the first element is spelled before the others
pub elements_bytes-cons : {A : Type 0} (bytes : A → List ℕ) (x : A) (xs : List A) → elements_bytes bytes (x ∷ xs) ≡ bytes x ++ elements_bytes bytes xs
unfolding elements_bytes
elements_bytes-cons bytes x xs = flat_map-cons bytes x xs

-- no elements are spelled by no bytes
pub no_elements : {A : Type 0} (bytes : A → List ℕ) → elements_bytes bytes [] ≡ []
unfolding elements_bytes
no_elements bytes = refl

-- elements that are read are lawful, so many, and spelled so
list_takes : {A : Type 0} {spell : A → List ℕ} {size : A → ℕ} {P : A → Type 0} {read : List ℕ → Result (A × List ℕ) DecodeError}
    → IsCodec spell size P read → (count : ℕ) (bytes : List ℕ) (x : List A × List ℕ) → read_list read count bytes ≡ Ok x
    → Takes bytes (elements_bytes spell x.0) x.1 (AllByRecursion P x.0 × (length x.0 ≡ count))
unfolding read_list
list_takes {A = A} {spell = spell} {P = P} codec zero bytes x e =
    let none : Takes bytes [] bytes (AllByRecursion P [] × (length {A = A} [] ≡ 0)) = record { front = []; split = refl; spelled = λ fits. (refl, fits, (tt, refl)) } in
    subst (λ (y : List A × List ℕ). Takes bytes (elements_bytes spell y.0) y.1 (AllByRecursion P y.0 × (length y.0 ≡ 0))) (ok_is ([], bytes) x e)
    (subst (λ (t : List ℕ). Takes bytes t bytes (AllByRecursion P [] × (length {A = A} [] ≡ 0))) (sym (no_elements spell)) none)
list_takes {A = A} {spell = spell} {P = P} {read = read} codec (suc count) bytes x e =
    let a = bind_ok (read bytes) e in
    let b = bind_ok (read_list read count a.0.1) a.2 in
    let all = takes_both (codec.takes bytes a.0 a.1) (list_takes codec count a.0.1 b.0 b.1) in
    subst (λ (y : List A × List ℕ). Takes bytes (elements_bytes spell y.0) y.1 (AllByRecursion P y.0 × (length y.0 ≡ suc count))) (ok_is (a.0.0 ∷ b.0.0, b.0.1) x b.2)
    (subst (λ (t : List ℕ). Takes bytes t b.0.1 (AllByRecursion P (a.0.0 ∷ b.0.0) × (length (a.0.0 ∷ b.0.0) ≡ suc count))) (sym (elements_bytes-cons spell a.0.0 b.0.0))
    (takes_weaker (λ (h : P a.0.0 × (AllByRecursion P b.0.0 × (length b.0.0 ≡ count))). ((h.0, h.1.0), ap suc h.1.1)) all))

-- lawful elements that are spelled are read
list_again : {A : Type 0} {spell : A → List ℕ} {size : A → ℕ} {P : A → Type 0} {read : List ℕ → Result (A × List ℕ) DecodeError}
    → IsCodec spell size P read → (xs : List A) (rest : List ℕ) → AllByRecursion P xs → read_list read (length xs) (elements_bytes spell xs ++ rest) ≡ Ok (xs, rest)
unfolding read_list
list_again {spell = spell} codec [] rest each = rw (no_elements spell) refl
list_again {spell = spell} codec (x ∷ xs) rest each =
    rw (
      elements_bytes-cons spell x xs,
      append_assoc (spell x) (elements_bytes spell xs) rest,
      codec.again x (elements_bytes spell xs ++ rest) each.0,
      list_again codec xs rest each.1,
    ) refl

-- elements take the bytes of each
list_counted : {A : Type 0} {spell : A → List ℕ} {size : A → ℕ} {P : A → Type 0} {read : List ℕ → Result (A × List ℕ) DecodeError}
    → IsCodec spell size P read → (xs : List A) → length (elements_bytes spell xs) ≡ sum_by size xs
list_counted {spell = spell} codec [] = ap length (no_elements spell)
list_counted {spell = spell} {size = size} codec (x ∷ xs) =
    grind (arith, elements_bytes-cons, length-append, sum_by-cons, codec.counted, (list_counted codec xs))

-- so many elements, one after the other
pub list_codec : {A : Type 0} {spell : A → List ℕ} {size : A → ℕ} {P : A → Type 0} {read : List ℕ → Result (A × List ℕ) DecodeError}
    → IsCodec spell size P read → (count : ℕ) → IsCodec (elements_bytes spell) (sum_by size) (λ xs. AllByRecursion P xs × (length xs ≡ count)) (read_list read count)
list_codec {A = A} {spell = spell} {read = read} codec count = grind (arith, list_takes, list_again, list_counted)

-- elements of one size take so many times it
pub sum_by_same : {A : Type 0} (each : ℕ) (xs : List A) → sum_by (λ x. each) xs ≡ each * length xs
sum_by_same each [] = omega arith
sum_by_same each (x ∷ xs) = sum_by-cons (λ x. each) x xs ∙ ap (λ (n : ℕ). each + n) (sum_by_same each xs) ∙ more each (length xs)
  where
    more : (a b : ℕ) → a + a * b ≡ a * suc b
    more a b = omega arith

-- the list that ends a body, after its count
pub last_list_codec : {A : Type 0} {spell : A → List ℕ} {P : A → Type 0} {read : List ℕ → Result (A × List ℕ) DecodeError}
    (each first size : ℕ) → 0 < each → size < 256 ^ 4 → IsCodec spell (λ x. each) P read
    → IsCodec (list_bytes spell) (λ xs. COUNT_BYTES + each * length xs) (λ xs. AllByRecursion P xs × (size ≡ first + each * length xs)) (read_last_list read first each size)
unfolding list_bytes read_last_list
last_list_codec {A = A} {spell = spell} {P = P} {read = read} each first size some small codec = record {
  takes = λ bytes x e.
      let a = bind_ok (read_number w32 bytes) e in
      let b = bind_ok (where_body_is (first + each * a.0.0) size a.0) a.2 in
      let g = body_was (first + each * a.0.0) size a.0 b.0 b.1 in
      let count : Takes bytes (number_bytes w32 b.0.0) b.0.1 (size ≡ first + each * b.0.0) =
      subst (λ (y : ℕ × List ℕ). Takes bytes (number_bytes w32 y.0) y.1 (size ≡ first + each * y.0)) g.1
      (takes_weaker (λ (fits : a.0.0 < 256 ^ 4). g.0) (number_takes w32 wide32 bytes a.0 a.1)) in
      let all = takes_both count ((list_codec codec b.0.0).takes b.0.1 x b.2) in
      record {
        front = all.front;
        split = all.split;
        spelled = λ fits.
            let s = all.spelled fits in
            (s.0 ∙ ap (λ (n : ℕ). number_bytes w32 n ++ elements_bytes spell x.0) (sym s.2.1.1), s.1, (s.2.1.0, s.2.0 ∙ ap (λ (n : ℕ). first + each * n) (sym s.2.1.1)));
      };
  again = λ xs rest h.
      let fits : length xs < 256 ^ 4 = fewer each (length xs) first size some h.1 small in
      rw (
        append_assoc (number_bytes w32 (length xs)) (elements_bytes spell xs) rest,
        number_again w32 wide32 (length xs) (elements_bytes spell xs ++ rest) fits,
        eq-eqb size (first + each * length xs) h.1,
      )
      ((list_codec codec (length xs)).again xs rest (h.0, refl));
  counted = λ xs.
      omega (
        arith,
        length-append (number_bytes w32 (length xs)) (elements_bytes spell xs),
        length-number_bytes w32 (length xs),
        (list_codec codec (length xs)).counted xs,
        sum_by_same each xs,
      );
}
  where
    fewer : (each n first size : ℕ) → 0 < each → size ≡ first + each * n → size < 256 ^ 4 → n < 256 ^ 4
    fewer each n first size some is small = omega (arith, at_least each n some)
      where
        at_least : (each n : ℕ) → 0 < each → n ≤ each * n
        at_least each n some = grind arith
