-- Spellings and readers that belong together, and how those of a whole come from those of its parts.
use Rattle.std.proofs.Common.{◌≡◌, ℕ, ◌+◌, List, ◌++◌, length, Result, Ok, sym, ap, subst, ◌∙◌, append_assoc, arith, length-append}
use Rattle.rk_entry.specs.declared.error.DecodeError.{DecodeError}
use Rattle.rk_entry.specs.Steps.{◌>>=◌}
use Rattle.rk_entry.proofs.Tools.{bind_ok, ok_is, Takes, takes_both, takes_weaker}

-- What is read is lawful and spelled so; what is lawful and spelled so is read, whatever follows it; and a spelling has
-- as many bytes as are counted.
pub record IsCodec {A : Type 0} (bytes : A → List ℕ) (count : A → ℕ) (IsLawful : A → Type 0) (read : List ℕ → Result (A × List ℕ) DecodeError) : Type 0 where
  pub takes : (from : List ℕ) (x : A × List ℕ) → read from ≡ Ok x → Takes from (bytes x.0) x.1 (IsLawful x.0)
  pub again : (x : A) (rest : List ℕ) → IsLawful x → read (bytes x ++ rest) ≡ Ok (x, rest)
  pub counted : (x : A) → length (bytes x) ≡ count x

-- the same spelling with another count of the same bytes, and with facts that say the same
pub codec_as : {A : Type 0} {bytes : A → List ℕ} {count other : A → ℕ} {P Q : A → Type 0} {read : List ℕ → Result (A × List ℕ) DecodeError}
    → ((x : A) → count x ≡ other x) → ((x : A) → P x → Q x) → ((x : A) → Q x → P x) → IsCodec bytes count P read → IsCodec bytes other Q read
codec_as same to from codec = record {
  takes = λ bytes x e. takes_weaker (to x.0) (codec.takes bytes x e);
  again = λ x rest h. codec.again x rest (from x h);
  counted = λ x. codec.counted x ∙ same x;
}

-- two things, one after the other
pub fields2 : {A B Y : Type 0} {a : A → List ℕ} {m : A → ℕ} {P : A → Type 0} {read_a : List ℕ → Result (A × List ℕ) DecodeError}
    {b : B → List ℕ} {n : B → ℕ} {Q : B → Type 0} {read_b : List ℕ → Result (B × List ℕ) DecodeError}
    (make : A × B → Y) (parts : Y → A × B) → ((p : A × B) → parts (make p) ≡ p) → ((y : Y) → make (parts y) ≡ y)
    → IsCodec a m P read_a → IsCodec b n Q read_b
    → IsCodec (λ y. a (parts y).0 ++ b (parts y).1) (λ y. m (parts y).0 + n (parts y).1) (λ y. P (parts y).0 × Q (parts y).1)
    (λ bytes. read_a bytes >>= λ x. read_b x.1 >>= λ z. Ok (make (x.0, z.0), z.1))
fields2 {A = A} {B = B} {Y = Y} {a = a} {P = P} {read_a = read_a} {b = b} {Q = Q} {read_b = read_b} make parts forth back first second = record {
  takes = λ bytes y e.
      let x = bind_ok (read_a bytes) e in
      let z = bind_ok (read_b x.0.1) x.2 in
      let pair : A × B = (x.0.0, z.0.0) in
      let T : A × B → Type 0 = λ p. Takes bytes (a p.0 ++ b p.1) z.0.1 (P p.0 × Q p.1) in
      let both : T pair = takes_both (first.takes bytes x.0 x.1) (second.takes x.0.1 z.0 z.1) in
      subst (λ (w : Y × List ℕ). Takes bytes (a (parts w.0).0 ++ b (parts w.0).1) w.1 (P (parts w.0).0 × Q (parts w.0).1)) {x = (make pair, z.0.1)} (ok_is (make pair, z.0.1) y z.2)
      (subst T {x = pair} (sym (forth pair)) both);
  again = λ y rest h.
      let x = a (parts y).0 in
      let z = b (parts y).1 in
      rw (append_assoc x z rest, first.again (parts y).0 (z ++ rest) h.0, second.again (parts y).1 rest h.1)
      (ap (λ (w : Y). Ok (w, rest)) (back y));
  counted = λ y. omega (arith, length-append (a (parts y).0) (b (parts y).1), first.counted (parts y).0, second.counted (parts y).1);
}

-- three things, one after the other
pub fields3 : {A B C Y : Type 0} {a : A → List ℕ} {m : A → ℕ} {P : A → Type 0} {read_a : List ℕ → Result (A × List ℕ) DecodeError}
    {b : B → List ℕ} {n : B → ℕ} {Q : B → Type 0} {read_b : List ℕ → Result (B × List ℕ) DecodeError}
    {c : C → List ℕ} {o : C → ℕ} {R : C → Type 0} {read_c : List ℕ → Result (C × List ℕ) DecodeError}
    (make : A × B × C → Y) (parts : Y → A × B × C) → ((p : A × B × C) → parts (make p) ≡ p) → ((y : Y) → make (parts y) ≡ y)
    → IsCodec a m P read_a → IsCodec b n Q read_b → IsCodec c o R read_c
    → IsCodec (λ y. a (parts y).0 ++ (b (parts y).1 ++ c (parts y).2)) (λ y. m (parts y).0 + n (parts y).1 + o (parts y).2) (λ y. P (parts y).0 × Q (parts y).1 × R (parts y).2)
    (λ bytes. read_a bytes >>= λ x. read_b x.1 >>= λ z. read_c z.1 >>= λ w. Ok (make (x.0, z.0, w.0), w.1))
fields3 {A = A} {B = B} {C = C} {Y = Y} {a = a} {P = P} {read_a = read_a} {b = b} {Q = Q} {read_b = read_b} {c = c} {R = R} {read_c = read_c} make parts forth back first second third = record {
  takes = λ bytes y e.
      let x = bind_ok (read_a bytes) e in
      let z = bind_ok (read_b x.0.1) x.2 in
      let w = bind_ok (read_c z.0.1) z.2 in
      let all : A × B × C = (x.0.0, z.0.0, w.0.0) in
      let T : A × B × C → Type 0 = λ p. Takes bytes (a p.0 ++ (b p.1 ++ c p.2)) w.0.1 (P p.0 × Q p.1 × R p.2) in
      let both : T all =
      takes_weaker (λ (h : P x.0.0 × (Q z.0.0 × R w.0.0)). (h.0, h.1.0, h.1.1))
      (takes_both (first.takes bytes x.0 x.1) (takes_both (second.takes x.0.1 z.0 z.1) (third.takes z.0.1 w.0 w.1))) in
      subst (λ (v : Y × List ℕ). Takes bytes (a (parts v.0).0 ++ (b (parts v.0).1 ++ c (parts v.0).2)) v.1 (P (parts v.0).0 × Q (parts v.0).1 × R (parts v.0).2))
      {x = (make all, w.0.1)} (ok_is (make all, w.0.1) y w.2) (subst T {x = all} (sym (forth all)) both);
  again = λ y rest h.
      let x = a (parts y).0 in
      let z = b (parts y).1 in
      let w = c (parts y).2 in
      rw (
        append_assoc x (z ++ w) rest,
        append_assoc z w rest,
        first.again (parts y).0 (z ++ (w ++ rest)) h.0,
        second.again (parts y).1 (w ++ rest) h.1,
        third.again (parts y).2 rest h.2,
      )
      (ap (λ (v : Y). Ok (v, rest)) (back y));
  counted = λ y.
      omega (
        arith,
        length-append (a (parts y).0) (b (parts y).1 ++ c (parts y).2),
        length-append (b (parts y).1) (c (parts y).2),
        first.counted (parts y).0,
        second.counted (parts y).1,
        third.counted (parts y).2,
      );
}

-- four things, one after the other
pub fields4 : {A B C D Y : Type 0} {a : A → List ℕ} {m : A → ℕ} {P : A → Type 0} {read_a : List ℕ → Result (A × List ℕ) DecodeError}
    {b : B → List ℕ} {n : B → ℕ} {Q : B → Type 0} {read_b : List ℕ → Result (B × List ℕ) DecodeError}
    {c : C → List ℕ} {o : C → ℕ} {R : C → Type 0} {read_c : List ℕ → Result (C × List ℕ) DecodeError}
    {d : D → List ℕ} {k : D → ℕ} {S : D → Type 0} {read_d : List ℕ → Result (D × List ℕ) DecodeError}
    (make : A × B × C × D → Y) (parts : Y → A × B × C × D) → ((p : A × B × C × D) → parts (make p) ≡ p) → ((y : Y) → make (parts y) ≡ y)
    → IsCodec a m P read_a → IsCodec b n Q read_b → IsCodec c o R read_c → IsCodec d k S read_d
    → IsCodec (λ y. a (parts y).0 ++ (b (parts y).1 ++ (c (parts y).2 ++ d (parts y).3)))
    (λ y. m (parts y).0 + n (parts y).1 + o (parts y).2 + k (parts y).3) (λ y. P (parts y).0 × Q (parts y).1 × R (parts y).2 × S (parts y).3)
    (λ bytes. read_a bytes >>= λ x. read_b x.1 >>= λ z. read_c z.1 >>= λ w. read_d w.1 >>= λ v. Ok (make (x.0, z.0, w.0, v.0), v.1))
fields4 {A = A} {B = B} {C = C} {D = D} {Y = Y} {a = a} {P = P} {read_a = read_a} {b = b} {Q = Q} {read_b = read_b} {c = c} {R = R} {read_c = read_c} {d = d} {S = S} {read_d = read_d} make parts forth back first second third fourth =
    record {
      takes = λ bytes y e.
          let x = bind_ok (read_a bytes) e in
          let z = bind_ok (read_b x.0.1) x.2 in
          let w = bind_ok (read_c z.0.1) z.2 in
          let v = bind_ok (read_d w.0.1) w.2 in
          let all : A × B × C × D = (x.0.0, z.0.0, w.0.0, v.0.0) in
          let T : A × B × C × D → Type 0 = λ p. Takes bytes (a p.0 ++ (b p.1 ++ (c p.2 ++ d p.3))) v.0.1 (P p.0 × Q p.1 × R p.2 × S p.3) in
          let both : T all =
          takes_weaker (λ (h : P x.0.0 × (Q z.0.0 × (R w.0.0 × S v.0.0))). (h.0, h.1.0, h.1.1.0, h.1.1.1))
          (takes_both (first.takes bytes x.0 x.1) (takes_both (second.takes x.0.1 z.0 z.1) (takes_both (third.takes z.0.1 w.0 w.1) (fourth.takes w.0.1 v.0 v.1)))) in
          subst (λ (u : Y × List ℕ). Takes bytes (a (parts u.0).0 ++ (b (parts u.0).1 ++ (c (parts u.0).2 ++ d (parts u.0).3))) u.1 (P (parts u.0).0 × Q (parts u.0).1 × R (parts u.0).2 × S (parts u.0).3))
          {x = (make all, v.0.1)} (ok_is (make all, v.0.1) y v.2) (subst T {x = all} (sym (forth all)) both);
      again = λ y rest h.
          let x = a (parts y).0 in
          let z = b (parts y).1 in
          let w = c (parts y).2 in
          let v = d (parts y).3 in
          rw (
            append_assoc x (z ++ (w ++ v)) rest,
            append_assoc z (w ++ v) rest,
            append_assoc w v rest,
            first.again (parts y).0 (z ++ (w ++ (v ++ rest))) h.0,
            second.again (parts y).1 (w ++ (v ++ rest)) h.1,
            third.again (parts y).2 (v ++ rest) h.2,
            fourth.again (parts y).3 rest h.3,
          )
          (ap (λ (u : Y). Ok (u, rest)) (back y));
      counted = λ y.
          omega (
            arith,
            length-append (a (parts y).0) (b (parts y).1 ++ (c (parts y).2 ++ d (parts y).3)),
            length-append (b (parts y).1) (c (parts y).2 ++ d (parts y).3),
            length-append (c (parts y).2) (d (parts y).3),
            first.counted (parts y).0,
            second.counted (parts y).1,
            third.counted (parts y).2,
            fourth.counted (parts y).3,
          );
    }
