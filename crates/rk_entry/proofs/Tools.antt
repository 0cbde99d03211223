-- What a step of reading that did not fail says.
use Rattle.std.proofs.Common.{◌≡◌, ℕ, ◌+◌, ◌<◌, Bool, true, false, List, ◌++◌, get_or, take, drop, Result, Ok, Err, refl, sym, ap, ◌∙◌, append_assoc, arith}
use Rattle.std.proofs.lemmas.Bool.{cases_lt}
use Rattle.std.proofs.lemmas.List.{length-take, get_or-drop, get_or-take, get_or_past}
use Rattle.rk_entry.specs.declared.error.DecodeError.{DecodeError}
use Rattle.rk_entry.specs.Steps.{◌>>=◌, unless}

-- each member is a byte
abbrev pub IsBytes : List ℕ → Type 0
IsBytes bytes = (i : ℕ) → get_or bytes i 0 < 256

-- what is left of bytes are bytes
pub IsBytes-drop : (n : ℕ) (bytes : List ℕ) → IsBytes bytes → IsBytes (drop n bytes)
IsBytes-drop n bytes h i = rw get_or-drop (h (n + i))

-- the first of some bytes are bytes
pub IsBytes-take : (n : ℕ) (bytes : List ℕ) → IsBytes bytes → IsBytes (take n bytes)
IsBytes-take n bytes h i = grind (arith, cases_lt, get_or-take, get_or_past, length-take)

-- what was read on with
pub bind_ok : {A B : Type 0} (r : Result A DecodeError) {f : A → Result B DecodeError} {y : B} → (r >>= f) ≡ Ok y → (x : A) × (r ≡ Ok x) × (f x ≡ Ok y)
bind_ok (Ok x) e = (x, refl, e)
bind_ok (Err d) e = absurd cc

-- a test that found nothing unlawful
pub unless_ok : {A : Type 0} (b : Bool) (code : ℕ) {x y : A} → unless b code x ≡ Ok y → (b ≡ false) × (x ≡ y)
unless_ok true code e = absurd cc
unless_ok false code e = (refl, cc)

-- a value that was read
abbrev read_as : {A : Type 0} → A → Result A DecodeError
read_as x = Ok x

-- what was read is one value
pub ok_is : {A : Type 0} (x y : A) → read_as x ≡ read_as y → x ≡ y
ok_is x y e = cc

-- What was taken from the front of bytes before the rest. If all are bytes, it is this text, and P holds.
pub record Takes (bytes text rest : List ℕ) (P : Type 0) : Type 0 where
  pub front : List ℕ
  pub split : bytes ≡ front ++ rest
  pub spelled : IsBytes bytes → (front ≡ text) × IsBytes rest × P

-- one field after the other
pub takes_both : {P Q : Type 0} {a x b y c : List ℕ} → Takes a x b P → Takes b y c Q → Takes a (x ++ y) c (P × Q)
takes_both {a = a} {x = x} {b = b} {y = y} {c = c} p q = record {
  front = p.front ++ q.front;
  split = p.split ∙ ap (λ (t : List ℕ). p.front ++ t) q.split ∙ sym (append_assoc p.front q.front c);
  spelled = λ fits.
      let f = p.spelled fits in
      let g = q.spelled f.1 in
      (ap (λ (t : List ℕ). t ++ q.front) f.0 ∙ ap (λ (t : List ℕ). x ++ t) g.0, g.1, (f.2, g.2));
}

-- what holds may be weakened
pub takes_weaker : {P Q : Type 0} {a x b : List ℕ} → (P → Q) → Takes a x b P → Takes a x b Q
takes_weaker h p = record { front = p.front; split = p.split; spelled = λ fits. let f = p.spelled fits in (f.0, f.1, h f.2) }
