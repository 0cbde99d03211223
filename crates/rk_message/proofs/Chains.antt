-- One field, and after it another whose count it gives.
use Rattle.std.proofs.Common.{◌≡◌, ℕ, ◌+◌, List, ◌++◌, length, ◌≤◌, Result, Ok, sym, ap, subst, ◌∙◌, append_assoc, arith, length-append}
use Rattle.rk_entry.specs.declared.error.DecodeError.{DecodeError}
use Rattle.rk_entry.specs.Steps.{◌>>=◌}
use Rattle.rk_entry.proofs.Tools.{bind_ok, takes_both}
use Rattle.rk_message.proofs.Codecs.{IsCodec}

-- A field `one`, and then the others, which are read knowing it.
pub then_codec : {A Y : Type 0} (one : Y → A) {bytes : A → List ℕ} {count : A → ℕ} {P : A → Type 0} {read : List ℕ → Result (A × List ℕ) DecodeError}
    {others : Y → List ℕ} {others_count : Y → ℕ} {Q : A → Y → Type 0} {read_others : A → List ℕ → Result (Y × List ℕ) DecodeError}
    → IsCodec bytes count P read → ((x : A) (y : Y) → Q x y → one y ≡ x) → ((x : A) → IsCodec others others_count (Q x) (read_others x))
    → IsCodec (λ y. bytes (one y) ++ others y) (λ y. count (one y) + others_count y) (λ y. P (one y) × Q (one y) y) (λ from. read from >>= λ x. read_others x.0 x.1)
then_codec one {bytes = bytes} {P = P} {read = read} {others = others} {Q = Q} {read_others = read_others} first is rest = record {
  takes = λ from y e.
      let x = bind_ok (read from) e in
      let both = takes_both (first.takes from x.0 x.1) ((rest x.0.0).takes x.0.1 y x.2) in
      record {
        front = both.front;
        split = both.split;
        spelled = λ fits.
            let h = both.spelled fits in
            let same : one y.0 ≡ x.0.0 = is x.0.0 y.0 h.2.1 in
            (h.0 ∙ ap (λ (z : _). bytes z ++ others y.0) (sym same), h.1, subst (λ (z : _). P z × Q z y.0) (sym same) h.2);
      };
  again = λ y after h.
      ap (λ (from : List ℕ). read from >>= λ x. read_others x.0 x.1) (append_assoc (bytes (one y)) (others y) after)
      ∙ ap (λ r. r >>= λ x. read_others x.0 x.1) (first.again (one y) (others y ++ after) h.0)
      ∙ (rest (one y)).again y after h.1;
  counted = λ y. omega (arith, length-append (bytes (one y)) (others y), first.counted (one y), (rest (one y)).counted y);
}

-- what is read is followed by no more bytes than there were
pub codec_shorter : {A : Type 0} {bytes : A → List ℕ} {count : A → ℕ} {P : A → Type 0} {read : List ℕ → Result (A × List ℕ) DecodeError} → IsCodec bytes count P read
    → (from : List ℕ) (x : A × List ℕ) → read from ≡ Ok x → length x.1 ≤ length from
codec_shorter codec from x e =
    let taken = codec.takes from x e in
    omega (arith, ap length taken.split, length-append taken.front x.1)
