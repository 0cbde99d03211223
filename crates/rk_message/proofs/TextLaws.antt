-- The laws of keys, values and numbers that end a frame.
use Rattle.std.proofs.Common.{◌≡◌, ℕ, ◌+◌, ◌≤◌, List, ◌++◌, length, None, refl, sym, ap, subst, ◌∙◌, append_assoc, arith, eq-eqb}
use Rattle.std.specs.Int.{Width, w8, w32, byte_len}
use Rattle.rk_types.specs.Text.{key_fault, value_fault}
use Rattle.rk_types.specs.declared.text.TheConstants.{LONGEST_KEY, LONGEST_VALUE}
use Rattle.rk_entry.specs.Numbers.{number_bytes, IsNumber}
use Rattle.rk_entry.specs.Texts.{key_bytes, value_bytes, read_key_length, read_value_length}
use Rattle.rk_entry.specs.Reading.{where_body_is}
use Rattle.rk_entry.proofs.Counts.{length-key_bytes, length-value_bytes, length-number_bytes}
use Rattle.rk_entry.proofs.NumberLaws.{IsWide}
use Rattle.rk_entry.proofs.TextLaws.{text_within, key_length_takes, key_takes, key_length_again, key_again, value_length_takes, value_takes, value_length_again, value_again}
use Rattle.rk_entry.proofs.Tools.{bind_ok, Takes, takes_both, takes_weaker}
use Rattle.rk_message.specs.Texts.{read_any_key, read_last_key, read_last_value, read_last_number}
use Rattle.rk_message.proofs.Codecs.{IsCodec}
use Rattle.rk_message.proofs.FieldLaws.{number_codec}
use Rattle.rk_message.proofs.ListLaws.{body_was}

-- a text that is read after its length is spelled after its length, and what was known of the length holds of it
counted_text : (w : Width) (bytes after text rest : List ℕ) (count : ℕ) (P : ℕ → Type 0) (Q : List ℕ → Type 0)
    → Takes bytes (number_bytes w count) after (P count) → Takes after text rest ((length text ≡ count) × Q text)
    → Takes bytes (number_bytes w (length text) ++ text) rest (P (length text) × Q text)
counted_text w bytes after text rest count P Q first second =
    let all = takes_both first second in
    record {
      front = all.front;
      split = all.split;
      spelled = λ fits.
          let s = all.spelled fits in
          (s.0 ∙ ap (λ (n : ℕ). number_bytes w n ++ text) (sym s.2.1.0), s.1, (subst P (sym s.2.1.0) s.2.0, s.2.1.1));
    }

-- a key after its length
pub any_key_codec : IsCodec key_bytes (λ key. 1 + length key) (λ key. key_fault key ≡ None) read_any_key
unfolding read_any_key key_bytes
any_key_codec = record {
  takes = λ bytes x e.
      let a = bind_ok (read_key_length bytes) e in
      takes_weaker (λ (h : ((1 ≤ length x.0) × (length x.0 ≤ LONGEST_KEY)) × (key_fault x.0 ≡ None)). h.1)
      (counted_text w8 bytes a.0.1 x.0 x.1 a.0.0 (λ n. (1 ≤ n) × (n ≤ LONGEST_KEY)) (λ key. key_fault key ≡ None) (key_length_takes bytes a.0 a.1) (key_takes a.0.0 a.0.1 x a.2));
  again = λ key rest h.
      rw (append_assoc (number_bytes w8 (length key)) key rest, key_length_again key (key ++ rest) h, key_again key rest h) refl;
  counted = length-key_bytes;
}

-- the key that ends a body
pub last_key_codec : (first size : ℕ) → IsCodec key_bytes (λ key. 1 + length key) (λ key. (key_fault key ≡ None) × (size ≡ first + length key)) (read_last_key first size)
unfolding read_last_key key_bytes
last_key_codec first size = record {
  takes = λ bytes x e.
      let a = bind_ok (read_key_length bytes) e in
      let b = bind_ok (where_body_is (first + a.0.0) size a.0) a.2 in
      let g = body_was (first + a.0.0) size a.0 b.0 b.1 in
      let count : Takes bytes (number_bytes w8 b.0.0) b.0.1 (size ≡ first + b.0.0) =
      subst (λ (y : ℕ × List ℕ). Takes bytes (number_bytes w8 y.0) y.1 (size ≡ first + y.0)) g.1
      (takes_weaker (λ (h : (1 ≤ a.0.0) × (a.0.0 ≤ LONGEST_KEY)). g.0) (key_length_takes bytes a.0 a.1)) in
      takes_weaker (λ (h : (size ≡ first + length x.0) × (key_fault x.0 ≡ None)). (h.1, h.0))
      (counted_text w8 bytes b.0.1 x.0 x.1 b.0.0 (λ n. size ≡ first + n) (λ key. key_fault key ≡ None) count (key_takes b.0.0 b.0.1 x b.2));
  again = λ key rest h.
      rw (append_assoc (number_bytes w8 (length key)) key rest, key_length_again key (key ++ rest) h.0, eq-eqb size (first + length key) h.1, key_again key rest h.0) refl;
  counted = length-key_bytes;
}

-- the value that ends a body
pub last_value_codec : (first size : ℕ) → IsCodec value_bytes (λ value. 4 + length value) (λ value. (value_fault value ≡ None) × (size ≡ first + length value)) (read_last_value first size)
unfolding read_last_value value_bytes
last_value_codec first size = record {
  takes = λ bytes x e.
      let a = bind_ok (read_value_length 0 LONGEST_VALUE bytes) e in
      let b = bind_ok (where_body_is (first + a.0.0) size a.0) a.2 in
      let g = body_was (first + a.0.0) size a.0 b.0 b.1 in
      let count : Takes bytes (number_bytes w32 b.0.0) b.0.1 (size ≡ first + b.0.0) =
      subst (λ (y : ℕ × List ℕ). Takes bytes (number_bytes w32 y.0) y.1 (size ≡ first + y.0)) g.1
      (takes_weaker (λ (h : (0 ≤ a.0.0) × (a.0.0 ≤ LONGEST_VALUE)). g.0) (value_length_takes 0 LONGEST_VALUE bytes a.0 a.1)) in
      takes_weaker (λ (h : (size ≡ first + length x.0) × (value_fault x.0 ≡ None)). (h.1, h.0))
      (counted_text w32 bytes b.0.1 x.0 x.1 b.0.0 (λ n. size ≡ first + n) (λ value. value_fault value ≡ None) count (value_takes b.0.0 b.0.1 x b.2));
  again = λ value rest h.
      let within = text_within 0 LONGEST_VALUE value h.0 in
      rw (
        append_assoc (number_bytes w32 (length value)) value rest,
        value_length_again 0 LONGEST_VALUE (length value) (value ++ rest) within.0 within.1 (omega (arith, within.1)),
        eq-eqb size (first + length value) h.1,
        value_again value rest h.0,
      ) refl;
  counted = length-value_bytes;
}

-- the number that ends a body
pub last_number_codec : (w : Width) → IsWide w → (all size : ℕ) → IsCodec (number_bytes w) (λ n. byte_len w) (λ n. IsNumber w 0 n × (size ≡ all)) (read_last_number w all size)
unfolding read_last_number
last_number_codec w wide all size = record {
  takes = λ bytes x e.
      let a = bind_ok (where_body_is all size bytes) e in
      let g = body_was all size bytes a.0 a.1 in
      subst (λ (from : List ℕ). Takes from (number_bytes w x.0) x.1 (IsNumber w 0 x.0 × (size ≡ all))) (sym g.1)
      (takes_weaker (λ (h : IsNumber w 0 x.0). (h, g.0)) ((number_codec w wide).takes a.0 x a.2));
  again = λ n rest h. rw (eq-eqb size all h.1) ((number_codec w wide).again n rest h.0);
  counted = length-number_bytes w;
}
