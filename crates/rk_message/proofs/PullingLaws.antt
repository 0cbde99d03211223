-- The laws of Pull, Pulled, Want and Got.
use Rattle.std.proofs.Common.{◌≡◌, ℕ, ◌+◌, ◌*◌, ◌^◌, ◌<◌, ◌≤◌, List, ◌++◌, length, refl, sym, ap, subst, ◌∙◌, append_assoc, arith, true, ltb, leb, eqb, false, eq-eqb, length-append, ⊎_elim}
use Rattle.std.specs.Prelude.{◌||◌}
use Rattle.std.specs.Int.{w32, w64}
use Rattle.std.proofs.lemmas.Bool.{ltb-false, le-ltb, le-leb, or_left, or_right}
use Rattle.rk_entry.specs.declared.error.TheConstants.{BAD_BODY_LENGTH}
use Rattle.rk_entry.specs.declared.kind.TheConstants.{LONGEST_BODY}
use Rattle.rk_entry.specs.Kinds.{is_list_length}
use Rattle.rk_entry.specs.Numbers.{number_bytes, IsNumber, read_number}
use Rattle.rk_entry.specs.Spelling.{spelled}
use Rattle.rk_entry.proofs.Tools.{bind_ok, unless_ok, ok_is, Takes, takes_both, takes_weaker}
use Rattle.rk_entry.proofs.NumberLaws.{wide32, wide64}
use Rattle.rk_entry.proofs.EntryLaws.{list_length}
use Rattle.rk_message.specs.declared.fields.TheConstants.{COUNT_BYTES}
use Rattle.rk_message.specs.declared.pulling.Pulled.{Pulled}
use Rattle.rk_message.specs.declared.pulling.Got.{Got}
use Rattle.rk_message.specs.declared.pulling.TheConstants.{PULL_BYTES, PULLED_BYTES, HASH_BYTES, WANT_BYTES, GOT_BYTES, SHORTEST_ENTRY}
use Rattle.rk_message.specs.Fields.{tenure_bytes, read_tenure, elements_bytes, list_bytes, read_list}
use Rattle.rk_message.specs.Pulling.{pull_bytes, IsLawfulPull, read_pull, read_last_entries, pulled_bytes, pulled_count, IsLawfulPulled, read_pulled, want_bytes, want_count, IsLawfulWant, read_want, got_bytes, got_count, IsLawfulGot, read_hash_count, read_got}
use Rattle.rk_message.proofs.Codecs.{IsCodec, codec_as, fields2, fields4}
use Rattle.rk_message.proofs.FieldLaws.{number_codec, tenure_codec, token_codec}
use Rattle.rk_message.proofs.ListLaws.{list_codec, last_list_codec, sum_by_same}
use Rattle.rk_message.proofs.EntriesLaws.{none_or_shortest, last_entries_codec}

-- a Pull
pub pull_codec : IsCodec pull_bytes (λ pull. PULL_BYTES) IsLawfulPull read_pull
unfolding pull_bytes read_pull
pull_codec = fields2 (λ p. record { tenure = p.0; token = p.1 }) (λ y. (y.tenure, y.token)) (λ p. refl) (λ y. refl) tenure_codec token_codec

-- ---- Pulled

-- a Pulled whose length is given
pub pulled_codec : (size : ℕ) → size < 256 ^ 4 → IsCodec pulled_bytes pulled_count (λ pulled. IsLawfulPulled pulled × (size ≡ pulled_count pulled)) (read_pulled size)
unfolding pulled_bytes read_pulled
pulled_codec size small =
    codec_as (λ pulled. omega arith) (λ pulled h. (record { tenure = h.0; token = h.1; next = h.2; entries = h.3.0 }, h.3.1)) (λ pulled h. (h.0.tenure, h.0.token, h.0.next, (h.0.entries, h.1)))
    (fields4 (λ p. record { tenure = p.0; token = p.1; next = p.2; entries = p.3 }) (λ y. (y.tenure, y.token, y.next, y.entries)) (λ p. refl) (λ y. refl) tenure_codec token_codec token_codec
    (last_entries_codec PULLED_BYTES size small))

-- a lawful Pulled takes as many bytes as its kind allows
pub pulled_size : (pulled : Pulled) → IsLawfulPulled pulled → (eqb (pulled_count pulled) PULLED_BYTES || leb (PULLED_BYTES + SHORTEST_ENTRY) (pulled_count pulled)) ≡ true
pulled_size pulled h = grind (arith, or_left, eqb, eq-eqb, or_right, leb, le-leb, none_or_shortest)

-- ---- Want

-- a Want whose length is given
pub want_codec : (size : ℕ) → size < 256 ^ 4 → IsCodec want_bytes want_count (λ want. IsLawfulWant want × (size ≡ want_count want)) (read_want size)
unfolding want_bytes read_want
want_codec size small =
    codec_as (λ want. omega arith) (λ want h. ((h.0, h.1.0), h.1.1)) (λ want h. (h.0.0, (h.0.1, h.1)))
    (fields2 (λ p. record { tenure = p.0; hashes = p.1 }) (λ y. (y.tenure, y.hashes)) (λ p. refl) (λ y. refl) tenure_codec (last_list_codec HASH_BYTES WANT_BYTES size (omega arith) small (number_codec w64 wide64)))

-- ---- Got

-- the count of the hashes of a Got
hash_count_codec : (size : ℕ) → IsCodec (number_bytes w32) (λ n. COUNT_BYTES) (λ n. IsNumber w32 0 n × (GOT_BYTES + HASH_BYTES * n ≤ size)) (read_hash_count size)
unfolding read_hash_count
hash_count_codec size =
    let number = number_codec w32 wide32 in
    record {
      takes = λ from x e.
          let n = bind_ok (read_number w32 from) e in
          let g = unless_ok (ltb size (GOT_BYTES + HASH_BYTES * n.0.0)) BAD_BODY_LENGTH n.2 in
          subst (λ (y : ℕ × List ℕ). Takes from (number_bytes w32 y.0) y.1 (IsNumber w32 0 y.0 × (GOT_BYTES + HASH_BYTES * y.0 ≤ size))) g.1
          (takes_weaker (λ h. (h, ltb-false size (GOT_BYTES + HASH_BYTES * n.0.0) g.0)) (number.takes from n.0 n.1));
      again = λ n rest h.
          let within : ltb size (GOT_BYTES + HASH_BYTES * n) ≡ false = le-ltb size (GOT_BYTES + HASH_BYTES * n) h.1 in
          rw (number.again n rest h.0, within) refl;
      counted = number.counted;
    }

-- a Got whose length is given
pub got_codec : (size : ℕ) → size < 256 ^ 4 → IsCodec got_bytes got_count (λ got. IsLawfulGot got × (size ≡ got_count got)) (read_got size)
unfolding got_bytes read_got list_bytes
got_codec size small = record {
  takes = λ from y e.
      let t = bind_ok (read_tenure from) e in
      let n = bind_ok (read_hash_count size t.0.1) t.2 in
      let h = bind_ok (read_list (read_number w64) n.0.0 n.0.1) n.2 in
      let first = GOT_BYTES + HASH_BYTES * n.0.0 in
      let z = bind_ok (read_last_entries first size h.0.1) h.2 in
      let got : Got = record { tenure = t.0.0; hashes = h.0.0; entries = z.0.0 } in
      let hashes = takes_both ((hash_count_codec size).takes t.0.1 n.0 n.1) ((list_codec (number_codec w64 wide64) n.0.0).takes n.0.1 h.0 h.1) in
      let all = takes_both (tenure_codec.takes from t.0 t.1) (takes_both hashes ((last_entries_codec first size small).takes h.0.1 z.0 z.1)) in
      subst (λ (w : Got × List ℕ). Takes from (got_bytes w.0) w.1 (IsLawfulGot w.0 × (size ≡ got_count w.0))) (ok_is (got, z.0.1) y z.2) (record {
        front = all.front;
        split = all.split;
        spelled = λ fits.
            let p = all.spelled fits in
            let count : length h.0.0 ≡ n.0.0 = p.2.1.0.1.1 in
            let spells : ℕ → List ℕ = λ k. tenure_bytes t.0.0 ++ ((number_bytes w32 k ++ elements_bytes (number_bytes w64) h.0.0) ++ list_bytes spelled z.0.0) in (
              p.0 ∙ ap spells (sym count),
              p.1,
              (record { tenure = p.2.0; hashes = p.2.1.0.1.0; entries = p.2.1.1.0 }, omega (arith, p.2.1.1.1, count)),
            );
      });
  again = λ got rest h.
      let tenure = tenure_bytes got.tenure in
      let count = number_bytes w32 (length got.hashes) in
      let hashes = elements_bytes (number_bytes w64) got.hashes in
      let entries = list_bytes spelled got.entries in
      rw (
        append_assoc tenure ((count ++ hashes) ++ entries) rest,
        append_assoc (count ++ hashes) entries rest,
        append_assoc count hashes (entries ++ rest),
        tenure_codec.again got.tenure (count ++ (hashes ++ (entries ++ rest))) h.0.tenure,
        (hash_count_codec size).again (length got.hashes) (hashes ++ (entries ++ rest)) (record { least_is = omega arith; fits = omega (arith, h.1, small) }, omega (arith, h.1)),
        (list_codec (number_codec w64 wide64) (length got.hashes)).again got.hashes (entries ++ rest) (h.0.hashes, refl),
        (last_entries_codec (GOT_BYTES + HASH_BYTES * length got.hashes) size small).again got.entries rest (h.0.entries, h.1),
      ) refl;
  counted = λ got.
      let count = number_bytes w32 (length got.hashes) in
      let hashes = elements_bytes (number_bytes w64) got.hashes in
      let entries = list_bytes spelled got.entries in
      omega (
        arith,
        length-append (tenure_bytes got.tenure) ((count ++ hashes) ++ entries),
        length-append (count ++ hashes) entries,
        length-append count hashes,
        tenure_codec.counted got.tenure,
        (hash_count_codec size).counted (length got.hashes),
        (list_codec (number_codec w64 wide64) 0).counted got.hashes,
        sum_by_same HASH_BYTES got.hashes,
        (last_entries_codec 0 size small).counted got.entries,
      );
}

-- a lawful Got takes as many bytes as its kind allows
pub got_size : (got : Got) → IsLawfulGot got → got_count got ≤ LONGEST_BODY
    → (is_list_length GOT_BYTES HASH_BYTES LONGEST_BODY (got_count got) || leb (GOT_BYTES + SHORTEST_ENTRY) (got_count got)) ≡ true
got_size got h within = grind (arith, or_left, list_length, or_right, leb, le-leb, none_or_shortest)
