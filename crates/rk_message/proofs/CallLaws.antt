-- The laws of Request, Reply, Lookup and Located.
use Rattle.std.proofs.Common.{◌≡◌, ℕ, ◌+◌, ◌≤◌, Bool, true, false, cond, eqb, List, [], ◌++◌, length, Option, Some, None, Ok, Err, refl, sym, ap, subst, ◌∙◌, append_assoc, arith, inl, inr, eq-eqb, length-append}
use Rattle.std.specs.Prelude.{◌||◌, not}
use Rattle.std.specs.Int.{w8, w32, w64, is_in_range}
use Rattle.std.proofs.lemmas.Bool.{eqb-true}
use Rattle.std.proofs.lemmas.Bool.Decides.{nat_tests}
use Rattle.std.proofs.lemmas.List.{append-nil}
use Rattle.rk_types.specs.declared.call.Op.{Op}
use Rattle.rk_types.specs.declared.call.Op.TheVariants.{Get, Put, CondPut, Delete}
use Rattle.rk_types.specs.declared.call.Outcome.TheVariants.{Found, Absent, Written, Deleted, Mismatch}
use Rattle.rk_types.specs.declared.call.Answer.{Answer}
use Rattle.rk_types.specs.declared.call.Answer.TheVariants.{Done, Moved, NotYet}
use Rattle.rk_types.specs.Text.{key_fault, value_fault}
use Rattle.rk_types.specs.declared.text.TheConstants.{LONGEST_KEY, LONGEST_VALUE}
use Rattle.rk_entry.specs.declared.error.DecodeError.TheVariants.{Bad}
use Rattle.rk_entry.specs.declared.error.TheConstants.{BAD_CHOICE}
use Rattle.rk_entry.specs.Numbers.{number_bytes, IsNumber, read_number}
use Rattle.rk_entry.specs.Texts.{key_bytes, value_bytes}
use Rattle.rk_entry.proofs.Counts.{length-number_bytes, length-key_bytes, length-value_bytes}
use Rattle.rk_entry.proofs.NumberLaws.{wide8, wide32, wide64}
use Rattle.rk_entry.proofs.TextLaws.{text_within, in_range_is, is_in_range_of}
use Rattle.rk_entry.proofs.EndLaws.{chosen}
use Rattle.rk_entry.proofs.Tools.{bind_ok, unless_ok, ok_is, Takes, takes_both, takes_weaker}
use Rattle.rk_message.specs.declared.calls.Request.{Request}
use Rattle.rk_message.specs.declared.calls.Reply.{Reply}
use Rattle.rk_message.specs.declared.calls.Asked.{Asked}
use Rattle.rk_message.specs.declared.calls.TheConstants.{GET, PUT, COND_PUT, DELETE, FOUND, ABSENT, WRITTEN, DELETED, MISMATCH, MOVED, NOT_YET, REQUEST_BYTES, REPLY_BYTES, LOOKUP_BYTES, LOCATED_BYTES}
use Rattle.rk_message.specs.Texts.{read_any_key, read_last_key, read_last_value, read_last_number}
use Rattle.rk_message.specs.Calls.{op_number, op_bytes, op_count, IsLawfulOp, asked_bytes, IsLawfulAsked, read_op_number, read_bare, read_put, read_cond_put, read_op, read_asked, asked_of, request_bytes, request_count, IsLawfulRequest, read_request, answer_number, told_bytes, told_count, IsLawfulAnswer, answer_bytes, read_found, read_absent, read_version, read_moved, read_not_yet, read_told, read_answer, reply_bytes, reply_count, IsLawfulReply, read_reply, lookup_bytes, IsLawfulLookup, read_lookup, owner_number, owner_of, IsLawfulOwner, owner_bytes, read_owner, located_bytes, IsLawfulLocated, read_located}
use Rattle.rk_message.proofs.Codecs.{IsCodec, codec_as, fields2, fields3, fields4}
use Rattle.rk_message.proofs.Chains.{then_codec}
use Rattle.rk_message.proofs.FieldLaws.{number_codec, range_codec}
use Rattle.rk_message.proofs.ListLaws.{body_was}
use Rattle.rk_message.proofs.TextLaws.{any_key_codec, last_key_codec, last_value_codec, last_number_codec}

-- ---- requests

-- what is known of what is asked once the number of its operation, its table and the size of the request are
record IsAsked (number table size : ℕ) (asked : Asked) : Type 0 where
  number_is : op_number asked.op ≡ number
  table_is : asked.table ≡ table
  key : key_fault asked.key ≡ None
  op : IsLawfulOp asked.op
  size_is : size ≡ REQUEST_BYTES + length asked.key + op_count asked.op

-- what comes after the number and the table
key_and_op : Asked → List ℕ
key_and_op asked = key_bytes asked.key ++ op_bytes asked.op

-- a number of an operation
op_number_codec : IsCodec (number_bytes w8) (λ n. 1) (λ n. (GET ≤ n) × (n ≤ DELETE)) read_op_number
unfolding read_op_number
op_number_codec = record {
  takes = λ bytes x e.
      let a = bind_ok (read_number w8 bytes) e in
      let g = unless_ok (not (is_in_range GET DELETE a.0.0)) BAD_CHOICE a.2 in
      subst (λ (y : ℕ × List ℕ). Takes bytes (number_bytes w8 y.0) y.1 ((GET ≤ y.0) × (y.0 ≤ DELETE))) g.1
      (takes_weaker (λ (h : IsNumber w8 0 a.0.0). in_range_is GET DELETE a.0.0 g.0) ((number_codec w8 wide8).takes bytes a.0 a.1));
  again = λ n rest h.
      let fits : IsNumber w8 0 n = record { least_is = omega arith; fits = omega (arith, h.1) } in
      rw ((number_codec w8 wide8).again n rest fits, is_in_range_of GET DELETE n h.0 h.1) refl;
  counted = length-number_bytes w8;
}

-- a bare key that is read is asked for by an operation that takes no more bytes
bare_takes : (op : Op) (table size : ℕ) (bytes : List ℕ) (x : Asked × List ℕ) → op_bytes op ≡ [] → op_count op ≡ 0 → IsLawfulOp op → read_bare op table size bytes ≡ Ok x
    → Takes bytes (key_and_op x.0) x.1 (IsAsked (op_number op) table size x.0)
unfolding read_bare key_and_op
bare_takes op table size bytes x none no_count lawful e =
    let a = bind_ok (read_last_key REQUEST_BYTES size bytes) e in
    let made : Asked = record { table = table; key = a.0.0; op = op } in
    let text : key_bytes a.0.0 ≡ key_bytes a.0.0 ++ op_bytes op = sym (append-nil (key_bytes a.0.0)) ∙ ap (λ (t : List ℕ). key_bytes a.0.0 ++ t) (sym none) in
    subst (λ (y : Asked × List ℕ). Takes bytes (key_bytes y.0.key ++ op_bytes y.0.op) y.1 (IsAsked (op_number op) table size y.0)) (ok_is (made, a.0.1) x a.2)
    (subst (λ (t : List ℕ). Takes bytes t a.0.1 (IsAsked (op_number op) table size made)) text
    (takes_weaker (λ (h : (key_fault a.0.0 ≡ None) × (size ≡ REQUEST_BYTES + length a.0.0)).
    record { number_is = refl; table_is = refl; key = h.0; op = lawful; size_is = omega (arith, h.1, no_count) })
    ((last_key_codec REQUEST_BYTES size).takes bytes a.0 a.1)))

-- a key and a value that are read are those of a put
put_takes : (table size : ℕ) (bytes : List ℕ) (x : Asked × List ℕ) → read_put table size bytes ≡ Ok x → Takes bytes (key_and_op x.0) x.1 (IsAsked PUT table size x.0)
unfolding read_put key_and_op
put_takes table size bytes x e =
    let a = bind_ok (read_any_key bytes) e in
    let b = bind_ok (read_last_value (REQUEST_BYTES + length a.0.0 + 4) size a.0.1) a.2 in
    let made : Asked = record { table = table; key = a.0.0; op = Put b.0.0 } in
    subst (λ (y : Asked × List ℕ). Takes bytes (key_bytes y.0.key ++ op_bytes y.0.op) y.1 (IsAsked PUT table size y.0)) (ok_is (made, b.0.1) x b.2)
    (takes_weaker (λ (h : (key_fault a.0.0 ≡ None) × ((value_fault b.0.0 ≡ None) × (size ≡ REQUEST_BYTES + length a.0.0 + 4 + length b.0.0))).
    record { number_is = refl; table_is = refl; key = h.0; op = h.1.0; size_is = omega (arith, h.1.1) })
    (takes_both (any_key_codec.takes bytes a.0 a.1) ((last_value_codec (REQUEST_BYTES + length a.0.0 + 4) size).takes a.0.1 b.0 b.1)))

-- a key, a version and a value that are read are those of a conditional put
cond_put_takes : (table size : ℕ) (bytes : List ℕ) (x : Asked × List ℕ) → read_cond_put table size bytes ≡ Ok x → Takes bytes (key_and_op x.0) x.1 (IsAsked COND_PUT table size x.0)
unfolding read_cond_put key_and_op
cond_put_takes table size bytes x e =
    let a = bind_ok (read_any_key bytes) e in
    let v = bind_ok (read_number w64 a.0.1) a.2 in
    let b = bind_ok (read_last_value (REQUEST_BYTES + length a.0.0 + 12) size v.0.1) v.2 in
    let made : Asked = record { table = table; key = a.0.0; op = CondPut v.0.0 b.0.0 } in
    subst (λ (y : Asked × List ℕ). Takes bytes (key_bytes y.0.key ++ op_bytes y.0.op) y.1 (IsAsked COND_PUT table size y.0)) (ok_is (made, b.0.1) x b.2)
    (takes_weaker (λ (h : (key_fault a.0.0 ≡ None) × (IsNumber w64 0 v.0.0 × ((value_fault b.0.0 ≡ None) × (size ≡ REQUEST_BYTES + length a.0.0 + 12 + length b.0.0)))).
    record { number_is = refl; table_is = refl; key = h.0; op = (h.1.0, h.1.1.0); size_is = omega (arith, h.1.1.1) })
    (takes_both (any_key_codec.takes bytes a.0 a.1)
    (takes_both ((number_codec w64 wide64).takes a.0.1 v.0 v.1) ((last_value_codec (REQUEST_BYTES + length a.0.0 + 12) size).takes v.0.1 b.0 b.1))))

-- what an operation asks and is read is lawful and spelled so
op_takes : (number table size : ℕ) (bytes : List ℕ) (x : Asked × List ℕ) → read_op number table size bytes ≡ Ok x → Takes bytes (key_and_op x.0) x.1 (IsAsked number table size x.0)
unfolding read_op
op_takes number table size bytes x e =
    let P : ℕ → Type 0 = λ n. Takes bytes (key_and_op x.0) x.1 (IsAsked n table size x.0) in
    elim (chosen (eqb number GET) _ _ _ e) [
      | inl h ↦ subst P (sym (eqb-true number GET h.0)) (bare_takes Get table size bytes x refl refl tt h.1)
      | inr h ↦ elim (chosen (eqb number PUT) _ _ _ h.1) [
        | inl h ↦ subst P (sym (eqb-true number PUT h.0)) (put_takes table size bytes x h.1)
        | inr h ↦ elim (chosen (eqb number COND_PUT) _ _ _ h.1) [
          | inl h ↦ subst P (sym (eqb-true number COND_PUT h.0)) (cond_put_takes table size bytes x h.1)
          | inr h ↦ elim (chosen (eqb number DELETE) _ _ _ h.1) [
            | inl h ↦ subst P (sym (eqb-true number DELETE h.0)) (bare_takes Delete table size bytes x refl refl tt h.1)
            | inr h ↦ absurd (not_read x h.1)
          ]
        ]
      ]
    ]
  where
    not_read : (x : Asked × List ℕ) → Err (Bad BAD_CHOICE) ≡ Ok x → ⊥
    not_read x e = cc

-- what an operation asks and is spelled is read
op_again : (table size : ℕ) (key : List ℕ) (op : Op) (rest : List ℕ) → key_fault key ≡ None → IsLawfulOp op → size ≡ REQUEST_BYTES + length key + op_count op
    → read_op (op_number op) table size ((key_bytes key ++ op_bytes op) ++ rest) ≡ Ok (record { table = table; key = key; op = op }, rest)
unfolding read_op read_bare read_put read_cond_put
op_again table size key Get rest text lawful is =
    let whole : size ≡ REQUEST_BYTES + length key = omega (arith, is) in
    rw (append-nil (key_bytes key), (last_key_codec REQUEST_BYTES size).again key rest (text, whole)) refl
op_again table size key (Put value) rest text lawful is =
    let whole : size ≡ REQUEST_BYTES + length key + 4 + length value = omega (arith, is) in
    rw (
      append_assoc (key_bytes key) (value_bytes value) rest,
      any_key_codec.again key (value_bytes value ++ rest) text,
      (last_value_codec (REQUEST_BYTES + length key + 4) size).again value rest (lawful, whole),
    ) refl
op_again table size key (CondPut expected value) rest text lawful is =
    let whole : size ≡ REQUEST_BYTES + length key + 12 + length value = omega (arith, is) in
    rw (
      append_assoc (key_bytes key) (number_bytes w64 expected ++ value_bytes value) rest,
      append_assoc (number_bytes w64 expected) (value_bytes value) rest,
      any_key_codec.again key (number_bytes w64 expected ++ (value_bytes value ++ rest)) text,
      (number_codec w64 wide64).again expected (value_bytes value ++ rest) lawful.0,
      (last_value_codec (REQUEST_BYTES + length key + 12) size).again value rest (lawful.1, whole),
    ) refl
op_again table size key Delete rest text lawful is =
    let whole : size ≡ REQUEST_BYTES + length key = omega (arith, is) in
    rw (append-nil (key_bytes key), (last_key_codec REQUEST_BYTES size).again key rest (text, whole)) refl

-- what comes after the key takes as many bytes as are counted
length-op_bytes : (op : Op) → length (op_bytes op) ≡ op_count op
length-op_bytes op = grind (arith, length-value_bytes, length-append, length-number_bytes)

-- what the operation of a number asks
op_codec : (number table size : ℕ) → IsCodec key_and_op (λ asked. 1 + length asked.key + op_count asked.op) (IsAsked number table size) (read_op number table size)
unfolding key_and_op
op_codec number table size = record {
  takes = op_takes number table size;
  again = λ asked rest h.
      let read = op_again table size asked.key asked.op rest h.key h.op h.size_is in
      let same : record { table = table; key = asked.key; op = asked.op } ≡ asked = ap (λ (t : ℕ). record asked { table = t }) (sym h.table_is) in
      subst (λ (n : ℕ). read_op n table size ((key_bytes asked.key ++ op_bytes asked.op) ++ rest) ≡ Ok (asked, rest)) h.number_is
      (read ∙ ap (λ (y : Asked). Ok (y, rest)) same);
  counted = λ asked. omega (arith, length-append (key_bytes asked.key) (op_bytes asked.op), length-key_bytes asked.key, length-op_bytes asked.op);
}

-- the number of an operation is one
op_within : (op : Op) → (GET ≤ op_number op) × (op_number op ≤ DELETE)
op_within op = grind arith

-- what is asked
asked_codec : (size : ℕ) → IsCodec asked_bytes (λ asked. 10 + length asked.key + op_count asked.op)
    (λ asked. IsLawfulAsked asked × (size ≡ REQUEST_BYTES + length asked.key + op_count asked.op)) (read_asked size)
unfolding asked_bytes read_asked key_and_op
asked_codec size =
    codec_as (λ asked. omega arith) (λ asked h. ((h.1.0, h.1.1.key, h.1.1.op), h.1.1.size_is))
    (λ asked h. (op_within asked.op, (h.0.0, record { number_is = refl; table_is = refl; key = h.0.1; op = h.0.2; size_is = h.1 })))
    (then_codec (λ (asked : Asked). op_number asked.op) op_number_codec (λ number asked h. h.1.number_is)
    (λ number. then_codec (λ (asked : Asked). asked.table) (number_codec w64 wide64) (λ table asked h. h.table_is) (λ table. op_codec number table size)))

-- a Request
pub request_codec : (size : ℕ) → IsCodec request_bytes request_count (λ request. IsLawfulRequest request × (size ≡ request_count request)) (read_request size)
unfolding request_bytes read_request
request_codec size =
    codec_as (λ request. omega arith) (λ request h. ((h.0, h.1, h.2, h.3.0), h.3.1)) (λ request h. (h.0.0, h.0.1, h.0.2, (h.0.3, h.1)))
    (fields4 (λ p. record { tablet = p.0; seq = p.1; seen = p.2; table = p.3.table; key = p.3.key; op = p.3.op }) (λ y. (y.tablet, y.seq, y.seen, asked_of y)) (λ p. refl) (λ y. refl)
    (number_codec w32 wide32) (number_codec w64 wide64) (number_codec w64 wide64) (asked_codec size))

-- ---- replies

-- what is known of an answer once its number and the size of the reply are
record IsTold (number size : ℕ) (answer : Answer) : Type 0 where
  number_is : answer_number answer ≡ number
  lawful : IsLawfulAnswer answer
  size_is : size ≡ REPLY_BYTES + told_count answer

-- a version and a value that are read are those of a record that was found
found_takes : (size : ℕ) (bytes : List ℕ) (x : Answer × List ℕ) → read_found size bytes ≡ Ok x → Takes bytes (told_bytes x.0) x.1 (IsTold FOUND size x.0)
unfolding read_found
found_takes size bytes x e =
    let a = bind_ok (read_number w64 bytes) e in
    let b = bind_ok (read_last_value (REPLY_BYTES + 12) size a.0.1) a.2 in
    subst (λ (y : Answer × List ℕ). Takes bytes (told_bytes y.0) y.1 (IsTold FOUND size y.0)) (ok_is (Done (Found a.0.0 b.0.0), b.0.1) x b.2)
    (takes_weaker (λ (h : IsNumber w64 0 a.0.0 × ((value_fault b.0.0 ≡ None) × (size ≡ REPLY_BYTES + 12 + length b.0.0))).
    record { number_is = refl; lawful = (h.0, h.1.0); size_is = omega (arith, h.1.1) })
    (takes_both ((number_codec w64 wide64).takes bytes a.0 a.1) ((last_value_codec (REPLY_BYTES + 12) size).takes a.0.1 b.0 b.1)))

-- an answer that has nothing more
absent_takes : (size : ℕ) (bytes : List ℕ) (x : Answer × List ℕ) → read_absent size bytes ≡ Ok x → Takes bytes (told_bytes x.0) x.1 (IsTold ABSENT size x.0)
unfolding read_absent
absent_takes size bytes x e =
    let made : Answer × List ℕ = (Done Absent, bytes) in
    let g = body_was REPLY_BYTES size made x e in
    subst (λ (y : Answer × List ℕ). Takes bytes (told_bytes y.0) y.1 (IsTold ABSENT size y.0)) g.1
    (record { front = []; split = refl; spelled = λ fits. (refl, fits, record { number_is = refl; lawful = tt; size_is = g.0 }) })

-- a version that is read is that of an answer that it makes
version_takes : (number : ℕ) (answer : ℕ → Answer) (size : ℕ) (bytes : List ℕ) (x : Answer × List ℕ)
    → ((n : ℕ) → told_bytes (answer n) ≡ number_bytes w64 n) → ((n : ℕ) → IsNumber w64 0 n → size ≡ REPLY_BYTES + 8 → IsTold number size (answer n))
    → read_version answer size bytes ≡ Ok x → Takes bytes (told_bytes x.0) x.1 (IsTold number size x.0)
unfolding read_version
version_takes number answer size bytes x spells told e =
    let a = bind_ok (read_last_number w64 (REPLY_BYTES + 8) size bytes) e in
    subst (λ (y : Answer × List ℕ). Takes bytes (told_bytes y.0) y.1 (IsTold number size y.0)) (ok_is (answer a.0.0, a.0.1) x a.2)
    (subst (λ (t : List ℕ). Takes bytes t a.0.1 (IsTold number size (answer a.0.0))) (sym (spells a.0.0))
    (takes_weaker (λ (h : IsNumber w64 0 a.0.0 × (size ≡ REPLY_BYTES + 8)). told a.0.0 h.0 h.1) ((last_number_codec w64 wide64 (REPLY_BYTES + 8) size).takes bytes a.0 a.1)))

-- a tablet that is read is the tablet that has moved
moved_takes : (size : ℕ) (bytes : List ℕ) (x : Answer × List ℕ) → read_moved size bytes ≡ Ok x → Takes bytes (told_bytes x.0) x.1 (IsTold MOVED size x.0)
unfolding read_moved
moved_takes size bytes x e =
    let a = bind_ok (read_last_number w32 (REPLY_BYTES + 4) size bytes) e in
    subst (λ (y : Answer × List ℕ). Takes bytes (told_bytes y.0) y.1 (IsTold MOVED size y.0)) (ok_is (Moved a.0.0, a.0.1) x a.2)
    (takes_weaker (λ (h : IsNumber w32 0 a.0.0 × (size ≡ REPLY_BYTES + 4)). record { number_is = refl; lawful = h.0; size_is = h.1 })
    ((last_number_codec w32 wide32 (REPLY_BYTES + 4) size).takes bytes a.0 a.1))

-- a key that is read is the key that has not arrived
not_yet_takes : (size : ℕ) (bytes : List ℕ) (x : Answer × List ℕ) → read_not_yet size bytes ≡ Ok x → Takes bytes (told_bytes x.0) x.1 (IsTold NOT_YET size x.0)
unfolding read_not_yet
not_yet_takes size bytes x e =
    let a = bind_ok (read_last_key (REPLY_BYTES + 1) size bytes) e in
    subst (λ (y : Answer × List ℕ). Takes bytes (told_bytes y.0) y.1 (IsTold NOT_YET size y.0)) (ok_is (NotYet a.0.0, a.0.1) x a.2)
    (takes_weaker (λ (h : (key_fault a.0.0 ≡ None) × (size ≡ REPLY_BYTES + 1 + length a.0.0)). record { number_is = refl; lawful = h.0; size_is = omega (arith, h.1) })
    ((last_key_codec (REPLY_BYTES + 1) size).takes bytes a.0 a.1))

-- an answer that is read after its number is lawful and spelled so
told_takes : (number size : ℕ) (bytes : List ℕ) (x : Answer × List ℕ) → read_told number size bytes ≡ Ok x → Takes bytes (told_bytes x.0) x.1 (IsTold number size x.0)
unfolding read_told
told_takes number size bytes x e =
    let P : ℕ → Type 0 = λ n. Takes bytes (told_bytes x.0) x.1 (IsTold n size x.0) in
    elim (chosen (eqb number FOUND) _ _ _ e) [
      | inl h ↦ subst P (sym (eqb-true number FOUND h.0)) (found_takes size bytes x h.1)
      | inr h ↦ elim (chosen (eqb number ABSENT) _ _ _ h.1) [
        | inl h ↦ subst P (sym (eqb-true number ABSENT h.0)) (absent_takes size bytes x h.1)
        | inr h ↦ elim (chosen (eqb number WRITTEN) _ _ _ h.1) [
          | inl h ↦ subst P (sym (eqb-true number WRITTEN h.0))
              (version_takes WRITTEN (λ n. Done (Written n)) size bytes x (λ n. refl) (λ n lawful is. record { number_is = refl; lawful = lawful; size_is = is }) h.1)
          | inr h ↦ elim (chosen (eqb number DELETED) _ _ _ h.1) [
            | inl h ↦ subst P (sym (eqb-true number DELETED h.0))
                (version_takes DELETED (λ n. Done (Deleted n)) size bytes x (λ n. refl) (λ n lawful is. record { number_is = refl; lawful = lawful; size_is = is }) h.1)
            | inr h ↦ elim (chosen (eqb number MISMATCH) _ _ _ h.1) [
              | inl h ↦ subst P (sym (eqb-true number MISMATCH h.0))
                  (version_takes MISMATCH (λ n. Done (Mismatch n)) size bytes x (λ n. refl) (λ n lawful is. record { number_is = refl; lawful = lawful; size_is = is }) h.1)
              | inr h ↦ elim (chosen (eqb number MOVED) _ _ _ h.1) [
                | inl h ↦ subst P (sym (eqb-true number MOVED h.0)) (moved_takes size bytes x h.1)
                | inr h ↦ elim (chosen (eqb number NOT_YET) _ _ _ h.1) [
                  | inl h ↦ subst P (sym (eqb-true number NOT_YET h.0)) (not_yet_takes size bytes x h.1)
                  | inr h ↦ absurd (not_read x h.1)
                ]
              ]
            ]
          ]
        ]
      ]
    ]
  where
    not_read : (x : Answer × List ℕ) → Err (Bad BAD_CHOICE) ≡ Ok x → ⊥
    not_read x e = cc

-- an answer that is spelled after its number is read
told_again : (size : ℕ) (answer : Answer) (rest : List ℕ) → IsLawfulAnswer answer → size ≡ REPLY_BYTES + told_count answer → read_told (answer_number answer) size (told_bytes answer ++ rest) ≡ Ok (answer, rest)
unfolding read_told read_found read_absent read_version read_moved read_not_yet
told_again size (Done (Found version value)) rest lawful is =
    let whole : size ≡ REPLY_BYTES + 12 + length value = omega (arith, is) in
    rw (
      append_assoc (number_bytes w64 version) (value_bytes value) rest,
      (number_codec w64 wide64).again version (value_bytes value ++ rest) lawful.0,
      (last_value_codec (REPLY_BYTES + 12) size).again value rest (lawful.1, whole),
    ) refl
told_again size (Done Absent) rest lawful is = rw (eq-eqb size REPLY_BYTES is) refl
told_again size (Done (Written version)) rest lawful is = rw ((last_number_codec w64 wide64 (REPLY_BYTES + 8) size).again version rest (lawful, is)) refl
told_again size (Done (Deleted version)) rest lawful is = rw ((last_number_codec w64 wide64 (REPLY_BYTES + 8) size).again version rest (lawful, is)) refl
told_again size (Done (Mismatch version)) rest lawful is = rw ((last_number_codec w64 wide64 (REPLY_BYTES + 8) size).again version rest (lawful, is)) refl
told_again size (Moved tablet) rest lawful is = rw ((last_number_codec w32 wide32 (REPLY_BYTES + 4) size).again tablet rest (lawful, is)) refl
told_again size (NotYet key) rest lawful is =
    let whole : size ≡ REPLY_BYTES + 1 + length key = omega (arith, is) in
    rw ((last_key_codec (REPLY_BYTES + 1) size).again key rest (lawful, whole)) refl

-- the number of an answer is a byte
answer_small : (answer : Answer) → IsNumber w8 0 (answer_number answer)
answer_small answer = grind arith

-- the answer of a number
told_codec : (number size : ℕ) → IsCodec told_bytes told_count (IsTold number size) (read_told number size)
told_codec number size = grind (arith, told_takes, told_again, length-append, length-number_bytes, length-value_bytes, length-key_bytes)

-- an answer
answer_codec : (size : ℕ) → IsCodec answer_bytes (λ answer. 1 + told_count answer) (λ answer. IsLawfulAnswer answer × (size ≡ REPLY_BYTES + told_count answer)) (read_answer size)
unfolding answer_bytes read_answer
answer_codec size =
    codec_as (λ answer. refl) (λ answer h. (h.1.lawful, h.1.size_is)) (λ answer h. (answer_small answer, record { number_is = refl; lawful = h.0; size_is = h.1 }))
    (then_codec answer_number (number_codec w8 wide8) (λ number answer h. h.number_is) (λ number. told_codec number size))

-- a Reply
pub reply_codec : (size : ℕ) → IsCodec reply_bytes reply_count (λ reply. IsLawfulReply reply × (size ≡ reply_count reply)) (read_reply size)
unfolding reply_bytes read_reply
reply_codec size =
    codec_as (λ reply. omega arith) (λ reply h. ((h.0, h.1, h.2, h.3.0), h.3.1)) (λ reply h. (h.0.0, h.0.1, h.0.2, (h.0.3, h.1)))
    (fields4 (λ p. record { seq = p.0; stamp = p.1; place = p.2; answer = p.3 }) (λ y. (y.seq, y.stamp, y.place, y.answer)) (λ p. refl) (λ y. refl)
    (number_codec w64 wide64) (number_codec w64 wide64) (number_codec w64 wide64) (answer_codec size))

-- ---- where a tablet is

-- a Lookup
pub lookup_codec : IsCodec lookup_bytes (λ lookup. LOOKUP_BYTES) IsLawfulLookup read_lookup
unfolding lookup_bytes read_lookup
lookup_codec = fields2 (λ p. record { table = p.0; hash = p.1 }) (λ y. (y.table, y.hash)) (λ p. refl) (λ y. refl) (number_codec w64 wide64) (number_codec w64 wide64)

-- an owner that is read from a number is lawful and has that number
owner_is : (number : ℕ) → IsNumber w8 0 number → (b : Bool) → eqb number 0 ≡ b
    → (owner_number (cond b None (Some number)) ≡ number) × IsLawfulOwner (cond b None (Some number))
owner_is number h b is = grind (arith, eqb-true, eqb, nat_tests)

-- the owner of its own number
owner_back : (owner : Option ℕ) → IsLawfulOwner owner → owner_of (owner_number owner) ≡ owner
owner_back owner h = grind (arith, eqb, nat_tests)

-- the number of an owner is a byte
owner_small : (owner : Option ℕ) → IsLawfulOwner owner → IsNumber w8 0 (owner_number owner)
owner_small None h = record { least_is = omega arith; fits = omega arith }
owner_small (Some owner) h = record { least_is = omega arith; fits = h.fits }

-- an owner
owner_codec : IsCodec owner_bytes (λ owner. 1) IsLawfulOwner read_owner
unfolding owner_bytes read_owner
owner_codec = record {
  takes = λ bytes x e.
      let a = bind_ok (read_number w8 bytes) e in
      let taken = (number_codec w8 wide8).takes bytes a.0 a.1 in
      subst (λ (y : Option ℕ × List ℕ). Takes bytes (number_bytes w8 (owner_number y.0)) y.1 (IsLawfulOwner y.0)) (ok_is (owner_of a.0.0, a.0.1) x a.2) (record {
        front = taken.front;
        split = taken.split;
        spelled = λ fits.
            let s = taken.spelled fits in
            let o = owner_is a.0.0 s.2 (eqb a.0.0 0) refl in
            (s.0 ∙ ap (number_bytes w8) (sym o.0), s.1, o.1);
      });
  again = λ owner rest h. rw ((number_codec w8 wide8).again (owner_number owner) rest (owner_small owner h), owner_back owner h) refl;
  counted = λ owner. length-number_bytes w8 (owner_number owner);
}

-- a Located
pub located_codec : IsCodec located_bytes (λ located. LOCATED_BYTES) IsLawfulLocated read_located
unfolding located_bytes read_located
located_codec =
    fields3 (λ p. record { tablet = p.0; range = p.1; owner = p.2 }) (λ y. (y.tablet, y.range, y.owner)) (λ p. refl) (λ y. refl) (number_codec w32 wide32) range_codec owner_codec

-- ---- lengths

-- a lawful Request takes as many bytes as its kind allows
pub request_size : (request : Request) → IsLawfulRequest request → is_in_range (REQUEST_BYTES + 1) (REQUEST_BYTES + LONGEST_KEY + 12 + LONGEST_VALUE) (request_count request) ≡ true
request_size request h = grind (arith, text_within, is_in_range_of)

-- a test of which the second part holds
or_second : (a b : Bool) → b ≡ true → (a || b) ≡ true
or_second true b e = refl
or_second false b e = e

-- a lawful Reply takes as many bytes as its kind allows
pub reply_size : (reply : Reply) → IsLawfulReply reply → (eqb (reply_count reply) REPLY_BYTES || is_in_range (REPLY_BYTES + 2) (REPLY_BYTES + 12 + LONGEST_VALUE) (reply_count reply)) ≡ true
reply_size reply h = grind (arith, text_within, or_second, eqb, is_in_range_of, reply.answer, h.3)
