-- The laws of entries within a frame, and of those with which a body ends.
use Rattle.std.proofs.Common.{◌≡◌, ℕ, zero, suc, ◌+◌, ◌-◌, ◌^◌, ◌<◌, ◌≤◌, List, [], ◌∷◌, ◌++◌, length, Result, Ok, refl, sym, ap, subst, ◌∙◌, append_assoc, arith, eq-eqb, length-append, ◌⊎◌, inl, inr}
use Rattle.std.specs.List.{AllByRecursion, flat_map, sum_by}
use Rattle.std.specs.Int.{w32}
use Rattle.std.proofs.lemmas.List.{append-nil}
use Rattle.std.proofs.lemmas.List.Sums.{sum_by-cons, sum_by-append}
use Rattle.std.proofs.lemmas.Grind.{flat_map-append}
use Rattle.rk_entry.specs.declared.entry.Entry.{Entry}
use Rattle.rk_entry.specs.declared.entry.Entry.TheVariants as entries
use Rattle.rk_entry.specs.declared.error.DecodeError.{DecodeError}
use Rattle.rk_entry.specs.Spelling.{spelled}
use Rattle.rk_entry.specs.Lawful.{IsLawfulEntry}
use Rattle.rk_entry.specs.Reading.{read_entry}
use Rattle.rk_entry.proofs.Tools.{bind_ok, ok_is, Takes, takes_both}
use Rattle.rk_entry.proofs.NumberLaws.{wide32}
use Rattle.rk_entry.proofs.TextLaws.{text_within}
use Rattle.rk_entry.proofs.EntryLaws.{entry_takes, entry_again}
use Rattle.rk_entry.proofs.Sizes.{spelled_count}
use Rattle.rk_message.specs.declared.fields.TheConstants.{COUNT_BYTES}
use Rattle.rk_message.specs.declared.pulling.TheConstants.{SHORTEST_ENTRY}
use Rattle.rk_message.specs.Fields.{elements_bytes, list_bytes, read_list}
use Rattle.rk_message.specs.Pulling.{within_frame, read_entry_within, entry_count, where_last, read_last_entry, read_ending, read_last_entries}
use Rattle.rk_message.proofs.Codecs.{IsCodec, codec_as}
use Rattle.rk_message.proofs.Chains.{then_codec}
use Rattle.rk_message.proofs.FieldLaws.{number_codec}
use Rattle.rk_message.proofs.ListLaws.{body_was, list_codec, no_elements}

-- ---- one entry

-- what is read within a frame is what is read
within_frame_ok : (read : Result (Entry × List ℕ) DecodeError) (x : Entry × List ℕ) → within_frame read ≡ Ok x → read ≡ Ok x
within_frame_ok read x e = grind arith

-- an entry within a frame
pub entry_codec : IsCodec spelled entry_count IsLawfulEntry read_entry_within
unfolding read_entry_within
entry_codec = record {
  takes = λ from x e. entry_takes from x (within_frame_ok (read_entry from) x e);
  again = λ entry rest h. ap within_frame (entry_again entry rest h);
  counted = λ entry. refl;
}

-- no lawful entry is shorter than the shortest
shortest : (entry : Entry) → IsLawfulEntry entry → SHORTEST_ENTRY ≤ entry_count entry
shortest entry h = grind (arith, spelled_count, text_within)

-- ---- more entries

-- an entry takes a byte, so there are no more entries than bytes of them
pub entries_few : (entries : List Entry) → length entries ≤ sum_by entry_count entries
entries_few [] = omega arith
entries_few (entry ∷ entries) = omega (arith, sum_by-cons entry_count entry entries, spelled_count entry, entries_few entries)

-- no entries take no bytes, and some take those of the shortest at least
pub none_or_shortest : (entries : List Entry) → AllByRecursion IsLawfulEntry entries → (sum_by entry_count entries ≡ 0) ⊎ (SHORTEST_ENTRY ≤ sum_by entry_count entries)
none_or_shortest [] each = inl (omega arith)
none_or_shortest (entry ∷ entries) each = inr (omega (arith, sum_by-cons entry_count entry entries, shortest entry each.0))

-- one more is spelled behind the others
elements_push : (entries : List Entry) (entry : Entry) → elements_bytes spelled (entries ++ entry ∷ []) ≡ elements_bytes spelled entries ++ spelled entry
unfolding elements_bytes
elements_push entries entry =
    flat_map-append spelled entries (entry ∷ []) ∙ ap (λ (t : List ℕ). flat_map spelled entries ++ t) (append-nil (spelled entry))

-- one more adds its bytes
sum_push : (entries : List Entry) (entry : Entry) → sum_by entry_count (entries ++ entry ∷ []) ≡ sum_by entry_count entries + entry_count entry
sum_push entries entry = omega (arith, sum_by-append entry_count entries (entry ∷ []), sum_by-cons entry_count entry [])

-- lawful ones and one more are lawful
all_push : (entries : List Entry) (entry : Entry) → AllByRecursion IsLawfulEntry entries → IsLawfulEntry entry → AllByRecursion IsLawfulEntry (entries ++ entry ∷ [])
all_push [] entry each last = (last, tt)
all_push (first ∷ entries) entry each last = (each.0, all_push entries entry each.1 last)

-- those before the last are lawful, and the last
all_parts : (entries : List Entry) (entry : Entry) → AllByRecursion IsLawfulEntry (entries ++ entry ∷ []) → AllByRecursion IsLawfulEntry entries × IsLawfulEntry entry
all_parts [] entry each = (tt, each.0)
all_parts (first ∷ entries) entry each = let parts = all_parts entries entry each.1 in ((each.0, parts.0), parts.1)

-- if there are some, there is a last
last_of : (entry : Entry) (entries : List Entry) → (front : List Entry) × (last : Entry) × (entry ∷ entries ≡ front ++ last ∷ [])
last_of entry [] = ([], entry, refl)
last_of entry (next ∷ entries) =
    let parts = last_of next entries in
    (entry ∷ parts.0, parts.1, ap (λ (es : List Entry). entry ∷ es) parts.2)

-- ---- the entry that ends a body

-- it was read, and the body ends with it
last_was : (before size : ℕ) (bytes : List ℕ) (read : Result (Entry × List ℕ) DecodeError) (x : Entry × List ℕ) → where_last before size bytes read ≡ Ok x
    → (read ≡ Ok x) × (size ≡ before + (length bytes - length x.1))
last_was before size bytes read x e = grind (arith, body_was, bind_ok)

last_codec : (before size : ℕ) → IsCodec spelled entry_count (λ entry. IsLawfulEntry entry × (size ≡ before + entry_count entry)) (read_last_entry before size)
unfolding read_last_entry
last_codec before size = record {
  takes = λ from x e.
      let was = last_was before size from (read_entry_within from) x e in
      let taken = entry_codec.takes from x was.0 in
      record {
        front = taken.front;
        split = taken.split;
        spelled = λ fits.
            let h = taken.spelled fits in
            let count : length from - length x.1 ≡ entry_count x.0 = omega (arith, ap length taken.split, length-append taken.front x.1, ap length h.0) in
            (h.0, h.1, (h.2, was.1 ∙ ap (λ (n : ℕ). before + n) count));
      };
  again = λ entry rest h.
      let count : length (spelled entry ++ rest) - length rest ≡ entry_count entry = omega (arith, length-append (spelled entry) rest) in
      rw (entry_codec.again entry rest h.0, count, eq-eqb size (before + entry_count entry) h.1) refl;
  counted = λ entry. refl;
}

-- ---- entries that end a body

ending_takes : (first size count : ℕ) (bytes : List ℕ) (x : List Entry × List ℕ) → read_ending first size count bytes ≡ Ok x
    → Takes bytes (elements_bytes spelled x.0) x.1 (AllByRecursion IsLawfulEntry x.0 × (length x.0 ≡ count) × (size ≡ first + sum_by entry_count x.0))
unfolding read_ending
ending_takes first size zero bytes x e =
    let read : List Entry × List ℕ = ([], bytes) in
    let g = body_was first size read x e in
    let P : List Entry → Type 0 = λ es. AllByRecursion IsLawfulEntry es × (length es ≡ 0) × (size ≡ first + sum_by entry_count es) in
    subst (λ (y : List Entry × List ℕ). Takes bytes (elements_bytes spelled y.0) y.1 (P y.0)) g.1
    (subst (λ (t : List ℕ). Takes bytes t bytes (P [])) (sym (no_elements spelled))
    (record { front = []; split = refl; spelled = λ fits. (refl, fits, (tt, refl, omega (arith, g.0))) }))
ending_takes first size (suc others) bytes x e =
    let f = bind_ok (read_list read_entry_within others bytes) e in
    let before = first + (length bytes - length f.0.1) in
    let l = bind_ok (read_last_entry before size f.0.1) f.2 in
    let front = (list_codec entry_codec others).takes bytes f.0 f.1 in
    let both = takes_both front ((last_codec before size).takes f.0.1 l.0 l.1) in
    subst (λ (y : List Entry × List ℕ). Takes bytes (elements_bytes spelled y.0) y.1 (AllByRecursion IsLawfulEntry y.0 × (length y.0 ≡ suc others) × (size ≡ first + sum_by entry_count y.0)))
    (ok_is (f.0.0 ++ l.0.0 ∷ [], l.0.1) x l.2) (record {
      front = both.front;
      split = both.split;
      spelled = λ fits.
          let h = both.spelled fits in
          let taken = front.spelled fits in
          let count : length bytes - length f.0.1 ≡ sum_by entry_count f.0.0 =
          omega (arith, ap length front.split, length-append front.front f.0.1, ap length taken.0, (list_codec entry_codec others).counted f.0.0) in (
            h.0 ∙ sym (elements_push f.0.0 l.0.0),
            h.1,
            (
              all_push f.0.0 l.0.0 h.2.0.0 h.2.1.0,
              omega (arith, length-append f.0.0 (l.0.0 ∷ []), h.2.0.1),
              omega (arith, h.2.1.1, count, sum_push f.0.0 l.0.0),
            ),
          );
    })

ending_pushed : (first size : ℕ) (front : List Entry) (last : Entry) (rest : List ℕ) → AllByRecursion IsLawfulEntry (front ++ last ∷ []) → size ≡ first + sum_by entry_count (front ++ last ∷ [])
    → read_ending first size (length (front ++ last ∷ [])) (elements_bytes spelled (front ++ last ∷ []) ++ rest) ≡ Ok (front ++ last ∷ [], rest)
unfolding read_ending
ending_pushed first size front last rest each is =
    let count : length (front ++ last ∷ []) ≡ suc (length front) = omega (arith, length-append front (last ∷ [])) in
    let whole = elements_bytes spelled front ++ (spelled last ++ rest) in
    let bytes : elements_bytes spelled (front ++ last ∷ []) ++ rest ≡ whole =
    ap (λ (t : List ℕ). t ++ rest) (elements_push front last) ∙ append_assoc (elements_bytes spelled front) (spelled last) rest in
    let parts = all_parts front last each in
    let codec = list_codec entry_codec (length front) in
    let taken : length whole - length (spelled last ++ rest) ≡ sum_by entry_count front =
    omega (arith, length-append (elements_bytes spelled front) (spelled last ++ rest), codec.counted front) in
    let ends : size ≡ first + sum_by entry_count front + entry_count last = omega (arith, is, sum_push front last) in
    ap (λ (n : ℕ). read_ending first size n (elements_bytes spelled (front ++ last ∷ []) ++ rest)) count
    ∙ ap (read_ending first size (suc (length front))) bytes
    ∙ rw (codec.again front (spelled last ++ rest) (parts.0, refl), taken, (last_codec (first + sum_by entry_count front) size).again last rest (parts.1, ends)) refl

ending_again : (first size : ℕ) (xs : List Entry) (rest : List ℕ) → AllByRecursion IsLawfulEntry xs → size ≡ first + sum_by entry_count xs
    → read_ending first size (length xs) (elements_bytes spelled xs ++ rest) ≡ Ok (xs, rest)
unfolding read_ending
ending_again first size [] rest each is = rw (no_elements spelled, eq-eqb size first (omega (arith, is))) refl
ending_again first size (x ∷ xs) rest each is =
    let parts = last_of x xs in
    subst
    (λ (es : List Entry). AllByRecursion IsLawfulEntry es → size ≡ first + sum_by entry_count es → read_ending first size (length es) (elements_bytes spelled es ++ rest) ≡ Ok (es, rest))
    (sym parts.2) (ending_pushed first size parts.0 parts.1 rest) each is

ending_codec : (first size count : ℕ) → IsCodec (elements_bytes spelled) (sum_by entry_count)
    (λ xs. AllByRecursion IsLawfulEntry xs × (length xs ≡ count) × (size ≡ first + sum_by entry_count xs)) (read_ending first size count)
ending_codec first size count = record {
  takes = ending_takes first size count;
  again = λ xs rest h. subst (λ (n : ℕ). read_ending first size n (elements_bytes spelled xs ++ rest) ≡ Ok (xs, rest)) h.1 (ending_again first size xs rest h.0 h.2);
  counted = (list_codec entry_codec count).counted;
}

-- such entries after their count
pub last_entries_codec : (first size : ℕ) → size < 256 ^ 4 → IsCodec (list_bytes spelled) (λ xs. COUNT_BYTES + sum_by entry_count xs)
    (λ xs. AllByRecursion IsLawfulEntry xs × (size ≡ first + sum_by entry_count xs)) (read_last_entries first size)
unfolding list_bytes read_last_entries
last_entries_codec first size small =
    codec_as (λ xs. refl) (λ xs h. (h.1.0, h.1.2)) (λ xs h. (record { least_is = omega arith; fits = omega (arith, h.1, small, entries_few xs) }, (h.0, refl, h.1)))
    (then_codec length (number_codec w32 wide32) (λ n xs h. h.1) (ending_codec first size))
