-- An entry that is read is spelled so, and a lawful entry that is spelled so is read, whatever follows it.
use Rattle.std.proofs.Common.{◌≡◌, ℕ, ◌+◌, ◌-◌, ◌*◌, ◌^◌, ◌<◌, ◌≤◌, Bool, true, false, cond, ltb, eqb, List, [], ◌++◌, length, Option, Some, Ok, refl, sym, ap, subst, ◌∙◌, append_assoc, arith, eq-eqb, length-append}
use Rattle.std.specs.Prelude.{◌&&◌, not, ⊤}
use Rattle.std.specs.Option.{ok_or}
use Rattle.std.specs.Int.{w8, w32, is_in_range}
use Rattle.std.proofs.Math.Nat.{mul-mod_left}
use Rattle.std.proofs.lemmas.Bool.{ltb-false, ltb-true, eqb-true}
use Rattle.std.proofs.lemmas.Bool.Decides.{nat_tests}
use Rattle.std.proofs.lemmas.List.{take_at}
use Rattle.rk_types.specs.declared.held.Held.{Held}
use Rattle.rk_entry.specs.declared.error.DecodeError.TheVariants.{Bad}
use Rattle.rk_entry.specs.declared.error.TheConstants.{BAD_KIND, BAD_BODY_LENGTH, BAD_MARK}
use Rattle.rk_entry.specs.declared.entry.Entry.{Entry}
use Rattle.rk_entry.specs.declared.entry.Entry.TheVariants as entries
use Rattle.rk_entry.specs.declared.kind.Kind.{Kind}
use Rattle.rk_entry.specs.declared.kind.Kind.TheVariants as kinds
use Rattle.rk_entry.specs.declared.kind.TheConstants.{TOMBSTONE_BYTES, LONGEST_BODY}
use Rattle.rk_entry.specs.Steps.{◌>>=◌, unless}
use Rattle.rk_entry.specs.Numbers.{number_bytes, read_number}
use Rattle.rk_entry.specs.Kinds.{kind_number, kind_numbered, item_kind, kind_of, is_marked, is_list_length, is_body_length}
use Rattle.rk_entry.specs.Spelling.{mark_of, mark_bytes, mark_count, fields_bytes, body_length, front_bytes, spelled}
use Rattle.rk_entry.specs.Lawful.{IsLawfulEntry}
use Rattle.rk_entry.specs.Lengths.{value_count, fields_count}
use Rattle.rk_entry.specs.Reading.{read_kind, read_body_length, read_fields, read_mark, before, read_entry}
use Rattle.rk_entry.proofs.Sizes.{body_count}
use Rattle.rk_entry.proofs.Tools.{bind_ok, unless_ok, ok_is, Takes, takes_both, takes_weaker}
use Rattle.rk_entry.proofs.NumberLaws.{wide8, wide32, number_takes, number_again, number_shorter}
use Rattle.rk_entry.proofs.TextLaws.{text_within, is_in_range_of}
use Rattle.rk_entry.proofs.EndLaws.{chosen}
use Rattle.rk_entry.proofs.FieldLaws.{ok_or_ok, IsOf, fields_take}
use Rattle.rk_entry.proofs.FieldsAgain.{tombstone_again, object_again, refused_again, carried_again, joined_again}

-- ---- kinds

-- a number that is read as a kind is its number
kind_is : (n : ℕ) (kind : Kind) → kind_numbered n ≡ Some kind → n ≡ kind_number kind
kind_is n kind e = grind (arith, chosen, eqb, eqb-true)

-- a kind that is read is spelled by its number
kind_takes : (bytes : List ℕ) (x : Kind × List ℕ) → read_kind bytes ≡ Ok x → Takes bytes (number_bytes w8 (kind_number x.0)) x.1 ⊤
unfolding read_kind
kind_takes bytes x e =
    let a = bind_ok (read_number w8 bytes) e in
    let b = bind_ok (ok_or (kind_numbered a.0.0) (Bad BAD_KIND)) a.2 in
    let number : a.0.0 ≡ kind_number b.0 = kind_is a.0.0 b.0 (ok_or_ok (kind_numbered a.0.0) (Bad BAD_KIND) b.0 b.1) in
    subst (λ (y : Kind × List ℕ). Takes bytes (number_bytes w8 (kind_number y.0)) y.1 ⊤) (ok_is (b.0, a.0.1) x b.2)
    (subst (λ (n : ℕ). Takes bytes (number_bytes w8 n) a.0.1 ⊤) number
    (takes_weaker (λ (fits : a.0.0 < 256). tt) (number_takes w8 wide8 bytes a.0 a.1)))

-- a kind takes a byte
kind_shorter : (bytes : List ℕ) (x : Kind × List ℕ) → read_kind bytes ≡ Ok x → length x.1 < length bytes
unfolding read_kind
kind_shorter bytes x e =
    let a = bind_ok (read_number w8 bytes) e in
    let b = bind_ok (ok_or (kind_numbered a.0.0) (Bad BAD_KIND)) a.2 in
    let rest : a.0.1 ≡ x.1 = ap (λ (y : Kind × List ℕ). y.1) (ok_is (b.0, a.0.1) x b.2) in
    let shorter : length a.0.1 < length bytes = number_shorter w8 bytes a.0 a.1 (omega arith) in
    subst (λ (r : List ℕ). length r < length bytes) rest shorter

-- the number of a kind is a byte
kind_small : (kind : Kind) → kind_number kind < 256
kind_small kind = grind arith

-- the number of a kind is read as the kind
kind_numbered_of : (kind : Kind) → kind_numbered (kind_number kind) ≡ Some kind
kind_numbered_of kind = grind arith

-- a kind that is spelled is read
kind_again : (kind : Kind) (rest : List ℕ) → read_kind (number_bytes w8 (kind_number kind) ++ rest) ≡ Ok (kind, rest)
unfolding read_kind
kind_again kind rest = rw (number_again w8 wide8 (kind_number kind) rest (kind_small kind), kind_numbered_of kind) refl

-- ---- lengths of bodies

-- if two tests hold together, each holds
both_true : (a b : Bool) → (a && b) ≡ true → (a ≡ true) × (b ≡ true)
both_true true b e = (refl, e)
both_true false b e = absurd cc

-- what is within a range is at most its end
at_most : (lo hi n : ℕ) → is_in_range lo hi n ≡ true → n ≤ hi
at_most lo hi n e = grind (arith, nat_tests)

-- no kind has a body above the longest
body_within : (kind : Kind) (n : ℕ) → is_body_length kind n ≡ true → n ≤ LONGEST_BODY
body_within kind n e = grind (arith, at_most, both_true, eqb)

-- what is not refused holds
not_false : (b : Bool) → not b ≡ false → b ≡ true
not_false true e = refl
not_false false e = absurd cc

-- the length of a body that is read is within the longest, and spelled so
body_length_takes : (kind : Kind) (bytes : List ℕ) (x : ℕ × List ℕ) → read_body_length kind bytes ≡ Ok x → (x.0 ≤ LONGEST_BODY) × Takes bytes (number_bytes w32 x.0) x.1 (x.0 < 256 ^ 4)
unfolding read_body_length
body_length_takes kind bytes x e =
    let a = bind_ok (read_number w32 bytes) e in
    let g = unless_ok (not (is_body_length kind a.0.0)) BAD_BODY_LENGTH a.2 in
    subst (λ (y : ℕ × List ℕ). (y.0 ≤ LONGEST_BODY) × Takes bytes (number_bytes w32 y.0) y.1 (y.0 < 256 ^ 4)) g.1
    (body_within kind a.0.0 (not_false (is_body_length kind a.0.0) g.0), number_takes w32 wide32 bytes a.0 a.1)

-- a length that the kind allows is read back from its spelling
body_length_again : (kind : Kind) (n : ℕ) (rest : List ℕ) → is_body_length kind n ≡ true → read_body_length kind (number_bytes w32 n ++ rest) ≡ Ok (n, rest)
unfolding read_body_length
body_length_again kind n rest lawful =
    let small : n < 256 ^ 4 = omega (arith, body_within kind n lawful) in
    rw (number_again w32 wide32 n rest small, lawful) refl

-- ---- marks

-- a mark that is asked for and read is that of the bytes before it
mark_takes_if : (b : Bool) (front bytes rest : List ℕ)
    → cond b (read_number w8 bytes >>= λ mark. unless (not (eqb mark.0 (mark_of front))) BAD_MARK mark.1) (Ok bytes) ≡ Ok rest
    → Takes bytes (cond b (number_bytes w8 (mark_of front)) []) rest ⊤
mark_takes_if true front bytes rest e =
    let a = bind_ok (read_number w8 bytes) e in
    let g = unless_ok (not (eqb a.0.0 (mark_of front))) BAD_MARK a.2 in
    let mark : a.0.0 ≡ mark_of front = eqb-true a.0.0 (mark_of front) (not_false (eqb a.0.0 (mark_of front)) g.0) in
    subst (λ (r : List ℕ). Takes bytes (number_bytes w8 (mark_of front)) r ⊤) g.1
    (subst (λ (n : ℕ). Takes bytes (number_bytes w8 n) a.0.1 ⊤) mark
    (takes_weaker (λ (fits : a.0.0 < 256). tt) (number_takes w8 wide8 bytes a.0 a.1)))
mark_takes_if false front bytes rest e = grind (arith, ok_is)

-- what is read at the end of an entry of this kind is its mark, if it has one
mark_takes : (kind : Kind) (front bytes rest : List ℕ) → read_mark kind front bytes ≡ Ok rest → Takes bytes (mark_bytes kind front) rest ⊤
unfolding read_mark
mark_takes kind front bytes rest e = mark_takes_if (is_marked kind) front bytes rest e

-- a mark is a byte
mark_small : (bytes : List ℕ) → mark_of bytes < 256
unfolding mark_of
mark_small bytes = omega arith

-- a mark that is spelled is read
mark_again : (kind : Kind) (front rest : List ℕ) → read_mark kind front (mark_bytes kind front ++ rest) ≡ Ok rest
unfolding read_mark
mark_again kinds.Object front rest = refl
mark_again kinds.Tombstone front rest = refl
mark_again kinds.Refused front rest = refl
mark_again kinds.Carried front rest = refl
mark_again kinds.Joined front rest = refl
mark_again kinds.LongObject front rest =
    rw (number_again w8 wide8 (mark_of front) rest (mark_small front), eq-eqb (mark_of front) (mark_of front) refl) refl

-- ---- entries that are read

-- what comes before the rest
pub before_is : (bytes front rest : List ℕ) → bytes ≡ front ++ rest → before rest bytes ≡ front
before_is bytes front rest split = grind (arith, length-append, take_at)

-- the parts that were read are the spelling
entry_text : (kind : Kind) (n : ℕ) (entry : Entry) (front : List ℕ) → IsOf kind n entry
    → front ≡ number_bytes w8 (kind_number kind) ++ (number_bytes w32 n ++ fields_bytes entry)
    → (number_bytes w8 (kind_number kind) ++ (number_bytes w32 n ++ fields_bytes entry)) ++ mark_bytes kind front ≡ spelled entry
unfolding spelled front_bytes
entry_text kind n entry front of front_is =
    let parts : Kind → ℕ → List ℕ = λ k m. number_bytes w8 (kind_number k) ++ (number_bytes w32 m ++ fields_bytes entry) in
    let body : n ≡ body_length entry = of.body_is ∙ ap (λ (k : Kind). fields_count entry + mark_count k) (sym of.kind_is) ∙ sym (body_count entry) in
    ap (λ (f : List ℕ). parts kind n ++ mark_bytes kind f) front_is
    ∙ ap (λ (k : Kind). parts k n ++ mark_bytes k (parts k n)) (sym of.kind_is)
    ∙ ap (λ (m : ℕ). parts (kind_of entry) m ++ mark_bytes (kind_of entry) (parts (kind_of entry) m)) body

-- an entry that is read is lawful and spelled so
pub entry_takes : (bytes : List ℕ) (x : Entry × List ℕ) → read_entry bytes ≡ Ok x → Takes bytes (spelled x.0) x.1 (IsLawfulEntry x.0)
unfolding read_entry
entry_takes bytes x e =
    let k = bind_ok (read_kind bytes) e in
    let n = bind_ok (read_body_length k.0.0 k.0.1) k.2 in
    let f = bind_ok (read_fields k.0.0 n.0.0 n.0.1) n.2 in
    let m = bind_ok (read_mark k.0.0 (before f.0.1 bytes) f.0.1) f.2 in
    let body = body_length_takes k.0.0 k.0.1 n.0 n.1 in
    let front = takes_both (kind_takes bytes k.0 k.1) (takes_both body.1 (fields_take k.0.0 n.0.0 n.0.1 f.0 body.0 f.1)) in
    let both = takes_both front (mark_takes k.0.0 (before f.0.1 bytes) f.0.1 m.0 m.1) in
    subst (λ (y : Entry × List ℕ). Takes bytes (spelled y.0) y.1 (IsLawfulEntry y.0)) (ok_is (f.0.0, m.0) x m.2) (record {
      front = both.front;
      split = both.split;
      spelled = λ fits.
          let parts = front.spelled fits in
          let whole = both.spelled fits in
          let of : IsOf k.0.0 n.0.0 f.0.0 = parts.2.1.1 in
          let text = entry_text k.0.0 n.0.0 f.0.0 (before f.0.1 bytes) of (before_is bytes front.front f.0.1 front.split ∙ parts.0) in
          (whole.0 ∙ text, whole.1, of.lawful);
    })

-- an entry takes at least a byte
pub entry_shorter : (bytes : List ℕ) (x : Entry × List ℕ) → read_entry bytes ≡ Ok x → length x.1 < length bytes
unfolding read_entry
entry_shorter bytes x e =
    let k = bind_ok (read_kind bytes) e in
    let n = bind_ok (read_body_length k.0.0 k.0.1) k.2 in
    let f = bind_ok (read_fields k.0.0 n.0.0 n.0.1) n.2 in
    let m = bind_ok (read_mark k.0.0 (before f.0.1 bytes) f.0.1) f.2 in
    let body = body_length_takes k.0.0 k.0.1 n.0 n.1 in
    let more = takes_both body.1 (takes_both (fields_take k.0.0 n.0.0 n.0.1 f.0 body.0 f.1) (mark_takes k.0.0 (before f.0.1 bytes) f.0.1 m.0 m.1)) in
    let rest : m.0 ≡ x.1 = ap (λ (y : Entry × List ℕ). y.1) (ok_is (f.0.0, m.0) x m.2) in
    let split : length k.0.1 ≡ length more.front + length m.0 = ap length more.split ∙ length-append more.front m.0 in
    let shorter : length m.0 < length bytes = omega (arith, split, kind_shorter bytes k.0 k.1) in
    subst (λ (r : List ℕ). length r < length bytes) rest shorter

-- the fields of an entry come before the rest, which is no longer than the bytes
pub fields_shorter : (bytes : List ℕ) (kind : Kind) (after_kind : List ℕ) (body : ℕ) (after_length : List ℕ) (entry : Entry) (rest : List ℕ)
    → read_kind bytes ≡ Ok (kind, after_kind) → read_body_length kind after_kind ≡ Ok (body, after_length) → read_fields kind body after_length ≡ Ok (entry, rest)
    → length rest ≤ length bytes
fields_shorter bytes kind after_kind body after_length entry rest k n f =
    let length_read = body_length_takes kind after_kind (body, after_length) n in
    let front = takes_both (kind_takes bytes (kind, after_kind) k) (takes_both length_read.1 (fields_take kind body after_length (entry, rest) length_read.0 f)) in
    omega (arith, ap length front.split, length-append front.front rest)

-- ---- entries that are spelled

-- the length of the body of an item with this value
body_of : (held : Held) (value : Option (List ℕ)) → held.value ≡ value → body_length (entries.Held held) ≡ TOMBSTONE_BYTES + length held.key + value_count value + mark_count (item_kind value)
body_of held value is =
    body_count (entries.Held held) ∙ ap (λ (v : Option (List ℕ)). TOMBSTONE_BYTES + length held.key + value_count v + mark_count (item_kind v)) is

-- the fields of a lawful entry that are spelled are read
fields_again : (entry : Entry) (rest : List ℕ) → IsLawfulEntry entry → read_fields (kind_of entry) (body_length entry) (fields_bytes entry ++ rest) ≡ Ok (entry, rest)
fields_again entry rest h =
    grind (arith, refused_again, body_count, carried_again, joined_again, tombstone_again, object_again)

-- a list of so many members fits its count
pub list_length : (first each most count n : ℕ) → 0 < each → n ≡ first + each * count → n ≤ most → is_list_length first each most n ≡ true
list_length first each most count n some is within = grind (arith, is_in_range_of, mul-mod_left)

-- the body of a lawful entry has a length that its kind allows
pub lawful_length : (entry : Entry) → IsLawfulEntry entry → is_body_length (kind_of entry) (body_length entry) ≡ true
lawful_length entry h = grind (arith, text_within, body_count, is_in_range_of, list_length, body_of, ltb, ltb-true, ltb-false)

-- what comes before the mark, field by field
front_parts : (entry : Entry) (rest : List ℕ) → front_bytes entry ++ rest ≡ number_bytes w8 (kind_number (kind_of entry)) ++ (number_bytes w32 (body_length entry) ++ (fields_bytes entry ++ rest))
unfolding front_bytes
front_parts entry rest =
    let kind = number_bytes w8 (kind_number (kind_of entry)) in
    let body = number_bytes w32 (body_length entry) in
    append_assoc kind (body ++ fields_bytes entry) rest ∙ ap (λ (t : List ℕ). kind ++ t) (append_assoc body (fields_bytes entry) rest)

-- a lawful entry that is spelled is read, whatever follows it
pub entry_again : (entry : Entry) (rest : List ℕ) → IsLawfulEntry entry → read_entry (spelled entry ++ rest) ≡ Ok (entry, rest)
unfolding read_entry spelled
entry_again entry rest h =
    let kind = number_bytes w8 (kind_number (kind_of entry)) in
    let body = number_bytes w32 (body_length entry) in
    let mark = mark_bytes (kind_of entry) (front_bytes entry) in
    let whole = kind ++ (body ++ (fields_bytes entry ++ (mark ++ rest))) in
    let front : front_bytes entry ++ (mark ++ rest) ≡ whole = front_parts entry (mark ++ rest) in
    let bytes_are : spelled entry ++ rest ≡ whole = append_assoc (front_bytes entry) mark rest ∙ front in
    let marked : before (mark ++ rest) whole ≡ front_bytes entry = before_is whole (front_bytes entry) (mark ++ rest) (sym front) in
    ap read_entry bytes_are
    ∙ rw (
      kind_again (kind_of entry) (body ++ (fields_bytes entry ++ (mark ++ rest))),
      body_length_again (kind_of entry) (body_length entry) (fields_bytes entry ++ (mark ++ rest)) (lawful_length entry h),
      fields_again entry (mark ++ rest) h,
      marked,
      mark_again (kind_of entry) (front_bytes entry) rest,
    ) refl

-- the same bytes spell one entry, with the same bytes after it
pub one_spelled : (a b : Entry) (x y : List ℕ) → IsLawfulEntry a → IsLawfulEntry b → spelled a ++ x ≡ spelled b ++ y → (a ≡ b) × (x ≡ y)
one_spelled a b x y ha hb same =
    let read = ok_is (a, x) (b, y) (sym (entry_again a x ha) ∙ ap read_entry same ∙ entry_again b y hb) in
    (ap (λ (z : Entry × List ℕ). z.0) read, ap (λ (z : Entry × List ℕ). z.1) read)
