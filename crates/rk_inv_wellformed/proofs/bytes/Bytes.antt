-- What is spelled of lawful entries are bytes, and the entries that are read of a first part of a spelling are among those spelled.
use Rattle.std.proofs.Common.{◌≡◌, ◌<◌, ◌+◌, ◌/◌, ◌^◌, ℕ, zero, suc, Bool, false, List, [], ◌∷◌, ◌++◌, All, length, Option, None, Some}
use Rattle.std.proofs.Common.{IfSome, Result, Ok, Err, refl, ap, subst, sym, ◌∙◌, append_assoc, arith, lit<, mod-lt, w8, w16, w32, w64}
use Rattle.std.proofs.Common.{position, nat_lt, not}
use Rattle.rk_inv_wellformed.proofs.Words.{byte_len, get_or_past, cases_lt, cond-true, cond_both, nat_tests, All-append, All-cons, All-head}
use Rattle.rk_inv_wellformed.proofs.Words.{All-nil, All-tail, value_fault, Ended, Range, LONGEST_KEY, LONGEST_VALUE, kind_of, IsLawfulEntry}
use Rattle.rk_inv_wellformed.proofs.Words.{Entry, key_fault, End, is_marked, lt-ltb, not-true, Width, byte_at, bytes_high_first}
use Rattle.rk_inv_wellformed.proofs.Words.{position_or_len, bad_byte, text_fault, fields_bytes, item_value_bytes, spelled_none}
use Rattle.rk_entry.proofs.EntryLaws.{entry_takes, one_spelled}
use Rattle.rk_entry.proofs.StandLaws.{entries_of-cons, entries_of-none}
use Rattle.rk_entry.proofs.Tools.{IsBytes}
use Rattle.rk_entry.specs.Ends.{end_bytes, outcome_bytes, range_bytes}
use Rattle.rk_entry.specs.Entries.{entries_of, entries_within, spelled_all}
use Rattle.rk_entry.specs.Lists.{ends_bytes, segments_bytes}
use Rattle.rk_entry.specs.Numbers.{number_bytes}
use Rattle.rk_entry.specs.Reading.{read_entry}
use Rattle.rk_entry.specs.Spelling.{refused_bytes, spelled, carried_bytes, front_bytes, head_bytes, held_bytes, joined_bytes}
use Rattle.rk_entry.specs.Texts.{key_bytes, value_bytes}
use Rattle.rk_entry.specs.declared.error.DecodeError.{DecodeError}
use Rattle.rk_entry.specs.declared.head.Head.{Head}
use Rattle.rk_inv_wellformed.proofs.maps.{all_flat, all_front, all_each, either_way}

-- each of these is a byte
abbrev AreBytes : List ℕ → Type 0
AreBytes list = All (λ byte. byte < 256) list

both_bytes : (front back : List ℕ) → AreBytes front → AreBytes back → AreBytes (front ++ back)
both_bytes front back a b = All-append (λ byte. byte < 256) front back a b

-- ---- numbers and texts

byte_is : (place n : ℕ) → byte_at place n < 256
byte_is zero n = mod-lt n (lit< tt)
byte_is (suc place) n = mod-lt (n / 256 ^ suc place) (lit< tt)

digits_bytes : (count n : ℕ) → AreBytes (bytes_high_first count n)
digits_bytes zero n = All-nil _
digits_bytes (suc count) n = grind (arith, byte_at, bytes_high_first, byte_is, (digits_bytes count n))

number_are : (w : Width) (n : ℕ) → AreBytes (number_bytes w n)
unfolding number_bytes
number_are w n = digits_bytes (byte_len w) n

-- if no place is found, none passes
none_passes : (p : ℕ → Bool) (xs : List ℕ) → (position_or_len p xs < length xs → ⊥) → All (λ x. p x ≡ false) xs
none_passes p [] none = All-nil _
none_passes p (x ∷ xs) none = cond_both (not (p x)) (1 + position_or_len p xs) 0
    (λ (place : ℕ). (place < length (x ∷ xs) → ⊥) → All (λ x. p x ≡ false) (x ∷ xs))
    (λ is beyond. All-cons (λ x. p x ≡ false) x xs (not-true (p x) is) (none_passes p xs (λ below. beyond (omega arith))))
    (λ is beyond. absurd (beyond (omega arith))) none

none_found : (p : ℕ → Bool) (xs : List ℕ) → position p xs ≡ None → All (λ x. p x ≡ false) xs
none_found p xs none = grind (arith, none_passes, position_or_len, cond-true, lt-ltb)

text_bytes : (shortest longest : ℕ) (bytes : List ℕ) → text_fault shortest longest bytes ≡ None → AreBytes bytes
text_bytes shortest longest bytes none = grind (arith, nat_lt, bad_byte, none_found, nat_tests)

-- ---- entries

op_end : (end : End) → AreBytes (outcome_bytes end)
unfolding outcome_bytes
op_end End.Absent = both_bytes _ _ (number_are w8 _) (number_are w64 0)
op_end _ = both_bytes _ _ (number_are w8 _) (number_are w64 _)

end_are : (end : Ended) → AreBytes (end_bytes end)
unfolding end_bytes
end_are end = both_bytes _ _ (number_are w32 end.client) (both_bytes _ _ (number_are w64 end.seq) (op_end end.end))

ends_are : (list : List Ended) → AreBytes (ends_bytes list)
unfolding ends_bytes
ends_are list = all_flat (λ byte. byte < 256) end_bytes list (all_each (λ end. AreBytes (end_bytes end)) list end_are)

segments_are : (list : List ℕ) → AreBytes (segments_bytes list)
unfolding segments_bytes
segments_are list = all_flat (λ byte. byte < 256) (number_bytes w32) list (all_each (λ n. AreBytes (number_bytes w32 n)) list (number_are w32))

range_are : (range : Range) → AreBytes (range_bytes range)
unfolding range_bytes
range_are range =
    both_bytes _ _ (number_are w64 range.table) (both_bytes _ _ (number_are w64 range.first) (number_are w64 range.last))

head_are : (head : Head) → AreBytes (head_bytes head)
unfolding head_bytes
head_are head = both_bytes _ _ (number_are w64 head.table)
    (both_bytes _ _ (number_are w64 head.version) (both_bytes _ _ (number_are w32 head.client) (number_are w64 head.seq)))

key_are : (key : List ℕ) → key_fault key ≡ None → AreBytes (key_bytes key)
unfolding key_bytes
key_are key none = both_bytes _ _ (number_are w8 (length key)) (text_bytes 1 LONGEST_KEY key none)

value_are : (value : Option (List ℕ)) → IfSome value (λ v. value_fault v ≡ None) → AreBytes (item_value_bytes value)
unfolding value_bytes
value_are None none = All-nil _
value_are (Some value) none = both_bytes _ _ (number_are w32 (length value)) (text_bytes 0 LONGEST_VALUE value none)

fields_are : (entry : Entry) → IsLawfulEntry entry → AreBytes (fields_bytes entry)
unfolding held_bytes refused_bytes carried_bytes joined_bytes
fields_are (Entry.Held held) lawful =
    both_bytes _ _ (head_are _) (both_bytes _ _ (key_are held.key lawful.key) (value_are held.value lawful.value))
fields_are (Entry.Refused refused) lawful =
    both_bytes _ _ (head_are _) (both_bytes _ _ (number_are w8 _) (key_are refused.key lawful.key))
fields_are (Entry.Carried carried) lawful = both_bytes _ _ (range_are carried.range)
    (both_bytes _ _ (number_are w64 carried.term)
    (both_bytes _ _ (number_are w64 carried.floor) (both_bytes _ _ (number_are w16 _) (ends_are carried.ends))))
fields_are (Entry.Joined joined) lawful = both_bytes _ _ (range_are joined.range)
    (both_bytes _ _ (number_are w64 joined.term) (both_bytes _ _ (number_are w32 _) (segments_are joined.segments)))

-- what is spelled of a lawful entry are bytes
pub spelled_are : (entry : Entry) → IsLawfulEntry entry → AreBytes (spelled entry)
unfolding spelled front_bytes
spelled_are entry lawful =
    both_bytes _ _ (both_bytes _ _ (number_are w8 _) (both_bytes _ _ (number_are w32 _) (fields_are entry lawful)))
    (either_way AreBytes (is_marked (kind_of entry)) (number_are w8 _) (All-nil _))

all_spelled_are : (list : List Entry) → All IsLawfulEntry list → AreBytes (spelled_all list)
unfolding spelled_all
all_spelled_are list lawful = all_flat (λ byte. byte < 256) spelled list (λ place other within. spelled_are _ (lawful place other within))

-- ---- what is read of a first part

below_length : (list : List ℕ) → AreBytes list → IsBytes list
below_length list all place = grind (arith, get_or_past, lit<, cases_lt)

-- entries one after the other are spelled so
pub spelled_cons : (entry : Entry) (list : List Entry) → spelled_all (entry ∷ list) ≡ spelled entry ++ spelled_all list
unfolding spelled_all
spelled_cons entry list = refl

-- an entry that is read is at the front
record IsRead (front : List ℕ) (entry : Entry) (after : List ℕ) : Type 0 where
  stands : front ≡ spelled entry ++ after
  lawful : IsLawfulEntry entry

what_is_read : (front : List ℕ) (entry : Entry) (after : List ℕ) → AreBytes front → read_entry front ≡ Ok (entry, after) → IsRead front entry after
what_is_read front entry after bytes read =
    let takes = entry_takes front (entry, after) read in
    let spelt = takes.spelled (below_length front bytes) in
    record { stands = takes.split ∙ ap (λ (l : List ℕ). l ++ after) spelt.0; lawful = spelt.2 }

-- nothing is read of no bytes
pub entries_nil : entries_of [] ≡ []
unfolding entries_of entries_within
entries_nil = refl

none_read : (P : Entry → Type 0) (front rest : List ℕ) → [] ≡ front ++ rest → All P (entries_of front)
none_read P [] rest is = subst (All P) (sym entries_nil) (All-nil P)
none_read P (byte ∷ front) rest is = absurd (cc is)

-- what is read of a first part of a spelling has what each spelled entry has
pub read_front : (P : Entry → Type 0) (list : List Entry) (front rest : List ℕ) → All IsLawfulEntry list → All P list → spelled_all list ≡ front ++ rest → All P (entries_of front)
read_front P [] front rest lawful all is = none_read P front rest (sym spelled_none ∙ is)
read_front P (first ∷ list) front rest lawful all is = go (read_entry front) refl
    (λ after same. read_front P list after rest (All-tail IsLawfulEntry first list lawful) (All-tail P first list all) same)
  where
    bytes : AreBytes front
    bytes = all_front (λ byte. byte < 256) front rest (subst AreBytes is (all_spelled_are (first ∷ list) lawful))

    go : (read : Result (Entry × List ℕ) DecodeError) → read_entry front ≡ read → ((after : List ℕ) → spelled_all list ≡ after ++ rest → All P (entries_of after)) → All P (entries_of front)
    go (Err fault) read later = subst (All P) (sym (entries_of-none front fault read)) (All-nil P)
    go (Ok (entry, after)) read later =
        let stands = what_is_read front entry after bytes read in
        let whole : spelled first ++ spelled_all list ≡ spelled entry ++ (after ++ rest) =
        sym (spelled_cons first list) ∙ is ∙ ap (λ (l : List ℕ). l ++ rest) stands.stands ∙ append_assoc (spelled entry) after rest in
        let same = one_spelled first entry (spelled_all list) (after ++ rest) (All-head IsLawfulEntry first list lawful) stands.lawful whole in
        subst (All P) (sym (entries_of-cons front entry after read))
        (All-cons P entry (entries_of after) (subst P same.0 (All-head P first list all)) (later after same.1))
