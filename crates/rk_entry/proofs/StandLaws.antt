-- Entries one after the other.
use Rattle.std.proofs.Common.{◌≡◌, ℕ, zero, suc, ◌+◌, ◌-◌, ◌<◌, ◌≤◌, List, [], ◌∷◌, ◌++◌, length, drop, Option, Some, None, Result, Ok, Err, refl, sym, ap, ◌∙◌, append_assoc, arith, length-append, length-drop}
use Rattle.std.specs.Prelude.{IfSome}
use Rattle.std.specs.Option.{option_map}
use Rattle.std.specs.Result.{result_ok}
use Rattle.std.specs.List.{AllByRecursion, flat_map}
use Rattle.std.proofs.lemmas.List.{append-nil, drop_at, drop-drop}
use Rattle.std.proofs.lemmas.List.Concat.{flat_map-cons}
use Rattle.rk_entry.specs.declared.error.DecodeError.{DecodeError}
use Rattle.rk_entry.specs.declared.entry.Entry.{Entry}
use Rattle.rk_entry.specs.Spelling.{spelled}
use Rattle.rk_entry.specs.Lawful.{IsLawfulEntry}
use Rattle.rk_entry.specs.Reading.{read_entry}
use Rattle.rk_entry.specs.Entries.{StandsFirst, spelled_all, StandsNone, Stand, before_others, entries_within, entries_of}
use Rattle.rk_entry.proofs.Tools.{IsBytes}
use Rattle.rk_entry.proofs.EntryLaws.{entry_takes, entry_again, entry_shorter}

-- ---- one entry

-- an entry that is read comes first in the bytes
pub stands_first : (bytes : List ℕ) (entry : Entry) (rest : List ℕ) → IsBytes bytes → read_entry bytes ≡ Ok (entry, rest) → StandsFirst bytes entry (length bytes - length rest)
stands_first bytes entry rest fits read =
    let taken = entry_takes bytes (entry, rest) read in
    let facts = taken.spelled fits in
    let parts : bytes ≡ spelled entry ++ rest = taken.split ∙ ap (λ (t : List ℕ). t ++ rest) facts.0 in
    let count : length bytes - length rest ≡ length (spelled entry) = omega (arith, ap length parts, length-append (spelled entry) rest) in
    record {
      lawful = facts.2;
      count_is = count;
      bytes_are = parts ∙ ap (λ (t : List ℕ). spelled entry ++ t) (sym (rest_is bytes (spelled entry) rest parts));
    }
  where
    rest_is : (bytes front rest : List ℕ) → bytes ≡ front ++ rest → drop (length bytes - length rest) bytes ≡ rest
    rest_is bytes front rest split =
        let k : length (front ++ rest) - length rest ≡ length front = omega (arith, length-append front rest) in
        rw (split, k) (drop_at front rest (length front) refl)

-- the rest of what was read, as what is left after so many bytes
pub rest_after : (bytes : List ℕ) (entry : Entry) (rest : List ℕ) → read_entry bytes ≡ Ok (entry, rest) → drop (length bytes - length rest) bytes ≡ rest
rest_after bytes entry rest read =
    let taken = entry_takes bytes (entry, rest) read in
    let k : length (taken.front ++ rest) - length rest ≡ length taken.front = omega (arith, length-append taken.front rest) in
    rw (taken.split, k) (drop_at taken.front rest (length taken.front) refl)

-- ---- entries one after the other

-- no entry is read from no bytes
none_read : (n : ℕ) → entries_within n [] ≡ []
unfolding entries_within
none_read zero = refl
none_read (suc n) = no_entry (read_entry []) refl (entries_within n)
  where
    no_entry : (r : Result (Entry × List ℕ) DecodeError) → read_entry [] ≡ r → (others : List ℕ → List Entry) → before_others r others ≡ []
    no_entry (Ok x) e others = absurd (omega (arith, entry_shorter [] x e))
    no_entry (Err fault) e others = refl

-- more steps than bytes change nothing
within_enough : (n m : ℕ) (bytes : List ℕ) → length bytes ≤ n → length bytes ≤ m → entries_within n bytes ≡ entries_within m bytes
unfolding entries_within
within_enough zero m [] a b = sym (none_read m)
within_enough zero m (x ∷ bytes) a b = absurd (omega arith)
within_enough (suc n) zero [] a b = none_read (suc n)
within_enough (suc n) zero (x ∷ bytes) a b = absurd (omega arith)
within_enough (suc n) (suc m) bytes a b =
    same_others (read_entry bytes) (entries_within n) (entries_within m) (λ x e. within_enough n m x.1 (omega (arith, entry_shorter bytes x e)) (omega (arith, entry_shorter bytes x e)))
  where
    same_others : (r : Result (Entry × List ℕ) DecodeError) (f g : List ℕ → List Entry) → ((x : Entry × List ℕ) → r ≡ Ok x → f x.1 ≡ g x.1) → before_others r f ≡ before_others r g
    same_others (Ok x) f g same = ap (λ (others : List Entry). x.0 ∷ others) (same x refl)
    same_others (Err fault) f g same = refl

-- an entry that is read comes before those that are read after it
pub entries_of-cons : (bytes : List ℕ) (entry : Entry) (rest : List ℕ) → read_entry bytes ≡ Ok (entry, rest) → entries_of bytes ≡ entry ∷ entries_of rest
unfolding entries_of entries_within
entries_of-cons bytes entry rest read =
    let k : length bytes ≡ suc (length bytes - 1) = omega (arith, entry_shorter bytes (entry, rest) read) in
    let first : entries_within (length bytes) bytes ≡ entry ∷ entries_within (length bytes - 1) rest =
    ap (λ (n : ℕ). entries_within n bytes) k ∙ ap (λ (r : Result (Entry × List ℕ) DecodeError). before_others r (entries_within (length bytes - 1))) read in
    first ∙ ap (λ (others : List Entry). entry ∷ others) (within_enough (length bytes - 1) (length rest) rest (omega (arith, entry_shorter bytes (entry, rest) read)) (omega arith))

-- if no entry is read there are none
pub entries_of-none : (bytes : List ℕ) (fault : DecodeError) → read_entry bytes ≡ Err fault → entries_of bytes ≡ []
unfolding entries_of entries_within
entries_of-none [] fault read = refl
entries_of-none (b ∷ bytes) fault read =
    let k : length (b ∷ bytes) ≡ suc (length bytes) = omega arith in
    ap (λ (n : ℕ). entries_within n (b ∷ bytes)) k ∙ ap (λ (r : Result (Entry × List ℕ) DecodeError). before_others r (entries_within (length bytes))) read

-- the first entry is spelled before the others
spelled_all-cons : (entry : Entry) (entries : List Entry) → spelled_all (entry ∷ entries) ≡ spelled entry ++ spelled_all entries
unfolding spelled_all
spelled_all-cons entry entries = flat_map-cons spelled entry entries

-- no entries are spelled by no bytes
no_entries : spelled_all [] ≡ []
unfolding spelled_all
no_entries = refl

-- the last entry is spelled behind the others
spelled_all_push : (entries : List Entry) (entry : Entry) → spelled_all (entries ++ entry ∷ []) ≡ spelled_all entries ++ spelled entry
unfolding spelled_all
spelled_all_push [] entry = append-nil (spelled entry)
spelled_all_push (e ∷ entries) entry =
    flat_map-cons spelled e (entries ++ entry ∷ [])
    ∙ ap (λ (t : List ℕ). spelled e ++ t) (spelled_all_push entries entry)
    ∙ sym (append_assoc (spelled e) (flat_map spelled entries) (spelled entry))
    ∙ ap (λ (t : List ℕ). t ++ spelled entry) (sym (flat_map-cons spelled e entries))

-- lawful entries and one more are lawful
all_push : (entries : List Entry) (entry : Entry) → AllByRecursion IsLawfulEntry entries → IsLawfulEntry entry → AllByRecursion IsLawfulEntry (entries ++ entry ∷ [])
all_push [] entry each last = (last, tt)
all_push (e ∷ entries) entry each last = (each.0, all_push entries entry each.1 last)

-- entries that are spelled one after the other are read before what follows
pub all_again : (entries : List Entry) (rest : List ℕ) → AllByRecursion IsLawfulEntry entries → entries_of (spelled_all entries ++ rest) ≡ entries ++ entries_of rest
all_again [] rest each = ap (λ (t : List ℕ). entries_of (t ++ rest)) no_entries
all_again (e ∷ entries) rest each =
    let regrouped : spelled_all (e ∷ entries) ++ rest ≡ spelled e ++ (spelled_all entries ++ rest) =
    ap (λ (t : List ℕ). t ++ rest) (spelled_all-cons e entries) ∙ append_assoc (spelled e) (spelled_all entries) rest in
    ap entries_of regrouped
    ∙ entries_of-cons (spelled e ++ (spelled_all entries ++ rest)) e (spelled_all entries ++ rest) (entry_again e (spelled_all entries ++ rest) each.0)
    ∙ ap (λ (others : List Entry). e ∷ others) (all_again entries rest each.1)

-- if no entry is read, no lawful one is spelled at the front of the bytes
pub none_stands : (bytes : List ℕ) (fault : DecodeError) → read_entry bytes ≡ Err fault → StandsNone bytes
none_stands bytes fault read entry after lawful is = grind (arith, entry_again)

-- ---- the loop over entries

-- how far reading has come: these entries in so many bytes
pub record Reached (bytes : List ℕ) (entries : List Entry) (taken : ℕ) : Type 0 where
  pub within : taken ≤ length bytes
  pub count : taken ≡ length (spelled_all entries)
  pub each : AllByRecursion IsLawfulEntry entries
  pub bytes_are : bytes ≡ spelled_all entries ++ drop taken bytes
  pub read : entries_of bytes ≡ entries ++ entries_of (drop taken bytes)

-- before the first entry nothing is taken
pub reached_none : (bytes : List ℕ) → Reached bytes [] 0
reached_none bytes = grind (arith, no_entries)

-- an entry takes some of the bytes that are left
pub reached_step : (bytes : List ℕ) (taken : ℕ) (entry : Entry) (count : ℕ) → taken ≤ length bytes → StandsFirst (drop taken bytes) entry count
    → read_entry (drop taken bytes) ≡ Ok (entry, drop count (drop taken bytes)) → (0 < count) × (taken + count ≤ length bytes)
reached_step bytes taken entry count within first read =
    let shorter = entry_shorter (drop taken bytes) (entry, drop count (drop taken bytes)) read in (
      omega (arith, shorter, length-drop count (drop taken bytes)),
      omega (arith, first.count_is, ap length first.bytes_are, length-append (spelled entry) (drop count (drop taken bytes)), length-drop taken bytes),
    )

-- what the code's test for a first entry says
pub record IsFirst (bytes : List ℕ) (first : Option (Entry × ℕ)) : Type 0 where
  pub found : IfSome first (λ x. StandsFirst bytes x.0 x.1)
  pub exact : option_map (λ x. (x.0, drop x.1 bytes)) first ≡ result_ok (read_entry bytes)

-- what is read, if anything, is this
read_is : (r : Result (Entry × List ℕ) DecodeError) (x : Entry × List ℕ) → Some x ≡ result_ok r → r ≡ Ok x
read_is (Ok y) x e = cc
read_is (Err fault) x e = absurd cc

-- if nothing is read there is a fault
read_failed : (r : Result (Entry × List ℕ) DecodeError) → None ≡ result_ok r → (fault : DecodeError) × (r ≡ Err fault)
read_failed (Ok y) e = absurd cc
read_failed (Err fault) e = (fault, refl)

-- a first entry among the bytes that are left is one more
pub reached_next : (bytes rest : List ℕ) (entries : List Entry) (taken : ℕ) (first : Option (Entry × ℕ)) (entry : Entry) (count : ℕ)
    → Reached bytes entries taken → rest ≡ drop taken bytes → IsFirst rest first → first ≡ Some (entry, count)
    → Reached bytes (entries ++ entry ∷ []) (taken + count) × ((0 < count) × (taken + count ≤ length bytes))
reached_next bytes rest entries taken first entry count so_far rest_is is_first some =
    grind (arith, reached_step, drop-drop, length-append, spelled_all_push, all_push, append_assoc, entries_of-cons)

-- if no entry is first among the bytes that are left, all were reached
pub reached_last : (bytes rest : List ℕ) (entries : List Entry) (taken : ℕ) (first : Option (Entry × ℕ))
    → Reached bytes entries taken → rest ≡ drop taken bytes → IsFirst rest first → first ≡ None
    → Stand bytes entries (drop taken bytes) × (entries ≡ entries_of bytes)
reached_last bytes rest entries taken first so_far rest_is is_first none =
    grind (arith, read_failed, none_stands, append-nil, entries_of-none)
