-- What is read of the main segments of a log, when each was read up to some place, and whole if a later one was read: first entries
-- of the log, each of which is stored.
use Rattle.std.proofs.Common.{◌≡◌, ℕ, zero, suc, ◌+◌, ◌<◌, ◌≤◌, ◌⊎◌, inl, inr, Bool, true, List, [], ◌∷◌, ◌++◌, length, get_or, Result}
use Rattle.std.proofs.Common.{Ok, Err, refl, sym, ap, subst, ◌∙◌, ⊎_elim, arith, lit<, append_assoc, length-append, nat_le, All, flat_map}
use Rattle.std.proofs.Common.{le-leb, append-nil}
use Rattle.std.proofs.lemmas.List.{get_or-append_right}
use Rattle.rk_inv_base.proofs.Words.{cases_lt, cond-true, get_or_append_left, get_or_past, All-head, All-nil, All-tail, recursion_from_All}
use Rattle.rk_inv_base.proofs.Words.{prefix_len, all_again, spelled_all, IsLawfulEntry, spelled, Entry, EntryEnd, IsFirstPart, is_main}
use Rattle.rk_inv_tablets.proofs.Words.{IsBytes}
use Rattle.rk_entry.specs.declared.error.DecodeError.{DecodeError}
use Rattle.rk_entry.specs.Entries.{entries_of, entries_within}
use Rattle.rk_entry.specs.Reading.{read_entry}
use Rattle.rk_entry.proofs.EntryLaws.{entry_takes, one_spelled}
use Rattle.rk_entry.proofs.StandLaws.{entries_of-cons, entries_of-none}
use Rattle.rk_inv_tablets.proofs.crash.Groups.{ends_in, group_ends, spelled_first, spelled_none}
use Rattle.rk_inv_wellformed.proofs.bytes.Bytes.{spelled_are}

-- what is spelled of a lawful entry are bytes at every place, and past its end
pub entry_bytes : (entry : Entry) → IsLawfulEntry entry → IsBytes (spelled entry)
entry_bytes entry lawful place = grind (arith, spelled, spelled_are, get_or_past, lit<, cases_lt)

-- ---- bytes

-- bytes behind bytes are bytes
both_bytes : (front back : List ℕ) → IsBytes front → IsBytes back → IsBytes (front ++ back)
both_bytes front back some others place = grind (arith, get_or_append_left, get_or-append_right, cases_lt)

-- first ones of bytes are bytes
front_bytes_are : (front back : List ℕ) → IsBytes (front ++ back) → IsBytes front
front_bytes_are front back all place = grind (arith, get_or_append_left, get_or_past, lit<, cases_lt)

-- what is spelled of lawful entries are bytes
all_bytes : (list : List Entry) → All IsLawfulEntry list → IsBytes (spelled_all list)
all_bytes [] lawful = subst IsBytes (sym spelled_none) (λ place. lit< tt)
all_bytes (first ∷ list) lawful =
    rw (spelled_first first list)
    (both_bytes (spelled first) (spelled_all list) (entry_bytes first (All-head IsLawfulEntry first list lawful))
    (all_bytes list (All-tail IsLawfulEntry first list lawful)))

-- ---- one segment

pub read_none : entries_of [] ≡ []
unfolding entries_of entries_within
read_none = refl

-- what is read of bytes: first ones of these entries, whose spelling is within the bytes
pub record AreFirst (list : List Entry) (bytes : List ℕ) : Type 0 where
  pub more : List Entry
  pub parts : list ≡ entries_of bytes ++ more
  pub within : length (spelled_all (entries_of bytes)) ≤ length bytes

none_read : (list : List Entry) (bytes : List ℕ) → entries_of bytes ≡ [] → AreFirst list bytes
none_read list bytes none = record {
  more = list;
  parts = ap (λ (read : List Entry). read ++ list) (sym none);
  within = omega (arith, ap (λ (read : List Entry). length (spelled_all read)) none, ap length spelled_none);
}

-- of a first part of what entries spell
pub first_read : (list : List Entry) (bytes rest : List ℕ) → All IsLawfulEntry list → spelled_all list ≡ bytes ++ rest → AreFirst list bytes
first_read [] bytes rest lawful is = none_read [] bytes (ap entries_of (empty bytes (sym is ∙ spelled_none)) ∙ read_none)
  where
    empty : (bytes : List ℕ) → bytes ++ rest ≡ [] → bytes ≡ []
    empty [] e = refl
    empty (b ∷ bytes) e = absurd (cc e)
first_read (first ∷ list) bytes rest lawful is =
    go (read_entry bytes) refl
    (λ after same. first_read list after rest (All-tail IsLawfulEntry first list lawful) same)
  where
    some_bytes : IsBytes bytes
    some_bytes = front_bytes_are bytes rest (rw (← is) (all_bytes (first ∷ list) lawful))

    go : (read : Result (Entry × List ℕ) DecodeError) → read_entry bytes ≡ read → ((after : List ℕ) → spelled_all list ≡ after ++ rest → AreFirst list after) → AreFirst (first ∷ list) bytes
    go (Err fault) read later = none_read (first ∷ list) bytes (entries_of-none bytes fault read)
    go (Ok (entry, after)) read later =
        let takes = entry_takes bytes (entry, after) read in
        let spelt = takes.spelled some_bytes in
        let stands : bytes ≡ spelled entry ++ after = takes.split ∙ ap (λ (l : List ℕ). l ++ after) spelt.0 in
        let whole : spelled first ++ spelled_all list ≡ spelled entry ++ (after ++ rest) =
        sym (spelled_first first list) ∙ is ∙ ap (λ (l : List ℕ). l ++ rest) stands ∙ append_assoc (spelled entry) after rest in
        let same = one_spelled first entry (spelled_all list) (after ++ rest) (All-head IsLawfulEntry first list lawful) spelt.2 whole in
        let others = later after same.1 in
        let cons : entries_of bytes ≡ entry ∷ entries_of after = entries_of-cons bytes entry after read in
        record {
          more = others.more;
          parts = grind (arith, same.0, others.parts, others.more);
          within =
              omega (
                arith,
                others.within,
                ap length stands,
                length-append (spelled entry) after,
                ap (λ (read : List Entry). length (spelled_all read)) cons,
                ap length (spelled_first entry (entries_of after)),
                length-append (spelled entry) (spelled_all (entries_of after)),
              );
        }

-- ---- all segments

-- whether a backup stores an entry, by where it ends
abbrev pub is_stored : (ℕ → List ℕ) → EntryEnd → Bool
is_stored stored end = nat_le end.offset (length (stored end.segment))

-- how many of these entries of a segment are stored, which follow so many bytes, and others then
abbrev count_in : (ℕ → List ℕ) → ℕ → ℕ → List Entry → List EntryEnd → ℕ
count_in stored segment offset list others = prefix_len (is_stored stored) (ends_in segment offset list ++ others)

-- entries of one segment are stored up to those that end within what is
stored_in : (stored : ℕ → List ℕ) (segment offset : ℕ) (read more : List Entry) (others : List EntryEnd) → offset + length (spelled_all read) ≤ length (stored segment) → count_in stored segment offset (read ++ more) others ≡ length read + count_in stored segment (offset + length (spelled_all read)) more others
stored_in stored segment offset [] more others fits = grind (arith, spelled_all, spelled_none)
stored_in stored segment offset (entry ∷ read) more others fits =
    let next : ℕ = offset + length (spelled entry) in
    let size : length (spelled_all (entry ∷ read)) ≡ length (spelled entry) + length (spelled_all read) =
    ap length (spelled_first entry read) ∙ length-append (spelled entry) (spelled_all read) in
    let passes : nat_le next (length (stored segment)) ≡ true = le-leb next (length (stored segment)) (omega (arith, fits, size)) in
    let at : next + length (spelled_all read) ≡ offset + length (spelled_all (entry ∷ read)) = omega (arith, size) in
    let one : (n : ℕ) → 1 + (length read + n) ≡ suc (length read) + n = λ n. omega arith in
    cond-true (nat_le next (length (stored segment))) (1 + count_in stored segment next (read ++ more) others) 0 passes
    ∙ ap (λ (n : ℕ). 1 + n) (stored_in stored segment next read more others (omega (arith, fits, size)))
    ∙ one (count_in stored segment (next + length (spelled_all read)) more others)
    ∙ ap (λ (n : ℕ). suc (length read) + count_in stored segment n more others) at

-- what is read of a segment that spells a group: bytes that are stored, at least those known to be; and whole, if bytes of a later main
-- segment are stored
pub record IsPartRead (known : ℕ → ℕ) (stored : ℕ → List ℕ) (segment : ℕ) (group read : List Entry) : Type 0 where
  pub bytes : List ℕ
  pub read_is : read ≡ entries_of bytes
  pub front : IsFirstPart bytes (stored segment)
  pub copied : IsFirstPart (stored segment) (spelled_all group)
  pub enough : known segment ≤ length bytes
  pub in_order :
      (later : ℕ) → segment < later → is_main later ≡ true → (stored later ≡ [] → ⊥)
      → length (spelled_all group) ≤ known segment

-- first ones of entries that end there, each of which is stored
pub record AreFirstStored (stored : ℕ → List ℕ) (list : List Entry) (places : List EntryEnd) (read : List Entry) : Type 0 where
  pub more : List Entry
  pub parts : list ≡ read ++ more
  pub within : length read ≤ prefix_len (is_stored stored) places

-- something is read of a segment, or nothing of any
some_read : (main : List (List Entry)) → (flat_map (λ list. list) main ≡ []) ⊎ ((k : ℕ) × (k < length main) × (get_or main k [] ≡ [] → ⊥))
some_read [] = inl refl
some_read ([] ∷ main) =
    ⊎_elim
    (λ (none : flat_map (λ (list : List Entry). list) main ≡ []). inl none)
    (λ (some : (k : ℕ) × (k < length main) × (get_or main k [] ≡ [] → ⊥)). inr (suc some.0, omega (arith, some.1), some.2))
    (some_read main)
some_read ((entry ∷ list) ∷ main) = inr (zero, omega arith, λ e. absurd (cc e))

-- bytes that have all of what they begin
pub all_parts : (whole bytes more : List ℕ) → whole ≡ bytes ++ more → length whole ≤ length bytes → bytes ≡ whole
all_parts whole bytes [] is few = sym (is ∙ append-nil bytes)
all_parts whole bytes (byte ∷ more) is few = absurd (omega (arith, ap length is, length-append bytes (byte ∷ more), few))

-- no bytes are at the front of none
none_front : (bytes : List ℕ) → IsFirstPart bytes [] → bytes ≡ []
none_front [] part = refl
none_front (byte ∷ bytes) part = absurd (cc part.parts)

module _ (known : ℕ → ℕ) (stored : ℕ → List ℕ) where
  -- what is read of each of these segments, which count from this number
  abbrev pub ArePartsRead : ℕ → List (List Entry) → List (List Entry) → Type 0
  ArePartsRead first groups main =
      (k segment : ℕ) → first + k ≡ segment → k < length main
      → IsPartRead known stored segment (get_or groups k []) (get_or main k [])

  -- a segment of which some entry was read is stored in part
  some_stored : (segment : ℕ) (group read : List Entry) → IsPartRead known stored segment group read → (read ≡ [] → ⊥) → stored segment ≡ [] → ⊥
  some_stored segment group read part some none =
      some
      (part.read_is
      ∙ ap entries_of (none_front part.bytes (rw (← none) part.front))
      ∙ read_none)

  module _ (first : ℕ) (group read : List Entry) (groups main : List (List Entry)) (lawful : All IsLawfulEntry group) (part : IsPartRead known stored first group read) where
    abbrev flat : List (List Entry) → List Entry
    flat lists = flat_map (λ (list : List Entry). list) lists

    abbrev Ends : List Entry → Type 0
    Ends all = AreFirstStored stored (group ++ flat groups) (ends_in first 0 group ++ group_ends (suc first) groups) all

    spelt : spelled_all group ≡ part.bytes ++ (part.front.more ++ part.copied.more)
    spelt =
        part.copied.parts ∙ ap (λ (bytes : List ℕ). bytes ++ part.copied.more) part.front.parts
        ∙ append_assoc part.bytes part.front.more part.copied.more

    -- nothing was read behind it
    last_read : Ends (read ++ [])
    last_read =
        let firsts = first_read group part.bytes (part.front.more ++ part.copied.more) lawful spelt in
        let its : group ≡ read ++ firsts.more = firsts.parts ∙ ap (λ (l : List Entry). l ++ firsts.more) (sym part.read_is) in
        let fits : 0 + length (spelled_all read) ≤ length (stored first) =
        omega (arith, firsts.within, ap (λ (l : List Entry). length (spelled_all l)) part.read_is, ap length part.front.parts, length-append part.bytes part.front.more) in
        let count =
        ap (λ (l : List Entry). count_in stored first 0 l (group_ends (suc first) groups)) its
        ∙ stored_in stored first 0 read firsts.more (group_ends (suc first) groups) fits in
        record {
          more = firsts.more ++ flat groups;
          parts =
              ap (λ (l : List Entry). l ++ flat groups) its
              ∙ append_assoc read firsts.more (flat groups)
              ∙ ap (λ (l : List Entry). l ++ (firsts.more ++ flat groups)) (sym (append-nil read));
          within = omega (arith, count, ap length (append-nil read));
        }

    -- or it was read whole
    whole_read : length (spelled_all group) ≤ known first → AreFirstStored stored (flat groups) (group_ends (suc first) groups) (flat main) → Ends (read ++ flat main)
    whole_read all later =
        let same : part.bytes ≡ spelled_all group =
        all_parts (spelled_all group) part.bytes (part.front.more ++ part.copied.more) spelt (omega (arith, all, part.enough)) in
        let its : read ≡ group =
        part.read_is ∙ ap entries_of (same ∙ sym (append-nil (spelled_all group)))
        ∙ all_again group [] (recursion_from_All IsLawfulEntry group lawful)
        ∙ ap (λ (l : List Entry). group ++ l) read_none ∙ append-nil group in
        let fits : 0 + length (spelled_all group) ≤ length (stored first) =
        omega (arith, all, part.enough, ap length part.front.parts, length-append part.bytes part.front.more) in
        let count =
        ap (λ (l : List Entry). count_in stored first 0 l (group_ends (suc first) groups)) (sym (append-nil group))
        ∙ stored_in stored first 0 group [] (group_ends (suc first) groups) fits in
        record {
          more = later.more;
          parts =
              ap (λ (l : List Entry). group ++ l) later.parts
              ∙ sym (append_assoc group (flat main) later.more)
              ∙ ap (λ (l : List Entry). (l ++ flat main) ++ later.more) (sym its);
          within = omega (arith, count, later.within, length-append read (flat main), ap length its);
        }

    -- so first entries were read
    one_read : ArePartsRead (suc first) groups main → ((n : ℕ) → n ≤ first + length main → is_main n ≡ true) → AreFirstStored stored (flat groups) (group_ends (suc first) groups) (flat main) → Ends (read ++ flat main)
    one_read parts mains later =
        ⊎_elim
        (λ (none : flat main ≡ []). subst (λ (l : List Entry). Ends (read ++ l)) (sym none) last_read)
        (λ (some : (k : ℕ) × (k < length main) × (get_or main k [] ≡ [] → ⊥)).
        let next : ℕ = suc first + some.0 in
        whole_read
        (part.in_order next (omega arith) (mains next (omega (arith, some.1)))
        (some_stored next (get_or groups some.0 []) (get_or main some.0 []) (parts some.0 next refl some.1) some.2)) later)
        (some_read main)

  -- what was read of segments are first entries, each of which is stored
  pub segments_read : (first : ℕ) (groups main : List (List Entry)) → All (All IsLawfulEntry) groups → ArePartsRead first groups main → ((n : ℕ) → n < first + length main → is_main n ≡ true) → AreFirstStored stored (flat_map (λ group. group) groups) (group_ends first groups) (flat_map (λ list. list) main)
  segments_read first groups [] lawful parts mains = record { more = flat_map (λ (group : List Entry). group) groups; parts = refl; within = omega arith }
  segments_read first [] (read ∷ main) lawful parts mains =
      let rest : ArePartsRead (suc first) [] main = λ k segment is within. parts (suc k) segment (omega (arith, is)) (omega (arith, within)) in
      one_read first [] read [] main (All-nil IsLawfulEntry) (parts 0 first (omega arith) (omega arith)) rest
      (λ n few. mains n (omega (arith, few)))
      (segments_read (suc first) [] main lawful rest (λ n few. mains n (omega (arith, few))))
  segments_read first (group ∷ groups) (read ∷ main) lawful parts mains =
      let rest : ArePartsRead (suc first) groups main =
      λ k segment is within. parts (suc k) segment (omega (arith, is)) (omega (arith, within)) in
      one_read first group read groups main (All-head (All IsLawfulEntry) group groups lawful) (parts 0 first (omega arith) (omega arith)) rest
      (λ n few. mains n (omega (arith, few)))
      (segments_read (suc first) groups main (All-tail (All IsLawfulEntry) group groups lawful) rest
      (λ n few. mains n (omega (arith, few))))
