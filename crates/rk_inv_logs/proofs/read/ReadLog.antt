-- What a rebuild reads of the log of a dead master: main and side segments are first parts of it, which hold all that is applied.
use Rattle.std.proofs.Common.{◌≡◌, ℕ, zero, suc, ◌+◌, ◌-◌, ◌<◌, ◌≤◌, ◌⊎◌, inl, inr, true, List, [], ◌∷◌, ◌++◌, length, get_or, Some, refl}
use Rattle.std.proofs.Common.{sym, ap, ◌∙◌, arith, append_assoc, length-append, slice_get, take, drop, All, flat_map, append-nil}
use Rattle.std.proofs.Common.{length-take-le, take-append-drop, Bool, false, cond, map, max, Option, None, subst, ◌==◌, find, is_some}
use Rattle.std.proofs.Common.{nat_lt, not, unwrap_or, Contains, eq-eqb, eqb-true, lt-ltb, le-ltb, leb-true}
use Rattle.rk_inv_base.proofs.Words.{All-head, All-tail, All-take, recursion_from_All, all_again, spelled_all, entries_of, IsLawfulEntry}
use Rattle.rk_inv_base.proofs.Words.{spelled, Entry, EntryEnd, is_main, cases_lt, cond-false, cond-true, cond_both, false≢true}
use Rattle.rk_inv_base.proofs.Words.{All-contains, All-map, prefix_len-le-length, get_or_from_slice_get, slice_get-get_or, slice_get_within}
use Rattle.rk_inv_base.proofs.Words.{list_all, option_map_or, get, Held, Range, NumberedBytes, IsLawfulHeld, FIRST_SIDE_SEGMENT}
use Rattle.rk_inv_base.proofs.Words.{list_all_each, cut, ends, Known, is_whole, known_length, nothing, IsBackup, Log, bytes_of, is_held}
use Rattle.rk_inv_base.proofs.Words.{is_side_stored, known_of, Gathered, LAST_MAIN_SEGMENT, next_segment, side_read, as_entries, named}
use Rattle.rk_inv_base.proofs.Words.{side_entries, Written, IsLog, segments_in, AreRead, IsGathered, IsReadPart, READ_BACKUP}
pub use Rattle.rk_inv_tablets.proofs.crash.FirstRead.{all_parts as whole_part}
pub use Rattle.rk_inv_tablets.proofs.crash.ReadTold.{named_in}
use Rattle.rk_inv_logs.proofs.Words.{ArePartsRead, IsPartRead, ends_in, group_ends, spelled_both, spelled_first, spelled_none, ends_within}
use Rattle.rk_inv_logs.proofs.Words.{committed_held, main_entries, next_side, contains_cases, end_some, bytes_in, bytes_side, numbered_at}
use Rattle.rk_inv_logs.proofs.Words.{numbered_past, named_from, place_there, stands_front, AreFirstStored, read_none, cut_groups, all_at}
use Rattle.rk_inv_logs.proofs.Words.{all_groups, main_read, side_number}
use Rattle.rk_inv_base.proofs.logs.Logs.{first_part_more}
use Rattle.rk_inv_tablets.proofs.crash.ReadTold.{stands_there}
use Rattle.rk_entry.specs.declared.entry.Entry.TheVariants as entries
use Rattle.rk_inv_tablets.proofs.crash.LogRead.{copy, group_of, items_at}

-- ---- places

-- what is at a place of two lists is in the first, or in the other so many places on
pub stands_split : {X : Type 0} (xs ys : List X) (k : ℕ) (x : X) → slice_get (xs ++ ys) k ≡ Some x → (slice_get xs k ≡ Some x) ⊎ ((j : ℕ) × (k ≡ length xs + j) × (slice_get ys j ≡ Some x))
stands_split [] ys k x at = inr (k, omega arith, at)
stands_split (y ∷ xs) ys zero x at = inl at
stands_split (y ∷ xs) ys (suc k) x at = grind (arith, (stands_split xs ys k x at))

-- ---- where entries end

-- an entry of a segment ends behind all up to it
pub record EndsAt (segment offset : ℕ) (list : List Entry) (k : ℕ) (end : EntryEnd) : Type 0 where
  pub segment_is : end.segment ≡ segment
  pub offset_is : end.offset ≡ offset + length (spelled_all (take (suc k) list))
  pub within : k < length list

pub end_in : (segment offset : ℕ) (list : List Entry) (k : ℕ) (end : EntryEnd) → slice_get (ends_in segment offset list) k ≡ Some end → EndsAt segment offset list k end
end_in segment offset [] k end at = absurd (cc at)
end_in segment offset (entry ∷ list) zero end at = grind (arith, spelled, spelled_first, length-append, spelled_all, spelled_none)
end_in segment offset (entry ∷ list) (suc k) end at =
    grind (arith, spelled, spelled_first, length-append, spelled_all, (end_in segment (offset + length (spelled entry)) list k end at))

pub ends_many : (segment offset : ℕ) (list : List Entry) → length (ends_in segment offset list) ≡ length list
ends_many segment offset [] = refl
ends_many segment offset (entry ∷ list) = ap suc (ends_many segment (offset + length (spelled entry)) list)

-- no entry of segments ends before the first of them
pub segment_from : (first : ℕ) (groups : List (List Entry)) (place : ℕ) (end : EntryEnd) → slice_get (group_ends first groups) place ≡ Some end → first ≤ end.segment
segment_from first [] place end at = absurd (cc at)
segment_from first (group ∷ groups) place end at =
    elim (stands_split (ends_in first 0 group) (group_ends (suc first) groups) place end at) [
      | inl here ↦ omega (arith, (end_in first 0 group place end here).segment_is)
      | inr there ↦ let later = segment_from (suc first) groups there.0 end there.2 in omega (arith, later)
    ]

-- ---- one segment

-- of bytes that have all of some first entries these are read
pub front_read : (front behind : List Entry) (bytes rest : List ℕ) → All IsLawfulEntry front → spelled_all (front ++ behind) ≡ bytes ++ rest → length (spelled_all front) ≤ length bytes → length front ≤ length (entries_of bytes)
front_read front behind bytes rest lawful is fits =
    let parts = begins bytes (spelled_all front) (spelled_all behind) rest (sym (spelled_both front behind) ∙ is) fits in
    let read : entries_of bytes ≡ front ++ entries_of (drop (length (spelled_all front)) bytes) =
    ap entries_of parts ∙ all_again front (drop (length (spelled_all front)) bytes) (recursion_from_All IsLawfulEntry front lawful) in
    omega (arith, ap length read, length-append front (entries_of (drop (length (spelled_all front)) bytes)))
  where
    begins : (bytes front behind rest : List ℕ) → front ++ behind ≡ bytes ++ rest → length front ≤ length bytes → bytes ≡ front ++ drop (length front) bytes
    begins bytes [] behind rest is fits = refl
    begins [] (x ∷ front) behind rest is fits = absurd (omega (arith, fits))
    begins (b ∷ bytes) (x ∷ front) behind rest is fits =
        let same : x ≡ b = cc is in
        let tails : front ++ behind ≡ bytes ++ rest = cc is in
        let later = begins bytes front behind rest tails (omega (arith, fits)) in
        λ i. sym same i ∷ later i

-- ---- all segments

module _ (reach : ℕ → ℕ) (stored : ℕ → List ℕ) where
  -- of a segment that spells a group
  module _ (first : ℕ) (group read : List Entry) (lawful : All IsLawfulEntry group) (part : IsPartRead reach stored first group read) where
    spelt : spelled_all group ≡ part.bytes ++ (part.front.more ++ part.copied.more)
    spelt = part.copied.parts ∙ ap (λ (bytes : List ℕ). bytes ++ part.copied.more) part.front.parts
        ∙ append_assoc part.bytes part.front.more part.copied.more

    -- an entry that ends within what is reached was read
    one_reached : (place : ℕ) (end : EntryEnd) → slice_get (ends_in first 0 group) place ≡ Some end → end.offset ≤ reach end.segment → place < length read
    one_reached place end at fits =
        let is = end_in first 0 group place end at in
        let known : reach end.segment ≤ length part.bytes = rw is.segment_is part.enough in
        let front : List Entry = take (suc place) group in
        let whole : front ++ drop (suc place) group ≡ group = take-append-drop (suc place) group in
        let enough =
        front_read front (drop (suc place) group) part.bytes (part.front.more ++ part.copied.more)
        (All-take IsLawfulEntry (suc place) group lawful) (ap spelled_all whole ∙ spelt) (omega (arith, is.offset_is, fits, known)) in
        let count : length front ≡ suc place = length-take-le (suc place) group (omega (arith, is.within)) in
        omega (arith, enough, count, ap length part.read_is)

    -- all were, if all bytes are reached
    all_reached : length (spelled_all group) ≤ reach first → length group ≤ length read
    all_reached whole =
        let enough = front_read group [] part.bytes (part.front.more ++ part.copied.more) lawful
        (ap spelled_all (append-nil group) ∙ spelt) (omega (arith, whole, part.enough)) in
        omega (arith, enough, ap length part.read_is)

  -- a segment that is reached has bytes stored
  reached_some : (segment : ℕ) (group read : List Entry) → IsPartRead reach stored segment group read → 0 < reach segment → stored segment ≡ [] → ⊥
  reached_some segment group read part some none = grind (arith, length-append)

  -- of all segments
  pub reached : (first : ℕ) (groups main : List (List Entry)) → All (All IsLawfulEntry) groups → ArePartsRead reach stored first groups main → ((n : ℕ) → n < first + length main → is_main n ≡ true) → (place : ℕ) (end : EntryEnd) → slice_get (group_ends first groups) place ≡ Some end → 1 ≤ end.offset → end.segment < first + length main → end.offset ≤ reach end.segment → place < length (flat_map (λ list. list) main)
  reached first [] main lawful parts mains place end at some here fits = absurd (cc at)
  reached first (group ∷ groups) [] lawful parts mains place end at some here fits =
      absurd (omega (arith, segment_from first (group ∷ groups) place end at, here))
  reached first (group ∷ groups) (read ∷ main) lawful parts mains place end at some here fits =
      let rest : ArePartsRead reach stored (suc first) groups main =
      λ k segment is within. parts (suc k) segment (omega (arith, is)) (omega (arith, within)) in
      let part : IsPartRead reach stored first group read = parts 0 first (omega arith) (omega arith) in
      let its : All IsLawfulEntry group = All-head (All IsLawfulEntry) group groups lawful in
      let size = length-append read (flat_map (λ (list : List Entry). list) main) in
      elim (stands_split (ends_in first 0 group) (group_ends (suc first) groups) place end at) [
        | inl one ↦ omega (arith, one_reached first group read its part place end one fits, size)
        | inr there ↦
            let from = segment_from (suc first) groups there.0 end there.2 in
            let later =
            reached (suc first) groups main (All-tail (All IsLawfulEntry) group groups lawful) rest (λ n few. mains n (omega (arith, few)))
            there.0 end there.2 some (omega (arith, here)) fits in
            let j : ℕ = end.segment - suc first in
            let whole : length (spelled_all group) ≤ reach first =
            part.in_order end.segment (omega (arith, from)) (mains end.segment (omega (arith, here)))
            (reached_some end.segment (get_or groups j []) (get_or main j [])
            (rest j end.segment (omega (arith, from)) (omega (arith, from, here))) (omega (arith, some, fits))) in
            let place_is : place ≡ length (ends_in first 0 group) + there.0 = there.1 in
            omega (arith, all_reached first group read its part whole, later, place_is, ends_many first 0 group, size)
      ]

-- ---- lists

-- if nothing is found, each fails the test
pub none_of : {X : Type 0} (p : X → Bool) (xs : List X) → find p xs ≡ None → (x : X) → Contains xs x → p x ≡ false
none_of p [] none x at = absurd (omega (arith, at.1))
none_of {X} p (y ∷ xs) none x at =
    cond_both (p y) (Some y) (find p xs) (λ (found : Option X). found ≡ None → p x ≡ false) (λ e is. absurd (cc is))
    (λ e is. elim (contains_cases y xs x at) [ inl same ↦ ap p (sym same) ∙ e | inr later ↦ none_of p xs is x later ]) none

module _ (log : Log) (w : Written) (stored : ℕ → ℕ → List ℕ) (kept : IsLog log w stored) (backed : IsBackup log READ_BACKUP) (few : length (cut log.entries) < FIRST_SIDE_SEGMENT) where
  abbrev its : ℕ → List ℕ
  its = stored READ_BACKUP

  abbrev known : Known
  known = known_of log READ_BACKUP

  module _ (Needed : EntryEnd → Type 0) (gathered : Gathered) (read : IsGathered Needed (known_of log READ_BACKUP) (stored READ_BACKUP) gathered) where
    -- ---- main segments

    abbrev pub main : List Entry
    main = flat_map (λ (list : List Entry). list) gathered.main

    -- the end of an entry is reached, if it is in what is read of its segment
    abbrev IsReached : EntryEnd → Type 0
    IsReached end = (bytes : List ℕ) → IsReadPart Needed known its end.segment bytes → end.offset ≤ length bytes

    -- what is known to be stored of a segment, or reached
    abbrev reach_of : EntryEnd → ℕ → ℕ
    reach_of end n = max (known_length known n) (cond (n == end.segment) end.offset 0)

    reach_within : (end : EntryEnd) → IsReached end → (segment : ℕ) (bytes : List ℕ) → IsReadPart Needed known its segment bytes → reach_of end segment ≤ length bytes
    reach_within end reached segment bytes part =
        let known_part = part.enough in
        cond_both (segment == end.segment) end.offset 0 (λ n. max (known_length known segment) n ≤ length bytes)
        (λ e.
        let same : segment ≡ end.segment = eqb-true segment end.segment e in
        let enough = reached bytes (rw same at part) in omega (arith, known_part, enough)) (λ e. omega (arith, known_part))

    part_read : length gathered.main ≤ LAST_MAIN_SEGMENT → (end : EntryEnd) → IsReached end → (groups : List (List Entry)) → cut log.entries ≡ map spelled_all groups → (k segment : ℕ) → 1 + k ≡ segment → k < length gathered.main → IsPartRead (reach_of end) its segment (get_or groups k []) (get_or gathered.main k [])
    part_read fits end reached groups are k segment is within =
        let at : k + 1 ≡ segment = omega (arith, is) in
        let main : segment < FIRST_SIDE_SEGMENT = omega (arith, is, within, fits) in
        let one : AreRead Needed known its segment (get_or gathered.main k []) =
        subst (λ (n : ℕ). AreRead Needed known its n (get_or gathered.main k [])) at (read.main k within) in
        let group = group_of log w stored kept backed few Needed gathered read k segment is main groups are in
        record {
          bytes = one.bytes;
          read_is = one.spelled;
          front = one.read.front;
          copied = rw group at ((copy log w stored kept backed few).front segment);
          enough = reach_within end reached segment one.bytes one.read;
          in_order = λ later behind mains some.
              let least = rw group at ((copy log w stored kept backed few).in_order later some segment behind (lt-ltb segment FIRST_SIDE_SEGMENT main ∙ sym mains)) in
              omega (arith, least);
        }

    -- an entry that ends within what was read of its segment was read
    pub end_read : length gathered.main ≤ LAST_MAIN_SEGMENT → All IsLawfulEntry log.entries → (place : ℕ) (end : EntryEnd) → slice_get (ends log.entries) place ≡ Some end → 1 ≤ end.offset → end.segment ≤ length gathered.main → IsReached end → place < length (flat_map (λ list. list) gathered.main)
    end_read fits lawful place end at some within is_reached =
        let groups = cut_groups log.entries in
        let reach : end.offset ≤ reach_of end end.segment =
        rw (cond-true (end.segment == end.segment) end.offset 0 (eq-eqb end.segment end.segment refl)) (omega arith) in
        reached (reach_of end) its 1 groups.groups gathered.main (all_groups IsLawfulEntry groups.groups (rw groups.list_is lawful))
        (part_read fits end is_reached groups.groups groups.spelled_are)
        (λ n below. lt-ltb n FIRST_SIDE_SEGMENT (omega (arith, below, fits))) place end
        (subst (λ (places : List EntryEnd). slice_get places place ≡ Some end) (sym groups.places_are) at) some (omega (arith, within))
        reach

    -- the end of an entry is in a main segment, and not where that begins
    record IsMainEnd (end : EntryEnd) : Type 0 where
      some : 1 ≤ end.offset
      first : 1 ≤ end.segment
      main : is_main end.segment ≡ true

    end_is : (place : ℕ) (end : EntryEnd) → slice_get (ends log.entries) place ≡ Some end → IsMainEnd end
    end_is place end at =
        let within : place < length (ends log.entries) = slice_get_within (ends log.entries) place end at in
        let same : get_or (ends log.entries) place end ≡ end = get_or_from_slice_get (ends log.entries) place end end at in
        let segments = ends_within [] log.entries place end within in
        let last : end.segment ≤ length (cut log.entries) = rw same at segments.1 in
        record {
          some = rw same at (end_some [] log.entries place end (λ k h. absurd (omega arith)) within);
          first = rw same at segments.0;
          main = lt-ltb end.segment FIRST_SIDE_SEGMENT (omega (arith, last, few));
        }

    module _ (fits : length gathered.main ≤ LAST_MAIN_SEGMENT) (lawful : All IsLawfulEntry log.entries) (passed : gathered.main_read ≡ true) where
      -- what is known to be stored is in what was read
      known_read : (place : ℕ) (end : EntryEnd) → slice_get (ends log.entries) place ≡ Some end → end.offset ≤ known_length known end.segment → place < length (flat_map (λ list. list) gathered.main)
      known_read place end at is_known =
          let is = end_is place end at in
          end_read fits lawful place end at is.some
          (elim (cases_lt (length gathered.main) end.segment) [
            | inl beyond ↦ absurd (omega (arith, read.passed passed end.segment beyond is.main, is_known, is.some))
            | inr within ↦ within
          ]) (λ bytes part. omega (arith, part.enough, is_known))

      -- so what is applied was read
      pub applied_read : w.applied ≤ length (flat_map (λ list. list) gathered.main)
      applied_read = elim (cases_lt (length main) w.applied) [
        | inl fewer ↦
            let held = kept.held in
            let count = prefix_len-le-length (is_held log.known) (ends log.entries) in
            let place : ℕ = length main in
            let there =
            slice_get-get_or (ends log.entries) place (record { segment = 0; offset = 0 }) (omega (arith, fewer, held, count)) in
            let end : EntryEnd = get_or (ends log.entries) place (record { segment = 0; offset = 0 }) in
            let holds = rw there at (committed_held log place READ_BACKUP (omega (arith, fewer, held)) backed) in
            absurd (omega (arith, known_read place end there holds))
        | inr enough ↦ enough
      ]

      -- and what is needed was
      pub needed_read : (place : ℕ) (end : EntryEnd) → slice_get (ends log.entries) place ≡ Some end → Needed end → place < length (flat_map (λ list. list) gathered.main)
      needed_read place end at needed =
          let is = end_is place end at in
          end_read fits lawful place end at is.some (read.passed_needed passed end needed is.main) (λ bytes part. part.needed end needed refl)

      -- what was read are first entries of the log
      firsts : AreFirstStored (stored READ_BACKUP) log.entries (ends log.entries) (flat_map (λ list. list) gathered.main)
      firsts = main_read log w stored kept backed few Needed gathered read fits lawful

      pub main_first : (more : List Entry) × (w.entries ≡ flat_map (λ list. list) gathered.main ++ more)
      main_first = (firsts.more, sym kept.entries_are ∙ firsts.parts)

      -- ---- side segments

      -- a side segment that is stored has its bytes at its place
      side_at : (number : ℕ) → is_side_stored log number ≡ true → FIRST_SIDE_SEGMENT ≤ number → number - FIRST_SIDE_SEGMENT < length log.sides
      side_at number stands side = elim (cases_lt (number - FIRST_SIDE_SEGMENT) (length log.sides)) [
        | inl within ↦ within
        | inr past ↦
            absurd
            (false≢true
            (sym
            (ap
            (λ (found : Option NumberedBytes). option_map_or (λ segment. list_all (λ known. is_whole known segment) log.known) found false)
            (numbered_past number FIRST_SIDE_SEGMENT log.sides (omega (arith, past, side)))) ∙ stands))
      ]

      -- what was read of a side segment that every backup is known to hold is all of it
      pub side_whole : All IsLawfulHeld (flat_map (λ items. items) w.sides) → (number : ℕ) → is_side_stored log number ≡ true → (list : List Entry) → get gathered.sides number ≡ Some list → list ≡ side_entries w.sides number
      side_whole lawful_items number stands list is =
          let side : FIRST_SIDE_SEGMENT ≤ number = side_number log w stored kept backed few Needed gathered read number stands in
          let k : ℕ = number - FIRST_SIDE_SEGMENT in
          let within : k < length log.sides = side_at number stands side in
          let bytes : List ℕ = get_or log.sides k [] in
          let found = numbered_at number FIRST_SIDE_SEGMENT k log.sides (omega (arith, side)) within in
          let all_hold : list_all (λ (known : Known). is_whole known (record { number = number; bytes = bytes })) log.known ≡ true =
          ap (λ (o : Option NumberedBytes). option_map_or (λ segment. list_all (λ known. is_whole known segment) log.known) o false)
          (sym found) ∙ stands in
          let holds : length bytes ≤ known_length known number =
          leb-true (length bytes) (known_length known number)
          (list_all_each (λ (known : Known). is_whole known (record { number = number; bytes = bytes })) log.known (READ_BACKUP - 1) nothing
          all_hold (omega (arith, backed.first, backed.last))) in
          let one = read.sides number list is in
          let bytes_are : bytes_of log number ≡ bytes = bytes_side log number few side ∙ ap bytes_in found in
          let items : List Held = get_or w.sides k [] in
          let spelt = ap (λ (sides : List (List ℕ)). get_or sides k []) kept.spelled ∙ items_at w.sides k in
          let part = first_part_more one.bytes (its number) (bytes_of log number) one.read.front ((copy log w stored kept backed few).front number) in
          let same = whole_part bytes one.bytes part.more (sym bytes_are ∙ part.parts) (omega (arith, holds, one.read.enough)) in
          let lawful_list : All IsLawfulEntry (as_entries items) =
          All-map IsLawfulEntry entries.Held items (all_at IsLawfulHeld w.sides k (all_groups IsLawfulHeld w.sides lawful_items)) in
          let its_entries : side_entries w.sides number ≡ as_entries items =
          cond-false (nat_lt number FIRST_SIDE_SEGMENT) [] (as_entries items) (le-ltb number FIRST_SIDE_SEGMENT side) in
          one.spelled ∙ ap entries_of (same ∙ spelt ∙ sym (append-nil (spelled_all (as_entries items))))
          ∙ all_again (as_entries items) [] (recursion_from_All IsLawfulEntry (as_entries items) lawful_list)
          ∙ ap (λ (l : List Entry). as_entries items ++ l) read_none ∙ append-nil (as_entries items) ∙ sym its_entries

      -- the side segments that what was read names were read
      named_read : (range : Range) → next_side range gathered ≡ None → (number : ℕ) → Contains (named range (main_entries gathered)) number → (list : List Entry) × (get gathered.sides number ≡ Some list)
      named_read range none number at = go (get gathered.sides number) refl
          (none_of (λ (segment : ℕ). not (is_some (get gathered.sides segment))) (named range (main_entries gathered)) none number at)
        where
          go : (found : Option (List Entry)) → get gathered.sides number ≡ found → not (is_some found) ≡ false → (list : List Entry) × (get gathered.sides number ≡ Some list)
          go None is missing = absurd (false≢true (sym missing))
          go (Some list) is missing = (list, is)

      pub sides_read : All IsLawfulHeld (flat_map (λ items. items) w.sides) → (range : Range) → next_side range gathered ≡ None → (number : ℕ) → Contains (named range (main_entries gathered)) number → side_read gathered number ≡ side_entries w.sides number
      sides_read lawful_items range none number at =
          let found = named_read range none number at in
          let by = named_from range (main_entries gathered) number at in
          let place = place_there (main_entries gathered) by.0 by.1 in
          let here : Contains w.entries by.0 = in_log (main_entries gathered) by.0 by.1 in
          let stands : is_side_stored log number ≡ true =
          All-contains (λ (segment : ℕ). is_side_stored log segment ≡ true) (segments_in by.0) number
          (All-contains (λ (e : Entry). All (λ segment. is_side_stored log segment ≡ true) (segments_in e)) w.entries by.0 kept.named here)
          (named_in range by.0 number by.2) in
          ap (λ (o : Option (List Entry)). unwrap_or o []) found.1 ∙ side_whole lawful_items number stands found.0 found.1
        where
          in_log : (list : List Entry) (entry : Entry) → Contains (main_entries gathered) entry → Contains w.entries entry
          in_log list entry at =
              let there = place_there (main_entries gathered) entry at in
              let place = behind main gathered.member.from there.0 entry there.1 in
              stands_there w.entries place.0 entry
              (subst (λ (l : List Entry). slice_get l place.0 ≡ Some entry) (sym main_first.1) (stands_front main main_first.0 place.0 entry place.1))
            where
              behind : (xs : List Entry) (from k : ℕ) (x : Entry) → slice_get (drop from xs) k ≡ Some x → (place : ℕ) × (slice_get xs place ≡ Some x)
              behind xs zero k x at = (k, at)
              behind [] (suc from) k x at = absurd (cc at)
              behind (y ∷ xs) (suc from) k x at = let later = behind xs from k x at in (suc later.0, later.1)

-- ---- nothing is left to read

-- of a member of which nothing is left to read the main segments are passed, and no side segment is left
pub none_left : (range : Range) (gathered : Gathered) → next_segment range gathered ≡ None → (gathered.main_read ≡ true) × (next_side range gathered ≡ None)
none_left range gathered = grind (arith, cond_both, main_read, next_side)
