-- What is applied of a log stays all that is held when the log grows, and becomes so again when a backup reports what it holds; and if
-- not every backup is known to hold all entries of a log, some backup is to be sent bytes.
use Rattle.std.proofs.Common.{Bool, List, None, Option, Some, [], ap, arith, drop, false, find, get_or, get_or-set_other, get_or-set_same}
use Rattle.std.proofs.Common.{is_some, leb-false, length, length-append, length-drop, length-set, length-take-le, not, option_map, refl}
use Rattle.std.proofs.Common.{subst, suc, sym, take, true, zero, ℕ, ⊎_elim, ◌&&◌, ◌++◌, ◌+◌, ◌-◌, ◌<◌, ◌∙◌, ◌∷◌, ◌≡◌, ◌≤◌}
use Rattle.std.proofs.lemmas.Bool.{lt-leb}
use Rattle.std.proofs.lemmas.List.{set_past}
use Rattle.std.proofs.lemmas.List.Folds.{list_all_at}
use Rattle.std.proofs.lemmas.List.Sums.{prefix_len_stops}
use Rattle.rk_inv_base.proofs.Words.{Entry, EntryEnd, FIRST_SIDE_SEGMENT, IsBackup, IsFirstPart, Known, Log, NumberedBytes, bytes_of}
use Rattle.rk_inv_base.proofs.Words.{cases_eq, cases_lt, committed, cond-true, cond_both, cut, cut_push, end_of, ends, ends_after}
use Rattle.rk_inv_base.proofs.Words.{get_or_append_left, get_or_past, get_or_push, has_room, in_last, is_held, is_whole, known_length}
use Rattle.rk_inv_base.proofs.Words.{known_of, length-ends, list_all, nothing, numbered, pending, prefix_len, prefix_len-le-length}
use Rattle.rk_inv_base.proofs.Words.{room_some, side_segments, spelled, told_other, with_bytes, with_entry, committed_told}
use Rattle.rk_log.proofs.Cuts.{ends_push, ends_within, some_segments, spelled_some}
use Rattle.rk_log.proofs.KnownLaws.{told_length}
use Rattle.rk_log.proofs.Prefixes.{prefix_len_push_no}
use Rattle.rk_log.specs.Cut.{cut_after, last_of}
use Rattle.rk_log.specs.Known.{reaches, told}
use Rattle.rk_log.specs.Log.{missing, segments, with_side, with_told}
use Rattle.rk_inv_base.proofs.logs.Segments.{bytes_main, bytes_zero, with_bytes_front}
use Rattle.rk_inv_lanes.specs.applied.CaughtUp.{AreApplied, IsKnownThere}

-- ---- What is applied of a log stays all that is held when the log grows, and becomes so again when a backup reports what it holds.

-- ---- one more entry

pub first_part_length : {front whole : List ℕ} → IsFirstPart front whole → length front ≤ length whole
first_part_length {front} first = omega (arith, ap length first.parts, length-append front first.more)

-- the bytes of the last segment go past those that were under its number
past_before : (segments : List (List ℕ)) (bytes : List ℕ) → 0 < length bytes
    → length (get_or segments (length (with_bytes segments bytes) - 1) []) < length (last_of (with_bytes segments bytes))
past_before segments bytes some =
    grind (arith, cond_both, has_room, in_last, room_some, length-set, get_or-set_same, length-append, get_or_push, get_or_past)

module _ (log : Log) (entry : Entry) where
  -- the main segments once the entry is appended
  abbrev more : List (List ℕ)
  more = with_bytes (cut log.entries) (spelled entry)

  more_main : (segment : ℕ) → segment < FIRST_SIDE_SEGMENT → length (bytes_of log segment) ≤ length (bytes_of (with_entry log entry) segment)
  more_main segment main =
      ⊎_elim (λ (none : segment < 1). omega (arith, ap length (bytes_zero log segment none)))
      (λ (some : 1 ≤ segment).
      omega (
        arith,
        ap length (bytes_main log segment some main),
        ap length (bytes_main (with_entry log entry) segment some main),
        ap (λ (s : List (List ℕ)). length (get_or s (segment - 1) [])) (cut_push [] log.entries entry),
        first_part_length
            (with_bytes_front (cut log.entries) (spelled entry) (segment - 1)),
      ))
      (cases_lt segment 1)

  module _ (known : IsKnownThere log) (some : 1 ≤ length log.known) (few : length (cut (log.entries ++ entry ∷ [])) < FIRST_SIDE_SEGMENT) where
    -- backup 1 is not known to hold the entry
    not_known : known_length (known_of log 1) (length more) < length (last_of more)
    not_known =
        let within : length more < FIRST_SIDE_SEGMENT = omega (arith, few, ap length (cut_push [] log.entries entry)) in
        omega (
          arith,
          known 1 (length more) within,
          ap length (bytes_main log (length more) (some_segments (cut log.entries) (spelled entry)).1 within),
          past_before (cut log.entries) (spelled entry) (spelled_some entry),
        )

    not_held : is_held log.known (end_of more) ≡ false
    not_held = list_all_at (λ (backup : Known). reaches backup (end_of more)) log.known 0 nothing some
        (lt-leb (length (last_of more)) (known_length (known_of log 1) (length more)) not_known)

    committed_same : committed (with_entry log entry) ≡ committed log
    committed_same = ap (prefix_len (is_held log.known)) (ends_push [] log.entries entry)
        ∙ prefix_len_push_no (is_held log.known) (ends log.entries) (end_of more) not_held

  -- nothing more is held when an entry is appended
  pub applied_entry : {count : ℕ} → AreApplied log count → AreApplied (with_entry log entry) count
  applied_entry before = record {
    known = λ backup segment main. omega (arith, before.known backup segment main, more_main segment main);
    count_is = λ some few.
        let was_few : length (cut log.entries) < FIRST_SIDE_SEGMENT =
        omega (arith, few, ap length (cut_push [] log.entries entry), (some_segments (cut log.entries) (spelled entry)).0) in
        before.count_is some was_few ∙ sym (committed_same before.known some few);
  }

-- ---- one more side segment

pub applied_side : {log : Log} (bytes : List ℕ) {count : ℕ} → AreApplied log count → AreApplied (with_side log bytes) count
applied_side {log} bytes before = record {
  known = λ backup segment main.
      ⊎_elim (λ (none : segment < 1). omega (arith, before.known backup segment main, ap length (bytes_zero log segment none)))
      (λ (some : 1 ≤ segment).
      omega (
        arith,
        before.known backup segment main,
        ap length (bytes_main log segment some main),
        ap length (bytes_main (with_side log bytes) segment some main),
      ))
      (cases_lt segment 1);
  count_is = before.count_is;
}

-- ---- what backups report

module _ (log : Log) (teller segment size : ℕ) where
  told_there : size ≤ length (bytes_of log segment) → IsKnownThere log → (other : ℕ) → other < FIRST_SIDE_SEGMENT
      → known_length (told (known_of log teller) segment size) other ≤ length (bytes_of log other)
  told_there fits known other main = grind (arith, told_length, known_of, bytes_of, told_other, cases_eq)

  -- a backup reports no more than is there
  pub known_told : size ≤ length (bytes_of log segment) → IsKnownThere log → IsKnownThere (with_told log teller segment size)
  known_told fits known backup other main =
      grind (arith, known_length, bytes_of, told_there, known_of, nothing, get_or-set_same, get_or-set_other, cases_eq, set_past, cases_lt)

-- so many entries behind those that are applied are held
pub held_count : (log : Log) (count : ℕ) → count ≤ committed log
    → count + length (drop count (take (committed log) log.entries)) ≡ committed log
held_count log count less = grind (arith, committed, prefix_len-le-length, is_held, ends, length-ends, length-drop, length-take-le)

-- once they are applied, all that is held is
pub applied_told : {log : Log} (teller segment size : ℕ) {count : ℕ} → size ≤ length (bytes_of log segment) → AreApplied log count
    → AreApplied (with_told log teller segment size) (count + length (drop count (take (committed (with_told log teller segment size)) log.entries)))
applied_told {log} teller segment size {count} fits before = record {
  known = known_told log teller segment size fits before.known;
  count_is = λ some few.
      let backed : 1 ≤ length log.known =
      omega (arith, some, length-set log.known (teller - 1) (told (known_of log teller) segment size)) in
      held_count (with_told log teller segment size) count
      (omega (arith, before.count_is backed few, committed_told log teller segment size));
}

-- ---- If not every backup is known to hold all entries of a log, some backup is to be sent bytes.

-- ---- tests of lists

-- an element that fails a test
pub record FailsAt {X : Type 0} (test : X → Bool) (list : List X) (none : X) : Type 0 where
  pub place : ℕ
  pub within : place < length list
  pub fails : test (get_or list place none) ≡ false

-- if not all pass, one fails
pub fails_at : {X : Type 0} (test : X → Bool) (list : List X) (none : X) → list_all test list ≡ false → FailsAt test list none
fails_at test [] none fails = absurd (cc fails)
fails_at test (x ∷ list) none fails = by (test x) refl fails (fails_at test list none)
  where
    by : (passes : Bool) → test x ≡ passes → (passes && list_all test list) ≡ false → (list_all test list ≡ false → FailsAt test list none)
        → FailsAt test (x ∷ list) none
    by false is fails behind = record { place = zero; within = omega arith; fails = is }
    by true is fails behind =
        let rest = behind fails in
        record { place = suc rest.place; within = omega (arith, rest.within); fails = rest.fails }

-- if one passes, one is found
found_at : {X : Type 0} (test : X → Bool) (list : List X) (place : ℕ) (none : X)
    → place < length list → test (get_or list place none) ≡ true → is_some (find test list) ≡ true
found_at test [] place none within passes = absurd (omega arith)
found_at test (x ∷ list) zero none within passes = ap (λ (o : Option _). is_some o) (cond-true (test x) (Some x) (find test list) passes)
found_at test (x ∷ list) (suc place) none within passes =
    cond_both (test x) (Some x) (find test list) (λ o. is_some o ≡ true) (λ is. refl)
    (λ is. found_at test list place none (omega arith) passes)

-- ---- segments

-- the bytes of a segment are no fewer with more entries
cut_longer : (segments : List (List ℕ)) (entries : List Entry) (place : ℕ)
    → length (get_or segments place []) ≤ length (get_or (cut_after segments entries) place [])
cut_longer segments [] place = omega arith
cut_longer segments (entry ∷ entries) place =
    grind (arith, first_part_length, with_bytes_front, (cut_longer (with_bytes segments (spelled entry)) entries place))

-- each entry ends within its segment
ends_there : (segments : List (List ℕ)) (entries : List Entry) (place : ℕ) (none : EntryEnd) → place < length (ends_after segments entries)
    → (get_or (ends_after segments entries) place none).offset
    ≤ length (get_or (cut_after segments entries) ((get_or (ends_after segments entries) place none).segment - 1) [])
ends_there segments [] place none within = absurd (omega arith)
ends_there segments (entry ∷ entries) zero none within = grind (arith, cut_longer, with_bytes, spelled)
ends_there segments (entry ∷ entries) (suc place) none within = ends_there (with_bytes segments (spelled entry)) entries place none (omega arith)

length_numbered : (first : ℕ) (segments : List (List ℕ)) → length (numbered first segments) ≡ length segments
length_numbered first [] = refl
length_numbered first (bytes ∷ more) = ap suc (length_numbered (suc first) more)

numbered_get : (first : ℕ) (segments : List (List ℕ)) (place : ℕ) (none : NumberedBytes) → place < length segments
    → get_or (numbered first segments) place none ≡ record { number = first + place; bytes = get_or segments place [] }
numbered_get first [] place none within = absurd (omega arith)
numbered_get first (bytes ∷ more) zero none within = grind arith
numbered_get first (bytes ∷ more) (suc place) none within =
    let same : suc first + place ≡ first + suc place = omega arith in
    numbered_get (suc first) more place none (omega arith) ∙ (λ i. record { number = same i; bytes = get_or more place [] })

-- ---- what a backup lacks

-- a backup that is to be sent bytes
pub record Lacks (log : Log) : Type 0 where
  pub backup : ℕ
  pub there : IsBackup log backup
  pub sent : is_some (pending log backup) ≡ true

-- what is found is there also if it is changed
still_some : {X Y : Type 0} (change : X → Y) (found : Option X) → is_some found ≡ true → is_some (option_map change found) ≡ true
still_some change (Some x) is = refl
still_some change None is = is

module _ (log : Log) (behind : committed log < length log.entries) where
  -- the end of the first entry that is not held
  abbrev none : EntryEnd
  none = record { segment = 0; offset = 0 }

  abbrev next : EntryEnd
  next = get_or (ends log.entries) (committed log) none

  next_within : committed log < length (ends log.entries)
  next_within = omega (arith, behind, length-ends [] log.entries)

  lacking : FailsAt (λ (backup : Known). reaches backup next) log.known nothing
  lacking = fails_at (λ (backup : Known). reaches backup next) log.known nothing (prefix_len_stops (is_held log.known) (ends log.entries) none next_within)

  -- the segment that it is in is not known to be held whole
  not_whole : (known : Known) → reaches known next ≡ false → is_some (find (λ segment. not (is_whole known segment)) (segments log)) ≡ true
  not_whole known fails =
      let at = ends_within [] log.entries (committed log) none next_within in
      let place : ℕ = next.segment - 1 in
      let bytes : List ℕ = get_or (cut log.entries) place [] in
      let within : place < length (numbered 1 (cut log.entries)) = omega (arith, at.0, at.1, length_numbered 1 (cut log.entries)) in
      let is : next.segment ≡ 1 + place = omega (arith, at.0) in
      let empty : NumberedBytes = record { number = 0; bytes = [] } in
      let less : known_length known (1 + place) < length bytes =
      subst (λ (n : ℕ). known_length known n < length bytes) is
      (omega (arith, leb-false next.offset (known_length known next.segment) fails, ends_there [] log.entries (committed log) none next_within)) in
      found_at (λ segment. not (is_whole known segment)) (segments log) place empty
      (omega (arith, within, length-append (numbered 1 (cut log.entries)) (side_segments log)))
      (ap (λ (segment : NumberedBytes). not (is_whole known segment))
      (get_or_append_left (numbered 1 (cut log.entries)) (side_segments log) empty place within
      ∙ numbered_get 1 (cut log.entries) place empty (omega (arith, within, length_numbered 1 (cut log.entries))))
      ∙ ap not (lt-leb (length bytes) (known_length known (1 + place)) less))

  pub lacks : Lacks log
  lacks =
      let number : ℕ = lacking.place + 1 in
      let place_is : number - 1 ≡ lacking.place = omega arith in
      let known_is : known_of log number ≡ get_or log.known lacking.place nothing = ap (λ (n : ℕ). get_or log.known n nothing) place_is in
      let fails : reaches (known_of log number) next ≡ false = ap (λ (known : Known). reaches known next) known_is ∙ lacking.fails in
      record {
        backup = number;
        there = record { first = omega arith; last = omega (arith, lacking.within) };
        sent =
            still_some (missing (known_of log number)) (find (λ segment. not (is_whole (known_of log number) segment)) (segments log))
            (not_whole (known_of log number) fails);
      }
