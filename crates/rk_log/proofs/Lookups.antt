-- What contracts see of a log, by the parts that represent it.
use Rattle.std.proofs.Common.{◌≡◌, ℕ, zero, suc, ◌+◌, ◌-◌, ◌<◌, ◌≤◌, Bool, true, false, cond, not, leb, ltb, eqb, List, [], ◌∷◌, ◌++◌, ◌⊎◌, length, get_or, set, take, drop, Option, Some, None, refl, ap, ◌∙◌, ⊎_elim, inl, inr, arith, length-set, get_or-set_same, get_or-set_other}
use Rattle.std.specs.Prelude.{slice_get}
use Rattle.std.specs.List.{find, list_all, prefix_len}
use Rattle.std.specs.Option.{option_map, option_map_or}
use Rattle.rk_log.specs.Known.{nothing}
use Rattle.std.proofs.lemmas.Bool.{lt-ltb, le-ltb, cases_lt, cond-true, cond-false}
use Rattle.std.proofs.lemmas.List.{set_past, same_lists}
use Rattle.std.proofs.lemmas.List.Folds.{find-append, list_all-map}
use Rattle.std.proofs.lemmas.List.FromFn.{length-map-range_with_len, get_or-map-range_with_len}
use Rattle.std.proofs.lemmas.Option.{slice_get_past}
use Rattle.rk_entry.specs.declared.lists.TheConstants.{FIRST_SIDE_SEGMENT}
use Rattle.rk_segment.specs.Segment.{NumberedBytes}
use Rattle.rk_log.specs.declared.copied.Copied.{Copied}
use Rattle.rk_log.specs.declared.copied.TheConstants.{FIRST_SEGMENT}
use Rattle.rk_log.specs.declared.ends.EntryEnd.{EntryEnd}
use Rattle.rk_types.specs.NumberMap.{IsInOrder}
use Rattle.rk_log.specs.Known.{Known, known_length, told, is_whole}
use Rattle.rk_log.specs.Log.{numbered, segment_of, is_held, missing}
use Rattle.rk_log.specs.Parts.{bytes_in, lengths_in, copied_of, bytes_among, with_told_length, with_length, known_from, known_at, known_by, is_whole_at, is_held_at, AreWithin, piece_at, lacking_at}
use Rattle.rk_log.proofs.Prefixes.{prefix_len_same, list_all_front}
use Rattle.rk_log.proofs.KnownLaws.{told_none, known_in_order, known_before, known_behind, known_within, known_from_told, known_from_set, known_from_other}

-- ---- segments by their numbers

-- no segment has a number before the first
pub copied_before : (first number : ℕ) (segments : List Copied) → number < first → copied_of first number segments ≡ None
copied_before first number segments h = cond-true (ltb number first) None (slice_get segments (number - first)) (lt-ltb number first h)

-- from the first on numbers are places
pub copied_at : (first number : ℕ) (segments : List Copied) (k : ℕ) → first + k ≡ number → copied_of first number segments ≡ slice_get segments k
copied_at first number segments k e = grind (arith, cond-false, ltb, le-ltb)

-- and none has one behind the last
pub copied_past : (first number : ℕ) (segments : List Copied) → first + length segments ≤ number → copied_of first number segments ≡ None
copied_past first number segments h = copied_at first number segments (number - first) (omega arith) ∙ slice_get_past segments (number - first) (omega arith)

-- a segment with its number
abbrev pub shown : ℕ → Copied → NumberedBytes
shown number copied = record { number = number; bytes = copied.segment.bytes }

-- the segment of a number is found by its place
pub find_numbered : (number first : ℕ) (segments : List Copied) → segment_of number (numbered first (bytes_in segments)) ≡ option_map (shown number) (copied_of first number segments)
find_numbered number first [] = grind (arith, copied_before, copied_past, cases_lt)
find_numbered number first (c ∷ segments) =
    grind (arith, (find_numbered number (suc first) segments))

-- the bytes of a segment among main and side segments
pub bytes_are : (number : ℕ) (main sides : List Copied)
    → option_map_or (λ (segment : NumberedBytes). segment.bytes) (segment_of number (numbered FIRST_SEGMENT (bytes_in main) ++ numbered FIRST_SIDE_SEGMENT (bytes_in sides))) [] ≡ bytes_among number main sides
bytes_are number main sides = grind (arith, find-append, eqb, find_numbered)

-- ---- what is missing

-- the first segment that is lacking, by its place
pub lacking_is : (known : Known) (backup first : ℕ) (segments : List Copied)
    → ((k q : ℕ) → first + k ≡ q → k < length segments → known_length known q ≡ get_or (get_or (lengths_in segments) k []) backup 0)
    → option_map (missing known) (find (λ (segment : NumberedBytes). not (is_whole known segment)) (numbered first (bytes_in segments))) ≡ lacking_at backup first segments (prefix_len (is_whole_at backup) segments)
lacking_is known backup first [] h = refl
lacking_is known backup first (c ∷ segments) h =
    let lengths : known_length known first ≡ get_or c.known backup 0 = h zero first (omega arith) (omega arith) in
    let later : option_map (missing known) (find (λ (segment : NumberedBytes). not (is_whole known segment)) (numbered (suc first) (bytes_in segments))) ≡ lacking_at backup (suc first) segments (prefix_len (is_whole_at backup) segments) =
    lacking_is known backup (suc first) segments (λ k q e l. h (suc k) q (omega arith) (omega arith)) in
    branch lengths (find (λ (segment : NumberedBytes). not (is_whole known segment)) (numbered (suc first) (bytes_in segments))) (prefix_len (is_whole_at backup) segments) later
    (is_whole known (shown first c)) (is_whole_at backup c) (ap (leb (length c.segment.bytes)) lengths)
  where
    branch : known_length known first ≡ get_or c.known backup 0 → (rest : Option NumberedBytes) (place : ℕ) → option_map (missing known) rest ≡ lacking_at backup (suc first) segments place
        → (a b : Bool) → a ≡ b → option_map (missing known) (cond (not a) (Some (shown first c)) rest) ≡ lacking_at backup first (c ∷ segments) (cond b (1 + place) 0)
    branch lengths rest place later a true e =
        let number : suc first + place ≡ first + (1 + place) = omega arith in
        let behind : suc place ≡ 1 + place = omega arith in
        ap (λ (x : Bool). option_map (missing known) (cond (not x) (Some (shown first c)) rest)) e ∙ later
        ∙ (λ i. option_map (piece_at backup (number i)) (slice_get (c ∷ segments) (behind i)))
    branch lengths rest place later a false e =
        let number : first ≡ first + 0 = omega arith in
        ap (λ (x : Bool). option_map (missing known) (cond (not x) (Some (shown first c)) rest)) e
        ∙ (λ i. Some (record { segment = number i; at = lengths i; bytes = drop (lengths i) c.segment.bytes }))

-- ---- known lengths

-- nothing is known at first
pub nothing_known : (q : ℕ) → known_length nothing q ≡ 0
nothing_known q = refl

-- of a main segment
pub main_length : (main sides : List (List ℕ)) (backup k q : ℕ) → FIRST_SEGMENT + k ≡ q → k < length main → length main < FIRST_SIDE_SEGMENT → known_length (known_at main sides backup) q ≡ get_or (get_or main k []) backup 0
main_length main sides backup k q e h few = grind (arith, known_within, known_before, nothing_known)

-- of a side segment
pub side_length : (main sides : List (List ℕ)) (backup k q : ℕ) → FIRST_SIDE_SEGMENT + k ≡ q → k < length sides → length main < FIRST_SIDE_SEGMENT → known_length (known_at main sides backup) q ≡ get_or (get_or sides k []) backup 0
side_length main sides backup k q e h few = grind (arith, known_behind, known_within, nothing_known)

-- what one of the backups holds
pub known_of_backup : (backups : ℕ) (main sides : List (List ℕ)) (k : ℕ) (d : Known) → k < backups → get_or (known_by backups main sides) k d ≡ known_at main sides k
known_of_backup backups main sides k d h = get_or-map-range_with_len (known_at main sides) 0 backups k k d h (omega arith)

-- there are as many as backups
pub length-known_by : (backups : ℕ) (main sides : List (List ℕ)) → length (known_by backups main sides) ≡ backups
length-known_by backups main sides = length-map-range_with_len (known_at main sides) 0 backups

-- whether all backups hold a segment up to a byte
pub all_reach : (backups : ℕ) (main sides : List (List ℕ)) (number offset : ℕ) (lengths : List ℕ) → backups ≤ length lengths
    → ((backup : ℕ) → known_length (known_at main sides backup) number ≡ get_or lengths backup 0)
    → list_all (λ (known : Known). leb offset (known_length known number)) (known_by backups main sides) ≡ list_all (leb offset) (take backups lengths)
all_reach backups main sides number offset lengths le is = grind (arith, list_all-map, leb, list_all_front)

-- an entry is held by all
pub held_is : (backups : ℕ) (main sides : List (List ℕ)) (end : EntryEnd) → 1 ≤ end.segment → end.segment ≤ length main → length main < FIRST_SIDE_SEGMENT
    → backups ≤ length (get_or main (end.segment - 1) []) → is_held (known_by backups main sides) end ≡ is_held_at backups main end
held_is backups main sides end first last few le =
    all_reach backups main sides end.segment end.offset (get_or main (end.segment - 1) []) le
    (λ backup. main_length main sides backup (end.segment - 1) end.segment (omega arith) (omega arith) few)

-- so many entries are
pub committed_is : (backups : ℕ) (main sides : List (List ℕ)) (ends : List EntryEnd) → AreWithin (length main) ends → length main < FIRST_SIDE_SEGMENT
    → ((k : ℕ) → k < length main → backups ≤ length (get_or main k []))
    → prefix_len (is_held (known_by backups main sides)) ends ≡ prefix_len (is_held_at backups main) ends
committed_is backups main sides ends within few le =
    prefix_len_same (is_held (known_by backups main sides)) (is_held_at backups main) ends (λ k d h.
    let places = within k d h in
    held_is backups main sides (get_or ends k d) places.0 places.1 few (le ((get_or ends k d).segment - 1) (omega (arith, places.0, places.1))))

-- ---- what a backup reports

-- nothing of segments that are not there
pub with_length_before : (first number backup size : ℕ) (lists : List (List ℕ)) → number < first → with_length first number backup size lists ≡ lists
with_length_before first number backup size lists h = cond-true (ltb number first) lists _ (lt-ltb number first h)

-- of a segment that is there its length
pub with_length_at : (first number backup size k : ℕ) (lists : List (List ℕ)) → first + k ≡ number → with_length first number backup size lists ≡ set lists k (with_told_length backup size (get_or lists k []))
with_length_at first number backup size k lists e = grind (arith, cond-false, ltb, le-ltb)

-- what it reports of these segments
pub known_from_with_length : (first number backup size : ℕ) (lists : List (List ℕ)) (others : Known) (k : ℕ) → first + k ≡ number → k < length lists → backup < length (get_or lists k []) → IsInOrder others
    → known_from backup first (with_length first number backup size lists) others ≡ told (known_from backup first lists others) number size
known_from_with_length first number backup size lists others k e h w order = grind (arith, with_length_at, known_from_set)

-- where a segment is: among the main ones, among the side ones, or nowhere
pub data Place (main sides number : ℕ) : Type 0 where
  among_main : (k : ℕ) → FIRST_SEGMENT + k ≡ number → k < main → Place main sides number
  among_sides : (k : ℕ) → FIRST_SIDE_SEGMENT + k ≡ number → k < sides → Place main sides number
  nowhere : (number < FIRST_SEGMENT) ⊎ (FIRST_SEGMENT + main ≤ number) → (number < FIRST_SIDE_SEGMENT) ⊎ (FIRST_SIDE_SEGMENT + sides ≤ number) → Place main sides number

pub place_of : (main sides number : ℕ) → main < FIRST_SIDE_SEGMENT → Place main sides number
place_of main sides number few =
    ⊎_elim
    (λ (h : number < FIRST_SEGMENT). nowhere (inl h) (inl (omega arith)))
    (λ (h : FIRST_SEGMENT ≤ number).
    ⊎_elim
    (λ (g : number < FIRST_SEGMENT + main). among_main (number - FIRST_SEGMENT) (omega arith) (omega arith))
    (λ (g : FIRST_SEGMENT + main ≤ number).
    ⊎_elim
    (λ (s : number < FIRST_SIDE_SEGMENT). nowhere (inr g) (inl s))
    (λ (s : FIRST_SIDE_SEGMENT ≤ number).
    ⊎_elim
    (λ (t : number < FIRST_SIDE_SEGMENT + sides). among_sides (number - FIRST_SIDE_SEGMENT) (omega arith) (omega arith))
    (λ (t : FIRST_SIDE_SEGMENT + sides ≤ number). nowhere (inr g) (inr t))
    (cases_lt number (FIRST_SIDE_SEGMENT + sides)))
    (cases_lt number FIRST_SIDE_SEGMENT))
    (cases_lt number (FIRST_SEGMENT + main)))
    (cases_lt number FIRST_SEGMENT)

-- lengths of segments that are not among these stay
with_length_apart : (first number backup size : ℕ) (lists : List (List ℕ)) → (number < first) ⊎ (first + length lists ≤ number) → with_length first number backup size lists ≡ lists
with_length_apart first number backup size lists apart = grind (arith, with_length_before, cond-false, ltb, le-ltb, set_past)

-- what all backups are then known to hold
pub known_told : (backups : ℕ) (main sides : List (List ℕ)) (number backup size : ℕ) → backup < backups → length main < FIRST_SIDE_SEGMENT
    → ((k : ℕ) → k < length main → backup < length (get_or main k [])) → ((k : ℕ) → k < length sides → backup < length (get_or sides k []))
    → ((number < FIRST_SEGMENT) ⊎ (FIRST_SEGMENT + length main ≤ number) → (number < FIRST_SIDE_SEGMENT) ⊎ (FIRST_SIDE_SEGMENT + length sides ≤ number) → size ≡ 0)
    → known_by backups (with_length FIRST_SEGMENT number backup size main) (with_length FIRST_SIDE_SEGMENT number backup size sides)
    ≡ set (known_by backups main sides) backup (told (get_or (known_by backups main sides) backup nothing) number size)
known_told backups main sides number backup size within few wide_main wide_sides none =
    grind (arith, same_lists, length-known_by, length-set, known_of_backup, get_or-set_same, get_or-set_other, known_from_with_length, known_in_order, known_from_told, with_length_apart, told_none, with_length_at, known_from_other, cases_lt)
