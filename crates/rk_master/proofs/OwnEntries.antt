-- What is read of the side segments of a log, and what of it counts.
use Rattle.rk_master.proofs.Words.{◌≡◌, ℕ, zero, suc, ◌+◌, ◌-◌, ◌^◌, ◌<◌, ◌≤◌, Bool, true, false, cond, eqb, ltb, List, [], ◌∷◌, ◌++◌, drop}
use Rattle.rk_master.proofs.Words.{fold, length, get_or, Option, Some, None, unwrap_or, refl, sym, ap, ◌∙◌, arith, inl, inr, flat_map}
use Rattle.rk_master.proofs.Words.{false≢true, cond-true, cond-false, eq-eqb, All-head, All-tail, NumberMap, get_same, Range, entries_of}
use Rattle.rk_master.proofs.Words.{Entry, FIRST_SIDE_SEGMENT, Log, as_entries, own_counted, with_side_read, AreSpelled, IsSpelled}
use Rattle.rk_master.proofs.Words.{items_of_sides}
use Rattle.std.proofs.Common.{◌||◌, ◌⊎◌}
use Rattle.std.specs.Option.{option_map_or, option_or}
use Rattle.std.proofs.lemmas.Bool.{le-ltb, ne_eqb, cases_eq}
use Rattle.std.proofs.lemmas.List.Folds.{find-append}
use Rattle.rk_types.specs.NumberMap.{get_or as read_or}
use Rattle.rk_types.proofs.NumberMaps.{get_other}
use Rattle.rk_entry.specs.Entries.{entries_within}
use Rattle.rk_entry.specs.Lists.{is_among}
use Rattle.rk_segment.specs.Segment.{NumberedBytes}
use Rattle.rk_log.specs.Cut.{cut}
use Rattle.rk_log.specs.Log.{bytes_of, numbered, segment_bytes, segment_of}
use Rattle.rk_log.proofs.Cuts.{cut_filled, length-le-bytes}
use Rattle.rk_world.specs.Material.{counting, material_of, named, side_entries}
use Rattle.rk_master.specs.Rebuilding.{AreRead, side_read}
use Rattle.rk_master.proofs.Sides.{entries_in}

-- ---- segments by their numbers

-- none has a number behind the last
none_behind : (number first : ℕ) (segments : List (List ℕ)) → first + length segments ≤ number → segment_of number (numbered first segments) ≡ None
none_behind number first [] behind = refl
none_behind number first (bytes ∷ segments) behind =
    cond-false (eqb first number) (Some (record { number = first; bytes = bytes })) (segment_of number (numbered (suc first) segments))
    (ne_eqb first number (λ same. omega (arith, behind, same)))
    ∙ none_behind number (suc first) segments (omega (arith, behind))

-- the bytes that are found
abbrev found_bytes : Option NumberedBytes → List ℕ
found_bytes found = option_map_or (λ (segment : NumberedBytes). segment.bytes) found []

-- from the first number on they are found by place
found_there : (number first place : ℕ) (segments : List (List ℕ)) → first + place ≡ number → found_bytes (segment_of number (numbered first segments)) ≡ get_or segments place []
found_there number first place [] is = refl
found_there number first zero (bytes ∷ segments) is = grind (arith, cond-true, eqb, eq-eqb)
found_there number first (suc place) (bytes ∷ segments) is =
    ap found_bytes
    (cond-false (eqb first number) (Some (record { number = first; bytes = bytes })) (segment_of number (numbered (suc first) segments))
    (ne_eqb first number (λ same. omega (arith, is, same))))
    ∙ found_there number (suc first) place segments (omega (arith, is))

-- a log that is not full has few main segments
few_segments : (log : Log) → segment_bytes log < 2 ^ 31 → length (cut log.entries) < 2 ^ 31
few_segments log few = grind (arith, cut_filled, length-le-bytes)

-- so that a number from the first side segment on is that of a side segment
pub side_bytes_are : (log : Log) (number : ℕ) → segment_bytes log < 2 ^ 31 → FIRST_SIDE_SEGMENT ≤ number
    → bytes_of log number ≡ get_or log.sides (number - FIRST_SIDE_SEGMENT) []
side_bytes_are log number few above =
    ap found_bytes
    (find-append (λ (segment : NumberedBytes). eqb segment.number number) (numbered 1 (cut log.entries)) (numbered FIRST_SIDE_SEGMENT log.sides)
    ∙ ap (λ (found : Option NumberedBytes). option_or found (segment_of number (numbered FIRST_SIDE_SEGMENT log.sides)))
    (none_behind number 1 (cut log.entries) (omega (arith, few_segments log few, above))))
    ∙ found_there number FIRST_SIDE_SEGMENT (number - FIRST_SIDE_SEGMENT) log.sides (omega (arith, above))

-- ---- what was read

-- no entry is read from no bytes
entries_none : entries_of [] ≡ []
unfolding entries_of entries_within
entries_none = refl

-- from the first number on the entries of the bytes are read
pub read_there : (log : Log) (number : ℕ) → segment_bytes log < 2 ^ 31 → FIRST_SIDE_SEGMENT ≤ number → entries_of (bytes_of log number) ≡ side_read log.sides number
read_there log number few above = grind (arith, entries_of, side_bytes_are, cond-false, ltb, le-ltb)

-- what was right, or is read now, is right then
read_right : (sides : List (List ℕ)) (read : NumberMap (List Entry)) (numbers : List ℕ) (asked : ℕ)
    → (is_among asked numbers ≡ true) ⊎ (read_or [] read asked ≡ side_read sides asked) → read_or [] (fold (with_side_read sides) read numbers) asked ≡ side_read sides asked
read_right sides read [] asked (inl among) = absurd (false≢true among)
read_right sides read [] asked (inr right) = right
read_right sides read (number ∷ numbers) asked known = read_right sides (with_side_read sides read number) numbers asked (go (cases_eq asked number) known)
  where
    either : (a b : Bool) → a ≡ false → (a || b) ≡ true → b ≡ true
    either true b none some = absurd (false≢true (sym none))
    either false b none some = some

    go : (asked ≡ number) ⊎ (asked ≡ number → ⊥) → (is_among asked (number ∷ numbers) ≡ true) ⊎ (read_or [] read asked ≡ side_read sides asked)
        → (is_among asked numbers ≡ true) ⊎ (read_or [] (with_side_read sides read number) asked ≡ side_read sides asked)
    go (inl same) before =
        inr (ap (λ (o : Option (List Entry)). unwrap_or o []) (get_same read number (side_read sides number) asked same) ∙ ap (side_read sides) (sym same))
    go (inr other) (inl among) = inl (either (eqb number asked) (is_among asked numbers) (ne_eqb number asked (λ same. other (sym same))) among)
    go (inr other) (inr right) =
        inr (ap (λ (o : Option (List Entry)). unwrap_or o []) (get_other read number (side_read sides number) asked other) ∙ right)

-- so each of them was read
pub all_read : (read : NumberMap (List Entry)) (sides : List (List ℕ)) (numbers : List ℕ) → read ≡ fold (with_side_read sides) [] numbers → AreRead read sides numbers
all_read read sides numbers is asked among =
    ap (λ (it : NumberMap (List Entry)). read_or [] it asked) is ∙ read_right sides [] numbers asked (inl among)

-- ---- what counts

-- side segments that were read give the same entries
same_sides : (read : NumberMap (List Entry)) (sides : List (List ℕ)) (numbers : List ℕ) → AreRead read sides numbers
    → flat_map (λ segment. read_or [] read segment) numbers ≡ flat_map (side_read sides) numbers
same_sides read sides [] are = refl
same_sides read sides (number ∷ numbers) are = λ i. are number (first number) i ++ same_sides read sides numbers (λ asked among. are asked (later asked among)) i
  where
    first : (n : ℕ) → is_among n (n ∷ numbers) ≡ true
    first n = ap (λ (b : Bool). b || is_among n numbers) (eq-eqb n n refl)

    either : (a b : Bool) → b ≡ true → (a || b) ≡ true
    either true b some = refl
    either false b some = some

    later : (asked : ℕ) → is_among asked numbers ≡ true → is_among asked (number ∷ numbers) ≡ true
    later asked among = either (eqb number asked) (is_among asked numbers) among

-- what counts of entries whose side segments were read
pub material_read : (range : Range) (read : NumberMap (List Entry)) (sides : List (List ℕ)) (entries : List Entry) → AreRead read sides (named range entries)
    → material_of range (λ segment. read_or [] read segment) entries ≡ material_of range (side_read sides) entries
material_read range read sides entries are = ap (λ (side : List Entry). counting range entries ++ counting range side) (same_sides read sides (named range entries) are)

-- side segments that spell items are read as these
entries_at : (sides : List (List ℕ)) (place : ℕ) → AreSpelled sides → entries_of (get_or sides place []) ≡ as_entries (get_or (items_of_sides sides) place [])
entries_at [] place spelled = entries_none
entries_at (bytes ∷ sides) zero spelled = entries_in bytes (All-head IsSpelled bytes sides spelled)
entries_at (bytes ∷ sides) (suc place) spelled = entries_at sides place (All-tail IsSpelled bytes sides spelled)

spelled_sides : (sides : List (List ℕ)) → AreSpelled sides → (number : ℕ) → side_read sides number ≡ side_entries (items_of_sides sides) number
spelled_sides sides spelled number = ap (λ (side : List Entry). cond (ltb number FIRST_SIDE_SEGMENT) [] side) (entries_at sides (number - FIRST_SIDE_SEGMENT) spelled)

-- so that what counts is that of the log
pub own_counts : (range : Range) (read : NumberMap (List Entry)) (log : Log) (from : ℕ) (entries : List Entry) → AreSpelled log.sides → entries ≡ drop from log.entries
    → AreRead read log.sides (named range entries) → material_of range (λ segment. read_or [] read segment) entries ≡ own_counted log range from
own_counts range read log from entries spelled entries_are are =
    material_read range read log.sides entries are
    ∙ (λ i. material_of range (λ number. spelled_sides log.sides spelled number i) (entries_are i))
