-- What a log reports, by the parts that represent it.
use Rattle.std.proofs.Common.{◌≡◌, ℕ, zero, suc, ◌+◌, ◌-◌, ◌<◌, ◌≤◌, Bool, false, not, leb, List, [], ◌∷◌, ◌++◌, length, get_or, set, take, drop, map, replicate, Option, Some, None, Result, refl, sym, ap, subst, ◌∙◌, ⊎_elim, arith}
use Rattle.std.specs.Prelude.{slice_get, OnOk, is_ok}
use Rattle.std.specs.Bool.{OnTrue}
use Rattle.std.specs.List.{find, list_all, prefix_len, range_with_len}
use Rattle.std.specs.Option.{option_map, option_map_or, option_or}
use Rattle.rk_log.specs.Known.{nothing}
use Rattle.std.proofs.lemmas.Bool.{cases_lt}
use Rattle.std.proofs.lemmas.List.{length-map, get_or-map, map-set}
use Rattle.std.proofs.lemmas.List.Folds.{find-append}
use Rattle.std.proofs.lemmas.Option.{slice_get-map, slice_get_within, get_or_from_slice_get}
use Rattle.rk_entry.specs.declared.lists.TheConstants.{FIRST_SIDE_SEGMENT}
use Rattle.rk_segment.specs.Segment.{NumberedBytes}
use Rattle.rk_log.specs.declared.copied.Copied.{Copied}
use Rattle.rk_log.specs.declared.copied.TheConstants.{FIRST_SEGMENT}
use Rattle.rk_log.specs.declared.cursor.Cursor.{Cursor}
use Rattle.rk_log.specs.Cut.{in_last}
use Rattle.rk_log.specs.Known.{Known, known_length, is_whole}
use Rattle.rk_log.specs.Log.{Log, numbered, segments, bytes_of, IsBackup, is_held, committed, missing, pending, is_side_stored}
use Rattle.rk_log.specs.Parts.{Parts, bytes_in, lengths_in, copied_of, bytes_among, known_at, known_by, log_of, is_whole_at, AreWithin, lacking_at, IsCursor, IsConsistent}
use Rattle.rk_log.proofs.Prefixes.{pass_then}
use Rattle.rk_log.proofs.Cuts.{length-ends}
use Rattle.rk_log.proofs.Lookups.{copied_before, copied_at, shown, find_numbered, bytes_are, lacking_is, main_length, side_length, known_of_backup, length-known_by, all_reach, committed_is}
use Rattle.rk_log.proofs.Consistency.{places_within, count_within}

-- what follows if a call succeeds
pub on_true : {A E : Type 0} (b : Bool) (r : Result A E) (P Q : Type 0) → b ≡ is_ok r → OnOk r P → (P → Q) → OnTrue b Q
on_true b r P Q e p f = grind arith

-- bytes in the last segment
pub put_last_bytes : (main : List Copied) (y d : Copied) (more : List ℕ) → 0 < length main → y.segment.bytes ≡ (get_or main (length main - 1) d).segment.bytes ++ more
    → bytes_in (set main (length main - 1) y) ≡ in_last (bytes_in main) more
put_last_bytes main y d more some is = grind (arith, map-set, get_or-map, length-map)

-- nothing is known of no segments
pub nothing_by : (backups : ℕ) → known_by backups [] [] ≡ replicate backups nothing
nothing_by backups = every backups 0
  where
    every : (n from : ℕ) → map (known_at [] []) (range_with_len from n) ≡ replicate n nothing
    every zero from = refl
    every (suc n) from = ap (λ (more : List Known). nothing ∷ more) (every n (from + 1))

-- a backup has a place
pub backup_at : (parts : Parts) (log : Log) (backup : ℕ) → log_of parts ≡ log → IsBackup log backup → backup - 1 < length parts.cursors
backup_at parts log backup is numbered = grind (arith, length-known_by)

-- the bytes of a segment
pub bytes_of_is : (parts : Parts) (number : ℕ) → IsConsistent parts
    → bytes_of (log_of parts) number ≡ bytes_among number parts.main parts.sides
bytes_of_is parts number consistent = grind (arith, bytes_are)

-- how many entries are committed
pub committed_of_is : (parts : Parts) → IsConsistent parts
    → committed (log_of parts) ≡ parts.committed
committed_of_is parts consistent =
    ap (prefix_len (is_held (log_of parts).known)) (sym consistent.places_are)
    ∙ committed_is (length parts.cursors) (lengths_in parts.main) (lengths_in parts.sides) parts.ends within (omega (arith, counts, consistent.few_main))
    (λ k h. omega (arith, (consistent.main_known k h).each, consistent.last_backup))
    ∙ sym consistent.count_is
  where
    counts : length (lengths_in parts.main) ≡ length parts.main
    counts = length-map parts.main (λ (c : Copied). c.known)

    within : AreWithin (length (lengths_in parts.main)) parts.ends
    within = subst (λ (n : ℕ). AreWithin n parts.ends) (sym counts) (places_within parts consistent)

-- each entry has an end
pub entries_count : (parts : Parts) (log : Log) → IsConsistent parts → log_of parts ≡ log → length parts.ends ≡ length log.entries
entries_count parts log consistent is =
    ap length consistent.places_are ∙ length-ends [] parts.entries ∙ ap (λ (l : Log). length l.entries) is

-- no more than there are
pub committed_within : (parts : Parts) → IsConsistent parts → parts.committed ≤ length parts.entries
committed_within parts consistent =
    omega (arith, count_within parts consistent, ap length consistent.places_are, length-ends [] parts.entries)

-- whether a segment lacks bytes
abbrev lacks : Known → NumberedBytes → Bool
lacks known segment = not (is_whole known segment)

-- whether all of these hold a segment
abbrev stored_by : List Known → NumberedBytes → Bool
stored_by known segment = list_all (λ (backup : Known). is_whole backup segment) known

-- what is missing first, among main and side segments
pending_among : (known : Known) (backup : ℕ) (main sides : List Copied)
    → ((k q : ℕ) → FIRST_SEGMENT + k ≡ q → k < length main → known_length known q ≡ get_or (get_or (lengths_in main) k []) backup 0)
    → ((k q : ℕ) → FIRST_SIDE_SEGMENT + k ≡ q → k < length sides → known_length known q ≡ get_or (get_or (lengths_in sides) k []) backup 0)
    → option_map (missing known) (find (lacks known) (numbered FIRST_SEGMENT (bytes_in main) ++ numbered FIRST_SIDE_SEGMENT (bytes_in sides)))
    ≡ option_or (lacking_at backup FIRST_SEGMENT main (prefix_len (is_whole_at backup) main)) (lacking_at backup FIRST_SIDE_SEGMENT sides (prefix_len (is_whole_at backup) sides))
pending_among known backup main sides of_main of_sides = grind (arith, find-append, lacking_is)

-- what the parts record of one backup
abbrev own_known : Parts → ℕ → Known
own_known parts backup = known_at (lengths_in parts.main) (lengths_in parts.sides) (backup - 1)

-- what a backup is to be sent
pub pending_is : (parts : Parts) (log : Log) (backup : ℕ) (cursor : Cursor)
    → IsConsistent parts → log_of parts ≡ log → IsBackup log backup → IsCursor (backup - 1) parts.main parts.sides cursor
    → pending log backup
    ≡ option_or (lacking_at (backup - 1) FIRST_SEGMENT parts.main (cursor.main + prefix_len (is_whole_at (backup - 1)) (drop cursor.main parts.main)))
    (lacking_at (backup - 1) FIRST_SIDE_SEGMENT parts.sides (cursor.sides + prefix_len (is_whole_at (backup - 1)) (drop cursor.sides parts.sides)))
pending_is parts log backup cursor consistent is numbered_from at =
    ap (λ (l : Log). pending l backup) (sym is)
    ∙ ap (λ (known : Known). option_map (missing known) (find (lacks known) (segments (log_of parts))))
    (known_of_backup (length parts.cursors) (lengths_in parts.main) (lengths_in parts.sides) (backup - 1) nothing (backup_at parts log backup is numbered_from))
    ∙ ap (λ (s : List (List ℕ)). option_map (missing (own_known parts backup)) (find (lacks (own_known parts backup)) (numbered FIRST_SEGMENT s ++ numbered FIRST_SIDE_SEGMENT (bytes_in parts.sides)))) (sym consistent.cut_is)
    ∙ pending_among (own_known parts backup) (backup - 1) parts.main parts.sides
    (λ k q e h. main_length (lengths_in parts.main) (lengths_in parts.sides) (backup - 1) k q e (omega (arith, length-map parts.main (λ (c : Copied). c.known))) few)
    (λ k q e h. side_length (lengths_in parts.main) (lengths_in parts.sides) (backup - 1) k q e (omega (arith, length-map parts.sides (λ (c : Copied). c.known))) few)
    ∙ (λ i. option_or
    (lacking_at (backup - 1) FIRST_SEGMENT parts.main (pass_then (is_whole_at (backup - 1)) parts.main cursor.main (omega (arith, at.main_last)) at.main_whole i))
    (lacking_at (backup - 1) FIRST_SIDE_SEGMENT parts.sides (pass_then (is_whole_at (backup - 1)) parts.sides cursor.sides at.sides_within at.sides_whole i)))
  where
    few : length (lengths_in parts.main) < FIRST_SIDE_SEGMENT
    few = omega (arith, length-map parts.main (λ (c : Copied). c.known), consistent.few_main)

-- whether all backups hold a side segment
pub side_stored_is : (parts : Parts) (number : ℕ) (o : Option Copied) → IsConsistent parts
    → copied_of FIRST_SIDE_SEGMENT number parts.sides ≡ o
    → is_side_stored (log_of parts) number ≡ option_map_or (λ (c : Copied). list_all (leb (length c.segment.bytes)) (take (length parts.cursors) c.known)) o false
side_stored_is parts number o consistent found =
    ap (λ (s : Option NumberedBytes). option_map_or (stored_by (log_of parts).known) s false) (find_numbered number FIRST_SIDE_SEGMENT parts.sides ∙ ap (option_map (shown number)) found)
    ∙ by_case o found
  where
    few : length (lengths_in parts.main) < FIRST_SIDE_SEGMENT
    few = omega (arith, length-map parts.main (λ (c : Copied). c.known), consistent.few_main)

    at_place : (c : Copied) (k : ℕ) → FIRST_SIDE_SEGMENT + k ≡ number → slice_get parts.sides k ≡ Some c → (stored_by (log_of parts).known) (shown number c) ≡ list_all (leb (length c.segment.bytes)) (take (length parts.cursors) c.known)
    at_place c k e there =
        let lengths : get_or (lengths_in parts.sides) k [] ≡ c.known = get_or_from_slice_get (lengths_in parts.sides) k c.known [] (slice_get-map (λ (x : Copied). x.known) parts.sides k ∙ ap (option_map (λ (x : Copied). x.known)) there) in
        let within : k < length (lengths_in parts.sides) = omega (arith, slice_get_within parts.sides k c there, length-map parts.sides (λ (x : Copied). x.known)) in
        all_reach (length parts.cursors) (lengths_in parts.main) (lengths_in parts.sides) number (length c.segment.bytes) c.known
        (omega (arith, ap length lengths, (consistent.sides_known k within).each, consistent.last_backup))
        (λ backup. side_length (lengths_in parts.main) (lengths_in parts.sides) backup k number e within few ∙ ap (λ (l : List ℕ). get_or l backup 0) lengths)

    by_case : (o : Option Copied) → copied_of FIRST_SIDE_SEGMENT number parts.sides ≡ o
        → option_map_or (stored_by (log_of parts).known) (option_map (shown number) o) false
        ≡ option_map_or (λ (c : Copied). list_all (leb (length c.segment.bytes)) (take (length parts.cursors) c.known)) o false
    by_case None e = refl
    by_case (Some c) e =
        ⊎_elim
        (λ (h : number < FIRST_SIDE_SEGMENT). let none : None ≡ Some c = sym (copied_before FIRST_SIDE_SEGMENT number parts.sides h) ∙ e in absurd (cc))
        (λ (h : FIRST_SIDE_SEGMENT ≤ number).
        at_place c (number - FIRST_SIDE_SEGMENT) (omega arith) (sym (copied_at FIRST_SIDE_SEGMENT number parts.sides (number - FIRST_SIDE_SEGMENT) (omega arith)) ∙ e))
        (cases_lt number FIRST_SIDE_SEGMENT)
