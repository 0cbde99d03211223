-- The bytes of a log's segments, and how they grow by one more entry.
use Rattle.rk_inv_base.proofs.Words.{◌≡◌, ℕ, zero, suc, ◌+◌, ◌-◌, ◌<◌, ◌≤◌, ◌^◌, eqb, List, [], ◌∷◌, ◌++◌, length, Option, Some, None, refl}
use Rattle.rk_inv_base.proofs.Words.{sym, ap, subst, ◌∙◌, ⊎_elim, arith, length-set, length-append, get_or-set_same, get_or-set_other, ◌≢◌}
use Rattle.rk_inv_base.proofs.Words.{eq-eqb, ne_eqb, lt-ltb, ltb-true, append-nil, cases_eq, cases_lt, cond-true, cond-false, cond_both}
use Rattle.rk_inv_base.proofs.Words.{get_or_append_left, get_or_past, find-append, option_map_or, option_or, NumberedBytes, spelled, Entry}
use Rattle.rk_inv_base.proofs.Words.{FIRST_SIDE_SEGMENT, cut_push, cut_filled, room_some, has_room, in_last, with_bytes, cut, Log, bytes_of}
use Rattle.rk_inv_base.proofs.Words.{numbered, segment_of, side_segments, with_entry, IsFirstPart, is_main, length-le-bytes, segment_bytes}
use Rattle.std.proofs.Common.{get_or}
use Rattle.rk_log.specs.Cut.{last_of}

-- ---- segments by their numbers

pub numbered_before : (number first : ℕ) (segments : List (List ℕ)) → number < first → segment_of number (numbered first segments) ≡ None
numbered_before number first [] less = refl
numbered_before number first (bytes ∷ more) less =
    cond-false (eqb first number) (Some (record { number = first; bytes = bytes })) (segment_of number (numbered (suc first) more)) (ne_eqb first number (λ e. omega arith))
    ∙ numbered_before number (suc first) more (omega arith)

pub numbered_past : (number first : ℕ) (segments : List (List ℕ)) → first + length segments ≤ number → segment_of number (numbered first segments) ≡ None
numbered_past number first [] past = refl
numbered_past number first (bytes ∷ more) past =
    cond-false (eqb first number) (Some (record { number = first; bytes = bytes })) (segment_of number (numbered (suc first) more)) (ne_eqb first number (λ e. omega arith))
    ∙ numbered_past number (suc first) more (omega arith)

pub numbered_at : (number first k : ℕ) (segments : List (List ℕ)) → first + k ≡ number → k < length segments → segment_of number (numbered first segments) ≡ Some (record { number = number; bytes = get_or segments k [] })
numbered_at number first k [] is within = absurd (omega arith)
numbered_at number first zero (bytes ∷ more) is within = grind (arith, cond-true, eqb, segment_of, numbered, eq-eqb)
numbered_at number first (suc k) (bytes ∷ more) is within =
    cond-false (eqb first number) (Some (record { number = first; bytes = bytes })) (segment_of number (numbered (suc first) more)) (ne_eqb first number (λ e. omega arith))
    ∙ numbered_at number (suc first) k more (omega arith) (omega arith)

-- the bytes of a segment that may be there
abbrev pub bytes_in : Option NumberedBytes → List ℕ
bytes_in found = option_map_or (λ segment. segment.bytes) found []

pub found_in : (log : Log) (number : ℕ) → bytes_of log number ≡ bytes_in (option_or (segment_of number (numbered 1 (cut log.entries))) (segment_of number (side_segments log)))
found_in log number = ap bytes_in (find-append (λ (segment : NumberedBytes). eqb segment.number number) (numbered 1 (cut log.entries)) (side_segments log))

-- of a main segment, by its place
pub bytes_main : (log : Log) (number : ℕ) → 1 ≤ number → number < FIRST_SIDE_SEGMENT → bytes_of log number ≡ get_or (cut log.entries) (number - 1) []
bytes_main log number some less =
    grind (arith, found_in, cut, segment_of, side_segments, numbered_at, numbered_past, numbered_before, get_or_past, cases_lt)

-- a main segment has bytes if a later one has some
pub bytes_before : (log : Log) (earlier later : ℕ) → 1 ≤ earlier → earlier < later → later < FIRST_SIDE_SEGMENT → 0 < length (bytes_of log later) → 0 < length (bytes_of log earlier)
bytes_before log earlier later some before less filled = grind (arith, length, cut, bytes_main, cut_filled, bytes_of, get_or_past, cases_lt)

-- no segment has the number 0
pub bytes_zero : (log : Log) (number : ℕ) → number < 1 → bytes_of log number ≡ []
bytes_zero log number less = grind (arith, found_in, numbered_before, cut)

-- of a side segment, which the main ones do not hide
pub bytes_side : (log : Log) (number : ℕ) → length (cut log.entries) < FIRST_SIDE_SEGMENT → FIRST_SIDE_SEGMENT ≤ number → bytes_of log number ≡ bytes_in (segment_of number (side_segments log))
bytes_side log number few side = grind (arith, found_in, segment_of, side_segments, numbered_past, cut)

-- ---- bytes behind segments

pub first_part_itself : (bytes : List ℕ) → IsFirstPart bytes bytes
first_part_itself bytes = record { more = []; parts = sym (append-nil bytes) }

pub first_part_same : (a b : List ℕ) → b ≡ a → IsFirstPart a b
first_part_same a b same = subst (IsFirstPart a) (sym same) (first_part_itself a)

-- each segment is a first part of what it then is
pub with_bytes_front : (segments : List (List ℕ)) (bytes : List ℕ) (k : ℕ) → IsFirstPart (get_or segments k []) (get_or (with_bytes segments bytes) k [])
with_bytes_front segments bytes k =
    cond_both (has_room segments bytes) (in_last segments bytes) (segments ++ bytes ∷ []) (λ s. IsFirstPart (get_or segments k []) (get_or s k []))
    (λ e.
    let some : 0 < length segments = room_some segments bytes e in
    ⊎_elim
    (λ (last : k ≡ length segments - 1).
    record {
      more = bytes;
      parts = grind (arith, in_last, get_or-set_same);
    })
    (λ (other : k ≡ length segments - 1 → ⊥).
    first_part_same (get_or segments k []) (get_or (in_last segments bytes) k []) (get_or-set_other segments (length segments - 1) k (last_of segments ++ bytes) [] other))
    (cases_eq k (length segments - 1)))
    (λ e.
    ⊎_elim
    (λ (before : k < length segments).
    first_part_same (get_or segments k []) (get_or (segments ++ bytes ∷ []) k []) (get_or_append_left segments (bytes ∷ []) [] k before))
    (λ (past : length segments ≤ k).
    record {
      more = get_or (segments ++ bytes ∷ []) k [];
      parts = ap (λ (l : List ℕ). l ++ get_or (segments ++ bytes ∷ []) k []) (sym (get_or_past segments k [] past));
    })
    (cases_lt k (length segments)))

-- one with another behind it stays as it is
pub with_bytes_full : (segments : List (List ℕ)) (bytes : List ℕ) (k : ℕ) → k + 1 < length segments → get_or (with_bytes segments bytes) k [] ≡ get_or segments k []
with_bytes_full segments bytes k before =
    grind (arith, cond_both, has_room, in_last, get_or, get_or-set_other, length, last_of, get_or_append_left)

-- they are one more at most
pub with_bytes_few : (segments : List (List ℕ)) (bytes : List ℕ) → length (with_bytes segments bytes) ≤ length segments + 1
with_bytes_few segments bytes = grind (arith, cond_both, has_room, in_last, length, length-set, last_of, length-append)

-- ---- logs that grow

-- a log with more at its end: each segment is a first part of what it then is, and one with another behind it that has bytes
-- stays as it is
pub record Grows (old new : Log) : Type 0 where
  pub front : (segment : ℕ) → IsFirstPart (bytes_of old segment) (bytes_of new segment)
  pub full :
      (earlier later : ℕ) → earlier < later → is_main earlier ≡ is_main later → bytes_of old later ≢ []
      → bytes_of new earlier ≡ bytes_of old earlier

-- a log with few bytes has numbers left for its main segments
pub segments_few : (log : Log) → segment_bytes log < 2 ^ 31 → length (cut log.entries) + 1 < FIRST_SIDE_SEGMENT
segments_few log room = omega (arith, room, length-le-bytes (cut log.entries) (cut_filled [] log.entries (λ k h. absurd (omega arith))))

module _ (log : Log) (entry : Entry) (few : length (cut log.entries) + 1 < FIRST_SIDE_SEGMENT) where
  grown_few : length (cut (with_entry log entry).entries) < FIRST_SIDE_SEGMENT
  grown_few = omega (arith, few, ap length (cut_push [] log.entries entry), with_bytes_few (cut log.entries) (spelled entry))

  -- a side segment stays as it is
  grown_side : (number : ℕ) → FIRST_SIDE_SEGMENT ≤ number → bytes_of (with_entry log entry) number ≡ bytes_of log number
  grown_side number side = bytes_side (with_entry log entry) number grown_few side ∙ sym (bytes_side log number (omega (arith, few)) side)

  grown_main : (number : ℕ) → 1 ≤ number → number < FIRST_SIDE_SEGMENT → bytes_of (with_entry log entry) number ≡ get_or (with_bytes (cut log.entries) (spelled entry)) (number - 1) []
  grown_main number some less =
      bytes_main (with_entry log entry) number some less ∙ ap (λ (s : List (List ℕ)). get_or s (number - 1) []) (cut_push [] log.entries entry)

  grown_zero : (number : ℕ) → number < 1 → bytes_of (with_entry log entry) number ≡ bytes_of log number
  grown_zero number less = bytes_zero (with_entry log entry) number less ∙ sym (bytes_zero log number less)

  grown_front : (number : ℕ) → IsFirstPart (bytes_of log number) (bytes_of (with_entry log entry) number)
  grown_front number =
      ⊎_elim
      (λ (less : number < FIRST_SIDE_SEGMENT).
      ⊎_elim
      (λ (none : number < 1). first_part_same (bytes_of log number) (bytes_of (with_entry log entry) number) (grown_zero number none))
      (λ (some : 1 ≤ number).
      subst (λ (b : List ℕ). IsFirstPart b (bytes_of (with_entry log entry) number)) (sym (bytes_main log number some less))
      (subst (IsFirstPart (get_or (cut log.entries) (number - 1) [])) (sym (grown_main number some less)) (with_bytes_front (cut log.entries) (spelled entry) (number - 1))))
      (cases_lt number 1))
      (λ (side : FIRST_SIDE_SEGMENT ≤ number). first_part_same (bytes_of log number) (bytes_of (with_entry log entry) number) (grown_side number side))
      (cases_lt number FIRST_SIDE_SEGMENT)

  -- a main segment that has bytes is one of those that were cut
  within_cut : (later : ℕ) → 1 ≤ later → later < FIRST_SIDE_SEGMENT → bytes_of log later ≢ [] → later - 1 < length (cut log.entries)
  within_cut later some less filled = grind (arith, length, cut, bytes_main, get_or_past, cases_lt)

  grown_full : (earlier later : ℕ) → earlier < later → is_main earlier ≡ is_main later → bytes_of log later ≢ [] → bytes_of (with_entry log entry) earlier ≡ bytes_of log earlier
  grown_full earlier later before sort filled =
      grind (arith, grown_zero, ltb-true, lt-ltb, cut, within_cut, grown_main, with_bytes_full, spelled, bytes_main, cases_lt, grown_side)

  -- one more entry
  pub grows_entry : Grows log (with_entry log entry)
  grows_entry = record { front = grown_front; full = grown_full }
