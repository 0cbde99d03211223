-- The laws of the cut, whatever entries are spelled by.
use Rattle.std.proofs.Common.{◌≡◌, ℕ, zero, suc, ◌+◌, ◌-◌, ◌<◌, ◌≤◌, true, ltb, List, [], ◌∷◌, ◌++◌, length, get_or, refl, ap, ◌∙◌, ⊎_elim, arith, length-set, length-append, get_or-set_same, get_or-set_other}
use Rattle.std.proofs.lemmas.Bool.{and_parts, ltb-true, cond_both, cases_eq, cases_lt}
use Rattle.std.proofs.lemmas.List.{get_or_append_left, get_or_push}
use Rattle.std.proofs.lemmas.List.Sums.{sum_by-cons}
use Rattle.std.specs.List.{sum_by}
use Rattle.rk_entry.specs.declared.entry.Entry.{Entry}
use Rattle.rk_entry.specs.Spelling.{spelled}
use Rattle.rk_entry.proofs.Sizes.{spelled_count}
use Rattle.rk_log.specs.declared.ends.EntryEnd.{EntryEnd}
use Rattle.rk_log.specs.Cut.{last_of, has_room, in_last, with_bytes, cut_after, end_of, ends_after}

-- an entry takes some bytes
pub spelled_some : (entry : Entry) → 0 < length (spelled entry)
spelled_some entry = omega (arith, spelled_count entry)

-- entries behind others go on from what those made
pub cut-append : (segments : List (List ℕ)) (entries more : List Entry) → cut_after segments (entries ++ more) ≡ cut_after (cut_after segments entries) more
cut-append segments [] more = refl
cut-append segments (x ∷ entries) more = cut-append (with_bytes segments (spelled x)) entries more

-- one more entry at the end
pub cut_push : (segments : List (List ℕ)) (entries : List Entry) (entry : Entry) → cut_after segments (entries ++ entry ∷ []) ≡ with_bytes (cut_after segments entries) (spelled entry)
cut_push segments [] entry = refl
cut_push segments (x ∷ entries) entry = cut_push (with_bytes segments (spelled x)) entries entry

-- it ends where the last segment then does
pub ends_push : (segments : List (List ℕ)) (entries : List Entry) (entry : Entry) → ends_after segments (entries ++ entry ∷ []) ≡ ends_after segments entries ++ end_of (with_bytes (cut_after segments entries) (spelled entry)) ∷ []
ends_push segments [] entry = refl
ends_push segments (x ∷ entries) entry = grind (arith, (ends_push (with_bytes segments (spelled x)) entries entry))

-- each entry has an end
pub length-ends : (segments : List (List ℕ)) (entries : List Entry) → length (ends_after segments entries) ≡ length entries
length-ends segments [] = refl
length-ends segments (x ∷ entries) = ap suc (length-ends (with_bytes segments (spelled x)) entries)

-- if there is room there is a segment
pub room_some : (segments : List (List ℕ)) (bytes : List ℕ) → has_room segments bytes ≡ true → 0 < length segments
room_some segments bytes e = ltb-true 0 (length segments) (and_parts (ltb 0 (length segments)) _ e).0

-- bytes leave no fewer segments, and some
pub some_segments : (segments : List (List ℕ)) (bytes : List ℕ) → (length segments ≤ length (with_bytes segments bytes)) × (1 ≤ length (with_bytes segments bytes))
some_segments segments bytes = grind (arith, cond_both, room_some, length-set, length-append)

-- entries leave no fewer segments
pub segments_grow : (segments : List (List ℕ)) (entries : List Entry) → length segments ≤ length (cut_after segments entries)
segments_grow segments [] = omega arith
segments_grow segments (x ∷ entries) = omega (arith, (some_segments segments (spelled x)).0, segments_grow (with_bytes segments (spelled x)) entries)

-- each entry ends in one of the segments
pub ends_within : (segments : List (List ℕ)) (entries : List Entry) (k : ℕ) (d : EntryEnd) → k < length (ends_after segments entries)
    → (1 ≤ (get_or (ends_after segments entries) k d).segment) × ((get_or (ends_after segments entries) k d).segment ≤ length (cut_after segments entries))
ends_within segments [] k d h = absurd (omega arith)
ends_within segments (x ∷ entries) zero d h = ((some_segments segments (spelled x)).1, segments_grow (with_bytes segments (spelled x)) entries)
ends_within segments (x ∷ entries) (suc k) d h = ends_within (with_bytes segments (spelled x)) entries k d (omega arith)

-- each of the segments has some bytes
abbrev pub AreFilled : List (List ℕ) → Type 0
AreFilled segments = (k : ℕ) → k < length segments → 0 < length (get_or segments k [])

-- bytes, of which there are some, leave segments filled
pub filled_with : (segments : List (List ℕ)) (bytes : List ℕ) → AreFilled segments → 0 < length bytes → AreFilled (with_bytes segments bytes)
filled_with segments bytes filled some =
    cond_both (has_room segments bytes) (in_last segments bytes) (segments ++ bytes ∷ []) AreFilled
    (λ e k l.
    let within : k < length segments = omega (arith, length-set segments (length segments - 1) (last_of segments ++ bytes)) in
    ⊎_elim
    (λ (same : k ≡ length segments - 1).
    let at : get_or (in_last segments bytes) k [] ≡ last_of segments ++ bytes =
    ap (λ (n : ℕ). get_or (in_last segments bytes) n []) same ∙ get_or-set_same segments (length segments - 1) (last_of segments ++ bytes) [] (omega arith) in
    omega (arith, ap length at, length-append (last_of segments) bytes))
    (λ (other : k ≡ length segments - 1 → ⊥).
    omega (arith, ap length (get_or-set_other segments (length segments - 1) k (last_of segments ++ bytes) [] other), filled k within))
    (cases_eq k (length segments - 1)))
    (λ e k l.
    ⊎_elim
    (λ (before : k < length segments). omega (arith, ap length (get_or_append_left segments (bytes ∷ []) [] k before), filled k before))
    (λ (last : length segments ≤ k).
    omega (arith, ap length (get_or_push segments bytes [] k (omega (arith, length-append segments (bytes ∷ []))))))
    (cases_lt k (length segments)))

-- each segment that is cut has some bytes
pub cut_filled : (segments : List (List ℕ)) (entries : List Entry) → AreFilled segments → AreFilled (cut_after segments entries)
cut_filled segments [] filled = filled
cut_filled segments (x ∷ entries) filled = cut_filled (with_bytes segments (spelled x)) entries (filled_with segments (spelled x) filled (spelled_some x))

-- filled segments are no more than their bytes
pub length-le-bytes : (segments : List (List ℕ)) → AreFilled segments → length segments ≤ sum_by (λ bytes. length bytes) segments
length-le-bytes [] filled = omega arith
length-le-bytes (x ∷ segments) filled =
    omega (arith, sum_by-cons (λ (bytes : List ℕ). length bytes) x segments, filled zero (omega arith), length-le-bytes segments (λ k l. filled (suc k) (omega arith)))
