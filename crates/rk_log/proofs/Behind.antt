-- The entries from a place on are those that segments spell from there on.
use Rattle.std.proofs.Common.{◌≡◌, ℕ, zero, suc, ◌+◌, ◌-◌, ◌<◌, ◌≤◌, Bool, true, false, cond, leb, List, [], ◌∷◌, ◌++◌, length, get_or, set, take, drop, refl, sym, ap, ◌∙◌, arith, append_assoc, length-append}
use Rattle.std.specs.List.{AllByRecursion}
use Rattle.std.proofs.Math.Seq.{drop-append_seam, set-append_seam}
use Rattle.std.proofs.lemmas.Bool.{lt-ltb}
use Rattle.std.proofs.lemmas.List.{append-nil, get_or_default, get_or_push, length-map, take-append-drop}
use Rattle.rk_types.specs.declared.held.TheConstants.{SEGMENT_BYTES}
use Rattle.rk_entry.specs.declared.entry.Entry.{Entry}
use Rattle.rk_entry.specs.Spelling.{spelled}
use Rattle.rk_entry.specs.Entries.{spelled_all, entries_of}
use Rattle.rk_entry.specs.Lawful.{IsLawfulEntry}
use Rattle.rk_log.specs.declared.ends.EntryEnd.{EntryEnd}
use Rattle.rk_log.specs.Cut.{last_of, has_room, in_last, with_bytes, cut_after, cut, end_of, ends_after, ends, start_of}
use Rattle.rk_log.specs.declared.copied.Copied.{Copied}
use Rattle.rk_log.specs.Log.{Log}
use Rattle.rk_log.specs.Parts.{Parts, bytes_in, log_of, IsConsistent}
use Rattle.rk_log.specs.Stored.{spelled_behind, spelled_in}
use Rattle.rk_log.proofs.Cuts.{cut-append, ends_within, length-ends, some_segments, segments_grow}
use Rattle.rk_log.proofs.CutLaws.{cut_again, lawful_push, read_again, spelled_none, spelled_one, spelled_push}

-- the last segment with more entries behind it, and those that these begin
abbrev behind : List ℕ → List Entry → List (List ℕ)
behind last [] = last ∷ []
behind last (x ∷ entries) =
    cond (leb (length last + length (spelled x)) SEGMENT_BYTES) (behind (last ++ spelled x) entries) (last ∷ behind (spelled x) entries)

-- the last of some segments
last_is : (front : List (List ℕ)) (last : List ℕ) → last_of (front ++ last ∷ []) ≡ last
last_is front last = get_or_push front last [] (length (front ++ last ∷ []) - 1) (omega (arith, length-append front (last ∷ [])))

-- it has room by its own length
room_is : (front : List (List ℕ)) (last bytes : List ℕ) → has_room (front ++ last ∷ []) bytes ≡ leb (length last + length bytes) SEGMENT_BYTES
room_is front last bytes = grind (arith, leb, lt-ltb, length-append, last_is)

-- bytes in it
in_last_is : (front : List (List ℕ)) (last bytes : List ℕ) → in_last (front ++ last ∷ []) bytes ≡ front ++ (last ++ bytes) ∷ []
in_last_is front last bytes =
    let at : length (front ++ last ∷ []) - 1 ≡ length front = omega (arith, length-append front (last ∷ [])) in
    (λ i. set (front ++ last ∷ []) (at i) (last_is front last i ++ bytes)) ∙ set-append_seam front last [] (last ++ bytes)

-- what is before it stays
with_front : (front : List (List ℕ)) (last : List ℕ) (entries : List Entry) → cut_after (front ++ last ∷ []) entries ≡ front ++ behind last entries
with_front front last [] = refl
with_front front last (x ∷ entries) =
    grind (arith, room_is, in_last_is, append_assoc, (with_front front (last ++ spelled x) entries), (with_front (front ++ last ∷ []) (spelled x) entries))

-- segments end with their last one
ends_with : (x : List ℕ) (more : List (List ℕ)) → x ∷ more ≡ take (length more) (x ∷ more) ++ get_or (x ∷ more) (length more) [] ∷ []
ends_with x [] = refl
ends_with x (y ∷ more) = ap (λ (l : List (List ℕ)). x ∷ l) (ends_with y more)

with_last : (segments : List (List ℕ)) → 0 < length segments → segments ≡ take (length segments - 1) segments ++ last_of segments ∷ []
with_last [] some = absurd (omega arith)
with_last (x ∷ more) some =
    let count : length more ≡ length (x ∷ more) - 1 = omega arith in
    ends_with x more ∙ (λ i. take (count i) (x ∷ more) ++ get_or (x ∷ more) (count i) [] ∷ [])

-- from the front of the first segment on all is read
from_front : (segments : List (List ℕ)) → spelled_in segments ≡ spelled_behind 0 segments
from_front [] = refl
from_front (x ∷ segments) = refl

-- what is read behind bytes that the last segment begins with: the entries that are there, and all that follow
read_behind_is : (front : List ℕ) (own more : List Entry) → AllByRecursion IsLawfulEntry own → AllByRecursion IsLawfulEntry more
    → spelled_behind (length front) (behind (front ++ spelled_all own) more) ≡ own ++ more
read_behind_is front own [] lawful rest = grind (arith, append-nil, drop-append_seam, read_again)
read_behind_is front own (x ∷ more) lawful rest =
    by_room (leb (length (front ++ spelled_all own) + length (spelled x)) SEGMENT_BYTES)
    (read_behind_is front (own ++ x ∷ []) more (lawful_push own x lawful rest.0) rest.1) (read_behind_is [] (x ∷ []) more (rest.0, tt) rest.1)
  where
    joined : (front ++ spelled_all own) ++ spelled x ≡ front ++ spelled_all (own ++ x ∷ [])
    joined = append_assoc front (spelled_all own) (spelled x) ∙ ap (λ (l : List ℕ). front ++ l) (sym (spelled_push own x))

    by_room : (room : Bool)
        → spelled_behind (length front) (behind (front ++ spelled_all (own ++ x ∷ [])) more) ≡ (own ++ x ∷ []) ++ more
        → spelled_behind 0 (behind (spelled_all (x ∷ [])) more) ≡ x ∷ more
        → spelled_behind (length front) (cond room (behind ((front ++ spelled_all own) ++ spelled x) more) ((front ++ spelled_all own) ∷ behind (spelled x) more)) ≡ own ++ x ∷ more
    by_room true fitting alone =
        ap (λ (l : List ℕ). spelled_behind (length front) (behind l more)) joined ∙ fitting ∙ append_assoc own (x ∷ []) more
    by_room false fitting alone =
        let others : spelled_in (behind (spelled x) more) ≡ x ∷ more =
        from_front (behind (spelled x) more) ∙ ap (λ (l : List ℕ). spelled_behind 0 (behind l more)) (sym (spelled_one x)) ∙ alone in
        (λ i. entries_of (drop-append_seam front (spelled_all own) i) ++ others i) ∙ ap (λ (l : List Entry). l ++ x ∷ more) (read_again own lawful)

-- where an entry ends
ends_at : (segments : List (List ℕ)) (entries : List Entry) (place : ℕ) (d : EntryEnd) → place < length entries
    → get_or (ends_after segments entries) place d ≡ end_of (cut_after segments (take (suc place) entries))
ends_at segments [] place d h = absurd (omega arith)
ends_at segments (x ∷ entries) zero d h = refl
ends_at segments (x ∷ entries) (suc place) d h = ends_at (with_bytes segments (spelled x)) entries place d (omega arith)

-- entries leave some segments
some_cut : (entries : List Entry) (place : ℕ) → place < length entries → 0 < length (cut (take (suc place) entries))
some_cut entries place h = grind (arith, some_segments, segments_grow)

lawful_behind : (place : ℕ) (entries : List Entry) → AllByRecursion IsLawfulEntry entries → AllByRecursion IsLawfulEntry (drop place entries)
lawful_behind zero entries lawful = lawful
lawful_behind (suc place) [] lawful = tt
lawful_behind (suc place) (x ∷ entries) lawful = lawful_behind place entries lawful.1

-- the entries behind some segments
read_after : (segments : List (List ℕ)) (entries : List Entry) → 0 < length segments → AllByRecursion IsLawfulEntry entries
    → spelled_behind (end_of segments).offset (drop ((end_of segments).segment - 1) (cut_after segments entries)) ≡ entries
read_after segments entries some lawful =
    let front = take (length segments - 1) segments in
    let is = with_last segments some in
    let count : length front ≡ length segments - 1 = omega (arith, ap length is, length-append front (last_of segments ∷ [])) in
    ap (spelled_behind (length (last_of segments)))
    ((λ i. drop (sym count i) (cut_after (is i) entries)) ∙ ap (drop (length front)) (with_front front (last_of segments) entries) ∙ drop-append_seam front (behind (last_of segments) entries))
    ∙ ap (λ (l : List ℕ). spelled_behind (length (last_of segments)) (behind l entries)) (sym (append-nil (last_of segments)) ∙ ap (λ (l : List ℕ). last_of segments ++ l) (sym spelled_none))
    ∙ read_behind_is (last_of segments) [] entries tt lawful

-- the entries of a log from a place on
pub entries_behind : (entries : List Entry) (place : ℕ) → place ≤ length entries → AllByRecursion IsLawfulEntry entries
    → spelled_behind (start_of entries place).offset (drop ((start_of entries place).segment - 1) (cut entries)) ≡ drop place entries
entries_behind entries zero le lawful = sym (from_front (cut entries)) ∙ cut_again entries lawful
entries_behind entries (suc place) le lawful =
    let before = cut (take (suc place) entries) in
    let whole : cut_after before (drop (suc place) entries) ≡ cut entries =
    sym (cut-append [] (take (suc place) entries) (drop (suc place) entries)) ∙ ap cut (take-append-drop (suc place) entries) in
    (λ i. spelled_behind (ends_at [] entries place (record { segment = 1; offset = 0 }) (omega arith) i).offset
    (drop ((ends_at [] entries place (record { segment = 1; offset = 0 }) (omega arith) i).segment - 1) (sym whole i)))
    ∙ read_after before (drop (suc place) entries) (some_cut entries place (omega arith)) (lawful_behind (suc place) entries lawful)

-- ---- what the parts of a log show

-- where the entry before a place ends, if there is one
pub start_is : (parts : Parts) (log : Log) (place : ℕ) (end : EntryEnd) → IsConsistent parts → log_of parts ≡ log → place ≤ length log.entries → 0 < place
    → end ≡ get_or parts.ends (place - 1) end → end ≡ start_of log.entries place
start_is parts log place end consistent is le some there = grind (arith, get_or_default, length-ends)

pub start_in : (parts : Parts) (log : Log) (place : ℕ) → IsConsistent parts → log_of parts ≡ log → place ≤ length log.entries
    → (1 ≤ (start_of log.entries place).segment) × ((start_of log.entries place).segment - 1 ≤ length parts.main)
start_in parts log place consistent is le = grind (arith, ends_within, length-ends, length-map)

bytes_behind : (count : ℕ) (segments : List Copied) → bytes_in (drop count segments) ≡ drop count (bytes_in segments)
bytes_behind zero segments = refl
bytes_behind (suc count) [] = refl
bytes_behind (suc count) (x ∷ segments) = bytes_behind count segments

-- what is read from there on
pub entries_read : (parts : Parts) (log : Log) (place : ℕ) (start : EntryEnd) (segments : List Copied)
    → IsConsistent parts → log_of parts ≡ log → place ≤ length log.entries → start ≡ start_of log.entries place → segments ≡ drop (start.segment - 1) parts.main
    → spelled_behind start.offset (bytes_in segments) ≡ drop place log.entries
entries_read parts log place start segments consistent is le from are = grind (arith, bytes_behind, entries_behind)
