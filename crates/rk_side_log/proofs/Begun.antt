-- How many segments items begin, and that fewer items begin no more.
use Rattle.rk_side_log.proofs.Words.{◌≡◌, ℕ, suc, ◌+◌, ◌-◌, ◌<◌, ◌≤◌, Bool, cond, leb, List, [], ◌∷◌, ◌++◌, length, refl, sym, ap, ◌∙◌}
use Rattle.rk_side_log.proofs.Words.{arith, length-set, length-append, append_assoc, lt-ltb, map-append, spelled_of, Held, SEGMENT_BYTES}
use Rattle.rk_side_log.proofs.Words.{spelled, held_spelled, with_bytes, cut, as_entries, begun, room_in, segments_of}
use Rattle.std.proofs.Common.{get_or-set_same}
use Rattle.std.proofs.lemmas.Bool.{lt-leb}
use Rattle.std.proofs.lemmas.Bool.Decides.{nat_tests}
use Rattle.std.proofs.lemmas.List.{get_or_push}
use Rattle.rk_entry.specs.declared.entry.Entry.TheVariants as entries
use Rattle.rk_log.specs.Cut.{last_of, has_room, in_last, cut_after}
use Rattle.rk_log.proofs.Cuts.{spelled_some, cut-append, room_some}
use Rattle.rk_side_log.proofs.Filled.{segments_cut}

-- ---- the room in the last segment

pub room_is : (segments : List (List ℕ)) → 0 < length segments → room_in segments ≡ SEGMENT_BYTES - length (last_of segments)
room_is [] some = absurd (omega arith)
room_is (x ∷ more) some = refl

-- bytes, of which there are some, fit if there is that much room
fits_by : (segments : List (List ℕ)) (bytes : List ℕ) → 0 < length bytes → has_room segments bytes ≡ leb (length bytes) (room_in segments)
fits_by segments bytes some = grind (arith, lt-leb, leb, lt-ltb, nat_tests)

-- ---- how many segments items begin

-- what an item begins, as its entry fits
begun_by : (segments : List (List ℕ)) (bytes : List ℕ) (size : ℕ) (items : List Held) (b c : Bool) → size ≡ length bytes → has_room segments bytes ≡ b → b ≡ c
    → length (cond b (in_last segments bytes) (segments ++ bytes ∷ [])) + begun (room_in (cond b (in_last segments bytes) (segments ++ bytes ∷ []))) items
    ≡ length segments + cond c (begun (room_in segments - size) items) (suc (begun (SEGMENT_BYTES - size) items))
begun_by segments bytes size items b c count e same =
    grind (arith, length-set, begun, room_some, room_in, length-append, get_or-set_same, room_is, get_or_push)

-- the segments after items are those before them and those that they begin
pub length-cut_after : (segments : List (List ℕ)) (items : List Held) → length (cut_after segments (as_entries items)) ≡ length segments + begun (room_in segments) items
length-cut_after segments [] = omega arith
length-cut_after segments (x ∷ items) =
    length-cut_after (with_bytes segments (spelled (entries.Held x))) items
    ∙ begun_by segments (spelled (entries.Held x)) (spelled_of x) items (has_room segments (spelled (entries.Held x))) (leb (spelled_of x) (room_in segments))
    (held_spelled x) refl
    (fits_by segments (spelled (entries.Held x)) (spelled_some (entries.Held x)) ∙ ap (λ (n : ℕ). leb n (room_in segments)) (sym (held_spelled x)))

-- ---- fewer items begin no more

-- over what an item leaves: behind less room and behind more, and in a new segment
fewer_step : (size less more a b c : ℕ) → less ≤ more → b ≤ a → b ≤ c + 1 → cond (leb size more) b (suc c) ≤ cond (leb size less) a (suc c)
fewer_step size less more a b c le with_less in_new = grind (arith, nat_tests)

close_step : (size less more a b c : ℕ) → a ≤ b + 1 → c ≤ b → a ≤ c + 1 → cond (leb size less) a (suc c) ≤ cond (leb size more) b (suc c) + 1
close_step size less more a b c with_less new_first in_new = grind (arith, nat_tests)

-- behind more room items begin no more, and behind any room no more than by one
record Rooms (items : List Held) : Type 0 where
  fewer : (less more : ℕ) → less ≤ more → more ≤ SEGMENT_BYTES → begun more items ≤ begun less items
  close : (less more : ℕ) → more ≤ SEGMENT_BYTES → begun less items ≤ begun more items + 1

rooms : (items : List Held) → Rooms items
rooms [] = record { fewer = λ less more le most. omega arith; close = λ less more most. omega arith }
rooms (x ∷ items) = grind (arith, fewer_step, spelled_of, begun, close_step, (rooms items))

-- over what an item leaves
skipped : (size room a c rest : ℕ) → rest ≤ a → rest ≤ c + 1 → rest ≤ cond (leb size room) a (suc c)
skipped size room a c rest fits new = grind (arith, nat_tests)

-- without the first of them
begun_rest : (room : ℕ) (item : Held) (items : List Held) → room ≤ SEGMENT_BYTES → begun room items ≤ begun room (item ∷ items)
begun_rest room item items most =
    skipped (spelled_of item) room (begun (room - spelled_of item) items) (begun (SEGMENT_BYTES - spelled_of item) items) (begun room items)
    ((rooms items).fewer (room - spelled_of item) room (omega arith) most)
    ((rooms items).close room (SEGMENT_BYTES - spelled_of item) (omega arith))

-- ---- how many segments items fill

-- those of the first items, and those that the others begin
pub segments-append : (side items : List Held) → segments_of (side ++ items) ≡ segments_of side + begun (room_in (cut (as_entries side))) items
segments-append side items = grind (arith, segments_cut, cut, map-append, cut-append, as_entries, length-cut_after, begun, room_in)

-- one item is put
pub segments_first : (side items : List Held) (item : Held) → segments_of (side ++ item ∷ []) ≤ segments_of (side ++ item ∷ items)
segments_first side items item = grind (arith, segments_of, append_assoc, segments-append)

-- one item is left out
pub segments_rest : (side items : List Held) (item : Held) → segments_of (side ++ items) ≤ segments_of (side ++ item ∷ items)
segments_rest side items item = grind (arith, segments-append, begun_rest, room_in, cut, as_entries)
