-- The parts of a log stay consistent through each change.
use Rattle.std.proofs.Common.{◌≡◌, ℕ, ◌+◌, ◌-◌, ◌<◌, ◌≤◌, ◌^◌, true, false, cond, leb, List, [], ◌∷◌, ◌++◌, length, get_or, set, take, drop, sym, ap, subst, ◌∙◌, ⊎_elim, arith, length-set, length-append, get_or-set_same, get_or-set_other}
use Rattle.std.specs.List.{list_all, prefix_len}
use Rattle.std.proofs.lemmas.Bool.{le-leb, leb-true, cases_eq}
use Rattle.std.proofs.lemmas.List.{length-map, get_or-map, get_or_append_left, map_push}
use Rattle.std.proofs.lemmas.List.Elements.{All-push}
use Rattle.std.proofs.lemmas.List.Sums.{prefix_len-le-length, prefix_len_passes}
use Rattle.rk_types.specs.declared.held.TheConstants.{SEGMENT_BYTES}
use Rattle.rk_entry.specs.declared.entry.Entry.{Entry}
use Rattle.rk_entry.specs.declared.lists.TheConstants.{FIRST_SIDE_SEGMENT}
use Rattle.rk_entry.specs.Spelling.{spelled}
use Rattle.rk_log.specs.declared.copied.Copied.{Copied}
use Rattle.rk_log.specs.declared.copied.TheConstants.{FIRST_SEGMENT}
use Rattle.rk_log.specs.declared.cursor.Cursor.{Cursor}
use Rattle.rk_log.specs.Cut.{last_of, has_room, with_bytes, cut, end_of}
use Rattle.rk_log.specs.Parts.{Parts, bytes_in, lengths_in, none_known, bytes_among, is_whole_at, is_held_at, AreWithin, AreKnown, IsCursor, cursor_at, IsConsistent}
use Rattle.rk_log.proofs.Prefixes.{pass_then, prefix_len_same, prefix_len_push_no, list_all_greater, list_all_small}
use Rattle.rk_log.proofs.Cuts.{spelled_some, cut_push, ends_push, ends_within, room_some}
use Rattle.rk_entry.specs.Lawful.{IsLawfulEntry}
use Rattle.rk_log.proofs.CutLaws.{lawful_push}
use Rattle.rk_log.proofs.Grown.{Grew, grew, known_push, Rose, Raised, rose_in, known_told_lists, among_main_is, among_sides_is}

-- ---- what the parts show

-- each entry ends in one of the main segments
pub places_within : (parts : Parts) → IsConsistent parts → AreWithin (length parts.main) parts.ends
places_within parts consistent = grind (arith, ends_within, length-map)

-- no more are committed than there are
pub count_within : (parts : Parts) → IsConsistent parts → parts.committed ≤ length parts.ends
count_within parts consistent =
    omega (arith, consistent.count_is, prefix_len-le-length (is_held_at (length parts.cursors) (lengths_in parts.main)) parts.ends)

-- a segment is whole by its bytes and its known length
whole_by : (segments : List Copied) (k : ℕ) (d : Copied) (backup : ℕ) → k < length segments
    → is_whole_at backup (get_or segments k d) ≡ leb (length (get_or (bytes_in segments) k [])) (get_or (get_or (lengths_in segments) k []) backup 0)
whole_by segments k d backup h =
    λ i. leb (length (sym (get_or-map (λ (c : Copied). c.segment.bytes) segments k d [] h) i)) (get_or (sym (get_or-map (λ (c : Copied). c.known) segments k d [] h) i) backup 0)

-- ---- the parts after each change

-- after an entry was put into these main segments
abbrev pub with_entry_in : Parts → List Copied → Entry → Parts
with_entry_in parts main' entry = record parts { entries = parts.entries ++ entry ∷ []; ends = parts.ends ++ end_of (bytes_in main') ∷ []; main = main' }

-- with one more side segment
abbrev pub with_side_in : Parts → Copied → Parts
with_side_in parts side = record parts { sides = parts.sides ++ side ∷ [] }

-- after a backup reported a length, which these segments have now
abbrev pub told_in : Parts → List Copied → List Copied → ℕ → Cursor → Parts
told_in parts main' sides' backup cursor = record parts {
  committed = parts.committed + prefix_len (is_held_at (length parts.cursors) (lengths_in main')) (drop parts.committed parts.ends);
  main = main';
  sides = sides';
  cursors = set parts.cursors backup cursor;
}

-- ---- one more entry

-- cursors stay, since none is past the last main segment
cursor_grew : (main main' sides : List Copied) (backup : ℕ) (cursor : Cursor) → Grew (bytes_in main) (lengths_in main) (bytes_in main') (lengths_in main') → IsCursor backup main sides cursor → IsCursor backup main' sides cursor
cursor_grew main main' sides backup cursor grown old =
    let count : length (bytes_in main) ≡ length main = length-map main (λ (c : Copied). c.segment.bytes) in
    let count_known : length (lengths_in main) ≡ length main = length-map main (λ (c : Copied). c.known) in
    let count' : length (lengths_in main') ≡ length main' = length-map main' (λ (c : Copied). c.known) in
    let longer : length (lengths_in main) ≤ length (lengths_in main') = grown.longer in
    record {
      main_whole = λ k d h.
          let last : cursor.main ≤ length main - 1 = old.main_last in
          whole_by main' k d backup (omega arith)
          ∙ (λ i. leb (length (grown.before k (omega arith) i)) (get_or (grown.lengths_stay k (omega arith) i) backup 0))
          ∙ sym (whole_by main k d backup (omega arith))
          ∙ old.main_whole k d h;
      main_last = omega (arith, old.main_last);
      sides_whole = old.sides_whole;
      sides_within = old.sides_within;
    }

pub consistent_entry : (parts : Parts) (main' : List Copied) (entry : Entry)
    → IsConsistent parts → bytes_in main' ≡ with_bytes (bytes_in parts.main) (spelled entry)
    → lengths_in main' ≡ cond (has_room (bytes_in parts.main) (spelled entry)) (lengths_in parts.main) (lengths_in parts.main ++ none_known ∷ []) → length parts.main + 1 < FIRST_SIDE_SEGMENT
    → length (spelled entry) ≤ SEGMENT_BYTES → IsLawfulEntry entry → IsConsistent (with_entry_in parts main' entry)
consistent_entry parts main' entry consistent put put_lengths few fits lawful =
    let counts : length (bytes_in parts.main) ≡ length (lengths_in parts.main) = length-map parts.main (λ (c : Copied). c.segment.bytes) ∙ sym (length-map parts.main (λ (c : Copied). c.known)) in
    let grown = grew (bytes_in parts.main) (lengths_in parts.main) (spelled entry) (bytes_in main') (lengths_in main') counts consistent.main_known (spelled_some entry) put put_lengths (room_some (bytes_in parts.main) (spelled entry)) in
    let segments : bytes_in main' ≡ with_bytes (cut parts.entries) (spelled entry) = put ∙ ap (λ (s : List (List ℕ)). with_bytes s (spelled entry)) consistent.cut_is in
    record {
      cut_is = segments ∙ sym (cut_push [] parts.entries entry);
      places_are = (λ i. consistent.places_are i ++ end_of (segments i) ∷ []) ∙ sym (ends_push [] parts.entries entry);
      fits = All-push (λ (it : Entry). length (spelled it) ≤ SEGMENT_BYTES) parts.entries entry consistent.fits fits;
      lawful = lawful_push parts.entries entry consistent.lawful lawful;
      count_is = consistent.count_is ∙ stays grown ∙ sym (prefix_len_push_no (is_held_at (length parts.cursors) (lengths_in main')) parts.ends (end_of (bytes_in main')) (unheld grown));
      first_backup = consistent.first_backup;
      last_backup = consistent.last_backup;
      few_main = omega (arith, grown.at_most, length-map main' (λ (c : Copied). c.known), length-map parts.main (λ (c : Copied). c.known));
      few_sides = consistent.few_sides;
      main_known = grown.known;
      sides_known = consistent.sides_known;
      cursors_are = λ backup d h. cursor_grew parts.main main' parts.sides backup (get_or parts.cursors backup d) grown (consistent.cursors_are backup d h);
    }
  where
    stays : Grew (bytes_in parts.main) (lengths_in parts.main) (bytes_in main') (lengths_in main') → prefix_len (is_held_at (length parts.cursors) (lengths_in parts.main)) parts.ends ≡ prefix_len (is_held_at (length parts.cursors) (lengths_in main')) parts.ends
    stays grown =
        prefix_len_same (is_held_at (length parts.cursors) (lengths_in parts.main)) (is_held_at (length parts.cursors) (lengths_in main')) parts.ends (λ k d h.
        let at = places_within parts consistent k d h in
        ap (λ (l : List ℕ). list_all (leb (get_or parts.ends k d).offset) (take (length parts.cursors) l))
        (sym (grown.lengths_stay ((get_or parts.ends k d).segment - 1) (omega (arith, at.0, at.1, length-map parts.main (λ (c : Copied). c.known))))))

    unheld : Grew (bytes_in parts.main) (lengths_in parts.main) (bytes_in main') (lengths_in main') → is_held_at (length parts.cursors) (lengths_in main') (end_of (bytes_in main')) ≡ false
    unheld grown =
        list_all_small (length (last_of (bytes_in main'))) (length parts.cursors) (get_or (lengths_in main') (length (bytes_in main') - 1) []) consistent.first_backup
        (omega (arith, (grown.known (length (bytes_in main') - 1) (omega (arith, grown.same_count, grown.some))).each)) grown.unheld

-- ---- one more side segment

pub consistent_side : (parts : Parts) (side : Copied)
    → IsConsistent parts → side.known ≡ none_known → FIRST_SIDE_SEGMENT + (length parts.sides + 1) ≤ 2 ^ 32
    → IsConsistent (with_side_in parts side)
consistent_side parts side consistent unknown few =
    let counts : length (bytes_in parts.sides) ≡ length (lengths_in parts.sides) = length-map parts.sides (λ (c : Copied). c.segment.bytes) ∙ sym (length-map parts.sides (λ (c : Copied). c.known)) in
    let all_bytes : bytes_in (parts.sides ++ side ∷ []) ≡ bytes_in parts.sides ++ side.segment.bytes ∷ [] = map_push (λ (c : Copied). c.segment.bytes) parts.sides side in
    let all_lengths : lengths_in (parts.sides ++ side ∷ []) ≡ lengths_in parts.sides ++ none_known ∷ [] = map_push (λ (c : Copied). c.known) parts.sides side ∙ ap (λ (l : List ℕ). lengths_in parts.sides ++ l ∷ []) unknown in
    record {
      cut_is = consistent.cut_is;
      places_are = consistent.places_are;
      fits = consistent.fits;
      lawful = consistent.lawful;
      count_is = consistent.count_is;
      first_backup = consistent.first_backup;
      last_backup = consistent.last_backup;
      few_main = consistent.few_main;
      few_sides = omega (arith, length-append parts.sides (side ∷ []));
      main_known = consistent.main_known;
      sides_known =
          subst (λ (b : List (List ℕ)). AreKnown b (lengths_in (parts.sides ++ side ∷ []))) (sym all_bytes)
          (subst (AreKnown (bytes_in parts.sides ++ side.segment.bytes ∷ [])) (sym all_lengths) (known_push (bytes_in parts.sides) (lengths_in parts.sides) side.segment.bytes counts consistent.sides_known));
      cursors_are = λ backup d h.
          let old = consistent.cursors_are backup d h in
          record {
            main_whole = old.main_whole;
            main_last = old.main_last;
            sides_whole = λ k e l.
                ap (is_whole_at backup) (get_or_append_left parts.sides (side ∷ []) e k (omega (arith, old.sides_within))) ∙ old.sides_whole k e l;
            sides_within = omega (arith, old.sides_within, length-append parts.sides (side ∷ []));
          };
    }

-- ---- what a backup reported

-- the furthest cursor is one
pub cursor_is : (backup : ℕ) (main sides : List Copied) → IsCursor backup main sides (cursor_at backup main sides)
cursor_is backup main sides = grind (arith, prefix_len_passes, prefix_len-le-length)

-- a segment that is whole stays so
whole_rose : (segments segments' : List Copied) (backup k : ℕ) (d : Copied) → bytes_in segments' ≡ bytes_in segments → Rose (lengths_in segments) (lengths_in segments') → k < length segments
    → is_whole_at backup (get_or segments k d) ≡ true → is_whole_at backup (get_or segments' k d) ≡ true
whole_rose segments segments' backup k d same rose h whole = grind (arith, length-map, leb, whole_by, leb-true, le-leb)

pub cursor_raised : (main main' sides sides' : List Copied) (number teller size backup : ℕ) (cursor : Cursor)
    → Raised FIRST_SEGMENT number teller size main main' → Raised FIRST_SIDE_SEGMENT number teller size sides sides' → IsCursor backup main sides cursor → IsCursor backup main' sides' cursor
cursor_raised main main' sides sides' number teller size backup cursor raised raised_sides old =
    grind (arith, rose_in, whole_rose, length-map)

pub consistent_told : (parts : Parts) (main' sides' : List Copied) (number backup size : ℕ) (cursor : Cursor)
    → IsConsistent parts → backup < length parts.cursors
    → Raised FIRST_SEGMENT number backup size parts.main main' → Raised FIRST_SIDE_SEGMENT number backup size parts.sides sides'
    → size ≤ length (bytes_among number parts.main parts.sides) → cursor ≡ cursor_at backup main' sides'
    → IsConsistent (told_in parts main' sides' backup cursor)
consistent_told parts main' sides' number backup size cursor consistent within raised raised_sides enough furthest =
    let rose_main = rose_in FIRST_SEGMENT number backup size parts.main main' raised in
    let counts : length (bytes_in main') ≡ length (bytes_in parts.main) = ap length raised.bytes in
    let counts_sides : length (bytes_in sides') ≡ length (bytes_in parts.sides) = ap length raised_sides.bytes in
    let few : length parts.main < FIRST_SIDE_SEGMENT = consistent.few_main in
    let backups : length parts.cursors ≡ length (set parts.cursors backup cursor) = sym (length-set parts.cursors backup cursor) in
    record {
      cut_is = raised.bytes ∙ consistent.cut_is;
      places_are = consistent.places_are;
      fits = consistent.fits;
      lawful = consistent.lawful;
      count_is =
          sym (pass_then (is_held_at (length parts.cursors) (lengths_in main')) parts.ends parts.committed (count_within parts consistent) (λ k d h.
          list_all_greater (get_or parts.ends k d).offset (length parts.cursors) (get_or (lengths_in parts.main) ((get_or parts.ends k d).segment - 1) []) (get_or (lengths_in main') ((get_or parts.ends k d).segment - 1) [])
          (sym (rose_main.each ((get_or parts.ends k d).segment - 1))) (rose_main.more ((get_or parts.ends k d).segment - 1))
          (prefix_len_passes (is_held_at (length parts.cursors) (lengths_in parts.main)) parts.ends k d (omega (arith, consistent.count_is)))))
          ∙ ap (λ (n : ℕ). prefix_len (is_held_at n (lengths_in main')) parts.ends) backups;
      first_backup = omega (arith, consistent.first_backup);
      last_backup = omega (arith, consistent.last_backup);
      few_main = omega (arith, length-map main' (λ (c : Copied). c.segment.bytes), length-map parts.main (λ (c : Copied). c.segment.bytes));
      few_sides = omega (arith, consistent.few_sides, length-map sides' (λ (c : Copied). c.segment.bytes), length-map parts.sides (λ (c : Copied). c.segment.bytes));
      main_known =
          subst (λ (b : List (List ℕ)). AreKnown b (lengths_in main')) (sym raised.bytes)
          (subst (AreKnown (bytes_in parts.main)) (sym raised.lengths)
          (known_told_lists FIRST_SEGMENT number backup size (bytes_in parts.main) (lengths_in parts.main) consistent.main_known (λ k e h.
          omega (arith, ap length (among_main_is number k parts.main parts.sides e (omega (arith, length-map parts.main (λ (c : Copied). c.known))))))));
      sides_known =
          subst (λ (b : List (List ℕ)). AreKnown b (lengths_in sides')) (sym raised_sides.bytes)
          (subst (AreKnown (bytes_in parts.sides)) (sym raised_sides.lengths)
          (known_told_lists FIRST_SIDE_SEGMENT number backup size (bytes_in parts.sides) (lengths_in parts.sides) consistent.sides_known (λ k e h.
          omega (arith, ap length (among_sides_is number k parts.main parts.sides e few)))));
      cursors_are = λ other d h.
          ⊎_elim
          (λ (teller : other ≡ backup).
          let at : get_or (set parts.cursors backup cursor) other d ≡ cursor_at other main' sides' =
          ap (λ (n : ℕ). get_or (set parts.cursors backup cursor) n d) teller ∙ get_or-set_same parts.cursors backup cursor d within ∙ furthest ∙ ap (λ (n : ℕ). cursor_at n main' sides') (sym teller) in
          subst (IsCursor other main' sides') (sym at) (cursor_is other main' sides'))
          (λ (apart : other ≡ backup → ⊥).
          subst (IsCursor other main' sides') (sym (get_or-set_other parts.cursors backup other cursor d apart))
          (cursor_raised parts.main main' parts.sides sides' number backup size other (get_or parts.cursors other d) raised raised_sides (consistent.cursors_are other d (omega arith))))
          (cases_eq other backup);
    }
