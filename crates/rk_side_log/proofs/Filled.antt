-- What segments that are filled with items spell, and how they take one more.
use Rattle.std.proofs.Common.{◌≡◌, ℕ, zero, suc, ◌+◌, ◌-◌, ◌<◌, ◌≤◌, Bool, true, false, cond, leb, ltb, ◌&&◌, List, [], ◌∷◌, ◌++◌, Option, None, length, take, get_or, set, replicate, refl, sym, ap, subst, ◌∙◌, arith, length-append, length-set, append_assoc, ⊎_elim}
use Rattle.std.specs.Prelude.{IfSome}
use Rattle.std.specs.List.{All, AllByRecursion}
use Rattle.std.proofs.lemmas.Bool.{cond-true, cond-false, lt-ltb, le-ltb, and_left, and_cases, cases_lt, cond_both, both_ways, and_parts, ltb-true, leb-true}
use Rattle.std.proofs.lemmas.List.{append-nil, length-map, length-replicate, map_push, replicate-append-replicate, take_at, set-append_left, set_at, get_or_append_left, get_or_at, get_or-append_right, get_or-replicate}
use Rattle.std.proofs.lemmas.List.Concat.{flat_map-append}
use Rattle.std.proofs.lemmas.List.Elements.{All-head, All-tail, All-push}
use Rattle.rk_types.specs.declared.held.Held.{Held}
use Rattle.rk_types.specs.Held.{spelled_of, spelled_value_of}
use Rattle.rk_types.specs.Text.{value_fault}
use Rattle.rk_types.specs.declared.held.TheConstants.{SEGMENT_BYTES, LONGEST_SPELLED}
use Rattle.rk_types.specs.declared.text.TheConstants.{LONGEST_KEY}
use Rattle.rk_entry.specs.declared.entry.Entry.{Entry}
use Rattle.rk_entry.specs.declared.entry.Entry.TheVariants as entries
use Rattle.rk_entry.specs.Entries.{entries_of, entries_within}
use Rattle.rk_entry.specs.Lawful.{IsLawfulHeld, IsLawfulEntry}
use Rattle.rk_entry.specs.Spelling.{spelled}
use Rattle.rk_entry.proofs.Sizes.{held_spelled}
use Rattle.rk_entry.proofs.StandLaws.{all_again}
use Rattle.rk_entry.proofs.TextLaws.{text_within}
use Rattle.rk_log.specs.Cut.{last_of, has_room, in_last, with_bytes, cut}
use Rattle.rk_log.specs.Stored.{spelled_in}
use Rattle.rk_log.proofs.Cuts.{cut_push}
use Rattle.rk_log.proofs.CutLaws.{cut_again}
use Rattle.rk_world.specs.Ends.{items_of}
use Rattle.rk_world.specs.Material.{as_entries}
use Rattle.rk_world.specs.SideLogs.{cut_items}
use Rattle.rk_side_log.specs.Side.{IsFilled, fits_last, place_for, segments_of}
use Rattle.rk_side_log.specs.Spelled.{items_read, item_read, spelled_items}
use Rattle.rk_side_log.proofs.Cutting.{spelled_cut}

-- ---- the items that are read back

-- the items of the entries of items
pub items-as_entries : (items : List Held) → items_of (as_entries items) ≡ items
items-as_entries [] = refl
items-as_entries (x ∷ items) = ap (λ (l : List Held). x ∷ l) (items-as_entries items)

lawful_entries : (items : List Held) → All IsLawfulHeld items → AllByRecursion IsLawfulEntry (as_entries items)
lawful_entries [] all = tt
lawful_entries (x ∷ items) all = (All-head IsLawfulHeld x items all, lawful_entries items (All-tail IsLawfulHeld x items all))

-- no entry is read from no bytes
read_none : entries_of [] ≡ []
unfolding entries_of entries_within
read_none = refl

-- the entries of items are read from their spelling
pub entries_spelled : (items : List Held) → All IsLawfulHeld items → entries_of (spelled_items items) ≡ as_entries items
entries_spelled items lawful =
    ap entries_of (sym (append-nil (spelled_items items))) ∙ all_again (as_entries items) [] (lawful_entries items lawful)
    ∙ ap (λ (l : List Entry). as_entries items ++ l) read_none ∙ append-nil (as_entries items)

-- and so are the items
pub items_spelled : (items : List Held) → All IsLawfulHeld items → items_of (entries_of (spelled_items items)) ≡ items
items_spelled items lawful = ap items_of (entries_spelled items lawful) ∙ items-as_entries items

-- no entry is read from empty segments
read_empty : (count : ℕ) → spelled_in (replicate count []) ≡ []
read_empty zero = refl
read_empty (suc count) = (λ i. read_none i ++ read_empty count i)

-- filled segments spell their items
pub items_filled : (segments : List (List ℕ)) (used : ℕ) (items : List Held) → IsFilled segments used items → items_read segments ≡ items
items_filled segments used items filled =
    grind (arith, flat_map-append, cut_again, lawful_entries, read_empty, append-nil, items-as_entries)

-- they are filled with what they spell
pub filled_again : (segments : List (List ℕ)) (used : ℕ) (items : List Held) → IsFilled segments used items → IsFilled segments used (items_read segments)
filled_again segments used items filled = subst (IsFilled segments used) (sym (items_filled segments used items filled)) filled

-- ---- how many they are

-- segments by the entries, and by the items
pub segments_cut : (items : List Held) → segments_of items ≡ length (cut (as_entries items))
segments_cut items = sym (length-map (cut_items items) spelled_items) ∙ ap length (spelled_cut items)

-- the used ones, and the empty ones behind them
pub length-filled : (segments : List (List ℕ)) (used : ℕ) (items : List Held) (filled : IsFilled segments used items) → length segments ≡ used + filled.empty
length-filled segments used items filled = grind (arith, length-append, length-replicate)

-- the used ones
pub take-filled : (segments : List (List ℕ)) (used : ℕ) (items : List Held) → IsFilled segments used items → take used segments ≡ cut (as_entries items)
take-filled segments used items filled = ap (take used) filled.bytes_are ∙ take_at (cut (as_entries items)) (replicate filled.empty []) used (sym filled.used_is)

-- ---- other segments

-- more empty segments may come behind
pub filled_more : (segments : List (List ℕ)) (used more : ℕ) (items : List Held) → IsFilled segments used items → IsFilled (segments ++ replicate more []) used items
filled_more segments used more items filled = grind (arith, append_assoc, replicate-append-replicate)

-- ---- one more item

-- its entry goes where the segments take it
cut_more : (items : List Held) (item : Held) → cut (as_entries (items ++ item ∷ [])) ≡ with_bytes (cut (as_entries items)) (spelled (entries.Held item))
cut_more items item = ap cut (map_push entries.Held items item) ∙ cut_push [] (as_entries items) (entries.Held item)

-- the last of the used segments
last_used : (segments : List (List ℕ)) (used : ℕ) (items : List Held) → IsFilled segments used items → 0 < used → get_or segments (used - 1) [] ≡ last_of (cut (as_entries items))
last_used segments used items filled some = grind (arith, get_or_append_left)

-- whether it fits there
last_has_room : (segments : List (List ℕ)) (used : ℕ) (items : List Held) (bytes : List ℕ) → IsFilled segments used items → 0 < used
    → has_room (cut (as_entries items)) bytes ≡ leb (length (get_or segments (used - 1) []) + length bytes) SEGMENT_BYTES
last_has_room segments used items bytes filled some = grind (arith, leb, lt-ltb, last_used)

-- it goes into the last one if it fits there
pub filled_last : (segments : List (List ℕ)) (used : ℕ) (items : List Held) (item : Held) (bytes : List ℕ) → IsFilled segments used items → IsLawfulHeld item → bytes ≡ spelled (entries.Held item)
    → 0 < used → leb (length (get_or segments (used - 1) []) + length bytes) SEGMENT_BYTES ≡ true
    → IsFilled (set segments (used - 1) (get_or segments (used - 1) [] ++ bytes)) used (items ++ item ∷ [])
filled_last segments used items item bytes filled lawful is some fits =
    let room : has_room (cut (as_entries items)) bytes ≡ true = last_has_room segments used items bytes filled some ∙ fits in
    let now : cut (as_entries (items ++ item ∷ [])) ≡ in_last (cut (as_entries items)) bytes =
    cut_more items item ∙ ap (with_bytes (cut (as_entries items))) (sym is) ∙ cond-true (has_room (cut (as_entries items)) bytes) _ _ room in
    record {
      empty = filled.empty;
      lawful = All-push IsLawfulHeld items item filled.lawful lawful;
      bytes_are =
          (λ i. set (filled.bytes_are i) (used - 1) (last_used segments used items filled some i ++ bytes))
          ∙ set-append_left (cut (as_entries items)) (replicate filled.empty []) (used - 1) (last_of (cut (as_entries items)) ++ bytes) (omega (arith, filled.used_is))
          ∙ ap (λ (n : ℕ). set (cut (as_entries items)) (n - 1) (last_of (cut (as_entries items)) ++ bytes) ++ replicate filled.empty []) filled.used_is
          ∙ ap (λ (l : List (List ℕ)). l ++ replicate filled.empty []) (sym now);
      used_is = filled.used_is ∙ sym (length-set (cut (as_entries items)) (length (cut (as_entries items)) - 1) (last_of (cut (as_entries items)) ++ bytes)) ∙ ap length (sym now);
    }

-- there is no room if there is none in the last of the used segments, or none is used
no_room : (segments : List (List ℕ)) (used : ℕ) (items : List Held) (bytes : List ℕ) → IsFilled segments used items
    → (0 < used → leb (length (get_or segments (used - 1) []) + length bytes) SEGMENT_BYTES ≡ false) → has_room (cut (as_entries items)) bytes ≡ false
no_room segments used items bytes filled full = grind (arith, last_has_room, and_left, ltb, leb, le-ltb, cases_lt)

-- the first of the empty ones takes it
taken : (front : List (List ℕ)) (used empty : ℕ) (bytes : List ℕ) → length front ≡ used → 0 < empty
    → set (front ++ replicate empty []) used (get_or (front ++ replicate empty []) used [] ++ bytes) ≡ (front ++ bytes ∷ []) ++ replicate (empty - 1) []
taken front used empty bytes at some = grind (arith, get_or_at, set_at, append_assoc)

-- it goes into the first of the empty ones if it does not fit into the last of the used ones
pub filled_next : (segments : List (List ℕ)) (used : ℕ) (items : List Held) (item : Held) (bytes : List ℕ) → IsFilled segments used items → IsLawfulHeld item → bytes ≡ spelled (entries.Held item)
    → (0 < used → leb (length (get_or segments (used - 1) []) + length bytes) SEGMENT_BYTES ≡ false) → used < length segments
    → IsFilled (set segments used (get_or segments used [] ++ bytes)) (used + 1) (items ++ item ∷ [])
filled_next segments used items item bytes filled lawful is full within =
    let some : 0 < filled.empty = omega (arith, length-filled segments used items filled) in
    let now : cut (as_entries (items ++ item ∷ [])) ≡ cut (as_entries items) ++ bytes ∷ [] =
    cut_more items item ∙ ap (with_bytes (cut (as_entries items))) (sym is)
    ∙ cond-false (has_room (cut (as_entries items)) bytes) _ _ (no_room segments used items bytes filled full) in
    record {
      empty = filled.empty - 1;
      lawful = All-push IsLawfulHeld items item filled.lawful lawful;
      bytes_are =
          ap (λ (l : List (List ℕ)). set l used (get_or l used [] ++ bytes)) filled.bytes_are
          ∙ taken (cut (as_entries items)) used filled.empty bytes (sym filled.used_is) some ∙ ap (λ (l : List (List ℕ)). l ++ replicate (filled.empty - 1) []) (sym now);
      used_is = omega (arith, filled.used_is, ap length now, length-append (cut (as_entries items)) (bytes ∷ []));
    }

-- there is an empty one if enough are made
pub next_there : (segments : List (List ℕ)) (used : ℕ) (items : List Held) (item : Held) (bytes : List ℕ) → IsFilled segments used items → bytes ≡ spelled (entries.Held item)
    → (0 < used → leb (length (get_or segments (used - 1) []) + length bytes) SEGMENT_BYTES ≡ false) → segments_of (items ++ item ∷ []) ≤ length segments → used < length segments
next_there segments used items item bytes filled is full made =
    let now : cut (as_entries (items ++ item ∷ [])) ≡ cut (as_entries items) ++ bytes ∷ [] =
    cut_more items item ∙ ap (with_bytes (cut (as_entries items))) (sym is)
    ∙ cond-false (has_room (cut (as_entries items)) bytes) _ _ (no_room segments used items bytes filled full) in
    omega (arith, filled.used_is, ap length now, length-append (cut (as_entries items)) (bytes ∷ []), segments_cut (items ++ item ∷ []))

-- ---- how long an entry is

value_most : (value : Option (List ℕ)) → IfSome value (λ v. value_fault v ≡ None) → spelled_value_of value ≤ 65005
value_most value lawful = grind (arith, text_within, ltb, cond_both)

-- the entry of a lawful item is within the bound
pub spelled_most : (item : Held) → IsLawfulHeld item → spelled_of item ≤ LONGEST_SPELLED
unfolding spelled_of
spelled_most item lawful =
    omega (arith, (text_within 1 LONGEST_KEY item.key lawful.key).1, value_most item.value lawful.value)

-- and so are its bytes
pub bytes_most : (item : Held) (bytes : List ℕ) → IsLawfulHeld item → bytes ≡ spelled (entries.Held item) → length bytes ≤ LONGEST_SPELLED
bytes_most item bytes lawful is = omega (arith, ap length is, held_spelled item, spelled_most item lawful)

-- the first segment behind the used ones is empty
pub next_empty : (segments : List (List ℕ)) (used : ℕ) (items : List Held) → IsFilled segments used items → used < length segments → get_or segments used [] ≡ []
next_empty segments used items filled within = grind (arith, get_or-append_right, get_or-replicate, length-filled)

-- ---- where an entry goes

-- an entry that does not fit into the last one, if there is one
full_last : (used : ℕ) (fits : Bool) → (ltb 0 used && fits) ≡ false → 0 < used → fits ≡ false
full_last used fits is some = grind (arith, ltb, both_ways, lt-ltb, and_cases)

-- the entry of an item goes into the segment at a place
pub record GoesInto (segments : List (List ℕ)) (items : List Held) (item : Held) (bytes : List ℕ) (place : ℕ) : Type 0 where
  pub within : place < length segments
  pub fits : length (get_or segments place []) + length bytes ≤ SEGMENT_BYTES
  pub filled : IsFilled (set segments place (get_or segments place [] ++ bytes)) (place + 1) (items ++ item ∷ [])

goes_by : (segments : List (List ℕ)) (used : ℕ) (items : List Held) (item : Held) (bytes : List ℕ) (b : Bool) → IsFilled segments used items → IsLawfulHeld item → bytes ≡ spelled (entries.Held item)
    → segments_of (items ++ item ∷ []) ≤ length segments → fits_last segments used bytes ≡ b → GoesInto segments items item bytes (cond b (used - 1) used)
goes_by segments used items item bytes true filled lawful is made e =
    let test = and_parts (ltb 0 used) (leb (length (get_or segments (used - 1) []) + length bytes) SEGMENT_BYTES) e in
    let some : 0 < used = ltb-true 0 used test.0 in
    record {
      within = omega (arith, length-filled segments used items filled);
      fits = leb-true (length (get_or segments (used - 1) []) + length bytes) SEGMENT_BYTES test.1;
      filled =
          subst (λ (n : ℕ). IsFilled (set segments (used - 1) (get_or segments (used - 1) [] ++ bytes)) n (items ++ item ∷ [])) (omega arith)
          (filled_last segments used items item bytes filled lawful is some test.1);
    }
goes_by segments used items item bytes false filled lawful is made e =
    let full : 0 < used → leb (length (get_or segments (used - 1) []) + length bytes) SEGMENT_BYTES ≡ false = full_last used _ e in
    let within : used < length segments = next_there segments used items item bytes filled is full made in
    record {
      within = within;
      fits = omega (arith, ap length (next_empty segments used items filled within), bytes_most item bytes lawful is);
      filled = filled_next segments used items item bytes filled lawful is full within;
    }

pub goes : (segments : List (List ℕ)) (used : ℕ) (items : List Held) (item : Held) (bytes : List ℕ) (place : ℕ) → IsFilled segments used items → IsLawfulHeld item → bytes ≡ spelled (entries.Held item)
    → segments_of (items ++ item ∷ []) ≤ length segments → place ≡ place_for segments used bytes → GoesInto segments items item bytes place
goes segments used items item bytes place filled lawful is made at =
    subst (GoesInto segments items item bytes) (sym at) (goes_by segments used items item bytes (fits_last segments used bytes) filled lawful is made refl)

-- ---- the item of an entry

-- it is read back from its bytes
pub item_is : (item : Held) (bytes : List ℕ) → IsLawfulHeld item → bytes ≡ spelled (entries.Held item) → item_read bytes ≡ item
unfolding item_read
item_is item bytes lawful is =
    ap item_read is ∙ ap (λ (l : List Entry). get_or (items_of l) 0 (record { table = 0; version = 0; client = 0; seq = 0; key = []; value = None })) (cut_again (entries.Held item ∷ []) (lawful, tt))
