-- The side segments that items fill: none is empty or too long, none could have taken what begins the next, and all items are in them.
use Rattle.rk_side_log.proofs.Words.{◌≡◌, ℕ, zero, suc, ◌+◌, ◌<◌, ◌≤◌, Bool, true, false, leb, List, [], ◌∷◌, ◌++◌, length, map, get_or}
use Rattle.rk_side_log.proofs.Words.{refl, sym, ap, ◌∙◌, arith, length-append, append_assoc, All, append-nil, All-head, All-tail}
use Rattle.rk_side_log.proofs.Words.{spelled_of, Held, SEGMENT_BYTES, IsLawfulHeld, spelled, held_spelled, cut_items, sealed_sides}
use Rattle.rk_side_log.proofs.Words.{spelled_items}
use Rattle.std.proofs.Common.{sum, fold}
use Rattle.std.specs.List.{flat_map}
use Rattle.std.proofs.lemmas.Bool.{cond_both, leb-true, leb-false}
use Rattle.std.proofs.lemmas.List.Elements.{All-nil, All-cons, All-append, All-push}
use Rattle.rk_entry.specs.declared.entry.Entry.TheVariants as entries
use Rattle.rk_world.specs.SideLogs.{with_side_item}
use Rattle.rk_side_log.proofs.Cutting.{length-spelled, spelled_push, spelled_one}
use Rattle.rk_side_log.proofs.Filled.{spelled_most}

-- whether an item fits behind others
abbrev fits : List Held → Held → Bool
fits items item = leb (sum (map spelled_of items) + spelled_of item) SEGMENT_BYTES

-- ---- the bytes of a segment

abbrev pub size : List Held → ℕ
size items = length (spelled_items items)

size_push : (items : List Held) (item : Held) → size (items ++ item ∷ []) ≡ size items + spelled_of item
size_push items item =
    ap length (spelled_push items item) ∙ length-append (spelled_items items) (spelled (entries.Held item)) ∙ ap (λ (n : ℕ). size items + n) (sym (held_spelled item))

size_one : (item : Held) → size (item ∷ []) ≡ spelled_of item
size_one item = ap length (spelled_one item) ∙ sym (held_spelled item)

-- ---- what holds of each segment

module _ (P : List Held → Type 0) (item : Held) (alone : P (item ∷ [])) (more : (items : List Held) → P items → fits items item ≡ true → P (items ++ item ∷ [])) where
  -- it holds of each with one more item
  each_with : (lists : List (List Held)) → All P lists → All P (with_side_item lists item)
  each_with [] all = All-cons P (item ∷ []) [] alone (All-nil P)
  each_with (items ∷ []) all =
      cond_both (fits items item) ((items ++ item ∷ []) ∷ []) (items ∷ (item ∷ []) ∷ []) (All P)
      (λ e. All-cons P (items ++ item ∷ []) [] (more items (All-head P items [] all) e) (All-nil P))
      (λ e. All-cons P items ((item ∷ []) ∷ []) (All-head P items [] all) (All-cons P (item ∷ []) [] alone (All-nil P)))
  each_with (items ∷ next ∷ others) all =
      All-cons P items (with_side_item (next ∷ others) item) (All-head P items (next ∷ others) all) (each_with (next ∷ others) (All-tail P items (next ∷ others) all))

-- none is empty
pub some_after : (lists : List (List Held)) (items : List Held) → All (λ (s : List Held). 0 < length s) lists → All (λ (s : List Held). 0 < length s) (fold with_side_item lists items)
some_after lists [] all = all
some_after lists (x ∷ items) all =
    some_after (with_side_item lists x) items
    (each_with (λ (s : List Held). 0 < length s) x (omega arith) (λ s h e. omega (arith, length-append s (x ∷ []))) lists all)

-- none is longer than a segment may be
pub within_after : (lists : List (List Held)) (items : List Held) → All IsLawfulHeld items → All (λ (s : List Held). size s ≤ SEGMENT_BYTES) lists
    → All (λ (s : List Held). size s ≤ SEGMENT_BYTES) (fold with_side_item lists items)
within_after lists [] lawful all = all
within_after lists (x ∷ items) lawful all =
    within_after (with_side_item lists x) items (All-tail IsLawfulHeld x items lawful)
    (each_with (λ (s : List Held). size s ≤ SEGMENT_BYTES) x (omega (arith, size_one x, spelled_most x (All-head IsLawfulHeld x items lawful)))
    (λ s h e. omega (arith, size_push s x, length-spelled s, leb-true (sum (map spelled_of s) + spelled_of x) SEGMENT_BYTES e)) lists all)

-- each has lawful items
lawful_after : (lists : List (List Held)) (items : List Held) → All IsLawfulHeld items → All (All IsLawfulHeld) lists → All (All IsLawfulHeld) (fold with_side_item lists items)
lawful_after lists [] lawful all = all
lawful_after lists (x ∷ items) lawful all =
    let first : IsLawfulHeld x = All-head IsLawfulHeld x items lawful in
    lawful_after (with_side_item lists x) items (All-tail IsLawfulHeld x items lawful)
    (each_with (All IsLawfulHeld) x (All-cons IsLawfulHeld x [] first (All-nil IsLawfulHeld)) (λ s h e. All-push IsLawfulHeld s x h first) lists all)

pub cut_lawful : (items : List Held) → All IsLawfulHeld items → All (All IsLawfulHeld) (cut_items items)
cut_lawful items lawful = lawful_after [] items lawful (All-nil (All IsLawfulHeld))

-- so have those of all workers
pub sealed_lawful : (sides : List (List Held)) → All (All IsLawfulHeld) sides → All (All IsLawfulHeld) (sealed_sides sides)
sealed_lawful [] lawful = All-nil (All IsLawfulHeld)
sealed_lawful (items ∷ sides) lawful =
    All-append (All IsLawfulHeld) (cut_items items) (sealed_sides sides) (cut_lawful items (All-head (All IsLawfulHeld) items sides lawful))
    (sealed_lawful sides (All-tail (All IsLawfulHeld) items sides lawful))

-- ---- two that follow one another

-- each is too long to share one segment with the next
abbrev ArePacked : List (List Held) → Type 0
ArePacked [] = Unit {0}
ArePacked (items ∷ []) = Unit {0}
ArePacked (items ∷ next ∷ others) = (SEGMENT_BYTES < size items + size next) × ArePacked (next ∷ others)

-- an item that does not fit begins one
begins : (items : List Held) (item : Held) → fits items item ≡ false → SEGMENT_BYTES < size items + size (item ∷ [])
begins items item e = omega (arith, size_one item, length-spelled items, leb-false (sum (map spelled_of items) + spelled_of item) SEGMENT_BYTES e)

packed_next : (items next : List Held) (others : List (List Held)) (item : Held) → ArePacked (items ∷ next ∷ others) → ArePacked (items ∷ with_side_item (next ∷ others) item)
packed_next items next [] item packed = grind (arith, cond_both, size_push, begins, packed.0)
packed_next items next (third ∷ others) item packed = (packed.0, packed_next next third others item packed.1)

packed_with : (lists : List (List Held)) (item : Held) → ArePacked lists → ArePacked (with_side_item lists item)
packed_with [] item packed = tt
packed_with (items ∷ []) item packed = grind (arith, cond_both, begins)
packed_with (items ∷ next ∷ others) item packed = packed_next items next others item packed

pub packed_after : (lists : List (List Held)) (items : List Held) → ArePacked lists → ArePacked (fold with_side_item lists items)
packed_after lists [] packed = packed
packed_after lists (x ∷ items) packed = packed_after (with_side_item lists x) items (packed_with lists x packed)

pub packed_at : (lists : List (List Held)) (place : ℕ) → ArePacked lists → suc place < length lists → SEGMENT_BYTES < size (get_or lists place []) + size (get_or lists (suc place) [])
packed_at [] place packed h = absurd (omega arith)
packed_at (items ∷ []) place packed h = absurd (omega arith)
packed_at (items ∷ next ∷ others) zero packed h = packed.0
packed_at (items ∷ next ∷ others) (suc place) packed h = packed_at (next ∷ others) place packed.1 (omega arith)

-- ---- all items

whole_with : (lists : List (List Held)) (item : Held) → flat_map (λ (s : List Held). s) (with_side_item lists item) ≡ flat_map (λ (s : List Held). s) lists ++ item ∷ []
whole_with [] item = refl
whole_with (items ∷ []) item = grind (arith, cond_both, append-nil)
whole_with (items ∷ next ∷ others) item = grind (arith, append_assoc, (whole_with (next ∷ others) item))

pub whole_after : (lists : List (List Held)) (items : List Held) → flat_map (λ (s : List Held). s) (fold with_side_item lists items) ≡ flat_map (λ (s : List Held). s) lists ++ items
whole_after lists [] = sym (append-nil (flat_map (λ (s : List Held). s) lists))
whole_after lists (x ∷ items) = grind (arith, whole_with, append_assoc, (whole_after (with_side_item lists x) items))
