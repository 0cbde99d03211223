-- The side segments that items fill are the main segments that their entries would fill.
use Rattle.rk_side_log.proofs.Words.{◌≡◌, ℕ, ◌+◌, Bool, true, false, cond, leb, ltb, List, [], ◌∷◌, ◌++◌, length, map, refl, sym, ap, ◌∙◌}
use Rattle.rk_side_log.proofs.Words.{arith, length-append, append_assoc, lt-ltb, append-nil, spelled_of, Held, spelled, held_spelled}
use Rattle.rk_side_log.proofs.Words.{with_bytes, cut, as_entries, cut_items, spelled_items}
use Rattle.std.proofs.Common.{sum, fold}
use Rattle.std.proofs.lemmas.List.Sums.{sum-map, sum_by-cons}
use Rattle.rk_entry.specs.declared.entry.Entry.TheVariants as entries
use Rattle.rk_entry.specs.Entries.{spelled_all}
use Rattle.rk_log.specs.Cut.{cut_after}
use Rattle.rk_world.specs.SideLogs.{with_side_item}

-- ---- the entries of items

-- the entry of the first item, and those of the others
pub spelled_first : (item : Held) (items : List Held) → spelled_items (item ∷ items) ≡ spelled (entries.Held item) ++ spelled_items items
unfolding spelled_all
spelled_first item items = refl

pub spelled_none : spelled_items [] ≡ []
unfolding spelled_all
spelled_none = refl

-- the entry of one item
pub spelled_one : (item : Held) → spelled_items (item ∷ []) ≡ spelled (entries.Held item)
spelled_one item = spelled_first item [] ∙ ap (λ (l : List ℕ). spelled (entries.Held item) ++ l) spelled_none ∙ append-nil (spelled (entries.Held item))

-- one more item at the end
pub spelled_push : (items : List Held) (item : Held) → spelled_items (items ++ item ∷ []) ≡ spelled_items items ++ spelled (entries.Held item)
spelled_push [] item = spelled_one item ∙ ap (λ (l : List ℕ). l ++ spelled (entries.Held item)) (sym spelled_none)
spelled_push (x ∷ items) item = grind (arith, spelled_first, spelled, append_assoc, spelled_items, (spelled_push items item))

-- the first summand, and the others
pub sum_first : {X : Type 0} (f : X → ℕ) (x : X) (xs : List X) → sum (map f (x ∷ xs)) ≡ f x + sum (map f xs)
sum_first f x xs = sum-map f (x ∷ xs) ∙ sum_by-cons f x xs ∙ ap (λ (n : ℕ). f x + n) (sym (sum-map f xs))

-- items take what each of them takes
pub length-spelled : (items : List Held) → length (spelled_items items) ≡ sum (map spelled_of items)
length-spelled [] = ap length spelled_none
length-spelled (x ∷ items) =
    grind (arith, spelled_first, length-append, spelled, spelled_items, held_spelled, sum_first, spelled_of, (length-spelled items))

-- ---- the segments that they fill

-- a choice behind a first segment
chosen : (s : List ℕ) (b c : Bool) (filled begun : List (List ℕ)) → b ≡ c → cond b (s ∷ filled) (s ∷ begun) ≡ s ∷ cond c filled begun
chosen s true c filled begun same = ap (λ (x : Bool). s ∷ cond x filled begun) same
chosen s false c filled begun same = ap (λ (x : Bool). s ∷ cond x filled begun) same

-- a first segment is left alone if there are others
behind : (s : List ℕ) (t : List ℕ) (more : List (List ℕ)) (bytes : List ℕ) → with_bytes (s ∷ t ∷ more) bytes ≡ s ∷ with_bytes (t ∷ more) bytes
behind s t more bytes = grind (arith, chosen, ltb, lt-ltb)

-- the last one takes the item or does not
last_filled : (items : List Held) (item : Held) (b c : Bool) → b ≡ c
    → map spelled_items (cond b ((items ++ item ∷ []) ∷ []) (items ∷ (item ∷ []) ∷ []))
    ≡ cond c ((spelled_items items ++ spelled (entries.Held item)) ∷ []) (spelled_items items ∷ spelled (entries.Held item) ∷ [])
last_filled items item b c same = grind (arith, spelled_push, spelled_items, spelled, spelled_one)

-- an item fills the segments as its entry does
pub spelled_with : (lists : List (List Held)) (item : Held) → map spelled_items (with_side_item lists item) ≡ with_bytes (map spelled_items lists) (spelled (entries.Held item))
spelled_with [] item = ap (λ (l : List ℕ). l ∷ []) (spelled_one item)
spelled_with (items ∷ []) item = grind (arith, last_filled, leb, spelled_of, spelled_items, spelled, length-spelled, held_spelled)
spelled_with (items ∷ next ∷ more) item = grind (arith, spelled_items, behind, spelled, (spelled_with (next ∷ more) item))

spelled_after : (lists : List (List Held)) (items : List Held) → map spelled_items (fold with_side_item lists items) ≡ cut_after (map spelled_items lists) (as_entries items)
spelled_after lists [] = refl
spelled_after lists (x ∷ items) = grind (arith, as_entries, spelled_with, (spelled_after (with_side_item lists x) items))

-- the side segments of items spell what the main segments of their entries would
pub spelled_cut : (items : List Held) → map spelled_items (cut_items items) ≡ cut (as_entries items)
spelled_cut items = spelled_after [] items
