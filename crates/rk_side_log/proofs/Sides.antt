-- The side logs of all workers, and a change of one.
use Rattle.rk_side_log.proofs.Words.{◌≡◌, ℕ, ◌+◌, ◌<◌, List, [], ◌∷◌, length, get_or, set, ap, arith, length-map, Held, side_replayed, Side}
use Rattle.rk_side_log.proofs.Words.{items_of_each, made_in, spelled_items, unsealed_in}
use Rattle.std.proofs.Common.{get_or-set_same}
use Rattle.std.proofs.lemmas.List.{map-set, get_or-map, set-get_or}
use Rattle.std.proofs.lemmas.List.Sums.{sum-map, sum_by-set}
use Rattle.rk_side_log.proofs.Cutting.{spelled_none}

-- the items of one worker
pub items_at : (sides : List Side) (worker : ℕ) (d : Side) → worker < length sides → get_or (items_of_each sides) worker [] ≡ (get_or sides worker d).items
items_at sides worker d within = get_or-map (λ (s : Side). s.items) sides worker d [] within

-- a worker has the items that it had
pub same_items : (sides : List Side) (worker : ℕ) (d now : Side) → now.items ≡ (get_or sides worker d).items → worker < length sides → items_of_each (set sides worker now) ≡ items_of_each sides
same_items sides worker d now same within = grind (arith, map-set, items_of_each, items_at, set-get_or)

-- a worker has other items
pub items_set : (sides : List Side) (worker : ℕ) (now : Side) → items_of_each (set sides worker now) ≡ set (items_of_each sides) worker now.items
items_set sides worker now = map-set (λ (s : Side). s.items) sides worker now

-- ---- a worker replays items

-- the bytes that it adds are counted
pub unsealed_more : (sides : List Side) (worker bytes more : ℕ) (d now : Side) → worker < length sides → bytes ≡ unsealed_in (items_of_each sides)
    → length (spelled_items now.items) ≡ length (spelled_items (get_or sides worker d).items) + more → bytes + more ≡ unsealed_in (items_of_each (set sides worker now))
unsealed_more sides worker bytes more d now within counted added =
    grind (arith, spelled_items, items_at, unsealed_in, items_set, items_of_each, length-map, sum-map, sum_by-set)

-- no segment is made
pub made_same : (sides : List Side) (worker : ℕ) (d now : Side) → worker < length sides → now.made ≡ (get_or sides worker d).made → made_in (set sides worker now) ≡ made_in sides
made_same sides worker d now within same = omega (arith, sum_by-set (λ (s : Side). s.made) sides worker now d within, same)

-- the items of all are those of before, but for its own
pub replayed_set : (lists : List (List Held)) (sides : List Side) (worker : ℕ) (d now : Side) (records records' items : List Held) → worker < length sides → items_of_each sides ≡ lists → records ≡ records'
    → now.items ≡ (side_replayed records (get_or sides worker d).items items).items
    → items_of_each (set sides worker now) ≡ set lists worker (side_replayed records' (get_or lists worker []) items).items
replayed_set lists sides worker d now records records' items within seen same is = grind (arith, items_set, side_replayed, items_at)

-- its items are so many more
pub count_set : (lists : List (List Held)) (sides : List Side) (worker more : ℕ) (d now : Side) → worker < length sides → items_of_each sides ≡ lists
    → length now.items ≡ length (get_or sides worker d).items + more → length (get_or (items_of_each (set sides worker now)) worker []) ≡ length (get_or lists worker []) + more
count_set lists sides worker more d now within seen count = grind (arith, items_of_each, items_set, get_or-set_same, length-map, items_at)

-- nothing takes no bytes
pub unsealed_none : unsealed_in ([] ∷ [] ∷ [] ∷ [] ∷ []) ≡ 0
unsealed_none = ap (λ (n : ℕ). 0 + n + n + n + n) (ap length spelled_none)
