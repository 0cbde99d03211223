-- How the segments of all workers are handed out, one worker after the other.
use Rattle.rk_side_log.proofs.Words.{◌≡◌, ℕ, zero, suc, ◌+◌, ◌<◌, ◌≤◌, List, [], ◌∷◌, ◌++◌, length, map, get_or, set, take, drop, replicate}
use Rattle.rk_side_log.proofs.Words.{refl, sym, ap, ◌∙◌, arith, append_assoc, append-nil, map-append, Held, cut_items, sealed_sides, Side}
use Rattle.rk_side_log.proofs.Words.{no_side, items_of_each, made_in, spelled_items, unsealed_in}
use Rattle.std.proofs.lemmas.List.{map_push, take_more, take_more_set, replicate_more, drop-drop, drop-set-lt, get_or-drop}
use Rattle.std.proofs.lemmas.List.Concat.{flat_map-append}
use Rattle.std.proofs.lemmas.List.Folds.{sum_by-replicate}
use Rattle.std.proofs.lemmas.List.Sums.{sum_by-drop_more}
use Rattle.rk_side_log.proofs.Cutting.{spelled_none, sum_first}

-- the worker at a place is the worker that was there
pub same_there : (before now : List Side) (i : ℕ) (d : Side) → drop i now ≡ drop i before → get_or now i d ≡ get_or before i d
same_there before now i d same =
    ap (λ (n : ℕ). get_or now n d) (omega arith) ∙ sym (get_or-drop i now 0 d) ∙ ap (λ (l : List Side). get_or l 0 d) same ∙ get_or-drop i before 0 d
    ∙ ap (λ (n : ℕ). get_or before n d) (omega arith)

-- the segments of one more worker
pub sealed_more : (sides : List Side) (i : ℕ) (d : Side) (start before now : List (List ℕ)) → i < length sides → before ≡ start ++ map spelled_items (sealed_sides (items_of_each (take i sides)))
    → now ≡ before ++ map spelled_items (cut_items (get_or sides i d).items) → now ≡ start ++ map spelled_items (sealed_sides (items_of_each (take (i + 1) sides)))
sealed_more sides i d start before now within so_far is =
    let front : List (List Held) = items_of_each (take i sides) in
    let next : List Held = (get_or sides i d).items in
    let lists : items_of_each (take (i + 1) sides) ≡ front ++ next ∷ [] =
    ap items_of_each (take_more sides i d within) ∙ map_push (λ (s : Side). s.items) (take i sides) (get_or sides i d) in
    let segments : sealed_sides (items_of_each (take (i + 1) sides)) ≡ sealed_sides front ++ cut_items next =
    ap sealed_sides lists ∙ flat_map-append cut_items front (next ∷ []) ∙ ap (λ (l : List (List Held)). sealed_sides front ++ l) (append-nil (cut_items next)) in
    is ∙ ap (λ (l : List (List ℕ)). l ++ map spelled_items (cut_items next)) so_far
    ∙ append_assoc start (map spelled_items (sealed_sides front)) (map spelled_items (cut_items next))
    ∙ ap (λ (l : List (List ℕ)). start ++ l) (sym (map-append spelled_items (sealed_sides front) (cut_items next)))
    ∙ ap (λ (l : List (List Held)). start ++ map spelled_items l) (sym segments)

-- the room that is left
pub room_more : (sides : List Side) (i : ℕ) (d : Side) (size size' capacity capacity' : ℕ) → i < length sides → size + made_in (drop i sides) ≤ capacity → size' ≤ size + (get_or sides i d).made
    → capacity ≤ capacity' → size' + made_in (drop (i + 1) sides) ≤ capacity'
room_more sides i d size size' capacity capacity' within room few grown = omega (arith, sum_by-drop_more (λ (s : Side). s.made) sides i d within)

-- the others stay
pub drop_more_set : (before now : List Side) (i : ℕ) (new : Side) → drop i now ≡ drop i before → drop (i + 1) (set now i new) ≡ drop (i + 1) before
drop_more_set before now i new same =
    drop-set-lt (i + 1) now i new (omega arith) ∙ sym (drop-drop 1 i now) ∙ ap (drop 1) same ∙ drop-drop 1 i before

-- and one more has nothing
pub take_more_none : (now : List Side) (i : ℕ) (new : Side) → i < length now → take i now ≡ replicate i no_side → new ≡ no_side → take (i + 1) (set now i new) ≡ replicate (i + 1) no_side
take_more_none now i new within so_far none =
    take_more_set now i new within ∙ (λ j. so_far j ++ none j ∷ []) ∙ replicate_more i no_side

-- ---- workers that have nothing

pub made_none : (count : ℕ) → made_in (replicate count no_side) ≡ 0
made_none count = sum_by-replicate (λ (s : Side). s.made) count no_side ∙ omega arith

pub unsealed_no_sides : (count : ℕ) → unsealed_in (items_of_each (replicate count no_side)) ≡ 0
unsealed_no_sides zero = refl
unsealed_no_sides (suc count) = grind (arith, sum_first, spelled_items, items_of_each, no_side, spelled_none, (unsealed_no_sides count))
