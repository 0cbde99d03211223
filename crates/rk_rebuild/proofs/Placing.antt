-- Which ends have their place at a member, as the code tests it.
use Rattle.std.proofs.Common.{◌≡◌, ℕ, ◌+◌, ◌<◌, Bool, true, false, cond, eqb, ltb, not, ◌&&◌, ◌||◌, List, [], ◌∷◌, ◌++◌, take, drop, length, get_or, Option, Some, None, refl, sym, ap, ◌∙◌, arith, append_assoc}
use Rattle.std.specs.List.{flat_map, list_any}
use Rattle.std.proofs.lemmas.Bool.{cond-true, cond-false, and_parts, eqb-true}
use Rattle.std.proofs.lemmas.Bool.Decides.{nat_tests}
use Rattle.std.proofs.lemmas.List.{append-nil, take_more, at_drop_more}
use Rattle.std.proofs.lemmas.List.Folds.{list_any-append}
use Rattle.rk_types.specs.NumberMap.{get}
use Rattle.rk_types.specs.declared.call.Ended.{Ended}
use Rattle.rk_types.proofs.NumberMaps.{get_insert}
use Rattle.rk_done.specs.Completions.{Completions, completions_from, noted}
use Rattle.rk_done.specs.declared.completion.Completion.{Completion}
use Rattle.rk_world.specs.Merge.{ends_by_place, placed_ends, is_placed, is_same_call, is_outrun_by}

or_assoc : (a b c : Bool) → ((a || b) || c) ≡ (a || (b || c))
or_assoc true b c = refl
or_assoc false b c = refl

or_swap : (a b : Bool) → (a || b) ≡ (b || a)
or_swap true true = refl
or_swap true false = refl
or_swap false true = refl
or_swap false false = refl

or_false : (a : Bool) → a ≡ (a || false)
or_false true = refl
or_false false = refl

-- ---- calls that a later one outran

-- whether a completion is of a later call than the one with a seq
abbrev pub outruns : Option Completion → ℕ → Bool
outruns None seq = false
outruns (Some last) seq = ltb seq last.seq

-- what is outrun once one more end is noted
outrun_noted : (last : Completions) (end : Ended) (client seq : ℕ)
    → outruns (get (noted last end) client) seq ≡ (outruns (get last client) seq || (eqb client end.client && ltb seq end.seq))
outrun_noted last end client seq =
    grind (arith, eqb, ltb, eqb-true, get_insert, cond-true, cond-false, or_false, nat_tests, end.client, end.seq, end.end)

-- what is outrun once ends are noted
outrun_from : (last : Completions) (all : List Ended) (end : Ended)
    → outruns (get (completions_from last all) end.client) end.seq ≡ (outruns (get last end.client) end.seq || list_any (is_outrun_by end) all)
outrun_from last [] end = or_false (outruns (get last end.client) end.seq)
outrun_from last (first ∷ all) end = grind (arith, outrun_noted, or_assoc, end.client, end.seq, (outrun_from (noted last first) all end))

-- a later call is among the ends if the last completion outruns it
pub outrun_told : (last : Completions) (all : List Ended) (end : Ended) → last ≡ completions_from [] all
    → outruns (get last end.client) end.seq ≡ list_any (is_outrun_by end) all
outrun_told last all end is = ap (λ (c : Completions). outruns (get c end.client) end.seq) is ∙ outrun_from [] all end

-- ---- the same call

-- an end without a place here was recorded, unless it is outrun
told_before : (all later seen : List Ended) (first end : Ended) → list_any (is_outrun_by end) all ≡ false → is_placed all later seen first ≡ false
    → is_same_call end first ≡ true → list_any (is_same_call end) (later ++ seen) ≡ true
told_before all later seen first end free out same = grind (arith, and_parts, eqb, eqb-true, ltb)

-- of a call that none outran, an end was recorded before, or has its place, if it is recorded
placed_told : (all later seen ends : List Ended) (end : Ended) → list_any (is_outrun_by end) all ≡ false
    → (list_any (is_same_call end) (later ++ seen) || list_any (is_same_call end) (placed_ends all later seen ends))
    ≡ list_any (is_same_call end) (later ++ (seen ++ ends))
placed_told all later seen [] end free = grind (arith, or_false, append-nil)
placed_told all later seen (first ∷ ends) end free =
    grind (
      arith,
      append_assoc,
      list_any-append,
      or_false,
      told_before,
      or_assoc,
      (placed_told all later (seen ++ first ∷ []) ends end free),
    )

-- an end of a call that none outran has its place at some member if it is recorded
pub place_told : (all : List Ended) (members : List (List Ended)) (end : Ended) → list_any (is_outrun_by end) all ≡ false
    → list_any (is_same_call end) (ends_by_place all members) ≡ list_any (is_same_call end) (flat_map (λ ends. ends) members)
place_told all [] end free = refl
place_told all (ends ∷ members) end free =
    let later : List Ended = flat_map (λ told. told) members in
    let here : List Ended = placed_ends all later [] ends in
    let same : Ended → Bool = is_same_call end in
    list_any-append same here (ends_by_place all members)
    ∙ ap (λ (b : Bool). list_any same here || b) (place_told all members end free)
    ∙ or_swap (list_any same here) (list_any same later)
    ∙ ap (λ (xs : List Ended). list_any same xs || list_any same here) (sym (append-nil later))
    ∙ placed_told all later [] ends end free
    ∙ list_any-append same later ends
    ∙ or_swap (list_any same later) (list_any same ends)
    ∙ sym (list_any-append same ends later)

-- ---- what the code tests

-- a call that a later one outran has no place
pub outrun_unplaced : (all later seen : List Ended) (end : Ended) → list_any (is_outrun_by end) all ≡ true → false ≡ is_placed all later seen end
outrun_unplaced all later seen end outrun = ap (λ (b : Bool). not b && not (list_any (is_same_call end) (later ++ seen))) (sym outrun)

-- another call has its place if it was not recorded before
pub placed_where : (all seen : List Ended) (members : List (List Ended)) (end : Ended) (there here : List Ended)
    → list_any (is_outrun_by end) all ≡ false → there ≡ ends_by_place all members
    → here ≡ placed_ends all (flat_map (λ ends. ends) members) [] seen
    → not (list_any (is_same_call end) there || list_any (is_same_call end) here) ≡ is_placed all (flat_map (λ ends. ends) members) seen end
placed_where all seen members end there here free there_is here_is =
    let later : List Ended = flat_map (λ ends. ends) members in
    let same : Ended → Bool = is_same_call end in
    ap not (
    (λ i. list_any same (there_is i) || list_any same (here_is i))
    ∙ ap (λ (b : Bool). b || list_any same (placed_ends all later [] seen)) (place_told all members end free)
    ∙ ap (λ (xs : List Ended). list_any same xs || list_any same (placed_ends all later [] seen)) (sym (append-nil later))
    ∙ placed_told all later [] seen end free
    )
    ∙ ap (λ (b : Bool). not b && not (list_any same (later ++ seen))) (sym free)

-- ---- one more end

-- the ends that have their place here, with more behind
placed-append : (all later seen xs ys : List Ended) → placed_ends all later seen (xs ++ ys) ≡ placed_ends all later seen xs ++ placed_ends all later (seen ++ xs) ys
placed-append all later seen [] ys = ap (λ (s : List Ended). placed_ends all later s ys) (sym (append-nil seen))
placed-append all later seen (first ∷ xs) ys = grind (arith, append_assoc, (placed-append all later (seen ++ first ∷ []) xs ys))

-- one more end of the member, which has its place there or not
placed_more : (all later told : List Ended) (i : ℕ) (d : Ended) → i < length told
    → placed_ends all later [] (take (i + 1) told)
    ≡ placed_ends all later [] (take i told) ++ cond (is_placed all later (take i told) (get_or told i d)) (get_or told i d ∷ []) []
placed_more all later told i d within =
    ap (placed_ends all later []) (take_more told i d within)
    ∙ placed-append all later [] (take i told) (get_or told i d ∷ [])

pub placed_here : (all later told before : List Ended) (i : ℕ) (d : Ended) → i < length told → before ≡ placed_ends all later [] (take i told)
    → is_placed all later (take i told) (get_or told i d) ≡ true → before ++ get_or told i d ∷ [] ≡ placed_ends all later [] (take (i + 1) told)
placed_here all later told before i d within was here =
    ap (λ (xs : List Ended). xs ++ get_or told i d ∷ []) was
    ∙ ap (λ (b : Bool). placed_ends all later [] (take i told) ++ cond b (get_or told i d ∷ []) []) (sym here)
    ∙ sym (placed_more all later told i d within)

pub placed_elsewhere : (all later told before : List Ended) (i : ℕ) (d : Ended) → i < length told → before ≡ placed_ends all later [] (take i told)
    → is_placed all later (take i told) (get_or told i d) ≡ false → before ≡ placed_ends all later [] (take (i + 1) told)
placed_elsewhere all later told before i d within was elsewhere =
    was ∙ sym (append-nil (placed_ends all later [] (take i told)))
    ∙ ap (λ (b : Bool). placed_ends all later [] (take i told) ++ cond b (get_or told i d ∷ []) []) (sym elsewhere)
    ∙ sym (placed_more all later told i d within)

-- ---- ends noted

-- ends are noted in a row
pub completions-append : (last : Completions) (xs ys : List Ended) → completions_from last (xs ++ ys) ≡ completions_from (completions_from last xs) ys
completions-append last [] ys = refl
completions-append last (first ∷ xs) ys = completions-append (noted last first) xs ys

-- the ends of one more member are noted
pub noted_more : (last : Completions) (told : List (List Ended)) (i : ℕ) (ends : List Ended) → i < length told → ends ≡ get_or told i ends
    → completions_from last (flat_map (λ es. es) (drop i told)) ≡ completions_from (completions_from last ends) (flat_map (λ es. es) (drop (i + 1) told))
noted_more last told i ends within is =
    at_drop_more (λ (rest : List (List Ended)). completions_from last (flat_map (λ es. es) rest)) told i ends within
    ∙ ap (λ (es : List Ended). completions_from last (es ++ flat_map (λ es. es) (drop (i + 1) told))) (sym is)
    ∙ completions-append last ends (flat_map (λ es. es) (drop (i + 1) told))
