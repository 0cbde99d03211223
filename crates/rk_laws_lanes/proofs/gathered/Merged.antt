-- If each record of a mutation is accepted, the merged history has the accepted records and nothing else.
use Rattle.std.proofs.Common.{arith, ◌≡◌, ℕ, suc, ◌+◌, Bool, true, ◌||◌, cond, List, [], ◌∷◌, ◌++◌, refl, ap, ◌∙◌, subst, filter, map, All}
use Rattle.rk_inv_base.proofs.Words.{map-append, All-head, All-tail, Placed, Line, is_mutation, Answered}
use Rattle.std.specs.Prelude.{IsPermutation}
use Rattle.std.proofs.lemmas.List.Sorted.{IsPermutation-cons, IsPermutation-map, IsPermutation-middle, IsPermutation-refl}
use Rattle.std.proofs.lemmas.List.Sorted.{IsPermutation-sym, IsPermutation-trans}
use Rattle.rk_model.specs.Merged.{in_order, is_before, is_kept, lines_from, lines_of, merged, put_in_order}
use Rattle.rk_model.specs.Ordered.{answer_of}
use Rattle.rk_inv_wellformed.proofs.maps.Lists.{either_way}
use Rattle.rk_laws_lanes.specs.gathered.Answers.{MutationsAreAccepted, accepted_answers, answer_in, answers_from}

-- ---- lines in order are the same lines

put_among : (line : Line) (lines : List Line) → IsPermutation (line ∷ lines) (put_in_order line lines)
put_among line [] = IsPermutation-refl (line ∷ [])
put_among line (first ∷ lines) =
    either_way (IsPermutation (line ∷ first ∷ lines)) (is_before line first) (IsPermutation-refl (line ∷ first ∷ lines))
    (IsPermutation-trans (line ∷ first ∷ lines) (first ∷ line ∷ lines) (first ∷ put_in_order line lines)
    (IsPermutation-sym (first ∷ line ∷ lines) (line ∷ first ∷ lines) (IsPermutation-middle (first ∷ []) line lines))
    (IsPermutation-cons first (line ∷ lines) (put_in_order line lines) (put_among line lines)))

ordered_among : (lines : List Line) → IsPermutation lines (in_order lines)
ordered_among [] = IsPermutation-refl []
ordered_among (line ∷ lines) =
    IsPermutation-trans (line ∷ lines) (line ∷ in_order lines) (in_order (line ∷ lines))
    (IsPermutation-cons line lines (in_order lines) (ordered_among lines)) (put_among line (in_order lines))

-- ---- the lines of journals

-- a record that is kept is accepted, if each record of a mutation is
kept_is_accepted : (accepted mutation : Bool) → (mutation ≡ true → accepted ≡ true) → (accepted || mutation) ≡ accepted
kept_is_accepted accepted mutation is = grind arith

kept_are_accepted : (journal : List Placed) → All (λ placed. is_mutation placed.call.op ≡ true → placed.accepted ≡ true) journal
    → filter is_kept journal ≡ filter (λ placed. placed.accepted) journal
kept_are_accepted [] all = refl
kept_are_accepted (placed ∷ journal) all =
    let Accepted : Placed → Type 0 = λ placed. is_mutation placed.call.op ≡ true → placed.accepted ≡ true in
    let same = kept_is_accepted placed.accepted (is_mutation placed.call.op) (All-head Accepted placed journal all) in
    let rest = kept_are_accepted journal (All-tail Accepted placed journal all) in
    λ i. cond (same i) (placed ∷ rest i) (rest i)

mapped_twice : (lane : ℕ) (journal : List Placed)
    → map answer_of (map (λ placed. record { lane = lane; placed = placed }) journal) ≡ map (answer_in lane) journal
mapped_twice lane [] = refl
mapped_twice lane (placed ∷ journal) = ap (λ (answers : List Answered). answer_in lane placed ∷ answers) (mapped_twice lane journal)

answers_of_lines : (start : ℕ) (journals : List (List Placed)) → MutationsAreAccepted journals
    → map answer_of (lines_from start journals) ≡ answers_from start journals
answers_of_lines start [] all = refl
answers_of_lines start (journal ∷ journals) all =
    let own = mapped_twice start (filter is_kept journal) ∙ ap (map (answer_in start)) (kept_are_accepted journal (all 0)) in
    let rest = answers_of_lines (start + 1) journals (λ lane. all (suc lane)) in
    map-append answer_of (lines_of start journal) (lines_from (start + 1) journals) ∙ (λ i. own i ++ rest i)

-- so the merged history has the accepted answers
pub merged_answers : (journals : List (List Placed)) → MutationsAreAccepted journals
    → IsPermutation (accepted_answers journals) (map answer_of (merged journals))
merged_answers journals all =
    subst (λ (answers : List Answered). IsPermutation answers (map answer_of (merged journals))) (answers_of_lines 0 journals all)
    (IsPermutation-map answer_of (lines_from 0 journals) (merged journals) (ordered_among (lines_from 0 journals)))
