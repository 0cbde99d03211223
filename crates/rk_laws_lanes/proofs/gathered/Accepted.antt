-- The answers that recorded receipts report are among those of the accepted records.
use Rattle.std.proofs.Common.{◌≡◌, ℕ, zero, suc, ◌+◌, true, List, [], ◌∷◌, ◌++◌, Some, length, length-append, refl, sym, subst, arith}
use Rattle.std.proofs.Common.{Contains, filter, map, slice_get}
use Rattle.rk_inv_base.proofs.Words.{length-map, Contains-append_left, Contains-append_right, sum_by-cons, Placed, Receipt, journal_of}
use Rattle.rk_inv_base.proofs.Words.{Answered}
use Rattle.std.specs.List.{count_by}
use Rattle.std.proofs.lemmas.List.Sums.{length-filter}
use Rattle.rk_model.specs.Ordered.{IsRecorded, told_by}
use Rattle.rk_inv_wellformed.proofs.maps.Lists.{either_way}
use Rattle.rk_laws_lanes.specs.gathered.Answers.{accepted_answers, accepted_in, answer_in, answers_from}
use Rattle.rk_laws_lanes.proofs.gathered.Pigeonhole.{first_in, later_in}

abbrev accepted_of : List Placed → ℕ
accepted_of journal = count_by (λ placed. placed.accepted) journal

-- as many as they are
pub length_answers : (lane : ℕ) (journals : List (List Placed)) → length (answers_from lane journals) ≡ accepted_in journals
length_answers lane [] = refl
length_answers lane (journal ∷ journals) =
    search (length-append, length-map, length-filter, sum_by-cons, (length_answers (lane + 1) journals))

-- an accepted record of a journal
accepted_stands : (lane : ℕ) (journal : List Placed) (place : ℕ) (placed : Placed) → slice_get journal place ≡ Some placed
    → placed.accepted ≡ true
    → Contains (map (answer_in lane) (filter (λ placed. placed.accepted) journal)) (answer_in lane placed)
accepted_stands lane [] place placed at accepted = absurd (cc at)
accepted_stands lane (first ∷ rest) zero placed at accepted = grind (arith, first_in, first.accepted, placed.accepted)
accepted_stands lane (first ∷ rest) (suc place) placed at accepted =
    let later = accepted_stands lane rest place placed at accepted in
    let others : List Placed = filter (λ placed. placed.accepted) rest in
    either_way (λ (kept : List Placed). Contains (map (answer_in lane) kept) (answer_in lane placed)) first.accepted
    (later_in (answer_in lane first) (map (answer_in lane) others) (answer_in lane placed) later) later

-- an accepted record of one of the journals
pub answer_stands : (start lane place : ℕ) (journals : List (List Placed)) (placed : Placed)
    → slice_get (journal_of journals lane) place ≡ Some placed → placed.accepted ≡ true
    → Contains (answers_from start journals) (answer_in (start + lane) placed)
answer_stands start lane place [] placed at accepted = absurd (cc at)
answer_stands start zero place (journal ∷ journals) placed at accepted =
    let own : List Answered = map (answer_in start) (filter (λ placed. placed.accepted) journal) in
    let is : start + 0 ≡ start = omega arith in
    subst (λ (lane : ℕ). Contains (own ++ answers_from (start + 1) journals) (answer_in lane placed)) (sym is)
    (Contains-append_left own (answers_from (start + 1) journals) (answer_in start placed)
    (accepted_stands start journal place placed at accepted))
answer_stands start (suc lane) place (journal ∷ journals) placed at accepted =
    let own : List Answered = map (answer_in start) (filter (λ placed. placed.accepted) journal) in
    let is : start + 1 + lane ≡ start + suc lane = omega arith in
    subst (λ (lane : ℕ). Contains (own ++ answers_from (start + 1) journals) (answer_in lane placed)) is
    (Contains-append_right own (answers_from (start + 1) journals) (answer_in (start + 1 + lane) placed)
    (answer_stands (start + 1) lane place journals placed at accepted))

-- so what a recorded receipt reports is among the accepted answers
pub told_stands : (journals : List (List Placed)) (receipt : Receipt) → IsRecorded journals receipt
    → Contains (accepted_answers journals) (told_by receipt)
told_stands journals receipt at =
    let is : 0 + receipt.lane ≡ receipt.lane = omega arith in
    let placed : Placed = record { call = receipt.call; outcome = receipt.outcome; stamp = receipt.stamp; accepted = true } in
    subst (λ (lane : ℕ). Contains (accepted_answers journals) (answer_in lane placed)) is
    (answer_stands 0 receipt.lane receipt.place journals placed at refl)
