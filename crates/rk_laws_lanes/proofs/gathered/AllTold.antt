-- Counted receipts are all: each accepted record is that of a receipt.
use Rattle.std.proofs.Common.{◌≡◌, ◌≢◌, ℕ, ◌+◌, ◌≤◌, true, List, [], ◌∷◌, Some, length, ap, subst, arith, Contains, map, slice_get, All}
use Rattle.std.proofs.Common.{AllPairs}
use Rattle.rk_inv_base.proofs.Words.{length-map, All-contains, All-map, All-weaker, Placed, Receipt, journal_of, Answered}
use Rattle.std.specs.Prelude.{IsPermutation}
use Rattle.std.proofs.lemmas.List.Sorted.{Contains-permutation, IsPermutation-sym}
use Rattle.std.proofs.lemmas.List.Kept.{AllPairs-cons}
use Rattle.rk_model.specs.Ordered.{IsRecorded, told_by}
use Rattle.rk_laws_lanes.specs.gathered.Answers.{AreOfDistinctCalls, IsSameCall, accepted_answers, accepted_in, answer_in}
use Rattle.rk_laws_lanes.proofs.gathered.Accepted.{answer_stands, length_answers, told_stands}
use Rattle.rk_laws_lanes.proofs.gathered.Pairs.{pairs_head, pairs_none, pairs_tail}
use Rattle.rk_laws_lanes.proofs.gathered.Pigeonhole.{all_of_them}

-- answers of distinct calls are distinct
answers_apart : (receipts : List Receipt) → AreOfDistinctCalls receipts → AllPairs (λ a b. a ≢ b) (map told_by receipts)
answers_apart [] apart = pairs_none (λ (a b : Answered). a ≢ b)
answers_apart (receipt ∷ receipts) apart =
    let Apart : Receipt → Receipt → Type 0 = λ a b. IsSameCall a.call b.call → ⊥ in
    AllPairs-cons (λ (a b : Answered). a ≢ b) (told_by receipt) (map told_by receipts)
    (All-map (λ (b : Answered). told_by receipt ≢ b) told_by receipts
    (All-weaker (Apart receipt) (λ (r : Receipt). told_by receipt ≢ told_by r)
    (λ r other is. other (ap (λ (a : Answered). a.call.client) is, ap (λ (a : Answered). a.call.seq) is)) receipts
    (pairs_head Apart receipt receipts apart)))
    (answers_apart receipts (pairs_tail Apart receipt receipts apart))

module _ (journals : List (List Placed)) (receipts : List Receipt) (apart : AreOfDistinctCalls receipts) (recorded : All (IsRecorded journals) receipts) (few : accepted_in journals ≤ length receipts) where
  pub all_told : IsPermutation (map told_by receipts) (accepted_answers journals)
  all_told =
      let many = length-map receipts told_by in
      let long = length_answers 0 journals in
      all_of_them (map told_by receipts) (accepted_answers journals) (answers_apart receipts apart)
      (λ answer stands. All-contains (Contains (accepted_answers journals)) (map told_by receipts) answer
      (All-map (Contains (accepted_answers journals)) told_by receipts
      (All-weaker (IsRecorded journals) (λ (r : Receipt). Contains (accepted_answers journals) (told_by r))
      (told_stands journals) receipts recorded)) stands)
      (omega (arith, many, long, few))

  -- so an accepted record has its receipt
  pub each_told : (lane place : ℕ) (placed : Placed) → slice_get (journal_of journals lane) place ≡ Some placed → placed.accepted ≡ true
      → Contains (map told_by receipts) (answer_in lane placed)
  each_told lane place placed at accepted =
      let is : 0 + lane ≡ lane = omega arith in
      Contains-permutation (accepted_answers journals) (map told_by receipts) (answer_in lane placed)
      (IsPermutation-sym (map told_by receipts) (accepted_answers journals) all_told)
      (subst (λ (l : ℕ). Contains (accepted_answers journals) (answer_in l placed)) is
      (answer_stands 0 lane place journals placed at accepted))
