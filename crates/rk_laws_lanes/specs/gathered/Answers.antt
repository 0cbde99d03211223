-- The answers that journals have accepted, and those that receipts report.
use Rattle.std.specs.Prelude.{◌≡◌, ℕ, ◌+◌, true, All, IsPermutation, List, [], ◌∷◌, ◌++◌, filter, map}
use Rattle.std.specs.List.{AllPairs, count_by, sum_by}
use Rattle.rk_types.specs.declared.call.Call.{Call}
use Rattle.rk_types.specs.declared.history.Placed.{Placed}
use Rattle.rk_types.specs.declared.history.Receipt.{Receipt}
use Rattle.rk_model.specs.Merged.{is_mutation, journal_of, merged}
use Rattle.rk_model.specs.Ordered.{Answered, IsNumberedFrom, answer_of, told_by}

-- ---- journals

-- the answer that a record of a lane has
abbrev pub answer_in : ℕ → Placed → Answered
answer_in lane placed = answer_of (record { lane = lane; placed = placed })

-- the answers of the accepted records of journals, of which the first is of this lane, and each later one of the next
abbrev pub answers_from : ℕ → List (List Placed) → List Answered
answers_from lane [] = []
answers_from lane (journal ∷ journals) =
    map (answer_in lane) (filter (λ placed. placed.accepted) journal) ++ answers_from (lane + 1) journals

-- the answers of the accepted records of journals, of which the first is of lane 0
abbrev pub accepted_answers : List (List Placed) → List Answered
accepted_answers journals = answers_from 0 journals

-- how many records of journals are accepted
abbrev pub accepted_in : List (List Placed) → ℕ
accepted_in journals = sum_by (λ journal. count_by (λ placed. placed.accepted) journal) journals

-- each record of a mutation is accepted
abbrev pub MutationsAreAccepted : List (List Placed) → Type 0
MutationsAreAccepted journals =
    (lane : ℕ) → All (λ placed. is_mutation placed.call.op ≡ true → placed.accepted ≡ true) (journal_of journals lane)

-- ---- receipts

-- the receipts of a client are of its own calls, with the seqs 1, 2, 3 and so on
pub record AreOwn (client : ℕ) (receipts : List Receipt) : Type 0 where
  pub numbered : IsNumberedFrom 1 receipts
  pub calls : All (λ receipt. receipt.call.client ≡ client) receipts

-- two calls are one, by their client and seq
abbrev pub IsSameCall : Call → Call → Type 0
IsSameCall a b = (a.client ≡ b.client) × (a.seq ≡ b.seq)

-- no two receipts are of one call
abbrev pub AreOfDistinctCalls : List Receipt → Type 0
AreOfDistinctCalls receipts = AllPairs (λ a b. IsSameCall a.call b.call → ⊥) receipts

-- the merged history of journals has the answer of each receipt once, and nothing else
abbrev pub HasJustTheAnswers : List (List Placed) → List Receipt → Type 0
HasJustTheAnswers journals receipts = IsPermutation (map told_by receipts) (map answer_of (merged journals))
