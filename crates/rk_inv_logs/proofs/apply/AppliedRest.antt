-- What is staged of a row counts for its range, and is staged still with a record of another client.
use Rattle.std.proofs.Common.{arith, ◌≡◌, ℕ, true, List, [], ◌∷◌, ◌++◌, Option, sym, ◌≢◌, All}
use Rattle.rk_inv_base.proofs.Words.{All-cons, All-contains, All-nil, filter_passes, Ended, Placed, Member, Range, Entry, Base, counts}
use Rattle.rk_inv_base.proofs.Words.{unmarked_from, Written, lineage_rest, LastCall, IsStaged, call_end, call_ends}
use Rattle.rk_inv_logs.proofs.Words.{all_by, flat_of}
use Rattle.rk_inv_logs.proofs.made.LastCalls.{AreOfOthers, still_staged}

module _ (base : Base) (journal : List Placed) (asked : ℕ → Option LastCall) (new : Placed) where
  pub all_staged : (rest : List Entry) → All (λ end. end.client ≢ new.call.client) (call_ends rest) → All (IsStaged base asked journal) rest → All (IsStaged base asked (journal ++ new ∷ [])) rest
  all_staged rest other staged =
      all_by (IsStaged base asked (journal ++ new ∷ [])) rest (λ entry at.
      still_staged base journal (new ∷ []) asked entry
      (all_by (AreOfOthers base journal (new ∷ []) asked) (call_end entry) (λ end there.
      All-cons (λ (placed : Placed). placed.call.client ≢ end.client) new []
      (λ same.
      All-contains (λ (e : Ended). e.client ≢ new.call.client) (call_ends rest) end other (flat_of call_end rest entry end at there)
      (sym same))
      (All-nil (λ (placed : Placed). placed.call.client ≢ end.client))))
      (All-contains (IsStaged base asked journal) rest entry staged at))

-- each entry of a rest counts for its range
pub rest_counts : (written : ℕ → Written) (range : Range) (lineage : List Member) → All (λ entry. counts range entry ≡ true) (lineage_rest written range lineage)
rest_counts written range [] = All-nil (λ entry. counts range entry ≡ true)
rest_counts written range (only ∷ []) = grind (arith, filter_passes, counts, unmarked_from, only.master, only.from)
rest_counts written range (first ∷ next ∷ more) = rest_counts written range (next ∷ more)
