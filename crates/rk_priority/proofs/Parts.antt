-- The parts of a list of hashes, and a new hash at its end.
use Rattle.std.proofs.Common.{◌≡◌, ◌≢◌, ℕ, zero, suc, ◌<◌, ◌≤◌, false, List, [], ◌∷◌, ◌++◌, length, get_or, take, drop, AllPairs, sym, ap, subst, ◌∙◌, arith}
use Rattle.std.proofs.lemmas.List.{take-append-drop}
use Rattle.std.proofs.lemmas.List.Quantifiers.{all_pairs_push}
use Rattle.std.proofs.lemmas.Bool.{eqb-false, or_parts}
use Rattle.rk_priority.specs.declared.wanted.TheConstants.{BATCH_HASHES}
use Rattle.rk_priority.specs.Hashes.{AreApart, contains}

-- a hash that a list does not have differs from each of its hashes
differs : (hashes : List ℕ) (hash k d : ℕ) → contains hashes hash ≡ false → k < length hashes → get_or hashes k d ≢ hash
differs [] hash k d h w same = omega arith
differs (x ∷ xs) hash zero d h w same = eqb-false x hash (or_parts _ _ h).0 same
differs (x ∷ xs) hash (suc k) d h w same = differs xs hash k d (or_parts _ _ h).1 (omega arith) same

-- so a list of distinct hashes stays distinct with it
pub distinct_push : (hashes : List ℕ) (hash : ℕ) → contains hashes hash ≡ false → AllPairs (λ a b. a ≢ b) hashes → AllPairs (λ a b. a ≢ b) (hashes ++ hash ∷ [])
distinct_push hashes hash h pairs = all_pairs_push (λ a b. a ≢ b) hashes hash pairs (λ k d w. differs hashes hash k d h w)

-- the three parts of a list, one after the other, are the list
pub parts_joined : (first second : ℕ) (hashes : List ℕ) → take first hashes ++ (take second (drop first hashes) ++ drop second (drop first hashes)) ≡ hashes
parts_joined first second hashes = ap (λ t. take first hashes ++ t) (take-append-drop second (drop first hashes)) ∙ take-append-drop first hashes

-- a front part is no longer than was asked for
few_taken : (count : ℕ) (hashes : List ℕ) → length (take count hashes) ≤ count
few_taken zero hashes = omega arith
few_taken (suc count) [] = omega arith
few_taken (suc count) (x ∷ xs) = omega (arith, few_taken count xs)

-- parts of distinct hashes, with a small batch, are apart
pub parts_apart : (first second : ℕ) (hashes : List ℕ) → second ≤ BATCH_HASHES → AllPairs (λ a b. a ≢ b) hashes → AreApart (record { resolved = take first hashes; outstanding = take second (drop first hashes); wanted = drop second (drop first hashes) })
parts_apart first second hashes few pairs = record {
  few = omega (arith, few_taken second (drop first hashes));
  distinct = subst (AllPairs (λ (a b : ℕ). a ≢ b)) (sym (parts_joined first second hashes)) pairs;
}
