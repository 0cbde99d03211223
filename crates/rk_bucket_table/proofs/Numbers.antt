-- The number of a chain: it does not fall along scan order.
use Rattle.rk_bucket_table.proofs.Words.{◌≡◌, ℕ, ◌*◌, ◌^◌, ◌<◌, ◌≤◌, ◌⊎◌, true, false, List, [], ◌∷◌, refl, sym, ap, inl, inr, ⊎_elim}
use Rattle.rk_bucket_table.proofs.Words.{arith, cases_lt, Held, hash_of, item_bucket, item_hash, place_of, comes_before, chain_of}
use Rattle.std.proofs.Common.{◌/◌, ◌%◌}
use Rattle.std.specs.Prelude.{bit_xor, fold}
use Rattle.std.specs.Ordering.{nat_cmp, ordering_then, is_lt}
use Rattle.std.specs.declared.cmp.Ordering.{Ordering}
use Rattle.std.proofs.lemmas.Cmp.{ranked}
use Rattle.std.proofs.lemmas.Nat.{div_below, mod_below, mul-add-lt, mul-le, row_fits}
use Rattle.rk_types.specs.declared.hashing.TheConstants.{BUCKETS, HASH_PRIME, HASH_START}
use Rattle.rk_types.specs.Hashing.{bucket_of}

-- a hash has 64 bits
folded_below : (bytes : List ℕ) (hash : ℕ) → hash < 2 ^ 64 → fold (λ hash byte. (bit_xor hash byte * HASH_PRIME) % 2 ^ 64) hash bytes < 2 ^ 64
folded_below [] hash below = below
folded_below (byte ∷ bytes) hash below =
    folded_below bytes ((bit_xor hash byte * HASH_PRIME) % 2 ^ 64) (mod_below (bit_xor hash byte * HASH_PRIME) (2 ^ 64) (omega arith))

pub hash_below : (bytes : List ℕ) → hash_of bytes < 2 ^ 64
unfolding hash_of
hash_below bytes = folded_below bytes HASH_START (omega arith)

module _ (per_bucket : ℕ) (some : 0 < per_bucket) where
  abbrev pub chain_in_bucket : ℕ → ℕ
  chain_in_bucket hash = (hash / 2 ^ 32) * per_bucket / 2 ^ 32

  in_bucket_below : (hash : ℕ) → hash < 2 ^ 64 → chain_in_bucket hash < per_bucket
  in_bucket_below hash below = grind (arith, div_below, mul-le)

  in_bucket_rises : (a b : ℕ) → a ≤ b → chain_in_bucket a ≤ chain_in_bucket b
  in_bucket_rises a b less = omega (arith, mul-le (a / 2 ^ 32) per_bucket (b / 2 ^ 32) per_bucket (omega arith) (omega arith))

  -- there is such a chain
  pub chain_below : (hash : ℕ) → hash < 2 ^ 64 → chain_of per_bucket hash < BUCKETS * per_bucket
  chain_below hash below =
      omega (arith, mul-add-lt (bucket_of hash) per_bucket (chain_in_bucket hash) BUCKETS (omega arith) (in_bucket_below hash below))

  pub bucket_from : (bucket hash : ℕ) → hash < 2 ^ 64 → bucket * per_bucket ≤ chain_of per_bucket hash → bucket ≤ bucket_of hash
  bucket_from bucket hash below from = grind (arith, row_fits, in_bucket_below, cases_lt)

  -- a hash of a lesser chain has a lesser bucket, or the same and is less
  pub chain_less : (a b : ℕ) → a < 2 ^ 64 → b < 2 ^ 64 → chain_of per_bucket a < chain_of per_bucket b
      → (bucket_of a < bucket_of b) ⊎ ((bucket_of a ≡ bucket_of b) × (a < b))
  chain_less a b a_below b_below less =
      ⊎_elim
      (λ (lesser : bucket_of a < bucket_of b). inl lesser)
      (λ (no_less : bucket_of b ≤ bucket_of a).
      ⊎_elim
      (λ (greater : bucket_of b < bucket_of a).
      absurd (omega (arith, row_fits (bucket_of b) per_bucket (bucket_of a) per_bucket greater (omega arith), in_bucket_below b b_below)))
      (λ (no_greater : bucket_of a ≤ bucket_of b).
      let same : bucket_of a ≡ bucket_of b = omega arith in
      ⊎_elim
      (λ (before : a < b). inr (same, before))
      (λ (not_before : b ≤ a). absurd (omega (arith, in_bucket_rises b a not_before, ap (λ (k : ℕ). k * per_bucket) same)))
      (cases_lt a b))
      (cases_lt (bucket_of b) (bucket_of a)))
      (cases_lt (bucket_of a) (bucket_of b))

-- how places compare by bucket and hash
less_first : (a b : ℕ) (r o : Ordering) → r ≡ nat_cmp a b → a < b → is_lt (ordering_then r o) ≡ true
less_first a b r o e h = grind (arith, ranked)

more_first : (a b : ℕ) (r o : Ordering) → r ≡ nat_cmp a b → b < a → is_lt (ordering_then r o) ≡ false
more_first a b r o e h = grind (arith, ranked)

less_then : (a b : ℕ) (r o : Ordering) → r ≡ nat_cmp a b → a ≡ b → is_lt o ≡ true → is_lt (ordering_then r o) ≡ true
less_then a b r o e h less = grind (arith, ranked)

more_then : (a b : ℕ) (r o : Ordering) → r ≡ nat_cmp a b → a ≡ b → is_lt o ≡ false → is_lt (ordering_then r o) ≡ false
more_then a b r o e h more = grind (arith, ranked)

-- an item of a chain in front comes before a place, and one of a chain behind does not
module _ (per_bucket : ℕ) (some : 0 < per_bucket) (table : ℕ) (key : List ℕ) (item : Held) where
  pub before_by_chain : chain_of per_bucket (item_hash item) < chain_of per_bucket (hash_of key) → comes_before (place_of table key) item ≡ true
  before_by_chain less =
      ⊎_elim
      (λ (bucket : item_bucket item < bucket_of (hash_of key)). less_first (item_bucket item) (bucket_of (hash_of key)) _ _ refl bucket)
      (λ (hash : (item_bucket item ≡ bucket_of (hash_of key)) × (item_hash item < hash_of key)).
      less_then (item_bucket item) (bucket_of (hash_of key)) _ _ refl hash.0 (less_first (item_hash item) (hash_of key) _ _ refl hash.1))
      (chain_less per_bucket some (item_hash item) (hash_of key) (hash_below item.key) (hash_below key) less)

  pub not_before_by_chain : chain_of per_bucket (hash_of key) < chain_of per_bucket (item_hash item) → comes_before (place_of table key) item ≡ false
  not_before_by_chain more =
      ⊎_elim
      (λ (bucket : bucket_of (hash_of key) < item_bucket item). more_first (item_bucket item) (bucket_of (hash_of key)) _ _ refl bucket)
      (λ (hash : (bucket_of (hash_of key) ≡ item_bucket item) × (hash_of key < item_hash item)).
      more_then (item_bucket item) (bucket_of (hash_of key)) _ _ refl (sym hash.0) (more_first (item_hash item) (hash_of key) _ _ refl hash.1))
      (chain_less per_bucket some (hash_of key) (item_hash item) (hash_below key) (hash_below item.key) more)
