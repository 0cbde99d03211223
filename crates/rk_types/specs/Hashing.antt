-- The hash of a key's bytes, and the lane and the bucket that it gives.
use Rattle.std.specs.Prelude.{ℕ, ◌*◌, ◌/◌, ◌%◌, ◌^◌, List, fold, bit_xor}
use Rattle.rk_types.specs.declared.hashing.TheConstants.{LANES, BUCKETS, HASH_START, HASH_PRIME}

-- 64-bit FNV-1a: each byte goes in by an exclusive or, and a product modulo 2^64 follows
unfoldable pub hash_of : List ℕ → ℕ
hash_of bytes = fold (λ hash byte. (bit_xor hash byte * HASH_PRIME) % 2 ^ 64) HASH_START bytes

-- the lane of a hash
abbrev pub lane_of : ℕ → ℕ
lane_of hash = hash % LANES

-- the bucket of a hash within its lane
abbrev pub bucket_of : ℕ → ℕ
bucket_of hash = (hash / LANES) % BUCKETS
