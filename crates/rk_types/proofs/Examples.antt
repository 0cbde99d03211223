-- The definitions at worked examples, which were taken from outside.
use Rattle.std.proofs.Common.{◌≡◌, [], true, false, refl}
use Rattle.std.specs.Prelude.{Some, None, codes}
use Rattle.rk_types.specs.declared.text.TextError.TheVariants.{Length, Byte}
use Rattle.rk_types.specs.Hashing.{hash_of, lane_of, bucket_of}
use Rattle.rk_types.specs.Text.{key_fault, value_fault}
use Rattle.rk_types.specs.Held.{spelled_of}
use Rattle.rk_types.specs.Range.{meets}

-- the hash of `a`, and its lane and bucket
pub hash_of-a : hash_of (codes "a") ≡ 0xaf63dc4c8601ec8c
unfolding hash_of
hash_of-a = refl

pub lane_of-a : lane_of 0xaf63dc4c8601ec8c ≡ 4
lane_of-a = refl

pub bucket_of-a : bucket_of 0xaf63dc4c8601ec8c ≡ 401
bucket_of-a = refl

-- a key has a byte at least, and no blank
pub key_fault-empty : key_fault [] ≡ Some (Length 0)
key_fault-empty = refl

pub key_fault-blank : key_fault (codes "a b") ≡ Some (Byte 1)
key_fault-blank = refl

pub key_fault-none : key_fault (codes "a") ≡ None
key_fault-none = refl

-- a value may be empty
pub value_fault-empty : value_fault [] ≡ None
value_fault-empty = refl

-- the entry of a put of `a` with value `x` has 40 bytes, and its tombstone 35
pub spelled_of-put : spelled_of (record { table = 1; version = 1; client = 1; seq = 1; key = codes "a"; value = Some (codes "x") }) ≡ 40
unfolding spelled_of
spelled_of-put = refl

pub spelled_of-tombstone : spelled_of (record { table = 1; version = 2; client = 1; seq = 2; key = codes "a"; value = None }) ≡ 35
unfolding spelled_of
spelled_of-tombstone = refl

-- two ranges that share one hash meet; ranges of two tables do not
pub meets-end : meets (record { table = 1; first = 0; last = 9 }) (record { table = 1; first = 9; last = 20 }) ≡ true
meets-end = refl

pub meets-tables : meets (record { table = 1; first = 0; last = 9 }) (record { table = 2; first = 0; last = 9 }) ≡ false
meets-tables = refl
