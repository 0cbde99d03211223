-- The definitions at worked examples, which were taken from outside: the keys `q`, `a`, `y` and `i`, each with a value
-- of one byte, so that its entry has 40 bytes.
use Rattle.std.proofs.Common.{◌≡◌, ℕ, List, [], ◌∷◌, refl}
use Rattle.std.specs.Prelude.{Some, None, codes}
use Rattle.rk_types.specs.declared.held.Held.{Held}
use Rattle.rk_types.specs.declared.held.Token.{Token}
use Rattle.rk_types.specs.Hashing.{hash_of}
use Rattle.rk_types.specs.Held.{spelled_of}
use Rattle.rk_table.specs.Items.{found, live_in, with_newer}
use Rattle.rk_table.specs.Order.{item_bucket}
use Rattle.rk_table.specs.Scans.{batch_at, end, first, left, next_token}

-- an item of table 1
abbrev pub item : List ℕ → ℕ → Held
item key version = record { table = 1; version = version; client = 1; seq = 1; key = key; value = Some (codes "x") }

-- a tombstone of table 1
abbrev pub tombstone : List ℕ → ℕ → Held
tombstone key version = record { table = 1; version = version; client = 1; seq = 2; key = key; value = None }

-- the four items in scan order
abbrev pub four : List Held
four = item (codes "q") 1 ∷ item (codes "a") 2 ∷ item (codes "y") 3 ∷ item (codes "i") 4 ∷ []

-- the token behind `y`
abbrev pub behind_y : Token
behind_y = record { bucket = 682; skip = 1 }

pub bucket_of-q : item_bucket (item (codes "q") 1) ≡ 247
unfolding hash_of
bucket_of-q = refl

-- a limit of 100 bytes takes three items, and the token is behind the third
pub batch_at-first : batch_at first 100 four ≡ item (codes "q") 1 ∷ item (codes "a") 2 ∷ item (codes "y") 3 ∷ []
unfolding hash_of spelled_of
batch_at-first = refl

pub next_token-first : next_token first 100 four ≡ behind_y
unfolding hash_of spelled_of
next_token-first = refl

-- from there the fourth is left, and then nothing
pub batch_at-behind_y : batch_at behind_y 100 four ≡ item (codes "i") 4 ∷ []
unfolding hash_of spelled_of
batch_at-behind_y = refl

pub next_token-behind_y : next_token behind_y 100 four ≡ end
unfolding hash_of spelled_of
next_token-behind_y = refl

-- a token in a bucket passes over that bucket's items alone
pub left-skips : left (record { bucket = 247; skip = 9 }) four ≡ item (codes "a") 2 ∷ item (codes "y") 3 ∷ item (codes "i") 4 ∷ []
unfolding hash_of
left-skips = refl

-- an item goes to its place, and a newer one takes the place of an older
pub with_newer-absent : with_newer (item (codes "a") 2) (item (codes "q") 1 ∷ item (codes "y") 3 ∷ []) ≡ item (codes "q") 1 ∷ item (codes "a") 2 ∷ item (codes "y") 3 ∷ []
unfolding hash_of
with_newer-absent = refl

pub with_newer-newer : with_newer (item (codes "a") 3) (item (codes "a") 1 ∷ []) ≡ item (codes "a") 3 ∷ []
unfolding hash_of
with_newer-newer = refl

pub with_newer-older : with_newer (item (codes "a") 2) (item (codes "a") 3 ∷ []) ≡ item (codes "a") 3 ∷ []
unfolding hash_of
with_newer-older = refl

-- a tombstone is found and is not live
pub found-tombstone : found 1 (codes "a") (tombstone (codes "a") 2 ∷ []) ≡ Some (tombstone (codes "a") 2)
unfolding hash_of
found-tombstone = refl

pub live_in-tombstone : live_in (record { table = 1; first = 0; last = 0xffffffffffffffff }) (item (codes "q") 1 ∷ tombstone (codes "a") 2 ∷ []) ≡ item (codes "q") 1 ∷ []
unfolding hash_of
live_in-tombstone = refl
