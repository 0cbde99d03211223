-- Scans: how the items of a list in scan order are handed out in batches, from token to token. The list is that of the
-- live items of a range.
use Rattle.std.specs.Prelude.{ℕ, zero, suc, ◌-◌, ◌==◌, nat_lt, nat_le, if◌then◌else◌, List, [], ◌∷◌, ◌++◌, length, take, drop, filter, Option, Some, None}
use Rattle.std.specs.List.{last_or}
use Rattle.rk_types.specs.declared.hashing.TheConstants.{BUCKETS}
use Rattle.rk_types.specs.declared.held.Held.{Held}
use Rattle.rk_types.specs.declared.held.Token.{Token}
use Rattle.rk_types.specs.Held.{spelled_of}
use Rattle.rk_table.specs.Order.{item_bucket}

-- the items of the buckets before this one
abbrev pub before_bucket : ℕ → List Held → List Held
before_bucket bucket items = filter (λ item. nat_lt (item_bucket item) bucket) items

-- the items of this bucket
abbrev pub of_bucket : ℕ → List Held → List Held
of_bucket bucket items = filter (λ item. item_bucket item == bucket) items

-- the items of the buckets behind this one
abbrev pub behind_bucket : ℕ → List Held → List Held
behind_bucket bucket items = filter (λ item. nat_lt bucket (item_bucket item)) items

-- where a scan begins
abbrev pub first : Token
first = record { bucket = 0; skip = 0 }

-- where a scan ends
abbrev pub end : Token
end = record { bucket = BUCKETS; skip = 0 }

-- the items that a scan has passed at a token: all of the buckets before it, and the first ones of its bucket
abbrev pub passed : Token → List Held → List Held
passed token items = before_bucket token.bucket items ++ take token.skip (of_bucket token.bucket items)

-- the items that are left at a token: the others of its bucket, and all of the buckets behind it
abbrev pub left : Token → List Held → List Held
left token items = drop token.skip (of_bucket token.bucket items) ++ behind_bucket token.bucket items

-- the shortest first part whose entries have at least so many bytes, at least one item; all items if none has
abbrev pub batch_of : ℕ → List Held → List Held
batch_of limit [] = []
batch_of limit (item ∷ items) =
    item ∷ (if nat_le limit (spelled_of item) then [] else batch_of (limit - spelled_of item) items)

-- the batch that a scan hands out at a token
abbrev pub batch_at : Token → ℕ → List Held → List Held
batch_at token limit items = batch_of limit (left token items)

-- the items behind that batch
abbrev pub rest_at : Token → ℕ → List Held → List Held
rest_at token limit items = drop (length (batch_at token limit items)) (left token items)

-- the token behind an item, when so many items of its bucket are passed
abbrev pub token_of : Option Held → List Held → Token
token_of None done = first
token_of (Some item) done = record { bucket = item_bucket item; skip = length (of_bucket (item_bucket item) done) }

-- the token behind a first part of the items: the bucket of its last item, and how many items of that bucket it has
abbrev pub token_behind : List Held → Token
token_behind done = token_of (last_or None done) done

-- the token behind a batch: the end if nothing is left, and otherwise that behind all that is passed then
abbrev pub token_before : List Held → List Held → Token
token_before [] done = end
token_before (_ ∷ _) done = token_behind done

-- the token that a scan answers at a token
abbrev pub next_token : Token → ℕ → List Held → Token
next_token token limit items =
    token_before (rest_at token limit items) (passed token items ++ batch_at token limit items)

-- what so many scans hand out together, each at the token of the one before
abbrev pub scanned : ℕ → ℕ → Token → List Held → List Held
scanned limit zero token items = []
scanned limit (suc turns) token items =
    batch_at token limit items ++ scanned limit turns (next_token token limit items) items

-- the token after so many scans
abbrev pub token_after : ℕ → ℕ → Token → List Held → Token
token_after limit zero token items = token
token_after limit (suc turns) token items = token_after limit turns (next_token token limit items) items
