-- A target seals few side segments: each begins where an item does not fit the one before it, so two neighbours among those of a worker
-- have more bytes than a segment may have.
use Rattle.std.proofs.Common.{◌≡◌, ◌≤◌, ◌<◌, ◌+◌, ◌*◌, ℕ, false, List, [], ◌∷◌, ◌++◌, length, map, nat_le, sum, refl, arith}
use Rattle.std.proofs.Common.{length-append, sum_by}
use Rattle.rk_inv_base.proofs.Words.{cond_both, nat_tests, sum_by-append, sum_by-cons, spelled_of, Held, sealed_sides}
use Rattle.rk_types.specs.declared.held.TheConstants.{SEGMENT_BYTES}
use Rattle.rk_world.specs.SideLogs.{cut_items, with_side_item}
use Rattle.rk_inv_wellformed.proofs.bytes.PullBytes.{first_bytes, items_bytes, last_bytes as added_bytes, none_bytes}
use Rattle.rk_inv_wellformed.proofs.lanes.Ledgers.{kept_by_fold}
use Rattle.rk_inv_wellformed.proofs.masters.Sealing.{items_spelled}

-- ---- items

-- an item alone has its bytes
alone_bytes : (item : Held) → items_bytes (item ∷ []) ≡ spelled_of item
alone_bytes item = omega (arith, first_bytes item [], none_bytes)

-- if an item does not fit a segment, it and the items there have more bytes than a segment may have
beyond_segment : (items : List Held) (item : Held) → nat_le (sum (map spelled_of items) + spelled_of item) SEGMENT_BYTES ≡ false
    → SEGMENT_BYTES < items_bytes items + spelled_of item
beyond_segment items item is = grind (arith, spelled_of, items_spelled, nat_tests)

-- ---- the side segments of a worker

-- how many bytes the last one has
last_bytes : List (List Held) → ℕ
last_bytes [] = 0
last_bytes (items ∷ []) = items_bytes items
last_bytes (items ∷ next ∷ more) = last_bytes (next ∷ more)

-- they are few: the bytes that so many full segments have, with those of the last one, are at most twice the bytes of all. So it is but for
-- bytes of others, which count as less and as most
abbrev AreFew : ℕ → ℕ → List (List Held) → Type 0
AreFew less most pieces = SEGMENT_BYTES * length pieces + last_bytes pieces + less ≤ 2 * sum_by items_bytes pieces + most

-- there is one if an item was put
one_at_least : (pieces : List (List Held)) (item : Held) → 1 ≤ length (with_side_item pieces item)
one_at_least (items ∷ []) item = grind (arith, cond_both, nat_le, spelled_of)
one_at_least _ item = omega arith

-- the last one behind another one
last_behind : (items : List Held) (pieces : List (List Held)) → 1 ≤ length pieces → last_bytes (items ∷ pieces) ≡ last_bytes pieces
unfolding last_bytes
last_behind items [] some = absurd (omega (arith, some))
last_behind items (next ∷ more) some = refl

-- they are few with an item more
added_few : (less most : ℕ) (items : List Held) (pieces : List (List Held)) (item : Held) → AreFew less most (items ∷ pieces)
    → AreFew less most (with_side_item (items ∷ pieces) item)
unfolding last_bytes
added_few less most items [] item few =
    cond_both (nat_le (sum (map spelled_of items) + spelled_of item) SEGMENT_BYTES) ((items ++ item ∷ []) ∷ []) (items ∷ (item ∷ []) ∷ [])
    (AreFew less most)
    (λ fits.
    omega (
      arith,
      few,
      added_bytes items item,
      sum_by-cons items_bytes items [],
      sum_by-cons items_bytes (items ++ item ∷ []) [],
    ))
    (λ beyond.
    omega (
      arith,
      few,
      beyond_segment items item beyond,
      alone_bytes item,
      sum_by-cons items_bytes items [],
      sum_by-cons items_bytes items ((item ∷ []) ∷ []),
      sum_by-cons items_bytes (item ∷ []) [],
    ))
added_few less most items (next ∷ more) item few =
    let behind = with_side_item (next ∷ more) item in
    let others : AreFew (less + SEGMENT_BYTES) (most + 2 * items_bytes items) behind =
    added_few (less + SEGMENT_BYTES) (most + 2 * items_bytes items) next more item
    (omega (arith, few, sum_by-cons items_bytes items (next ∷ more))) in
    omega (
      arith,
      others,
      last_behind items behind (one_at_least (next ∷ more) item),
      sum_by-cons items_bytes items behind,
    )

-- also if it is the first one
put_few : (pieces : List (List Held)) (item : Held) → AreFew 0 SEGMENT_BYTES pieces → AreFew 0 SEGMENT_BYTES (with_side_item pieces item)
unfolding last_bytes
put_few [] item few = omega (arith, alone_bytes item, sum_by-cons items_bytes (item ∷ []) [])
put_few (items ∷ pieces) item few = added_few 0 SEGMENT_BYTES items pieces item few

-- the side segments of a worker are few
cut_few : (items : List Held) → SEGMENT_BYTES * length (cut_items items) ≤ 2 * sum_by items_bytes (cut_items items) + SEGMENT_BYTES
unfolding last_bytes
cut_few items =
    let few = kept_by_fold (AreFew 0 SEGMENT_BYTES) with_side_item put_few items [] (omega arith) in omega (arith, few)

-- ---- those of all workers

-- each worker has at most one more than twice its bytes fill
pub sealed_few : (sides : List (List Held))
    → SEGMENT_BYTES * length (sealed_sides sides) ≤ 2 * sum_by items_bytes (sealed_sides sides) + SEGMENT_BYTES * length sides
sealed_few [] = omega arith
sealed_few (side ∷ sides) = grind (arith, cut_few, length-append, sealed_sides, sum_by-append, items_bytes, (sealed_few sides))
