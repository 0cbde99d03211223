-- What a scan answers, by its walk over the chains from its token's bucket on.
use Rattle.rk_bucket_table.proofs.Words.{◌≡◌, ℕ, ◌*◌, ◌<◌, ◌≤◌, true, false, List, ◌++◌, length, drop, sym, ap, ◌∙◌, subst, arith}
use Rattle.rk_bucket_table.proofs.Words.{AllByRecursion, list_any, filter-append, Held, Token, Range, IsInScanOrder, item_bucket, item_cmp}
use Rattle.rk_bucket_table.proofs.Words.{item_hash, is_live_in, live_in, batch_at, next_token, passed, rest_at, token_behind, Rises}
use Rattle.rk_bucket_table.proofs.Words.{AreChains, Cells, IsTable, items_in, joined, IsFrom}
use Rattle.std.proofs.lemmas.List.Kept.{IsStrictlySortedBy-filter}
use Rattle.std.proofs.lemmas.Nat.{mul-le}
use Rattle.rk_types.specs.declared.hashing.TheConstants.{BUCKETS}
use Rattle.rk_table.specs.Scans.{end}
use Rattle.rk_table.proofs.InOrder.{rises_in_order}
use Rattle.rk_bucket_table.proofs.Numbers.{bucket_from, hash_below}
use Rattle.rk_bucket_table.proofs.Tables.{IsFromOn, all_weaker}
use Rattle.rk_bucket_table.proofs.Scanning.{all_filter, any_none, any_some, back_from, back_items, back_order, batch_same, chains_from, front_below, front_items, items_from, next_end, next_more, two_items}

module _ (per_bucket : ℕ) (heads : List ℕ) (cells : Cells) (chains : List (List Held)) (table : IsTable per_bucket heads cells chains)
    (bucket least first : ℕ) (low : least ≤ bucket) (most : least ≤ BUCKETS) (up : (other : ℕ) → least ≤ other → other < BUCKETS → bucket ≤ other)
    (first_is : first ≡ least * per_bucket) where
  pub first_within : first ≤ length heads
  first_within = omega (arith, first_is, table.count.whole, mul-le least per_bucket BUCKETS per_bucket most (omega arith))

  abbrev pub ahead : List Held
  ahead = front_items per_bucket heads cells chains table first first_within

  abbrev pub onward : List Held
  onward = back_items per_bucket heads cells chains table first first_within

  pub onward_chains : (slice : List ℕ) → slice ≡ drop first heads → AreChains slice cells
  onward_chains slice is = subst (λ (l : List ℕ). AreChains l cells) (sym is) (chains_from per_bucket heads cells chains table first first_within)

  pub onward_is : (slice : List ℕ) → slice ≡ drop first heads → items_in slice cells ≡ onward
  onward_is slice is = ap (λ (l : List ℕ). items_in l cells) is ∙ items_from per_bucket heads cells chains table first first_within

  pub onward_order : IsInScanOrder onward
  onward_order = back_order per_bucket heads cells chains table first first_within

  pub onward_from : IsFrom bucket onward
  onward_from =
      all_weaker (IsFromOn per_bucket first) (λ item. bucket ≤ item_bucket item)
      (λ item high.
      up (item_bucket item) (bucket_from per_bucket table.count.some least (item_hash item) (hash_below item.key) (omega (arith, first_is)))
      (omega arith))
      onward (back_from per_bucket heads cells chains table first first_within)

  ahead_less : AllByRecursion (λ item. item_bucket item < bucket) ahead
  ahead_less = grind (arith, all_weaker, item_bucket, item_hash, front_below, first_within, mul-le)

  module _ (range : Range) (from : Token) (limit : ℕ) (its : from.bucket ≡ bucket) where
    live_two : live_in range (joined chains) ≡ live_in range ahead ++ live_in range onward
    live_two =
        ap (live_in range) (two_items per_bucket heads cells chains table first first_within)
        ∙ filter-append (is_live_in range) ahead onward

    live_lesser : AllByRecursion (λ item. item_bucket item < from.bucket) (live_in range ahead)
    live_lesser =
        all_filter (is_live_in range) (λ item. item_bucket item < from.bucket) ahead
        (subst (λ (b : ℕ). AllByRecursion (λ item. item_bucket item < b) ahead) (sym its) ahead_less)

    live_there : IsFrom from.bucket (live_in range onward)
    live_there =
        all_filter (is_live_in range) (λ item. from.bucket ≤ item_bucket item) onward
        (subst (λ (b : ℕ). IsFrom b onward) (sym its) onward_from)

    live_rises : Rises item_bucket (live_in range ahead ++ live_in range onward)
    live_rises =
        subst (Rises item_bucket) live_two
        (rises_in_order (live_in range (joined chains)) (IsStrictlySortedBy-filter item_cmp (is_live_in range) (joined chains) table.order))

    pub scan_batch : batch_at from limit (live_in range onward) ≡ batch_at from limit (live_in range (joined chains))
    scan_batch =
        sym (batch_same from limit (live_in range ahead) (live_in range onward) live_lesser live_there live_rises)
        ∙ ap (batch_at from limit) (sym live_two)

    module _ (items : List Held) (left : live_in range items ≡ rest_at from limit (live_in range onward)) where
      pub scan_more : (token : Token) → list_any (is_live_in range) items ≡ true
          → (0 < length (batch_at from limit (live_in range onward))
          → token ≡ token_behind (passed from (live_in range onward) ++ batch_at from limit (live_in range onward)))
          → token ≡ next_token from limit (live_in range (joined chains))
      scan_more token some is =
          let more : 0 < length (live_in range items) = any_some (is_live_in range) items some in
          next_more from limit (live_in range ahead) (live_in range onward) live_lesser live_there live_rises token
          (omega (arith, ap length left)) is
          ∙ ap (next_token from limit) (sym live_two)

      pub scan_end : list_any (is_live_in range) items ≡ false → end ≡ next_token from limit (live_in range (joined chains))
      scan_end none =
          next_end from limit (live_in range ahead) (live_in range onward) live_lesser live_there live_rises
          (sym left ∙ any_none (is_live_in range) items none)
          ∙ ap (next_token from limit) (sym live_two)
