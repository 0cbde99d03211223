-- What is kept beside the records of a journal: with one record more, with one fewer, and once one is accepted.
use Rattle.std.proofs.Common.{◌≡◌, ℕ, ◌+◌, ◌-◌, max, false, cond, List, [], ◌∷◌, ◌++◌, arith}
use Rattle.std.specs.Prelude.{slice_get}
use Rattle.std.proofs.lemmas.List.Sums.{sum_by_push}
use Rattle.rk_types.specs.declared.history.Placed.{Placed}
use Rattle.rk_world.specs.Journal.{accepted_at, last_stamp}
use Rattle.rk_ledger.specs.declared.call_index.CallIndex.{CallIndex}
use Rattle.rk_ledger.specs.Noted.{IsCounted, IsIndex, IsKept, accepted_count}
use Rattle.rk_ledger.specs.Values.{record_bytes}
use Rattle.rk_ledger.proofs.Rising.{rising_accepted, rising_front, rising_push}
use Rattle.rk_ledger.proofs.Values.{bytes_accepted, bytes_push}

-- how many are accepted, with one more record
count_push : (records : List Placed) (placed : Placed) → accepted_count (records ++ placed ∷ []) ≡ accepted_count records + cond placed.accepted 1 0
count_push records placed = sum_by_push (λ (one : Placed). cond one.accepted 1 0) records placed

module _ (index new : CallIndex) (records : List Placed) where
  -- with one more record, which is not accepted, and whose stamp is above the last
  pub kept_pushed : (accepted bytes more seen : ℕ) (placed : Placed) → IsKept index accepted bytes records → IsIndex new (records ++ placed ∷ [])
      → placed.accepted ≡ false → more ≡ bytes + record_bytes placed → placed.stamp ≡ max (last_stamp records) seen + 1
      → IsKept new accepted more (records ++ placed ∷ [])
  kept_pushed accepted bytes more seen placed were now waits more_is stamp_is = grind (arith, count_push, bytes_push, rising_push)

  -- without the last one
  pub kept_popped : (accepted fewer bytes : ℕ) (placed : Placed) → IsKept index accepted bytes (records ++ placed ∷ []) → IsIndex new records
      → fewer ≡ cond placed.accepted (accepted - 1) accepted
      → IsKept new fewer (bytes - record_bytes placed) records
  kept_popped accepted fewer bytes placed were now fewer_is = grind (arith, count_push, bytes_push, rising_front)

  -- once one is accepted
  pub kept_accepted : (accepted more bytes place : ℕ) → IsKept index accepted bytes records
      → IsCounted new more (accepted_at records place (slice_get records place))
      → IsKept new more bytes (accepted_at records place (slice_get records place))
  kept_accepted accepted more bytes place were now = grind (arith, bytes_accepted, rising_accepted)
