-- The backups of a lane that report what they store are its own from the start on, whatever happens; and all report if all did.
use Rattle.std.proofs.Common.{All, arith, leb-true, nat_le, suc, zero, ℕ, ◌+◌, ◌≤◌}
use Rattle.rk_inv_base.proofs.Words.{All-cons, All-nil, Called, Event, NumberMap, Segments, World, and_parts, insert}
use Rattle.rk_inv_base.proofs.Words.{range_with_len, refusal, stepped_by, world_stepped}
use Rattle.rk_world.specs.Runs.{Accepts, Asks, Happening, Happens, after}
use Rattle.rk_inv_wellformed.proofs.maps.Lists.{by_found}
use Rattle.rk_inv_lanes.proofs.lanes.Events.{Covers, MayStore, event_covered}
use Rattle.rk_inv_lanes.proofs.lanes.Visits.{accept_covered, ask_covered}
use Rattle.rk_inv_lanes.specs.stands.Backups.{IsNumbered}

-- ---- who reports

-- numbers that rise by one
pub range_numbered : (count first size : ℕ) → 1 ≤ first → first + size ≤ 1 + count → All (IsNumbered count) (range_with_len first size)
range_numbered count first zero some few = All-nil (IsNumbered count)
range_numbered count first (suc size) some few =
    All-cons (IsNumbered count) first (range_with_len (first + 1) size) (record { first = some; last = omega (arith, few) })
    (range_numbered count (first + 1) size (omega arith) (omega (arith, few)))

-- ---- whatever happens

-- what holds of the backups that report goes on when a backup of the lane stores something
abbrev GoesOnStored : (ℕ → NumberMap Segments → Type 0) → Type 0
GoesOnStored P =
    (count : ℕ) (backups : NumberMap Segments) (backup : ℕ) (segments : Segments) → IsNumbered count backup → P count backups
    → P count (insert backups backup segments)

module _ (P : ℕ → NumberMap Segments → Type 0) (stores : GoesOnStored P) (w : World) (holds : P w.backup_count w.backups) where
  abbrev Holds : World → Type 0
  Holds v = P v.backup_count v.backups

  may_store : (backups : NumberMap Segments) → MayStore w backups → P w.backup_count backups
  may_store backups = grind (arith, and_parts, nat_le, leb-true)

  covers : (event : Event) (called : Called) → Covers Holds w event called
  covers event called = grind (arith, may_store)

  -- so it goes on in whatever happens
  pub goes_on : (happening : Happening) → P (after w happening).backup_count (after w happening).backups
  goes_on (Happens event called) = by_found (λ refused. Holds (world_stepped w (stepped_by w event called refused))) (refusal w event)
      (λ none. event_covered (covers event called)) (λ error is. holds)
  goes_on (Asks session) = ask_covered Holds w session holds (λ call turned out. holds)
  goes_on (Accepts number session) = accept_covered Holds w session holds number (λ body. holds)
